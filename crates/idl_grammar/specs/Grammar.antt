-- Grammars over tokens: what a grammar's texts are, what they mean, and where the first fault of other texts stands.
use Rattle.std.specs.Prelude.{◌≡◌, ◌⊎◌, ℕ, [], ◌∷◌, Result, Ok, Err}
use Rattle.idl_grammar.specs.declared.fault.Fault.{Fault}
use Rattle.idl_grammar.specs.declared.fault.Fault.TheVariants.{Syntax}
use Rattle.idl_grammar.specs.declared.fault.LineFault.{LineFault}
use Rattle.idl_tokens.specs.Tokens.{Tok, finish, Spot, Toks}

-- what the next token says where something may stand any number of times
pub data Turn (B : Type 0) : Type 0 where
  -- none stands there any more; the token is not taken
  leave : Turn B
  -- the token begins another
  enter : B → Turn B
  wrong : Fault → Turn B

-- A grammar whose texts mean an A.
pub data Grammar : Type 0 → Type 1 where
  -- no token
  give : {A : Type 0} → A → Grammar A
  -- one token, with what each one means or has against it
  token : {A : Type 0} → (Tok → Result A Fault) → Grammar A
  -- one text after another; what may follow depends on what the first means
  next : {A B : Type 0} → Grammar A → (A → Grammar B) → Grammar B
  -- one of several, by the next token
  look : {A : Type 0} → (Tok → Grammar A) → Grammar A
  -- any number, by the first token of each and the one after it, and with what they mean so far
  loop : {S B : Type 0} → (S → Tok → Tok → Turn B) → (S → B → Grammar S) → S → Grammar S

abbrev pub line_fault : Fault → ℕ → LineFault
line_fault f n = record { fault = f; line = n }

abbrev pub first : Toks → Tok
first [] = finish
first (t ∷ ts) = t.token

-- Any number of turns.
pub data Turns {S B : Type 0} (turn : S → Tok → Tok → Turn B) (Body : S → B → S → Toks → Toks → Type 0) : S → S → Toks → Toks → Type 0 where
  done : (s : S) (t : Spot) (ts : Toks) → turn s t.token (first ts) ≡ leave → Turns turn Body s s (t ∷ ts) (t ∷ ts)
  more : (s m e : S) (b : B) (t : Spot) (ts mid rest : Toks) → turn s t.token (first ts) ≡ enter b → Body s b m ts mid → Turns turn Body m e mid rest → Turns turn Body s e (t ∷ ts) rest

-- Tokens ts begin with a text of the grammar which means x, and the tokens rest are left.
abbrev pub Spells : {A : Type 0} → Grammar A → A → Toks → Toks → Type 0
Spells (give y) x ts rest = (y ≡ x) × (ts ≡ rest)
Spells (token v) x [] rest = ⊥
Spells (token v) x (t ∷ ts) rest = (v t.token ≡ Ok x) × (ts ≡ rest)
Spells (next g f) x ts rest = (y : _) × (mid : Toks) × Spells g y ts mid × Spells (f y) x mid rest
Spells (look f) x [] rest = ⊥
Spells (look f) x (t ∷ ts) rest = Spells (f t.token) x (t ∷ ts) rest
Spells (loop turn g s) x ts rest = Turns turn (λ m b e. Spells (g m b) e) s x ts rest

-- A fault in some turn.
pub data FaultyTurns {S B : Type 0} (turn : S → Tok → Tok → Turn B) (Body : S → B → S → Toks → Toks → Type 0) (Wrong : S → B → Toks → LineFault → Type 0) : S → Toks → LineFault → Type 0 where
  ended : (s : S) → FaultyTurns turn Body Wrong s [] (line_fault Syntax 0)
  at_turn : (s : S) (t : Spot) (ts : Toks) (f : Fault) → turn s t.token (first ts) ≡ wrong f → FaultyTurns turn Body Wrong s (t ∷ ts) (line_fault f t.line)
  inside : (s : S) (b : B) (t : Spot) (ts : Toks) (e : LineFault) → turn s t.token (first ts) ≡ enter b → Wrong s b ts e → FaultyTurns turn Body Wrong s (t ∷ ts) e
  later : (s m : S) (b : B) (t : Spot) (ts mid : Toks) (e : LineFault) → turn s t.token (first ts) ≡ enter b → Body s b m ts mid → FaultyTurns turn Body Wrong m mid e → FaultyTurns turn Body Wrong s (t ∷ ts) e

-- The first token of ts that the grammar has something against: what, and the token's line. Where all tokens are taken and one more is wanted, the line is 0.
abbrev pub Faulty : {A : Type 0} → Grammar A → Toks → LineFault → Type 0
Faulty (give y) ts e = ⊥
Faulty (token v) [] e = e ≡ line_fault Syntax 0
Faulty (token v) (t ∷ ts) e = (f : Fault) × (v t.token ≡ Err f) × (e ≡ line_fault f t.line)
Faulty (next g f) ts e = Faulty g ts e ⊎ ((y : _) × (mid : Toks) × Spells g y ts mid × Faulty (f y) mid e)
Faulty (look f) [] e = e ≡ line_fault Syntax 0
Faulty (look f) (t ∷ ts) e = Faulty (f t.token) (t ∷ ts) e
Faulty (loop turn g s) ts e = FaultyTurns turn (λ m b x. Spells (g m b) x) (λ m b. Faulty (g m b)) s ts e
