-- Reading by a grammar, from left to right.
use Rattle.std.specs.Prelude.{◌≡◌, ℕ, zero, suc, [], ◌∷◌, length, Option, Some, None, Result, Ok, Err}
use Rattle.idl_grammar.specs.declared.fault.Fault.{Fault}
use Rattle.idl_grammar.specs.declared.fault.Fault.TheVariants.{Syntax}
use Rattle.idl_grammar.specs.declared.fault.LineFault.{LineFault}
use Rattle.idl_tokens.specs.Tokens.{Tok, Spot, Toks}
use Rattle.exact_reading.specs.Reading.{Read, ◌>>=◌}
use Rattle.idl_grammar.specs.Grammar.{Turn, leave, enter, wrong, Grammar, give, token, next, look, loop, line_fault, first}

abbrev pub TokenReader : Type 0 → Type 0
TokenReader A = Read Spot A LineFault

abbrev pub judged : {A : Type 0} → Result A Fault → Spot → Toks → Result (A × Toks) LineFault
judged (Ok x) t ts = Ok (x, ts)
judged (Err f) t ts = Err (line_fault f t.line)

abbrev pub one : {A : Type 0} → (Tok → Result A Fault) → TokenReader A
one v [] = Err (line_fault Syntax 0)
one v (t ∷ ts) = judged (v t.token) t ts

abbrev pub turned : {S B : Type 0} → Turn B → (B → TokenReader S) → S → Spot → Toks → Result (S × Toks) LineFault
turned leave body s t ts = Ok (s, t ∷ ts)
turned (enter b) body s t ts = body b ts
turned (wrong f) body s t ts = Err (line_fault f t.line)

-- what the next token says of another turn; None leaves
abbrev pub outcome : {B : Type 0} → Turn B → Spot → Result (Option B) LineFault
outcome leave t = Ok None
outcome (enter b) t = Ok (Some b)
outcome (wrong f) t = Err (line_fault f t.line)

abbrev pub turns : {S B : Type 0} → (S → Tok → Tok → Turn B) → (S → B → TokenReader S) → ℕ → S → TokenReader S
turns turn body zero s ts = Err (line_fault Syntax 0)
turns turn body (suc n) s [] = Err (line_fault Syntax 0)
turns turn body (suc n) s (t ∷ ts) = turned (turn s t.token (first ts)) (λ b us. body s b us >>= λ p. turns turn body n p.0 p.1) s t ts

abbrev pub run : {A : Type 0} → Grammar A → TokenReader A
run (give x) ts = Ok (x, ts)
run (token v) ts = one v ts
run (next g f) ts = run g ts >>= λ p. run (f p.0) p.1
run (look f) [] = Err (line_fault Syntax 0)
run (look f) (t ∷ ts) = run (f t.token) (t ∷ ts)
run (loop turn g s) ts = turns turn (λ m b. run (g m b)) (suc (length ts)) s ts
