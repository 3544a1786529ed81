-- What definition texts are, and the faults of other texts.
use Rattle.std.specs.Prelude.{◌≡◌, Bool, true, false, List, [], ◌∷◌, Result, Ok, Err}
use Rattle.idl_grammar.specs.declared.fault.LineFault.{LineFault}
use Rattle.idl_tokens.specs.Tokens.{Toks}
use Rattle.idl_grammar.specs.Grammar.{Spells, Faulty}
use Rattle.idl_profile.specs.Meaning as m
use Rattle.idl_profile.specs.Text.{whole}

abbrev pub has_struct : List m.MeantNamed → Bool
has_struct [] = false
has_struct (m.struct_of w fs ∷ ns) = true
has_struct (_ ∷ ns) = has_struct ns

-- The tokens spell the definition, up to the token that ends the text.
pub record DefTokens (ts : Toks) (d : List m.MeantNamed) : Type 0 where
  pub scope : m.Scope
  pub rest : Toks
  pub spells : Spells whole scope ts rest
  pub means : d ≡ scope.named
  pub root : has_struct d ≡ true

-- the first faulty token
abbrev pub FaultAt : Toks → LineFault → Type 0
FaultAt ts e = Faulty whole ts e

-- no fault at any token, and no struct
pub record NoStruct (ts : Toks) : Type 0 where
  pub scope : m.Scope
  pub rest : Toks
  pub spells : Spells whole scope ts rest
  pub root : has_struct scope.named ≡ false

-- what is answered for a text
pub data Answer : Type 0 where
  means : List m.MeantNamed → Answer
  fault : LineFault → Answer
  no_root : Answer

-- the cause of an answer
abbrev pub Causes : Toks → Answer → Type 0
Causes ts (means d) = DefTokens ts d
Causes ts (fault e) = FaultAt ts e
Causes ts no_root = NoStruct ts

-- what reading gives, as an answer
abbrev pub rooted : List m.MeantNamed → Bool → Answer
rooted d true = means d
rooted d false = no_root

abbrev pub answer : Result (m.Scope × Toks) LineFault → Answer
answer (Ok p) = rooted p.0.named (has_struct p.0.named)
answer (Err e) = fault e
