-- One more definition or header.
use Rattle.std.proofs.Common.{◌≡◌, ℕ, List, Option, Result, Ok, refl, sym, subst}
use Rattle.std.specs.Prelude.{OnOk}
use Rattle.idl_tokens.specs.Tokens.{Toks}
use Rattle.idl_grammar.specs.declared.fault.LineFault.{LineFault}
use Rattle.exact_reading.specs.declared.stop.ReadError.{ReadError}
use Rattle.exact_reading.specs.declared.stop.ReadError.TheVariants as errors
use Rattle.exact_reading.specs.Reading.{Fails}
use Rattle.idl_grammar.specs.Run.{run}
use Rattle.idl_profile.specs.Meaning as m
use Rattle.idl_profile.specs.Judged as j
use Rattle.idl_profile.specs.Text.{Item, item, definition, with_item, with_struct}
use Rattle.idl_definitions.specs.declared.items.Begin.{Begin}
use Rattle.idl_definitions.specs.Items.{begins}

pub item_ok : (scope : m.Scope) (b : j.Begin) (ts : Toks) (i : Item) (mid : Toks) → run (item scope b) ts ≡ Ok (i, mid) → run (definition scope b) ts ≡ Ok (with_item scope i, mid)
item_ok scope b ts i mid e = rw e refl

pub item_breaks : (scope : m.Scope) (b : j.Begin) (ts : Toks) (d : ReadError LineFault) → Fails d (run (item scope b) ts) → Fails d (run (definition scope b) ts)
item_breaks scope b ts errors.NoMemory h = tt
item_breaks scope b ts (errors.Stop d) h = rw h refl

abbrev pub begin_is : Option Begin → Result (Option j.Begin) LineFault
begin_is o = Ok (begins o)

pub at_item : (r : Result (Unit {0}) (ReadError LineFault)) (x s : m.Scope) (i j : Item) → i ≡ j → OnOk r (x ≡ with_item s j) → OnOk r (x ≡ with_item s i)
at_item r x s i j e h = subst (λ (z : Item). OnOk r (x ≡ with_item s z)) (sym e) h

pub at_fields : (r : Result (Unit {0}) (ReadError LineFault)) (x s : m.Scope) (w : List ℕ) (fs gs : List m.MeantField) → fs ≡ gs → OnOk r (x ≡ with_struct s w fs) → OnOk r (x ≡ with_struct s w gs)
at_fields r x s w fs gs e h = subst (λ (z : List m.MeantField). OnOk r (x ≡ with_struct s w z)) e h
