-- One more field.
use Rattle.std.proofs.Common.{◌≡◌, ℕ, List, [], ◌∷◌, ◌++◌, Result, Ok, refl, ap}
use Rattle.std.specs.Prelude.{ℤ, Option, option_map}
use Rattle.idl_fields.specs.declared.draft.Id.{Id}
use Rattle.idl_grammar.specs.declared.fault.LineFault.{LineFault}
use Rattle.exact_reading.specs.declared.stop.ReadError.{ReadError}
use Rattle.exact_reading.specs.declared.stop.ReadError.TheVariants as errors
use Rattle.idl_fields.specs.declared.draft.WrittenField.{WrittenField}
use Rattle.idl_tokens.specs.Tokens.{Toks}
use Rattle.exact_reading.specs.Reading.{Fails}
use Rattle.idl_grammar.specs.Run.{run}
use Rattle.idl_profile.specs.Meaning as m
use Rattle.idl_profile.specs.Text.{field, one_field, added}
use Rattle.idl_fields.specs.View.{written_field, written_fields}

pub one_ok : (scope : m.Scope) (fs : List m.MeantField) (id : ℤ) (ts : Toks) (f : m.MeantField) (mid : Toks) → run (field scope fs id) ts ≡ Ok (f, mid) → run (one_field scope fs id) ts ≡ Ok (added fs f, mid)
one_ok scope fs id ts f mid e = rw e refl

pub one_breaks : (scope : m.Scope) (fs : List m.MeantField) (id : ℤ) (ts : Toks) (d : ReadError LineFault) → Fails d (run (field scope fs id) ts) → Fails d (run (one_field scope fs id) ts)
one_breaks scope fs id ts errors.NoMemory h = tt
one_breaks scope fs id ts (errors.Stop d) h = rw h refl

pub fields_push : (text : List ℕ) (es : List m.Entry) (xs : List WrittenField) (f : WrittenField) → written_fields text es (xs ++ f ∷ []) ≡ added (written_fields text es xs) (written_field text es f)
fields_push text es [] f = refl
fields_push text es (x ∷ xs) f = ap (λ (z : List m.MeantField). written_field text es x ∷ z) (fields_push text es xs f)

abbrev pub id_is : Option Id → Result (Option ℤ) LineFault
id_is o = Ok (option_map (λ i. i.id) o)
