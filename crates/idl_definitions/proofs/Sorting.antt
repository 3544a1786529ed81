-- Fields by rising id, by the code's fields and as they are meant.
use Rattle.std.proofs.Common.{◌≡◌, ℕ, Bool, true, false, if◌then◌else◌, List, [], ◌∷◌, refl, ap, ◌∙◌}
use Rattle.std.specs.Prelude.{ℤ, int_lt}
use Rattle.idl_fields.specs.declared.draft.WrittenField.{WrittenField}
use Rattle.idl_profile.specs.Meaning as m
use Rattle.idl_profile.specs.Text.{insert, by_id}
use Rattle.idl_fields.specs.View.{written_field, written_fields}
use Rattle.base_lists.specs.InOrder.{insert_by, in_order}

abbrev pub id_of : WrittenField → ℤ
id_of f = f.id.id

insert-is : (text : List ℕ) (es : List m.Entry) (f : WrittenField) (gs : List WrittenField) → written_fields text es (insert_by int_lt id_of f gs) ≡ insert (written_field text es f) (written_fields text es gs)
insert-is text es f [] = refl
insert-is text es f (g ∷ gs) = by_test (insert-is text es f gs) (int_lt g.id.id f.id.id)
  where
    by_test : written_fields text es (insert_by int_lt id_of f gs) ≡ insert (written_field text es f) (written_fields text es gs) → (b : Bool)
        → written_fields text es (if b then g ∷ insert_by int_lt id_of f gs else f ∷ g ∷ gs) ≡ (if b then written_field text es g ∷ insert (written_field text es f) (written_fields text es gs) else written_field text es f ∷ written_field text es g ∷ written_fields text es gs)
    by_test e true = ap (λ (z : List m.MeantField). written_field text es g ∷ z) e
    by_test e false = refl

pub insertion-is : (text : List ℕ) (es : List m.Entry) (fs : List WrittenField) → written_fields text es (in_order int_lt id_of fs) ≡ by_id (written_fields text es fs)
insertion-is text es [] = refl
insertion-is text es (f ∷ fs) = insert-is text es f (in_order int_lt id_of fs) ∙ ap (insert (written_field text es f)) (insertion-is text es fs)
