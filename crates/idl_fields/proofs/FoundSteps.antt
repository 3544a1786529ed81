-- One more name and id.
use Rattle.std.proofs.Common.{◌≡◌, ℕ, Bool, true, false, cond, ◌||◌, List, [], ◌∷◌, ◌++◌, refl, sym, ap, subst, ◌∙◌}
use Rattle.std.specs.Prelude.{ℤ}
use Rattle.std.specs.Ordering.{int_eq}
use Rattle.std.specs.List.{list_any}
use Rattle.name_index.specs.declared.index.NameIndex.{NameIndex}
use Rattle.name_index.specs.Names.{Indexes}
use Rattle.base_lists.specs.Spans.{text_at}
use Rattle.idl_fields.specs.declared.draft.WrittenField.{WrittenField}
use Rattle.idl_profile.specs.Meaning.{Entry}
use Rattle.idl_profile.specs.Judged.{field_names, ids}
use Rattle.idl_fields.specs.View.{written_fields}

one_name : (text : List ℕ) (es : List Entry) (xs : List WrittenField) (x : WrittenField) → field_names (written_fields text es xs) ++ text_at text x.name ∷ [] ≡ field_names (written_fields text es (xs ++ x ∷ []))
one_name text es [] x = refl
one_name text es (y ∷ xs) x = ap (λ (z : List (List ℕ)). text_at text y.name ∷ z) (one_name text es xs x)

pub names_push : (text name : List ℕ) (es : List Entry) (index : NameIndex) (xs ys : List WrittenField) (x : WrittenField) → name ≡ text_at text x.name → ys ≡ xs ++ x ∷ [] → Indexes index (field_names (written_fields text es xs) ++ name ∷ [])
    → Indexes index (field_names (written_fields text es ys))
names_push text name es index xs ys x is more h =
    subst (Indexes index) (ap (λ (n : List ℕ). field_names (written_fields text es xs) ++ n ∷ []) is ∙ one_name text es xs x ∙ ap (λ (z : List WrittenField). field_names (written_fields text es z)) (sym more)) h

has : List ℕ → List Entry → ℤ → List WrittenField → Bool
has text es z xs = list_any (λ i. int_eq i z) (ids (written_fields text es xs))

alone : (b : Bool) → (b || false) ≡ cond b true false
alone true = refl
alone false = refl

passed : (a b r : Bool) → (a || cond b true r) ≡ cond b true (a || r)
passed true true r = refl
passed true false r = refl
passed false true r = refl
passed false false r = refl

one_id : (text : List ℕ) (es : List Entry) (z : ℤ) (xs : List WrittenField) (x : WrittenField) → has text es z (xs ++ x ∷ []) ≡ cond (int_eq x.id.id z) true (has text es z xs)
unfolding has
one_id text es z [] x = alone (int_eq x.id.id z)
one_id text es z (y ∷ xs) x = ap (λ v. int_eq y.id.id z || v) (one_id text es z xs x) ∙ passed (int_eq y.id.id z) (int_eq x.id.id z) (has text es z xs)

pub ids_push : (text : List ℕ) (es : List Entry) (z : ℤ) (xs ys : List WrittenField) (x : WrittenField) (was now : Bool) → ys ≡ xs ++ x ∷ [] → was ≡ list_any (λ i. int_eq i z) (ids (written_fields text es xs)) → now ≡ cond (int_eq x.id.id z) true was
    → now ≡ list_any (λ i. int_eq i z) (ids (written_fields text es ys))
unfolding has
ids_push text es z xs ys x was now more e f = f ∙ ap (cond (int_eq x.id.id z) true) e ∙ sym (one_id text es z xs x) ∙ ap (has text es z) (sym more)
