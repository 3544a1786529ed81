-- First places when a name is added.
use Rattle.std.proofs.Common.{◌≡◌, ℕ, true, List, [], ◌∷◌, ◌++◌, length, sym, ap, subst, ◌∙◌, ⊎_elim}
use Rattle.std.specs.Prelude.{Some, None, is_some}
use Rattle.std.specs.Str.{bytes_eq}
use Rattle.std.specs.BTreeMap.{BTreeMap, UpdatesBy, get_by_text}
use Rattle.std.specs.Cmp.Lexicographic.{slice_cmp}
use Rattle.std.specs.Map.{update}
use Rattle.std.specs.Ordering.{nat_cmp}
use Rattle.std.specs.String.{string_bytes, string_cmp}
use Rattle.std.specs.declared.string.String.{String}
use Rattle.std.proofs.lemmas.Bool.{cases_Bool}
use Rattle.std.proofs.lemmas.Map.Text.{btree_map_updates_text}
use Rattle.std.proofs.lemmas.Slice.Eq.{bytes_eq-Decides}
use Rattle.name_index.specs.Names.{first_place}
use Rattle.name_index.proofs.Places.{kept-push, new-push, other-push}

-- a name that has stood changes no first place
pub stood : (names : List (List ℕ)) (name : List ℕ) → is_some (first_place names name) ≡ true → (q : List ℕ) → first_place names q ≡ first_place (names ++ name ∷ []) q
stood names name s q =
    ⊎_elim
    (λ y. subst (λ l. first_place names l ≡ first_place (names ++ name ∷ []) l) ((bytes_eq-Decides name q).0 y) (sym (kept-push (λ n. bytes_eq n name) names name s)))
    (λ f. sym (other-push (λ n. bytes_eq n q) names name f))
    (cases_Bool (bytes_eq name q))

-- a new name is entered with the number of names before it
pub entered : {Y : Type 0} (key : String Y) (m n : BTreeMap (String Y) ℕ) (names : List (List ℕ)) (name : List ℕ) (count : ℕ) → string_bytes key ≡ name → count ≡ length names
    → ((q : List ℕ) → get_by_text m q ≡ first_place names q) → first_place names name ≡ None
    → UpdatesBy string_cmp (λ k. slice_cmp nat_cmp (string_bytes key) (string_bytes k)) m n (Some count) → (q : List ℕ) → get_by_text n q ≡ first_place (names ++ name ∷ []) q
entered key m n names name count is long h none u q =
    btree_map_updates_text (string_bytes key) m n (Some count) u q
    ∙ ap (λ l. update bytes_eq (get_by_text m) l (Some count) q) is
    ∙ ⊎_elim
    (λ y. let e = (bytes_eq-Decides name q).0 y in
    rw y (ap Some long ∙ sym (new-push (λ x. bytes_eq x q) names name (ap (first_place names) (sym e) ∙ none) y)))
    (λ f. rw f (h q ∙ sym (other-push (λ x. bytes_eq x q) names name f)))
    (cases_Bool (bytes_eq name q))
