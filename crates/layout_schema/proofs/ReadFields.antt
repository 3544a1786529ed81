-- The fields of children, child by child.
use Rattle.std.proofs.Common.{◌≡◌, ◌≢◌, ◌⊎◌, inl, inr, ℕ, suc, ◌+◌, ◌<◌, Bool, true, false, ◌&&◌, eqb, sym, w64, List, [], ◌∷◌, drop, length, get_or, Some, refl, ap, ◌∙◌, arith, w16}
use Rattle.std.specs.Prelude.{ℤ, pos, negsuc, slice_get}
use lib.Signed.{le_z}
use Rattle.std.proofs.lemmas.Int.{to_z-of_z}
use mir.Val.{SFits, to_z, of_z}
use Rattle.std.specs.Ordering.{int_eq}
use Rattle.std.proofs.lemmas.Bool.{eqb-true, eq-eqb, and_left, and_right, false_from_ne_true}
use Rattle.std.proofs.lemmas.Bool.Decides.{nat_tests, same_from_decides, Decides-int_eq}
use Rattle.std.proofs.lemmas.List.{drop_more}
use Rattle.layout_schema.specs.Shapes.{Child, are_fields, are_ids, is_id}
use Rattle.layout_schema.proofs.Places.{drop_get}

-- other numbers of children
pub other_count : (fs : List ℤ) (cs : List Child) → length cs ≢ length fs → are_fields fs cs ≡ false
other_count [] [] other = absurd (other refl)
other_count [] (c ∷ cs) other = refl
other_count (f ∷ fs) [] other = refl
other_count (f ∷ fs) (c ∷ cs) other = and_right (int_eq c.field f) _ (other_count fs cs (λ e. other (ap suc e)))

-- a child and those behind it
next_child : (cs : List Child) (i : ℕ) (c : Child) → slice_get cs i ≡ Some c → drop i cs ≡ c ∷ drop (i + 1) cs
next_child cs i c here = let more : suc i ≡ i + 1 = omega arith in drop_get cs i c here ∙ ap (λ n. c ∷ drop n cs) more

next_field : (fs : List ℤ) (cs : List Child) (i : ℕ) (c : Child) → i < length fs → slice_get cs i ≡ Some c
    → are_fields (drop i fs) (drop i cs) ≡ (int_eq c.field (get_or fs i (pos 0)) && are_fields (drop (i + 1) fs) (drop (i + 1) cs))
next_field fs cs i c lt here =
    ap (λ gs. are_fields gs (drop i cs)) (drop_more fs i (pos 0) lt)
    ∙ ap (λ ds. are_fields (get_or fs i (pos 0) ∷ drop (i + 1) fs) ds) (next_child cs i c here)

pub other_field : (fs : List ℤ) (cs : List Child) (i : ℕ) (c : Child) → are_fields fs cs ≡ are_fields (drop i fs) (drop i cs) → i < length fs → slice_get cs i ≡ Some c → c.field ≢ get_or fs i (pos 0) → are_fields fs cs ≡ false
other_field fs cs i c so_far lt here other =
    so_far ∙ next_field fs cs i c lt here
    ∙ and_left (int_eq c.field (get_or fs i (pos 0))) _ (false_from_ne_true _ (λ t. other ((Decides-int_eq c.field (get_or fs i (pos 0))).0 t)))

pub same_field : (fs : List ℤ) (cs : List Child) (i : ℕ) (c : Child) → are_fields fs cs ≡ are_fields (drop i fs) (drop i cs) → i < length fs → slice_get cs i ≡ Some c → c.field ≡ get_or fs i (pos 0) → are_fields fs cs ≡ are_fields (drop (i + 1) fs) (drop (i + 1) cs)
same_field fs cs i c so_far lt here same =
    so_far ∙ next_field fs cs i c lt here
    ∙ ap (λ b. b && are_fields (drop (i + 1) fs) (drop (i + 1) cs)) ((Decides-int_eq c.field (get_or fs i (pos 0))).1 same)

-- an id is above 0
pub below_ids : (z : ℤ) → le_z z (pos 0) ≡ true → is_id z ≡ false
below_ids (pos n) e = grind (arith, nat_tests)
below_ids (negsuc n) e = refl

pub above_ids : (z : ℤ) → SFits w16 z → le_z z (pos 0) ≡ false → is_id z ≡ true
above_ids (pos n) f e = let h : n < 32768 = f.sfits in grind (arith, nat_tests)
above_ids (negsuc n) f e = absurd cc

next_id : (cs : List Child) (i : ℕ) (c : Child) → slice_get cs i ≡ Some c → are_ids (drop i cs) ≡ (is_id c.field && are_ids (drop (i + 1) cs))
next_id cs i c here = ap are_ids (next_child cs i c here)

pub no_id : (cs : List Child) (i : ℕ) (c : Child) → are_ids cs ≡ are_ids (drop i cs) → slice_get cs i ≡ Some c → is_id c.field ≡ false → are_ids cs ≡ false
no_id cs i c so_far here other = so_far ∙ next_id cs i c here ∙ and_left (is_id c.field) _ other

pub one_id : (cs : List Child) (i : ℕ) (c : Child) → are_ids cs ≡ are_ids (drop i cs) → slice_get cs i ≡ Some c → is_id c.field ≡ true → are_ids cs ≡ are_ids (drop (i + 1) cs)
one_id cs i c so_far here is = so_far ∙ next_id cs i c here ∙ ap (λ b. b && are_ids (drop (i + 1) cs)) is

-- ---- conditions one after another

-- what is asked where those before hold
pub in_turn : (v p q : Bool) → ((p ≡ true) × (v ≡ q)) ⊎ ((p ≡ false) × (v ≡ p)) → v ≡ (p && q)
in_turn v p q (inl (t, is)) = is ∙ sym (ap (λ b. b && q) t)
in_turn v p q (inr (t, is)) = is ∙ t ∙ sym (and_left p q t)

-- one of six does not hold
pub one_fails : (a b c d e f g : Bool) → (((((a && b) && c) && d) && e) && f) ≡ false → (a && (b && (c && (d && (e && (f && g)))))) ≡ false
one_fails false b c d e f g h = refl
one_fails true false c d e f g h = refl
one_fails true true false d e f g h = refl
one_fails true true true false e f g h = refl
one_fails true true true true false f g h = refl
one_fails true true true true true false g h = refl
one_fails true true true true true true g h = absurd cc

pub zero_test : (z : ℤ) → SFits w64 z → eqb (of_z w64 z) 0 ≡ int_eq z (pos 0)
zero_test z f =
    same_from_decides (eqb (of_z w64 z) 0) (int_eq z (pos 0))
    (λ t. sym (to_z-of_z w64 z f) ∙ ap (to_z w64) (eqb-true (of_z w64 z) 0 t), λ e. eq-eqb (of_z w64 z) 0 (ap (of_z w64) e))
    (Decides-int_eq z (pos 0))
