-- Users are found in the demo's value under their numbers.
use Rattle.std.proofs.Common.{◌≡◌, ◌∙◌, ℕ, ℤ, zero, suc, pos, ◌+◌, ◌≤◌, ◌<◌, List, [], ◌∷◌, Bool, true, false}
use Rattle.std.proofs.Common.{Some, None, Option, arith, ap, sym, refl, nat_eq, nat_abs}
use Rattle.std.proofs.Common.{if◌then◌else◌, map, slice_set}
use Rattle.std.proofs.Common.{w64, of_z}
use Rattle.std.proofs.lemmas.Bool.Decides.{nat_tests, Decides-int_eq, not_from_Decides}
use Rattle.std.specs.Ordering.{int_eq}
use Rattle.std.specs.Prelude.{codes, option_map, option_and_then}
use Rattle.std.specs.Option.{option_map_or}
use Rattle.frozen_model.specs.Bits.{digits}
use Rattle.frozen_model.specs.Values.{Value, One, Number, count}
use Rattle.idl_profile.specs.Types.{TypeTree, root_of, named}
use Rattle.key_order.specs.InOrder.{row}
use Rattle.typed_tree.specs.Spots.{pair}
use Rattle.path_text.specs.declared.path.Step.{Step}
use Rattle.path_text.specs.Steps.{PlacedStep, placed, field_step, key_step, int_key}
use Rattle.path_text.specs.Views.{step_of_kind, step_of}
use Rattle.evolve.specs.Parts.{at, typed, second, item_with}
use Rattle.evolve.specs.Costs.{lookup_cost}
use Rattle.evolve.specs.declared.lens.Lens.{Lens}
use Rattle.evolve.specs.Lenses.{value_of_lens}
use Rattle.cli_texts.specs.Demos.{user_struct, demo_definition, number, user, users, demo}
use Rattle.cli_texts.proofs.Formed.{users_count}

-- the user of a number is the one at this key
by_test : (i m k : ℕ) (b : Bool) → int_eq (pos k) (pos i) ≡ b
    → (suc i ≤ k → item_with (int_key (pos k)) (row (users (suc i) m)) ≡ Some (pair (number k) (user k)))
    → i ≤ k
    → (if b then Some (pair (number i) (user i)) else item_with (int_key (pos k)) (row (users (suc i) m)))
    ≡ Some (pair (number k) (user k))
by_test i m k true eq later le =
    let same : pos k ≡ pos i = (Decides-int_eq (pos k) (pos i)).0 eq in
    ap (λ z. Some (pair (One (Number z)) (user (nat_abs z)))) (sym same)
by_test i m k false eq later le =
    let not : k ≡ i → ⊥ = λ e. not_from_Decides (int_eq (pos k) (pos i)) (Decides-int_eq (pos k) (pos i)) eq
    (ap pos e) in
    later (omega (arith, le, not))

user_with : (i m k : ℕ) → i ≤ k → k < i + m
    → item_with (int_key (pos k)) (row (users i m)) ≡ Some (pair (number k) (user k))
user_with i zero k le lt = absurd (omega (arith, le, lt))
user_with i (suc m) k le lt =
    by_test i m k (int_eq (pos k) (pos i)) refl (λ above. user_with (suc i) m k above (omega (arith, lt))) le

-- the steps of the path to the number of the user at a key, written anywhere
abbrev pub id_steps : ℕ → ℕ → ℕ → ℤ → List PlacedStep
id_steps a b c z =
    placed a (field_step (codes "users")) ∷ placed b (key_step (int_key z))
    ∷ placed c (field_step (codes "id")) ∷ []

-- the number of a user is at its key
pub number_at : (a b c n k : ℕ) → 1 ≤ k → k ≤ n
    → at (id_steps a b c (pos k)) (root_of demo_definition) (demo n) ≡ Some (number k)
number_at a b c n k first last =
    ap (λ o. option_and_then (λ p. at (placed c (field_step (codes "id")) ∷ []) p.type p.value)
    (option_map (typed (named user_struct)) (option_and_then second o)))
    (user_with 1 n k first (omega (arith, last)))

no_more : (x y z : ℕ) → x ≡ z → y ≡ 0 → 0 + (x + y) ≡ z
no_more x y z ex ey = omega (arith, ex, ey)

-- and a search for it compares as many keys as the number of users has digits at most
pub number_costs : (a b c n k : ℕ) → 1 ≤ k → k ≤ n
    → lookup_cost (id_steps a b c (pos k)) (root_of demo_definition) (demo n) ≡ digits n
number_costs a b c n k first last =
    let rest : Option Value → ℕ = λ o. option_map_or
    (λ p. lookup_cost (placed c (field_step (codes "id")) ∷ []) p.type p.value)
    (option_map (typed (named user_struct)) (option_and_then second o)) 0 in
    let none : 0 + 0 ≡ 0 = omega arith in
    no_more (digits (count (row (users 1 n)))) (rest (item_with (int_key (pos k)) (row (users 1 n))))
    (digits n) (ap digits (users_count 1 n)) (ap rest (user_with 1 n k first (omega (arith, last))) ∙ none)

-- ---- of steps, a type and a value that are these

pub number_reached : (ss : List PlacedStep) (t : TypeTree) (v : Value) (a b c n k : ℕ)
    → ss ≡ id_steps a b c (pos k) → t ≡ root_of demo_definition → v ≡ demo n → 1 ≤ k → k ≤ n
    → at ss t v ≡ Some (number k)
number_reached ss t v a b c n k es et ev first last =
    ap (λ x. at x t v) es ∙ ap (λ x. at (id_steps a b c (pos k)) x v) et
    ∙ ap (at (id_steps a b c (pos k)) (root_of demo_definition)) ev ∙ number_at a b c n k first last

pub number_costs_at : (ss : List PlacedStep) (t : TypeTree) (v : Value) (a b c n k : ℕ)
    → ss ≡ id_steps a b c (pos k) → t ≡ root_of demo_definition → v ≡ demo n → 1 ≤ k → k ≤ n
    → lookup_cost ss t v ≡ digits n
number_costs_at ss t v a b c n k es et ev first last =
    ap (λ x. lookup_cost x t v) es ∙ ap (λ x. lookup_cost (id_steps a b c (pos k)) x v) et
    ∙ ap (lookup_cost (id_steps a b c (pos k)) (root_of demo_definition)) ev
    ∙ number_costs a b c n k first last

pub not_none : (r : Option Lens) (v : Value) → r ≡ None → option_map value_of_lens r ≡ Some v → ⊥
not_none None v e h = absurd cc
not_none (Some l) v e h = absurd cc

pub some_number : (r : Option Lens) (l : Lens) (x : ℤ) (k : ℕ) → r ≡ Some l
    → option_map value_of_lens r ≡ Some (number k) → value_of_lens l ≡ One (Number x) → x ≡ pos k
some_number None l x k e h is = absurd cc
some_number (Some m) l x k e h is =
    let same : m ≡ l = cc in
    let one : value_of_lens m ≡ One (Number (pos k)) = cc in
    let two : One (Number x) ≡ One (Number (pos k)) = sym is ∙ ap value_of_lens (sym same) ∙ one in
    cc

-- a path of three steps whose second is set to a key
pub keyed_steps : (a b c s : Step) (items : List Step) (z : ℤ) → items ≡ a ∷ b ∷ c ∷ []
    → step_of_kind a.kind ≡ field_step (codes "users") → step_of_kind c.kind ≡ field_step (codes "id")
    → step_of_kind s.kind ≡ key_step (int_key z)
    → map step_of (slice_set items 1 s) ≡ id_steps a.place s.place c.place z
keyed_steps a b c s items z are first third key =
    ap (λ xs. map step_of (slice_set xs 1 s)) are
    ∙ ap (λ k. placed a.place k ∷ placed s.place (step_of_kind s.kind)
    ∷ placed c.place (step_of_kind c.kind) ∷ []) first
    ∙ ap (λ k. placed a.place (field_step (codes "users")) ∷ placed s.place k
    ∷ placed c.place (step_of_kind c.kind) ∷ []) key
    ∙ ap (λ k. placed a.place (field_step (codes "users")) ∷ placed s.place (key_step (int_key z))
    ∷ placed c.place k ∷ []) third

-- one number tested against another that it is
pub same_number : (x y : ℤ) → x ≡ y → nat_eq (of_z w64 x) (of_z w64 y) ≡ true
same_number x y e = let n = ap (of_z w64) e in grind (arith, nat_tests, n)
