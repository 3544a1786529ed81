-- Fields by rising id.
pub use Rattle.idl_profile.proofs.Rising.{Below, each-by_id, distinct-by_id, rising-by_id, by_id-rising}
use Rattle.std.proofs.Common.{◌≡◌, ℕ, ◌+◌, Bool, true, false, List, [], ◌∷◌, refl, ap, ◌∙◌, arith}
use Rattle.std.specs.Prelude.{int_lt, if◌then◌else◌, max}
use Rattle.idl_profile.specs.declared.kinds.Need.{Need}
use Rattle.idl_profile.specs.declared.kinds.Need.TheVariants.{Plain, Required, Optional}
use Rattle.idl_profile.specs.Meaning as m
use Rattle.idl_profile.specs.Types.{TypeTree}
use Rattle.idl_profile.specs.Types as types
use Rattle.idl_profile.specs.Judged.{measured_struct}
use Rattle.idl_profile.specs.Measures.{trees, tree, fields as tree_fields, depth, nodes, bits, widest, depths, all_nodes, all_bits, all_widest}
use Rattle.idl_profile.specs.Text.{insert, by_id}

-- ---- the order of fields plays no part in the measures

abbrev SameMeasures : List TypeTree → List m.MeantField → List m.MeantField → Type 0
SameMeasures ts fs gs =
    (depths (tree_fields ts fs) ≡ depths (tree_fields ts gs)) × (all_nodes (tree_fields ts fs) ≡ all_nodes (tree_fields ts gs)) × (all_bits (tree_fields ts fs) ≡ all_bits (tree_fields ts gs))
    × (all_widest (tree_fields ts fs) ≡ all_widest (tree_fields ts gs))

same-trans : (ts : List TypeTree) (fs gs hs : List m.MeantField) → SameMeasures ts fs gs → SameMeasures ts gs hs → SameMeasures ts fs hs
same-trans ts fs gs hs a b = (a.0 ∙ b.0, a.1 ∙ b.1, a.2 ∙ b.2, a.3 ∙ b.3)

same-cons : (ts : List TypeTree) (f : m.MeantField) (fs gs : List m.MeantField) → SameMeasures ts fs gs → SameMeasures ts (f ∷ fs) (f ∷ gs)
same-cons ts f fs gs a = (ap (λ (z : ℕ). max (depth (tree ts f.type)) z) a.0, nodes-cons f.need, bits-cons f.need, ap (λ (z : ℕ). max (widest (tree ts f.type)) z) a.3)
  where
    nodes-cons : (n : Need) → all_nodes (types.field f.id f.name n (tree ts f.type) f.default (tree_fields ts fs)) ≡ all_nodes (types.field f.id f.name n (tree ts f.type) f.default (tree_fields ts gs))
    nodes-cons Plain = ap (λ (z : ℕ). nodes (tree ts f.type) + z) a.1
    nodes-cons Required = ap (λ (z : ℕ). nodes (tree ts f.type) + z) a.1
    nodes-cons Optional = ap (λ (z : ℕ). 2 + (nodes (tree ts f.type) + z)) a.1

    bits-cons : (n : Need) → all_bits (types.field f.id f.name n (tree ts f.type) f.default (tree_fields ts fs)) ≡ all_bits (types.field f.id f.name n (tree ts f.type) f.default (tree_fields ts gs))
    bits-cons Plain = ap (λ (z : ℕ). bits (tree ts f.type) + z) a.2
    bits-cons Required = ap (λ (z : ℕ). bits (tree ts f.type) + z) a.2
    bits-cons Optional = ap (λ (z : ℕ). 1 + (bits (tree ts f.type) + z)) a.2

-- what a field adds
abbrev need_nodes : Need → ℕ
need_nodes Optional = 2
need_nodes Plain = 0
need_nodes Required = 0

abbrev need_bits : Need → ℕ
need_bits Optional = 1
need_bits Plain = 0
need_bits Required = 0

nodes-are : (ts : List TypeTree) (f : m.MeantField) (n : Need) (fs : List m.MeantField) → all_nodes (types.field f.id f.name n (tree ts f.type) f.default (tree_fields ts fs)) ≡ need_nodes n + nodes (tree ts f.type) + all_nodes (tree_fields ts fs)
nodes-are ts f Optional fs = omega arith
nodes-are ts f Plain fs = omega arith
nodes-are ts f Required fs = omega arith

bits-are : (ts : List TypeTree) (f : m.MeantField) (n : Need) (fs : List m.MeantField) → all_bits (types.field f.id f.name n (tree ts f.type) f.default (tree_fields ts fs)) ≡ need_bits n + bits (tree ts f.type) + all_bits (tree_fields ts fs)
bits-are ts f Optional fs = omega arith
bits-are ts f Plain fs = omega arith
bits-are ts f Required fs = omega arith

same-swap : (ts : List TypeTree) (f g : m.MeantField) (fs : List m.MeantField) → SameMeasures ts (f ∷ g ∷ fs) (g ∷ f ∷ fs)
same-swap ts f g fs = (
  omega arith,
  omega (arith, nodes-are ts f f.need (g ∷ fs), nodes-are ts g g.need fs, nodes-are ts g g.need (f ∷ fs), nodes-are ts f f.need fs),
  omega (arith, bits-are ts f f.need (g ∷ fs), bits-are ts g g.need fs, bits-are ts g g.need (f ∷ fs), bits-are ts f f.need fs),
  omega arith,
)

same-insert : (ts : List TypeTree) (f : m.MeantField) (gs : List m.MeantField) → SameMeasures ts (f ∷ gs) (insert f gs)
same-insert ts f [] = (refl, refl, refl, refl)
same-insert ts f (g ∷ gs) = by_test (same-insert ts f gs) (int_lt g.id f.id)
  where
    by_test : SameMeasures ts (f ∷ gs) (insert f gs) → (b : Bool) → SameMeasures ts (f ∷ g ∷ gs) (if b then g ∷ insert f gs else f ∷ g ∷ gs)
    by_test ih true = same-trans ts (f ∷ g ∷ gs) (g ∷ f ∷ gs) (g ∷ insert f gs) (same-swap ts f g gs) (same-cons ts g (f ∷ gs) (insert f gs) ih)
    by_test ih false = (refl, refl, refl, refl)

same-by_id : (ts : List TypeTree) (fs : List m.MeantField) → SameMeasures ts fs (by_id fs)
same-by_id ts [] = (refl, refl, refl, refl)
same-by_id ts (f ∷ fs) = same-trans ts (f ∷ fs) (f ∷ by_id fs) (insert f (by_id fs)) (same-cons ts f fs (by_id fs) (same-by_id ts fs)) (same-insert ts f (by_id fs))

pub same-measures : (ns : List m.MeantNamed) (fs : List m.MeantField) → measured_struct ns fs ≡ measured_struct ns (by_id fs)
same-measures ns fs = let a = same-by_id (trees ns) fs in rw (a.0, a.1, a.2, a.3) refl
