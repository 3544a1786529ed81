-- The nodes list the layout of tables.
use Rattle.std.proofs.Common.{◌≡◌, ◌∷◌, [], ◌∙◌, List, refl, pos, true, arith}
use Rattle.frozen_model.specs.Layouts.{based_coded, IsDescribed}
use Rattle.layout_tree.specs.declared.node.NodeSpec.{NodeSpec}
use Rattle.layout_tree.specs.declared.node.Kind.TheVariants as k
use Rattle.layout_tree.specs.Listing.{spec}
use Rattle.layout_tree.specs.Given.{IsListOf, shown_nodes, noted_from}
use Rattle.pack_bench.specs.Table.{described_table, table_layout}

table_described : IsDescribed described_table
table_described = record {
  relaxing = tt;
  layout = record {
    root = tt;
    kind_tree = record {
      formed = ((omega arith, omega arith, tt), ((tt, ((omega arith, omega arith, (omega arith, omega arith, (omega arith, omega arith, tt))), (tt, (tt, (tt, tt))))), tt));
      few = omega arith;
      shallow = omega arith;
      narrow = (omega arith, ((omega arith, (tt, (tt, (tt, tt)))), tt));
    };
    coded = ((based_coded (omega arith), (based_coded (omega arith), (tt, tt))), tt);
    legal = ((omega arith, omega arith, (omega arith, (omega arith, ((omega arith, omega arith), tt)))), tt);
  };
}

pub table_listed : (ns : List NodeSpec) (a b c d e f g h i j : NodeSpec) → ns ≡ a ∷ b ∷ c ∷ d ∷ e ∷ f ∷ g ∷ h ∷ i ∷ j ∷ []
    → a ≡ spec k.Struct 0 0 19 19 0 (pos 0) → b ≡ spec k.List 1 0 19 19 0 (pos 0) → c ≡ spec k.Size 1 1 2 2 0 (pos 0)
    → d ≡ spec k.Size 2 1 17 17 2 (pos 0) → e ≡ spec k.Struct 3 1 49 49 0 (pos 0) → f ≡ spec k.I32 1 4 17 17 0 (pos 0)
    → g ≡ spec k.I32 2 4 7 7 17 (pos 0) → h ≡ spec k.Bytes 3 4 25 25 24 (pos 0) → i ≡ spec k.Size 1 7 21 21 0 (pos 0)
    → j ≡ spec k.Size 2 7 4 4 21 (pos 0) → IsListOf described_table ns (pos 2) true
table_listed ns a b c d e f g h i j is ea eb ec ed ee ef eg eh ei ej =
    let all : a ∷ b ∷ c ∷ d ∷ e ∷ f ∷ g ∷ h ∷ i ∷ j ∷ [] ≡ shown_nodes (noted_from table_layout) = cc in
    record { described = table_described; numbered = refl; relaxes = refl; nodes = is ∙ all }
