-- The worked layout of two numbers.
use Rattle.std.proofs.Common.{◌≡◌, List, pos, false, refl, arith}
use Rattle.frozen_model.specs.Rows.{two_fields}
use Rattle.frozen_model.specs.Layouts.{Version1, TwosComplement, Layout, signed_coded, described}
use Rattle.layout_tree.specs.declared.node.NodeSpec.{NodeSpec}
use Rattle.layout_tree.specs.Given.{IsListOf, ListsLayout, shown_nodes, noted_from}

abbrev pub worked : Layout
worked = two_fields (TwosComplement 4) (TwosComplement 1)

-- its nodes list it
pub given : (ns : List NodeSpec) → ns ≡ shown_nodes (noted_from worked)
    → IsListOf (described Version1 false worked) ns (pos 1) false
given ns e = record {
  described = record {
    relaxing = refl;
    layout = record {
      root = tt;
      kind_tree = record {
        formed = ((omega arith, omega arith, (omega arith, omega arith, tt)), (tt, (tt, tt)));
        few = omega arith;
        shallow = omega arith;
        narrow = (omega arith, (tt, (tt, tt)));
      };
      coded = (signed_coded, (signed_coded, tt));
      legal = (omega arith, (omega arith, tt));
    };
  };
  numbered = refl;
  relaxes = refl;
  nodes = e;
}

pub lists : (ns : List NodeSpec) → ns ≡ shown_nodes (noted_from worked) → ListsLayout ns (pos 1) false
lists ns e = record { layout = described Version1 false worked; is = given ns e }
