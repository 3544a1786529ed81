use Rattle.std.proofs.Common.{rules, arith, refl, false}
use Rattle.frozen_model.specs.Rows.{optional_items}
use Rattle.frozen_model.specs.Layouts.{Version1, TwosComplement, signed_coded, described}
use Rattle.layout_tests.proofs.content_check_tests.optional_items.Goals as goal

pub from_nodes-requires : goal.from_nodes-requires
from_nodes-requires c = record {
  layout = described Version1 false (optional_items 1 2 1 (TwosComplement 4));
  is = record {
    described = record {
      relaxing = refl;
      layout = record {
        root = tt;
        kind_tree = record {
          formed = (
            (omega arith, omega arith, tt),
            ((tt, ((omega arith, omega arith, tt), ((tt, tt), tt))), tt),
          );
          few = omega arith;
          shallow = omega arith;
          narrow = (omega arith, ((omega arith, ((omega arith, tt), tt)), tt));
        };
        coded = ((signed_coded, tt), tt);
        legal = ((omega arith, omega arith, ((omega arith, omega arith), tt)), tt);
      };
    };
    numbered = refl;
    relaxes = refl;
    nodes = search (
      rules,
      c.in_ok-to_vec.ensures.items_if_clones_equal,
      c.node.ensures,
      c.node-2.ensures,
      c.node-3.ensures,
      c.node-4.ensures,
      c.node-5.ensures,
      c.node-6.ensures,
      c.node-7.ensures,
      c.node-8.ensures,
    );
  };
}
