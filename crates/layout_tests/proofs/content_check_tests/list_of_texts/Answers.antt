use Rattle.std.proofs.Common.{rules, arith, refl, false}
use Rattle.frozen_model.specs.Rows.{list_of_texts}
use Rattle.frozen_model.specs.Layouts.{Version1, described}
use Rattle.layout_tests.proofs.content_check_tests.list_of_texts.Goals as goal

pub from_nodes-requires : goal.from_nodes-requires
from_nodes-requires c = record {
  layout = described Version1 false (list_of_texts 1 3 3 1);
  is = record {
    described = record {
      relaxing = refl;
      layout = record {
        root = tt;
        kind_tree = record {
          formed = ((omega arith, omega arith, tt), ((tt, tt), tt));
          few = omega arith;
          shallow = omega arith;
          narrow = (omega arith, (tt, tt));
        };
        coded = (tt, tt);
        legal = ((omega arith, omega arith, (omega arith, omega arith)), tt);
      };
    };
    numbered = refl;
    relaxes = refl;
    nodes = search (
      rules,
      c.in_ok-to_vec.ensures.items_if_clones_equal,
      c.node.ensures,
      c.node-2.ensures,
      c.node-3.ensures,
      c.node-4.ensures,
      c.node-5.ensures,
      c.node-6.ensures,
      c.node-7.ensures,
    );
  };
}
