use Rattle.std.proofs.Common.{◌≤◌, Err, refl, subst, rules}
use Rattle.frozen_model.specs.Values.{cells, cell_limit}
use Rattle.type_kinds.specs.KindsOf.{kinds_of}
use Rattle.typed_tree.specs.References.{value_of_tree}
use Rattle.typed_reading.specs.Answers.{IsChecked}
use Rattle.frozen_cli.proofs.stages.value.Goals as goal

pub returns-in-Ok-clause-few : goal.returns-in-Ok-clause-few
returns-in-Ok-clause-few c =
    subst (λ t. cells (kinds_of t) (value_of_tree c.in-Ok.tree) ≤ cell_limit) c.root.ensures.tree
    c.in-Ok.ensures.cause.3

pub returns-in-Err : goal.returns-in-Err
returns-in-Err c =
    let fault = c.in-Err.fault in
    let cause = subst (λ t. IsChecked t c.args.bytes.now (Err fault)) c.root.ensures.tree
    c.in-Err.ensures.cause in
    record {
      gives = (fault, cause, search rules, refl);
      kinds = tt;
      few = tt;
      no_file = search rules;
    }
