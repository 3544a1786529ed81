use Rattle.layout_tree.proofs.Taken.{second_is, first_is}
use Rattle.layout_tree.proofs.layouts.form_version.Goals as goal

pub returns-then-version-eq2 : goal.returns-then-version-eq2
returns-then-version-eq2 c v e = second_is v c.args.version e c.if-version-eq2.true

pub returns-else-version-eq2 : goal.returns-else-version-eq2
returns-else-version-eq2 c v e = first_is v c.args.version e c.if-version-eq2.false
