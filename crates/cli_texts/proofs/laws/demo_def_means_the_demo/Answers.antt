use Rattle.std.proofs.Common.{refl}
use Rattle.std.specs.Fmt.{digits}
use Rattle.cli_texts.proofs.Meant.{demo_def_means}
use Rattle.cli_texts.proofs.laws.demo_def_means_the_demo.Goals as goal

pub returns : goal.returns
unfolding digits
returns c = demo_def_means _ refl
