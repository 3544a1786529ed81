use Rattle.std.proofs.Common.{lit<}
use Rattle.path_text.proofs.Utf8.{utf8-behind}
use Rattle.path_text.proofs.reading.read_step.Goals as goal

pub read_key_step-requires : goal.read_key_step-requires
read_key_step-requires c = utf8-behind c.in-Some.first.now 123 c.args.text.now c.in-Some.rest.now c.in-Some.ensures.cases.0 c.in-123.is (lit< tt) c.requires
