use Rattle.std.proofs.Common.{lit<}
use Rattle.path_text.proofs.Utf8.{utf8-behind}
use Rattle.path_text.proofs.reading.read_key.Goals as goal

pub read_text-requires : goal.read_text-requires
read_text-requires c = utf8-behind c.in-Some.first.now 34 c.args.text.now c.in-Some.rest.now c.in-Some.ensures.cases.0 c.in-34.is (lit< tt) c.requires
