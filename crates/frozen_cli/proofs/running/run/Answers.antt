use Rattle.std.proofs.Common.{map, string_bytes}
use Rattle.frozen_cli.proofs.Clauses.{runs}
use Rattle.frozen_cli.proofs.running.run.Goals as goal

pub returns : goal.returns
returns g c =
    runs (λ v. v.items) (map string_bytes c.args.words.now.items) _ _ _ _ c.answer-answer.result
    (rw c.deref.ensures.value at c.answer-answer.ensures.gives) c.answer-answer.ensures.reads
    c.deliver.ensures.delivers
