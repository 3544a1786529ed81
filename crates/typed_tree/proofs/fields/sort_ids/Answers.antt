-- The ids are the keys of the sort.
use Rattle.std.proofs.Common.{rules}
use Rattle.std.proofs.lemmas.List.Sorted.{answers_always}
use Rattle.typed_tree.specs.declared.spot.Link.{Link}
use Rattle.typed_tree.proofs.fields.sort_ids.Goals as goal

pub returns-clause-sorted : goal.returns-clause-sorted
returns-clause-sorted c = c.sort_unstable_by_key.ensures.sorted (λ (l : Link). l.id) (answers_always _ _ _ (λ f a r g h. search rules))
