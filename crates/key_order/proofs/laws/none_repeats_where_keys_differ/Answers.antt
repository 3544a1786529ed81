-- A place is an index among the keys.
use Rattle.key_order.proofs.Numbered.{none_repeats_where_keys_differ}
use Rattle.key_order.proofs.laws.none_repeats_where_keys_differ.Goals as goal

pub returns : goal.returns
returns c = none_repeats_where_keys_differ
