-- Key after key, in a set and in a map.
use Rattle.key_order.proofs.Rising.{rises_by_keys}
use Rattle.key_order.proofs.laws.rises_by_keys.Goals as goal

pub returns : goal.returns
returns c = rises_by_keys
