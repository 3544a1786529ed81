-- Insertion by key rises too, and one list rises.
use Rattle.key_order.proofs.Insertion.{rising_keys_are_in_order}
use Rattle.key_order.proofs.Rising.{rises_by_keys}
use Rattle.key_order.proofs.laws.rising_is_in_order.Goals as goal

pub returns : goal.returns
returns c h vs us keyed kind moved rises = rising_keys_are_in_order vs us kind moved ((rises_by_keys h us keyed).0 rises)
