-- Two byte strings stand as their keys do.
use Rattle.key_order.proofs.repeats.is_below.Goals as goal

pub returns-in-Bytes-Bytes : goal.returns-in-Bytes-Bytes
returns-in-Bytes-Bytes c = λ t. rw (c.in-Bytes-Bytes.is-0, c.in-Bytes-Bytes.is-1) (c.are_below.ensures t)
