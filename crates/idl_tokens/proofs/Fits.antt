-- A run of characters is no longer than the text.
use Rattle.std.proofs.lemmas.List.Sums.{prefix_len-le-length}

pub ruleset fitting = (prefix_len-le-length)
