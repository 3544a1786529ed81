use Rattle.std.proofs.Common.{◌≡◌, length, ℕ, List}
use Rattle.path_text.specs.Reading.{read_text}
use Rattle.path_text.proofs.PieceLaws.{after_bytes}
use Rattle.path_text.proofs.reading.read_text.Given as goal

pub record Spelled (bytes rest text : List ℕ) : Type 0 where
  pub same : read_text text ≡ after_bytes bytes (read_text rest)

abbrev pub invariant-bytes : goal.invariant-bytes
invariant-bytes l = Spelled l.bytes.items l.rest l.text

abbrev pub decreases-bytes : goal.decreases-bytes
decreases-bytes l = length l.rest
