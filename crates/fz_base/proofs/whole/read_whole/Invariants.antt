use Rattle.std.proofs.Common.{◌≡◌, ◌+◌, ◌-◌, ◌<◌, ◌≤◌, length, vec_len}
use Rattle.fz_base.specs.Counts.{counted}
use Rattle.fz_base.proofs.Pieces.{HasBegun}
use Rattle.fz_base.proofs.whole.read_whole.Given as goal

abbrev pub invariant-turns : goal.invariant-turns
invariant-turns g l = record {
  within : vec_len l.bytes ≤ l.limit + 1;
  piece : 0 < length l.buffer;
  begun : HasBegun (g.F.Files.held l.fn.files) l.name l.bytes.items;
  kept : g.F.Files.held l.files ≡ g.F.Files.held l.fn.files;
  faults : g.F.Files.faults l.files ≡ g.F.Files.faults l.fn.files;
  misses : g.F.Files.misses l.files ≡ g.F.Files.misses l.fn.files;
  gave : g.F.Files.given l.files ≡ counted (g.F.Files.given l.fn.files) (vec_len l.bytes);
}

abbrev pub decreases-turns : goal.decreases-turns
decreases-turns g l = l.limit + 1 - vec_len l.bytes
