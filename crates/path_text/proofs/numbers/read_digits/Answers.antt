use Rattle.std.proofs.Common.{sym, ◌∙◌, take}
use Rattle.std.specs.Char.{is_ascii_digit}
use Rattle.std.specs.List.{prefix_len}
use Rattle.path_text.proofs.Complete.{digits-pass}
use Rattle.path_text.proofs.Runs.{run-front}
use Rattle.path_text.proofs.numbers.read_digits.Goals as goal

pub magnitude-requires : goal.magnitude-requires
magnitude-requires c =
    rw (c.split_at.ensures.front, c.digits_len.ensures.len)
    (sym (digits-pass (take (prefix_len is_ascii_digit c.args.text.now) c.args.text.now)) ∙ run-front is_ascii_digit c.args.text.now)
