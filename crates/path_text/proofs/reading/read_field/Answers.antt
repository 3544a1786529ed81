use Rattle.std.specs.Str.{IsUtf8}
use Rattle.path_text.specs.Texts.{is_name_character}
use Rattle.path_text.proofs.PieceLaws.{name-utf8}
use Rattle.path_text.proofs.Runs.{run-front}
use Rattle.path_text.proofs.reading.read_field.Goals as goal

pub returns-in-Err : goal.returns-in-Err
returns-in-Err c =
    let u : IsUtf8 c.split_at.result.0.now = rw (c.split_at.ensures.front, c.name_len.ensures.len) (name-utf8 _ (run-front is_name_character c.args.text.now)) in
    absurd (c.in-Err.ensures.cases.0 u)
