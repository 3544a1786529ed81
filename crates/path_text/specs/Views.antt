-- What the values of this crate stand for.
use Rattle.std.specs.Prelude.{map, string_bytes}
use Rattle.path_text.specs.declared.path.KeyLit.{KeyLit}
use Rattle.path_text.specs.declared.path.KeyLit.TheVariants as k
use Rattle.path_text.specs.declared.path.StepKind.{StepKind}
use Rattle.path_text.specs.declared.path.StepKind.TheVariants as s
use Rattle.path_text.specs.declared.path.Step.{Step}
use Rattle.path_text.specs.declared.path.Path.{Path}
use Rattle.path_text.specs.Steps.{PathKey, int_key, flag_key, text_key, bytes_key, PathStep, field_step, index_step, key_step, PlacedStep, placed, WholePath, whole}

abbrev pub key_of_literal : KeyLit → PathKey
key_of_literal (k.Int n) = int_key n
key_of_literal (k.Flag b) = flag_key b
key_of_literal (k.Text t) = text_key (string_bytes t)
key_of_literal (k.Bytes bs) = bytes_key bs.items

abbrev pub step_of_kind : StepKind → PathStep
step_of_kind (s.Field name) = field_step (string_bytes name)
step_of_kind (s.Index i) = index_step i
step_of_kind (s.Key key) = key_step (key_of_literal key)

abbrev pub step_of : Step → PlacedStep
step_of s = placed s.place (step_of_kind s.kind)

-- the path that a value stands for
abbrev pub path_of : Path → WholePath
path_of p = whole (map step_of p.steps.items) p.len
