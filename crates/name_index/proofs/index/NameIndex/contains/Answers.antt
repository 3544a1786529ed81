use Rattle.std.proofs.Common.{ap, ◌∙◌}
use Rattle.std.specs.Prelude.{is_some}
use Rattle.std.specs.Str.{bytes_eq}
use Rattle.name_index.proofs.Places.{some-is-any}
use Rattle.name_index.proofs.index.NameIndex.contains.Goals as goal

pub returns : goal.returns
returns c names h =
    c.is_some.ensures ∙ ap is_some (c.place_of.ensures names h) ∙ some-is-any (λ n. bytes_eq n c.args.name.now) names
