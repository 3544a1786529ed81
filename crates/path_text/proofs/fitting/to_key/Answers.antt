use Rattle.std.proofs.Common.{sym, ◌∙◌}
use Rattle.idl_parse.specs.Refs.{type_of_ref}
use Rattle.path_text.specs.Views.{key_of_literal}
use Rattle.path_text.proofs.FitLaws.{key-of-set, key-of-map}
use Rattle.path_text.proofs.fitting.to_key.Goals as goal

pub returns-in-Set : goal.returns-in-Set
returns-in-Set c =
    rw (key-of-set c.args.place (key_of_literal c.args.key.now) (type_of_ref c.args.from) (sym c.kind.ensures ∙ c.in-Set.is)) (rw (c.element.ensures, c.element-in-Set.ensures) at c.key_to.ensures)

pub returns-in-Map : goal.returns-in-Map
returns-in-Map c =
    rw (key-of-map c.args.place (key_of_literal c.args.key.now) (type_of_ref c.args.from) (sym c.kind.ensures ∙ c.in-Map.is)) (rw (c.key.ensures, c.value.ensures) at c.key_to-in-Map.ensures)
