use Rattle.std.proofs.Common.{ap, ap₂, sym, ◌∙◌, List}
use Rattle.idl_profile.specs.Meaning as m
use Rattle.idl_fields.specs.Nodes.{node_type}
use Rattle.idl_fields.specs.View.{types_in, entries_in, word_type, contained}
use Rattle.idl_definitions.proofs.GrowLaws.{grows-at, grows-entries}
use Rattle.idl_definitions.proofs.growing.around.Goals as goal

pub returns-in_ok-key-in-Map-clause-means : goal.returns-in_ok-key-in-Map-clause-means
returns-in_ok-key-in-Map-clause-means c =
    let text = c.args.text.now in
    let old = c.args.scope.now in
    let mid = c.add_node.new.scope in
    let key = c.in_ok-key-in-Map.ensures.means ∙ c.type_of-key.ensures.means text ∙ ap (λ (z : List m.Entry). word_type z c.in-Map.word) (grows-entries text old mid c.requires.sized c.in_ok-inside.ensures.grows) in
    let inside = grows-at mid c.add_node-in-Map.new.scope c.in_ok-inside.inside c.in_ok-key-in-Map.ensures.grows c.in_ok-inside.ensures.there ∙ c.in_ok-inside.ensures.means in
    ap₂ m.map key inside ∙ ap (contained (entries_in text old) (node_type (types_in old.types) c.args.node)) (sym c.in-Map.is)
