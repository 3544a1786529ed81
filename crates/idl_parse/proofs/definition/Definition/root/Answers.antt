use Rattle.std.specs.Prelude.{string_bytes}
use Rattle.std.proofs.Common.{◌≡◌, ◌∙◌, ap, sym, length}
use Rattle.idl_profile.specs.Types.{kind_of, root_of}
use Rattle.idl_profile.specs.Measures.{at}
use Rattle.idl_fields.specs.View.{types_in}
use Rattle.idl_parse.specs.Parsed.{definition_of}
use Rattle.idl_parse.specs.Refs.{visible}
use Rattle.idl_parse.proofs.Rooting.{root-named, root-kind}
use Rattle.idl_parse.proofs.definition.Definition.root.Goals as goal

pub returns-clause-tree : goal.returns-clause-tree
returns-clause-tree c =
    let d = c.args.self.now in
    let p = c.last_place.ensures in
    root-named (string_bytes d.text) (types_in d.types) d.named.items c.len.result c.last_place.result (c.len.ensures ∙ sym c.deref.ensures.len ∙ ap length c.deref.ensures.value) (rw c.deref.ensures.value at p)

pub returns-clause-kind : goal.returns-clause-kind
returns-clause-kind c =
    let d = c.args.self.now in
    let p = c.last_place.ensures in
    let t : at (visible d c.len.result) c.last_place.result ≡ root_of (definition_of d) =
    root-named (string_bytes d.text) (types_in d.types) d.named.items c.len.result c.last_place.result (c.len.ensures ∙ sym c.deref.ensures.len ∙ ap length c.deref.ensures.value) (rw c.deref.ensures.value at p) in
    ap kind_of t ∙ root-kind (string_bytes d.text) (types_in d.types) d.named.items d.rooted
