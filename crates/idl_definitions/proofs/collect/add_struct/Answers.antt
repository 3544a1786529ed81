use Rattle.std.proofs.Common.{List, length, ap, ap₂, sym, ◌∙◌}
use Rattle.std.proofs.lemmas.List.{length-map}
use Rattle.base_lists.specs.Spans.{text_at}
use Rattle.idl_profile.specs.Meaning as m
use Rattle.idl_profile.specs.Measures.{trees, named_tree}
use Rattle.idl_fields.specs.declared.draft.TypeNode.TheVariants as v
use Rattle.idl_fields.specs.View.{types_in, entries_in, named_in, named_of, fields_of, scope_of, written_fields}
use Rattle.idl_definitions.specs.Sizes.{size}
use Rattle.idl_definitions.proofs.Collecting.{added}
use Rattle.idl_definitions.proofs.DefinitionSteps.{at_fields}
use Rattle.idl_definitions.proofs.GrowLaws.{grows-entries, grows-named, grows-indexed}
use Rattle.idl_definitions.proofs.collect.add_struct.Goals as goal

pub add_named-requires-clause-size : goal.add_named-requires-clause-size
add_named-requires-clause-size c =
    let text = c.args.text.now in
    let w = text_at text c.args.name in
    c.size_of_struct-size.ensures w
    ∙ ap₂ (λ (ns : List m.MeantNamed) (fs : List m.MeantField). size (named_tree (trees ns) (m.struct_of w fs)))
    (sym (grows-named text c.args.scope.now c.add_fields.new.scope c.requires c.in_ok-added.ensures.grows)) (sym c.in_ok-added.ensures.means)

pub returns-clause-same : goal.returns-clause-same
returns-clause-same c =
    let text = c.args.text.now in
    let old = c.args.scope.now in
    let start = c.add_fields.new.scope in
    let g = c.in_ok-added.ensures.grows in
    let ns = old.named.items in
    let place = c.in_ok-place.ensures.number ∙ ap length c.deref.ensures.value ∙ sym (length-map ns (named_of text (types_in old.types))) in
    at_fields c.add_entry.result (scope_of text c.add_entry.new.scope) (scope_of text old) (text_at text c.args.name) (fields_of text (types_in start.types) c.in_ok-added.added.items) (written_fields text (entries_in text old) c.args.fields.now) c.in_ok-added.ensures.means
    (added text c.add_entry.result old start c.add_named.new.scope c.add_entry.new.scope _ c.args.name (v.Struct c.in_ok-place.place) (m.struct (length (named_in text old)))
    (grows-entries text old start c.requires g) (grows-named text old start c.requires g) (ap m.struct place)
    c.in_ok-add_named.ensures.named c.in_ok-add_named.ensures.entries c.in_ok-add_named.ensures.types c.add_entry.ensures.named c.add_entry.ensures.types c.add_entry.ensures.entries)

pub returns-clause-indexed : goal.returns-clause-indexed
returns-clause-indexed c h =
    c.add_entry.ensures.indexed (c.in_ok-add_named.ensures.indexed (grows-indexed c.args.text.now c.args.scope.now c.add_fields.new.scope c.requires c.in_ok-added.ensures.grows h) (c.new.ensures))
