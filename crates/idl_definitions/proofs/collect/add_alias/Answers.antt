use Rattle.idl_fields.specs.View.{entries_in, written_type}
use Rattle.idl_definitions.proofs.Collecting.{aliased}
use Rattle.idl_definitions.proofs.GrowLaws.{grows-entries, grows-named, grows-indexed}
use Rattle.idl_definitions.proofs.collect.add_alias.Goals as goal

pub returns-clause-same : goal.returns-clause-same
returns-clause-same c =
    let text = c.args.text.now in
    let old = c.args.scope.now in
    let start = c.add_type.new.scope in
    let g = c.in_ok-ty.ensures.grows in
    aliased text c.add_entry.result old start c.add_entry.new.scope c.args.alias.name c.in_ok-ty.ty (written_type (entries_in text old) c.args.alias.ty)
    (grows-entries text old start c.requires g) (grows-named text old start c.requires g) c.in_ok-ty.ensures.means c.add_entry.ensures.named c.add_entry.ensures.types c.add_entry.ensures.entries

pub returns-clause-indexed : goal.returns-clause-indexed
returns-clause-indexed c h = c.add_entry.ensures.indexed (grows-indexed c.args.text.now c.args.scope.now c.add_type.new.scope c.requires c.in_ok-ty.ensures.grows h)
