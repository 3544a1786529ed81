use Rattle.std.proofs.Common.{ap}
use Rattle.idl_fields.specs.View.{types_in, fields_of}
use Rattle.idl_definitions.specs.Sized.{type_count, fields_placed}
use Rattle.idl_definitions.proofs.GrowLaws.{grows-none, grows-twice, fields-next, placed-next}
use Rattle.idl_definitions.proofs.growing.add_fields.Goals as goal

pub loop-field-init : goal.loop-field-init
loop-field-init c = record {
  means = ap (fields_of c.args.text.now (types_in c.args.scope.now.types)) c.new-added.ensures.items;
  placed = ap (fields_placed (type_count c.args.scope.now)) c.new-added.ensures.items;
  grows = grows-none c.args.scope.now;
  sized = c.requires;
}

pub loop-field-preserved : goal.loop-field-preserved
loop-field-preserved c =
    let old = c.args.scope.now in
    let now = c.loop-field.scope in
    let new = c.add_field.new.scope in
    let i = c.loop-field.invariant in
    record {
      means = fields-next c.args.text.now old now new c.args.fields.now c.loop-field.added.items c.push.new.self.items c.in_ok-field.field c.field-item.result c.loop-field.field-index
          c.requires i.grows c.in_ok-field.ensures.grows c.loop-field-test.true c.field-item.is i.placed i.means c.in_ok-field.ensures.means c.in_ok-push.ensures.items;
      placed = placed-next now new c.loop-field.added.items c.push.new.self.items c.in_ok-field.field c.in_ok-field.ensures.grows i.placed c.in_ok-field.ensures.placed c.in_ok-push.ensures.items;
      grows = grows-twice old now new i.grows c.in_ok-field.ensures.grows;
      sized = c.in_ok-field.ensures.sized;
    }
