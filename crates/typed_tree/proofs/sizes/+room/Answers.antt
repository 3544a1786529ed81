-- A field is smaller than its struct, and adds its room to that before.
use Rattle.std.proofs.Common.{◌≡◌, ◌∙◌, ◌+◌, List, ap, sym, length, arith}
use Rattle.std.specs.List.{sum_by}
use Rattle.std.proofs.Math.Seq.{take-length}
use Rattle.idl_profile.specs.Types.{DefField, fields_of}
use Rattle.idl_parse.specs.Refs.{type_of_ref, field_of_ref}
use Rattle.typed_tree.specs.Rooms.{room_of}
use Rattle.typed_tree.specs.Sizes.{capped_room}
use Rattle.typed_tree.proofs.Typed.{field-smaller, used-more, used-struct, used_before, nodes_used, bytes_used}
use Rattle.typed_tree.proofs.sizes.+room.Goals as goal

pub struct_room-default_room-requires : goal.struct_room-default_room-requires
struct_room-default_room-requires t c =
    let less = field-smaller (type_of_ref c.args.ty) c.loop-i.i (field_of_ref c.field_at.result) c.field_at.ensures in
    (omega (arith, c.decreases, less), tt)

pub struct_room-loop-i-preserved : goal.struct_room-loop-i-preserved
struct_room-loop-i-preserved t c =
    used-more (type_of_ref c.args.ty) c.loop-i.i c.loop-i.room c.default_room.result _ (field_of_ref c.field_at.result) c.field_at.ensures c.loop-i.invariant c.default_room.ensures c.and-room.ensures

pub struct_room-returns : goal.struct_room-returns
struct_room-returns t c =
    let fs = fields_of (type_of_ref c.args.ty) in
    let all : c.loop-i.i ≡ length fs = omega (arith, c.loop-i-test.false, c.loop-i.auto.i-end, c.field_count-i-end.ensures) in
    c.loop-i.invariant ∙ ap (λ n. capped_room (used_before (type_of_ref c.args.ty) n)) all ∙ ap (λ (gs : List DefField). capped_room (room_of (1 + sum_by nodes_used gs) (sum_by bytes_used gs))) (take-length fs) ∙ ap capped_room (sym (used-struct (type_of_ref c.args.ty) c.requires))
