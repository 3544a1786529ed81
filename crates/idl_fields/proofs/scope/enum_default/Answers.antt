use Rattle.std.proofs.Common.{length, refl, sym, ap, ◌∙◌, arith}
use Rattle.std.specs.Prelude.{Some}
use Rattle.std.proofs.lemmas.Option.{slice_get_read}
use Rattle.idl_profile.specs.Judged.{enum_members}
use Rattle.idl_fields.specs.View.{types_in}
use Rattle.idl_fields.proofs.Enums.{view_at, has_index, index_at}
use Rattle.idl_fields.proofs.scope.enum_default.Goals as goal

pub index-names-requires : goal.index-names-requires
index-names-requires c =
    let h = has_index c.args.text.now (types_in c.args.scope.now.types) c.args.scope.now.members.items c.args.scope.now.named.items c.args.n c.requires.members (rw (← c.deref.ensures.value) c.in-Some-Enum.ensures.lookup.3.0) in
    omega (arith, h, c.args.scope.now.members.ok)

pub member_default-requires : goal.member_default-requires
member_default-requires c =
    let l = c.in-Some-Enum.ensures.lookup in
    let one = slice_get_read c.deref.result.now (length c.deref.result.now) c.args.n c.in-Some-Enum.field-0.now refl l.3.0 l.1 in
    let here = rw c.deref.ensures.value at one in
    let within = has_index c.args.text.now (types_in c.args.scope.now.types) c.args.scope.now.members.items c.args.scope.now.named.items c.args.n c.requires.members (rw (← c.deref.ensures.value) l.3.0) in
    let index = slice_get_read c.args.scope.now.members.items (length c.args.scope.now.members.items) c.args.n c.index-names.result.now refl within c.index-names.ensures in
    rw c.deref-2.ensures.value (index_at c.args.text.now (types_in c.args.scope.now.types) c.args.scope.now.members.items c.args.scope.now.named.items c.args.n c.index-names.result.now _ c.requires.members (here ∙ ap Some c.in-Some-Enum.field-0-is) index)

pub returns : goal.returns
returns c =
    let l = c.in-Some-Enum.ensures.lookup in
    let one = slice_get_read c.deref.result.now (length c.deref.result.now) c.args.n c.in-Some-Enum.field-0.now refl l.3.0 l.1 in
    let here = rw c.deref.ensures.value at one in
    let h = c.member_default.ensures in
    (rw c.deref-2.ensures.value at h) ∙ sym (ap (λ o. enum_members o c.args.w.now) (view_at c.args.text.now (types_in c.args.scope.now.types) c.args.scope.now.named.items c.args.n _ (here ∙ ap Some c.in-Some-Enum.field-0-is)))
