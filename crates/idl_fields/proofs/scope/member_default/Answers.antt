use Rattle.std.proofs.Common.{List, ℕ, length, map, refl, ap, ◌∙◌}
use Rattle.std.proofs.lemmas.Option.{slice_get_read}
use Rattle.idl_profile.specs.Judged.{member_number}
use Rattle.idl_fields.specs.View.{member_of}
use Rattle.idl_fields.proofs.MemberPlaces.{no_member, this_member}
use Rattle.idl_fields.proofs.scope.member_default.Goals as goal

pub returns-in_default : goal.returns-in_default
returns-in_default c =
    no_member c.args.text.now c.text_at.result.now c.args.w.now c.args.members.now (c.in_default.ensures _ c.requires)
    ∙ ap (λ (z : List ℕ). member_number z (map (member_of c.args.text.now) c.args.members.now) c.args.w.now) c.text_at.ensures

pub returns : goal.returns
returns c =
    let l = c.in-Some-get.ensures.lookup in
    let here = slice_get_read c.args.members.now (length c.args.members.now) c.in-Some.place c.in-Some-get.member.now refl l.3.0 l.1 in
    this_member c.args.text.now c.text_at.result.now c.args.w.now c.args.members.now c.in-Some.place c.in-Some-get.member.now (c.in-Some.ensures _ c.requires) here
    ∙ ap (λ (z : List ℕ). member_number z (map (member_of c.args.text.now) c.args.members.now) c.args.w.now) c.text_at.ensures
