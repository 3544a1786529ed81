use Rattle.std.proofs.Common.{◌≡◌, ◌++◌, ◌∷◌, ◌∙◌, ap, sym, min, rules}
use Rattle.std.specs.Prelude.{Some}
use Rattle.std.specs.Str.{bytes_eq}
use Rattle.idl_fields.proofs.MemberPlaces.{lesser, first_alone, second_alone}
use Rattle.idl_fields.proofs.scope.member_place.Goals as goal

pub returns-in-Some-Some : goal.returns-in-Some-Some
returns-in-Some-Some c stood h =
    let e : c.min.result ≡ min c.in-Some-Some.alone c.in-Some-Some.dotted = search rules in
    ap Some e ∙ lesser (λ n. bytes_eq n c.args.w.now) (λ n. bytes_eq (c.args.name.now ++ 46 ∷ n) c.args.w.now) stood _ _ (c.in-Some-Some.ensures stood h) (c.in-Some-Some.ensures' stood h)

pub returns-in-Some-None : goal.returns-in-Some-None
returns-in-Some-None c stood h =
    first_alone (λ n. bytes_eq n c.args.w.now) (λ n. bytes_eq (c.args.name.now ++ 46 ∷ n) c.args.w.now) stood _ (c.in-Some-None.ensures stood h) (c.in-Some-None.ensures' stood h)

pub returns-in-None-default : goal.returns-in-None-default
returns-in-None-default c stood h =
    c.dotted_place.ensures stood h ∙ second_alone (λ n. bytes_eq n c.args.w.now) (λ n. bytes_eq (c.args.name.now ++ 46 ∷ n) c.args.w.now) stood (sym c.in-None-default.is-0 ∙ c.place_of.ensures stood h)
