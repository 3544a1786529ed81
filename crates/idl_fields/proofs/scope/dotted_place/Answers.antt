use Rattle.std.proofs.Common.{◌++◌, ◌∷◌, ◌∙◌}
use Rattle.std.specs.Str.{bytes_eq}
use Rattle.idl_fields.proofs.MemberPlaces.{not_dotted, dotted, nowhere, alike}
use Rattle.idl_fields.proofs.scope.dotted_place.Goals as goal

pub returns-in_err-after_dot : goal.returns-in_err-after_dot
returns-in_err-after_dot c stood h =
    rw c.from_residual.ensures (nowhere (λ n. bytes_eq (c.args.name.now ++ 46 ∷ n) c.args.w.now) stood (not_dotted c.args.name.now c.args.w.now c.in_err-after_dot.ensures))

pub returns : goal.returns
returns c stood h =
    let rest = c.in_ok-after_dot.field-0.now in
    c.place_of.ensures stood h ∙ alike (λ n. bytes_eq n rest) (λ n. bytes_eq (c.args.name.now ++ 46 ∷ n) c.args.w.now) stood (dotted c.args.name.now c.args.w.now rest c.in_ok-after_dot.ensures)
