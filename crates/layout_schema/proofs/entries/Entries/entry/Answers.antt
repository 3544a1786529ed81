use Rattle.std.proofs.Common.{◌≡◌, ◌∙◌, Some, sym, ap, subst}
use Rattle.idl_parse.specs.Refs.{type_of_ref}
use Rattle.type_kinds.specs.Accepted.{IsAccepted}
use Rattle.type_kinds.specs.Laws.{Any}
use Rattle.typed_tree.specs.References.{value_of_tree}
use Rattle.layout_schema.specs.Shapes.{entry_in}
use Rattle.layout_schema.specs.Standing.{spelled_as}
use Rattle.layout_schema.specs.Reading.{IsLayoutValue}
use Rattle.layout_schema.proofs.OwnSchema.{layout_accepted}
use Rattle.layout_schema.proofs.SchemaParts.{spelled_is}
use Rattle.layout_schema.proofs.entries.Entries.entry.Goals as goal

pub build-requires : goal.build-requires
build-requires c =
    let l = c.in-Some.ensures.formed in
    record { accepted = subst (IsAccepted Any) (sym l.typed) (layout_accepted Any l.version); value = l.whole }

pub returns-in-Ok : goal.returns-in-Ok
returns-in-Ok c =
    let t = type_of_ref c.args.self.ty in
    let b = c.in-Some.layout.bytes.now in
    let x = c.in-Ok.ensures in
    let same : spelled_as t b ≡ value_of_tree c.in-Ok.tree = spelled_is t b x.0 x.1 ∙ x.2.is in
    record {
      is = ap (λ v. Some (entry_in v)) (sym same) ∙ c.in-Some.ensures.is;
      formed = subst IsLayoutValue same c.in-Some.ensures.formed.layout;
      full = tt;
    }
