use Rattle.std.proofs.Common.{◌≡◌, ◌∙◌, refl, sym, ap, subst, Ok}
use Rattle.std.specs.Prelude.{IsOk}
use Rattle.idl_profile.specs.Types.{root_of}
use Rattle.idl_parse.specs.Parsed.{definition_of}
use Rattle.idl_parse.specs.Refs.{type_of_ref}
use Rattle.path_text.specs.Views.{path_of}
use Rattle.path_text.specs.Fitting.{fitted}
use Rattle.evolve.specs.Lenses.{type_of_lens, value_of_lens}
use Rattle.frozen_cli.specs.Stages.{StageGives}
use Rattle.frozen_cli.specs.Reply.{PartStage, ShowsValue}
use Rattle.frozen_cli.proofs.Joins.{gives_then_at}
use Rattle.frozen_cli.proofs.Leading.{leads_fitted, leads_once, items_shown}
use Rattle.frozen_cli.proofs.answer.shown_part.Goals as goal

pub part-requires-clause-fits : goal.part-requires-clause-fits
part-requires-clause-fits c =
    let p = path_of c.args.path.now in
    let root = root_of (definition_of c.args.def.now) in
    let fits = leads_fitted c.args.showing root (type_of_ref c.args.ty) p c.requires.leads in
    subst IsOk (sym fits ∙ ap (λ t. fitted t p) (sym c.requires.root)) refl

pub shown_value-requires : goal.shown_value-requires
shown_value-requires c is =
    let p = path_of c.args.path.now in
    let root = root_of (definition_of c.args.def.now) in
    let l = c.in_ok-part.part in
    let fits = leads_fitted c.args.showing root (type_of_ref c.args.ty) p c.requires.leads in
    let same : type_of_ref c.args.ty ≡ type_of_lens l =
    leads_once root (type_of_ref c.args.ty) (type_of_lens l) p fits
    (ap (λ t. fitted t p) (sym c.requires.root) ∙ c.in_ok-part.ensures.typed) in
    items_shown c.args.showing root p l (c.requires.leads ∙ ap (λ t. Ok t) same) is

pub returns-clause-gives : goal.returns-clause-gives
returns-clause-gives c =
    let d = definition_of c.args.def.now in
    let p = path_of c.args.path.now in
    let root = root_of d in
    let l = c.in_ok-part.part in
    let ty = type_of_ref c.args.ty in
    let fits = leads_fitted c.args.showing root ty p c.requires.leads in
    let same : ty ≡ type_of_lens l =
    leads_once root ty (type_of_lens l) p fits
    (ap (λ t. fitted t p) (sym c.requires.root) ∙ c.in_ok-part.ensures.typed) in
    gives_then_at (λ out. out.items) (PartStage d p (value_of_lens c.args.root))
    (ShowsValue c.args.showing ty)
    (value_of_lens l) c.shown_value.result c.in_ok-part.ensures.gives
    (subst (λ t. StageGives (λ out. out.items) (ShowsValue c.args.showing t
    (value_of_lens l)) c.shown_value.result)
    (sym same) c.shown_value.ensures.gives)
