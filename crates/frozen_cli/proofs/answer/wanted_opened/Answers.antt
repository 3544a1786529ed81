use Rattle.std.proofs.Common.{◌∙◌, sym, ap, subst, length}
use Rattle.idl_profile.specs.Types.{root_of}
use Rattle.idl_parse.specs.Parsed.{definition_of}
use Rattle.frozen_model.specs.Values.{cells}
use Rattle.frozen_laws.proofs.Opening.{packed_length}
use Rattle.path_text.specs.Views.{path_of}
use Rattle.type_kinds.specs.KindsOf.{kinds_of}
use Rattle.typed_tree.specs.Sizes.{capped}
use Rattle.evolve.specs.Lenses.{value_of_lens}
use Rattle.frozen_cli.specs.Opened.{value_held, file_held, value_under}
use Rattle.frozen_cli.specs.Stages.{StageGives}
use Rattle.frozen_cli.specs.Reply.{BindStage, Answers, ShowsPart, Thaws, Writes, check_line}
use Rattle.frozen_cli.specs.Words.{wanted_in}
use Rattle.frozen_cli.proofs.Joins.{gives_then_at}
use Rattle.frozen_cli.proofs.answer.wanted_opened.Goals as goal

pub returns-in-Part-clause-gives : goal.returns-in-Part-clause-gives
returns-in-Part-clause-gives c =
    let d = definition_of c.args.def.now in
    let o = c.args.opened.now in
    let value = c.root_lens-root.ensures.value (value_held o) c.requires.held in
    let p = path_of c.in-Part.path.now in
    let shown = subst (λ v. StageGives (λ out. out.items) (ShowsPart c.in-Part.showing d p v)
    c.shown_at.result)
    value c.shown_at.ensures.gives in
    gives_then_at (λ out. out.items) (BindStage d (file_held o)) (Answers (wanted_in c.args.want) d
    (file_held o))
    (value_under d o) c.shown_at.result c.in_ok-plan.ensures.gives
    (subst (λ w. StageGives (λ out. out.items) (Answers (wanted_in w) d (file_held o) (value_under d o))
    c.shown_at.result) (sym c.in-Part.is) shown)

pub returns-in-Whole-clause-gives : goal.returns-in-Whole-clause-gives
returns-in-Whole-clause-gives c =
    let d = definition_of c.args.def.now in
    let o = c.args.opened.now in
    let value = c.root_lens-root.ensures.value (value_held o) c.requires.held in
    let of_root = subst (λ t. StageGives (λ out. out.items) (Thaws t (value_of_lens c.root_lens-root.result))
    c.thawed.result) c.root_lens-root.ensures.typed c.thawed.ensures.gives in
    let thawed = subst (λ v. StageGives (λ out. out.items) (Thaws (root_of d) v) c.thawed.result) value
    of_root in
    gives_then_at (λ out. out.items) (BindStage d (file_held o)) (Answers (wanted_in c.args.want) d
    (file_held o))
    (value_under d o) c.thawed.result c.in_ok-plan.ensures.gives
    (subst (λ w. StageGives (λ out. out.items) (Answers (wanted_in w) d (file_held o) (value_under d o))
    c.thawed.result) (sym c.in-Whole.is) thawed)

pub returns-clause-gives : goal.returns-clause-gives
returns-clause-gives c =
    let d = definition_of c.args.def.now in
    let root = root_of d in
    let o = c.args.opened.now in
    let l = c.root_lens-root.result in
    let value = c.root_lens-root.ensures.value (value_held o) c.requires.held in
    let bytes = packed_length o.content.now c.requires.held.holds.of_kind c.requires.held.packed in
    let line = ap (λ t. check_line (capped (cells (kinds_of t) (value_of_lens l))) (length o.content.now))
    c.root_lens-root.ensures.typed
    ∙ ap (λ v. check_line (capped (cells (kinds_of root) v)) (length o.content.now)) value
    ∙ ap (check_line (capped (cells (kinds_of root) (value_under d o)))) bytes in
    gives_then_at (λ out. out.items) (BindStage d (file_held o)) (Answers (wanted_in c.args.want) d
    (file_held o))
    (value_under d o) c.checked.result c.in_ok-plan.ensures.gives
    (subst (λ w. StageGives (λ out. out.items) (Answers (wanted_in w) d (file_held o) (value_under d o))
    c.checked.result) (sym c.in-Sizes.is)
    (subst (λ out. StageGives (λ out. out.items) (Writes out) c.checked.result) line c.checked.ensures.gives))
