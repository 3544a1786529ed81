use Rattle.std.proofs.Common.{◌∙◌, ◌+◌, ◌<◌, ◌++◌, ◌∷◌, [], sym, ap, arith, rules, List, map, drop, length, false, append-nil}
use Rattle.std.specs.Prelude.{ℤ}
use Rattle.std.proofs.lemmas.Int.{to_z-of_z}
use mir.Val.{SFits}
use mir.Syntax.{w16}
use Rattle.idl_profile.specs.Types.{DefField}
use Rattle.idl_parse.specs.Refs.{fields_of_refs, field_of_ref}
use Rattle.typed_tree.specs.Sizes.{default_value}
use Rattle.typed_tree.specs.Trees.{trees}
use Rattle.compact_codec.specs.Building.{without}
use Rattle.compact_codec.proofs.Finish.{proper, passed, all_passed, left_step, left_end, one_put}
use Rattle.compact_codec.proofs.fields.fill_missing.Goals as goal

pub loop-place-init : goal.loop-place-init
loop-place-init c known m =
    let fs = fields_of_refs c.args.fields in
    let same = all_passed fs (proper c.args.fields c.requires.accepted) known (drop c.args.base c.args.marks.now) c.args.filled m c.requires.filled in (
      ap (λ (gs : List DefField). trees c.args.builder.now ++ map default_value gs) same,
      ap (λ (gs : List DefField). c.args.ids.now.items ++ map (λ (f : DefField). f.id) gs) same,
    )

pub returns-clause-trees : goal.returns-clause-trees
returns-clause-trees c known m =
    let fs = fields_of_refs c.args.fields in
    let done = left_end known fs c.loop-place.place (omega (arith, c.count-place-end.ensures, c.loop-place-test.false)) in
    sym (append-nil (trees c.loop-place.builder)) ∙ ap (λ (gs : List DefField). trees c.loop-place.builder ++ map default_value gs) (sym done) ∙ (c.loop-place.invariant known m).0

pub returns-clause-ids : goal.returns-clause-ids
returns-clause-ids c known m =
    let fs = fields_of_refs c.args.fields in
    let done = left_end known fs c.loop-place.place (omega (arith, c.count-place-end.ensures, c.loop-place-test.false)) in
    sym (append-nil c.loop-place.ids.items) ∙ ap (λ (gs : List DefField). c.loop-place.ids.items ++ map (λ (f : DefField). f.id) gs) (sym done) ∙ (c.loop-place.invariant known m).1

pub loop-place-preserved : goal.loop-place-preserved
loop-place-preserved c known m =
    let fit : SFits w16 c.id.result = search rules in
    let fs = fields_of_refs c.args.fields in
    let i = c.loop-place.place in
    let g = field_of_ref c.at-field.result in
    let p = (proper c.args.fields c.requires.accepted).placed i g c.at-field.ensures in
    let b = sym (m g.id i p).1 ∙ sym c.is_marked.ensures ∙ c.if-is_marked.false in
    let step = left_step known fs i g false c.at-field.ensures b in
    let more = without known (drop (i + 1) fs) in
    let ids = simp to_z-of_z at c.in_ok-push.ensures.items in
    let added = ids ∙ ap (λ (z : ℤ). c.loop-place.ids.items ++ z ∷ []) c.id.ensures in (
      one_put _ (trees c.loop-place.builder) (map default_value more) _ (default_value g) c.in_ok-fill.ensures.pushed.trees
          (ap (λ (gs : List DefField). trees c.loop-place.builder ++ map default_value gs) (sym step) ∙ (c.loop-place.invariant known m).0),
      one_put _ c.loop-place.ids.items (map (λ (f : DefField). f.id) more) _ g.id added
          (ap (λ (gs : List DefField). c.loop-place.ids.items ++ map (λ (f : DefField). f.id) gs) (sym step) ∙ (c.loop-place.invariant known m).1),
    )

pub loop-place-preserved-then-is_marked : goal.loop-place-preserved-then-is_marked
loop-place-preserved-then-is_marked c known m =
    let fs = fields_of_refs c.args.fields in
    let i = c.loop-place.place in
    let lt : i < length fs = omega (arith, c.count-place-end.ensures, c.loop-place-test.true) in
    let step = passed fs (proper c.args.fields c.requires.accepted) known (drop c.args.base c.args.marks.now) i m lt (sym c.is_marked.ensures ∙ c.if-is_marked.true) in (
      ap (λ (gs : List DefField). trees c.loop-place.builder ++ map default_value gs) (sym step) ∙ (c.loop-place.invariant known m).0,
      ap (λ (gs : List DefField). c.loop-place.ids.items ++ map (λ (f : DefField). f.id) gs) (sym step) ∙ (c.loop-place.invariant known m).1,
    )
