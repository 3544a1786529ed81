use Rattle.std.proofs.Common.{◌≡◌, ◌<◌, true, false, ◌&&◌, drop, length, get_or, ◌+◌, arith, refl, ap, sym}
use Rattle.std.proofs.Common.{◌∙◌}
use Rattle.frozen_model.specs.Layouts.{Layout, Described, described}
use Rattle.layout_tree.specs.Listing.{version_of}
use Rattle.layout_tree.specs.Rest.{rests_in, all_rest}
use Rattle.layout_tree.proofs.Resting.{rest_step, rest_settled, settled_rest, rest_end}
use Rattle.layout_tree.proofs.layouts.Layouts.is_settled.Goals as goal

pub returns-then-not-rests : goal.returns-then-not-rests
returns-then-not-rests c =
    let l = c.args.self.now in
    let ns = l.nodes.items in
    let i = c.loop-i.i in
    let lt : i < length ns = omega (arith, c.loop-i-test.true, c.len.ensures, l.nodes.ok.0) in
    let f : c.rests.result ≡ false = c.if-not-rests.true in
    let g : rests_in (get_or ns i c.index.result.now)
    ≡ false = sym (c.rests.ensures ∙ ap rests_in c.index.ensures) ∙ f in
    let no : all_rest ns ≡ false = c.loop-i.invariant ∙ rest_step ns i c.index.result.now lt
    ∙ ap (λ z. z && all_rest (drop (i + 1) ns)) g in (
      λ h. absurd cc,
      λ e. let y = settled_rest (version_of l.version) ns l.listing
          (ap (λ (d : Described). d.tree) e) in let z : true ≡ false = sym y ∙ no in absurd cc,
    )

pub returns : goal.returns
returns c =
    let l = c.args.self.now in
    let ns = l.nodes.items in
    let yes : all_rest ns ≡ true = c.loop-i.invariant
    ∙ rest_end ns c.loop-i.i (omega (arith, c.loop-i-test.false, c.len.ensures, l.nodes.ok.0)) in (
      λ h. ap (λ (m : Layout). described (version_of l.version) l.relaxed m)
          (rest_settled (version_of l.version) ns l.listing yes),
      λ e. refl,
    )
