-- A pass as a whole.
use Rattle.std.proofs.Common.{◌≡◌, ℕ, ◌^◌, ◌≤◌, arith, refl, ap, sym, ◌∙◌, subst}
use Rattle.frozen_model.specs.Values.{Value}
use Rattle.frozen_model.specs.Layouts.{Layout, stride, Legal, Described, described}
use Rattle.frozen_model.specs.Packing.{bytes_for}
use Rattle.frozen_model.specs.Holding.{puts, widened, pass}
use Rattle.layout_tree.specs.declared.layouts.Layouts.{Layouts}
use Rattle.layout_tree.specs.Listing.{layout_in, settled, version_of}
use Rattle.layout_tree.specs.Nodes.{layout_of, settled_of, noted_in, IsSettled, at}
use Rattle.layout_tree.proofs.Children.{root_sub}
use Rattle.measure_pass.specs.Growing.{grown, Ready, Passable, Visited, passed}
use Rattle.measure_pass.proofs.Grown.{grown_settled}
use Rattle.measure_pass.proofs.Holes.{no_hole}
use Rattle.measure_pass.proofs.Stays.{same_version}

pub root_at : (l : Layouts) → at l 0 ≡ (layout_of l).tree
root_at l = ap (layout_in (version_of l.version)) (root_sub (noted_in l))

pub root_ready : (l : Layouts) (u : Value) (from : ℕ) → Passable (layout_of l).tree u → from
    ≡ bytes_for (stride (layout_of l).tree) → from ≤ 2 ^ 29
    → Ready (at l 0) u from
root_ready l u from p e small =
    let tree = (layout_of l).tree in
    subst (λ (x : Layout). Ready x u from) (sym (root_at l))
    (record {
      form = p.form;
      legal = subst (λ z. Legal (widened tree (puts tree u z))) (sym e) p.legal;
      small = omega (arith, small, p.small);
    })

pub settled_is : (l mid : Layouts) (u : Value) (from next : ℕ) → IsSettled l → from
    ≡ bytes_for (stride (layout_of l).tree)
    → Visited (at l 0) u l mid 0 from next → settled_of mid ≡ passed (layout_of l) u
settled_is l mid u from next sl e w =
    let v = version_of l.version in
    let tree = (layout_of l).tree in
    let ev : version_of mid.version ≡ v = same_version w.same in
    let er : mid.relaxed ≡ l.relaxed = ap (λ (d : Described). d.relaxed) w.same.layout in
    let is : noted_in mid ≡ grown v (noted_in l) (puts (at l 0) u from) = w.grew (λ s. s) no_hole (noted_in l)
    (sym (root_at l)) refl in
    let et : (settled_of mid).tree ≡ pass tree u =
    ap (λ x. layout_in x (settled (noted_in mid))) ev ∙ ap (λ t. layout_in v (settled t)) is
    ∙ grown_settled v (noted_in l) (puts (at l 0) u from)
    ∙ ap (λ (d : Described). widened d.tree (puts (at l 0) u from)) sl
    ∙ ap (λ (x : Layout). widened tree (puts x u from)) (root_at l)
    ∙ ap (λ z. widened tree (puts tree u z)) e in
    ap (λ x. described x mid.relaxed (settled_of mid).tree) ev
    ∙ ap (λ x. described v x (settled_of mid).tree) er ∙ ap (λ (x : Layout). described v l.relaxed x) et
