-- What stays while widths are noted.
use Rattle.std.proofs.Common.{◌≡◌, ℕ, refl, ap, sym, ◌∙◌, subst}
use Rattle.frozen_model.specs.Trees.{Part}
use Rattle.frozen_model.specs.Layouts.{Version, Layout, Described}
use Rattle.layout_tree.specs.declared.layouts.Layouts.{Layouts}
use Rattle.layout_tree.specs.Listing.{Noted, layout_in, version_of}
use Rattle.layout_tree.specs.Nodes.{noted_in}
use Rattle.layout_tree.proofs.Children.{Child}
use Rattle.layout_tree.proofs.Told.{part_told, told_child}
use Rattle.measure_pass.specs.Growing.{Same}

pub same_self : (l : Layouts) → Same l l
same_self l = record { layout = refl }

pub same_chain : {a b c : Layouts} → Same a b → Same b c → Same a c
same_chain p q = record { layout = q.layout ∙ p.layout }

pub same_version : {old new : Layouts} → Same old new → version_of new.version ≡ version_of old.version
same_version s = ap (λ (d : Described). d.version) s.layout

child_moved : (v : Version) (t u : Noted) (m : ℕ) (x : Layout) → layout_in v u ≡ layout_in v t → Child t v m x
    → Child u v m x
child_moved v t u m x e c = told_child v u m x (subst (λ (w : Layout). Part w 0 x m) (sym e)
    (subst (λ (y : Layout). Part (layout_in v t) 0 y m) c.is (part_told v c.node)))

pub same_child : {old new : Layouts} {m : ℕ} {x : Layout} → Same old new
    → Child (noted_in old) (version_of old.version) m x → Child (noted_in new) (version_of new.version) m x
same_child {old} {new} {m} {x} s c =
    let ev : version_of old.version ≡ version_of new.version = sym (same_version s) in
    let e : layout_in (version_of old.version) (noted_in new)
    ≡ layout_in (version_of old.version) (noted_in old) = ap (λ v. layout_in v (noted_in new)) ev
    ∙ ap (λ (d : Described). d.tree) s.layout in
    subst (λ v. Child (noted_in new) v m x) ev
    (child_moved (version_of old.version) (noted_in old) (noted_in new) m x e c)
