-- A pass leaves a layout of the value's form.
use Rattle.std.proofs.Common.{◌≡◌, ◌≤◌, arith, refl, sym, subst}
use Rattle.frozen_model.specs.Trees.{Alike}
use Rattle.frozen_model.specs.Values.{Value, Of, cells, cell_limit}
use Rattle.frozen_model.specs.Layouts.{Layout, Described, stride}
use Rattle.frozen_model.specs.Packing.{bytes_for}
use Rattle.frozen_model.specs.Holding.{pass}
use Rattle.frozen_laws.proofs.Leafwise.{widened_right}
use Rattle.frozen_laws.proofs.Puts.{of_leafwise, puts_beside}
use Rattle.frozen_laws.proofs.Rests.{cells_same}
use Rattle.layout_tree.specs.declared.layouts.Layouts.{Layouts}
use Rattle.layout_tree.specs.Nodes.{layout_of}
use Rattle.measure_pass.specs.Growing.{Measurable, passed}
use Rattle.row_tests.specs.Passes.{IsFirstOf}
use Rattle.row_tests.specs.Widths.{first_of, Rests}
use Rattle.row_tests.proofs.FirstVersion.{first_measurable, first_bases}

pass_alike : (l : Layout) (v : Value) → Of l v → Alike l (pass l v)
pass_alike l v o = widened_right (λ k c xs h. tt) (λ w ns h. tt) (λ w ns h. tt) (puts_beside o (bytes_for (stride l)))

pub first_passed : (d e : Described) (v : Value) → IsFirstOf d v → e ≡ passed d v → IsFirstOf e v
first_passed d e v f is =
    let a = pass_alike d.tree v f.form in
    let p : IsFirstOf (passed d v) v = record {
      version = f.version;
      form = of_leafwise f.form a;
      few = let c = cells_same f.form a in let few = f.few in omega (arith, few, c);
    } in
    subst (λ (x : Described). IsFirstOf x v) (sym is) p

-- the layout of version 1 has the form that the layout has
pub first_form : (l : Layouts) (e : Described) (v : Value) → Of (layout_of l).tree v
    → cells (layout_of l).tree v ≤ cell_limit → e ≡ first_of l → IsFirstOf e v
first_form l e v o few is =
    let m = first_measurable l v o few in
    let f : IsFirstOf (first_of l) v = record { version = refl; form = m.form; few = m.few } in
    subst (λ (x : Described). IsFirstOf x v) (sym is) f

-- the layout of version 1 beside one that a pass leaves as it is may be measured, and where a pass leaves it as it is
-- too, it may be packed
pub first_measured : (l : Layouts) (e : Described) (v : Value) → Rests (layout_of l).tree v
    → e ≡ first_of l → Measurable e v
first_measured l e v r is = subst (λ (x : Described). Measurable x v) (sym is) (first_measurable l v r.form r.few)

pub first_rests : (l : Layouts) (e : Described) (v : Value) → Rests (layout_of l).tree v → e ≡ first_of l
    → pass e.tree v ≡ e.tree → Rests e.tree v
first_rests l e v r is same =
    let m = first_measurable l v r.form r.few in
    let rests : pass (first_of l).tree v ≡ (first_of l).tree = subst
    (λ (x : Described). pass x.tree v ≡ x.tree) is same in
    let first : Rests (first_of l).tree v = record
    { form = m.form; few = m.few; based = first_bases l v m.form; rests = rests } in
    subst (λ (x : Described). Rests x.tree v) (sym is) first
