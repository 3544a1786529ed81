-- The nodes that a schema's value says, or the number at fault, by the walk from the root.
use Rattle.std.proofs.Common.{◌≡◌, ◌≢◌, ℕ, Bool, true, false, List, [], ◌++◌, length, Some, None, Result, Ok, Err, refl, sym, subst, ap, ◌∙◌, w64}
use Rattle.std.specs.Prelude.{ℤ, pos, IfErr}
use mir.Val.{to_z, of_z}
use Rattle.std.specs.Ordering.{int_eq}
use Rattle.std.proofs.lemmas.Bool.Decides.{Decides-int_eq}
use Rattle.frozen_model.specs.Values.{Value, Values, One, Number, nth}
use Rattle.typed_tree.specs.Parts.{fields_of}
use Rattle.compact_codec.specs.Wire.{number_in}
use Rattle.layout_tree.specs.declared.node.NodeSpec.{NodeSpec}
use Rattle.layout_schema.specs.declared.fault.SchemaFault.{SchemaFault}
use Rattle.layout_schema.specs.declared.fault.SchemaFault.TheVariants as fault
use Rattle.layout_schema.specs.declared.walk.Widths.{Widths}
use Rattle.layout_schema.specs.Shapes.{Walked, layouts_in, root_in, walk_part, at_root, unwalked, no_other, all_walked, shape_in}
use Rattle.layout_schema.specs.Reading.{walked, IsSchemaValue, IsAtFault, Walks}
use Rattle.layout_schema.proofs.ReadEntries.{schema_form, word_16}

-- ---- the root's number

pub other_root : (s : Value) (r : ℤ) → root_in s ≡ r → r ≢ pos 0 → shape_in s ≡ Err r
other_root s r is other = by_test (int_eq (root_in s) (pos 0)) refl
  where
    by_test : (b : Bool) → int_eq (root_in s) (pos 0) ≡ b → shape_in s ≡ Err r
    by_test true t = absurd (other (sym is ∙ (Decides-int_eq (root_in s) (pos 0)).0 t))
    by_test false t = rw t (ap Err is)

pub root_is_zero : (s : Value) → IsSchemaValue s → (z : ℤ) → nth (fields_of s) 2 ≡ One (Number z) → of_z w64 z ≡ 0 → root_in s ≡ pos 0
root_is_zero s h z e zero = ap number_in e ∙ sym (word_16 (schema_form s h).root e) ∙ ap (to_z w64) zero

-- ---- the walk from the root

-- the walk goes over a schema's layouts, its root is the layout 0, and there are no nodes before
pub record IsFromRoot (s : Value) (ls : Values) (old : List NodeSpec) : Type 0 where
  pub root : root_in s ≡ pos 0
  pub layouts : ls ≡ layouts_in s
  pub none : old ≡ []

all_faulty : (f : SchemaFault) (ls : Values) (r : Result Walked ℤ) → IsAtFault f r → IsAtFault f (all_walked ls r)
all_faulty (fault.Shape z) ls r e = rw e refl
all_faulty fault.NoMemory ls r e = tt
all_faulty (fault.Spelling x) ls r e = absurd e
all_faulty (fault.Fields x) ls r e = absurd e
all_faulty (fault.Version x) ls r e = absurd e

-- all nodes are those of the part that is walked
all_nodes : (old new : List NodeSpec) (w : Widths) (r : Result Walked ℤ) → old ≡ [] → Walks old new (Ok w) r → r ≡ Ok (walked new w)
all_nodes old new w r none (ns, more, is) = is ∙ ap (λ m. Ok (walked m w)) (sym (more ∙ ap (λ m. m ++ ns) none))

root_walked : (s : Value) → root_in s ≡ pos 0 → shape_in s ≡ all_walked (layouts_in s) (walk_part (layouts_in s) 4096 at_root 0)
root_walked s is = rw ((Decides-int_eq (root_in s) (pos 0)).1 is) refl

module _ (s : Value) (ls : Values) (old : List NodeSpec) (from : IsFromRoot s ls old) where
  shape_is : shape_in s ≡ all_walked ls (walk_part ls 4096 at_root (length old))
  shape_is =
      root_walked s from.root
      ∙ ap (λ ms. all_walked ms (walk_part ms 4096 at_root 0)) (sym from.layouts)
      ∙ ap (λ m. all_walked ls (walk_part ls 4096 at_root (length m))) (sym from.none)

  pub shape_faulty : (f : SchemaFault) → IsAtFault f (walk_part ls 4096 at_root (length old)) → IsAtFault f (shape_in s)
  shape_faulty f h = subst (IsAtFault f) (sym shape_is) (all_faulty f ls _ h)

  module _ (new : List NodeSpec) (w : Widths) (n : ℕ) (walks : Walks old new (Ok w) (walk_part ls 4096 at_root (length old))) (count : n ≡ length new) where
    whole : shape_in s ≡ no_other new (unwalked ls n)
    whole = shape_is ∙ ap (all_walked ls) (all_nodes old new w _ from.none walks) ∙ ap (λ m. no_other new (unwalked ls m)) (sym count)

    pub shape_left : (z : ℤ) → unwalked ls n ≡ Some z → shape_in s ≡ Err z
    shape_left z left = whole ∙ ap (no_other new) left

    pub shape_whole : unwalked ls n ≡ None → shape_in s ≡ Ok new
    shape_whole left = whole ∙ ap (no_other new) left

-- what is given back is the fault
pub err_at_fault : {X : Type 0} (r : Result X SchemaFault) (f g : SchemaFault) (q : Result (List NodeSpec) ℤ) → r ≡ Err g → g ≡ f → IsAtFault f q → IfErr r (λ h. IsAtFault h q)
err_at_fault r f g q is same h = subst (λ p. IfErr p (λ h. IsAtFault h q)) (sym is) (subst (λ e. IsAtFault e q) (sym same) h)
