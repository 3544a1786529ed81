-- The ids of the fields of each type that a reference stands for fit.
use Rattle.std.proofs.Common.{◌≡◌, ℕ, true, List, [], ◌∷◌, ◌++◌, take, length, sym, ap, subst, arith, inl, inr, length-append, append_assoc, append-nil, ◌∙◌}
use Rattle.std.specs.List.{AllByRecursion}
use Rattle.std.proofs.lemmas.Bool.{cases_lt}
use Rattle.std.proofs.lemmas.List.Sums.{fold-append}
use Rattle.idl_profile.specs.declared.kinds.BaseType.TheVariants as k
use Rattle.idl_profile.specs.Meaning as m
use Rattle.idl_profile.specs.Types.{TypeTree, DefField, field_list, fields_of}
use Rattle.idl_profile.specs.Measures.{at, tree, trees, fields, named_tree}
use Rattle.idl_profile.proofs.Ids.{id_fits}
use Rattle.idl_fields.specs.Nodes.{node_type}
use Rattle.idl_fields.specs.View.{types_in}
use Rattle.idl_parse.specs.declared.definition.TypeRef.{TypeRef}
use Rattle.idl_parse.specs.Parsed.{meant_of}
use Rattle.idl_parse.specs.Refs.{visible, type_of_ref}
use Rattle.idl_parse.proofs.Standing.{at_front, at_last, at_none}
use Rattle.idl_profile.proofs.Each.{Each}
use Rattle.idl_proper.specs.Proper.{AllFit, FieldFits, NamedFits}
use Rattle.root_kinds.proofs.References.{is_proper, fit_taken}

abbrev pub HaveIds : TypeTree → Type 0
HaveIds t = AllByRecursion (λ (f : DefField). id_fits f.id ≡ true) (fields_of t)

of_fields : (before : List m.MeantNamed) (ts : List TypeTree) (fs : List m.MeantField) → Each (FieldFits before) fs → AllByRecursion (λ (f : DefField). id_fits f.id ≡ true) (field_list (fields ts fs))
of_fields before ts [] h = tt
of_fields before ts (f ∷ fs) h = (h.0.3, of_fields before ts fs h.1)

of_named : (before : List m.MeantNamed) (ts : List TypeTree) (n : m.MeantNamed) → NamedFits before n → HaveIds (named_tree ts n)
of_named before ts (m.enum_of w xs) h = tt
of_named before ts (m.struct_of w fs) h = of_fields before ts fs h.1

pushed : (before : List m.MeantNamed) (ts : List TypeTree) (n : m.MeantNamed) → ((i : ℕ) → HaveIds (at ts i)) → NamedFits before n → (i : ℕ) → HaveIds (at (ts ++ named_tree ts n ∷ []) i)
pushed before ts n all h i =
    let t = named_tree ts n in
    elim (cases_lt i (length ts)) [
      | inl old ↦ subst HaveIds (sym (at_front ts (t ∷ []) i old)) (all i)
      | inr far ↦ elim (cases_lt (length ts) i) [
        | inl beyond ↦ subst HaveIds (sym (at_none (ts ++ t ∷ []) i (omega (arith, length-append ts (t ∷ []))))) tt
        | inr near ↦ (let z : length ts ≡ i = omega arith in subst HaveIds (sym (ap (at (ts ++ t ∷ [])) (sym z) ∙ at_last ts t)) (of_named before ts n h))
      ]
    ]

all_have : (before ns : List m.MeantNamed) → ((i : ℕ) → HaveIds (at (trees before) i)) → AllFit before ns → (i : ℕ) → HaveIds (at (trees (before ++ ns)) i)
all_have before [] all h i = subst (λ z. HaveIds (at (trees z) i)) (sym (append-nil before)) (all i)
all_have before (n ∷ ns) all h i =
    let step = fold-append (λ ts x. ts ++ named_tree ts x ∷ []) [] before (n ∷ []) in
    let next : (j : ℕ) → HaveIds (at (trees (before ++ n ∷ [])) j) = λ j. subst (λ z. HaveIds (at z j)) (sym step) (pushed before (trees before) n all h.0 j) in
    subst (λ z. HaveIds (at (trees z) i)) (append_assoc before (n ∷ []) ns) (all_have (before ++ n ∷ []) ns next h.2 i)

of_type : (ts : List TypeTree) → ((i : ℕ) → HaveIds (at ts i)) → (t : m.Ty) → HaveIds (tree ts t)
of_type ts all (m.scalar k.Flag) = tt
of_type ts all (m.scalar k.I8) = tt
of_type ts all (m.scalar k.I16) = tt
of_type ts all (m.scalar k.I32) = tt
of_type ts all (m.scalar k.I64) = tt
of_type ts all (m.scalar k.Text) = tt
of_type ts all (m.scalar k.Bytes) = tt
of_type ts all (m.enum i) = all i
of_type ts all (m.struct i) = all i
of_type ts all (m.list x) = tt
of_type ts all (m.set x) = tt
of_type ts all (m.map x y) = tt

pub type_ref_has_ids : (r : TypeRef) → HaveIds (type_of_ref r)
type_ref_has_ids r =
    let d = r.def.now in
    of_type (visible d r.within) (all_have [] (take r.within (meant_of d)) (λ i. tt) (fit_taken [] (meant_of d) r.within (is_proper d))) (node_type (types_in d.types) r.node)
