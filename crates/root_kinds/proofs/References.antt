-- What references to the types and fields of a definition stand for is accepted.
use Rattle.std.proofs.Common.{◌≡◌, ℕ, zero, suc, ◌<◌, Bool, true, false, if◌then◌else◌, List, [], ◌∷◌, ◌++◌, take, length, get_or, Option, Some, None, refl, sym, ap, ◌∙◌, subst, arith, append_assoc, append-nil}
use Rattle.std.specs.Prelude.{ℤ, int_lt, find, string_bytes}
use Rattle.std.specs.List.{Contains, list_all}
use Rattle.std.specs.Str.{IsUtf8}
use Rattle.std.specs.Ordering.{int_eq}
use Rattle.std.proofs.Math.Logic.{∥∥₁_elim, ∥∥₁_map}
use Rattle.std.proofs.Math.Nat.{ℕ_set}
use Rattle.std.proofs.Math.IntN.{ℤ_set}
use Rattle.std.proofs.Math.Bool.{Bool-set}
use mathlib.Core.HLevel.{⊥_prop}
use mathlib.Core.Sum.{⊎_set}
use mathlib.Core.List.{is_set}
use Rattle.std.proofs.lemmas.Bool.{and_parts}
use Rattle.std.proofs.lemmas.Int.{ints}
use Rattle.std.proofs.lemmas.Str.{IsUtf8-string_bytes}
use Rattle.idl_tokens.specs.Tokens.{tokens}
use Rattle.idl_profile.specs.declared.kinds.TypeKind.TheVariants as kinds
use Rattle.idl_profile.specs.Meaning as m
use Rattle.idl_profile.specs.Measures.{tree, trees, at}
use Rattle.idl_profile.specs.Types.{TypeTree, kind_of}
use Rattle.idl_profile.proofs.Had.{tokens-had}
use Rattle.idl_fields.specs.declared.draft.DraftField.{DraftField}
use Rattle.idl_fields.specs.declared.draft.DraftNamed as draft
use Rattle.idl_fields.specs.declared.draft.DraftNamed.TheVariants as n
use Rattle.idl_fields.specs.Nodes.{node_type}
use Rattle.idl_fields.specs.View as view
use Rattle.idl_fields.specs.View.{types_in, nameds_of, default_of}
use Rattle.idl_parse.specs.declared.definition.Definition.{Definition}
use Rattle.idl_parse.specs.declared.definition.TypeRef.{TypeRef}
use Rattle.idl_parse.specs.declared.definition.FieldRef.{FieldRef}
use Rattle.idl_parse.specs.Drafts.{rising, has_rising, fields_at}
use Rattle.idl_parse.specs.Parsed.{meant_of}
use Rattle.idl_parse.specs.Refs.{visible, type_of_ref, field_of_ref}
use Rattle.idl_parse.proofs.HalvingLaws.{all-rise}
use Rattle.idl_proper.specs.Proper.{AllFit, FieldFits, IsLiteral, IsProper}
use Rattle.idl_profile.proofs.Each.{Each}
use Rattle.idl_proper.proofs.Meaning.{proper-from}
use Rattle.type_kinds.specs.Accepted.{IsAccepted, IsWritten, IsWithin}
use Rattle.type_kinds.specs.Laws.{Any}
use Rattle.root_kinds.proofs.Proper as proper
use Rattle.root_kinds.proofs.Proper.{Trees}

any : (x : List ℕ) → IsLiteral x → Any x
any x l = tt

-- ---- the enums and structs before a number

pub fit_taken : (before ns : List m.MeantNamed) (j : ℕ) → AllFit before ns → AllFit before (take j ns)
fit_taken before [] zero h = tt
fit_taken before [] (suc j) h = tt
fit_taken before (x ∷ ns) zero h = tt
fit_taken before (x ∷ ns) (suc j) h = (h.0, h.1, fit_taken (before ++ x ∷ []) ns j h.2)

pub is_proper : (d : Definition) → IsProper (meant_of d)
is_proper d = proper-from (string_bytes d.text) (meant_of d) (IsUtf8-string_bytes d.text) (tokens-had (tokens (string_bytes d.text)) (meant_of d) d.meant)

module _ (P : List ℕ → Type 0) (literal : (x : List ℕ) → IsLiteral x → P x) where
  stand_before : (d : Definition) (j : ℕ) → Trees P literal (take j (meant_of d)) (visible d j)
  stand_before d j = proper.all_stand P literal [] (take j (meant_of d)) (proper.none_stand P literal) (fit_taken [] (meant_of d) j (is_proper d))

  -- ---- structs

  accepted_struct : (ts : List TypeTree) → ((i : ℕ) → IsWithin P (at ts i)) → (t : m.Ty) → kind_of (tree ts t) ≡ kinds.Struct → IsAccepted P (tree ts t)
  accepted_struct ts all (m.scalar s) e = (proper.base_typed P literal false s).accepted
  accepted_struct ts all (m.enum i) e = (all i).accepted
  accepted_struct ts all (m.struct i) e = (all i).accepted
  accepted_struct ts all (m.list x) e = absurd cc
  accepted_struct ts all (m.set x) e = absurd cc
  accepted_struct ts all (m.map x y) e = absurd cc

  struct_ref_accepted : (r : TypeRef) → kind_of (type_of_ref r) ≡ kinds.Struct → IsAccepted P (type_of_ref r)
  struct_ref_accepted r e =
      let d = r.def.now in
      accepted_struct (visible d r.within) (stand_before d r.within).all (node_type (types_in d.types) r.node) e

-- each struct that a reference stands for is accepted
pub struct_ref_is_accepted : (r : TypeRef) → kind_of (type_of_ref r) ≡ kinds.Struct → IsAccepted Any (type_of_ref r)
struct_ref_is_accepted r e = struct_ref_accepted Any any r e

-- and its written texts are UTF-8
pub struct_ref_is_utf8 : (r : TypeRef) → kind_of (type_of_ref r) ≡ kinds.Struct → IsAccepted IsUtf8 (type_of_ref r)
struct_ref_is_utf8 r e = struct_ref_accepted IsUtf8 (λ x l. l.1) r e

-- ---- fields

-- those of the struct at a number fit
fit_at : (text : List ℕ) (ts : List m.Ty) (before : List m.MeantNamed) (xs : List draft.DraftNamed) (j : ℕ) → AllFit before (nameds_of text ts xs)
    → Each (FieldFits (before ++ take j (nameds_of text ts xs))) (view.fields_of text ts (fields_at xs j))
fit_at text ts before [] j h = tt
fit_at text ts before (n.Enum w ms ∷ xs) zero h = tt
fit_at text ts before (n.Struct w fs ∷ xs) zero h = subst (λ z. Each (FieldFits z) (view.fields_of text ts fs.items)) (sym (append-nil before)) h.0.1
fit_at text ts before (x ∷ xs) (suc j) h =
    let y = view.named_of text ts x in
    subst (λ z. Each (FieldFits z) (view.fields_of text ts (fields_at xs j))) (append_assoc before (y ∷ []) (take j (nameds_of text ts xs))) (fit_at text ts (before ++ y ∷ []) xs j h.2)

rising_at : (xs : List draft.DraftNamed) (j : ℕ) → list_all has_rising xs ≡ true → rising (fields_at xs j) ≡ true
rising_at [] j h = refl
rising_at (n.Enum w ms ∷ xs) zero h = refl
rising_at (n.Struct w fs ∷ xs) zero h = (and_parts (rising fs.items) (list_all has_rising xs) h).0
rising_at (x ∷ xs) (suc j) h = rising_at xs j (and_parts (has_rising x) (list_all has_rising xs) h).1

abbrev with_id : ℤ → List DraftField → Option DraftField
with_id z fs = find (λ (f : DraftField). int_eq f.id.id z) fs

-- a field is the one that its id finds
listed_is_found : (fs : List DraftField) (f : DraftField) (j : ℕ) → rising fs ≡ true → j < length fs → get_or fs j f ≡ f → with_id f.id.id fs ≡ Some f
listed_is_found [] f j h lt e = absurd (omega (arith, lt))
listed_is_found (g ∷ gs) f zero h lt e =
    let same : int_eq g.id.id f.id.id ≡ true = (let at : g.id.id ≡ f.id.id = ap (λ (x : DraftField). x.id.id) e in grind (arith, ints)) in
    rw same (ap Some e)
listed_is_found (g ∷ gs) f (suc j) h lt e =
    let parts = and_parts (list_all (λ (x : DraftField). int_lt g.id.id x.id.id) gs) (rising gs) h in
    let low = above gs j parts.0 (omega (arith, lt)) e in
    let other : int_eq g.id.id f.id.id ≡ false = grind (arith, ints) in
    rw other (listed_is_found gs f j parts.1 (omega (arith, lt)) e)
  where
    above : (gs : List DraftField) (j : ℕ) → list_all (λ (x : DraftField). int_lt g.id.id x.id.id) gs ≡ true → j < length gs → get_or gs j f ≡ f → int_lt g.id.id f.id.id ≡ true
    above [] j h lt e = absurd (omega (arith, lt))
    above (x ∷ xs) zero h lt e = ap (λ (y : DraftField). int_lt g.id.id y.id.id) (sym e) ∙ (and_parts (int_lt g.id.id x.id.id) (list_all (λ (y : DraftField). int_lt g.id.id y.id.id) xs) h).0
    above (x ∷ xs) (suc j) h lt e = above xs j (and_parts (int_lt g.id.id x.id.id) (list_all (λ (y : DraftField). int_lt g.id.id y.id.id) xs) h).1 (omega (arith, lt)) e

field-set : IsSet DraftField
field-set = hlevel (ℕ_set, ℤ_set, Bool-set, ⊎_set, is_set)

-- what is so of each field in a list is so of one that is known to be listed, though not where
of_listed : (Q : DraftField → Type 0) (fs : List DraftField) (f : DraftField) → ((z : ℤ) (g : DraftField) → with_id z fs ≡ Some g → Q g) → rising fs ≡ true → ∥ Contains fs f ∥₁ → Q f
of_listed Q fs f each up h = by (with_id f.id.id fs) refl (∥∥₁_map h (λ c. listed_is_found fs f c.0 up c.1 c.2))
  where
    by : (o : Option DraftField) → with_id f.id.id fs ≡ o → ∥ with_id f.id.id fs ≡ Some f ∥₁ → Q f
    by None e is = absurd (∥∥₁_elim is ⊥_prop (λ s. let no : None ≡ Some f = sym e ∙ s in cc))
    by (Some g) e is = subst Q (∥∥₁_elim is (field-set g f) (λ s. let same : Some g ≡ Some f = sym e ∙ s in cc)) (each f.id.id g e)

abbrev Accepts : List ℕ → List m.Ty → List TypeTree → DraftField → Type 0
Accepts text types ts f = IsAccepted Any (tree ts (node_type types f.ty)) × IsWritten Any (tree ts (node_type types f.ty)) (default_of text f.default)

found_accepted : (text : List ℕ) (types : List m.Ty) (before : List m.MeantNamed) → Trees Any any before (trees before) → (fs : List DraftField) → Each (FieldFits before) (view.fields_of text types fs) → (z : ℤ) (g : DraftField) → with_id z fs ≡ Some g
    → Accepts text types (trees before) g
found_accepted text types before s [] h z g e = absurd cc
found_accepted text types before s (f ∷ fs) h z g e = by (found_accepted text types before s fs h.1 z g) (int_eq f.id.id z) e
  where
    by : (with_id z fs ≡ Some g → Accepts text types (trees before) g) → (b : Bool) → (if b then Some f else with_id z fs) ≡ Some g → Accepts text types (trees before) g
    by rest true e =
        let t = node_type types f.ty in
        let d = default_of text f.default in
        subst (Accepts text types (trees before)) (let same : f ≡ g = cc in same) ((proper.typed Any any before (trees before) s false t h.0.1).accepted, proper.default_written Any any before s t d h.0.1 h.0.2)
    by rest false e = rest e

-- each field that a reference stands for is of an accepted type, and its written default is one that the type may have
pub field_ref_is_accepted : (r : FieldRef) → IsAccepted Any (field_of_ref r).type × IsWritten Any (field_of_ref r).type (field_of_ref r).default
field_ref_is_accepted r =
    let d = r.def.now in
    let text = string_bytes d.text in
    let types = types_in d.types in
    let before = take r.within (meant_of d) in
    of_listed (Accepts text types (trees before)) (fields_at d.named.items r.within) r.field.now
    (found_accepted text types before (stand_before Any any d r.within) (fields_at d.named.items r.within) (fit_at text types [] d.named.items r.within (is_proper d)))
    (rising_at d.named.items r.within (all-rise d)) r.listed
