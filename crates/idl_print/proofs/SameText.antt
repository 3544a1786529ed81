-- What the code writes of a proper definition is its text.
use Rattle.std.proofs.Common.{◌≡◌, ◌⊎◌, inl, inr, ℕ, zero, suc, ◌<◌, Bool, true, false, List, [], ◌∷◌, ◌++◌, length, Some, refl, sym, ap, ◌∙◌, arith, append_assoc, append-nil, length-append}
use Rattle.std.specs.Prelude.{codes, slice_get}
use Rattle.std.specs.List.{flat_map}
use Rattle.std.specs.Fmt.{signed_decimal}
use Rattle.std.proofs.lemmas.List.Concat.{flat_map-append}
use Rattle.idl_profile.specs.declared.kinds.BaseType.{BaseType}
use Rattle.idl_profile.specs.declared.kinds.BaseType.TheVariants as k
use Rattle.idl_profile.specs.Meaning as m
use Rattle.idl_profile.specs.Types as types
use Rattle.idl_profile.specs.Types.{TypeTree, field_list}
use Rattle.idl_profile.specs.Measures.{scalar_tree, at, tree, fields, named_of, named_tree}
use Rattle.idl_parse.specs.Parsed.{nameds, definition_in}
use Rattle.idl_parse.proofs.Standing.{at_front, at_last}
use Rattle.idl_parse.proofs.Rooting.{nameds-append}
use Rattle.idl_proper.proofs.Lists.{get-here, get-last}
use Rattle.idl_profile.proofs.Growing.{grown}
use Rattle.idl_print.specs.Printed as p
use Rattle.idl_print.specs.Printed.{newline, need_text, member_text}
use Rattle.idl_proper.specs.Proper.{AllFit, FieldFits, IsProper, name, NamedFits, TypeFits}
use Rattle.idl_print.specs.Written.{name_at, name_if, scalar_text, type_text, empty_text, default_text, field_text, named_text, written}
use Rattle.idl_profile.proofs.Each.{Each}

-- the tree at a number is that of the enum or struct there
abbrev Knows : List m.MeantNamed → List m.MeantNamed → List TypeTree → Type 0
Knows all ns ts = (n : ℕ) (x : m.MeantNamed) → slice_get ns n ≡ Some x → (y : types.Named) × (at ts n ≡ types.named y) × (p.name y ≡ name_at all n)

pub scalar-same : (s : BaseType) → p.type_text (scalar_tree s) ≡ scalar_text s
scalar-same k.Flag = refl
scalar-same k.I8 = refl
scalar-same k.I16 = refl
scalar-same k.I32 = refl
scalar-same k.I64 = refl
scalar-same k.Text = refl
scalar-same k.Bytes = refl

pub scalar-empty : (s : BaseType) → p.empty_text (scalar_tree s) ≡ codes "{}"
scalar-empty k.Flag = refl
scalar-empty k.I8 = refl
scalar-empty k.I16 = refl
scalar-empty k.I32 = refl
scalar-empty k.I64 = refl
scalar-empty k.Text = refl
scalar-empty k.Bytes = refl

module _ (all ns : List m.MeantNamed) (ts : List TypeTree) (kn : Knows all ns ts) where
  type-same : (key : Bool) (t : m.Ty) → TypeFits ns key t → p.type_text (tree ts t) ≡ type_text all t
  type-same key (m.scalar s) h = scalar-same s
  type-same key (m.enum n) h = let a = kn n (m.enum_of h.0 h.1) h.2 in ap p.type_text a.1 ∙ a.2
  type-same key (m.struct n) h = let a = kn n (m.struct_of h.0 h.1) h.2 in ap p.type_text a.1 ∙ a.2
  type-same key (m.list x) h = ap (λ (z : List ℕ). codes "list<" ++ z ++ codes ">") (type-same false x h.1)
  type-same key (m.set x) h = ap (λ (z : List ℕ). codes "set<" ++ z ++ codes ">") (type-same true x h.1)
  type-same key (m.map x y) h =
      ap (λ (z : List ℕ). codes "map<" ++ z ++ codes "," ++ p.type_text (tree ts y) ++ codes ">") (type-same true x h.1)
      ∙ ap (λ (z : List ℕ). codes "map<" ++ type_text all x ++ codes "," ++ z ++ codes ">") (type-same false y h.2)

  empty-same : (key : Bool) (t : m.Ty) → TypeFits ns key t → p.empty_text (tree ts t) ≡ empty_text t
  empty-same key (m.scalar s) h = scalar-empty s
  empty-same key (m.enum n) h = let a = kn n (m.enum_of h.0 h.1) h.2 in ap p.empty_text a.1
  empty-same key (m.struct n) h = let a = kn n (m.struct_of h.0 h.1) h.2 in ap p.empty_text a.1
  empty-same key (m.list x) h = refl
  empty-same key (m.set x) h = refl
  empty-same key (m.map x y) h = refl

  default-same : (key : Bool) (t : m.Ty) (d : types.Default) → TypeFits ns key t → p.default_text (tree ts t) d ≡ default_text t d
  default-same key t types.without h = refl
  default-same key t (types.flag_default b) h = refl
  default-same key t (types.int_default z) h = refl
  default-same key t (types.text_default x) h = refl
  default-same key t types.empty_default h = ap (λ (z : List ℕ). codes " = " ++ z) (empty-same key t h)

  abbrev line : m.MeantField → List ℕ → List ℕ → List ℕ
  line f t d = codes "  " ++ signed_decimal f.id ++ codes ": " ++ need_text f.need ++ t ++ codes " " ++ f.name ++ d ++ codes ";" ++ newline

  fields-same : (fs : List m.MeantField) → Each (FieldFits ns) fs → flat_map p.field_text (field_list (fields ts fs)) ≡ flat_map (field_text all) fs
  fields-same [] h = refl
  fields-same (f ∷ fs) h =
      let t = type-same false f.type h.0.1 in
      let d = default-same false f.type f.default h.0.1 in
      let one : line f (p.type_text (tree ts f.type)) (p.default_text (tree ts f.type) f.default) ≡ line f (type_text all f.type) (default_text f.type f.default) =
      ap (λ (z : List ℕ). line f z (p.default_text (tree ts f.type) f.default)) t ∙ ap (λ (z : List ℕ). line f (type_text all f.type) z) d
      in
      ap (λ (z : List ℕ). z ++ flat_map p.field_text (field_list (fields ts fs))) one ∙ ap (λ (z : List ℕ). line f (type_text all f.type) (default_text f.type f.default) ++ z) (fields-same fs h.1)

  named-same : (n : m.MeantNamed) → NamedFits ns n → p.named_text (named_of ts n) ≡ named_text all n
  named-same (m.enum_of w xs) h = refl
  named-same (m.struct_of w fs) h = ap (λ (z : List ℕ). codes "struct " ++ w ++ codes " {" ++ newline ++ z ++ codes "}" ++ newline) (fields-same fs h.1)

pub get-below : {A : Type 0} (xs : List A) (x : A) (i : ℕ) → slice_get xs i ≡ Some x → i < length xs
get-below [] x i h = absurd cc
get-below (y ∷ xs) x zero h = omega arith
get-below (y ∷ xs) x (suc i) h = let k = get-below xs x i h in omega arith

pub name-same : (ts : List TypeTree) (n : m.MeantNamed) → p.name (named_of ts n) ≡ name n
name-same ts (m.enum_of w xs) = refl
name-same ts (m.struct_of w fs) = refl

knows-push : (all ns : List m.MeantNamed) (ts : List TypeTree) (n : m.MeantNamed) (after : List m.MeantNamed) → ns ++ n ∷ after ≡ all → length ts ≡ length ns → Knows all ns ts → Knows all (ns ++ n ∷ []) (ts ++ named_tree ts n ∷ [])
knows-push all ns ts n after is len kn i x e = by_place (get-last ns n x i e)
  where
    here : name_at all (length ns) ≡ name n
    here = ap (λ (z : List m.MeantNamed). name_at z (length ns)) (sym is) ∙ ap name_if (get-here ns n after)

    by_place : (slice_get ns i ≡ Some x) ⊎ ((i ≡ length ns) × (n ≡ x)) → (y : types.Named) × (at (ts ++ named_tree ts n ∷ []) i ≡ types.named y) × (p.name y ≡ name_at all i)
    by_place (inl g) =
        let a = kn i x g in
        let below = get-below ns x i g in
        (a.0, at_front ts (named_tree ts n ∷ []) i (omega arith) ∙ a.1, a.2)
    by_place (inr g) =
        let same : i ≡ length ts = g.0 ∙ sym len in
        (named_of ts n, ap (at (ts ++ named_tree ts n ∷ [])) same ∙ at_last ts (named_tree ts n), name-same ts n ∙ sym here ∙ ap (name_at all) (sym g.0))

all-same : (all before ns : List m.MeantNamed) (ts : List TypeTree) → before ++ ns ≡ all → length ts ≡ length before → Knows all before ts → AllFit before ns → p.printed (nameds (grown ts ns)) ≡ p.printed (nameds ts) ++ flat_map (named_text all) ns
all-same all before [] ts is len kn h = sym (append-nil (p.printed (nameds ts)))
all-same all before (n ∷ ns) ts is len kn h =
    let us : List TypeTree = ts ++ named_tree ts n ∷ [] in
    let is2 : (before ++ n ∷ []) ++ ns ≡ all = append_assoc before (n ∷ []) ns ∙ is in
    let len2 : length us ≡ length (before ++ n ∷ []) = omega (arith, length-append ts (named_tree ts n ∷ []), length-append before (n ∷ [])) in
    let ih = all-same all (before ++ n ∷ []) ns us is2 len2 (knows-push all before ts n ns is len kn) h.2 in
    let one : p.printed (nameds us) ≡ p.printed (nameds ts) ++ (named_text all n ++ []) =
    ap p.printed (nameds-append ts (named_tree ts n ∷ [])) ∙ flat_map-append p.named_text (nameds ts) (named_of ts n ∷ []) ∙ ap (λ (z : List ℕ). p.printed (nameds ts) ++ (z ++ [])) (named-same all before ts kn n h.0)
    in
    ih ∙ ap (λ (z : List ℕ). z ++ flat_map (named_text all) ns) one ∙ simp (append_assoc, append-nil)

pub same-text : (ns : List m.MeantNamed) → IsProper ns → p.printed (definition_in ns) ≡ written ns
same-text ns h = all-same ns [] ns [] refl refl (λ n x e. absurd cc) h
