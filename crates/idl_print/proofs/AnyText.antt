-- What the code writes is the text of the trees.
use Rattle.std.proofs.Common.{◌≡◌, ℕ, zero, suc, ◌+◌, ◌<◌, ◌≤◌, List, [], ◌∷◌, ◌++◌, length, refl, sym, ap, ◌∙◌, arith, append_assoc, append-nil, length-append, take, drop, get_or, drop-cons}
use Rattle.std.specs.Prelude.{codes}
use Rattle.std.specs.List.{flat_map}
use Rattle.std.specs.Fmt.{signed_decimal}
use Rattle.std.proofs.lemmas.List.{drop_all}
use Rattle.std.proofs.lemmas.List.Concat.{flat_map-append}
use Rattle.idl_profile.specs.Meaning as m
use Rattle.idl_profile.specs.Types as types
use Rattle.idl_profile.specs.Types.{TypeTree, field_list}
use Rattle.idl_profile.specs.Measures.{at, tree, fields, named_of, named_tree}
use Rattle.idl_fields.specs.declared.draft.DraftNamed as draft
use Rattle.idl_fields.specs.View.{named_of as view, nameds_of}
use Rattle.idl_parse.specs.Parsed.{nameds, definition_in}
use Rattle.idl_profile.proofs.Growing.{grown}
use Rattle.idl_print.specs.Printed as p
use Rattle.idl_print.specs.Printed.{newline, need_text, member_text}
use Rattle.idl_print.specs.Written.{name_at, type_text, empty_text, default_text, field_text, named_text, written_behind}
use Rattle.idl_parse.proofs.Rooting.{nameds-append}
use Rattle.idl_print.proofs.SameText.{scalar-same, scalar-empty, name-same}

-- the trees are those of the enums and structs, and beyond them there is a bool
abbrev Stand : List m.MeantNamed → List TypeTree → Type 0
Stand ns ts = (n : ℕ) → (p.type_text (at ts n) ≡ name_at ns n) × (p.empty_text (at ts n) ≡ codes "{}")

module _ (ns : List m.MeantNamed) (ts : List TypeTree) (st : Stand ns ts) where
  type-same : (t : m.Ty) → p.type_text (tree ts t) ≡ type_text ns t
  type-same (m.scalar s) = scalar-same s
  type-same (m.enum n) = (st n).0
  type-same (m.struct n) = (st n).0
  type-same (m.list x) = ap (λ (z : List ℕ). codes "list<" ++ z ++ codes ">") (type-same x)
  type-same (m.set x) = ap (λ (z : List ℕ). codes "set<" ++ z ++ codes ">") (type-same x)
  type-same (m.map x y) =
      ap (λ (z : List ℕ). codes "map<" ++ z ++ codes "," ++ p.type_text (tree ts y) ++ codes ">") (type-same x)
      ∙ ap (λ (z : List ℕ). codes "map<" ++ type_text ns x ++ codes "," ++ z ++ codes ">") (type-same y)

  empty-same : (t : m.Ty) → p.empty_text (tree ts t) ≡ empty_text t
  empty-same (m.scalar s) = scalar-empty s
  empty-same (m.enum n) = (st n).1
  empty-same (m.struct n) = (st n).1
  empty-same (m.list x) = refl
  empty-same (m.set x) = refl
  empty-same (m.map x y) = refl

  default-same : (t : m.Ty) (d : types.Default) → p.default_text (tree ts t) d ≡ default_text t d
  default-same t types.without = refl
  default-same t (types.flag_default b) = refl
  default-same t (types.int_default z) = refl
  default-same t (types.text_default x) = refl
  default-same t types.empty_default = ap (λ (z : List ℕ). codes " = " ++ z) (empty-same t)

  abbrev line : m.MeantField → List ℕ → List ℕ → List ℕ
  line f t d = codes "  " ++ signed_decimal f.id ++ codes ": " ++ need_text f.need ++ t ++ codes " " ++ f.name ++ d ++ codes ";" ++ newline

  fields-same : (fs : List m.MeantField) → flat_map p.field_text (field_list (fields ts fs)) ≡ flat_map (field_text ns) fs
  fields-same [] = refl
  fields-same (f ∷ fs) =
      let one : line f (p.type_text (tree ts f.type)) (p.default_text (tree ts f.type) f.default) ≡ line f (type_text ns f.type) (default_text f.type f.default) =
      ap (λ (z : List ℕ). line f z (p.default_text (tree ts f.type) f.default)) (type-same f.type) ∙ ap (λ (z : List ℕ). line f (type_text ns f.type) z) (default-same f.type f.default)
      in
      ap (λ (z : List ℕ). z ++ flat_map p.field_text (field_list (fields ts fs))) one ∙ ap (λ (z : List ℕ). line f (type_text ns f.type) (default_text f.type f.default) ++ z) (fields-same fs)

  named-same : (n : m.MeantNamed) → p.named_text (named_of ts n) ≡ named_text ns n
  named-same (m.enum_of w xs) = refl
  named-same (m.struct_of w fs) = ap (λ (z : List ℕ). codes "struct " ++ w ++ codes " {" ++ newline ++ z ++ codes "}" ++ newline) (fields-same fs)

same-append : (ns ms : List m.MeantNamed) (ts us : List TypeTree) → length ts ≡ length ns → ((n : ℕ) → n < length ts → (p.type_text (at ts n) ≡ name_at ns n) × (p.empty_text (at ts n) ≡ codes "{}")) → Stand ms us → Stand (ns ++ ms) (ts ++ us)
same-append [] ms [] us len st h n = h n
same-append [] ms (t ∷ ts) us len st h n = absurd (omega arith)
same-append (x ∷ ns) ms [] us len st h n = absurd (omega arith)
same-append (x ∷ ns) ms (t ∷ ts) us len st h zero = st zero (omega arith)
same-append (x ∷ ns) ms (t ∷ ts) us len st h (suc n) = same-append ns ms ts us (omega arith) (λ k lt. st (suc k) (omega arith)) h n

last-stands : (ts : List TypeTree) (n : m.MeantNamed) → Stand (n ∷ []) (named_tree ts n ∷ [])
last-stands ts n zero = (name-same ts n, refl)
last-stands ts n (suc i) = (refl, refl)

stand-push : (ns : List m.MeantNamed) (ts : List TypeTree) (n : m.MeantNamed) → length ts ≡ length ns → Stand ns ts → Stand (ns ++ n ∷ []) (ts ++ named_tree ts n ∷ [])
stand-push ns ts n len st = same-append ns (n ∷ []) ts (named_tree ts n ∷ []) len (λ k lt. st k) (last-stands ts n)

all-same : (before ns : List m.MeantNamed) (ts : List TypeTree) → length ts ≡ length before → Stand before ts → p.printed (nameds (grown ts ns)) ≡ p.printed (nameds ts) ++ written_behind before ns
all-same before [] ts len st = sym (append-nil (p.printed (nameds ts)))
all-same before (n ∷ ns) ts len st =
    let us : List TypeTree = ts ++ named_tree ts n ∷ [] in
    let len2 : length us ≡ length (before ++ n ∷ []) = omega (arith, length-append ts (named_tree ts n ∷ []), length-append before (n ∷ [])) in
    let ih = all-same (before ++ n ∷ []) ns us len2 (stand-push before ts n len st) in
    let one : p.printed (nameds us) ≡ p.printed (nameds ts) ++ (named_text before n ++ []) =
    ap p.printed (nameds-append ts (named_tree ts n ∷ [])) ∙ flat_map-append p.named_text (nameds ts) (named_of ts n ∷ []) ∙ ap (λ (z : List ℕ). p.printed (nameds ts) ++ (z ++ [])) (named-same before ts st n)
    in
    ih ∙ ap (λ (z : List ℕ). z ++ written_behind (before ++ n ∷ []) ns) one ∙ simp (append_assoc, append-nil)

pub any_text : (ns : List m.MeantNamed) → written_behind [] ns ≡ p.printed (definition_in ns)
any_text ns = sym (all-same [] ns [] refl (λ n. (refl, refl)))

-- ---- the loop

-- what is still to be written at a place
abbrev pub still : List ℕ → List m.Ty → List draft.DraftNamed → ℕ → List ℕ
still text vs xs i = written_behind (nameds_of text vs (take i xs)) (nameds_of text vs (drop i xs))

nameds-append-view : (text : List ℕ) (vs : List m.Ty) (xs ys : List draft.DraftNamed) → nameds_of text vs (xs ++ ys) ≡ nameds_of text vs xs ++ nameds_of text vs ys
nameds-append-view text vs [] ys = refl
nameds-append-view text vs (x ∷ xs) ys = ap (λ (z : List m.MeantNamed). view text vs x ∷ z) (nameds-append-view text vs xs ys)

take-next : (xs : List draft.DraftNamed) (i : ℕ) (x : draft.DraftNamed) → i < length xs → x ≡ get_or xs i x → take (suc i) xs ≡ take i xs ++ x ∷ []
take-next [] i x h e = absurd (omega arith)
take-next (y ∷ xs) zero x h e = ap (λ (z : draft.DraftNamed). z ∷ []) (sym e)
take-next (y ∷ xs) (suc i) x h e = ap (λ (z : List draft.DraftNamed). y ∷ z) (take-next xs i x (omega arith) e)

pub still_more : (text : List ℕ) (vs : List m.Ty) (xs : List draft.DraftNamed) (i : ℕ) (x : draft.DraftNamed) (out new goal : List ℕ) → i < length xs → x ≡ get_or xs i x → new ≡ out ++ named_text (nameds_of text vs (take i xs)) (view text vs x) → out ++ still text vs xs i ≡ goal
    → new ++ still text vs xs (i + 1) ≡ goal
still_more text vs xs i x out new goal lt is e h =
    let k : i + 1 ≡ suc i = omega arith in
    let d : drop i xs ≡ x ∷ drop (suc i) xs = drop-cons xs i x lt ∙ ap (λ (z : draft.DraftNamed). z ∷ drop (suc i) xs) (sym is) in
    let t : nameds_of text vs (take (suc i) xs) ≡ nameds_of text vs (take i xs) ++ view text vs x ∷ [] = ap (nameds_of text vs) (take-next xs i x lt is) ∙ nameds-append-view text vs (take i xs) (x ∷ []) in
    let here : still text vs xs i ≡ named_text (nameds_of text vs (take i xs)) (view text vs x) ++ still text vs xs (suc i) =
    ap (λ (zs : List draft.DraftNamed). written_behind (nameds_of text vs (take i xs)) (nameds_of text vs zs)) d
    ∙ ap (λ (zs : List m.MeantNamed). named_text (nameds_of text vs (take i xs)) (view text vs x) ++ written_behind zs (nameds_of text vs (drop (suc i) xs))) (sym t)
    in
    rw (k, e) (append_assoc out (named_text (nameds_of text vs (take i xs)) (view text vs x)) (still text vs xs (suc i)) ∙ ap (λ (z : List ℕ). out ++ z) (sym here) ∙ h)

pub still_none : (text : List ℕ) (vs : List m.Ty) (xs : List draft.DraftNamed) (i : ℕ) (out goal : List ℕ) → length xs ≤ i → out ++ still text vs xs i ≡ goal → out ≡ goal
still_none text vs xs i out goal le h = sym (append-nil out) ∙ ap (λ (zs : List draft.DraftNamed). out ++ written_behind (nameds_of text vs (take i xs)) (nameds_of text vs zs)) (sym (drop_all i xs le)) ∙ h
