-- The last struct stands at its number.
use Rattle.std.proofs.Common.{◌≡◌, ℕ, suc, ◌+◌, ◌<◌, ◌≤◌, ◌⊎◌, inl, inr, true, if◌then◌else◌, List, [], ◌∷◌, ◌++◌, length, take, refl, sym, ap, ◌∙◌, arith, length-append}
use Rattle.std.specs.List.{list_any}
use Rattle.std.proofs.Math.Seq.{take-length}
use Rattle.idl_profile.specs.Types as types
use Rattle.idl_profile.specs.Types.{TypeTree, scalar, flag, named, last_struct, root_of, kind_of}
use Rattle.idl_profile.specs.declared.kinds.TypeKind.TheVariants as kinds
use Rattle.idl_profile.specs.Meaning.{Ty}
use Rattle.idl_profile.specs.Measures.{at, named_tree, named_of as named_in, trees}
use Rattle.idl_fields.specs.declared.draft.DraftNamed as draft
use Rattle.idl_fields.specs.declared.draft.DraftNamed.TheVariants as n
use Rattle.idl_fields.specs.View.{named_of, nameds_of}
use Rattle.idl_parse.specs.Drafts.{is_struct}
use Rattle.idl_parse.specs.Roots.{last_place}
use Rattle.idl_parse.specs.Parsed.{nameds}
use Rattle.idl_parse.proofs.Standing.{grown, at_front, at_last, at_none}

pub nameds-append : (ts us : List TypeTree) → nameds (ts ++ us) ≡ nameds ts ++ nameds us
nameds-append [] us = refl
nameds-append (named x ∷ ts) us = ap (λ (z : List types.Named). x ∷ z) (nameds-append ts us)
nameds-append (scalar s ∷ ts) us = nameds-append ts us
nameds-append (types.text ∷ ts) us = nameds-append ts us
nameds-append (types.bytes ∷ ts) us = nameds-append ts us
nameds-append (types.list_of x ∷ ts) us = nameds-append ts us
nameds-append (types.set_of x ∷ ts) us = nameds-append ts us
nameds-append (types.map_of x y ∷ ts) us = nameds-append ts us

last-append : (b : TypeTree) (xs ys : List types.Named) → last_struct b (xs ++ ys) ≡ last_struct (last_struct b xs) ys
last-append b [] ys = refl
last-append b (types.enum_of w ms ∷ xs) ys = last-append b xs ys
last-append b (types.struct_of w fs ∷ xs) ys = last-append (named (types.struct_of w fs)) xs ys

abbrev root_so_far : List TypeTree → TypeTree
root_so_far ts = last_struct (scalar flag) (nameds ts)

-- the number last is that of the root so far, or beyond all
abbrev Last : ℕ → List TypeTree → ℕ → Type 0
Last bound ts last = ((last < length ts) × (at ts last ≡ root_so_far ts)) ⊎ ((bound ≤ last) × (root_so_far ts ≡ scalar flag))

grow-root : (ts : List TypeTree) (x : types.Named) → root_so_far (ts ++ named x ∷ []) ≡ last_struct (root_so_far ts) (x ∷ [])
grow-root ts x = ap (last_struct (scalar flag)) (nameds-append ts (named x ∷ [])) ∙ last-append (scalar flag) (nameds ts) (x ∷ [])

next-last : (text : List ℕ) (us : List Ty) (bound : ℕ) (ts : List TypeTree) (last : ℕ) (x : draft.DraftNamed) → length ts < bound → Last bound ts last
    → Last bound (ts ++ named_tree ts (named_of text us x) ∷ []) (if is_struct x then length ts else last)
next-last text us bound ts last (n.Struct w fs) h l =
    let t = named_tree ts (named_of text us (n.Struct w fs)) in
    inl (omega (arith, length-append ts (t ∷ [])), at_last ts t ∙ sym (grow-root ts (named_in ts (named_of text us (n.Struct w fs)))))
next-last text us bound ts last (n.Enum w ms) h (inl p) =
    let t = named_tree ts (named_of text us (n.Enum w ms)) in
    inl (omega (arith, p.0, length-append ts (t ∷ [])), at_front ts (t ∷ []) last p.0 ∙ p.1 ∙ sym (grow-root ts (named_in ts (named_of text us (n.Enum w ms)))))
next-last text us bound ts last (n.Enum w ms) h (inr p) = inr (p.0, grow-root ts (named_in ts (named_of text us (n.Enum w ms))) ∙ p.1)

root-at : (text : List ℕ) (us : List Ty) (bound : ℕ) (ts : List TypeTree) (xs : List draft.DraftNamed) (last : ℕ) → length ts + length xs ≡ bound → Last bound ts last
    → at (grown ts (nameds_of text us xs)) (last_place (length ts) last xs) ≡ root_so_far (grown ts (nameds_of text us xs))
root-at text us bound ts [] last h (inl p) = p.1
root-at text us bound ts [] last h (inr p) = at_none ts last (omega (arith, p.0)) ∙ sym p.1
root-at text us bound ts (x ∷ xs) last h l =
    let t = named_tree ts (named_of text us x) in
    let k : length (ts ++ t ∷ []) ≡ length ts + 1 = omega (arith, length-append ts (t ∷ [])) in
    let g = root-at text us bound (ts ++ t ∷ []) xs (if is_struct x then length ts else last) (omega (arith, length-append ts (t ∷ []))) (next-last text us bound ts last x (omega arith) l) in
    rw k at g

pub root-is : (text : List ℕ) (us : List Ty) (xs : List draft.DraftNamed) → at (trees (nameds_of text us xs)) (last_place 0 (length xs) xs) ≡ root_of (nameds (trees (nameds_of text us xs)))
root-is text us xs = root-at text us (length xs) [] xs (length xs) (omega arith) (inr (omega arith, refl))

-- where one is a struct, the root is one
struct-stays : (b : TypeTree) (ns : List types.Named) → kind_of b ≡ kinds.Struct → kind_of (last_struct b ns) ≡ kinds.Struct
struct-stays b [] e = e
struct-stays b (types.enum_of w ms ∷ ns) e = struct-stays b ns e
struct-stays b (types.struct_of w fs ∷ ns) e = struct-stays (named (types.struct_of w fs)) ns refl

kind-grown : (text : List ℕ) (us : List Ty) (ts : List TypeTree) (xs : List draft.DraftNamed) → (kind_of (root_so_far ts) ≡ kinds.Struct) ⊎ (list_any is_struct xs ≡ true) → kind_of (root_so_far (grown ts (nameds_of text us xs))) ≡ kinds.Struct
kind-grown text us ts [] (inl e) = e
kind-grown text us ts [] (inr e) = absurd cc
kind-grown text us ts (n.Enum w ms ∷ xs) (inl e) =
    kind-grown text us (ts ++ named_tree ts (named_of text us (n.Enum w ms)) ∷ []) xs (inl (ap kind_of (grow-root ts (named_in ts (named_of text us (n.Enum w ms)))) ∙ e))
kind-grown text us ts (n.Enum w ms ∷ xs) (inr e) = kind-grown text us (ts ++ named_tree ts (named_of text us (n.Enum w ms)) ∷ []) xs (inr e)
kind-grown text us ts (n.Struct w fs ∷ xs) s =
    kind-grown text us (ts ++ named_tree ts (named_of text us (n.Struct w fs)) ∷ []) xs (inl (ap kind_of (grow-root ts (named_in ts (named_of text us (n.Struct w fs))))))

pub root-kind : (text : List ℕ) (us : List Ty) (xs : List draft.DraftNamed) → list_any is_struct xs ≡ true → kind_of (root_of (nameds (trees (nameds_of text us xs)))) ≡ kinds.Struct
root-kind text us xs e = kind-grown text us [] xs (inr e)

pub nameds-length : (text : List ℕ) (us : List Ty) (xs : List draft.DraftNamed) → length (nameds_of text us xs) ≡ length xs
nameds-length text us [] = refl
nameds-length text us (x ∷ xs) = ap suc (nameds-length text us xs)

pub root-named : (text : List ℕ) (us : List Ty) (xs : List draft.DraftNamed) (k : ℕ) (p : ℕ) → k ≡ length xs → p ≡ last_place 0 (length xs) xs → at (trees (take k (nameds_of text us xs))) p ≡ root_of (nameds (trees (nameds_of text us xs)))
root-named text us xs k p e f =
    let t : take k (nameds_of text us xs) ≡ nameds_of text us xs = ap (λ (z : ℕ). take z (nameds_of text us xs)) (e ∙ sym (nameds-length text us xs)) ∙ take-length (nameds_of text us xs) in
    rw (t, f) (root-is text us xs)
