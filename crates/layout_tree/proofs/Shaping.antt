-- Adding the nodes of types.
use Rattle.std.proofs.Common.{◌≡◌, ◌⊎◌, inl, inr, ℕ, zero, suc, ◌+◌, ◌<◌, ◌≤◌, pos, nat_abs, List, [], ◌∷◌}
use Rattle.std.proofs.Common.{◌++◌, arith, refl, ap, sym, ◌∙◌, subst, append_assoc, length, length-append}
use Rattle.std.proofs.Common.{drop, Some, slice_get}
use Rattle.std.proofs.lemmas.List.{append-nil}
use Rattle.idl_profile.specs.declared.kinds.TypeKind.{TypeKind}
use Rattle.idl_profile.specs.declared.kinds.TypeKind.TheVariants as types
use Rattle.idl_profile.specs.declared.kinds.Need.{Need}
use Rattle.idl_profile.specs.declared.kinds.Need.TheVariants as need
use Rattle.idl_profile.specs.Types.{TypeTree, scalar, text, bytes, list_of, set_of, map_of, named, enum_of}
use Rattle.idl_profile.specs.Types.{struct_of, Fields, no_fields, field, flag, i8, i16, i32, i64, DefField}
use Rattle.idl_profile.specs.Types.{field_list, fields_of, kind_of}
use Rattle.idl_parse.specs.Refs.{element_of, key_of, value_of}
use Rattle.type_kinds.specs.KindsOf.{kinds_of, kinds_of_fields}
use Rattle.frozen_model.specs.Trees.{LeafKind, Flag, Integer, I8, I16, I32, I64, Text, Binary, AList, ASet}
use Rattle.frozen_model.specs.Trees.{AMap, Leaf, ByteRange, ItemRange, Optional, Struct, NoField, Field}
use Rattle.frozen_model.specs.Trees.{KindTree, KindTrees, nodes, nodes_all, ids_of, AllFormed, Rising}
use Rattle.layout_tree.specs.declared.node.NodeSpec.{NodeSpec}
use Rattle.layout_tree.specs.declared.node.Kind.{Kind}
use Rattle.layout_tree.specs.declared.node.Kind.TheVariants as kinds
use Rattle.layout_tree.specs.Listing.{inline, inline_all, spec, kind_of as node_kind, kind_of_bytes}
use Rattle.layout_tree.specs.Listing.{kind_of_holder, nodes_of, nodes_of_all}
use Rattle.layout_tree.specs.Shapes.{blank, all_blank, kinds_by_need, field_kinds, kinds_of_list, CanAdd}
use Rattle.layout_tree.specs.Shapes.{Adds, RowIs, range_nodes, marked}
use Rattle.layout_tree.proofs.Place.{length_nodes, length_nodes_all}

mutual
  pub blank_nodes : (k : KindTree) → nodes (blank k) ≡ nodes k
  blank_nodes (Leaf k a) = refl
  blank_nodes (ByteRange t d c) = refl
  blank_nodes (ItemRange h d c l) = ap (λ n. 3 + n) (blank_nodes l)
  blank_nodes (Optional w l) = ap (λ n. 2 + n) (blank_nodes l)
  blank_nodes (Struct ls) = ap (λ n. 1 + n) (all_blank_nodes ls)

  pub all_blank_nodes : (ks : KindTrees) → nodes_all (all_blank ks) ≡ nodes_all ks
  all_blank_nodes NoField = refl
  all_blank_nodes (Field i l ls) = let e = blank_nodes l in let f = all_blank_nodes ls in cc

mutual
  pub blank_inline : (k : KindTree) → inline (blank k) ≡ 0
  blank_inline (Leaf k a) = refl
  blank_inline (ByteRange t d c) = refl
  blank_inline (ItemRange h d c l) = refl
  blank_inline (Optional w l) = omega (arith, blank_inline l)
  blank_inline (Struct ls) = all_blank_inline ls

  pub all_blank_inline : (ks : KindTrees) → inline_all (all_blank ks) ≡ 0
  all_blank_inline NoField = refl
  all_blank_inline (Field i l ls) = omega (arith, blank_inline l, all_blank_inline ls)

-- ---- kinds of types by what they are

kinds_list : (fs : Fields) → kinds_of_fields fs ≡ kinds_of_list (field_list fs)
kinds_list no_fields = refl
kinds_list (field i w need.Optional t d fs) = ap (λ ks. Field (nat_abs i) (Optional tt (kinds_of t)) ks)
    (kinds_list fs)
kinds_list (field i w need.Plain t d fs) = ap (λ ks. Field (nat_abs i) (kinds_of t) ks) (kinds_list fs)
kinds_list (field i w need.Required t d fs) = ap (λ ks. Field (nat_abs i) (kinds_of t) ks) (kinds_list fs)

abbrev pub KindsBy : TypeKind → TypeTree → Type 0
KindsBy types.Flag t = kinds_of t ≡ Leaf Flag tt
KindsBy types.I8 t = kinds_of t ≡ Leaf (Integer I8) tt
KindsBy types.I16 t = kinds_of t ≡ Leaf (Integer I16) tt
KindsBy types.I32 t = kinds_of t ≡ Leaf (Integer I32) tt
KindsBy types.I64 t = kinds_of t ≡ Leaf (Integer I64) tt
KindsBy types.Enum t = kinds_of t ≡ Leaf (Integer I32) tt
KindsBy types.Text t = kinds_of t ≡ ByteRange Text tt tt
KindsBy types.Bytes t = kinds_of t ≡ ByteRange Binary tt tt
KindsBy types.List t = kinds_of t ≡ ItemRange AList tt tt (kinds_of (element_of t))
KindsBy types.Set t = kinds_of t ≡ ItemRange ASet tt tt (kinds_of (element_of t))
KindsBy types.Map t = kinds_of t
    ≡ ItemRange AMap tt tt (Struct (Field 1 (kinds_of (key_of t)) (Field 2 (kinds_of (value_of t)) NoField)))
KindsBy types.Struct t = kinds_of t ≡ Struct (kinds_of_list (fields_of t))

by_kind : (t : TypeTree) → KindsBy (kind_of t) t
by_kind (scalar flag) = refl
by_kind (scalar i8) = refl
by_kind (scalar i16) = refl
by_kind (scalar i32) = refl
by_kind (scalar i64) = refl
by_kind text = refl
by_kind bytes = refl
by_kind (list_of x) = refl
by_kind (set_of x) = refl
by_kind (map_of x y) = refl
by_kind (named (enum_of w ms)) = refl
by_kind (named (struct_of w fs)) = ap (λ ks. Struct ks) (kinds_list fs)

-- the kinds of a type whose kind was read
pub kinds_at : (t : TypeTree) (k j : TypeKind) → k ≡ kind_of t → k ≡ j → KindsBy j t
kinds_at t k j e h = subst (λ x. KindsBy x t) (sym e ∙ h) (by_kind t)

pub kinds_are : (t : TypeTree) (j : TypeKind) → kind_of t ≡ j → KindsBy j t
kinds_are t j e = subst (λ x. KindsBy x t) e (by_kind t)

-- ---- leaves and ranges of bytes

pub leaf_added : (old new : List NodeSpec) (t : TypeTree) (k : LeafKind) (x : Kind) (p f : ℕ) → kinds_of t
    ≡ Leaf k tt → x ≡ node_kind k → new ≡ old ++ spec x f p 0 0 0 (pos 0) ∷ [] → Adds old new (kinds_of t) p f
leaf_added old new t k x p f e h w = subst (λ (y : KindTree). Adds old new y p f) (sym e)
    (w ∙ ap (λ z. old ++ spec z f p 0 0 0 (pos 0) ∷ []) h)

pub bytes_added : (old new : List NodeSpec) (t : TypeTree) (k : _) (x : Kind) (p f : ℕ) → kinds_of t
    ≡ ByteRange k tt tt → x ≡ kind_of_bytes k → new ≡ old ++ range_nodes x f p (length old)
    → Adds old new (kinds_of t) p f
bytes_added old new t k x p f e h w =
    let n = length old in
    let s : n + 3 ≡ suc (suc (suc n)) = omega arith in
    subst (λ (y : KindTree). Adds old new y p f) (sym e)
    (w ∙ ap (λ z. old ++ range_nodes z f p n) h
    ∙ ap (λ m. old ++ (spec (kind_of_bytes k) f p 0 m 0 (pos 0) ∷ spec kinds.Size 1 n 0 0 0 (pos 0)
    ∷ spec kinds.Size 2 n 0 0 0 (pos 0) ∷ [])) s)

-- ---- what stands at a node is closed once all below it is added

abbrev pub Closes : List NodeSpec → ℕ → List NodeSpec → Type 0
Closes ns i ms = (pre post : List NodeSpec) (x : NodeSpec) → length pre ≡ i → ns ≡ pre ++ x ∷ post → ms ≡ pre
    ++ marked x (length ns) ∷ post

-- the nodes of a type with its last ones, and the length
added_length : (old new : List NodeSpec) (k : KindTree) (p f : ℕ) → Adds old new k p f → length new
    ≡ length old + nodes k
added_length old new k p f h =
    omega (
      arith,
      ap length h,
      length-append old (nodes_of (blank k) kinds.Struct (length old) p f 0),
      length_nodes (blank k) kinds.Struct (length old) p f 0,
      blank_nodes k,
    )

pub row_added : (l0 l1 l2 l3 : List NodeSpec) (t : TypeTree) (k : Kind) (p f here : ℕ) (r : RowIs k t) → here
    ≡ length l0 → l1 ≡ l0 ++ range_nodes k f p (length l0) → Adds l1 l2 (kinds_of (element_of t)) here 3
    → Closes l2 here l3
    → Adds l0 l3 (kinds_of t) p f
row_added l0 l1 l2 l3 t k p f here r eh h1 h2 h3 =
    let e = kinds_of (element_of t) in
    let n = length l0 in
    let a = spec k f p 0 (n + 3) 0 (pos 0) in
    let sizes = spec kinds.Size 1 n 0 0 0 (pos 0) ∷ spec kinds.Size 2 n 0 0 0 (pos 0) ∷ [] in
    let len1 : length l1 ≡ suc (suc (suc n)) = omega (arith, ap length h1, length-append l0 (a ∷ sizes)) in
    let below = nodes_of (blank e) kinds.Struct (suc (suc (suc n))) n 3 0 in
    let l2_is : l2 ≡ l0 ++ (a ∷ (sizes ++ below)) =
    h2 ∙ ap (λ m. l1 ++ nodes_of (blank e) kinds.Struct m here 3 0) len1
    ∙ ap (λ q. l1 ++ nodes_of (blank e) kinds.Struct (suc (suc (suc n))) q 3 0) eh
    ∙ ap (λ z. z ++ below) h1 ∙ append_assoc l0 (a ∷ sizes) below in
    let len2 : length l2 ≡ suc (suc (suc n))
    + nodes (blank e) = omega (arith, added_length l1 l2 e here 3 h2, len1, blank_nodes e) in
    let l3_is : l3 ≡ l0 ++ (spec k f p 0 (suc (suc (suc n)) + nodes (blank e)) 0 (pos 0) ∷ (sizes ++ below)) =
    h3 l0 (sizes ++ below) a (sym eh) l2_is
    ∙ ap (λ m. l0 ++ (spec k f p 0 m 0 (pos 0) ∷ (sizes ++ below))) len2 in
    subst (λ (y : KindTree). Adds l0 l3 y p f) (sym r.kinds)
    (l3_is ∙ ap (λ z. l0 ++ (spec z f p 0 (suc (suc (suc n)) + nodes (blank e)) 0 (pos 0) ∷ (sizes ++ below)))
    r.named
    ∙ ap (λ z. l0 ++ (spec (kind_of_holder r.holder) f p 0 (suc (suc (suc n)) + nodes (blank e)) 0 (pos 0)
    ∷ (sizes ++ nodes_of (blank e) z (suc (suc (suc n))) n 3 0))) (sym r.plain))

-- ---- the item of a list or a set

pub row_item : (old l1 : List NodeSpec) (t : TypeTree) (k : Kind) (p f : ℕ) (r : RowIs k t)
    → CanAdd old (kinds_of t) → l1 ≡ old ++ range_nodes k f p (length old)
    → CanAdd l1 (kinds_of (element_of t))
row_item old l1 t k p f r c h =
    let c2 = subst (λ (y : KindTree). CanAdd old y) r.kinds c in
    record {
      formed = c2.formed.1;
      room = omega (arith, c2.room, ap length h, length-append old (range_nodes k f p (length old)));
    }

-- ---- optionals

pub optional_added : (l0 l1 l2 l3 l4 : List NodeSpec) (x : KindTree) (p f here : ℕ) → here ≡ length l0 → l1
    ≡ l0 ++ spec kinds.Optional f p 0 0 0 (pos 0) ∷ [] → l2 ≡ l1 ++ spec kinds.Flag 1 here 0 0 0 (pos 0) ∷ []
    → Adds l2 l3 x here 2 → Closes l3 here l4 → Adds l0 l4 (Optional tt x) p f
optional_added l0 l1 l2 l3 l4 x p f here eh h1 h2 h3 h4 =
    let n = length l0 in
    let a = spec kinds.Optional f p 0 0 0 (pos 0) in
    let b = λ (q : ℕ). spec kinds.Flag 1 q 0 0 0 (pos 0) in
    let l2_is : l2 ≡ l0 ++ (a ∷ b n ∷ []) = h2 ∙ ap (λ z. z ++ b here ∷ []) h1
    ∙ append_assoc l0 (a ∷ []) (b here ∷ []) ∙ ap (λ q. l0 ++ (a ∷ b q ∷ [])) eh in
    let len2 : length l2 ≡ suc (suc n) = omega (arith, ap length l2_is, length-append l0 (a ∷ b n ∷ [])) in
    let below = nodes_of (blank x) kinds.Struct (suc (suc n)) n 2 0 in
    let l3_is : l3 ≡ l0 ++ (a ∷ (b n ∷ below)) =
    h3 ∙ ap (λ m. l2 ++ nodes_of (blank x) kinds.Struct m here 2 0) len2
    ∙ ap (λ q. l2 ++ nodes_of (blank x) kinds.Struct (suc (suc n)) q 2 0) eh
    ∙ ap (λ z. z ++ below) l2_is ∙ append_assoc l0 (a ∷ b n ∷ []) below in
    let len3 : length l3 ≡ suc (suc n)
    + nodes (blank x) = omega (arith, added_length l2 l3 x here 2 h3, len2, blank_nodes x) in
    let none : 0 ≡ 0 + inline (blank x) = omega (arith, blank_inline x) in
    h4 l0 (b n ∷ below) a (sym eh) l3_is
    ∙ ap (λ m. l0 ++ (spec kinds.Optional f p 0 m 0 (pos 0) ∷ (b n ∷ below))) len3
    ∙ ap (λ m. l0 ++ (spec kinds.Optional f p m (suc (suc n) + nodes (blank x)) 0 (pos 0) ∷ (b n ∷ below)))
    none

-- ---- maps

pub map_added : (l0 l1 l2 l3 l4 l5 l6 : List NodeSpec) (t : TypeTree) (p f here pair : ℕ) → kinds_of t
    ≡ ItemRange AMap tt tt (Struct (Field 1 (kinds_of (key_of t)) (Field 2 (kinds_of (value_of t)) NoField)))
    → here ≡ length l0 → pair ≡ here + 3 → l1 ≡ l0 ++ range_nodes kinds.Map f p (length l0) → l2 ≡ l1
    ++ spec kinds.Pair 3 here 0 0 0 (pos 0) ∷ []
    → Adds l2 l3 (kinds_of (key_of t)) pair 1 → Adds l3 l4 (kinds_of (value_of t)) pair 2 → Closes l4 pair l5
    → Closes l5 here l6 → Adds l0 l6 (kinds_of t) p f
map_added l0 l1 l2 l3 l4 l5 l6 t p f here pair ek eh ep h1 h2 h3 h4 h5 h6 =
    let x = kinds_of (key_of t) in
    let y = kinds_of (value_of t) in
    let n = length l0 in
    let m = suc (suc (suc n)) in
    let a = λ (e : ℕ). spec kinds.Map f p 0 e 0 (pos 0) in
    let sizes = spec kinds.Size 1 n 0 0 0 (pos 0) ∷ spec kinds.Size 2 n 0 0 0 (pos 0) ∷ [] in
    let b = λ (e : ℕ). spec kinds.Pair 3 n 0 e 0 (pos 0) in
    let front = a (n + 3) ∷ (sizes ++ b 0 ∷ []) in
    let pm : pair ≡ m = omega (arith, eh, ep) in
    let l2_is : l2 ≡ l0 ++ front = h2 ∙ ap (λ z. z ++ spec kinds.Pair 3 here 0 0 0 (pos 0) ∷ []) h1
    ∙ append_assoc l0 (a (n + 3) ∷ sizes) (spec kinds.Pair 3 here 0 0 0 (pos 0) ∷ [])
    ∙ ap (λ q. l0 ++ (a (n + 3) ∷ (sizes ++ spec kinds.Pair 3 q 0 0 0 (pos 0) ∷ []))) eh in
    let len2 : length l2 ≡ suc m = omega (arith, ap length l2_is, length-append l0 front) in
    let keys = nodes_of (blank x) kinds.Struct (suc m) m 1 0 in
    let l3_is : l3 ≡ l0 ++ (front ++ keys) =
    h3 ∙ ap (λ q. l2 ++ nodes_of (blank x) kinds.Struct q pair 1 0) len2
    ∙ ap (λ q. l2 ++ nodes_of (blank x) kinds.Struct (suc m) q 1 0) pm ∙ ap (λ z. z ++ keys) l2_is
    ∙ append_assoc l0 front keys in
    let len3 : length l3 ≡ suc m + nodes (blank x) = omega
    (arith, added_length l2 l3 x pair 1 h3, len2, blank_nodes x) in
    let vals = nodes_of (blank y) kinds.Struct (suc m + nodes (blank x)) m 2 0 in
    let l4_is : l4 ≡ l0 ++ (front ++ (keys ++ vals)) =
    h4 ∙ ap (λ q. l3 ++ nodes_of (blank y) kinds.Struct q pair 2 0) len3
    ∙ ap (λ q. l3 ++ nodes_of (blank y) kinds.Struct (suc m + nodes (blank x)) q 2 0) pm
    ∙ ap (λ z. z ++ vals) l3_is
    ∙ append_assoc l0 (front ++ keys) vals ∙ ap (λ z. l0 ++ z) (append_assoc front keys vals) in
    let len4 : length l4 ≡ suc m + (nodes (blank x) + (nodes (blank y) + 0)) = omega
    (arith, added_length l3 l4 y pair 2 h4, len3, blank_nodes y) in
    let pre = l0 ++ (a (n + 3) ∷ sizes) in
    let split : l4 ≡ pre ++ (b 0 ∷ (keys ++ vals)) = l4_is
    ∙ sym (append_assoc l0 (a (n + 3) ∷ sizes) (b 0 ∷ (keys ++ vals))) in
    let end = suc m + (nodes (blank x) + (nodes (blank y) + 0)) in
    let l5_is : l5 ≡ l0 ++ (a (n + 3) ∷ (sizes ++ (b end ∷ (keys ++ vals)))) =
    h5 pre (keys ++ vals) (b 0) (omega (arith, length-append l0 (a (n + 3) ∷ sizes), pm)) split
    ∙ ap (λ q. pre ++ (b q ∷ (keys ++ vals))) len4
    ∙ append_assoc l0 (a (n + 3) ∷ sizes) (b end ∷ (keys ++ vals)) in
    let len5 : length l5 ≡ m + nodes (Struct (Field 1 (blank x) (Field 2 (blank y) NoField))) =
    omega (
      arith,
      ap length l5_is,
      ap length l4_is,
      len4,
      length-append l0
          (a (n + 3) ∷ (sizes ++ (b end ∷ (keys ++ vals)))),
      length-append l0 (front ++ (keys ++ vals)),
    ) in
    let whole = m + nodes (Struct (Field 1 (blank x) (Field 2 (blank y) NoField))) in
    let l6_is : l6 ≡ l0 ++ (a whole ∷ (sizes ++ (b end ∷ (keys ++ vals)))) =
    h6 l0 (sizes ++ (b end ∷ (keys ++ vals))) (a (n + 3)) (sym eh) l5_is
    ∙ ap (λ q. l0 ++ (a q ∷ (sizes ++ (b end ∷ (keys ++ vals))))) len5 in
    let flat : 0 ≡ inline_all (Field 1 (blank x) (Field 2 (blank y) NoField)) = omega
    (arith, blank_inline x, blank_inline y) in
    let off : 0 ≡ 0 + inline (blank x) = omega (arith, blank_inline x) in
    subst (λ (z : KindTree). Adds l0 l6 z p f) (sym ek)
    (l6_is ∙ ap (λ z. l0 ++ (a whole ∷ (sizes ++ (b end ∷ (keys ++ z))))) (sym (append-nil vals))
    ∙ ap (λ o. l0 ++ (a whole ∷ (sizes
    ++ (b end ∷ (keys ++ (nodes_of (blank y) kinds.Struct (suc m + nodes (blank x)) m 2 o ++ [])))))) off
    ∙ ap (λ z. l0 ++ (a whole ∷ (sizes
    ++ (spec kinds.Pair 3 n z end 0 (pos 0)
    ∷ (keys ++ (nodes_of (blank y) kinds.Struct (suc m + nodes (blank x)) m 2 (0 + inline (blank x))
    ++ [])))))) flat)

-- ---- structs

-- what is left to add of the fields of a struct
pub record FieldsToAdd (t : TypeTree) (old : List NodeSpec) (f p here : ℕ) (cur : List NodeSpec)
    (i : ℕ) : Type 0 where
  pub is : here ≡ length old
  pub before : ℕ
  pub rising : Rising before (ids_of (kinds_of_list (drop i (fields_of t))))
  pub formed : AllFormed (kinds_of_list (drop i (fields_of t)))
  pub room : length cur + nodes_all (kinds_of_list (drop i (fields_of t))) ≤ 4096
  pub more : length old < length cur
  pub rest : (ms : List NodeSpec) → ms ≡ cur
      ++ nodes_of_all (all_blank (kinds_of_list (drop i (fields_of t)))) (length cur) here 0
      → ms ≡ old ++ (spec kinds.Struct f p 0 0 0 (pos 0)
      ∷ nodes_of_all (all_blank (kinds_of_list (fields_of t))) (suc (length old)) (length old) 0)

pub fields_start : (t : TypeTree) (old l1 : List NodeSpec) (f p here : ℕ) → here ≡ length old → kind_of t
    ≡ types.Struct → CanAdd old (kinds_of t) → l1 ≡ old ++ spec kinds.Struct f p 0 0 0 (pos 0) ∷ []
    → FieldsToAdd t old f p here l1 0
fields_start t old l1 f p here eh ek c h =
    let c2 = subst (λ (y : KindTree). CanAdd old y) (kinds_are t types.Struct ek) c in
    let a = spec kinds.Struct f p 0 0 0 (pos 0) in
    let len : length l1 ≡ suc (length old) = omega (arith, ap length h, length-append old (a ∷ [])) in
    let fs = all_blank (kinds_of_list (fields_of t)) in
    record {
      is = eh;
      before = 0;
      rising = c2.formed.0;
      formed = c2.formed.1;
      room = omega (arith, len, c2.room);
      more = omega (arith, len);
      rest = λ ms w. w ∙ ap (λ q. l1 ++ nodes_of_all fs q here 0) len
          ∙ ap (λ q. l1 ++ nodes_of_all fs (suc (length old)) q 0) eh
          ∙ ap (λ z. z ++ nodes_of_all fs (suc (length old)) (length old) 0) h
          ∙ append_assoc old (a ∷ []) (nodes_of_all fs (suc (length old)) (length old) 0);
    }

pub record FieldToAdd (t : TypeTree) (old : List NodeSpec) (f p here : ℕ) (cur : List NodeSpec) (i : ℕ)
    (x : DefField) : Type 0 where
  pub can : CanAdd cur (field_kinds x)
  pub id : nat_abs x.id ≤ 32767
  pub next : (ms : List NodeSpec) → Adds cur ms (field_kinds x) here (nat_abs x.id)
      → FieldsToAdd t old f p here ms (i + 1)

pub dropped : (fs : List DefField) (i : ℕ) (x : DefField) → slice_get fs i ≡ Some x → drop i fs ≡ x
    ∷ drop (suc i) fs
dropped [] i x e = absurd cc
dropped (y ∷ ys) zero x e = let h : y ≡ x = cc in ap (λ z. z ∷ ys) h
dropped (y ∷ ys) (suc i) x e = dropped ys i x e

pub field_add : (t : TypeTree) (old : List NodeSpec) (f p here : ℕ) (cur : List NodeSpec) (i : ℕ)
    (x : DefField) → FieldsToAdd t old f p here cur i → slice_get (fields_of t) i ≡ Some x
    → FieldToAdd t old f p here cur i x
field_add t old f p here cur i x r e =
    let d = dropped (fields_of t) i x e in
    let now = λ (P : List DefField → Type 0) (h : P (drop i (fields_of t))). subst P d h in
    let ks = kinds_of_list (drop (suc i) (fields_of t)) in
    let ri = now (λ l. Rising r.before (ids_of (kinds_of_list l))) r.rising in
    let fo = now (λ l. AllFormed (kinds_of_list l)) r.formed in
    let ro : length cur + (nodes (field_kinds x) + nodes_all ks)
    ≤ 4096 = now (λ l. length cur + nodes_all (kinds_of_list l) ≤ 4096) r.room in
    let step : i + 1 ≡ suc i = omega arith in
    record {
      can = record { formed = fo.0; room = omega (arith, ro) };
      id = ri.1;
      next = λ ms h. subst (λ j. FieldsToAdd t old f p here ms j) (sym step) (record {
        is = r.is;
        before = nat_abs x.id;
        rising = ri.2;
        formed = fo.1;
        room = omega (arith, ro, added_length cur ms (field_kinds x) here (nat_abs x.id) h);
        more = omega (arith, r.more, added_length cur ms (field_kinds x) here (nat_abs x.id) h);
        rest = λ ls w.
            let k = blank (field_kinds x) in
            let mine = nodes_of k kinds.Struct (length cur) here (nat_abs x.id) 0 in
            let len : length ms ≡ length cur
            + nodes k = omega (
              arith,
              added_length cur ms (field_kinds x) here (nat_abs x.id) h,
              blank_nodes (field_kinds x),
            ) in
            let off : 0 ≡ 0 + inline k = omega (arith, blank_inline (field_kinds x)) in
            let all : ls ≡ cur ++ (mine ++ nodes_of_all (all_blank ks) (length cur + nodes k) here
            (0 + inline k)) =
            w ∙ ap (λ q. ms ++ nodes_of_all (all_blank ks) q here 0) len
            ∙ ap (λ o. ms ++ nodes_of_all (all_blank ks) (length cur + nodes k) here o) off
            ∙ ap (λ z. z ++ nodes_of_all (all_blank ks) (length cur + nodes k) here (0 + inline k)) h
            ∙ append_assoc cur mine (nodes_of_all (all_blank ks) (length cur + nodes k) here
            (0 + inline k)) in
            r.rest ls (all ∙ ap (λ l. cur ++ nodes_of_all (all_blank (kinds_of_list l)) (length cur) here 0)
            (sym d));
      });
    }

pub drop_past : (fs : List DefField) (i : ℕ) → length fs ≤ i → drop i fs ≡ []
drop_past [] zero h = refl
drop_past [] (suc i) h = refl
drop_past (y ∷ ys) zero h = absurd (omega arith)
drop_past (y ∷ ys) (suc i) h = drop_past ys i (omega arith)

pub struct_added : (t : TypeTree) (old : List NodeSpec) (f p here : ℕ) (cur new : List NodeSpec) (i : ℕ)
    → kind_of t ≡ types.Struct → FieldsToAdd t old f p here cur i → length (fields_of t) ≤ i
    → Closes cur here new → Adds old new (kinds_of t) p f
struct_added t old f p here cur new i ek r le h =
    let d = drop_past (fields_of t) i le in
    let fs = all_blank (kinds_of_list (fields_of t)) in
    let n = length old in
    let below = nodes_of_all fs (suc n) n 0 in
    let a = spec kinds.Struct f p 0 0 0 (pos 0) in
    let cur_is : cur ≡ old ++ (a ∷ below) = r.rest cur
    (sym (ap (λ l. cur ++ nodes_of_all (all_blank (kinds_of_list l)) (length cur) here 0) d
    ∙ append-nil cur)) in
    let len : length cur ≡ suc n + nodes_all fs = omega
    (arith, ap length cur_is, length-append old (a ∷ below), length_nodes_all fs (suc n) n 0) in
    let flat : 0 ≡ inline_all fs = sym (all_blank_inline (kinds_of_list (fields_of t))) in
    subst (λ (y : KindTree). Adds old new y p f) (sym (kinds_are t types.Struct ek))
    (h old below a (sym r.is) cur_is ∙ ap (λ q. old ++ (spec kinds.Struct f p 0 q 0 (pos 0) ∷ below)) len
    ∙ ap (λ z. old ++ (spec kinds.Struct f p z (suc n + nodes_all fs) 0 (pos 0) ∷ below)) flat)

pub row_few : (old l1 l2 : List NodeSpec) (t : TypeTree) (k : Kind) (p f here : ℕ) (r : RowIs k t)
    → CanAdd old (kinds_of t) → l1 ≡ old ++ range_nodes k f p (length old)
    → Adds l1 l2 (kinds_of (element_of t)) here 3 → length l2 ≤ 4096
row_few old l1 l2 t k p f here r c h1 h2 =
    let c1 = row_item old l1 t k p f r c h1 in
    omega (arith, added_length l1 l2 (kinds_of (element_of t)) here 3 h2, c1.room)

-- the room for a map's key and value
pub record MapRoom (t : TypeTree) (l2 : List NodeSpec) (pair : ℕ) : Type 0 where
  pub key : CanAdd l2 (kinds_of (key_of t))
  pub value : (l3 : List NodeSpec) → Adds l2 l3 (kinds_of (key_of t)) pair 1
      → CanAdd l3 (kinds_of (value_of t))
  pub few : (l3 l4 : List NodeSpec) → Adds l2 l3 (kinds_of (key_of t)) pair 1
      → Adds l3 l4 (kinds_of (value_of t)) pair 2 → length l4 ≤ 4096
  pub long : (l3 l4 : List NodeSpec) → Adds l2 l3 (kinds_of (key_of t)) pair 1
      → Adds l3 l4 (kinds_of (value_of t)) pair 2 → length l2 ≤ length l4
  pub inside : (l3 l4 : List NodeSpec) → Adds l2 l3 (kinds_of (key_of t)) pair 1
      → Adds l3 l4 (kinds_of (value_of t)) pair 2 → pair < length l4
  pub less : nodes (kinds_of (key_of t)) + nodes (kinds_of (value_of t)) < nodes (kinds_of t)

pub map_room : (old l1 l2 : List NodeSpec) (t : TypeTree) (p f here pair : ℕ) → pair ≡ length old + 3
    → kind_of t ≡ types.Map → CanAdd old (kinds_of t) → l1 ≡ old ++ range_nodes kinds.Map f p (length old)
    → l2 ≡ l1 ++ spec kinds.Pair 3 here 0 0 0 (pos 0) ∷ [] → MapRoom t l2 pair
map_room old l1 l2 t p f here pair ep ek c h1 h2 =
    let e = kinds_are t types.Map ek in
    let x = kinds_of (key_of t) in
    let y = kinds_of (value_of t) in
    let c2 = subst (λ (z : KindTree). CanAdd old z) e c in
    let len : length l2 ≡ length old + 4 =
    omega (
      arith,
      ap length h2,
      ap length h1,
      length-append l1 (spec kinds.Pair 3 here 0 0 0 (pos 0) ∷ []),
      length-append old (range_nodes kinds.Map f p (length old)),
    ) in
    record {
      key = record { formed = c2.formed.1.1.0; room = omega (arith, c2.room, len) };
      value = λ l3 h. record {
        formed = c2.formed.1.1.1.0;
        room = omega (arith, c2.room, len, added_length l2 l3 x pair 1 h);
      };
      few = λ l3 l4 h g. omega (
        arith,
        c2.room,
        len,
        added_length l2 l3 x pair 1 h,
        added_length l3 l4 y pair
            2 g,
      );
      long = λ l3 l4 h g. omega (arith, added_length l2 l3 x pair 1 h, added_length l3 l4 y pair 2 g);
      inside = λ l3 l4 h g. omega (
        arith,
        ep,
        len,
        added_length l2 l3 x pair 1 h,
        added_length l3 l4 y pair 2
            g,
      );
      less = omega (arith, ap (λ (z : KindTree). nodes z) e);
    }

field_in : (fs : List DefField) (i : ℕ) (x : DefField) → slice_get fs i ≡ Some x → nodes (field_kinds x)
    ≤ nodes_all (kinds_of_list fs)
field_in [] i x e = absurd cc
field_in (y ∷ ys) zero x e = let h : y ≡ x = cc in omega (arith, ap (λ z. nodes (field_kinds z)) h)
field_in (y ∷ ys) (suc i) x e = omega (arith, field_in ys i x e)

pub field_small : (t : TypeTree) (i : ℕ) (x : DefField) → kind_of t ≡ types.Struct → slice_get (fields_of t) i
    ≡ Some x → nodes (field_kinds x) < nodes (kinds_of t)
field_small t i x ek e = omega (
  arith,
  ap (λ (z : KindTree). nodes z) (kinds_are t types.Struct ek),
  field_in
      (fields_of t) i x e,
)

-- a list at one of its places
record Split (ns : List NodeSpec) (i : ℕ) : Type 0 where
  pub pre : List NodeSpec
  pub post : List NodeSpec
  pub here : NodeSpec
  pub long : length pre ≡ i
  pub is : ns ≡ pre ++ here ∷ post

split_at : (ns : List NodeSpec) (i : ℕ) → i < length ns → Split ns i
split_at [] i h = absurd (omega arith)
split_at (x ∷ xs) zero h = record { pre = []; post = xs; here = x; long = refl; is = refl }
split_at (x ∷ xs) (suc i) h =
    let s = split_at xs i (omega arith) in
    record { pre = x ∷ s.pre; post = s.post; here = s.here; long = ap suc s.long; is = ap (λ r. x ∷ r) s.is }

pub closed_length : (ns ms : List NodeSpec) (i : ℕ) → i < length ns → Closes ns i ms → length ms ≡ length ns
closed_length ns ms i lt h =
    let s = split_at ns i lt in
    omega (
      arith,
      ap length (h s.pre s.post s.here s.long s.is),
      ap length s.is,
      length-append s.pre
          (s.here ∷ s.post),
      length-append s.pre (marked s.here (length ns) ∷ s.post),
    )

-- the kinds of a field by its need
pub optional_field : (f : DefField) (n : Need) → n ≡ f.need → n ≡ need.Optional → field_kinds f
    ≡ Optional tt (kinds_of f.type)
optional_field f n e h = ap (λ m. kinds_by_need m (kinds_of f.type)) (sym e ∙ h)

pub plain_field : (f : DefField) (n : Need) → n ≡ f.need → (n ≡ need.Plain) ⊎ (n ≡ need.Required)
    → field_kinds f ≡ kinds_of f.type
plain_field f n e (inl h) = ap (λ m. kinds_by_need m (kinds_of f.type)) (sym e ∙ h)
plain_field f n e (inr h) = ap (λ m. kinds_by_need m (kinds_of f.type)) (sym e ∙ h)

pub optional_room : (old l1 l2 : List NodeSpec) (x : KindTree) (p f here : ℕ) → CanAdd old (Optional tt x)
    → l1 ≡ old ++ spec kinds.Optional f p 0 0 0 (pos 0) ∷ [] → l2 ≡ l1 ++ spec kinds.Flag 1 here 0 0 0 (pos 0)
    ∷ [] → CanAdd l2 x
optional_room old l1 l2 x p f here c h1 h2 =
    record {
      formed = c.formed.1;
      room = omega (
        arith,
        c.room,
        ap length h2,
        ap length h1,
        length-append l1
            (spec kinds.Flag 1 here 0 0 0 (pos 0) ∷ []),
        length-append old
            (spec kinds.Optional f p 0 0 0 (pos 0) ∷ []),
      );
    }

pub optional_few : (l2 l3 : List NodeSpec) (x : KindTree) (here : ℕ) → CanAdd l2 x → Adds l2 l3 x here 2
    → length l3 ≤ 4096
optional_few l2 l3 x here c h = omega (arith, c.room, added_length l2 l3 x here 2 h)
