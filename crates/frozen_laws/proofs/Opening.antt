-- Opening accepts exactly what packing writes.
use Rattle.std.proofs.Common.{◌≡◌, ◌↔◌, ℕ, zero, suc, ◌∷◌, ◌+◌, ◌-◌, ◌*◌, ◌≤◌, ◌<◌, List, [], ◌++◌, Bool, true, false, ◌&&◌, length, arith, refl, ap, sym, ◌∙◌, subst, nat_eq, nat_le, take, drop, Result, Ok, Err, None, length-append, length-take, length-drop}
use Rattle.std.proofs.lemmas.List.{append-nil, take-append-drop, drop-drop, get_or-drop}
use Rattle.std.proofs.Math.Seq.{take-append_seam, drop-append_seam}
use Rattle.std.proofs.lemmas.Bool.{and_parts, le-leb}
use Rattle.std.specs.Str.{bytes_eq}
use Rattle.std.proofs.lemmas.Slice.Eq.{bytes_eq-Decides}
use Rattle.frozen_model.specs.Bits.{bits_of, field, number}
use Rattle.frozen_model.specs.BitLaws.{IsBytes}
use Rattle.frozen_model.specs.Trees.{Tree, Trees, Leaf, ByteRange, ItemRange, Optional, Struct, NoField, Field, Holder, AList, ASet, AMap, Keyed, HasKeys, AllHaveKeys, IsItem, IsFormed, AllFormed, nodes, nodes_all}
use Rattle.frozen_model.specs.Values.{Value, NoValue, And, Of, none, more, inline_cells, inline_cells_all}
use Rattle.frozen_model.specs.Layouts.{Version, Layout, IsLayout, Described, IsDescribed, stride}
use Rattle.frozen_model.specs.Packing.{extent, bytes_for, padding, image, images, tail, tails, pack, Packs, Stands}
use Rattle.frozen_model.proofs.Fields.{length_bits_of}
use Rattle.frozen_laws.specs.Everywhere.{HoldsAt}
use Rattle.frozen_model.specs.Walk.{Fault, walk, open_content}
use Rattle.frozen_model.specs.Files.{FileFault, magic, schema_length, schema_bytes, content_of, demand, answered, open_file, File}
use Rattle.frozen_laws.specs.Laws.{IsContent}
use Rattle.frozen_laws.proofs.Cells.{cells_are}
use Rattle.frozen_laws.proofs.Holding.{fit_at, at_fit}
use Rattle.frozen_laws.proofs.Lengths.{length_block}
use Rattle.frozen_laws.proofs.Standing.{stands_in, stands_same, stands_zero}
use Rattle.frozen_laws.proofs.Reading.{WhereOk, is_ok, require_ok, and_then_ok, from_eq, from_le, block_there}
use Rattle.frozen_laws.proofs.Sound.{walk_reads}
use Rattle.frozen_laws.proofs.Finds.{require_true, then_ok, to_eq, block_is, walk_finds}

-- ---- layouts

keyed : {A B : Type 0} (h : Holder) (l : Tree A B) → IsItem h l → Keyed h l
keyed AList l i = tt
keyed ASet (Leaf k a) i = tt
keyed ASet (ByteRange t d c) i = tt
keyed ASet (ItemRange h d c l) i = absurd i
keyed ASet (Optional w l) i = absurd i
keyed ASet (Struct ls) i = absurd i
keyed AMap (Leaf k a) i = absurd i
keyed AMap (ByteRange t d c) i = absurd i
keyed AMap (ItemRange h d c l) i = absurd i
keyed AMap (Optional w l) i = absurd i
keyed AMap (Struct NoField) i = absurd i
keyed AMap (Struct (Field n k NoField)) i = absurd i
keyed AMap (Struct (Field n k (Field m v NoField))) i = i.1
keyed AMap (Struct (Field n k (Field m v (Field o w ls)))) i = absurd i

mutual
  pub formed_keys : {A B : Type 0} (l : Tree A B) → IsFormed l → HasKeys l
  formed_keys (Leaf k a) f = tt
  formed_keys (ByteRange t d c) f = tt
  formed_keys (ItemRange h d c l) f = (keyed h l f.0, formed_keys l f.1)
  formed_keys (Optional w l) f = formed_keys l f.1
  formed_keys (Struct ls) f = all_formed_keys ls f.1

  pub all_formed_keys : {A B : Type 0} (ls : Trees A B) → AllFormed ls → AllHaveKeys ls
  all_formed_keys NoField f = tt
  all_formed_keys (Field i l ls) f = (formed_keys l f.0, all_formed_keys ls f.1)

mutual
  pub inline_nodes : {A B : Type 0} (l : Tree A B) → inline_cells l ≤ nodes l
  inline_nodes (Leaf k a) = omega arith
  inline_nodes (ByteRange t d c) = omega arith
  inline_nodes (ItemRange h d c l) = omega arith
  inline_nodes (Optional w l) = omega (arith, inline_nodes l)
  inline_nodes (Struct ls) = omega (arith, all_inline_nodes ls)

  pub all_inline_nodes : {A B : Type 0} (ls : Trees A B) → inline_cells_all ls ≤ nodes_all ls
  all_inline_nodes NoField = omega arith
  all_inline_nodes (Field i l ls) = omega (arith, inline_nodes l, all_inline_nodes ls)

-- ---- contents

pub where_ok : {X : Type 0} {P : X → Type 0} (r : Result X Fault) (x : X) → WhereOk P r → r ≡ Ok x → P x
where_ok {P = P} (Ok y) x (is_ok h) e = let s : y ≡ x = cc in subst P s h
where_ok (Err f) x h e = absurd cc

-- bits that stand at the beginning of as many are those
whole_stands : (b xs : List Bool) → length xs ≡ length b → Stands b 0 xs → b ≡ xs
whole_stands b xs e s =
    let self : Stands b 0 b = subst (λ c. Stands c 0 b) (append-nil b) (stands_in [] b []) in
    stands_same b b xs 0 (sym e) self s

pub length_pack : {l : Layout} {v : Value} → Of l v → length (pack l v) ≡ 8 * (bytes_for (stride l) + extent l v)
length_pack {l} {v} o =
    let once : 1 * stride l ≡ stride l = omega arith in
    omega (arith, length_block {vs = And v NoValue} (more o none), ap bytes_for once)

-- how many bytes a packing has
pub packed_length : {l : Layout} {v : Value} (bs : List ℕ) → Of l v → Packs l v bs → length bs ≡ bytes_for (stride l) + extent l v
packed_length bs o packed = omega (arith, length_bits_of bs, length_pack o, ap length packed)

-- what opening a content gives is what the content packs
pub content_sound : (n : Version) (l : Layout) (bs : List ℕ) → IsLayout n l → IsBytes bs → WhereOk (λ v. IsContent l v bs) (open_content bs l)
content_sound n l bs is small =
    let s = stride l in
    let many : inline_cells l ≤ 4096 = omega (arith, inline_nodes l, is.kind_tree.few) in
    require_ok (nat_le (bytes_for s) (length bs)) _ _ (λ e1.
    let room : bytes_for s ≤ length bs = from_le (bytes_for s) (length bs) e1 in
    require_ok (nat_eq (field bs s (8 * bytes_for s - s)) 0) _ _ (λ e2.
    and_then_ok (walk bs l 0 None 0 (bytes_for s) (inline_cells l)) _
    (walk_reads n bs small l is.coded is.legal (formed_keys l is.kind_tree.formed) 0 None 0 (bytes_for s) (inline_cells l) tt (omega arith) room (omega arith)) (λ x px.
    require_ok (nat_eq x.1 (length bs)) _ _ (λ e3.
    let end : x.1 ≡ length bs = from_eq x.1 (length bs) e3 in
    let at : bytes_for s - 0 ≡ bytes_for s = omega arith in
    let once : s ≡ 1 * s = omega arith in
    let v = x.0 in
    let holds : HoldsAt l v (bytes_for s) = subst (λ k. HoldsAt l v k) at px.holds in
    let image1 : Stands (bits_of bs) 0 (image l v (bytes_for (1 * s))) = subst (λ k. Stands (bits_of bs) 0 (image l v k)) (at ∙ ap bytes_for once) px.image_there in
    let image2 : Stands (bits_of bs) (8 * 0) (images l (And v NoValue) (bytes_for (1 * s))) = subst (λ r. Stands (bits_of bs) 0 r) (sym (append-nil (image l v (bytes_for (1 * s))))) image1 in
    let zeros : Stands (bits_of bs) s (padding s) = stands_zero bs s (8 * bytes_for s - s) small (omega arith) (from_eq (field bs s (8 * bytes_for s - s)) 0 e2) in
    let place : s ≡ 8 * 0 + 1 * s = omega arith in
    let zeros2 : Stands (bits_of bs) (8 * 0 + 1 * s) (padding (1 * s)) = subst (λ k. Stands (bits_of bs) (8 * 0 + 1 * s) (padding k)) once (subst (λ k. Stands (bits_of bs) k (padding s)) place zeros) in
    let far : 8 * bytes_for s ≡ 8 * (0 + bytes_for (1 * s)) = omega (arith, ap bytes_for once) in
    let tail2 : Stands (bits_of bs) (8 * (0 + bytes_for (1 * s))) (tails l (And v NoValue)) =
    subst (λ r. Stands (bits_of bs) (8 * (0 + bytes_for (1 * s))) r) (sym (append-nil (tail l v))) (subst (λ k. Stands (bits_of bs) k (tail l v)) far px.tail_there) in
    let there : Stands (bits_of bs) 0 (pack l v) = block_there bs 0 1 (more px.of_kind none) refl image2 zeros2 tail2 in
    is_ok (record {
      holds = record { of_kind = px.of_kind; fits = fit_at px.of_kind (bytes_for s) holds };
      within = omega (arith, cells_are px.of_kind, px.grows, px.few (omega arith));
      packed = whole_stands (bits_of bs) (pack l v) (omega (arith, length_pack px.of_kind, length_bits_of bs, px.after)) there;
    })))))

-- a content that packs a value is opened as that value
pub content_complete : (n : Version) (l : Layout) (v : Value) (bs : List ℕ) → IsLayout n l → IsBytes bs → IsContent l v bs → open_content bs l ≡ Ok v
content_complete n l v bs is small h =
    let s = stride l in
    let o = h.holds.of_kind in
    let whole : Stands (bits_of bs) 0 (pack l v) = subst (λ b. Stands b 0 (pack l v)) (append-nil (pack l v) ∙ sym h.packed) (stands_in [] (pack l v) []) in
    let long : length bs ≡ bytes_for s + extent l v = packed_length bs o h.packed in
    let b = block_is bs {l = l} {vs = And v NoValue} 0 small (more o none) (omega arith) whole in
    let at : bytes_for s ≡ bytes_for s - 0 = omega arith in
    let once : 1 * s ≡ s = omega arith in
    let image1 : Stands (bits_of bs) 0 (image l v (bytes_for (1 * s))) = subst (λ r. Stands (bits_of bs) 0 r) (append-nil (image l v (bytes_for (1 * s)))) b.first in
    let image2 : Stands (bits_of bs) 0 (image l v (bytes_for s - 0)) = subst (λ k. Stands (bits_of bs) 0 (image l v k)) (ap bytes_for once ∙ at) image1 in
    let far : 8 * (0 + bytes_for (1 * s)) ≡ 8 * bytes_for s = omega (arith, ap bytes_for once) in
    let tail1 : Stands (bits_of bs) (8 * (0 + bytes_for (1 * s))) (tail l v) = subst (λ r. Stands (bits_of bs) (8 * (0 + bytes_for (1 * s))) r) (append-nil (tail l v)) b.rest in
    let tail2 : Stands (bits_of bs) (8 * bytes_for s) (tail l v) = subst (λ k. Stands (bits_of bs) k (tail l v)) far tail1 in
    let place : 8 * 0 + 1 * s ≡ s = omega arith in
    let zeros : field bs s (8 * bytes_for s - s) ≡ 0 = subst (λ k. field bs s (8 * bytes_for k - k) ≡ 0) once (subst (λ k. field bs k (8 * bytes_for (1 * s) - 1 * s) ≡ 0) place b.zeros) in
    let fits : HoldsAt l v (bytes_for s - 0) = subst (λ k. HoldsAt l v k) at (at_fit o (bytes_for s) h.holds.fits) in
    let walked = walk_finds n bs small o is.coded is.legal (formed_keys l is.kind_tree.formed) 0 None 0 (bytes_for s) (inline_cells l) tt refl (omega arith) (omega arith) (omega arith) fits image2 tail2 (omega (arith, cells_are o, h.within)) in
    require_true _ _ _ _ (le-leb (bytes_for s) (length bs) (omega arith))
    (require_true _ _ _ _ (to_eq (field bs s (8 * bytes_for s - s)) 0 zeros)
    (then_ok (walk bs l 0 None 0 (bytes_for s) (inline_cells l)) _ _ _ walked
    (require_true _ _ _ _ (to_eq (bytes_for s + extent l v) (length bs) (sym long)) refl)))
