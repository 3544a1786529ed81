-- What each form of a value comes to.
use Rattle.std.proofs.Common.{◌≡◌, ℕ, suc, ◌+◌, ◌*◌, ◌≤◌, List, [], ◌∷◌, ◌++◌}
use Rattle.std.proofs.Common.{length, pos, arith, refl, ap, sym, ◌∙◌, subst}
use Rattle.frozen_model.specs.Trees.{Part, Leaf, ByteRange}
use Rattle.frozen_model.specs.Trees.{ItemRange, Optional, Struct, nodes}
use Rattle.frozen_model.specs.Values.{Atom, Value, Values, One, Bytes, Items, Absent, Present}
use Rattle.frozen_model.specs.Values.{Record, count, Of}
use Rattle.frozen_model.specs.Layouts.{Version, Layout, stride, number_of}
use Rattle.frozen_model.specs.Packing.{bytes_for}
use Rattle.frozen_model.specs.Holding.{puts, puts_each}
use Rattle.layout_tree.specs.Listing.{Noted, layout_in, sub}
use Rattle.layout_tree.specs.Reading.{IsHolder, item_of}
use Rattle.layout_tree.proofs.Place.{some_nodes}
use Rattle.layout_tree.proofs.Readings.{same_nodes}
use Rattle.layout_tree.proofs.Subs.{part_high}
use Rattle.typed_tree.specs.Parts.{IsPresent}
use Rattle.typed_tree.proofs.Forms.{AreItems}
use Rattle.value_bounds.specs.declared.bounds.Bounds.{Bounds}
use Rattle.value_bounds.specs.Seeing.{numbers, seen_from, Saw, EachSaw}
use Rattle.value_bounds.proofs.Forms.{BytesAt, ItemsAt, absent_at, PresentAt, present_at}
use Rattle.value_bounds.proofs.Seen.{none_seen, seen_past, seen_from_behind}

-- there is room for the nodes of a part
pub room_for : (v : Version) (t : Noted) (n k : ℕ) → Part t 0 (sub t n) n → k ≤ nodes (layout_in v (sub t n))
    → n + k ≤ nodes t
room_for v t n k p h = omega (arith, part_high p, same_nodes v (sub t n), h)

-- ---- flags and whole numbers

atom_seen : (l : Layout) (x : Atom) (old new : List Bounds) (n : ℕ) → Of l (One x) → new
    ≡ seen_from old n ((number_of x ∷ []) ∷ []) → Saw l (One x) old new n
atom_seen (Leaf k c) x old new n o e from = e
atom_seen (ByteRange t d c) x old new n o e from = elim o [ ]
atom_seen (ItemRange g d c l) x old new n o e from = elim o [ ]
atom_seen (Optional w l) x old new n o e from = elim o [ ]
atom_seen (Struct ls) x old new n o e from = elim o [ ]

pub atom_saw : (l : Layout) (u : Value) (x : Atom) (old new : List Bounds) (n : ℕ) → Of l u → u ≡ One x → new
    ≡ seen_from old n ((number_of x ∷ []) ∷ []) → Saw l u old new n
atom_saw l u x old new n o eu e = subst (λ (y : Value). Saw l y old new n) (sym eu)
    (atom_seen l x old new n (subst (Of l) eu o) e)

-- ---- texts and bytes

pub bytes_room : (l : Layout) (bs : List ℕ) → BytesAt l bs → nodes l ≡ 3
bytes_room l bs k = ap nodes k.is

pub bytes_saw : (l : Layout) (u : Value) (bs : List ℕ) (old new : List Bounds) (n : ℕ) → BytesAt l bs
    → u ≡ Bytes bs → new ≡ seen_from old (n + 2) ((pos (length bs) ∷ []) ∷ []) → Saw l u old new n
bytes_saw l u bs old new n k eu e =
    let xss = (pos (length bs) ∷ []) ∷ [] in
    subst (λ (z : Layout). Saw z u old new n) (sym k.is)
    (subst (λ (y : Value). Saw (ByteRange k.t k.d k.c) y old new n) (sym eu)
    (λ from. e ∙ sym (seen_past old n (suc n) ([] ∷ xss) refl
    ∙ seen_past old (suc n) (n + 2) xss (omega arith))))

-- ---- lists, sets and maps

pub items_room : (l : Layout) (vs : Values) → ItemsAt l vs → 4 ≤ nodes l
items_room l vs k = omega (arith, some_nodes k.item, ap nodes k.is)

pub items_saw : (l : Layout) (u : Value) (vs : Values) (old mid new : List Bounds) (n : ℕ) → AreItems u vs
    → IsHolder l → mid ≡ seen_from old (n + 2) ((pos (count vs) ∷ []) ∷ [])
    → EachSaw (item_of l) vs mid new (n + 3) → Saw l u old new n
items_saw l u vs old mid new n a h em f = subst (λ (y : Value). Saw l y old new n) (sym a.is) (go l h f)
  where
    go : (l : Layout) → IsHolder l → EachSaw (item_of l) vs mid new (n + 3)
        → Saw l (Items a.holder vs) old new n
    go (ItemRange g d c m) h f from =
        let xss = numbers (puts_each m vs (bytes_for (count vs * stride m))) in
        let one = (pos (count vs) ∷ []) ∷ [] in
        f (bytes_for (count vs * stride m)) ∙ ap (λ r. seen_from r (n + 3) xss) em
        ∙ sym (seen_past old n (suc n) ([] ∷ (one ++ xss)) refl
        ∙ seen_past old (suc n) (n + 2) (one ++ xss) (omega arith)
        ∙ seen_from_behind old (n + 2) (n + 3) one xss (omega arith))
    go (Leaf k c) h f from = absurd h
    go (ByteRange t d c) h f from = absurd h
    go (Optional w m) h f from = absurd h
    go (Struct ls) h f from = absurd h

-- ---- optionals

pub absent_saw : (l : Layout) (u : Value) (old : List Bounds) (n : ℕ) → Of l u → u ≡ Absent
    → Saw l u old old n
absent_saw l u old n o eu =
    let k = absent_at l u eu o in
    subst (λ (z : Layout). Saw z u old old n) (sym k.is)
    (subst (λ (y : Value). Saw (Optional k.width k.inner) y old old n) (sym eu)
    (λ from. sym (none_seen (Optional k.width k.inner) old n)))

pub present_room : (l : Layout) (u : Value) → Of l u → IsPresent u → 3 ≤ nodes l
present_room l (Present x) o h =
    let p = present_at l (Present x) x refl o in
    omega (arith, some_nodes p.inner, ap nodes p.is)
present_room l (One x) o h = absurd h
present_room l (Bytes x) o h = absurd h
present_room l (Items g x) o h = absurd h
present_room l Absent o h = absurd h
present_room l (Record ids x) o h = absurd h

pub present_saw : (l : Layout) (u x : Value) (p : PresentAt l x) (old mid new : List Bounds) (n : ℕ) → u
    ≡ Present x → mid ≡ seen_from old (n + 1) ((pos 1 ∷ []) ∷ []) → Saw p.inner x mid new (n + 2)
    → Saw l u old new n
present_saw l u x p old mid new n eu em f =
    subst (λ (z : Layout). Saw z u old new n) (sym p.is)
    (subst (λ (y : Value). Saw (Optional p.width p.inner) y old new n) (sym eu)
    (λ from.
    let xss = numbers (puts p.inner x from) in
    let one = (pos 1 ∷ []) ∷ [] in
    f from ∙ ap (λ r. seen_from r (n + 2) xss) em
    ∙ sym (seen_past old n (n + 1) (one ++ xss) (omega arith)
    ∙ seen_from_behind old (n + 1) (n + 2) one xss (omega arith))))
