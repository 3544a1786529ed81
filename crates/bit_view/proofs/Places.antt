-- The part where a view is.
use Rattle.std.proofs.Common.{◌≡◌, ℕ, ◌+◌, ◌*◌, ◌≤◌, ◌<◌, ◌^◌, List, length, arith, sym, subst}
use Rattle.std.proofs.Math.Logic.{∥∥₁_elim}
use Rattle.std.proofs.Math.Bridge.{le_prop}
use Rattle.frozen_model.specs.BitLaws.{IsBytes}
use Rattle.frozen_model.specs.Trees.{Part, itself, in_item, in_optional, in_struct}
use Rattle.frozen_model.specs.Trees.{PartAll, in_first, in_later}
use Rattle.frozen_model.specs.Values.{Value, Values}
use Rattle.frozen_model.specs.Layouts.{Version, Layout, Layouts, IsLayout, OfVersion}
use Rattle.frozen_model.specs.Layouts.{AllOfVersion, stride}
use Rattle.frozen_model.specs.Packing.{bytes_for, Place, place, PartAt, here, item_at, inner_at}
use Rattle.frozen_model.specs.Packing.{field_at, PartAmong, first_at, later_at}
use Rattle.frozen_laws.specs.Laws.{IsContent, StandsAt}
use Rattle.frozen_laws.proofs.Parts.{part_stands, part_node, root_stands}
use Rattle.frozen_laws.proofs.Opening.{packed_length}
use Rattle.frozen_laws.proofs.Cells.{whole_cells}
use Rattle.layout_tree.specs.Listing.{Noted, layout_in, sub}
use Rattle.bit_view.specs.Lying.{IsPart, HasPart}
use Rattle.bit_view.specs.InPlace.{read_value}
use Rattle.layout_tree.proofs.Told.{told_child}
use Rattle.bit_view.proofs.Nodes.{node_held}
use Rattle.bit_view.proofs.Telling.{told_is}

-- ---- a part of a part

mutual
  pub part_of_part : {m k : Layout} {u w : Value} {p r : Place} {l : Layout} {v : Value} {q : Place}
      → PartAt m u p l v q → PartAt k w r m u p → PartAt k w r l v q
  part_of_part here h = h
  part_of_part (item_at j lt p) h = item_at j lt (part_of_part p h)
  part_of_part (inner_at p) h = inner_at (part_of_part p h)
  part_of_part (field_at p) h = field_at (part_of_among p h)

  pub part_of_among : {m k : Layout} {u w : Value} {p r : Place} {ls : Layouts} {vs : Values} {q : Place}
      → PartAmong m u p ls vs q → PartAt k w r m u p → PartAmong k w r ls vs q
  part_of_among (first_at p) h = first_at (part_of_part p h)
  part_of_among (later_at p) h = later_at (part_of_among p h)

-- ---- a part is of its version

mutual
  part_version : (v : Version) {l s : Layout} {i n : ℕ} → Part l i s n → OfVersion v l → OfVersion v s
  part_version v itself o = o
  part_version v (in_item p) o = part_version v p o
  part_version v (in_optional p) o = part_version v p o
  part_version v (in_struct p) o = part_all_version v p o

  part_all_version : (v : Version) {ls : Layouts} {s : Layout} {i n : ℕ} → PartAll ls i s n
      → AllOfVersion v ls → OfVersion v s
  part_all_version v (in_first p) o = part_version v p o.0
  part_all_version v (in_later p) o = part_all_version v p o.1

-- ---- the part at a place

-- the value u of the layout m, which is the part of what a content packs in l
pub record Here (v : Version) (l m : Layout) (bs : List ℕ) (node block bit : ℕ) (u : Value) : Type 0 where
  pub whole : Value
  pub content : IsContent l whole bs
  pub small : IsBytes bs
  pub next : ℕ
  pub lies : PartAt m u (place node block bit next) l whole (place 0 0 0 (bytes_for (stride l)))
  pub stands : StandsAt bs m u (place node block bit next)
  pub coded : OfVersion v m
  pub short : length bs < 2 ^ 29

pub here_is : (v : Version) (t : Noted) (bs : List ℕ) (node block bit : ℕ) (u : Value)
    → IsLayout v (layout_in v t) → IsPart (layout_in v t) bs node block bit u
    → Here v (layout_in v t) (layout_in v (sub t node)) bs node block bit u
here_is v t bs node block bit u is p =
    let l = layout_in v t in
    let m = p.lies.0 in
    let next = p.lies.1 in
    let at = p.lies.2 in
    let c = p.content in
    let n : Part l 0 m node = part_node at in
    subst (λ x. Here v l x bs node block bit u) (sym (told_child v t node m n).is) (record {
      whole = p.whole;
      content = c;
      small = p.are_bytes;
      next = next;
      lies = at;
      stands = part_stands bs p.are_bytes at (root_stands l p.whole bs p.are_bytes c.holds c.packed);
      coded = part_version v n is.coded;
      short = omega (
        arith,
        whole_cells l p.whole c.holds.of_kind is.legal,
        packed_length bs c.holds.of_kind
            c.packed,
        c.within,
      );
    })

-- so a view stands for it
pub here_told : {v : Version} {l m : Layout} {bs : List ℕ} {node block bit : ℕ} {u : Value}
    → Here v l m bs node block bit u → read_value bs m block bit ≡ u
here_told {v} {l} {m} {bs} {node} {block} {bit} {u} h =
    let p = h.stands.placed in
    told_is v bs h.small p.of_kind h.coded block bit h.next h.stands.past h.stands.inside h.stands.within
    p.holds
    p.image_there p.tail_there

-- the node of a view
pub node_of : (v : Version) (t : Noted) (bs : List ℕ) (node block bit : ℕ)
    → ∥ HasPart (layout_in v t) bs node block bit ∥₁ → Part t 0 (sub t node) node
node_of v t bs node block bit h =
    node_held v t node h (λ (p : HasPart (layout_in v t) bs node block bit).
    (p.1.lies.0, part_node p.1.lies.2))

-- ---- bounds

-- a part lies in the content, which is short
pub record Bounds (bs : List ℕ) (m : Layout) (block bit : ℕ) : Type 0 where
  pub within : bit + stride m ≤ 8 * length bs
  pub past : block ≤ length bs
  pub short : length bs < 2 ^ 29

pub bounds : (v : Version) (t : Noted) (bs : List ℕ) (node block bit : ℕ) → IsLayout v (layout_in v t)
    → ∥ HasPart (layout_in v t) bs node block bit ∥₁ → Bounds bs (layout_in v (sub t node)) block bit
bounds v t bs node block bit is h = record {
  within = ∥∥₁_elim h le_prop (λ p. (here_is v t bs node block bit p.0 is p.1).stands.within);
  past = ∥∥₁_elim h le_prop (λ p. let x = here_is v t bs node block bit p.0 is p.1 in omega
      (arith, x.stands.past, x.stands.inside));
  short = ∥∥₁_elim h le_prop (λ p. (here_is v t bs node block bit p.0 is p.1).short);
}
