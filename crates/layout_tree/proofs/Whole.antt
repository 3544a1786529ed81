-- Which nodes are leaves of whole numbers.
use Rattle.std.proofs.Common.{◌≡◌, ℕ, zero, suc, ◌+◌, ◌-◌, ◌<◌, inl, inr, List}
use Rattle.std.proofs.Common.{false, arith, refl, ap, ◌∙◌, get_or}
use Rattle.std.proofs.lemmas.Bool.{cases_lt}
use Rattle.std.proofs.lemmas.List.{get_or_append_left, get_or-append_right}
use Rattle.frozen_model.specs.Trees.{I8, I16, I32, I64, Flag, Integer, ByteKind, Text, Binary}
use Rattle.frozen_model.specs.Trees.{Holder, AList, ASet, AMap, Leaf, ByteRange, ItemRange, Optional, Struct}
use Rattle.frozen_model.specs.Trees.{NoField, Field, nodes, nodes_all}
use Rattle.layout_tree.specs.declared.node.NodeSpec.{NodeSpec}
use Rattle.layout_tree.specs.declared.node.Kind.{Kind}
use Rattle.layout_tree.specs.declared.node.Kind.TheVariants as kinds
use Rattle.layout_tree.specs.Listing.{Noted, AllNoted, inline, item_struct, kind_of_bytes}
use Rattle.layout_tree.specs.Listing.{kind_of_holder, nodes_of, nodes_of_all, tree_of, IsListing}
use Rattle.layout_tree.specs.Segments.{IsStructKind}
use Rattle.layout_tree.specs.Reading.{whole_kind}
use Rattle.layout_tree.specs.Basing.{whole_at, whole_among}
use Rattle.layout_tree.proofs.Decode.{item_is_struct}
use Rattle.layout_tree.proofs.Place.{length_nodes}
use Rattle.layout_tree.proofs.Subs.{below_test, above_test}

struct_kind : (k : Kind) → IsStructKind k → whole_kind k ≡ false
struct_kind kinds.Struct h = refl
struct_kind kinds.Pair h = refl
struct_kind kinds.Flag h = absurd h
struct_kind kinds.I8 h = absurd h
struct_kind kinds.I16 h = absurd h
struct_kind kinds.I32 h = absurd h
struct_kind kinds.I64 h = absurd h
struct_kind kinds.Text h = absurd h
struct_kind kinds.Bytes h = absurd h
struct_kind kinds.List h = absurd h
struct_kind kinds.Set h = absurd h
struct_kind kinds.Map h = absurd h
struct_kind kinds.Optional h = absurd h
struct_kind kinds.Size h = absurd h

bytes_kind : (t : ByteKind) → whole_kind (kind_of_bytes t) ≡ false
bytes_kind Text = refl
bytes_kind Binary = refl

holder_kind : (h : Holder) → whole_kind (kind_of_holder h) ≡ false
holder_kind AList = refl
holder_kind ASet = refl
holder_kind AMap = refl

mutual
  whole_read : (t : Noted) (sk : Kind) → IsStructKind sk → (i p f o : ℕ) (x : NodeSpec) (k : ℕ) → k < nodes t
      → whole_kind (get_or (nodes_of t sk i p f o) k x).kind ≡ whole_at t k
  whole_read (Leaf Flag c) sk hk i p f o x zero h = refl
  whole_read (Leaf (Integer I8) c) sk hk i p f o x zero h = refl
  whole_read (Leaf (Integer I16) c) sk hk i p f o x zero h = refl
  whole_read (Leaf (Integer I32) c) sk hk i p f o x zero h = refl
  whole_read (Leaf (Integer I64) c) sk hk i p f o x zero h = refl
  whole_read (Leaf j c) sk hk i p f o x (suc k) h = absurd (omega arith)
  whole_read (ByteRange t d c) sk hk i p f o x zero h = bytes_kind t
  whole_read (ByteRange t d c) sk hk i p f o x (suc zero) h = refl
  whole_read (ByteRange t d c) sk hk i p f o x (suc (suc zero)) h = refl
  whole_read (ByteRange t d c) sk hk i p f o x (suc (suc (suc k))) h = absurd (omega arith)
  whole_read (ItemRange g d c l) sk hk i p f o x zero h = holder_kind g
  whole_read (ItemRange g d c l) sk hk i p f o x (suc zero) h = refl
  whole_read (ItemRange g d c l) sk hk i p f o x (suc (suc zero)) h = refl
  whole_read (ItemRange g d c l) sk hk i p f o x (suc (suc (suc k))) h = whole_read l (item_struct g)
      (item_is_struct g) (suc (suc (suc i))) i 3 0 x k (omega arith)
  whole_read (Optional w l) sk hk i p f o x zero h = refl
  whole_read (Optional w l) sk hk i p f o x (suc zero) h = refl
  whole_read (Optional w l) sk hk i p f o x (suc (suc k)) h = whole_read l kinds.Struct tt (suc (suc i)) i 2
      w.bits x k (omega arith)
  whole_read (Struct ls) sk hk i p f o x zero h = struct_kind sk hk
  whole_read (Struct ls) sk hk i p f o x (suc k) h = whole_read_all ls (suc i) i 0 x k (omega arith)

  whole_read_all : (ls : AllNoted) (i p o : ℕ) (x : NodeSpec) (k : ℕ) → k < nodes_all ls
      → whole_kind (get_or (nodes_of_all ls i p o) k x).kind ≡ whole_among ls k
  whole_read_all NoField i p o x k h = absurd (omega arith)
  whole_read_all (Field id l ls) i p o x k h =
      let mine = nodes_of l kinds.Struct i p id o in
      let more = nodes_of_all ls (i + nodes l) p (o + inline l) in
      let long = length_nodes l kinds.Struct i p id o in
      elim (cases_lt k (nodes l)) [
        | inl lt ↦
            let here = get_or_append_left mine more x k (omega (arith, long, lt)) in
            let t = below_test k (nodes l) lt in
            rw t (ap (λ (y : NodeSpec). whole_kind y.kind) here
            ∙ whole_read l kinds.Struct tt i p id o x k lt)
        | inr le ↦
            let here = get_or-append_right mine more (nodes l) k x long le in
            let t = above_test k (nodes l) le in
            rw t (ap (λ (y : NodeSpec). whole_kind y.kind) here
            ∙ whole_read_all ls (i + nodes l) p (o + inline l) x (k - nodes l) (omega (arith, le, h)))
      ]

-- the kind of a node tells whether it is a leaf of whole numbers
pub whole_listed : (ns : List NodeSpec) (n : ℕ) (x : NodeSpec) → IsListing ns → n < nodes (tree_of ns) → x
    ≡ get_or ns n x → whole_kind x.kind ≡ whole_at (tree_of ns) n
whole_listed ns n x li h e =
    let t = tree_of ns in
    ap (λ (y : NodeSpec). whole_kind y.kind) (e ∙ ap (λ (r : List NodeSpec). get_or r n x) li)
    ∙ whole_read t kinds.Struct tt 0 0 0 0 x n h
