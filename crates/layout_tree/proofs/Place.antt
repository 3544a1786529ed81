-- Where the nodes of a part stand in the list.
use Rattle.std.proofs.Common.{◌≡◌, ℕ, suc, ◌+◌, ◌≤◌, List, [], ◌∷◌, ◌++◌, arith, refl, ap, sym, ◌∙◌}
use Rattle.std.proofs.Common.{append_assoc, length, length-append, get_or, subst}
use Rattle.std.proofs.lemmas.List.{append-nil, get_or-append-add}
use Rattle.frozen_model.specs.Trees.{Tree, Leaf, ByteRange, ItemRange, Optional, Struct, NoField, Field}
use Rattle.frozen_model.specs.Trees.{nodes, nodes_all, Part, itself, in_item, in_optional, in_struct, PartAll}
use Rattle.frozen_model.specs.Trees.{in_first, in_later}
use Rattle.layout_tree.specs.declared.node.NodeSpec.{NodeSpec}
use Rattle.layout_tree.specs.declared.node.Kind.{Kind}
use Rattle.layout_tree.specs.declared.node.Kind.TheVariants as kinds
use Rattle.layout_tree.specs.Listing.{Noted, AllNoted, inline, item_struct, nodes_of, nodes_of_all, tree_of}
use Rattle.layout_tree.specs.Listing.{IsListing}
use Rattle.layout_tree.specs.Segments.{IsStructKind}
use Rattle.layout_tree.proofs.Decode.{item_is_struct}

mutual
  pub length_nodes : (t : Noted) (sk : Kind) (i p f o : ℕ) → length (nodes_of t sk i p f o) ≡ nodes t
  length_nodes (Leaf k c) sk i p f o = refl
  length_nodes (ByteRange t d c) sk i p f o = refl
  length_nodes (ItemRange h d c l) sk i p f o = omega
      (arith, length_nodes l (item_struct h) (suc (suc (suc i))) i 3 0)
  length_nodes (Optional w l) sk i p f o = omega (arith, length_nodes l kinds.Struct (suc (suc i)) i 2 w.bits)
  length_nodes (Struct ls) sk i p f o = omega (arith, length_nodes_all ls (suc i) i 0)

  pub length_nodes_all : (ls : AllNoted) (i p o : ℕ) → length (nodes_of_all ls i p o) ≡ nodes_all ls
  length_nodes_all NoField i p o = refl
  length_nodes_all (Field id l ls) i p o =
      length-append (nodes_of l kinds.Struct i p id o) (nodes_of_all ls (i + nodes l) p (o + inline l))
      ∙ omega (
        arith,
        length_nodes l kinds.Struct i p id o,
        length_nodes_all ls (i + nodes l) p
            (o + inline l),
      )

-- in a list whose first node has the number i, the nodes of s stand from the number n on
pub record Place (ns : List NodeSpec) (i : ℕ) (s : Noted) (n : ℕ) : Type 0 where
  pub pre : List NodeSpec
  pub post : List NodeSpec
  pub kind : Kind
  pub parent : ℕ
  pub field : ℕ
  pub offset : ℕ
  pub struct : IsStructKind kind
  pub whole : ns ≡ pre ++ (nodes_of s kind n parent field offset ++ post)
  pub long : length pre + i ≡ n

-- one more node in front
deeper : {ns : List NodeSpec} {s : Noted} {i n : ℕ} (x : NodeSpec) → Place ns (suc i) s n
    → Place (x ∷ ns) i s n
deeper {ns} {s} {i} {n} x p =
    record {
      pre = x ∷ p.pre;
      post = p.post;
      kind = p.kind;
      parent = p.parent;
      field = p.field;
      offset = p.offset;
      struct = p.struct;
      whole = ap (λ r. x ∷ r) p.whole;
      long = omega (arith, p.long);
    }

-- more nodes behind
wider : {ns : List NodeSpec} {s : Noted} {i n : ℕ} (more : List NodeSpec) → Place ns i s n
    → Place (ns ++ more) i s n
wider {ns} {s} {i} {n} more p =
    let mine = nodes_of s p.kind n p.parent p.field p.offset in
    record {
      pre = p.pre;
      post = p.post ++ more;
      kind = p.kind;
      parent = p.parent;
      field = p.field;
      offset = p.offset;
      struct = p.struct;
      long = p.long;
      whole = ap (λ r. r ++ more) p.whole ∙ append_assoc p.pre (mine ++ p.post) more
          ∙ ap (λ r. p.pre ++ r) (append_assoc mine p.post more);
    }

-- a list in front
behind : {ns : List NodeSpec} {s : Noted} {i n k : ℕ} (xs : List NodeSpec) → length xs ≡ k
    → Place ns (i + k) s n → Place (xs ++ ns) i s n
behind {ns} {s} {i} {n} {k} xs e p =
    record {
      pre = xs ++ p.pre;
      post = p.post;
      kind = p.kind;
      parent = p.parent;
      field = p.field;
      offset = p.offset;
      struct = p.struct;
      whole = ap (λ r. xs ++ r) p.whole
          ∙ sym (append_assoc xs p.pre (nodes_of s p.kind n p.parent p.field p.offset ++ p.post));
      long = omega (arith, length-append xs p.pre, p.long);
    }

mutual
  pub place : {t s : Noted} {i n : ℕ} → Part t i s n → (sk : Kind) → IsStructKind sk → (p f o : ℕ)
      → Place (nodes_of t sk i p f o) i s n
  place (itself {t = t} {i = i}) sk hk p f o =
      record {
        pre = [];
        post = [];
        kind = sk;
        parent = p;
        field = f;
        offset = o;
        struct = hk;
        whole = sym (append-nil (nodes_of t sk i p f o));
        long = omega arith;
      }
  place (in_item {h = g} {d = d} {c = c} {i = i} x) sk hk p f o = deeper _
      (deeper _ (deeper _ (place x (item_struct g) (item_is_struct g) i 3 0)))
  place (in_optional {w = w} {i = i} x) sk hk p f o = deeper _ (deeper _ (place x kinds.Struct tt i 2 w.bits))
  place (in_struct {ls = ls} {i = i} x) sk hk p f o = deeper _ (place_all x i 0)

  pub place_all : {ls : AllNoted} {s : Noted} {i n : ℕ} → PartAll ls i s n → (p o : ℕ)
      → Place (nodes_of_all ls i p o) i s n
  place_all (in_first {id = id} {l = l} {ls = ls} {i = i} x) p o = wider
      (nodes_of_all ls (i + nodes l) p (o + inline l)) (place x kinds.Struct tt p id o)
  place_all (in_later {id = id} {l = l} {ls = ls} {i = i} x) p o = behind (nodes_of l kinds.Struct i p id o)
      (length_nodes l kinds.Struct i p id o) (place_all x p (o + inline l))

-- what stands at a node and after it
pub record At (ns : List NodeSpec) (s : Noted) (n : ℕ) : Type 0 where
  pub post : List NodeSpec
  pub kind : Kind
  pub parent : ℕ
  pub field : ℕ
  pub offset : ℕ
  pub struct : IsStructKind kind
  pub within : n + nodes s ≤ length ns
  pub read : (k : ℕ) (d : NodeSpec) → get_or ns (n + k) d
      ≡ get_or (nodes_of s kind n parent field offset ++ post) k d

at_place : (ns : List NodeSpec) (s : Noted) (n : ℕ) → Place ns 0 s n → At ns s n
at_place ns s n p =
    let mine = nodes_of s p.kind n p.parent p.field p.offset in
    let e : n ≡ length p.pre = omega (arith, p.long) in
    record {
      post = p.post;
      kind = p.kind;
      parent = p.parent;
      field = p.field;
      offset = p.offset;
      struct = p.struct;
      within = omega (
        arith,
        ap length p.whole,
        length-append p.pre (mine ++ p.post),
        length-append mine
            p.post,
        length_nodes s p.kind n p.parent p.field p.offset,
        p.long,
      );
      read = λ k x. ap (λ j. get_or ns (j + k) x) e ∙ ap (λ r. get_or r (length p.pre + k) x) p.whole
          ∙ get_or-append-add p.pre (mine ++ p.post) k x;
    }

-- the same in a list of a tree's nodes
pub at_part : (ns : List NodeSpec) (s : Noted) (n : ℕ) → IsListing ns → Part (tree_of ns) 0 s n → At ns s n
at_part ns s n e p = at_place ns s n (subst (λ r. Place r 0 s n) (sym e) (place p kinds.Struct tt 0 0 0))

mutual
  pub some_nodes : {A B : Type 0} (t : Tree A B) → 1 ≤ nodes t
  some_nodes (Leaf k c) = omega arith
  some_nodes (ByteRange t d c) = omega arith
  some_nodes (ItemRange h d c l) = omega arith
  some_nodes (Optional w l) = omega arith
  some_nodes (Struct ls) = omega arith
