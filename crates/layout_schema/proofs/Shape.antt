-- A value of the type of schemas says a layout exactly where it is the schema of this layout.
use Rattle.std.proofs.Common.{◌≡◌, ℕ, suc, ◌+◌, ◌<◌, ◌≤◌, ℤ, pos, Bool, true, false, if◌then◌else◌, List, [], ◌∷◌, Option, Some, None, Result, Ok, Err, arith, refl, ap, sym, ◌∙◌, subst, map, length}
use Rattle.std.specs.Prelude.{unsigned_abs}
use Rattle.std.specs.Ordering.{int_eq}
use Rattle.std.proofs.lemmas.List.{length-map}
use Rattle.frozen_model.specs.Trees.{Flag, Integer, I8, I16, I32, I64, Text, Binary, AList, ASet, AMap, Leaf, ByteRange, ItemRange, Optional, Struct, nodes, levels, IsStruct}
use Rattle.frozen_model.specs.Values.{Value, Values, NoValue, And, Atom, Truth, Number, One, Items, Record, IsOf, Of, one, items, record_of, OfEach, part as part_of, no_part, Rises}
use Rattle.frozen_model.specs.Layouts.{Version, Layout, OfVersion, IsLayout}
use Rattle.layout_tree.specs.declared.node.NodeSpec.{NodeSpec}
use Rattle.layout_tree.specs.declared.node.Kind.{Kind}
use Rattle.layout_tree.specs.declared.node.Kind.TheVariants as kinds
use Rattle.layout_tree.specs.Listing.{layout_in, Entry, leaf_of, built, kids, past_kids, entries, first_tree, tree_of, all_nodes, version_number}
use Rattle.layout_tree.specs.Given.{shown_wide, shown, shown_nodes, noted_from}
use Rattle.layout_tree.proofs.Decode.{tree_again}
use Rattle.layout_tree.proofs.Place.{length_nodes}
use Rattle.layout_tree.proofs.Taken.{layout_from, nodes_from}
use Rattle.compact_codec.specs.Wire.{flag_in}
use Rattle.typed_reading.proofs.FieldLaws.{int_eq_same}
use Rattle.layout_schema.specs.Schemas.{number, layouts_of, schema_with}
use Rattle.layout_schema.specs.Shapes.{relaxes_in, version_in, layouts_in as rows_in, root_in, AtRoot, may_stand, Walked, walk_part, unwalked, no_other, all_walked, at_root, shape_in}
use Rattle.layout_schema.proofs.Listed.{has_own}
use Rattle.layout_schema.proofs.Stands.{kind_here, Stands, tree_walked}
use Rattle.layout_schema.proofs.Walks.{walks}
use Rattle.layout_schema.proofs.Sound.{sound}
use Rattle.layout_schema.proofs.OwnSchema.{keyed, layout_kinds, schema_kinds}
use Rattle.layout_schema.proofs.Rows.{whole_atom, all_proper, rows_between, layouts_between, layouts_walked, same_rows, agree_in}

-- ---- the layout that shown nodes list

built_shown : (k : Kind) (z : ℤ) (b w : ℕ) (es : List Entry)
    → built k (record { base = z; bits = b; wide = shown_wide k b w }) es ≡ built k (record { base = z; bits = b; wide = w }) es
built_shown kinds.Flag z b w es = refl
built_shown kinds.I8 z b w es = refl
built_shown kinds.I16 z b w es = refl
built_shown kinds.I32 z b w es = refl
built_shown kinds.I64 z b w es = refl
built_shown kinds.Size z b w es = refl
built_shown kinds.Text z b w es = refl
built_shown kinds.Bytes z b w es = refl
built_shown kinds.List z b w es = refl
built_shown kinds.Set z b w es = refl
built_shown kinds.Map z b w es = refl
built_shown kinds.Pair z b w es = refl
built_shown kinds.Struct z b w es = refl
built_shown kinds.Optional z b w [] = refl
built_shown kinds.Optional z b w (e ∷ es) = refl

entries_shown : (i : ℕ) (ns : List NodeSpec) → entries i (map shown ns) ≡ entries i ns
entries_shown i [] = refl
entries_shown i (s ∷ ss) =
    ap (λ es. record { parent = s.parent; field = unsigned_abs s.field; read = built s.kind (leaf_of (shown s)) (kids i es) } ∷ past_kids i es) (entries_shown (suc i) ss)
    ∙ ap (λ r. record { parent = s.parent; field = unsigned_abs s.field; read = r } ∷ past_kids i (entries (suc i) ss)) (built_shown s.kind s.base s.bits s.wide (kids i (entries (suc i) ss)))

tree_shown : (ns : List NodeSpec) → tree_of (map shown ns) ≡ tree_of ns
unfolding tree_of
tree_shown ns = ap first_tree (entries_shown 0 ns)

-- the layout that its nodes list
pub listed_again : (v : Version) (l : Layout) → OfVersion v l → layout_in v (tree_of (shown_nodes (noted_from l))) ≡ l
listed_again v l h = ap (layout_in v) (tree_shown (all_nodes (noted_from l)) ∙ tree_again (noted_from l)) ∙ layout_from v l h

long_shown : (l : Layout) → length (shown_nodes (noted_from l)) ≡ nodes (noted_from l)
long_shown l = length-map (all_nodes (noted_from l)) shown ∙ length_nodes (noted_from l) kinds.Struct 0 0 0 0

-- ---- a schema says its layout

root_may : (l : Layout) → IsStruct l → may_stand AtRoot (kind_here l kinds.Struct) ≡ true
root_may (Leaf k c) h = absurd h
root_may (ByteRange t d c) h = absurd h
root_may (ItemRange g d c l) h = absurd h
root_may (Optional w l) h = absurd h
root_may (Struct ls) h = refl

root_stands : (v : Version) (l : Layout) → IsLayout v l → Stands v l AtRoot 1 0
root_stands v l h = record {
  may = root_may l h.root;
  pair = tt;
  formed = h.kind_tree.formed;
  few = omega (arith, h.kind_tree.few, nodes_from l);
  shallow = omega (arith, h.kind_tree.shallow);
  narrow = h.kind_tree.narrow;
  coded = h.coded;
  legal = h.legal;
}

pub shape_complete : (v : Version) (relaxes : Bool) (l : Layout) → IsLayout v l → shape_in (schema_with relaxes v l) ≡ Ok (shown_nodes (noted_from l))
shape_complete v relaxes l h =
    let ns = shown_nodes (noted_from l) in
    let ls = layouts_of v 0 ns in
    let stands = root_stands v l h in
    let walked : walk_part ls 4096 at_root 0 ≡ Ok (tree_walked l kinds.Struct 0 0 0 0) = walks v ls l 4096 AtRoot 1 0 0 0 0 (omega (arith, stands.few)) stands (has_own v l h.coded) in
    ap (all_walked ls) walked ∙ ap (no_other ns) (layouts_walked v 0 (length ns) ns (omega arith))

-- ---- what says a layout is its schema

root_from : (l : Layout) → may_stand AtRoot (kind_here l kinds.Struct) ≡ true → IsStruct l
root_from (Leaf Flag c) m = absurd cc
root_from (Leaf (Integer I8) c) m = absurd cc
root_from (Leaf (Integer I16) c) m = absurd cc
root_from (Leaf (Integer I32) c) m = absurd cc
root_from (Leaf (Integer I64) c) m = absurd cc
root_from (ByteRange Text d c) m = absurd cc
root_from (ByteRange Binary d c) m = absurd cc
root_from (ItemRange AList d c l) m = absurd cc
root_from (ItemRange ASet d c l) m = absurd cc
root_from (ItemRange AMap d c l) m = absurd cc
root_from (Optional w l) m = absurd cc
root_from (Struct ls) m = tt

root_few : (l : Layout) → 0 + nodes (noted_from l) ≤ 4096 → nodes l ≤ 4096
root_few l h = omega (arith, h, nodes_from l)

root_shallow : (n : ℕ) → 1 + n ≤ 33 → n ≤ 32
root_shallow n h = omega (arith, h)

none_more : (n : ℕ) → 0 + n ≤ n
none_more n = omega arith

-- the nodes are those of this layout, which is within the limits, and whose layouts the rows are
pub record Shaped (v : Version) (ls : Values) (ns : List NodeSpec) : Type 0 where
  pub tree : Layout
  pub layout : IsLayout v tree
  pub nodes : ns ≡ shown_nodes (noted_from tree)
  pub rows : ls ≡ layouts_of v 0 (shown_nodes (noted_from tree))

-- each layout within the limits has rows of the type
abbrev pub OwnRows : Version → Type 0
OwnRows v = (l : Layout) → IsLayout v l → OfEach (keyed (layout_kinds v)) (layouts_of v 0 (shown_nodes (noted_from l)))

abbrev nodes_in : Result (List NodeSpec) ℤ → List NodeSpec
nodes_in (Ok ns) = ns
nodes_in (Err z) = []

no_other_is : (xs : List NodeSpec) (o : Option ℤ) (ns : List NodeSpec) → no_other xs o ≡ Ok ns → (o ≡ None) × (xs ≡ ns)
no_other_is xs None ns e = (refl, ap nodes_in e)
no_other_is xs (Some z) ns e = absurd cc

walked_shaped : (v : Version) (ls : Values) (ns : List NodeSpec) → OwnRows v → OfEach (keyed (layout_kinds v)) ls → Rises AMap None ls
    → (r : Result Walked ℤ) → walk_part ls 4096 at_root 0 ≡ r → all_walked ls r ≡ Ok ns → Shaped v ls ns
walked_shaped v ls ns own each rise (Err z) walked e = absurd cc
walked_shaped v ls ns own each rise (Ok x) walked e =
    let all = no_other_is x.nodes (unwalked ls (length x.nodes)) ns e in
    let t = sound v ls (all_proper v ls each) 4096 AtRoot 1 0 0 0 0 x tt walked in
    let l = t.tree in
    let s = t.stands in
    let xs = shown_nodes (noted_from l) in
    let is : x.nodes ≡ xs = ap (λ (r : Walked). r.nodes) t.whole in
    let layout : IsLayout v l =
    record {
      root = root_from l s.may;
      kind_tree = record { formed = s.formed; few = root_few l s.few; shallow = root_shallow (levels l) s.shallow; narrow = s.narrow };
      coded = s.coded;
      legal = s.legal;
    } in
    let top = length xs in
    let none : unwalked ls top ≡ None = ap (λ r. unwalked ls (length r)) (sym is) ∙ all.0 in
    record {
      tree = l;
      layout = layout;
      nodes = sym all.1 ∙ is;
      rows = same_rows v 0 top ls (layouts_of v 0 xs) each (own l layout) (rows_between v ls top each rise none) (layouts_between v 0 top xs (none_more top))
          (λ n a b. agree_in ls (layouts_of v 0 xs) l t.has (has_own v l s.coded) n a (subst (λ r. n < r) (long_shown l) b));
    }

-- ---- values of the type of schemas

-- the parts of such a value
pub record Parts (v : Version) (s : Value) : Type 0 where
  pub rows : Values
  pub is : s ≡ Record (1 ∷ 2 ∷ 3 ∷ 4 ∷ []) (And (One (Truth (relaxes_in s))) (And (Items AMap rows) (And (number (root_in s)) (And (number (version_in s)) NoValue))))
  pub each : OfEach (keyed (layout_kinds v)) rows
  pub rise : Rises AMap None rows

flag_atom : (x : Atom) → IsOf Flag x → One (Truth (flag_in (One x))) ≡ One x
flag_atom (Truth b) h = refl
flag_atom (Number z) h = absurd h

pub parts : (v : Version) (s : Value) → Of (schema_kinds v) s → Parts v s
parts v _ (record_of {ids = is} ei (part_of (one {x = a} ha) (part_of (items {vs = us} few rise each) (part_of (one {x = b} hb) (part_of (one {x = c} hc) no_part))))) =
    let e1 = flag_atom a ha in
    let e2 = whole_atom I16 b hb in
    let e3 = whole_atom I32 c hc in
    record { rows = us; is = cc; each = each; rise = rise }

-- such a value that says nodes is the schema of a layout that has them
pub record Said (v : Version) (s : Value) (ns : List NodeSpec) : Type 0 where
  pub tree : Layout
  pub layout : IsLayout v tree
  pub nodes : ns ≡ shown_nodes (noted_from tree)
  pub is : s ≡ schema_with (relaxes_in s) v tree

shape_if : (z : ℤ) (r : Result (List NodeSpec) ℤ) (ns : List NodeSpec) → (if int_eq z (pos 0) then r else Err z) ≡ Ok ns → (z ≡ pos 0) × (r ≡ Ok ns)
shape_if z r ns e = go (int_eq z (pos 0)) refl e
  where
    go : (b : Bool) → int_eq z (pos 0) ≡ b → (if b then r else Err z) ≡ Ok ns → (z ≡ pos 0) × (r ≡ Ok ns)
    go true t h = (int_eq_same z (pos 0) t, h)
    go false t h = absurd cc

pub shape_sound : (v : Version) (s : Value) (ns : List NodeSpec) → OwnRows v → Of (schema_kinds v) s → version_in s ≡ version_number v → shape_in s ≡ Ok ns → Said v s ns
shape_sound v s ns own of version e =
    let p = parts v s of in
    let one = shape_if (root_in s) (all_walked (rows_in s) (walk_part (rows_in s) 4096 at_root 0)) ns e in
    let same : rows_in s ≡ p.rows = ap rows_in p.is in
    let walk = subst (λ r. all_walked r (walk_part r 4096 at_root 0) ≡ Ok ns) same one.1 in
    let w = walked_shaped v p.rows ns own p.each p.rise (walk_part p.rows 4096 at_root 0) refl walk in
    let r = relaxes_in s in
    record {
      tree = w.tree;
      layout = w.layout;
      nodes = w.nodes;
      is = p.is ∙ ap (λ u. Record (1 ∷ 2 ∷ 3 ∷ 4 ∷ []) (And (One (Truth r)) (And (Items AMap u) (And (number (root_in s)) (And (number (version_in s)) NoValue))))) w.rows
          ∙ ap (λ z. Record (1 ∷ 2 ∷ 3 ∷ 4 ∷ []) (And (One (Truth r)) (And (Items AMap (layouts_of v 0 (shown_nodes (noted_from w.tree)))) (And (number z) (And (number (version_in s)) NoValue))))) one.0
          ∙ ap (λ z. Record (1 ∷ 2 ∷ 3 ∷ 4 ∷ []) (And (One (Truth r)) (And (Items AMap (layouts_of v 0 (shown_nodes (noted_from w.tree)))) (And (number (pos 0)) (And (number z) NoValue))))) version;
    }
