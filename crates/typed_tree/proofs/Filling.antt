-- Builders on which the defaults of the first fields of a struct stand.
use Rattle.std.proofs.Common.{◌≡◌, ℕ, ◌+◌, ◌-◌, ◌<◌, ◌≤◌, List, [], ◌∷◌, ◌++◌, length, take, drop, map, get_or, Some, refl, sym, ap, ◌∙◌, subst, arith, append_assoc, length-append, length-take-le, ⊎_elim}
use Rattle.std.specs.Prelude.{slice_get, unsigned_abs}
use Rattle.std.specs.List.{sum_by}
use Rattle.std.proofs.lemmas.List.{take_more, map_push, append-nil, length-map}
use Rattle.std.proofs.lemmas.List.Sums.{sum_by-take-le}
use Rattle.std.proofs.lemmas.Option.{slice_get_within, get_or_from_slice_get}
use Rattle.std.proofs.Math.Seq.{take-append_seam, drop-append_seam, take-length}
use Rattle.idl_profile.specs.declared.kinds.TypeKind.TheVariants as kinds
use Rattle.idl_profile.specs.Types.{TypeTree, scalar, text, bytes, list_of, set_of, map_of, named, enum_of, struct_of, Fields, no_fields, field, DefField, field_list, fields_of, kind_of, flag, i8, i16, i32, i64}
use Rattle.frozen_model.specs.Values.{Value, Absent, Record, And}
use Rattle.key_order.specs.InOrder.{row}
use Rattle.type_kinds.specs.Defaults.{default_of, defaults_of, by_need, ids_of_fields}
use Rattle.typed_tree.specs.declared.builder.Builder.{Builder}
use Rattle.typed_tree.specs.declared.room.Room.{Room}
use Rattle.typed_tree.specs.declared.tree.TreeKind.{TreeKind}
use Rattle.typed_tree.specs.Filled.{natural_ids, struct_with, default_kind}
use Rattle.typed_tree.specs.Pools.{values_of}
use Rattle.typed_tree.specs.Rooms.{room_of, without, HasRoom}
use Rattle.typed_tree.specs.Sizes.{used_by, default_value, field_kinds}
use Rattle.typed_tree.specs.Trees.{trees, kinds, room, but_last, Pushes, Joins}
use Rattle.frozen_model.specs.Trees.{KindTree}
use Rattle.type_kinds.specs.KindsOf.{kinds_of}
use Rattle.typed_tree.specs.Made.{IsMade, FieldsAreMade, Makes}
use Rattle.typed_tree.proofs.Reading.{le-or-lt}
use Rattle.typed_tree.proofs.Typed.{sum-push, used_of, nodes_used, bytes_used, used-struct}

-- the room of the defaults of the first so many fields
abbrev pub used_first : TypeTree → ℕ → Room
used_first t i = let fs = take i (fields_of t) in room_of (sum_by nodes_used fs) (sum_by bytes_used fs)

-- the defaults of the first so many fields stand on top
pub record Fills (old new : Builder) (t : TypeTree) (i : ℕ) : Type 0 where
  pub kept : (k : ℕ) (l : KindTree) → k < length (trees old) → IsMade old k l → IsMade new k l
  pub made : FieldsAreMade new (length (trees old)) (fields_of t) i
  pub trees : trees new ≡ trees old ++ map default_value (take i (fields_of t))
  pub kinds : kinds new ≡ kinds old ++ map default_kind (take i (fields_of t))
  pub room : room new ≡ without (room old) (used_first t i)

some-same : {f g : DefField} → Some f ≡ Some g → f ≡ g
some-same e = cc

module _ (t : TypeTree) (i : ℕ) (f : DefField) (at : slice_get (fields_of t) i ≡ Some f) where
  within : i < length (fields_of t)
  within = slice_get_within (fields_of t) i f at

  here : get_or (fields_of t) i f ≡ f
  here = get_or_from_slice_get (fields_of t) i f f at

  sum-more : (g : DefField → ℕ) → sum_by g (take (i + 1) (fields_of t)) ≡ sum_by g (take i (fields_of t)) + g f
  sum-more g = sum-push g (fields_of t) i f within ∙ ap (λ (h : DefField). sum_by g (take i (fields_of t)) + g h) here

  map-more : {X : Type 0} (g : DefField → X) → map g (take (i + 1) (fields_of t)) ≡ map g (take i (fields_of t)) ++ g f ∷ []
  map-more g = ap (map g) (take_more (fields_of t) i f within) ∙ map_push g (take i (fields_of t)) (get_or (fields_of t) i f) ∙ ap (λ (h : DefField). map g (take i (fields_of t)) ++ g h ∷ []) here

  so-many : (a b : Builder) → Fills a b t i → length (trees b) ≡ length (trees a) + i
  so-many a b h = omega (arith, ap (λ us. length us) h.trees, length-append (trees a) (map default_value (take i (fields_of t))), length-map (take i (fields_of t)) default_value, length-take-le i (fields_of t) (omega (arith, within)))

  -- one default more
  pub fills-more : (a b d : Builder) → Fills a b t i → Pushes b d (default_value f) (default_kind f) (used_of f) → Makes b d 0 (field_kinds f.need f.type) → Fills a d t (i + 1)
  fills-more a b d h p m =
      let many = so-many a b h in
      let nodes : b.room.nodes - nodes_used f ≡ a.room.nodes - sum_by nodes_used (take (i + 1) (fields_of t)) = omega (arith, sum-more nodes_used, ap (λ (r : Room). r.nodes) h.room) in
      let bytes : b.room.bytes - bytes_used f ≡ a.room.bytes - sum_by bytes_used (take (i + 1) (fields_of t)) = omega (arith, sum-more bytes_used, ap (λ (r : Room). r.bytes) h.room) in
      record {
        trees = p.trees ∙ ap (λ ts. ts ++ default_value f ∷ []) h.trees ∙ append_assoc (trees a) (map default_value (take i (fields_of t))) (default_value f ∷ []) ∙ ap (λ ts. trees a ++ ts) (sym (map-more default_value));
        kinds = p.kinds ∙ ap (λ ks. ks ++ default_kind f ∷ []) h.kinds ∙ append_assoc (kinds a) (map default_kind (take i (fields_of t))) (default_kind f ∷ []) ∙ ap (λ ks. kinds a ++ ks) (sym (map-more default_kind));
        room = p.room ∙ ap (λ n. room_of n (b.room.bytes - bytes_used f)) nodes ∙ ap (room_of (a.room.nodes - sum_by nodes_used (take (i + 1) (fields_of t)))) bytes;
        kept = λ k l lt made. m.kept k l (omega (arith, lt, many)) (h.kept k l lt made);
        made =
            λ k g lt e.
            ⊎_elim (λ (low : k < i). m.kept (length (trees a) + k) (field_kinds g.need g.type) (omega (arith, low, many)) (h.made k g low e))
            (λ (top : i ≤ k).
            let last : k ≡ i = omega (arith, lt, top) in
            let same : g ≡ f = some-same (sym e ∙ ap (slice_get (fields_of t)) last ∙ at) in
            let place : length (trees b) - 0 ≡ length (trees a) + k = omega (arith, many, last) in
            subst (λ (j : DefField). IsMade d (length (trees a) + k) (field_kinds j.need j.type)) (sym same) (subst (λ n. IsMade d n (field_kinds f.need f.type)) place m.made))
            (le-or-lt k i);
      }

  -- where there is room for all, there is room for one more
  pub room-for-more : (a b : Builder) → kind_of t ≡ kinds.Struct → HasRoom a.room (used_by (default_of t)) → Fills a b t i → HasRoom b.room (used_of f)
  room-for-more a b is h g =
      let all = used-struct t is in
      let n = ap (λ (r : Room). r.nodes) all in
      let m = ap (λ (r : Room). r.bytes) all in
      record {
        nodes = omega (arith, n, h.nodes, sum-more nodes_used, sum_by-take-le nodes_used (fields_of t) (i + 1), ap (λ (r : Room). r.nodes) g.room);
        bytes = omega (arith, m, h.bytes, sum-more bytes_used, sum_by-take-le bytes_used (fields_of t) (i + 1), ap (λ (r : Room). r.bytes) g.room);
      }

-- and a node is left for the struct
pub room-for-struct : (a b : Builder) (t : TypeTree) (i : ℕ) → kind_of t ≡ kinds.Struct → HasRoom a.room (used_by (default_of t)) → Fills a b t i → 0 < b.room.nodes
room-for-struct a b t i is h g = omega (arith, ap (λ (r : Room). r.nodes) (used-struct t is), h.nodes, sum_by-take-le nodes_used (fields_of t) i, ap (λ (r : Room). r.nodes) g.room)

-- ---- the struct of the defaults

ids-are : (fs : Fields) → natural_ids (field_list fs) ≡ ids_of_fields fs
ids-are no_fields = refl
ids-are (field i w n t d fs) = ap (λ is. unsigned_abs i ∷ is) (ids-are fs)

defaults-are : (fs : Fields) → row (map default_value (field_list fs)) ≡ defaults_of fs
defaults-are no_fields = refl
defaults-are (field i w n t d fs) = ap (And (by_need n d (default_of t))) (defaults-are fs)

pub struct-default : (t : TypeTree) → kind_of t ≡ kinds.Struct → struct_with (fields_of t) (map default_value (fields_of t)) ≡ default_of t
struct-default (named (struct_of w fs)) e = ap (λ is. Record is (row (map default_value (field_list fs)))) (ids-are fs) ∙ ap (Record (ids_of_fields fs)) (defaults-are fs)
struct-default (named (enum_of w ms)) e = absurd (cc)
struct-default (scalar flag) e = absurd (cc)
struct-default (scalar i8) e = absurd (cc)
struct-default (scalar i16) e = absurd (cc)
struct-default (scalar i32) e = absurd (cc)
struct-default (scalar i64) e = absurd (cc)
struct-default text e = absurd (cc)
struct-default bytes e = absurd (cc)
struct-default (list_of x) e = absurd (cc)
struct-default (set_of x) e = absurd (cc)
struct-default (map_of x y) e = absurd (cc)

-- the last of what was added at the end, and what was before
module _ {A : Type 0} (xs ys zs : List A) (is : zs ≡ xs ++ ys) (n : ℕ) (many : n ≡ length ys) where
  front : length zs - n ≡ length xs
  front = omega (arith, many, ap (λ ws. length ws) is, length-append xs ys)

  pub before-added : but_last n zs ≡ xs
  before-added = ap (λ i. take i zs) front ∙ ap (take (length xs)) is ∙ take-append_seam xs ys

pub after-added : {A : Type 0} (xs ys zs : List A) (n : ℕ) → zs ≡ xs ++ ys → n ≡ length xs → drop n zs ≡ ys
after-added xs ys zs n is e = ap (drop n) is ∙ ap (λ i. drop i (xs ++ ys)) e ∙ drop-append_seam xs ys

-- the defaults of all fields are the last trees
module _ (a b : Builder) (t : TypeTree) (base : ℕ) (here : base ≡ length a.stack.items) (h : Fills a b t (length (fields_of t))) where
  all-trees : trees b ≡ trees a ++ map default_value (fields_of t)
  all-trees = h.trees ∙ ap (λ (gs : List DefField). trees a ++ map default_value gs) (take-length (fields_of t))

  pub fills-last : drop base (trees b) ≡ map default_value (fields_of t)
  fills-last = after-added (trees a) (map default_value (fields_of t)) (trees b) base all-trees (here ∙ sym (length-map a.stack.items (λ k. get_or (values_of a.pool) k Absent)))

  pub fills-length : base + length (fields_of t) ≡ length b.stack.items
  fills-length = omega (arith, here, ap (λ us. length us) all-trees, length-append (trees a) (map default_value (fields_of t)), length-map (fields_of t) default_value, length-map a.stack.items (λ k. get_or (values_of a.pool) k Absent), length-map b.stack.items (λ k. get_or (values_of b.pool) k Absent))

-- all defaults, joined as the fields of a struct
pub fills-joined : (a b d : Builder) (t : TypeTree) (v : Value) (k : TreeKind) → kind_of t ≡ kinds.Struct → Fills a b t (length (fields_of t)) → Joins b d (length (fields_of t)) v k (room_of 1 0) → v ≡ default_of t → Pushes a d (default_of t) k (used_by (default_of t))
fills-joined a b d t v k is h j same =
    let fs = fields_of t in
    let n = length fs in
    let whole = take-length fs in
    let ts = h.trees ∙ ap (λ (gs : List DefField). trees a ++ map default_value gs) whole in
    let ks = h.kinds ∙ ap (λ (gs : List DefField). kinds a ++ map default_kind gs) whole in
    let used = used-struct t is in
    let un = ap (λ (r : Room). r.nodes) used in
    let ub = ap (λ (r : Room). r.bytes) used in
    let nodes : b.room.nodes - 1 ≡ a.room.nodes - (used_by (default_of t)).nodes = omega (arith, un, ap (λ (r : Room). r.nodes) h.room, ap (sum_by nodes_used) whole) in
    let bytes : b.room.bytes - 0 ≡ a.room.bytes - (used_by (default_of t)).bytes = omega (arith, ub, ap (λ (r : Room). r.bytes) h.room, ap (sum_by bytes_used) whole) in
    record {
      trees = j.trees ∙ ap (λ us. us ++ v ∷ []) (before-added (trees a) (map default_value fs) (trees b) ts n (sym (length-map fs default_value))) ∙ ap (λ w. trees a ++ w ∷ []) same;
      kinds = j.kinds ∙ ap (λ us. us ++ k ∷ []) (before-added (kinds a) (map default_kind fs) (kinds b) ks n (sym (length-map fs default_kind)));
      room = j.room ∙ ap (λ m. room_of m (b.room.bytes - 0)) nodes ∙ ap (room_of (a.room.nodes - (used_by (default_of t)).nodes)) bytes;
    }

-- and it was made as the type says
pub fills-made : (a b d : Builder) (t : TypeTree) → Fills a b t (length (fields_of t)) → Makes b d (length (fields_of t)) (kinds_of t) → Makes a d 0 (kinds_of t)
fills-made a b d t h m =
    let fs = fields_of t in
    let many : length (trees b) ≡ length (trees a) + length fs =
    omega (arith, ap (λ us. length us) h.trees, length-append (trees a) (map default_value (take (length fs) fs)), length-map (take (length fs) fs) default_value, ap (λ (gs : List DefField). length gs) (take-length fs)) in
    let here : length (trees b) - length fs ≡ length (trees a) - 0 = omega (arith, many) in
    record {
      many = m.many ∙ ap (λ n. n + 1) here;
      kept = λ k l lt made. m.kept k l (omega (arith, lt, here)) (h.kept k l (omega (arith, lt)) made);
      made = subst (λ n. IsMade d n (kinds_of t)) here m.made;
    }

-- a join of no trees is one tree more
pub joins-none : (a d : Builder) (n : ℕ) (v : Value) (k : TreeKind) (used : Room) → n ≡ 0 → Joins a d n v k used → Pushes a d v k used
joins-none a d n v k used none j = record {
  trees = j.trees ∙ ap (λ us. us ++ v ∷ []) (before-added (trees a) [] (trees a) (sym (append-nil (trees a))) n none);
  kinds = j.kinds ∙ ap (λ us. us ++ k ∷ []) (before-added (kinds a) [] (kinds a) (sym (append-nil (kinds a))) n none);
  room = j.room;
}
