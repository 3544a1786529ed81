-- What the nodes of a pool stand for. A node's parts stand before it, so one pass from the front gives each node its
-- value.
use Rattle.std.specs.Prelude.{ℕ, suc, ◌+◌, List, [], ◌∷◌, ◌++◌, Bool, true, ◌&&◌, nat_lt, nat_le, length, take, drop}
use Rattle.std.specs.Prelude.{map, slice_index_or}
use Rattle.std.specs.List.{list_all}
use Rattle.std.specs.Str.{is_utf8}
use Rattle.frozen_model.specs.Values.{Truth, Number, Value, One, Bytes, Items, Absent, Present, Record, Values}
use Rattle.frozen_model.specs.Values.{NoValue, And}
use Rattle.frozen_model.specs.Trees.{AList, ASet, AMap}
use Rattle.block_region.specs.Space.{Span}
use Rattle.typed_tree.specs.declared.spot.Spot.{Spot}
use Rattle.typed_tree.specs.declared.spot.Spot.TheVariants as s
use Rattle.typed_tree.specs.declared.spot.Run.{Run}
use Rattle.typed_tree.specs.declared.spot.Link.{Link}

-- what nodes refer to: links to their parts, and the bytes of all texts and binaries
pub record Store : Type 0 where
  pub links : List Link
  pub bytes : List ℕ

abbrev pub store : List Link → List ℕ → Store
store ls bytes = record { links = ls; bytes = bytes }

-- the bytes of a block
abbrev pub part : List ℕ → Span → List ℕ
part bytes at = take at.len (drop at.start bytes)

abbrev pub linked : Store → Run → List Link
linked st r = take r.count (drop r.first st.links)

-- a link of a list, a set or a map, where ids do not count
abbrev pub item_link : ℕ → Link
item_link n = record { id = 0; node = n }

-- the values that links name, where the nodes have these
abbrev pub pick : List Value → List Link → Values
pick vs [] = NoValue
pick vs (l ∷ ls) = And (slice_index_or vs l.node Absent) (pick vs ls)

-- a pair of a map
abbrev pub pair : Value → Value → Value
pair key value = Record (1 ∷ 2 ∷ []) (And key (And value NoValue))

-- keys and values by turns, as pairs
abbrev pub by_twos : Values → Values
by_twos (And key (And value vs)) = And (pair key value) (by_twos vs)
by_twos _ = NoValue

-- the value of a node, where the nodes before it have these
abbrev pub value_of : Store → List Value → Spot → Value
value_of st vs (s.Flag b) = One (Truth b)
value_of st vs (s.Int z) = One (Number z)
value_of st vs (s.Text at) = Bytes (part st.bytes at)
value_of st vs (s.Bytes at) = Bytes (part st.bytes at)
value_of st vs (s.List r) = Items AList (pick vs (linked st r))
value_of st vs (s.Set r) = Items ASet (pick vs (linked st r))
value_of st vs (s.Map r) = Items AMap (by_twos (pick vs (linked st r)))
value_of st vs (s.Struct r) = Record (map (λ l. l.id) (linked st r)) (pick vs (linked st r))
value_of st vs s.Absent = Absent
value_of st vs (s.Present n) = Present (slice_index_or vs n Absent)

-- the values of all nodes, where the first have these
abbrev pub known : Store → List Value → List Spot → List Value
known st vs [] = vs
known st vs (x ∷ xs) = known st (vs ++ value_of st vs x ∷ []) xs

abbrev pub values : Store → List Spot → List Value
values st xs = known st [] xs

-- ---- what a node refers to is there, and its parts stand before it

abbrev pub all_linked : Store → ℕ → Run → Bool
all_linked st n r = nat_le (r.first + r.count) (length st.links) && list_all (λ l. nat_lt l.node n) (linked st r)

-- the id of each is below those of all later ones
abbrev pub ids_rise : List Link → Bool
ids_rise [] = true
ids_rise (l ∷ ls) = list_all (λ k. nat_lt l.id k.id) ls && ids_rise ls

-- the block is there
abbrev pub has_block : Store → Span → Bool
has_block st at = nat_le (at.start + at.len) (length st.bytes)

-- of the node with this number
abbrev pub fits_at : Store → ℕ → Spot → Bool
fits_at st n (s.Flag b) = true
fits_at st n (s.Int z) = true
fits_at st n (s.Text at) = has_block st at && is_utf8 (part st.bytes at)
fits_at st n (s.Bytes at) = has_block st at
fits_at st n (s.List r) = all_linked st n r
fits_at st n (s.Set r) = all_linked st n r
fits_at st n (s.Map r) = all_linked st n r
fits_at st n (s.Struct r) = all_linked st n r && ids_rise (linked st r)
fits_at st n s.Absent = true
fits_at st n (s.Present k) = nat_lt k n

-- of the nodes from this number on
abbrev pub fits : Store → ℕ → List Spot → Bool
fits st n [] = true
fits st n (x ∷ xs) = fits_at st n x && fits st (suc n) xs
