-- The cells of the first parts of a value add up, on top of what was counted before; where the writing stops
-- for its cells, the whole has too many.
use Rattle.std.proofs.Common.{◌≡◌, ℕ, zero, suc, ◌+◌, ◌<◌, ◌≤◌, Some, refl, ap, ◌∙◌, arith, length}
use Rattle.std.proofs.Common.{slice_get}
use Rattle.std.specs.Prelude.{option_and_then}
use Rattle.idl_profile.specs.declared.kinds.Need.{Need}
use Rattle.idl_profile.specs.declared.kinds.Need.TheVariants.{Plain, Required, Optional}
use Rattle.idl_profile.specs.declared.kinds.TypeKind.TheVariants as k
use Rattle.idl_profile.specs.Types.{TypeTree, Fields, no_fields, field, DefField, field_list, fields_of, kind_of}
use Rattle.frozen_model.specs.Trees.{KindTree}
use Rattle.frozen_model.specs.Values.{Value, Values, NoValue, And, Of, absent, present, count, nth, cells}
use Rattle.frozen_model.specs.Values.{cells_each, cell_limit}
use Rattle.type_kinds.specs.KindsOf.{kinds_of}
use Rattle.typed_tree.specs.Parts.{field_of, fields_of as values_in}
use Rattle.typed_tree.specs.Sizes.{capped, field_kinds}
use Rattle.typed_tree.specs.Spots.{pair}
use Rattle.typed_tree.specs.Ranges.{pair_kinds}
use Rattle.typed_tree.proofs.Celled.{HasFields, all_fields, fields_before, field-more, fields-all}
use Rattle.typed_tree.proofs.Celled.{struct-value, field-value}
use Rattle.evolve.specs.declared.lens.Lens.{Lens}
use Rattle.evolve.specs.Parts.{held}
use Rattle.evolve.specs.Lenses.{type_of_lens, value_of_lens}
use Rattle.evolve.proofs.Known.{lens_ids, lens_accepted}
use Rattle.evolve.proofs.Members.{rising_ids}
use Rattle.lens_values.specs.declared.fault.Halt.{Halt}
use Rattle.lens_values.specs.declared.fault.Halt.TheVariants as halts
use Rattle.lens_values.specs.Thaws.{IsHalt}
use Rattle.lens_values.specs.Writing.{held_cells}
use Rattle.lens_values.proofs.FlatTypes.{listed}
use Rattle.lens_values.proofs.LensParts.{plain_held, by_value, lens_struct, struct_at}

-- ---- items and pairs

-- the cells of the first so many items, without the one that each has beside its own
abbrev pub own_before : KindTree → Values → ℕ → ℕ
own_before k NoValue n = 0
own_before k (And v vs) zero = 0
own_before k (And v vs) (suc n) = cells k v + own_before k vs n

pub own_none : (k : KindTree) (vs : Values) → own_before k vs 0 ≡ 0
own_none k NoValue = refl
own_none k (And v vs) = refl

own_next : (k : KindTree) (vs : Values) (i : ℕ) → i < count vs
    → own_before k vs (suc i) ≡ own_before k vs i + cells k (nth vs i)
own_next k NoValue i lt = absurd (omega (arith, lt))
own_next k (And v vs) zero lt = omega (arith, own_none k vs)
own_next k (And v vs) (suc i) lt = omega (arith, own_next k vs i (omega (arith, lt)))

own_more : (k : KindTree) (vs : Values) (i : ℕ) → i < count vs
    → own_before k vs (i + 1) ≡ own_before k vs i + cells k (nth vs i)
own_more k vs i lt = ap (own_before k vs) (omega arith) ∙ own_next k vs i lt

own_all : (k : KindTree) (vs : Values) → count vs + own_before k vs (count vs) ≡ cells_each k vs
own_all k NoValue = refl
own_all k (And v vs) = omega (arith, own_all k vs)

-- one more item
pub item_counted : (k : KindTree) (vs : Values) (i start total next : ℕ) → i < count vs
    → capped total ≡ capped (start + own_before k vs i) → capped next ≡ capped (total + cells k (nth vs i))
    → capped next ≡ capped (start + own_before k vs (i + 1))
item_counted k vs i start total next lt so_far one = omega (arith, own_more k vs i lt, so_far, one)

-- one more pair
pub pair_counted : (a b : KindTree) (vs : Values) (i start total mid next : ℕ) (v w : Value) → i < count vs
    → nth vs i ≡ pair v w → capped total ≡ capped (start + own_before (pair_kinds a b) vs i)
    → capped mid ≡ capped (total + cells a v) → capped next ≡ capped (mid + cells b w)
    → capped next ≡ capped (start + own_before (pair_kinds a b) vs (i + 1))
pair_counted a b vs i start total mid next v w lt at so_far first second =
    let both : cells (pair_kinds a b) (nth vs i) ≡ cells a v + (cells b w + 0) = ap (cells (pair_kinds a b)) at in
    omega (arith, own_more (pair_kinds a b) vs i lt, both, so_far, first, second)

-- all of them: two cells and one for each were counted at the start
pub items_counted : (k : KindTree) (vs : Values) (i old start total whole : ℕ) → i ≡ count vs
    → capped start ≡ capped (old + capped (count vs + 2)) → capped total ≡ capped (start + own_before k vs i)
    → whole ≡ 2 + cells_each k vs → capped total ≡ capped (old + whole)
items_counted k vs i old start total whole all first so_far is =
    let each : own_before k vs i ≡ own_before k vs (count vs) = ap (own_before k vs) all in
    omega (arith, each, own_all k vs, first, so_far, is)

-- ---- fields

-- one more field
pub field_counted : (t : TypeTree) (v : Value) (i start total next : ℕ) (f : DefField) → HasFields t v
    → slice_get (fields_of t) i ≡ Some f
    → capped total ≡ capped (start + fields_before (all_fields t) (values_in v) i)
    → capped next ≡ capped (total + cells (field_kinds f.need f.type) (nth (values_in v) i))
    → capped next ≡ capped (start + fields_before (all_fields t) (values_in v) (i + 1))
field_counted t v i start total next f h at so_far one =
    let before = fields_before (all_fields t) (values_in v) i in
    let here = cells (field_kinds f.need f.type) (nth (values_in v) i) in
    let sum = field-more t v i (capped before) (capped here) (capped (capped before + capped here)) f h at
    refl refl refl in
    omega (arith, sum, so_far, one)

-- all fields
pub fields_counted : (t : TypeTree) (v : Value) (i start total : ℕ) → HasFields t v → i ≡ length (fields_of t)
    → capped total ≡ capped (start + fields_before (all_fields t) (values_in v) i)
    → capped total ≡ capped (start + cells (kinds_of t) v)
fields_counted t v i start total h all so_far =
    let whole = fields-all t v i (capped (fields_before (all_fields t) (values_in v) i)) h all refl in
    omega (arith, whole, so_far)

-- the cells of a field are those of what it has
held_all : (n : Need) (t : TypeTree) (v : Value) → Of (field_kinds n t) v
    → held_cells n (kinds_of t) (held v) ≡ cells (field_kinds n t) v
held_all Plain t v o =
    let same : 0 + cells (kinds_of t) v ≡ cells (kinds_of t) v = omega arith in
    ap (held_cells Plain (kinds_of t)) (plain_held t v o) ∙ same
held_all Required t v o =
    let same : 0 + cells (kinds_of t) v ≡ cells (kinds_of t) v = omega arith in
    ap (held_cells Required (kinds_of t)) (plain_held t v o) ∙ same
held_all Optional t _ absent = refl
held_all Optional t _ (present h) = refl

-- the field at a place is found by its id, and has the cells of the value at that place
pub field_held : (l : Lens) (i : ℕ) (f : DefField) → kind_of (type_of_lens l) ≡ k.Struct
    → slice_get (fields_of (type_of_lens l)) i ≡ Some f
    → held_cells f.need (kinds_of f.type) (option_and_then held (field_of (value_of_lens l) f.id))
    ≡ cells (field_kinds f.need f.type) (nth (values_in (value_of_lens l)) i)
field_held l i f e at =
    let t = type_of_lens l in
    let v = value_of_lens l in
    let found = struct_at t v i f (lens_struct l e) (rising_ids t (lens_accepted l)) (lens_ids l) at in
    ap (λ x. held_cells f.need (kinds_of f.type) (option_and_then held x)) found
    ∙ by_value l (λ o. held_all f.need f.type (nth (values_in v) i)
    (field-value t v i f (struct-value t v e o) at))

-- ---- where the writing stops

still_halted : (m n : ℕ) (h : Halt) → (cell_limit < m → cell_limit < n) → IsHalt m h → IsHalt n h
still_halted m n halts.TooMany more x = more x
still_halted m n halts.NoMemory more x = tt

own_up : (k : KindTree) (vs : Values) (i : ℕ) → own_before k vs i ≤ own_before k vs (count vs)
own_up k NoValue i = omega arith
own_up k (And v vs) zero = omega arith
own_up k (And v vs) (suc i) = omega (arith, own_up k vs i)

-- before the first item or pair
pub range_halted : (k : KindTree) (vs : Values) (old more whole : ℕ) (h : Halt)
    → more ≡ capped (count vs + 2) → whole ≡ 2 + cells_each k vs → IsHalt (old + more) h
    → IsHalt (old + whole) h
range_halted k vs old more whole h some is =
    still_halted _ _ h (λ x. omega (arith, x, own_all k vs, some, is))

-- in an item
pub item_halted : (k : KindTree) (vs : Values) (i old start total whole : ℕ) (h : Halt) → i < count vs
    → capped start ≡ capped (old + capped (count vs + 2)) → capped total ≡ capped (start + own_before k vs i)
    → whole ≡ 2 + cells_each k vs → IsHalt (total + cells k (nth vs i)) h → IsHalt (old + whole) h
item_halted k vs i old start total whole h lt first so_far is =
    let up = own_up k vs (i + 1) in
    let next = own_more k vs i lt in
    let all = own_all k vs in
    still_halted _ _ h (λ x. omega (arith, x, up, next, all, first, so_far, is))

-- in the key of a pair
pub key_halted : (a b : KindTree) (vs : Values) (i old start total whole : ℕ) (v w : Value) (h : Halt)
    → i < count vs → nth vs i ≡ pair v w → capped start ≡ capped (old + capped (count vs + 2))
    → capped total ≡ capped (start + own_before (pair_kinds a b) vs i)
    → whole ≡ 2 + cells_each (pair_kinds a b) vs → IsHalt (total + cells a v) h → IsHalt (old + whole) h
key_halted a b vs i old start total whole v w h lt at first so_far is s =
    let both : cells (pair_kinds a b) (nth vs i) ≡ cells a v + (cells b w + 0) = ap (cells (pair_kinds a b)) at in
    item_halted (pair_kinds a b) vs i old start total whole h lt first so_far is
    (still_halted _ _ h (λ x. omega (arith, x, both)) s)

-- in the value of a pair
pub value_halted : (a b : KindTree) (vs : Values) (i old start total mid whole : ℕ) (v w : Value) (h : Halt)
    → i < count vs → nth vs i ≡ pair v w → capped start ≡ capped (old + capped (count vs + 2))
    → capped total ≡ capped (start + own_before (pair_kinds a b) vs i)
    → capped mid ≡ capped (total + cells a v) → whole ≡ 2 + cells_each (pair_kinds a b) vs
    → IsHalt (mid + cells b w) h → IsHalt (old + whole) h
value_halted a b vs i old start total mid whole v w h lt at first so_far key is s =
    let both : cells (pair_kinds a b) (nth vs i) ≡ cells a v + (cells b w + 0) = ap (cells (pair_kinds a b)) at in
    item_halted (pair_kinds a b) vs i old start total whole h lt first so_far is
    (still_halted _ _ h (λ x. omega (arith, x, both, key)) s)

fields_up : (fs : Fields) (vs : Values) (i : ℕ)
    → fields_before fs vs i ≤ fields_before fs vs (length (field_list fs))
fields_up no_fields vs i = omega arith
fields_up (field j w a t d fs) NoValue i = omega arith
fields_up (field j w a t d fs) (And v vs) zero = omega arith
fields_up (field j w a t d fs) (And v vs) (suc i) = omega (arith, fields_up fs vs i)

-- in a field
pub field_halted : (l : Lens) (i : ℕ) (f : DefField) (start total : ℕ) (h : Halt)
    → kind_of (type_of_lens l) ≡ k.Struct → slice_get (fields_of (type_of_lens l)) i ≡ Some f
    → capped total ≡ capped (start + fields_before (all_fields (type_of_lens l)) (values_in (value_of_lens l)) i)
    → IsHalt (total
    + held_cells f.need (kinds_of f.type) (option_and_then held (field_of (value_of_lens l) f.id))) h
    → IsHalt (start + cells (kinds_of (type_of_lens l)) (value_of_lens l)) h
field_halted l i f start total h e at so_far =
    let t = type_of_lens l in
    let v = value_of_lens l in
    let fs = all_fields t in
    let vs = values_in v in
    let n = length (fields_of t) in
    let before = fields_before fs vs i in
    let here = cells (field_kinds f.need f.type) (nth vs i) in
    let same = field_held l i f e at in
    let sum = by_value l (λ o.
    field-more t v i (capped before) (capped here) (capped (capped before + capped here)) f
    (struct-value t v e o) at refl refl refl) in
    let whole = by_value l (λ o.
    fields-all t v n (capped (fields_before fs vs n)) (struct-value t v e o) refl refl) in
    let up = fields_up fs vs (i + 1) in
    let end = ap (λ gs. fields_before fs vs (length gs)) (listed t) in
    still_halted _ _ h (λ x. omega (arith, x, same, sum, whole, up, end, so_far))
