-- What is left to see, as the loops over items and over fields go on.
use Rattle.std.proofs.Common.{◌≡◌, ℕ, ◌+◌, List, arith, ap, sym, ◌∙◌, subst}
use Rattle.frozen_model.specs.Trees.{Struct, NoField, Field, nodes, Part}
use Rattle.frozen_model.specs.Values.{Value, Values, Record, NoValue, And, Of, OfEach}
use Rattle.frozen_model.specs.Layouts.{Version, Layout, Layouts}
use Rattle.frozen_model.specs.Packing.{extent}
use Rattle.frozen_model.specs.Holding.{puts, puts_each, puts_all}
use Rattle.frozen_laws.proofs.Puts.{puts_beside, puts_each_beside}
use Rattle.layout_tree.specs.Listing.{Noted, layout_in, sub}
use Rattle.layout_tree.proofs.Left.{FieldsLeft, fields_start}
use Rattle.typed_tree.specs.Parts.{fields_of, IsRecord}
use Rattle.value_bounds.specs.declared.bounds.Bounds.{Bounds}
use Rattle.value_bounds.specs.Seeing.{numbers, all_numbers, seen_from, Saw, EachSaw, AllSaw}
use Rattle.value_bounds.proofs.Forms.{record_form}
use Rattle.value_bounds.proofs.Seen.{nothing_seen_from, none_seen, seen_past, seen_from_behind}
use Rattle.value_bounds.proofs.Seen.{seen_from_again, numbers_of_both, length_numbers}

-- ---- items

none_saw : (m : Layout) (s : List Bounds) (n : ℕ) → EachSaw m NoValue s s n
none_saw m s n from = sym (none_seen m s n)

more_saw : (m : Layout) (x : Value) (vs : Values) (s mid new : List Bounds) (n : ℕ) → Of m x → OfEach m vs
    → Saw m x s mid n → EachSaw m vs mid new n → EachSaw m (And x vs) s new n
more_saw m x vs s mid new n o os f g from =
    let next = from + extent m x in
    let xss = numbers (puts m x from) in
    let yss = numbers (puts_each m vs next) in
    g next ∙ ap (λ r. seen_from r n yss) (f from) ∙ seen_from_again s n xss yss
    ∙ ap (λ r. seen_from s n r) (sym (numbers_of_both (puts_beside o from) (puts_each_beside os next)))

-- once the items that are left are seen, all are
pub record ItemsRest (m : Layout) (all : Values) (s0 s : List Bounds) (n : ℕ) (vs : Values) : Type 0 where
  pub then : (new : List Bounds) → EachSaw m vs s new n → EachSaw m all s0 new n

pub items_unseen : (m : Layout) (all : Values) (s : List Bounds) (n : ℕ) → ItemsRest m all s s n all
items_unseen m all s n = record { then = λ new w. w }

pub item_seen : {m : Layout} {all : Values} {s0 s mid : List Bounds} {n : ℕ} {x : Value} {vs : Values}
    → Of m x → OfEach m vs → Saw m x s mid n → ItemsRest m all s0 s n (And x vs) → ItemsRest m all s0 mid n vs
item_seen {m} {all} {s0} {s} {mid} {n} {x} {vs} o os w
    r = record { then = λ new f. r.then new (more_saw m x vs s mid new n o os w f) }

pub items_seen : {m : Layout} {all : Values} {s0 s : List Bounds} {n : ℕ} → ItemsRest m all s0 s n NoValue
    → EachSaw m all s0 s n
items_seen {m} {all} {s0} {s} {n} r = r.then s (none_saw m s n)

-- ---- fields

no_field_saw : (s : List Bounds) (n : ℕ) → AllSaw NoField NoValue s s n
no_field_saw s n from = sym (nothing_seen_from s n)

field_saw : (id : ℕ) (m : Layout) (ms : Layouts) (x : Value) (vs : Values) (s mid new : List Bounds)
    (n n2 : ℕ) → Of m x → n2 ≡ n + nodes m → Saw m x s mid n → AllSaw ms vs mid new n2
    → AllSaw (Field id m ms) (And x vs) s new n
field_saw id m ms x vs s mid new n n2 o e f g from =
    let next = from + extent m x in
    let xss = numbers (puts m x from) in
    let yss = all_numbers (puts_all ms vs next) in
    g next ∙ ap (λ r. seen_from r n2 yss) (f from)
    ∙ sym (seen_from_behind s n n2 xss yss (omega (arith, e, length_numbers (puts_beside o from))))

-- once the fields that are left are seen, the struct is
pub record FieldsRest (l : Layout) (u : Value) (s0 s : List Bounds) (n child : ℕ) (ls : Layouts)
    (vs : Values) : Type 0 where
  pub then : (new : List Bounds) → AllSaw ls vs s new child → Saw l u s0 new n

pub fields_unseen : (t : Noted) (v : Version) (n child end : ℕ) (u : Value) (s : List Bounds) → IsRecord u
    → Part t 0 (sub t n) n → Of (layout_in v (sub t n)) u → end ≡ n + nodes (layout_in v (sub t n)) → child
    ≡ n + 1
    → FieldsLeft t v (nodes (layout_in v (sub t n))) (fields_of u) child end 0
    (FieldsRest (layout_in v (sub t n)) u s s n child)
fields_unseen t v n child end u s h p o e ec =
    let l = layout_in v (sub t n) in
    let vs = fields_of u in
    let f = record_form l u h o in
    let all : (new : List Bounds) → AllSaw f.layouts vs s new child
    → Saw (Struct f.layouts) (Record f.ids vs) s new n =
    λ new w from. w from ∙ sym (seen_past s n child (all_numbers (puts_all f.layouts vs from))
    (omega arith)) in
    fields_start t v n child end f.layouts vs p f.layout e ec f.form
    (record {
      then = λ new w. subst (λ (m : Layout). Saw m u s new n) (sym f.layout)
          (subst (λ (y : Value). Saw (Struct f.layouts) y s new n) (sym f.value) (all new w));
    })

pub field_seen : {l : Layout} {u : Value} {s0 s mid : List Bounds} {n child child2 id : ℕ} {m : Layout}
    {ms : Layouts} {x : Value} {vs : Values} → Of m x → child2 ≡ child + nodes m → Saw m x s mid child
    → FieldsRest l u s0 s n child (Field id m ms) (And x vs) → FieldsRest l u s0 mid n child2 ms vs
field_seen {l} {u} {s0} {s} {mid} {n} {child} {child2} {id} {m} {ms} {x} {vs} o e w
    r = record { then = λ new f. r.then new (field_saw id m ms x vs s mid new child child2 o e w f) }

pub fields_seen : {l : Layout} {u : Value} {s0 s : List Bounds} {n child : ℕ}
    → FieldsRest l u s0 s n child NoField NoValue → Saw l u s0 s n
fields_seen {l} {u} {s0} {s} {n} {child} r = r.then s (no_field_saw s child)
