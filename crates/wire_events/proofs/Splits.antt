-- What is left of a container, cut behind its first value.
use Rattle.std.proofs.Common.{◌≡◌, ℕ, zero, suc, List, [], ◌∷◌, ◌++◌, Bool, Option, Some, None, Result, Ok, Err, refl, sym, ap, ◌∙◌}
use Rattle.std.specs.Prelude.{ℤ}
use Rattle.exact_reading.specs.declared.stop.Stop.{Stop}
use Rattle.exact_reading.specs.Reading.{◌>>=◌, and_then, pure}
use Rattle.exact_reading.proofs.Items.{ok_is, bind_ok}
use Rattle.compact_wire.specs.declared.kind.Kind.{Kind}
use Rattle.compact_wire.specs.declared.header.FieldType.{FieldType}
use Rattle.compact_wire.specs.declared.header.FieldType.TheVariants.{Given as given, Of as of}
use Rattle.compact_wire.specs.Node.{Node, flag, Nodes, node, Pairs, pair, Fields, no_fields, field}
use Rattle.compact_wire.specs.Reads.{value, items, pairs, fields, typed, field_start}
use Rattle.compact_wire.proofs.ReadSteps.{rest_of, unroll}
use Rattle.wire_events.specs.Events.{Event, events, events_in, events_in_pairs, events_in_fields, field_event, end_event}
use Rattle.wire_events.specs.declared.frame.Frame.{Frame}
use Rattle.wire_events.specs.declared.frame.Frame.TheVariants as f
use Rattle.wire_events.specs.Frames.{IsLeft, items_left, pairs_left, value_left, fields_left, field_value_left}

-- a value, and what is left behind it
pub record Split (l : ℕ) (kind : Kind) (keep : Frame) (es : List Event) (b end : List ℕ) : Type 0 where
  pub first : Node
  pub outs : List Event
  pub mid : List ℕ
  pub reads : value l kind b ≡ Ok (first, mid)
  pub parts : es ≡ events first ++ outs
  pub left : IsLeft l keep outs mid end

abbrev made_of : {A B : Type 0} → (A → B) → A × List ℕ → Result (B × List ℕ) Stop
made_of make p = Ok (make p.0, p.1)

items_more : (l : ℕ) (kind : Kind) (n : ℕ) (xs : Nodes) (x : Node) (b mid end : List ℕ) (r : Result (Nodes × List ℕ) Stop) → value l kind b ≡ Ok (x, mid) → items (value l kind) n mid ≡ r → (r >>= made_of (node x)) ≡ Ok (xs, end)
    → Split l kind (f.Items kind n) (events_in xs) b end
items_more l kind n xs x b mid end (Ok p) h i j =
    let o = ok_is (node x p.0) xs p.1 end j in
    record { first = x; outs = events_in p.0; mid = mid; reads = h; parts = sym (ap events_in o.0); left = items_left l kind n p.0 mid end (i ∙ ap (λ (z : List ℕ). Ok (p.0, z)) o.1) }
items_more l kind n xs x b mid end (Err d) h i j = absurd cc

pub items_split : (l : ℕ) (kind : Kind) (n : ℕ) (es : List Event) (b end : List ℕ) → IsLeft l (f.Items kind (suc n)) es b end → Split l kind (f.Items kind n) es b end
unfolding items
items_split l kind n es b end (items_left _ _ _ xs _ _ e) =
    let a = bind_ok (value l kind b) (λ p. and_then (items (value l kind) n) (λ ys. pure (node p.0 ys)) p.1) (xs, end) e in
    items_more l kind n xs a.0.0 b a.0.1 end (items (value l kind) n a.0.1) a.1 refl a.2

pairs_more : (l : ℕ) (k v : Kind) (n : ℕ) (xs : Pairs) (x y : Node) (b mid next end : List ℕ) (r : Result (Pairs × List ℕ) Stop) → value l k b ≡ Ok (x, mid) → value l v mid ≡ Ok (y, next) → pairs (value l k) (value l v) n next ≡ r
    → (r >>= made_of (pair x y)) ≡ Ok (xs, end) → Split l k (f.Values k v n) (events_in_pairs xs) b end
pairs_more l k v n xs x y b mid next end (Ok p) h g i j =
    let o = ok_is (pair x y p.0) xs p.1 end j in
    record { first = x; outs = events y ++ events_in_pairs p.0; mid = mid; reads = h; parts = sym (ap events_in_pairs o.0); left = value_left l k v n y p.0 mid next end g (i ∙ ap (λ (z : List ℕ). Ok (p.0, z)) o.1) }
pairs_more l k v n xs x y b mid next end (Err d) h g i j = absurd cc

pub keys_split : (l : ℕ) (k v : Kind) (n : ℕ) (es : List Event) (b end : List ℕ) → IsLeft l (f.Keys k v (suc n)) es b end → Split l k (f.Values k v n) es b end
unfolding pairs
keys_split l k v n es b end (pairs_left _ _ _ _ xs _ _ e) =
    let a = bind_ok (value l k b) (λ p. and_then (value l v) (λ y. and_then (pairs (value l k) (value l v) n) (λ ys. pure (pair p.0 y ys))) p.1) (xs, end) e in
    let d = bind_ok (value l v a.0.1) (λ p. and_then (pairs (value l k) (value l v) n) (λ ys. pure (pair a.0.0 p.0 ys)) p.1) (xs, end) a.2 in
    pairs_more l k v n xs a.0.0 d.0.0 b a.0.1 d.0.1 end (pairs (value l k) (value l v) n d.0.1) a.1 d.1 refl d.2

pub values_split : (l : ℕ) (k v : Kind) (n : ℕ) (es : List Event) (b end : List ℕ) → IsLeft l (f.Values k v n) es b end → Split l v (f.Keys k v n) es b end
values_split l k v n es b end (value_left _ _ _ _ y xs _ mid _ e h) = record { first = y; outs = events_in_pairs xs; mid = mid; reads = e; parts = refl; left = pairs_left l k v n xs mid end h }

pub field_split : (l : ℕ) (id : ℤ) (kind : Kind) (es : List Event) (b end : List ℕ) → IsLeft l (f.FieldValue id (of kind)) es b end → Split l kind (f.Fields id) es b end
field_split l id kind es b end (field_value_left _ _ _ turns x xs _ mid _ e h) = record { first = x; outs = events_in_fields xs; mid = mid; reads = e; parts = refl; left = fields_left l id turns xs mid end h }

-- a flag stands in the code
abbrev pub FlagSplit : ℕ → ℤ → Bool → List Event → List ℕ → List ℕ → Type 0
FlagSplit l id x es b end = (outs : List Event) × (es ≡ events (flag x) ++ outs) × IsLeft l (f.Fields id) outs b end

pub flag_split : (l : ℕ) (id : ℤ) (x : Bool) (es : List Event) (b end : List ℕ) → IsLeft l (f.FieldValue id (given x)) es b end → FlagSplit l id x es b end
flag_split l id x es b end (field_value_left _ _ _ turns y xs _ mid _ e h) =
    let o = ok_is (flag x) y b mid e in
    (events_in_fields xs, ap (λ (z : Node). events z ++ events_in_fields xs) (sym o.0), fields_left l id turns xs b end (ap (fields l (value l) turns id) o.1 ∙ h))

-- ---- the start of a field

abbrev pub Started : ℕ → Option (ℤ × FieldType) → List ℕ → List Event → List ℕ → Type 0
Started l None r es end = (es ≡ end_event ∷ []) × (r ≡ end)
Started l (Some p) r es end = (outs : List Event) × (es ≡ field_event p.0 ∷ outs) × IsLeft l (f.FieldValue p.0 p.1) outs r end

fields_more : (l : ℕ) (id : ℤ) (ty : FieldType) (turns : ℕ) (x : Node) (xs : Fields) (r mid end : List ℕ) (o : Result (Fields × List ℕ) Stop) → typed (value l) ty r ≡ Ok (x, mid) → fields l (value l) turns id mid ≡ o → (o >>= made_of (field id x)) ≡ Ok (xs, end)
    → Started l (Some (id, ty)) r (events_in_fields xs) end
fields_more l id ty turns x xs r mid end (Ok p) h i j =
    let s = ok_is (field id x p.0) xs p.1 end j in
    (events x ++ events_in_fields p.0, sym (ap events_in_fields s.0), field_value_left l id ty turns x p.0 r mid end h (i ∙ ap (λ (z : List ℕ). Ok (p.0, z)) s.1))
fields_more l id ty turns x xs r mid end (Err d) h i j = absurd cc

started_by : (l turns : ℕ) (start : Option (ℤ × FieldType)) (xs : Fields) (r end : List ℕ) → rest_of l turns start r ≡ Ok (xs, end) → Started l start r (events_in_fields xs) end
started_by l turns None xs r end e = let o = ok_is no_fields xs r end e in (sym (ap events_in_fields o.0), o.1)
started_by l turns (Some (id, ty)) xs r end e =
    let a = bind_ok (typed (value l) ty r) (λ p. and_then (fields l (value l) turns id) (λ ys. pure (field id p.0 ys)) p.1) (xs, end) e in
    fields_more l id ty turns a.0.0 xs r a.0.1 end (fields l (value l) turns id a.0.1) a.1 refl a.2

no_turns : (l : ℕ) (before : ℤ) (b end : List ℕ) (xs : Fields) → fields l (value l) zero before b ≡ Ok (xs, end) → ⊥
unfolding fields
no_turns l before b end xs e = cc

abbrev onward : ℕ → ℕ → Option (ℤ × FieldType) × List ℕ → Result (Fields × List ℕ) Stop
onward l n q = rest_of l n q.0 q.1

by_turns : (l : ℕ) (before : ℤ) (b r end : List ℕ) (start : Option (ℤ × FieldType)) (xs : Fields) (n : ℕ) → field_start l before b ≡ Ok (start, r) → fields l (value l) n before b ≡ Ok (xs, end) → Started l start r (events_in_fields xs) end
by_turns l before b r end start xs zero h e = absurd (no_turns l before b end xs e)
by_turns l before b r end start xs (suc n) h e = started_by l n start xs r end (sym (unroll l n before b ∙ ap (λ (o : Result (Option (ℤ × FieldType) × List ℕ) Stop). o >>= onward l n) h) ∙ e)

pub fields_start : (l : ℕ) (before : ℤ) (es : List Event) (b r end : List ℕ) (start : Option (ℤ × FieldType)) → field_start l before b ≡ Ok (start, r) → IsLeft l (f.Fields before) es b end → Started l start r es end
fields_start l before es b r end start h (fields_left _ _ turns xs _ _ e) = by_turns l before b r end start xs turns h e

clash : (d : Stop) (x : Fields × List ℕ) (r : Result (Fields × List ℕ) Stop) → r ≡ Err d → r ≡ Ok x → ⊥
clash d x r h e = let q : Err d ≡ Ok x = sym h ∙ e in cc

no_start_by : (l : ℕ) (before : ℤ) (b end : List ℕ) (d : Stop) (xs : Fields) (n : ℕ) → field_start l before b ≡ Err d → fields l (value l) n before b ≡ Ok (xs, end) → ⊥
no_start_by l before b end d xs zero h e = no_turns l before b end xs e
no_start_by l before b end d xs (suc n) h e =
    clash d (xs, end) (fields l (value l) (suc n) before b) (unroll l n before b ∙ ap (λ (o : Result (Option (ℤ × FieldType) × List ℕ) Stop). o >>= onward l n) h) e

pub no_start : (l : ℕ) (before : ℤ) (es : List Event) (b end : List ℕ) (d : Stop) → field_start l before b ≡ Err d → IsLeft l (f.Fields before) es b end → ⊥
no_start l before es b end d h (fields_left _ _ turns xs _ _ e) = no_start_by l before b end d xs turns h e
