-- What is left to write, as the loops over items and over fields go on.
use Rattle.std.proofs.Common.{◌≡◌, ℕ, suc, ◌+◌, ◌-◌, ◌*◌, ◌^◌, ◌≤◌, ◌<◌, List, [], ◌++◌, Bool, length, arith}
use Rattle.std.proofs.Common.{refl, sym, ◌∙◌, subst}
use Rattle.std.proofs.Math.Nat.{mul-le-mul_left}
use Rattle.frozen_model.specs.Bits.{bits_of}
use Rattle.frozen_model.specs.Trees.{Struct, NoField, Field, nodes, Part}
use Rattle.frozen_model.specs.Values.{Value, Values, Record, NoValue, And, count, Of}
use Rattle.frozen_model.specs.Layouts.{Version, Layout, Layouts, stride, strides}
use Rattle.frozen_model.specs.Packing.{extent, extents, extent_all, image, images, image_all, tail, tails}
use Rattle.frozen_model.specs.Packing.{tail_all}
use Rattle.frozen_laws.specs.Everywhere.{HoldsEach, HoldsAll}
use Rattle.block_region.specs.Space.{Space, Span, IsTaken}
use Rattle.frozen_laws.proofs.Unique.{length_image}
use Rattle.frozen_laws.proofs.Lengths.{length_tail}
use Rattle.layout_tree.specs.Listing.{Noted, layout_in, sub}
use Rattle.layout_tree.proofs.Left.{ItemsLeft, items_start, FieldsLeft, fields_start}
use Rattle.typed_tree.specs.Parts.{fields_of, IsRecord}
use Rattle.value_bounds.proofs.Forms.{record_form}
use Rattle.freezer.specs.Writing.{Writes, Ready, Wrote, EachReady, EachWrote, FieldsWrote}
use Rattle.freezer.proofs.Runs.{writes_nothing, writes_joined}

-- the same write at the same places, otherwise counted
writes_at : (b0 b1 : List Bool) (p p' w w' q q' t t' : ℕ) (xs ys : List Bool) → p ≡ p' → w ≡ w' → q ≡ q' → t
    ≡ t' → Writes b0 b1 p w xs q t ys → Writes b0 b1 p' w' xs q' t' ys
writes_at b0 b1 p p' w w' q q' t t' xs ys ep ew eq et h =
    subst (λ z. Writes b0 b1 z w' xs q' t' ys) ep
    (subst (λ z. Writes b0 b1 p z xs q' t' ys) ew
    (subst (λ z. Writes b0 b1 p w xs z t' ys) eq (subst (λ z. Writes b0 b1 p w xs q z ys) et h)))

none_wrote : (m : Layout) (s : Space) (b : Span) (bit : ℕ) → EachWrote m NoValue s s b bit
none_wrote m s b bit = record {
  taken = omega arith;
  length = refl;
  written = let z : 0 ≡ 0 * stride m = omega arith in
      writes_at (bits_of s.bytes) (bits_of s.bytes) (8 * b.start + bit) (8 * b.start + bit) 0 (0 * stride m)
      (8 * s.taken) (8 * s.taken) 0 (8 * 0) [] [] refl z refl refl
      (writes_nothing (bits_of s.bytes) (8 * b.start + bit) (8 * s.taken));
}

more_wrote : (m : Layout) (x : Value) (vs : Values) (s mid new : Space) (b : Span) (bit bit2 : ℕ) → Of m x
    → b.start ≤ s.taken → bit2 ≡ bit + stride m → Wrote m x s mid b bit → EachWrote m vs mid new b bit2
    → EachWrote m (And x vs) s new b bit
more_wrote m x vs s mid new b bit bit2 o le eb f g =
    let at = s.taken - b.start in
    let shift : mid.taken - b.start ≡ at + extent m x = omega (arith, f.taken) in
    let second = subst (λ z. Writes (bits_of mid.bytes) (bits_of new.bytes) (8 * b.start + bit2)
    (count vs * stride m) (images m vs z) (8 * mid.taken) (8 * extents m vs) (tails m vs)) shift
    g.written in
    let moved = writes_at (bits_of mid.bytes) (bits_of new.bytes) (8 * b.start + bit2)
    (8 * b.start + bit + stride m) (count vs * stride m) (count vs * stride m) (8 * mid.taken)
    (8 * s.taken + 8 * extent m x) (8 * extents m vs) (8 * extents m vs)
    (images m vs (at + extent m x)) (tails m vs) (omega arith) refl (omega (arith, f.taken)) refl second in
    let all = writes_joined (bits_of s.bytes) (bits_of mid.bytes) (bits_of new.bytes) (8 * b.start + bit)
    (stride m) (count vs * stride m) (8 * s.taken) (8 * extent m x) (8 * extents m vs)
    (image m x at) (images m vs (at + extent m x)) (tail m x) (tails m vs) (length_image o at) (length_tail o)
    f.written moved in
    record {
      taken = omega (arith, f.taken, g.taken);
      length = g.length ∙ f.length;
      written = writes_at (bits_of s.bytes) (bits_of new.bytes) (8 * b.start + bit) (8 * b.start + bit)
          (stride m + count vs * stride m) (suc (count vs) * stride m) (8 * s.taken) (8 * s.taken)
          (8 * extent m x + 8 * extents m vs) (8 * (extent m x + extents m vs))
          (image m x at ++ images m vs (at + extent m x)) (tail m x ++ tails m vs) refl (omega arith) refl
          (omega arith) all;
    }

no_field_wrote : (s : Space) (b : Span) (bit : ℕ) → FieldsWrote NoField NoValue s s b bit
no_field_wrote s b bit = record {
  taken = omega arith;
  length = refl;
  written = writes_nothing (bits_of s.bytes) (8 * b.start + bit) (8 * s.taken);
}

field_wrote : (id : ℕ) (m : Layout) (ms : Layouts) (x : Value) (vs : Values) (s mid new : Space) (b : Span)
    (bit bit2 : ℕ) → Of m x → b.start ≤ s.taken → bit2 ≡ bit + stride m → Wrote m x s mid b bit
    → FieldsWrote ms vs mid new b bit2
    → FieldsWrote (Field id m ms) (And x vs) s new b bit
field_wrote id m ms x vs s mid new b bit bit2 o le eb f g =
    let at = s.taken - b.start in
    let shift : mid.taken - b.start ≡ at + extent m x = omega (arith, f.taken) in
    let second = subst (λ z. Writes (bits_of mid.bytes) (bits_of new.bytes) (8 * b.start + bit2) (strides ms)
    (image_all ms vs z) (8 * mid.taken) (8 * extent_all ms vs) (tail_all ms vs)) shift g.written in
    let moved = writes_at (bits_of mid.bytes) (bits_of new.bytes) (8 * b.start + bit2)
    (8 * b.start + bit + stride m) (strides ms) (strides ms) (8 * mid.taken)
    (8 * s.taken + 8 * extent m x) (8 * extent_all ms vs) (8 * extent_all ms vs)
    (image_all ms vs (at + extent m x)) (tail_all ms vs) (omega arith) refl (omega (arith, f.taken)) refl
    second in
    let all = writes_joined (bits_of s.bytes) (bits_of mid.bytes) (bits_of new.bytes) (8 * b.start + bit)
    (stride m) (strides ms) (8 * s.taken) (8 * extent m x) (8 * extent_all ms vs)
    (image m x at) (image_all ms vs (at + extent m x)) (tail m x) (tail_all ms vs) (length_image o at)
    (length_tail o) f.written moved in
    record {
      taken = omega (arith, f.taken, g.taken);
      length = g.length ∙ f.length;
      written = writes_at (bits_of s.bytes) (bits_of new.bytes) (8 * b.start + bit) (8 * b.start + bit)
          (stride m + strides ms) (stride m + strides ms) (8 * s.taken) (8 * s.taken)
          (8 * extent m x + 8 * extent_all ms vs) (8 * (extent m x + extent_all ms vs))
          (image m x at ++ image_all ms vs (at + extent m x)) (tail m x ++ tail_all ms vs) refl refl refl
          (omega arith) all;
    }

-- ---- items

-- there is room for the items that are left, and once they are written, all are
pub record ItemsRest (m : Layout) (all : Values) (s0 s : Space) (b : Span) (i : ℕ) (vs : Values) : Type 0
  where
    pub holds : HoldsEach m vs (s.taken - b.start)
    pub room : s.taken + extents m vs ≤ length s.bytes
    pub taken : IsTaken s b
    pub inside : i * stride m + count vs * stride m ≤ 8 * b.len
    pub few : i * stride m + count vs * stride m < 2 ^ 56
    pub then : (new : Space) → EachWrote m vs s new b (i * stride m) → EachWrote m all s0 new b 0

pub items_unwritten : (m : Layout) (all : Values) (s : Space) (b : Span) → stride m ≤ 32767
    → EachReady m all s b → ItemsLeft m all 0 (ItemsRest m all s s b 0)
items_unwritten m all s b small r =
    let le : count all * stride m ≤ count all * 32767 = mul-le-mul_left (count all) small in
    let z : 0 * stride m ≡ 0 = omega arith in
    items_start r.form
    (record {
      holds = r.holds;
      room = r.room;
      taken = r.taken;
      inside = omega (arith, z, r.inside);
      few = omega (arith, z, le, r.few);
      then = λ new w. subst (EachWrote m all s new b) z w;
    })

pub item_ready : {m : Layout} {all : Values} {s0 s : Space} {b : Span} {i : ℕ} {x : Value} {vs : Values}
    → Of m x → ItemsRest m all s0 s b i (And x vs) → Ready m x s b (i * stride m)
item_ready o r = record {
  form = o;
  holds = r.holds.0;
  room = omega (arith, r.room);
  taken = r.taken;
  inside = omega (arith, r.inside);
  small = omega (arith, r.few);
}

pub item_written : {m : Layout} {all : Values} {s0 s mid : Space} {b : Span} {i : ℕ} {x : Value} {vs : Values}
    → Of m x → Wrote m x s mid b (i * stride m)
    → ItemsRest m all s0 s b i (And x vs) → ItemsRest m all s0 mid b (i + 1) vs
item_written {m} {all} {s0} {s} {mid} {b} {i} {x} {vs} o w r =
    let step : (i + 1) * stride m ≡ i * stride m + stride m = omega arith in
    record {
      holds = let shift : s.taken - b.start + extent m x
          ≡ mid.taken - b.start = omega (arith, w.taken, r.taken) in subst (λ z. HoldsEach m vs z) shift
          r.holds.1;
      room = omega (arith, r.room, w.taken, w.length);
      taken = omega (arith, r.taken, w.taken);
      inside = omega (arith, step, r.inside);
      few = omega (arith, step, r.few);
      then = λ new f. r.then new (more_wrote m x vs s mid new b (i * stride m) ((i + 1) * stride m) o
          (omega (arith, r.taken)) step w f);
    }

pub items_written : {m : Layout} {all : Values} {s0 s : Space} {b : Span} {i : ℕ}
    → ItemsRest m all s0 s b i NoValue → EachWrote m all s0 s b 0
items_written {m} {all} {s0} {s} {b} {i} r = r.then s (none_wrote m s b (i * stride m))

-- ---- fields

-- there is room for the fields that are left, and once they are written, the struct is
pub record FieldsRest (l : Layout) (u : Value) (s0 s : Space) (b : Span) (bit place : ℕ) (ls : Layouts)
    (vs : Values) : Type 0 where
  pub holds : HoldsAll ls vs (s.taken - b.start)
  pub room : s.taken + extent_all ls vs ≤ length s.bytes
  pub taken : IsTaken s b
  pub inside : place + strides ls ≤ 8 * b.len
  pub small : place + strides ls < 2 ^ 56
  pub then : (new : Space) → FieldsWrote ls vs s new b place → Wrote l u s0 new b bit

pub fields_unwritten : (t : Noted) (v : Version) (n child end : ℕ) (u : Value) (s : Space) (b : Span)
    (bit : ℕ) → IsRecord u → Part t 0 (sub t n) n → Ready (layout_in v (sub t n)) u s b bit
    → end ≡ n + nodes (layout_in v (sub t n)) → child ≡ n + 1
    → FieldsLeft t v (nodes (layout_in v (sub t n))) (fields_of u) child end 0
    (FieldsRest (layout_in v (sub t n)) u s s b bit bit)
fields_unwritten t v n child end u s b bit h p r e ec =
    let l = layout_in v (sub t n) in
    let vs = fields_of u in
    let f = record_form l u h r.form in
    let ls = f.layouts in
    let is = subst (λ (y : Value). Ready (Struct ls) y s b bit) f.value
    (subst (λ (m : Layout). Ready m u s b bit) f.layout r) in
    let all : (new : Space) → FieldsWrote ls vs s new b bit
    → Wrote (Struct ls) (Record f.ids vs) s new b bit =
    λ new w. record { taken = w.taken; length = w.length; written = w.written } in
    fields_start t v n child end ls vs p f.layout e ec f.form
    (record {
      holds = is.holds;
      room = is.room;
      taken = is.taken;
      inside = is.inside;
      small = is.small;
      then = λ new w. subst (λ (m : Layout). Wrote m u s new b bit) (sym f.layout)
          (subst (λ (y : Value). Wrote (Struct ls) y s new b bit) (sym f.value) (all new w));
    })

pub field_ready : {l : Layout} {u : Value} {s0 s : Space} {b : Span} {bit place id : ℕ} {m : Layout}
    {ms : Layouts} {x : Value} {vs : Values} → Of m x
    → FieldsRest l u s0 s b bit place (Field id m ms) (And x vs) → Ready m x s b place
field_ready o r = record {
  form = o;
  holds = r.holds.0;
  room = omega (arith, r.room);
  taken = r.taken;
  inside = omega (arith, r.inside);
  small = omega (arith, r.small);
}

pub field_written : {l : Layout} {u : Value} {s0 s mid : Space} {b : Span} {bit place place2 id : ℕ}
    {m : Layout} {ms : Layouts} {x : Value} {vs : Values} → Of m x → place2 ≡ place + stride m
    → Wrote m x s mid b place
    → FieldsRest l u s0 s b bit place (Field id m ms) (And x vs) → FieldsRest l u s0 mid b bit place2 ms vs
field_written {l} {u} {s0} {s} {mid} {b} {bit} {place} {place2} {id} {m} {ms} {x} {vs} o e w r = record {
  holds = let shift : s.taken - b.start + extent m x
      ≡ mid.taken - b.start = omega (arith, w.taken, r.taken) in subst (λ z. HoldsAll ms vs z) shift
      r.holds.1;
  room = omega (arith, r.room, w.taken, w.length);
  taken = omega (arith, r.taken, w.taken);
  inside = omega (arith, r.inside, e);
  small = omega (arith, r.small, e);
  then = λ new f. r.then new (field_wrote id m ms x vs s mid new b place place2 o (omega (arith, r.taken)) e w
      f);
}

pub fields_written : {l : Layout} {u : Value} {s0 s : Space} {b : Span} {bit place : ℕ}
    → FieldsRest l u s0 s b bit place NoField NoValue → Wrote l u s0 s b bit
fields_written {l} {u} {s0} {s} {b} {bit} {place} r = r.then s (no_field_wrote s b place)
