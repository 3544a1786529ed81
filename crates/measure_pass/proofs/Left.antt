-- What is left to visit, as the loops over items and over fields go on.
use Rattle.std.proofs.Common.{◌≡◌, ℕ, ◌+◌, ◌^◌, ◌<◌, arith, sym, subst}
use Rattle.frozen_model.specs.Trees.{Struct, NoField, Field, nodes, Part}
use Rattle.frozen_model.specs.Values.{Value, Values, Record, NoValue, And, Of, OfEach}
use Rattle.frozen_model.specs.Layouts.{Layout, Layouts as LayoutsOf, Legal, AllLegal}
use Rattle.frozen_model.specs.Packing.{extent, extents, extent_all}
use Rattle.frozen_model.specs.Holding.{puts, puts_each, puts_all, widened, widened_all}
use Rattle.frozen_laws.proofs.Puts.{puts_beside, puts_each_beside}
use Rattle.layout_tree.specs.declared.layouts.Layouts.{Layouts}
use Rattle.layout_tree.specs.Listing.{layout_in, sub, version_of}
use Rattle.layout_tree.specs.Nodes.{noted_in}
use Rattle.layout_tree.proofs.Left.{ItemsLeft, items_start, FieldsLeft, fields_start}
use Rattle.typed_tree.specs.Parts.{fields_of, IsRecord}
use Rattle.value_bounds.proofs.Forms.{record_form}
use Rattle.measure_pass.specs.Growing.{Grew, FieldsGrew, Same, Ready, EachReady, Visited, EachVisited}
use Rattle.measure_pass.specs.Growing.{FieldsVisited}
use Rattle.measure_pass.proofs.Grown.{legal_both}
use Rattle.measure_pass.proofs.Holes.{grew_more, grew_none, grew_struct, fields_grew_none, grew_field}
use Rattle.measure_pass.proofs.Stays.{same_self, same_chain, same_version}

none_visited : (m : Layout) (l : Layouts) (n from : ℕ) → EachVisited m NoValue l l n from from
none_visited m l n from = record {
  same = same_self l;
  grew = grew_none (version_of l.version) m (noted_in l) n;
  ends = omega arith;
}

more_visited : (m : Layout) (x : Value) (vs : Values) (old mid new : Layouts) (n from a b : ℕ) → Of m x
    → OfEach m vs → Visited m x old mid n from a → EachVisited m vs mid new n a b
    → EachVisited m (And x vs) old new n from b
more_visited m x vs old mid new n from a b o os f g =
    let ev : version_of mid.version ≡ version_of old.version = same_version f.same in
    let second = subst (λ v. Grew v m (puts_each m vs (from + extent m x)) (noted_in mid) (noted_in new) n) ev
    (subst (λ z. Grew (version_of mid.version) m (puts_each m vs z) (noted_in mid) (noted_in new) n) f.ends
    g.grew) in
    record {
      same = same_chain f.same g.same;
      grew = grew_more (version_of old.version) m (puts m x from) (puts_each m vs (from + extent m x))
          (noted_in old) (noted_in mid) (noted_in new) n (puts_beside o from)
          (puts_each_beside os (from + extent m x)) f.grew second;
      ends = omega (arith, f.ends, g.ends);
    }

no_field_visited : (l : Layouts) (n from : ℕ) → FieldsVisited NoField NoValue l l n from from
no_field_visited l n from = record {
  same = same_self l;
  grew = fields_grew_none (version_of l.version) (noted_in l) n;
  ends = omega arith;
}

more_fields_visited : (id : ℕ) (m : Layout) (ms : LayoutsOf) (x : Value) (vs : Values) (old mid new : Layouts)
    (n n2 from a b : ℕ) → n2 ≡ n + nodes m → Visited m x old mid n from a → FieldsVisited ms vs mid new n2 a b
    → FieldsVisited (Field id m ms) (And x vs) old new n from b
more_fields_visited id m ms x vs old mid new n n2 from a b en f g =
    let ev : version_of mid.version ≡ version_of old.version = same_version f.same in
    let ps = puts_all ms vs (from + extent m x) in
    let second = subst (λ v. FieldsGrew v ms ps (noted_in mid) (noted_in new) (n + nodes m)) ev
    (subst (λ k. FieldsGrew (version_of mid.version) ms ps (noted_in mid) (noted_in new) k) en
    (subst (λ z. FieldsGrew (version_of mid.version) ms (puts_all ms vs z) (noted_in mid) (noted_in new) n2)
    f.ends g.grew)) in
    record {
      same = same_chain f.same g.same;
      grew = grew_field (version_of old.version) id m ms (puts m x from) ps (noted_in old) (noted_in mid)
          (noted_in new) n f.grew second;
      ends = omega (arith, f.ends, g.ends);
    }

-- ---- items

-- the items that are left may be visited, and once they are, all are
pub record ItemsRest (m : Layout) (all : Values) (l0 l : Layouts) (n start from : ℕ) (vs : Values) : Type 0
  where
    pub legal : Legal (widened m (puts_each m vs from))
    pub small : from + extents m vs < 2 ^ 32
    pub same : Same l0 l
    pub then : (new : Layouts) (next : ℕ) → EachVisited m vs l new n from next
        → EachVisited m all l0 new n start next

pub items_unvisited : (m : Layout) (all : Values) (l : Layouts) (n from : ℕ) → EachReady m all from
    → ItemsLeft m all 0 (ItemsRest m all l l n from from)
items_unvisited m all l n from r = items_start r.form (record {
  legal = r.legal;
  small = r.small;
  same = same_self l;
  then = λ new next w. w;
})

pub item_ready : {m : Layout} {all : Values} {l0 l : Layouts} {n start from : ℕ} {x : Value} {vs : Values}
    → Of m x → OfEach m vs → ItemsRest m all l0 l n start from (And x vs) → Ready m x from
item_ready {m} {all} {l0} {l} {n} {start} {from} {x} {vs} o os r =
    record {
      form = o;
      legal = (legal_both m (puts_beside o from) (puts_each_beside os (from + extent m x)) r.legal).0;
      small = omega (arith, r.small);
    }

pub item_visited : {m : Layout} {all : Values} {l0 l mid : Layouts} {n start from next : ℕ} {x : Value}
    {vs : Values} → Of m x → OfEach m vs → Visited m x l mid n from next
    → ItemsRest m all l0 l n start from (And x vs) → ItemsRest m all l0 mid n start next vs
item_visited {m} {all} {l0} {l} {mid} {n} {start} {from} {next} {x} {vs} o os w r = record {
  legal = subst (λ z. Legal (widened m (puts_each m vs z))) (sym w.ends)
      (legal_both m (puts_beside o from) (puts_each_beside os (from + extent m x)) r.legal).1;
  small = omega (arith, r.small, w.ends);
  same = same_chain r.same w.same;
  then = λ new end f. r.then new end (more_visited m x vs l mid new n from next end o os w f);
}

pub items_visited : {m : Layout} {all : Values} {l0 l : Layouts} {n start from : ℕ}
    → ItemsRest m all l0 l n start from NoValue → EachVisited m all l0 l n start from
items_visited {m} {all} {l0} {l} {n} {start} {from} r = r.then l from (none_visited m l n from)

-- ---- fields

-- the fields that are left may be visited, and once they are, the struct is
pub record FieldsRest (l : Layout) (u : Value) (l0 la : Layouts) (n start from child : ℕ) (ls : LayoutsOf)
    (vs : Values) : Type 0 where
  pub legal : AllLegal (widened_all ls (puts_all ls vs from))
  pub small : from + extent_all ls vs < 2 ^ 32
  pub same : Same l0 la
  pub then : (new : Layouts) (next : ℕ) → FieldsVisited ls vs la new child from next
      → Visited l u l0 new n start next

pub fields_unvisited : (l0 : Layouts) (n child end : ℕ) (u : Value) (from : ℕ) → IsRecord u
    → Part (noted_in l0) 0 (sub (noted_in l0) n) n
    → Ready (layout_in (version_of l0.version) (sub (noted_in l0) n)) u from
    → end ≡ n + nodes (layout_in (version_of l0.version) (sub (noted_in l0) n)) → child ≡ n + 1
    → FieldsLeft (noted_in l0) (version_of l0.version)
    (nodes (layout_in (version_of l0.version) (sub (noted_in l0) n))) (fields_of u) child end 0
    (FieldsRest (layout_in (version_of l0.version) (sub (noted_in l0) n)) u l0 l0 n from from child)
fields_unvisited l0 n child end u from h p r e ec =
    let t = noted_in l0 in
    let v = version_of l0.version in
    let l = layout_in v (sub t n) in
    let vs = fields_of u in
    let f = record_form l u h r.form in
    let ls = f.layouts in
    let is = subst (λ (y : Value). Ready (Struct ls) y from) f.value
    (subst (λ (m : Layout). Ready m u from) f.layout r) in
    let all : (new : Layouts) (next : ℕ) → FieldsVisited ls vs l0 new child from next
    → Visited (Struct ls) (Record f.ids vs) l0 new n from next =
    λ new next w. record {
      same = w.same;
      grew = grew_struct v ls (puts_all ls vs from) t (noted_in new) n
          (subst (λ k. FieldsGrew v ls (puts_all ls vs from) t (noted_in new) k) ec w.grew);
      ends = w.ends;
    } in
    fields_start t v n child end ls vs p f.layout e ec f.form
    (record {
      legal = is.legal;
      small = is.small;
      same = same_self l0;
      then = λ new next w. subst (λ (m : Layout). Visited m u l0 new n from next) (sym f.layout)
          (subst (λ (y : Value). Visited (Struct ls) y l0 new n from next) (sym f.value) (all new next w));
    })

pub field_ready : {l : Layout} {u : Value} {l0 la : Layouts} {n start from child id : ℕ} {m : Layout}
    {ms : LayoutsOf} {x : Value} {vs : Values} → Of m x
    → FieldsRest l u l0 la n start from child (Field id m ms) (And x vs) → Ready m x from
field_ready o r = record { form = o; legal = r.legal.0; small = omega (arith, r.small) }

pub field_visited : {l : Layout} {u : Value} {l0 la mid : Layouts} {n start from child child2 next id : ℕ}
    {m : Layout} {ms : LayoutsOf} {x : Value} {vs : Values} → child2 ≡ child + nodes m
    → Visited m x la mid child from next
    → FieldsRest l u l0 la n start from child (Field id m ms) (And x vs)
    → FieldsRest l u l0 mid n start next child2 ms vs
field_visited {l} {u} {l0} {la} {mid} {n} {start} {from} {child} {child2} {next} {id} {m} {ms} {x} {vs} e w
    r = record {
      legal = subst (λ z. AllLegal (widened_all ms (puts_all ms vs z))) (sym w.ends) r.legal.1;
      small = omega (arith, r.small, w.ends);
      same = same_chain r.same w.same;
      then = λ new end f. r.then new end (more_fields_visited id m ms x vs la mid new child child2 from next
          end e
          w f);
    }

pub fields_visited : {l : Layout} {u : Value} {l0 la : Layouts} {n start from child : ℕ}
    → FieldsRest l u l0 la n start from child NoField NoValue → Visited l u l0 la n start from
fields_visited {l} {u} {l0} {la} {n} {start} {from} {child} r = r.then la from
    (no_field_visited la child from)
