-- The answers for parts, from those for what is below them.
use Rattle.std.proofs.Common.{◌⊎◌, inl, inr, slice_get, replicate, ◌≡◌, ℕ, suc, ◌+◌, ◌<◌, ◌≤◌, Bool, List, []}
use Rattle.std.proofs.Common.{◌∷◌, ◌++◌, map, reverse, Option, Some, None, Result, nat_abs, ℤ, pos, refl, sym, ap}
use Rattle.std.proofs.Common.{◌∙◌, subst, arith}
use Rattle.idl_profile.specs.declared.kinds.Need.TheVariants.{Plain, Required, Optional}
use Rattle.idl_profile.specs.declared.kinds.Need.{Need}
use Rattle.idl_profile.specs.declared.kinds.TypeKind.{TypeKind}
use Rattle.idl_profile.specs.declared.kinds.TypeKind.TheVariants as types
use Rattle.idl_profile.specs.Types.{TypeTree, DefField, kind_of, fields_of}
use Rattle.type_kinds.specs.Accepted.{IsAccepted}
use Rattle.idl_parse.specs.Refs.{element_of, key_of, value_of}
use Rattle.frozen_model.specs.Trees as tree
use Rattle.frozen_model.specs.Trees.{Leaf, ByteRange, ItemRange, Struct, NoField, Field, Flag, Integer, I8}
use Rattle.frozen_model.specs.Trees.{I16, I32, I64, Text, Binary, AList, ASet, AMap, nodes, Part}
use Rattle.frozen_model.specs.Layouts.{Version, Layout, Layouts, Described}
use Rattle.layout_tree.specs.declared.node.Kind.{Kind}
use Rattle.layout_tree.specs.declared.layouts.Layouts.{Layouts as Kept}
use Rattle.layout_tree.specs.Nodes.{IsNode, at, noted_in}
use Rattle.layout_tree.specs.Listing.{Noted, AllNoted, layout_in, layouts_in, sub, version_of}
use Rattle.layout_tree.specs.Reading.{plain, kind_at, item_of, IsRange, IsHolder, IsOptional, IsStruct}
use Rattle.layout_tree.specs.Shapes.{field_kinds}
use Rattle.layout_tree.proofs.Place.{some_nodes}
use Rattle.layout_tree.proofs.Children.{Child, FieldsAt, struct_at, first_child, later_children, node_small}
use Rattle.layout_tree.proofs.Readings.{same_nodes, range_nodes as range_many, optional_nodes}
use Rattle.content_check.specs.Steps.{IsMap}
use Rattle.content_check.proofs.MapForms.{map_pair}
use Rattle.bit_view.specs.Branches.{field_tree}
use Rattle.evolve.specs.declared.fault.BindFault.{BindFault}
use Rattle.evolve.specs.Binding.{Unbound, type_changed, required_absent, under, or_later, field_fault}
use Rattle.evolve.specs.Binding.{type_fault, Compatible}
use Rattle.evolve.specs.Plans.{range_nodes, nodes_of_field, nodes_at, field_node}
use Rattle.evolve.specs.Bound.{file_node_of}
use Rattle.evolve.specs.BindSteps.{Adds, Answers, Tells, IsPair, fault_at_pair, plan_at_pair, fits, fields_in}
use Rattle.evolve.specs.BindSteps.{fault_at, plan_at}
use Rattle.evolve.proofs.Bound.{binding}
use Rattle.evolve.proofs.Adding.{adds_both, answers_after, answers_as, answers_both, tells_first, tells_as}
use Rattle.evolve.proofs.Fitting.{RowFits, MapFits, OptionalAt, plain_fits, struct_is}
use Rattle.evolve.proofs.FieldSteps.{field_is, ids_small}

-- ---- a fault at the part itself

pub changed_here : (u : Option Unbound) (ids : List ℤ) → u ≡ Some (type_changed []) → ids ≡ []
    → u ≡ Some (type_changed (reverse ids))
changed_here u ids e h = e ∙ ap (λ (z : List ℤ). Some (type_changed (reverse z))) (sym h)

pub absent_here : (u : Option Unbound) (ids : List ℤ) → u ≡ Some (required_absent []) → ids ≡ []
    → u ≡ Some (required_absent (reverse ids))
absent_here u ids e h = e ∙ ap (λ (z : List ℤ). Some (required_absent (reverse z))) (sym h)

-- ---- lists and sets

pub row_answers : (r : Bool) (t u : TypeTree) (l m : Layout) (i j : ℕ) (a b c : List ℕ)
    (q : Result (Unit {0}) BindFault) → RowFits r t l → u ≡ element_of t → m ≡ item_of l → j ≡ i + 3
    → Adds a b (range_nodes i) → Answers b c (under (pos 3) (type_fault r u m)) (nodes_at u m j) q
    → Answers a c (type_fault r t l) (nodes_at t l i) q
row_answers r t u l m i j a b c q f eu em ej add h =
    let three : 3 + i ≡ j = omega arith in
    answers_after a b c (under (pos 3) (type_fault r u m)) (type_fault r t l) (range_nodes i) (nodes_at u m j)
    (nodes_at t l i) q add
    (f.fault ∙ ap (λ (z : TypeTree). under (pos 3) (type_fault r z (item_of l))) (sym eu)
    ∙ ap (λ (z : Layout). under (pos 3) (type_fault r u z)) (sym em))
    (f.nodes i ∙ ap (λ (z : TypeTree). range_nodes i ++ nodes_at z (item_of l) (3 + i)) (sym eu)
    ∙ ap (λ (z : Layout). range_nodes i ++ nodes_at u z (3 + i)) (sym em)
    ∙ ap (λ (z : ℕ). range_nodes i ++ nodes_at u m z) three)
    h

-- ---- maps

pub map_answers : (r : Bool) (t : TypeTree) (l m : Layout) (i j : ℕ) (a b c : List ℕ)
    (q : Result (Unit {0}) BindFault) → MapFits r t l → m ≡ item_of l → j ≡ i + 3
    → Adds a b (range_nodes i) → Answers b c (under (pos 3) (fault_at_pair r t m)) (plan_at_pair t m j) q
    → Answers a c (type_fault r t l) (nodes_at t l i) q
map_answers r t l m i j a b c q f em ej add h =
    let three : 3 + i ≡ j = omega arith in
    answers_after a b c (under (pos 3) (fault_at_pair r t m)) (type_fault r t l) (range_nodes i)
    (plan_at_pair t m j)
    (nodes_at t l i) q add
    (f.fault ∙ ap (λ (z : Layout). under (pos 3) (fault_at_pair r t z)) (sym em))
    (f.nodes i ∙ ap (λ (z : Layout). range_nodes i ++ plan_at_pair t z (3 + i)) (sym em)
    ∙ ap (λ (z : ℕ). range_nodes i ++ plan_at_pair t m z) three)
    h

pub record PairParts (t : Noted) (v : Version) (n : ℕ) (l : Layout) : Type 0 where
  pub one : ℕ
  pub key : Layout
  pub two : ℕ
  pub value : Layout
  pub is : l ≡ Struct (Field one key (Field two value NoField))
  pub first : Child t v (n + 1) key
  pub second : (a : ℕ) → a ≡ n + 1 + nodes key → Child t v a value

pair_struct : (l : Layout) → IsPair l → l ≡ Struct (fields_in l)
pair_struct (Struct ls) h = refl
pair_struct (Leaf k c) h = absurd h
pair_struct (ByteRange k d c) h = absurd h
pair_struct (ItemRange g d c m) h = absurd h
pair_struct (tree.Optional w m) h = absurd h

pub pair_parts : (t : Noted) (v : Version) (n : ℕ) → Part t 0 (sub t n) n → IsPair (layout_in v (sub t n))
    → PairParts t v n (layout_in v (sub t n))
pair_parts t v n p h =
    let e = pair_struct (layout_in v (sub t n)) h in
    let st = struct_at t v n (fields_in (layout_in v (sub t n))) p e in
    go st.fields (e ∙ ap (λ (z : Layouts). Struct z) (sym st.is)) st.there
  where
    go : (fs : AllNoted) → layout_in v (sub t n) ≡ Struct (layouts_in v fs) → FieldsAt t (suc n) fs
        → PairParts t v n (layout_in v (sub t n))
    go (Field a f (Field b g NoField)) e there =
        let up : suc n ≡ n + 1 = omega arith in
        record {
          one = a;
          key = layout_in v f;
          two = b;
          value = layout_in v g;
          is = e;
          first = subst (λ (k : ℕ). Child t v k (layout_in v f)) up
              (first_child t v (suc n) a f (Field b g NoField) there);
          second = λ q eq.
              let place : suc n + nodes f ≡ q = omega (arith, eq, same_nodes v f) in
              subst (λ (k : ℕ). Child t v k (layout_in v g)) place
              (first_child t v (suc n + nodes f) b g NoField
              (later_children t (suc n) a f (Field b g NoField) there));
        }
    go (Field a f (Field b g (Field x y z))) e there = absurd (subst (λ (z : Layout). IsPair z) e h)
    go (Field a f NoField) e there = absurd (subst (λ (z : Layout). IsPair z) e h)
    go NoField e there = absurd (subst (λ (z : Layout). IsPair z) e h)

pub pair_fault_is : (r : Bool) (x y t : TypeTree) (l k u : Layout) (one two : ℕ) → x ≡ key_of t → y
    ≡ value_of t
    → l ≡ Struct (Field one k (Field two u NoField))
    → fault_at_pair r t l ≡ or_later (under (pos 1) (type_fault r x k)) (under (pos 2) (type_fault r y u))
pair_fault_is r x y t l k u one two ex ey e =
    ap (λ (z : Layout). fault_at_pair r t z) e
    ∙ ap (λ (z : TypeTree). or_later (under (pos 1) (type_fault r z k)) (under (pos 2) (type_fault r (value_of t) u)))
    (sym ex)
    ∙ ap (λ (z : TypeTree). or_later (under (pos 1) (type_fault r x k)) (under (pos 2) (type_fault r z u))) (sym ey)

pub pair_plan_is : (x y t : TypeTree) (l k u : Layout) (one two i j n : ℕ) → x ≡ key_of t → y ≡ value_of t
    → l ≡ Struct (Field one k (Field two u NoField)) → j ≡ i + 1 → n ≡ j + nodes k
    → plan_at_pair t l i ≡ (Some i ∷ []) ++ (nodes_at x k j ++ nodes_at y u n)
pair_plan_is x y t l k u one two i j n ex ey e ej en =
    let j1 : 1 + i ≡ j = omega arith in
    let n1 : 1 + i + nodes k ≡ n = omega arith in
    ap (λ (z : Layout). plan_at_pair t z i) e
    ∙ ap (λ (z : TypeTree). Some i ∷ (nodes_at z k (1 + i) ++ nodes_at (value_of t) u (1 + i + nodes k)))
    (sym ex)
    ∙ ap (λ (z : TypeTree). Some i ∷ (nodes_at x k (1 + i) ++ nodes_at z u (1 + i + nodes k))) (sym ey)
    ∙ ap (λ (z : ℕ). Some i ∷ (nodes_at x k (1 + i) ++ nodes_at y u z)) n1
    ∙ ap (λ (z : ℕ). Some i ∷ (nodes_at x k z ++ nodes_at y u n)) j1

pub pair_tells : {s : Noted} {v : Version} {n : ℕ} (r : Bool) (t x : TypeTree) (l k : Layout) (f : BindFault)
    → (p : PairParts s v n l) → x ≡ key_of t → k ≡ p.key → Tells (under (pos 1) (type_fault r x k)) f
    → Tells (fault_at_pair r t l) f
pair_tells r t x l k f p ex ek h =
    let e = pair_fault_is r (key_of t) (value_of t) t l p.key p.value p.one p.two refl refl p.is in
    let later = under (pos 2) (type_fault r (value_of t) p.value) in
    let h2 = subst (λ (z : Layout). Tells (under (pos 1) (type_fault r (key_of t) z)) f) ek
    (subst (λ (z : TypeTree). Tells (under (pos 1) (type_fault r z k)) f) ex h) in
    tells_as (or_later (under (pos 1) (type_fault r (key_of t) p.key)) later) (fault_at_pair r t l) f e
    (tells_first (under (pos 1) (type_fault r (key_of t) p.key)) later f h2)

pub pair_answers : {s : Noted} {v : Version} {w : ℕ} (r : Bool) (t x y : TypeTree) (l k u : Layout)
    (i j n : ℕ)
    (a b c d : List ℕ) (q : Result (Unit {0}) BindFault) → (p : PairParts s v w l) → x ≡ key_of t → y
    ≡ value_of t
    → k ≡ p.key → u ≡ p.value → j ≡ i + 1 → n ≡ j + nodes k → Adds a b (Some i ∷ [])
    → under (pos 1) (type_fault r x k) ≡ None → Adds b c (nodes_at x k j)
    → Answers c d (under (pos 2) (type_fault r y u)) (nodes_at y u n) q
    → Answers a d (fault_at_pair r t l) (plan_at_pair t l i) q
pair_answers r t x y l k u i j n a b c d q p ex ey ek eu ej en f none g h =
    let is : l ≡ Struct (Field p.one k (Field p.two u NoField)) =
    p.is ∙ ap (λ (z : Layout). Struct (Field p.one z (Field p.two p.value NoField))) (sym ek)
    ∙ ap (λ (z : Layout). Struct (Field p.one k (Field p.two z NoField))) (sym eu) in
    answers_after a b d (or_later (under (pos 1) (type_fault r x k)) (under (pos 2) (type_fault r y u)))
    (fault_at_pair r t l)
    (Some i ∷ []) (nodes_at x k j ++ nodes_at y u n) (plan_at_pair t l i) q f
    (pair_fault_is r x y t l k u p.one p.two ex ey is)
    (pair_plan_is x y t l k u p.one p.two i j n ex ey is ej en)
    (answers_both b c d (under (pos 1) (type_fault r x k)) (under (pos 2) (type_fault r y u)) (nodes_at x k j)
    (nodes_at y u n)
    q none g h)

-- ---- optionals

pub optional_answers : (r : Bool) (t : TypeTree) (l m : Layout) (i j k : ℕ) (a b c d : List ℕ)
    (q : Result (Unit {0}) BindFault) → (o : OptionalAt l) → m ≡ o.inner → j ≡ i + 1 → k ≡ i + 2
    → Adds a b (Some i ∷ []) → Adds b c (Some j ∷ [])
    → Answers c d (under (pos 2) (type_fault r t m)) (nodes_at t m k) q
    → Answers a d (field_fault Optional (λ (z : Layout). type_fault r t z) (Some l))
    (nodes_of_field Optional (λ (z : Layout) (n : ℕ). nodes_at t z n) 0 (Some l) i) q
optional_answers r t l m i j k a b c d q o em ej ek f g h =
    let j1 : 1 + i ≡ j = omega arith in
    let k1 : 2 + i ≡ k = omega arith in
    answers_after a c d (under (pos 2) (type_fault r t m)) (field_fault Optional (λ (z : Layout). type_fault r t z)
    (Some l)) (Some i ∷ Some j ∷ []) (nodes_at t m k)
    (nodes_of_field Optional (λ (z : Layout) (n : ℕ). nodes_at t z n) 0 (Some l) i) q
    (adds_both a b c (Some i ∷ []) (Some j ∷ []) f g)
    (ap (λ (y : Layout). field_fault Optional (λ (z : Layout). type_fault r t z) (Some y)) o.is
    ∙ ap (λ (y : Layout). under (pos 2) (type_fault r t y)) (sym em))
    (ap (λ (y : Layout). nodes_of_field Optional (λ (z : Layout) (n : ℕ). nodes_at t z n) 0 (Some y) i) o.is
    ∙ ap (λ (y : Layout). Some i ∷ Some (1 + i) ∷ nodes_at t y (2 + i)) (sym em)
    ∙ ap (λ (y : ℕ). Some i ∷ Some (1 + i) ∷ nodes_at t m y) k1
    ∙ ap (λ (y : ℕ). Some i ∷ Some y ∷ nodes_at t m k) j1)
    h

-- ---- the root

pub root_bound : (d : Described) (t u : TypeTree) (l : Layout) (old new : List ℕ) → old ≡ [] → u ≡ t
    → l ≡ d.tree → type_fault d.relaxed u l ≡ None → Adds old new (nodes_at u l 0)
    → Compatible d t × (map file_node_of new ≡ nodes_at t d.tree 0)
root_bound d t u l old new eo et el none add =
    let none2 = subst (λ (z : Layout). type_fault d.relaxed t z ≡ None) el
    (subst (λ (z : TypeTree). type_fault d.relaxed z l ≡ None) et none) in (
      binding d.relaxed t d.tree none2,
      add ∙ ap (λ (z : List ℕ). map file_node_of z ++ nodes_at u l 0) eo
          ∙ ap (λ (z : TypeTree). nodes_at z l 0) et ∙ ap (λ (z : Layout). nodes_at t z 0) el,
    )

-- ---- room

pub node_room : (y : Kept) (n : ℕ) → IsNode y n → n < 4096
node_room y n p =
    let s = sub (noted_in y) n in
    omega (arith, node_small y.version y.nodes.items s n y.listing y.sound p, some_nodes s)

pub range_room : (y : Kept) (n : ℕ) → IsNode y n → IsRange (at y n) → n < 4094
range_room y n p h =
    let s = sub (noted_in y) n in
    omega (
      arith,
      node_small y.version y.nodes.items s n y.listing y.sound p,
      range_many (version_of y.version) s h,
    )

pub optional_room : (y : Kept) (n : ℕ) → IsNode y n → OptionalAt (at y n) → n < 4094
optional_room y n p o =
    let s = sub (noted_in y) n in
    let h = subst (λ (z : Layout). IsOptional z) (sym o.is) tt in
    omega (
      arith,
      node_small y.version y.nodes.items s n y.listing y.sound p,
      optional_nodes (version_of y.version) s h,
    )

pub holder_range : (l : Layout) → IsHolder l → IsRange l
holder_range (ItemRange g d c m) h = tt
holder_range (Leaf k c) h = absurd h
holder_range (ByteRange k d c) h = absurd h
holder_range (tree.Optional w m) h = absurd h
holder_range (Struct ls) h = absurd h

-- ---- what was tested

pub fits_known : (r q : Bool) (t : TypeTree) (l : Layout) (own : TypeKind) (stored : Kind) (b : Bool) → q ≡ r
    → own ≡ kind_of t → plain stored ≡ kind_at l → b ≡ fits q own stored → fits r (kind_of t) (kind_at l) ≡ b
fits_known r q t l own stored b eq eo es eb =
    ap (λ (z : Kind). fits r (kind_of t) z) (sym es) ∙ plain_fits r (kind_of t) stored
    ∙ ap (λ (z : TypeKind). fits r z stored) (sym eo) ∙ ap (λ (z : Bool). fits z own stored) (sym eq) ∙ sym eb

-- ---- fields

pub struct_form : (l : Layout) → IsStruct l → l ≡ Struct (fields_in l)
struct_form (Struct ls) h = refl
struct_form (Leaf k c) h = absurd h
struct_form (ByteRange k d c) h = absurd h
struct_form (ItemRange g d c m) h = absurd h
struct_form (tree.Optional w m) h = absurd h

-- a field that is an optional, and one that is not
pub optional_field_answers : (r : Bool) (f : DefField) (ls : Layouts) (i : ℕ) (t : TypeTree) (l : Layout)
    (j : ℕ)
    (a b : List ℕ) (q : Result (Unit {0}) BindFault) → f.need ≡ Optional → t ≡ f.type
    → field_tree ls (nat_abs f.id) ≡ Some l → field_node ls (nat_abs f.id) i ≡ j
    → Answers a b (field_fault Optional (λ (z : Layout). type_fault r t z) (Some l))
    (nodes_of_field Optional (λ (z : Layout) (n : ℕ). nodes_at t z n) 0 (Some l) j) q
    → Answers a b (fault_at r f ls) (plan_at f ls i) q
optional_field_answers r f ls i t l j a b q en et eo ej h =
    let k = field_is r f ls i Optional t (Some l) j en et eo (λ m e. ej) in
    answers_as a b (field_fault Optional (λ (z : Layout). type_fault r t z) (Some l)) (fault_at r f ls)
    (nodes_of_field Optional (λ (z : Layout) (n : ℕ). nodes_at t z n) 0 (Some l) j) (plan_at f ls i) q k.fault
    (k.plan l refl) h

pub plain_field_answers : (r : Bool) (f : DefField) (ls : Layouts) (i : ℕ) (n : Need) (t : TypeTree)
    (l : Layout)
    (j : ℕ) (a b : List ℕ) (q : Result (Unit {0}) BindFault) → (n ≡ Plain) ⊎ (n ≡ Required) → f.need ≡ n
    → t ≡ f.type → field_tree ls (nat_abs f.id) ≡ Some l → field_node ls (nat_abs f.id) i ≡ j
    → Answers a b (type_fault r t l) (nodes_at t l j) q → Answers a b (fault_at r f ls) (plan_at f ls i) q
plain_field_answers r f ls i n t l j a b q (inl e) en et eo ej h =
    let k = field_is r f ls i Plain t (Some l) j (en ∙ e) et eo (λ m x. ej) in
    answers_as a b (type_fault r t l) (fault_at r f ls) (nodes_at t l j) (plan_at f ls i) q k.fault
    (k.plan l refl) h
plain_field_answers r f ls i n t l j a b q (inr e) en et eo ej h =
    let k = field_is r f ls i Required t (Some l) j (en ∙ e) et eo (λ m x. ej) in
    answers_as a b (type_fault r t l) (fault_at r f ls) (nodes_at t l j) (plan_at f ls i) q k.fault
    (k.plan l refl) h

-- a field that the layout lacks
pub required_lacked : (r : Bool) (f : DefField) (ls : Layouts) → f.need ≡ Required
    → field_tree ls (nat_abs f.id) ≡ None → fault_at r f ls ≡ Some (required_absent [])
required_lacked r f ls en eo =
    let k = field_is r f ls 0 Required f.type None 0 en refl eo (λ m x. absurd cc) in
    k.fault

pub other_lacked : (r : Bool) (f : DefField) (ls : Layouts) (i : ℕ) (n : Need) (a b : List ℕ)
    → (n ≡ Plain) ⊎ (n ≡ Optional) → f.need ≡ n → field_tree ls (nat_abs f.id) ≡ None
    → Adds a b (replicate (nodes (field_kinds f)) None)
    → (fault_at r f ls ≡ None) × Adds a b (plan_at f ls i)
other_lacked r f ls i n a b (inl e) en eo h =
    let k = field_is r f ls i Plain f.type None 0 (en ∙ e) refl eo (λ m x. absurd cc) in
    (k.fault, subst (λ (z : List (Option ℕ)). Adds a b z) (sym (k.lacked refl)) h)
other_lacked r f ls i n a b (inr e) en eo h =
    let k = field_is r f ls i Optional f.type None 0 (en ∙ e) refl eo (λ m x. absurd cc) in
    (k.fault, subst (λ (z : List (Option ℕ)). Adds a b z) (sym (k.lacked refl)) h)

pub field_id_small : (P : List ℕ → Type 0) (t : TypeTree) (i : ℕ) (x : DefField) → kind_of t ≡ types.Struct
    → IsAccepted P t → slice_get (fields_of t) i ≡ Some x → nat_abs x.id ≤ 32767
field_id_small P t i x e h g =
    let s = struct_is t e in
    let a = subst (λ (z : TypeTree). IsAccepted P z) s.is h in
    ids_small 0 s.fields a.0 i x (ap (λ (z : TypeTree). slice_get (fields_of z) i) (sym s.is) ∙ g)

-- ---- the item of a map

pub map_item : (y : Kept) (n : ℕ) → IsNode y n → IsMap (at y n) → IsPair (item_of (at y n))
map_item y n p h =
    let m = map_pair y.version (noted_in y) (sub (noted_in y) n) n y.sound p h in
    subst (λ (z : Layout). IsPair z) (sym m.is) tt
