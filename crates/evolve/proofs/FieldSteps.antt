-- The fields of a struct, each bound to the one of its id.
use Rattle.std.proofs.Common.{◌≡◌, ℕ, suc, zero, ◌+◌, ◌≤◌, Bool, true, false, List, [], ◌∷◌, ◌++◌, length}
use Rattle.std.proofs.Common.{drop, slice_get, replicate, ℤ, Option, Some, None, nat_eq, nat_abs, pos, refl}
use Rattle.std.proofs.Common.{sym, ap, ◌∙◌, subst, arith, append_assoc, append-nil, if◌then◌else◌}
use Rattle.std.proofs.lemmas.Bool.Decides.{nat_tests}
use Rattle.std.specs.Ordering.{int_eq}
use Rattle.idl_profile.specs.declared.kinds.Need.{Need}
use Rattle.idl_profile.specs.declared.kinds.Need.TheVariants.{Plain, Required, Optional}
use Rattle.idl_profile.specs.Types.{TypeTree, named, struct_of, Fields, no_fields, field, DefField, Default}
use Rattle.idl_profile.specs.Types.{field_list, fields_of}
use Rattle.type_kinds.specs.KindsOf.{kinds_of, kinds_of_fields}
use Rattle.type_kinds.specs.Defaults.{ids_of_fields}
use Rattle.frozen_model.specs.Trees as tree
use Rattle.frozen_model.specs.Trees.{Struct, NoField, Field, nodes, nodes_all, Part, Rising}
use Rattle.frozen_model.specs.Layouts.{Version, Layout, Layouts}
use Rattle.layout_tree.specs.Listing.{Noted, AllNoted, layout_in, layouts_in, sub}
use Rattle.layout_tree.specs.Reading as reading
use Rattle.layout_tree.specs.Shapes.{field_kinds, kinds_by_need}
use Rattle.layout_tree.proofs.Children.{Child, FieldsAt, struct_at, first_child, later_children}
use Rattle.layout_tree.proofs.Kin.{int_same, int_other}
use Rattle.layout_tree.proofs.Readings.{same_nodes}
use Rattle.bit_view.specs.Branches.{field_tree}
use Rattle.evolve.specs.Binding.{Unbound, under, or_later, field_fault, type_fault, fields_fault}
use Rattle.evolve.specs.Plans.{field_node, nodes_of_field, nodes_at, nodes_at_fields}
use Rattle.evolve.specs.declared.fault.BindFault.{BindFault}
use Rattle.evolve.specs.BindSteps.{Adds, Tells, fields_in, fault_at, plan_at}
use Rattle.evolve.proofs.Fitting.{StructIs}
use Rattle.evolve.proofs.Adding.{adds_both, tells_first, tells_as}

-- ---- the field of a layout with an id

record SameId (f k : ℕ) (b : Bool) : Type 0 where
  yes : b ≡ true → f ≡ k
  no : b ≡ false → f ≡ k → ⊥

same_id : (f k : ℕ) → SameId f k (nat_eq f k)
same_id f k = record {
  yes = λ e. grind (arith, nat_tests);
  no = λ e h. grind (arith, nat_tests);
}

id_test : (f k : ℕ) → int_eq (pos f) (pos k) ≡ nat_eq f k
id_test f k = by (nat_eq f k) refl
  where
    by : (b : Bool) → nat_eq f k ≡ b → int_eq (pos f) (pos k) ≡ b
    by true e = int_same (pos f) (pos k) (ap (λ n. pos n) ((same_id f k).yes e))
    by false e = int_other (pos f) (pos k) (λ h. (same_id f k).no e (ap nat_abs h))

-- it is found at a node
pub record FieldFound (t : Noted) (v : Version) (ls : Layouts) (k i n : ℕ) : Type 0 where
  pub here : Layout
  pub tree : field_tree ls k ≡ Some here
  pub node : field_node ls k i ≡ n
  pub child : Child t v n here

abbrev Later : Layouts → ℕ → ℕ → Layout → ℕ → Option ℕ
Later ls k i l f = if nat_eq f k then Some i else reading.field_node ls (i + nodes l) (pos k)

by_test : (ls : Layouts) (k i f : ℕ) (l : Layout) (o : Option ℕ)
    → reading.field_node (Field f l ls) i (pos k) ≡ o → Later ls k i l f ≡ o
by_test ls k i f l o e = ap (λ (b : Bool). if b then Some i else reading.field_node ls (i + nodes l) (pos k))
    (sym (id_test f k)) ∙ e

found_here : (t : Noted) (v : Version) (f : ℕ) (l : Noted) (fs : AllNoted) (i k n : ℕ) (b : Bool)
    → nat_eq f k ≡ b → FieldsAt t i (Field f l fs)
    → (if b then Some i else reading.field_node (layouts_in v fs) (i + nodes (layout_in v l)) (pos k))
    ≡ Some n
    → (reading.field_node (layouts_in v fs) (i + nodes (layout_in v l)) (pos k) ≡ Some n
    → FieldFound t v (layouts_in v fs) k (i + nodes (layout_in v l)) n)
    → FieldFound t v (layouts_in v (Field f l fs)) k i n
found_here t v f l fs i k n true q h e rest =
    let same : i ≡ n = cc in
    record {
      here = layout_in v l;
      tree = rw q refl;
      node = rw q same;
      child = subst (λ m. Child t v m (layout_in v l)) same (first_child t v i f l fs h);
    }
found_here t v f l fs i k n false q h e rest =
    let r = rest e in
    record { here = r.here; tree = rw q r.tree; node = rw q r.node; child = r.child }

found_among : (t : Noted) (v : Version) (fs : AllNoted) (i k n : ℕ) → FieldsAt t i fs
    → reading.field_node (layouts_in v fs) i (pos k) ≡ Some n → FieldFound t v (layouts_in v fs) k i n
found_among t v NoField i k n h e = absurd cc
found_among t v (Field f l fs) i k n h e =
    let up : i + nodes l ≡ i + nodes (layout_in v l) = ap (λ m. i + m) (sym (same_nodes v l)) in
    found_here t v f l fs i k n (nat_eq f k) refl h
    (by_test (layouts_in v fs) k i f (layout_in v l) (Some n) e)
    (found_among t v fs (i + nodes (layout_in v l)) k n
    (subst (λ m. FieldsAt t m fs) up (later_children t i f l fs h)))

none_here : (f : ℕ) (l : Layout) (ls : Layouts) (i k : ℕ) (b : Bool) → nat_eq f k ≡ b
    → (if b then Some i else reading.field_node ls (i + nodes l) (pos k)) ≡ None
    → (reading.field_node ls (i + nodes l) (pos k) ≡ None → field_tree ls k ≡ None)
    → field_tree (Field f l ls) k ≡ None
none_here f l ls i k true q e rest = absurd cc
none_here f l ls i k false q e rest = rw q (rest e)

none_among : (ls : Layouts) (i k : ℕ) → reading.field_node ls i (pos k) ≡ None → field_tree ls k ≡ None
none_among NoField i k e = refl
none_among (Field f l ls) i k e =
    none_here f l ls i k (nat_eq f k) refl (by_test ls k i f l None e) (none_among ls (i + nodes l) k)

-- of a struct's node
pub child_found : (t : Noted) (v : Version) (n k m : ℕ) → Part t 0 (sub t n) n
    → layout_in v (sub t n) ≡ Struct (fields_in (layout_in v (sub t n)))
    → reading.child_of (layout_in v (sub t n)) n (pos k) ≡ Some m
    → FieldFound t v (fields_in (layout_in v (sub t n))) k (1 + n) m
child_found t v n k m p is e =
    let ls = fields_in (layout_in v (sub t n)) in
    let st = struct_at t v n ls p is in
    let one : suc n ≡ 1 + n = omega arith in
    let e2 : reading.field_node ls (suc n) (pos k) ≡ Some m =
    ap (λ (z : Layout). reading.child_of z n (pos k)) (sym is) ∙ e in
    subst (λ (q : ℕ). FieldFound t v ls k q m) one
    (subst (λ (z : Layouts). FieldFound t v z k (suc n) m) st.is
    (found_among t v st.fields (suc n) k m st.there
    (ap (λ (z : Layouts). reading.field_node z (suc n) (pos k)) st.is ∙ e2)))

pub child_lacks : (l : Layout) (n k : ℕ) → l ≡ Struct (fields_in l) → reading.child_of l n (pos k) ≡ None
    → field_tree (fields_in l) k ≡ None
child_lacks l n k is e =
    none_among (fields_in l) (suc n) k (ap (λ (z : Layout). reading.child_of z n (pos k)) (sym is) ∙ e)

-- ---- a field that the layout has, or lacks

many_free : (n : Need) (inside : Layout → ℕ → List (Option ℕ)) (a b : ℕ) (l : Layout) (i : ℕ)
    → nodes_of_field n inside a (Some l) i ≡ nodes_of_field n inside b (Some l) i
many_free Plain inside a b l i = refl
many_free Required inside a b l i = refl
many_free Optional inside a b (tree.Optional w l) i = refl
many_free Optional inside a b l i = refl

pub record FieldIs (r : Bool) (f : DefField) (ls : Layouts) (i : ℕ) (n : Need) (t : TypeTree)
    (o : Option Layout) (j : ℕ) : Type 0 where
  pub fault : fault_at r f ls ≡ field_fault n (λ l. type_fault r t l) o
  pub plan : (l : Layout) → o ≡ Some l
      → plan_at f ls i ≡ nodes_of_field n (λ m k. nodes_at t m k) 0 (Some l) j
  pub lacked : o ≡ None → plan_at f ls i ≡ replicate (nodes (field_kinds f)) None

pub field_is : (r : Bool) (f : DefField) (ls : Layouts) (i : ℕ) (n : Need) (t : TypeTree) (o : Option Layout)
    (j : ℕ) → f.need ≡ n → t ≡ f.type → field_tree ls (nat_abs f.id) ≡ o
    → ((l : Layout) → o ≡ Some l → field_node ls (nat_abs f.id) i ≡ j) → FieldIs r f ls i n t o j
field_is r f ls i n t o j en et eo ej =
    let k = nat_abs f.id in
    let many = nodes (field_kinds f) in
    record {
      fault = ap (λ (z : Need). field_fault z (λ (l : Layout). type_fault r f.type l) (field_tree ls k)) en
          ∙ ap (λ (z : TypeTree). field_fault n (λ (l : Layout). type_fault r z l) (field_tree ls k)) (sym et)
          ∙ ap (λ (z : Option Layout). field_fault n (λ (l : Layout). type_fault r t l) z) eo;
      plan = λ l el.
          ap (λ (z : Need). nodes_of_field z (λ (m : Layout) (q : ℕ). nodes_at f.type m q) many
          (field_tree ls k)
          (field_node ls k i)) en
          ∙ ap (λ (z : TypeTree). nodes_of_field n (λ (m : Layout) (q : ℕ). nodes_at z m q) many
          (field_tree ls k) (field_node ls k i)) (sym et)
          ∙ ap (λ (z : Option Layout). nodes_of_field n (λ (m : Layout) (q : ℕ). nodes_at t m q) many z
          (field_node ls k i)) (eo ∙ el)
          ∙ ap (λ (z : ℕ). nodes_of_field n (λ (m : Layout) (q : ℕ). nodes_at t m q) many (Some l) z)
          (ej l el)
          ∙ many_free n (λ (m : Layout) (q : ℕ). nodes_at t m q) many 0 l j;
      lacked = λ el.
          ap (λ (z : Option Layout). nodes_of_field f.need (λ (m : Layout) (q : ℕ). nodes_at f.type m q) many
          z
          (field_node ls k i)) (eo ∙ el);
    }

-- ---- what is left of the fields

pub dropped : (fs : List DefField) (i : ℕ) (x : DefField) → slice_get fs i ≡ Some x → drop i fs ≡ x
    ∷ drop (suc i) fs
dropped [] i x e = absurd cc
dropped (y ∷ ys) zero x e = let h : y ≡ x = cc in ap (λ z. z ∷ ys) h
dropped (y ∷ ys) (suc i) x e = dropped ys i x e

pub drop_past : (fs : List DefField) (i : ℕ) → length fs ≤ i → drop i fs ≡ []
drop_past [] zero h = refl
drop_past [] (suc i) h = refl
drop_past (y ∷ ys) zero h = absurd (omega arith)
drop_past (y ∷ ys) (suc i) h = drop_past ys i (omega arith)

-- Of a struct's fields those from the i-th on are left, and the nodes of the others are added.
pub record FieldsLeft (r : Bool) (t : TypeTree) (l : Layout) (node : ℕ) (old cur : List ℕ) (i : ℕ) : Type 0
  where
    pub left : Fields
    pub listed : field_list left ≡ drop i (fields_of t)
    pub fault : type_fault r t l ≡ fields_fault r left (fields_in l)
    pub before : List (Option ℕ)
    pub added : Adds old cur before
    pub rest : before ++ nodes_at_fields left (fields_in l) (1 + node) ≡ nodes_at t l node

pub fields_start : (r : Bool) (t : TypeTree) (l : Layout) (node : ℕ) (old cur : List ℕ) → StructIs t
    → l ≡ Struct (fields_in l) → Adds old cur (Some node ∷ []) → FieldsLeft r t l node old cur 0
fields_start r t l node old cur s is a =
    let u = named (struct_of s.name s.fields) in
    let ls = fields_in l in
    record {
      left = s.fields;
      listed = ap fields_of (sym s.is);
      fault = ap (λ (z : TypeTree). type_fault r z l) s.is ∙ ap (λ (z : Layout). type_fault r u z) is;
      before = Some node ∷ [];
      added = a;
      rest = sym (ap (λ (z : TypeTree). nodes_at z l node) s.is ∙ ap (λ (z : Layout). nodes_at u z node) is);
    }

one_field : (id : ℤ) (w : List ℕ) (n : Need) (t : TypeTree) (d : Default)
    → nodes_all (kinds_of_fields (field id w n t d no_fields)) ≡ nodes (kinds_by_need n (kinds_of t))
one_field id w Plain t d = omega arith
one_field id w Required t d = omega arith
one_field id w Optional t d = omega arith

pub record FieldHere (r : Bool) (t : TypeTree) (l : Layout) (node : ℕ) (old cur : List ℕ) (i : ℕ)
    (x : DefField) : Type 0 where
  pub ok : (new : List ℕ) → under x.id (fault_at r x (fields_in l)) ≡ None
      → Adds cur new (plan_at x (fields_in l) (1 + node)) → FieldsLeft r t l node old new (i + 1)
  pub err : (f : BindFault) → Tells (under x.id (fault_at r x (fields_in l))) f
      → Tells (type_fault r t l) f

pub field_here : (r : Bool) (t : TypeTree) (l : Layout) (node : ℕ) (old cur : List ℕ) (i : ℕ) (x : DefField)
    → FieldsLeft r t l node old cur i → slice_get (fields_of t) i ≡ Some x → FieldHere r t l node old cur i x
field_here r t l node old cur i x k e =
    go k.left (k.listed ∙ dropped (fields_of t) i x e) k.fault k.rest
  where
    ls : Layouts
    ls = fields_in l

    go : (left : Fields) → field_list left ≡ x ∷ drop (suc i) (fields_of t)
        → type_fault r t l ≡ fields_fault r left (fields_in l)
        → k.before ++ nodes_at_fields left (fields_in l) (1 + node) ≡ nodes_at t l node
        → FieldHere r t l node old cur i x
    go no_fields listed fault rest = absurd cc
    go (field id w n u d fs) listed fault rest =
        let y : DefField = record { id = id; name = w; need = n; type = u; default = d } in
        let same : y ≡ x = cc in
        let later : field_list fs ≡ drop (suc i) (fields_of t) = cc in
        let own = under id (fault_at r y (fields_in l)) in
        let many = nodes_all (kinds_of_fields (field id w n u d no_fields)) in
        let inside = λ (m : Layout) (q : ℕ). nodes_at u m q in
        let plan : nodes_of_field n inside many (field_tree (fields_in l) (nat_abs id))
        (field_node (fields_in l) (nat_abs id) (1 + node)) ≡ plan_at y (fields_in l) (1 + node) =
        ap (λ (z : ℕ). nodes_of_field n inside z (field_tree (fields_in l) (nat_abs id))
        (field_node (fields_in l) (nat_abs id) (1 + node))) (one_field id w n u d) in
        let step : suc i ≡ i + 1 = omega arith in
        subst (λ (z : DefField). FieldHere r t l node old cur i z) same (record {
          ok = λ new none a. record {
            left = fs;
            listed = later ∙ ap (λ (z : ℕ). drop z (fields_of t)) step;
            fault = fault ∙ ap (λ (z : Option Unbound). or_later z (fields_fault r fs (fields_in l))) none;
            before = k.before ++ plan_at y (fields_in l) (1 + node);
            added = adds_both old cur new k.before (plan_at y (fields_in l) (1 + node)) k.added a;
            rest = append_assoc k.before (plan_at y (fields_in l) (1 + node))
                (nodes_at_fields fs (fields_in l) (1 + node))
                ∙ ap (λ (z : List (Option ℕ)). k.before ++ (z ++ nodes_at_fields fs (fields_in l) (1 + node)))
                (sym plan) ∙ rest;
          };
          err = λ f h. tells_as (or_later own (fields_fault r fs (fields_in l))) (type_fault r t l) f fault
              (tells_first own (fields_fault r fs (fields_in l)) f h);
        })

pub fields_done : (r : Bool) (t : TypeTree) (l : Layout) (node : ℕ) (old cur : List ℕ) (i : ℕ)
    → FieldsLeft r t l node old cur i → length (fields_of t) ≤ i
    → (type_fault r t l ≡ None) × Adds old cur (nodes_at t l node)
fields_done r t l node old cur i k le = go k.left (k.listed ∙ drop_past (fields_of t) i le) k.fault k.rest
  where
    go : (left : Fields) → field_list left ≡ [] → type_fault r t l ≡ fields_fault r left (fields_in l)
        → k.before ++ nodes_at_fields left (fields_in l) (1 + node) ≡ nodes_at t l node
        → (type_fault r t l ≡ None) × Adds old cur (nodes_at t l node)
    go no_fields listed fault rest = (
      fault,
      subst (λ (z : List (Option ℕ)). Adds old cur z) (sym (append-nil k.before) ∙ rest) k.added,
    )
    go (field id w n u d fs) listed fault rest = absurd cc

-- ---- ids

abbrev id_or : ℤ → Option DefField → ℤ
id_or z None = z
id_or z (Some x) = x.id

pub ids_small : (b : ℕ) (fs : Fields) → Rising b (ids_of_fields fs) → (i : ℕ) (x : DefField)
    → slice_get (field_list fs) i ≡ Some x → nat_abs x.id ≤ 32767
ids_small b no_fields h i x e = absurd cc
ids_small b (field id w n t d fs) h zero x e =
    let same : id ≡ x.id = ap (λ (z : Option DefField). id_or id z) e in
    subst (λ (z : ℤ). nat_abs z ≤ 32767) same h.1
ids_small b (field id w n t d fs) h (suc i) x e = ids_small (nat_abs id) fs h.2 i x e
