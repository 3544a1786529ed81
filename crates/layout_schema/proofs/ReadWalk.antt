-- The walk over the layouts, step by step: a part, and its children one after another.
use Rattle.std.proofs.Common.{◌≡◌, ◌⊎◌, inl, inr, ℕ, zero, suc, ◌+◌, ◌*◌, w16, ◌<◌, ◌≤◌, Bool, true, false, if◌then◌else◌, List, [], ◌∷◌, ◌++◌, drop, length, Some, Result, Ok, Err, refl, sym, ap, ◌∙◌, subst, arith, append_assoc, append-nil, length-append}
use mir.Val.{SFits}
use Rattle.std.specs.Prelude.{ℤ, pos, neg_ℤ, nat_lt, nat_le}
use Rattle.std.specs.List.{slice_get}
use Rattle.std.proofs.lemmas.Bool.{and_parts}
use Rattle.std.proofs.lemmas.List.{append_cancel_left, drop_all}
use Rattle.std.proofs.lemmas.Bool.Decides.{nat_tests, Decides-int_eq}
use Rattle.frozen_model.specs.Values.{Values}
use Rattle.layout_tree.specs.declared.node.NodeSpec.{NodeSpec}
use Rattle.layout_tree.specs.declared.node.Kind.{Kind}
use Rattle.layout_tree.specs.declared.node.Kind.TheVariants as kinds
use Rattle.layout_schema.proofs.Places.{drop_get}
use Rattle.layout_schema.specs.declared.fault.SchemaFault.{SchemaFault}
use Rattle.layout_schema.specs.declared.fault.SchemaFault.TheVariants as fault
use Rattle.layout_schema.specs.declared.walk.Widths.{Widths}
use Rattle.layout_schema.specs.Shapes.{At, Entry, Child, Place, Walked, place_of, is_inline, deeper, entry_of, kind_named, are_fields, fields_fit, may_enter, is_width, greatest_of, is_named, and_then, in_front, walk_children, walk_part, done, nothing}
use Rattle.layout_schema.specs.Reading.{walked, with_child, node_at, NoneAtLeaf, IsAtFault, Walks, Finishes}

-- ---- entering a node

-- what a node that may be entered meets, as far as the walk goes on from it
pub record IsEntered (at : At) (n : ℕ) (x : Entry) (k : Kind) : Type 0 where
  pub number : n < 4096
  pub fields : fields_fit k x.children ≡ true
  pub width : is_width (greatest_of k) x.bits ≡ true
  pub level : at.level ≤ 32

below_limit : (n m : ℕ) → nat_lt n m ≡ true → n < m
below_limit n m e = grind (arith, nat_tests)

within_limit : (n m : ℕ) → nat_le n m ≡ true → n ≤ m
within_limit n m e = grind (arith, nat_tests)

pub entering : (at : At) (n : ℕ) (x : Entry) (k : Kind) → may_enter at n x k ≡ true → IsEntered at n x k
entering at n x k e =
    let a = and_parts _ _ e in
    let b = and_parts _ _ a.1 in
    let c = and_parts _ _ b.1 in
    let d = and_parts _ _ c.1 in
    let f = and_parts _ _ d.1 in
    let g = and_parts _ _ f.1 in
    record { number = below_limit n 4096 a.0; fields = d.0; width = f.0; level = within_limit at.level 32 g.1 }

-- a node with a layout and a kind, and whether it may be entered
pub record IsFound (ls : Values) (n : ℕ) (at : At) (x : Entry) (k : Kind) (enters : Bool) : Type 0 where
  pub entry : entry_of ls n ≡ Some x
  pub kind : kind_named x.name ≡ Some k
  pub test : may_enter at n x k ≡ enters

pub barred : (ls : Values) (room n : ℕ) (at : At) (x : Entry) (k : Kind) → IsFound ls n at x k false → walk_part ls room at n ≡ Err (pos n)
barred ls zero n at x k found = refl
barred ls (suc room) n at x k found = rw (found.entry, found.kind, found.test) refl

-- a node that is entered: its children are walked with the room that is left, and then it is done
pub record IsOpened (ls : Values) (room n : ℕ) (at : At) (x : Entry) (k : Kind) : Type 0 where
  pub left : ℕ
  pub enough : 4096 ≤ left + suc n
  pub is : walk_part ls room at n ≡ and_then (walk_children (walk_part ls left) k at.level n x.children (suc n) 0) (done at n x k (greatest_of k))

pub opened : (ls : Values) (room n : ℕ) (at : At) (x : Entry) (k : Kind) → 4096 ≤ room + n → IsFound ls n at x k true → IsOpened ls room n at x k
opened ls zero n at x k much found = absurd (omega (arith, much, (entering at n x k found.test).number))
opened ls (suc room) n at x k much found = record {
  left = room;
  enough = omega (arith, much);
  is = rw (found.entry, found.kind, found.test) refl;
}

-- ---- leaves

no_fields : (cs : List Child) → are_fields [] cs ≡ true → cs ≡ []
no_fields [] e = refl
no_fields (c ∷ cs) e = absurd cc

same_walked : (x y : Walked) → ◌≡◌ {A = Result Walked ℤ} (Ok x) (Ok y) → x ≡ y
same_walked x y e = cc

none : (enter : At → ℕ → Result Walked ℤ) (k : Kind) (level p n o : ℕ) (ns : List NodeSpec) (w : Widths) (cs : List Child) → are_fields [] cs ≡ true → walk_children enter k level p cs n o ≡ Ok (walked ns w) → ns ≡ []
none enter k level p n o ns w cs e is =
    let whole : ◌≡◌ {A = Result Walked ℤ} (Ok nothing) (Ok (walked ns w)) = sym (ap (λ ds. walk_children enter k level p ds n o) (no_fields cs e)) ∙ is in
    sym (ap (λ (x : Walked). x.nodes) (same_walked nothing (walked ns w) whole))

-- a leaf has no children
pub none_below : (enter : At → ℕ → Result Walked ℤ) (k : Kind) (level p n o : ℕ) (ns : List NodeSpec) (w : Widths) (cs : List Child) → fields_fit k cs ≡ true → walk_children enter k level p cs n o ≡ Ok (walked ns w) → NoneAtLeaf (greatest_of k) ns
none_below enter kinds.Flag level p n o ns w cs e is = none enter kinds.Flag level p n o ns w cs e is
none_below enter kinds.I8 level p n o ns w cs e is = none enter kinds.I8 level p n o ns w cs e is
none_below enter kinds.I16 level p n o ns w cs e is = none enter kinds.I16 level p n o ns w cs e is
none_below enter kinds.I32 level p n o ns w cs e is = none enter kinds.I32 level p n o ns w cs e is
none_below enter kinds.I64 level p n o ns w cs e is = none enter kinds.I64 level p n o ns w cs e is
none_below enter kinds.Size level p n o ns w cs e is = none enter kinds.Size level p n o ns w cs e is
none_below enter kinds.Text level p n o ns w cs e is = tt
none_below enter kinds.Bytes level p n o ns w cs e is = tt
none_below enter kinds.List level p n o ns w cs e is = tt
none_below enter kinds.Set level p n o ns w cs e is = tt
none_below enter kinds.Map level p n o ns w cs e is = tt
none_below enter kinds.Pair level p n o ns w cs e is = tt
none_below enter kinds.Struct level p n o ns w cs e is = tt
none_below enter kinds.Optional level p n o ns w cs e is = tt

-- ---- a part

-- a fault stays the answer, whatever would follow
pub fault_stays : (f : SchemaFault) (r : Result Walked ℤ) (g : Walked → Result Walked ℤ) → IsAtFault f r → IsAtFault f (and_then r g)
fault_stays (fault.Shape z) r g e = rw e refl
fault_stays fault.NoMemory r g e = tt
fault_stays (fault.Spelling x) r g e = absurd e
fault_stays (fault.Fields x) r g e = absurd e
fault_stays (fault.Version x) r g e = absurd e

pub same_fault : (f : SchemaFault) {q r : Result Walked ℤ} → q ≡ r → IsAtFault f r → IsAtFault f q
same_fault f e h = subst (IsAtFault f) (sym e) h

pub finished : (n : ℕ) (at : At) (x : Entry) (k : Kind) (below : Widths) (ns old mid new : List NodeSpec) (result : Result Widths SchemaFault) (children r : Result Walked ℤ)
    → mid ≡ old ++ node_at at x k ∷ [] → new ≡ mid ++ ns → children ≡ Ok (walked ns below) → r ≡ and_then children (done at n x k (greatest_of k)) → NoneAtLeaf (greatest_of k) ns → Finishes result n x k below → Walks old new result r
finished n at x k below ns old mid new (Ok w) children r pushed more walks is leaf h = (
  node_at at x k ∷ ns,
  more ∙ ap (λ m. m ++ ns) pushed ∙ append_assoc old (node_at at x k ∷ []) ns,
  is ∙ ap (λ c. and_then c (done at n x k (greatest_of k))) walks ∙ h at ns leaf,
)
finished n at x k below ns old mid new (Err f) children r pushed more walks is leaf h =
    same_fault f (is ∙ ap (λ c. and_then c (done at n x k (greatest_of k))) walks) (h at ns)

-- a number at fault
pub at_fault : (f : SchemaFault) (n m : ℕ) {A : Type 0} (r : Result A ℤ) → f ≡ fault.Shape (pos m) → m ≡ n → r ≡ Err (pos n) → IsAtFault f r
at_fault f n m r e is h = subst (λ (g : SchemaFault). IsAtFault g r) (sym e) (h ∙ ap (λ i. Err (pos i)) (sym is))

-- the children stand behind the node, and their parent is the node
module _ (ls : Values) (room n : ℕ) (at : At) (x : Entry) (k : Kind) (open_part : IsOpened ls room n at x k) (m p : ℕ) (behind_node : m ≡ suc n) (parent : p ≡ n) where
  with_left : (P : Result Walked ℤ → Type 0) → ((r : ℕ) → 4096 ≤ r + m → P (walk_children (walk_part ls r) k at.level p x.children m 0)) → P (walk_children (walk_part ls open_part.left) k at.level n x.children (suc n) 0)
  with_left P h =
      let enough : 4096 ≤ open_part.left + m = omega (arith, open_part.enough, behind_node) in
      subst (λ i. P (walk_children (walk_part ls open_part.left) k at.level i x.children (suc n) 0)) parent
      (subst (λ i. P (walk_children (walk_part ls open_part.left) k at.level p x.children i 0)) behind_node (h open_part.left enough))

  -- a fault among the children
  pub part_faulty : (f : SchemaFault) → ((r : ℕ) → 4096 ≤ r + m → IsAtFault f (walk_children (walk_part ls r) k at.level p x.children m 0)) → IsAtFault f (walk_part ls room at n)
  part_faulty f h = same_fault f open_part.is (fault_stays f _ (done at n x k (greatest_of k)) (with_left (IsAtFault f) h))

  -- the children are walked
  pub part_walked : IsEntered at n x k → (below : Widths) (old mid new : List NodeSpec) (result : Result Widths SchemaFault) → mid ≡ old ++ node_at at x k ∷ []
      → ((r : ℕ) → 4096 ≤ r + m → Walks mid new (Ok below) (walk_children (walk_part ls r) k at.level p x.children m 0)) → Finishes result p x k below → Walks old new result (walk_part ls room at n)
  part_walked inside below old mid new result pushed h ends =
      let w = with_left (Walks mid new (Ok below)) h in
      finished n at x k below w.0 old mid new result (walk_children (walk_part ls open_part.left) k at.level n x.children (suc n) 0) (walk_part ls room at n)
      pushed w.1 w.2 open_part.is (none_below (walk_part ls open_part.left) k at.level n (suc n) 0 w.0 below x.children inside.fields w.2) (subst (λ i. Finishes result i x k below) parent ends)

-- ---- children

-- what is walked behind nodes with these widths
abbrev pub joined : List NodeSpec → Widths → Walked → Result Walked ℤ
joined ns w b = Ok (record { nodes = ns ++ b.nodes; bits = w.bits + b.bits; greatest = w.greatest + b.greatest })

abbrev pub behind : List NodeSpec → Widths → Result Walked ℤ → Result Walked ℤ
behind ns w r = and_then r (joined ns w)

-- the first i children are walked: their nodes stand behind the nodes before, and all children have what those have and
-- behind it what the others have
pub record IsSoFar (ls : Values) (k : Kind) (level p : ℕ) (cs : List Child) (before nodes : List NodeSpec) (i : ℕ) (w : Widths) : Type 0 where
  pub gone : List NodeSpec
  pub are : nodes ≡ before ++ gone
  pub rest : (room : ℕ) → 4096 ≤ room + length before → walk_children (walk_part ls room) k level p cs (length before) 0
      ≡ behind gone w (walk_children (walk_part ls room) k level p (drop i cs) (length nodes) w.bits)

-- where the child of a kind and a level stands
abbrev pub child_place : Kind → ℕ → ℕ → Child → ℕ → At
child_place k level p c o = record {
  place = place_of k c.field;
  level = level + deeper (place_of k c.field);
  parent = p;
  field = c.field;
  offset = if is_inline (place_of k c.field) then o else 0;
}

-- the next child, behind nodes with these widths, at the place and the offset at which it is looked for; and whether its
-- parent names it so
pub record IsNext (k : Kind) (c : Child) (w : Widths) (n : ℕ) (q : Place) (o : ℕ) (named : Bool) : Type 0 where
  pub place : q ≡ place_of k c.field
  pub offset : o ≡ (if is_inline q then w.bits else 0)
  pub test : is_named c n o ≡ named

-- where it is entered
pub entered_there : (k : Kind) (level p : ℕ) (c : Child) (w : Widths) (n : ℕ) (q : Place) (d o : ℕ) (z : ℤ) (named : Bool) → IsNext k c w n q o named → d ≡ deeper q → z ≡ c.field
    → ◌≡◌ {A = At} (record { place = q; level = level + d; parent = p; field = z; offset = o }) (child_place k level p c w.bits)
entered_there k level p c w n q d o z named next lower field =
    ap (λ (v : ℕ). record { place = q; level = level + v; parent = p; field = z; offset = o }) lower
    ∙ ap (λ (v : ℤ). record { place = q; level = level + deeper q; parent = p; field = v; offset = o }) field
    ∙ ap (λ (v : ℕ). record { place = q; level = level + deeper q; parent = p; field = c.field; offset = v }) next.offset
    ∙ ap (λ (r : Place). record { place = r; level = level + deeper r; parent = p; field = c.field; offset = if is_inline r then w.bits else 0 }) next.place

-- items are at the offset 0, others behind the bits so far
pub inline_offset : (q : Place) (b : Bool) (o bits : ℕ) → b ≡ is_inline q → ((b ≡ true) × (o ≡ bits)) ⊎ ((b ≡ false) × (o ≡ 0)) → o ≡ (if is_inline q then bits else 0)
inline_offset q b o bits e (inl (t, is)) = is ∙ ap (λ (d : Bool). if d then bits else 0) (sym t ∙ e)
inline_offset q b o bits e (inr (t, is)) = is ∙ ap (λ (d : Bool). if d then bits else 0) (sym t ∙ e)

-- an offset is written in 16 bits
below_offset : (o : ℕ) → SFits w16 (neg_ℤ (pos o)) → o ≤ 32768
below_offset zero f = omega arith
below_offset (suc o) f = let h : o < 32768 = f.sfits in omega (arith, h)

pub named_offset : (c : Child) (n o : ℕ) → SFits w16 c.offset → is_named c n o ≡ true → o ≤ 32768
named_offset c n o f e = below_offset o (subst (SFits w16) ((Decides-int_eq c.offset (neg_ℤ (pos o))).0 (and_parts _ _ e).1) f)

pub wider_bits : (q : Place) (w a v : Widths) (o : ℕ) → v ≡ with_child w q a → o ≡ (if is_inline q then w.bits else 0) → o ≤ 32768 → w.bits ≤ 65535 → a.bits ≤ 32767 → v.bits ≤ 65535
wider_bits q w a v o e offset low wide small = by_case (is_inline q) refl
  where
    by_case : (b : Bool) → is_inline q ≡ b → v.bits ≤ 65535
    by_case true t =
        let f : v.bits ≡ w.bits + a.bits = ap (λ (u : Widths). u.bits) e ∙ ap (λ (d : Bool). w.bits + (if d then a.bits else 0)) t in
        let g : o ≡ w.bits = offset ∙ ap (λ (d : Bool). if d then w.bits else 0) t in
        omega (arith, f, g, low, small)
    by_case false t =
        let f : v.bits ≡ w.bits + 0 = ap (λ (u : Widths). u.bits) e ∙ ap (λ (d : Bool). w.bits + (if d then a.bits else 0)) t in
        omega (arith, f, wide)

pub wider_greatest : (q : Place) (w a v : Widths) (old new : ℕ) → v ≡ with_child w q a → w.greatest ≤ 32767 * old → old < new → a.greatest ≤ 32767 → v.greatest ≤ 32767 * new
wider_greatest q w a v old new e wide more small = by_case (is_inline q) refl
  where
    by_case : (b : Bool) → is_inline q ≡ b → v.greatest ≤ 32767 * new
    by_case true t =
        let f : v.greatest ≡ w.greatest + a.greatest = ap (λ (u : Widths). u.greatest) e ∙ ap (λ (d : Bool). w.greatest + (if d then a.greatest else 0)) t in
        omega (arith, f, wide, more, small)
    by_case false t =
        let f : v.greatest ≡ w.greatest + 0 = ap (λ (u : Widths). u.greatest) e ∙ ap (λ (d : Bool). w.greatest + (if d then a.greatest else 0)) t in
        omega (arith, f, wide, more)

module _ (enter : At → ℕ → Result Walked ℤ) (k : Kind) (level p : ℕ) (c : Child) (cs : List Child) (n o : ℕ) where
  -- a child under another number or at another offset
  unnamed : is_named c n (child_place k level p c o).offset ≡ false → walk_children enter k level p (c ∷ cs) n o ≡ Err (pos n)
  unnamed e = rw e refl

  abbrev go_on : Walked → Result Walked ℤ
  go_on a = and_then (walk_children enter k level p cs (n + length a.nodes) (o + (if is_inline (place_of k c.field) then a.bits else 0))) (λ b. Ok (in_front (place_of k c.field) a b))

  named : is_named c n (child_place k level p c o).offset ≡ true → walk_children enter k level p (c ∷ cs) n o ≡ and_then (enter (child_place k level p c o) n) go_on
  named e = rw e refl

regrouped : (ns bs : List NodeSpec) (w a : Widths) (place : Place) (r : Result Walked ℤ) → behind ns w (and_then r (λ b. Ok (in_front place (walked bs a) b))) ≡ behind (ns ++ bs) (with_child w place a) r
regrouped ns bs w a place (Ok b) =
    let x : ℕ = if is_inline place then a.bits else 0 in
    let y : ℕ = if is_inline place then a.greatest else 0 in
    let e : ns ++ (bs ++ b.nodes) ≡ (ns ++ bs) ++ b.nodes = sym (append_assoc ns bs b.nodes) in
    let f : w.bits + (x + b.bits) ≡ w.bits + x + b.bits = omega arith in
    let g : w.greatest + (y + b.greatest) ≡ w.greatest + y + b.greatest = omega arith in
    ap (λ (m : List NodeSpec). Ok (record { nodes = m; bits = w.bits + (x + b.bits); greatest = w.greatest + (y + b.greatest) })) e
    ∙ ap (λ (m : ℕ). Ok (record { nodes = (ns ++ bs) ++ b.nodes; bits = m; greatest = w.greatest + (y + b.greatest) })) f
    ∙ ap (λ (m : ℕ). Ok (record { nodes = (ns ++ bs) ++ b.nodes; bits = w.bits + x + b.bits; greatest = m })) g
regrouped ns bs w a place (Err z) = refl

module _ (ls : Values) (k : Kind) (level p : ℕ) (cs : List Child) (before nodes : List NodeSpec) (i : ℕ) (w : Widths) (so_far : IsSoFar ls k level p cs before nodes i w) (c : Child) (here : slice_get cs i ≡ Some c) where
  first : (room : ℕ) → 4096 ≤ room + length before → walk_children (walk_part ls room) k level p cs (length before) 0
      ≡ behind so_far.gone w (walk_children (walk_part ls room) k level p (c ∷ drop (suc i) cs) (length nodes) w.bits)
  first room much = so_far.rest room much ∙ ap (λ ds. behind so_far.gone w (walk_children (walk_part ls room) k level p ds (length nodes) w.bits)) (drop_get cs i c here)

  pub child_unnamed : is_named c (length nodes) (child_place k level p c w.bits).offset ≡ false → (room : ℕ) → 4096 ≤ room + length before → walk_children (walk_part ls room) k level p cs (length before) 0 ≡ Err (pos (length nodes))
  child_unnamed e room much = first room much ∙ ap (behind so_far.gone w) (unnamed (walk_part ls room) k level p c (drop (suc i) cs) (length nodes) w.bits e)

  enough : (room : ℕ) → 4096 ≤ room + length before → 4096 ≤ room + length nodes
  enough room much = omega (arith, much, ap length so_far.are, length-append before so_far.gone)

  pub child_faulty : is_named c (length nodes) (child_place k level p c w.bits).offset ≡ true → (f : SchemaFault) → ((room : ℕ) → 4096 ≤ room + length nodes → IsAtFault f (walk_part ls room (child_place k level p c w.bits) (length nodes)))
      → (room : ℕ) → 4096 ≤ room + length before → IsAtFault f (walk_children (walk_part ls room) k level p cs (length before) 0)
  child_faulty e f h room much =
      let enter = walk_part ls room in
      let left = drop (suc i) cs in
      let all = walk_children enter k level p (c ∷ left) (length nodes) w.bits in
      let one : IsAtFault f all = same_fault f (named enter k level p c left (length nodes) w.bits e) (fault_stays f (enter (child_place k level p c w.bits) (length nodes)) (go_on enter k level p c left (length nodes) w.bits) (h room (enough room much))) in
      same_fault f (first room much) (fault_stays f all (joined so_far.gone w) one)

  pub child_walked : is_named c (length nodes) (child_place k level p c w.bits).offset ≡ true → (new bs : List NodeSpec) (a : Widths) → new ≡ nodes ++ bs → ((room : ℕ) → 4096 ≤ room + length nodes → walk_part ls room (child_place k level p c w.bits) (length nodes) ≡ Ok (walked bs a))
      → (v : Widths) → v ≡ with_child w (place_of k c.field) a → IsSoFar ls k level p cs before new (suc i) v
  child_walked e new bs a more h v is = record {
    gone = so_far.gone ++ bs;
    are = more ∙ ap (λ m. m ++ bs) so_far.are ∙ append_assoc before so_far.gone bs;
    rest = λ room much.
        let enter = walk_part ls room in
        let left = drop (suc i) cs in
        let inline : ℕ = if is_inline (place_of k c.field) then a.bits else 0 in
        let r = λ (m o : ℕ). walk_children enter k level p left m o in
        let one : walk_children enter k level p (c ∷ left) (length nodes) w.bits ≡ go_on enter k level p c left (length nodes) w.bits (walked bs a) =
        named enter k level p c left (length nodes) w.bits e ∙ ap (λ q. and_then q (go_on enter k level p c left (length nodes) w.bits)) (h room (enough room much)) in
        let longer : length nodes + length bs ≡ length new = sym (ap length more ∙ length-append nodes bs) in
        let wider : w.bits + inline ≡ v.bits = ap (λ (u : Widths). u.bits) (sym is) in
        first room much ∙ ap (behind so_far.gone w) one
        ∙ regrouped so_far.gone bs w a (place_of k c.field) (r (length nodes + length bs) (w.bits + inline))
        ∙ ap (λ (u : Widths). behind (so_far.gone ++ bs) u (r (length nodes + length bs) (w.bits + inline))) (sym is)
        ∙ ap (λ m. behind (so_far.gone ++ bs) v (r m (w.bits + inline))) longer
        ∙ ap (λ m. behind (so_far.gone ++ bs) v (r (length new) m)) wider;
  }

-- ---- what a call that walks a part tells of each room

-- the same nodes, whatever room there is
pub record IsWalked (old new : List NodeSpec) (w : Widths) (n : ℕ) (r : ℕ → Result Walked ℤ) : Type 0 where
  pub nodes : List NodeSpec
  pub are : new ≡ old ++ nodes
  pub is : (room : ℕ) → 4096 ≤ room + n → r room ≡ Ok (walked nodes w)

pub same_nodes : (old new : List NodeSpec) (w : Widths) (n : ℕ) (r : ℕ → Result Walked ℤ) → ((room : ℕ) → 4096 ≤ room + n → Walks old new (Ok w) (r room)) → IsWalked old new w n r
same_nodes old new w n r h =
    let first = h 4096 (omega arith) in
    record {
      nodes = first.0;
      are = first.1;
      is = λ room much. let one = h room much in one.2 ∙ ap (λ m. Ok (walked m w)) (append_cancel_left old one.0 first.0 (sym one.1 ∙ first.1));
    }

module _ (ls : Values) (k : Kind) (level p : ℕ) (cs : List Child) (before nodes : List NodeSpec) (i : ℕ) (w : Widths) (so_far : IsSoFar ls k level p cs before nodes i w) (c : Child) (here : slice_get cs i ≡ Some c) (q : Place) (o : ℕ) where
  as_named : (b : Bool) → IsNext k c w (length nodes) q o b → is_named c (length nodes) (child_place k level p c w.bits).offset ≡ b
  as_named b next = ap (is_named c (length nodes)) (sym (next.offset ∙ ap (λ r. if is_inline r then w.bits else 0) next.place)) ∙ next.test

  -- a child under another number or at another offset
  pub stops_unnamed : IsNext k c w (length nodes) q o false → (room : ℕ) → 4096 ≤ room + length before → IsAtFault (fault.Shape (pos (length nodes))) (walk_children (walk_part ls room) k level p cs (length before) 0)
  stops_unnamed next room much = child_unnamed ls k level p cs before nodes i w so_far c here (as_named false next) room much

  module _ (next : IsNext k c w (length nodes) q o true) (d : ℕ) (lower : d ≡ deeper q) (z : ℤ) (field : z ≡ c.field) where
    abbrev at : At
    at = record { place = q; level = level + d; parent = p; field = z; offset = o }

    stands : at ≡ child_place k level p c w.bits
    stands = entered_there k level p c w (length nodes) q d o z true next lower field

    -- a child with a fault
    pub stops_faulty : (f : SchemaFault) (new : List NodeSpec) → ((room : ℕ) → 4096 ≤ room + length nodes → Walks nodes new (Err f) (walk_part ls room at (length nodes)))
        → (room : ℕ) → 4096 ≤ room + length before → IsAtFault f (walk_children (walk_part ls room) k level p cs (length before) 0)
    stops_faulty f new h = child_faulty ls k level p cs before nodes i w so_far c here (as_named true next) f
        (λ room much. subst (λ (a : At). IsAtFault f (walk_part ls room a (length nodes))) stands (h room much))

    -- a child that is walked
    pub goes_on : (new : List NodeSpec) (a : Widths) → ((room : ℕ) → 4096 ≤ room + length nodes → Walks nodes new (Ok a) (walk_part ls room at (length nodes)))
        → (v : Widths) → v ≡ with_child w q a → IsSoFar ls k level p cs before new (i + 1) v
    goes_on new a h v is =
        let all = same_nodes nodes new a (length nodes) (λ room. walk_part ls room at (length nodes)) h in
        let more : suc i ≡ i + 1 = omega arith in
        subst (λ j. IsSoFar ls k level p cs before new j v) more
        (child_walked ls k level p cs before nodes i w so_far c here (as_named true next) new all.nodes a all.are
        (λ room much. ap (λ (b : At). walk_part ls room b (length nodes)) (sym stands) ∙ all.is room much) v (is ∙ ap (λ r. with_child w r a) next.place))

pub children_walked : (ls : Values) (k : Kind) (level p : ℕ) (cs : List Child) (before nodes : List NodeSpec) (i : ℕ) (w : Widths) → length cs ≤ i → IsSoFar ls k level p cs before nodes i w
    → (room : ℕ) → 4096 ≤ room + length before → Walks before nodes (Ok w) (walk_children (walk_part ls room) k level p cs (length before) 0)
children_walked ls k level p cs before nodes i w all so_far room much =
    let e : so_far.gone ++ [] ≡ so_far.gone = append-nil so_far.gone in
    let f : w.bits + 0 ≡ w.bits = omega arith in
    let g : w.greatest + 0 ≡ w.greatest = omega arith in (
      so_far.gone,
      so_far.are,
      so_far.rest room much ∙ ap (λ ds. behind so_far.gone w (walk_children (walk_part ls room) k level p ds (length nodes) w.bits)) (drop_all i cs all)
          ∙ ap (λ (m : List NodeSpec). Ok (record { nodes = m; bits = w.bits + 0; greatest = w.greatest + 0 })) e
          ∙ ap (λ (m : ℕ). Ok (record { nodes = so_far.gone; bits = m; greatest = w.greatest + 0 })) f
          ∙ ap (λ (m : ℕ). Ok (record { nodes = so_far.gone; bits = w.bits; greatest = m })) g,
    )
