-- Scopes that grow: what stood keeps its meaning and its size.
use Rattle.std.proofs.Common.{◌≡◌, ℕ, zero, suc, ◌+◌, ◌<◌, ◌≤◌, Bool, true, nat_lt, List, [], ◌∷◌, ◌++◌, map, length, get_or, take, refl, sym, ap, ap₂, ◌∙◌, arith, length-append, append_assoc, append-nil}
use Rattle.std.specs.List.{fold, list_all}
use Rattle.std.proofs.Math.ListN.{get_or-append}
use Rattle.std.proofs.Math.Seq.{take-suc}
use Rattle.std.proofs.lemmas.Bool.{and_parts, and_from}
use Rattle.std.proofs.lemmas.Bool.Decides.{nat_tests}
use Rattle.std.proofs.lemmas.List.{map-append, length-map}
use Rattle.std.proofs.lemmas.List.Folds.{list_all-append}
use Rattle.std.proofs.lemmas.List.Sums.{fold-append}
use Rattle.idl_profile.specs.Meaning as m
use Rattle.idl_profile.proofs.Growing.{grown}
use Rattle.idl_profile.specs.declared.kinds.BaseType.TheVariants.{Flag}
use Rattle.idl_profile.specs.Types.{TypeTree, list_of, set_of, map_of}
use Rattle.idl_profile.specs.Measures.{at, tree, trees, named_tree}
use Rattle.idl_fields.specs.declared.draft.Container.{Container}
use Rattle.idl_fields.specs.declared.draft.WrittenField.{WrittenField}
use Rattle.idl_fields.specs.declared.draft.WrittenType.{WrittenType}
use Rattle.idl_fields.specs.declared.draft.DraftField.{DraftField}
use Rattle.idl_fields.specs.declared.draft.DraftNamed.{DraftNamed}
use Rattle.idl_fields.specs.declared.draft.DraftNamed.TheVariants as n
use Rattle.idl_fields.specs.declared.draft.Entry.{Entry}
use Rattle.idl_fields.specs.declared.draft.TypeNode.{TypeNode}
use Rattle.idl_fields.specs.declared.draft.TypeNode.TheVariants as v
use Rattle.idl_fields.specs.declared.scope.Scope.{Scope}
use Rattle.idl_fields.specs.declared.sizes.Size.{Size}
use Rattle.idl_fields.specs.Nodes.{type_at, node_type, parts_below, named_below, node_stands}
use Rattle.idl_fields.specs.View.{types_in, entry_of, entries_of, entries_in, field_of, fields_of, named_of, nameds_of, named_in, word_type, contained, written_field, written_fields}
use Rattle.idl_fields.specs.Indexed.{IsIndexed}
use Rattle.idl_fields.proofs.NodeLaws.{node-stays}
use Rattle.idl_definitions.specs.Sizes.{size}
use Rattle.idl_definitions.specs.Sized.{names_below, fields_placed, named_placed, type_count, stands, IsSized, Grows}

-- ---- tests that hold of more

pub all-later : {A : Type 0} (p q : A → Bool) (xs : List A) → ((x : A) → p x ≡ true → q x ≡ true) → list_all p xs ≡ true → list_all q xs ≡ true
all-later p q [] f h = refl
all-later p q (x ∷ xs) f h = let a = and_parts (p x) (list_all p xs) h in and_from _ _ (f x a.0) (all-later p q xs f a.1)

pub all-more : {A : Type 0} (p : A → Bool) (xs : List A) (x : A) → list_all p xs ≡ true → p x ≡ true → list_all p (xs ++ x ∷ []) ≡ true
all-more p xs x h e = list_all-append p xs (x ∷ []) ∙ and_from _ _ h (and_from _ _ e refl)

lt-later : (i k l : ℕ) → k ≤ l → nat_lt i k ≡ true → nat_lt i l ≡ true
lt-later i k l le h = grind (arith, nat_tests)

parts-later : (k l : ℕ) (x : TypeNode) → k ≤ l → parts_below k x ≡ true → parts_below l x ≡ true
parts-later k l (v.Base b) le h = refl
parts-later k l (v.Enum i) le h = refl
parts-later k l (v.Struct i) le h = refl
parts-later k l (v.List x) le h = lt-later x k l le h
parts-later k l (v.Set x) le h = lt-later x k l le h
parts-later k l (v.Map x y) le h = let a = and_parts (nat_lt x k) (nat_lt y k) h in and_from _ _ (lt-later x k l le a.0) (lt-later y k l le a.1)

named-later : (k l : ℕ) (x : TypeNode) → k ≤ l → named_below k x ≡ true → named_below l x ≡ true
named-later k l (v.Base b) le h = refl
named-later k l (v.Enum i) le h = lt-later i k l le h
named-later k l (v.Struct i) le h = lt-later i k l le h
named-later k l (v.List x) le h = refl
named-later k l (v.Set x) le h = refl
named-later k l (v.Map x y) le h = refl

pub stands-later : (t u k l : ℕ) (x : TypeNode) → t ≤ u → k ≤ l → node_stands t k x ≡ true → node_stands u l x ≡ true
stands-later t u k l x le me h = let a = and_parts (parts_below t x) (named_below k x) h in and_from _ _ (parts-later t u x le a.0) (named-later k l x me a.1)

below-later : (k l : ℕ) (t : m.Ty) → k ≤ l → names_below k t ≡ true → names_below l t ≡ true
below-later k l (m.scalar b) le h = refl
below-later k l (m.enum i) le h = lt-later i k l le h
below-later k l (m.struct i) le h = lt-later i k l le h
below-later k l (m.list x) le h = below-later k l x le h
below-later k l (m.set x) le h = below-later k l x le h
below-later k l (m.map x y) le h = let a = and_parts (names_below k x) (names_below k y) h in and_from _ _ (below-later k l x le a.0) (below-later k l y le a.1)

fields-later : (k l : ℕ) (fs : List DraftField) → k ≤ l → fields_placed k fs ≡ true → fields_placed l fs ≡ true
fields-later k l fs le h = all-later (λ f. parts_below k f.ty) (λ f. parts_below l f.ty) fs (λ f e. parts-later k l f.ty le e) h

placed-later : (k l : ℕ) (x : DraftNamed) → k ≤ l → named_placed k x ≡ true → named_placed l x ≡ true
placed-later k l (n.Enum w ms) le h = refl
placed-later k l (n.Struct w fs) le h = fields-later k l fs.items le h

-- ---- what stands keeps its meaning

entries-stay : (text : List ℕ) (ts more : List m.Ty) (k : ℕ) (es : List Entry) → list_all (λ e. node_stands (length ts) k e.ty) es ≡ true → entries_of text (ts ++ more) es ≡ entries_of text ts es
entries-stay text ts more k [] h = refl
entries-stay text ts more k (e ∷ es) h =
    let a = and_parts (node_stands (length ts) k e.ty) (list_all (λ x. node_stands (length ts) k x.ty) es) h in
    let b = and_parts (parts_below (length ts) e.ty) (named_below k e.ty) a.0 in
    let one : entry_of text (ts ++ more) e ≡ entry_of text ts e = rw (node-stays ts more e.ty b.0) refl in
    ap₂ (λ (x : m.Entry) (xs : List m.Entry). x ∷ xs) one (entries-stay text ts more k es a.1)

pub fields-stay : (text : List ℕ) (ts more : List m.Ty) (fs : List DraftField) → fields_placed (length ts) fs ≡ true → fields_of text (ts ++ more) fs ≡ fields_of text ts fs
fields-stay text ts more [] h = refl
fields-stay text ts more (f ∷ fs) h =
    let a = and_parts (parts_below (length ts) f.ty) (fields_placed (length ts) fs) h in
    let one : field_of text (ts ++ more) f ≡ field_of text ts f = rw (node-stays ts more f.ty a.0) refl in
    ap₂ (λ (x : m.MeantField) (xs : List m.MeantField). x ∷ xs) one (fields-stay text ts more fs a.1)

one-stays : (text : List ℕ) (ts more : List m.Ty) (x : DraftNamed) → named_placed (length ts) x ≡ true → named_of text (ts ++ more) x ≡ named_of text ts x
one-stays text ts more (n.Enum w ms) h = refl
one-stays text ts more (n.Struct w fs) h = rw (fields-stay text ts more fs.items h) refl

nameds-stay : (text : List ℕ) (ts more : List m.Ty) (ns : List DraftNamed) → list_all (named_placed (length ts)) ns ≡ true → nameds_of text (ts ++ more) ns ≡ nameds_of text ts ns
nameds-stay text ts more [] h = refl
nameds-stay text ts more (x ∷ ns) h =
    let a = and_parts (named_placed (length ts) x) (list_all (named_placed (length ts)) ns) h in
    ap₂ (λ (y : m.MeantNamed) (ys : List m.MeantNamed). y ∷ ys) (one-stays text ts more x a.0) (nameds-stay text ts more ns a.1)

-- ---- the sizes of types stay where enums and structs are added

pub at-front : (ts us : List TypeTree) (i : ℕ) → i < length ts → at (ts ++ us) i ≡ at ts i
at-front [] us i h = absurd (omega arith)
at-front (t ∷ ts) us zero h = refl
at-front (t ∷ ts) us (suc i) h = at-front ts us i (omega arith)

lt-true : (i k : ℕ) → nat_lt i k ≡ true → i < k
lt-true i k e = grind (arith, nat_tests)

tree-stays : (ts us : List TypeTree) (t : m.Ty) → names_below (length ts) t ≡ true → tree (ts ++ us) t ≡ tree ts t
tree-stays ts us (m.scalar b) h = refl
tree-stays ts us (m.enum i) h = at-front ts us i (lt-true i (length ts) h)
tree-stays ts us (m.struct i) h = at-front ts us i (lt-true i (length ts) h)
tree-stays ts us (m.list x) h = ap list_of (tree-stays ts us x h)
tree-stays ts us (m.set x) h = ap set_of (tree-stays ts us x h)
tree-stays ts us (m.map x y) h =
    let a = and_parts (names_below (length ts) x) (names_below (length ts) y) h in
    ap₂ map_of (tree-stays ts us x a.0) (tree-stays ts us y a.1)

sizes-stay : (ts us : List TypeTree) (xs : List m.Ty) → list_all (names_below (length ts)) xs ≡ true → map (λ t. size (tree (ts ++ us) t)) xs ≡ map (λ t. size (tree ts t)) xs
sizes-stay ts us [] h = refl
sizes-stay ts us (x ∷ xs) h =
    let a = and_parts (names_below (length ts) x) (list_all (names_below (length ts)) xs) h in
    ap₂ (λ (y : Size) (ys : List Size). y ∷ ys) (ap size (tree-stays ts us x a.0)) (sizes-stay ts us xs a.1)

pub length-grown : (ts : List TypeTree) (ns : List m.MeantNamed) → length (grown ts ns) ≡ length ts + length ns
length-grown ts [] = omega arith
length-grown ts (n ∷ ns) = omega (arith, length-grown (ts ++ named_tree ts n ∷ []) ns, length-append ts (named_tree ts n ∷ []))

pub trees-more : (ns : List m.MeantNamed) (n : m.MeantNamed) → trees (ns ++ n ∷ []) ≡ trees ns ++ named_tree (trees ns) n ∷ []
trees-more ns n = fold-append (λ us n. us ++ named_tree us n ∷ []) [] ns (n ∷ [])

-- ---- the enums and structs that nodes name

at-below : (k : ℕ) (ts : List m.Ty) (i : ℕ) → list_all (names_below k) ts ≡ true → names_below k (type_at ts i) ≡ true
at-below k [] i h = refl
at-below k (t ∷ ts) zero h = (and_parts (names_below k t) (list_all (names_below k) ts) h).0
at-below k (t ∷ ts) (suc i) h = at-below k ts i (and_parts (names_below k t) (list_all (names_below k) ts) h).1

node-below : (k : ℕ) (ts : List m.Ty) (x : TypeNode) → list_all (names_below k) ts ≡ true → named_below k x ≡ true → names_below k (node_type ts x) ≡ true
node-below k ts (v.Base b) h e = refl
node-below k ts (v.Enum i) h e = e
node-below k ts (v.Struct i) h e = e
node-below k ts (v.List x) h e = at-below k ts x h
node-below k ts (v.Set x) h e = at-below k ts x h
node-below k ts (v.Map x y) h e = and_from _ _ (at-below k ts x h) (at-below k ts y h)

-- ---- scopes to which types were added

pub grows-none : (s : Scope) → Grows s s
grows-none s = record { more = []; types = sym (append-nil (types_in s.types)); entries = refl; names = refl; named = refl; members = refl }

pub grows-twice : (a b c : Scope) → Grows a b → Grows b c → Grows a c
grows-twice a b c g h = record {
  more = g.more ++ h.more;
  types = h.types ∙ ap (λ (z : List m.Ty). z ++ h.more) g.types ∙ append_assoc (types_in a.types) g.more h.more;
  entries = h.entries ∙ g.entries;
  names = h.names ∙ g.names;
  named = h.named ∙ g.named;
  members = h.members ∙ g.members;
}

pub grows-count : (old new : Scope) → Grows old new → type_count old ≤ type_count new
grows-count old new g = omega (arith, ap (λ (z : List m.Ty). length z) g.types, length-append (types_in old.types) g.more)

pub grows-stands : (old new : Scope) (x : TypeNode) → Grows old new → stands old x ≡ true → stands new x ≡ true
grows-stands old new x g h =
    let k : length old.named.items ≤ length new.named.items = omega (arith, ap (λ z. length z.items) g.named) in
    stands-later (type_count old) (type_count new) (length old.named.items) (length new.named.items) x (grows-count old new g) k h

-- the type at a place stays
pub grows-at : (old new : Scope) (i : ℕ) → Grows old new → i < type_count old → type_at (types_in new.types) i ≡ type_at (types_in old.types) i
grows-at old new i g h = ap (λ (z : List m.Ty). type_at z i) g.types ∙ get_or-append (types_in old.types) g.more (m.scalar Flag) i h

-- a node keeps its meaning
pub grows-node : (old new : Scope) (x : TypeNode) → Grows old new → stands old x ≡ true → node_type (types_in new.types) x ≡ node_type (types_in old.types) x
grows-node old new x g h =
    let a = and_parts (parts_below (type_count old) x) (named_below (length old.named.items) x) h in
    ap (λ (z : List m.Ty). node_type z x) g.types ∙ node-stays (types_in old.types) g.more x a.0

pub grows-fields : (text : List ℕ) (old new : Scope) (fs : List DraftField) → Grows old new → fields_placed (type_count old) fs ≡ true
    → (fields_of text (types_in new.types) fs ≡ fields_of text (types_in old.types) fs) × (fields_placed (type_count new) fs ≡ true)
grows-fields text old new fs g h = (
  ap (λ (z : List m.Ty). fields_of text z fs) g.types ∙ fields-stay text (types_in old.types) g.more fs h,
  fields-later (type_count old) (type_count new) fs (grows-count old new g) h,
)

pub grows-entries : (text : List ℕ) (old new : Scope) → IsSized text old → Grows old new → entries_in text new ≡ entries_in text old
grows-entries text old new s g =
    ap (λ z. entries_of text (types_in new.types) z.items) g.entries ∙ ap (λ (z : List m.Ty). entries_of text z old.entries.items) g.types
    ∙ entries-stay text (types_in old.types) g.more (length old.named.items) old.entries.items s.entries

pub grows-named : (text : List ℕ) (old new : Scope) → IsSized text old → Grows old new → named_in text new ≡ named_in text old
grows-named text old new s g =
    ap (λ z. nameds_of text (types_in new.types) z.items) g.named ∙ ap (λ (z : List m.Ty). nameds_of text z old.named.items) g.types
    ∙ nameds-stay text (types_in old.types) g.more old.named.items s.fields

pub grows-indexed : (text : List ℕ) (old new : Scope) → IsSized text old → Grows old new → IsIndexed text old → IsIndexed text new
grows-indexed text old new s g h = record {
  names = rw (g.names, grows-entries text old new s g) h.names;
  members = rw (g.members, grows-named text old new s g) h.members;
}

-- ---- one more type, name, enum or struct

pub sized-node : (text : List ℕ) (old new : Scope) (x : TypeNode) (z : Size) → IsSized text old → stands old x ≡ true → Grows old new → types_in new.types ≡ types_in old.types ++ node_type (types_in old.types) x ∷ []
    → new.sizes ≡ old.sizes → new.type_sizes.items ≡ old.type_sizes.items ++ z ∷ [] → z ≡ size (tree (trees (named_in text old)) (node_type (types_in old.types) x)) → IsSized text new
sized-node text old new x z s st g types sizes pushed is =
    let k : length new.named.items ≡ length old.named.items = ap (λ w. length w.items) g.named in
    let ts = types_in old.types in
    let t = node_type ts x in
    let a = and_parts (parts_below (type_count old) x) (named_below (length old.named.items) x) st in
    let same = grows-named text old new s g in
    record {
      sizes = ap (λ w. w.items) sizes ∙ s.sizes ∙ ap (λ (ns : List m.MeantNamed). map size (trees ns)) (sym same);
      type_sizes =
          pushed ∙ ap₂ (λ (ws : List Size) (w : Size). ws ++ w ∷ []) s.type_sizes is ∙ sym (map-append (λ u. size (tree (trees (named_in text old)) u)) ts (t ∷ []))
          ∙ ap₂ (λ (ns : List m.MeantNamed) (us : List m.Ty). map (λ u. size (tree (trees ns) u)) us) (sym same) (sym types);
      below = ap₂ (λ (j : ℕ) (us : List m.Ty). list_all (names_below j) us) k types ∙ all-more (names_below (length old.named.items)) ts t s.below (node-below (length old.named.items) ts x s.below a.1);
      entries = ap (λ w. list_all (λ e. stands new e.ty) w.items) g.entries
          ∙ all-later (λ e. stands old e.ty) (λ e. stands new e.ty) old.entries.items (λ e h. grows-stands old new e.ty g h) s.entries;
      fields = ap (λ w. list_all (named_placed (type_count new)) w.items) g.named
          ∙ all-later (named_placed (type_count old)) (named_placed (type_count new)) old.named.items (λ e h. placed-later (type_count old) (type_count new) e (grows-count old new g) h) s.fields;
    }

pub sized-entry : (text : List ℕ) (old new : Scope) (e : Entry) → IsSized text old → stands old e.ty ≡ true → new.types ≡ old.types → new.named ≡ old.named → new.sizes ≡ old.sizes → new.type_sizes ≡ old.type_sizes
    → new.entries.items ≡ old.entries.items ++ e ∷ [] → IsSized text new
sized-entry text old new e s st types named sizes type_sizes pushed =
    let same : named_in text new ≡ named_in text old = rw (types, named) refl in
    record {
      sizes = ap (λ w. w.items) sizes ∙ s.sizes ∙ ap (λ (ns : List m.MeantNamed). map size (trees ns)) (sym same);
      type_sizes = ap (λ w. w.items) type_sizes ∙ s.type_sizes
          ∙ ap₂ (λ (ns : List m.MeantNamed) w. map (λ u. size (tree (trees ns) u)) (types_in w)) (sym same) (sym types);
      below = rw (types, named) s.below;
      entries = rw (pushed, types, named) (all-more (λ x. stands old x.ty) old.entries.items e s.entries st);
      fields = rw (types, named) s.fields;
    }

pub sized-named : (text : List ℕ) (old new : Scope) (x : DraftNamed) (z : Size) → IsSized text old → named_placed (type_count old) x ≡ true → new.types ≡ old.types → new.entries ≡ old.entries → new.type_sizes ≡ old.type_sizes
    → new.named.items ≡ old.named.items ++ x ∷ [] → new.sizes.items ≡ old.sizes.items ++ z ∷ [] → z ≡ size (named_tree (trees (named_in text old)) (named_of text (types_in old.types) x)) → IsSized text new
sized-named text old new x z s placed types entries type_sizes pushed sizes is =
    let ns = named_in text old in
    let one = named_of text (types_in old.types) x in
    let more : named_in text new ≡ ns ++ one ∷ [] =
    ap₂ (λ w (xs : List DraftNamed). nameds_of text (types_in w) xs) types pushed ∙ map-append (named_of text (types_in old.types)) old.named.items (x ∷ [])
    in
    let grown-trees : trees (named_in text new) ≡ trees ns ++ named_tree (trees ns) one ∷ [] = ap trees more ∙ trees-more ns one in
    let k : length (trees ns) ≡ length old.named.items = omega (arith, length-grown [] ns, length-map old.named.items (named_of text (types_in old.types))) in
    let le : length old.named.items ≤ length new.named.items = omega (arith, ap (λ (w : List DraftNamed). length w) pushed, length-append old.named.items (x ∷ [])) in
    record {
      sizes = sizes ∙ ap₂ (λ (ws : List Size) (w : Size). ws ++ w ∷ []) s.sizes is ∙ sym (map-append size (trees ns) (named_tree (trees ns) one ∷ [])) ∙ ap (map size) (sym grown-trees);
      type_sizes = ap (λ w. w.items) type_sizes ∙ s.type_sizes
          ∙ sym (sizes-stay (trees ns) (named_tree (trees ns) one ∷ []) (types_in old.types) (rw k s.below))
          ∙ ap₂ (λ (us : List TypeTree) w. map (λ u. size (tree us u)) (types_in w)) (sym grown-trees) (sym types);
      below = rw types (all-later (names_below (length old.named.items)) (names_below (length new.named.items)) (types_in old.types) (λ t h. below-later (length old.named.items) (length new.named.items) t le h) s.below);
      entries = rw (entries, types) (all-later (λ e. stands old e.ty) (λ e. node_stands (type_count old) (length new.named.items) e.ty) old.entries.items
          (λ e h. stands-later (type_count old) (type_count old) (length old.named.items) (length new.named.items) e.ty (omega arith) le h) s.entries);
      fields = rw (pushed, types) (all-more (named_placed (type_count old)) old.named.items x s.fields placed);
    }

-- ---- loops

pub fold-next : {A B : Type 0} (f : B → A → B) (z : B) (xs ys : List A) (i : ℕ) (d : A) → ys ≡ xs → i < length ys → fold f z (take (i + 1) xs) ≡ f (fold f z (take i xs)) (get_or ys i d)
fold-next f z xs ys i d same h =
    let k : i + 1 ≡ suc i = omega arith in
    let lt : i < length xs = omega (arith, ap length same) in
    ap (λ j. fold f z (take j xs)) k ∙ ap (fold f z) (take-suc xs i d lt) ∙ fold-append f z (take i xs) (get_or xs i d ∷ []) ∙ ap (λ zs. f (fold f z (take i xs)) (get_or zs i d)) (sym same)

-- one more container
pub type-next : (text : List ℕ) (old now new : Scope) (ty : WrittenType) (node x : TypeNode) (cs : List Container) (i : ℕ) (d : Container) → IsSized text old → Grows old now → cs ≡ ty.around.items → i < length cs
    → node_type (types_in now.types) node ≡ fold (contained (entries_in text old)) (word_type (entries_in text old) ty.word) (take i ty.around.items)
    → node_type (types_in new.types) x ≡ contained (entries_in text now) (node_type (types_in now.types) node) (get_or cs i d)
    → node_type (types_in new.types) x ≡ fold (contained (entries_in text old)) (word_type (entries_in text old) ty.word) (take (i + 1) ty.around.items)
type-next text old now new ty node x cs i d s g same lt was more =
    let es = entries_in text old in
    more ∙ ap (λ (z : List m.Entry). contained z (node_type (types_in now.types) node) (get_or cs i d)) (grows-entries text old now s g) ∙ ap (λ (z : m.Ty). contained es z (get_or cs i d)) was
    ∙ sym (fold-next (contained es) (word_type es ty.word) ty.around.items cs i d same lt)

-- one more field
pub fields-next : (text : List ℕ) (old now new : Scope) (fs : List WrittenField) (added after : List DraftField) (x : DraftField) (f : WrittenField) (i : ℕ) → IsSized text old → Grows old now → Grows now new → i < length fs → f ≡ get_or fs i f
    → fields_placed (type_count now) added ≡ true → fields_of text (types_in now.types) added ≡ written_fields text (entries_in text old) (take i fs)
    → field_of text (types_in new.types) x ≡ written_field text (entries_in text now) f → after ≡ added ++ x ∷ []
    → fields_of text (types_in new.types) after ≡ written_fields text (entries_in text old) (take (i + 1) fs)
fields-next text old now new fs added after x f i s g h lt is placed was more pushed =
    let es = entries_in text old in
    let ts = types_in new.types in
    let k : i + 1 ≡ suc i = omega arith in
    ap (fields_of text ts) pushed ∙ map-append (field_of text ts) added (x ∷ [])
    ∙ ap₂ (λ (xs : List m.MeantField) (y : m.MeantField). xs ++ y ∷ []) ((grows-fields text now new added h placed).0 ∙ was)
    (more ∙ ap (λ (z : List m.Entry). written_field text z f) (grows-entries text old now s g) ∙ ap (written_field text es) is)
    ∙ sym (map-append (written_field text es) (take i fs) (get_or fs i f ∷ [])) ∙ ap (written_fields text es) (sym (take-suc fs i f lt)) ∙ ap (λ j. written_fields text es (take j fs)) (sym k)

pub placed-next : (now new : Scope) (added after : List DraftField) (x : DraftField) → Grows now new → fields_placed (type_count now) added ≡ true → parts_below (type_count new) x.ty ≡ true → after ≡ added ++ x ∷ []
    → fields_placed (type_count new) after ≡ true
placed-next now new added after x g placed is pushed =
    ap (fields_placed (type_count new)) pushed ∙ all-more (λ f. parts_below (type_count new) f.ty) added x (fields-later (type_count now) (type_count new) added (grows-count now new g) placed) is
