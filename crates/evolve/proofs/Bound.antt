-- A type binds to a layout exactly where no node of it fails to.
use Rattle.std.proofs.Common.{◌≡◌, ℤ, pos, Bool, true, false, refl, ap, nat_abs, Option, Some, None}
use Rattle.idl_profile.specs.declared.kinds.Need.{Need}
use Rattle.idl_profile.specs.declared.kinds.Need.TheVariants.{Plain, Required, Optional}
use Rattle.idl_profile.specs.Types.{TypeTree, scalar, text, bytes, list_of, set_of, map_of, named, Named}
use Rattle.idl_profile.specs.Types.{enum_of, struct_of, Fields, no_fields, field}
use Rattle.frozen_model.specs.Trees as tree
use Rattle.frozen_model.specs.Trees.{Text, Binary, AList, ASet, AMap, Tree, Trees, Leaf, ByteRange, ItemRange}
use Rattle.frozen_model.specs.Trees.{Struct, NoField, Field}
use Rattle.bit_view.specs.Branches.{field_tree}
use Rattle.evolve.specs.Binding.{BindsField, BindsPair, Binds, BindsNamed, BindFields, Unbound, type_changed}
use Rattle.evolve.specs.Binding.{required_absent, under, or_later, unless, field_fault, pair_fault}
use Rattle.evolve.specs.Binding.{type_fault, named_fault, fields_fault}

-- ---- faults, one after another

neither : (x y : Option Unbound) → x ≡ None → y ≡ None → or_later x y ≡ None
neither None y e f = f
neither (Some u) y e f = absurd cc

none_of_both : (x y : Option Unbound) → or_later x y ≡ None → (x ≡ None) × (y ≡ None)
none_of_both None y e = (refl, e)
none_of_both (Some u) y e = absurd cc

none_under : (id : ℤ) (x : Option Unbound) → under id x ≡ None → x ≡ None
none_under id None e = refl
none_under id (Some (type_changed ids)) e = absurd cc
none_under id (Some (required_absent ids)) e = absurd cc

none_unless : (b : Bool) → unless b ≡ None → b ≡ true
none_unless true e = refl
none_unless false e = absurd cc

-- ---- what binds has no fault

pair_clear : {A B : Type 0} (first second : Tree A B → Type 0) (f g : Tree A B → Option Unbound)
    (l : Tree A B)
    → ((k : Tree A B) → first k → f k ≡ None) → ((v : Tree A B) → second v → g v ≡ None)
    → BindsPair first second l
    → pair_fault f g l ≡ None
pair_clear first second f g (Struct (Field i k (Field j v NoField))) p q h =
    neither (under (pos 1) (f k)) (under (pos 2) (g v)) (ap (under (pos 1)) (p k h.0)) (ap (under (pos 2)) (q v h.1))
pair_clear first second f g l p q h = absurd h

field_clear : {A B : Type 0} (n : Need) (binds : Tree A B → Type 0) (f : Tree A B → Option Unbound)
    (o : Option (Tree A B)) → ((l : Tree A B) → binds l → f l ≡ None) → BindsField n binds o
    → field_fault n f o ≡ None
field_clear Required binds f None p h = absurd h
field_clear Plain binds f None p h = refl
field_clear Optional binds f None p h = refl
field_clear Plain binds f (Some l) p h = p l h
field_clear Required binds f (Some l) p h = p l h
field_clear Optional binds f (Some (tree.Optional w l)) p h = ap (under (pos 2)) (p l h)
field_clear Optional binds f (Some l) p h = absurd h

mutual
  pub clear : {A B : Type 0} (r : Bool) (t : TypeTree) (l : Tree A B) → Binds r t l → type_fault r t l ≡ None
  clear r (scalar s) (Leaf k a) h = ap unless h
  clear r text (ByteRange Text d c) h = refl
  clear r bytes (ByteRange Binary d c) h = refl
  clear r (list_of x) (ItemRange AList d c l) h = ap (under (pos 3)) (clear r x l h)
  clear r (set_of x) (ItemRange ASet d c l) h = ap (under (pos 3)) (clear r x l h)
  clear {A} {B} r (map_of x y) (ItemRange AMap d c l) h =
      ap (under (pos 3)) (pair_clear (λ (k : Tree A B). Binds r x k) (λ (v : Tree A B). Binds r y v)
      (λ (k : Tree A B). type_fault r x k) (λ (v : Tree A B). type_fault r y v) l
      (λ k. clear r x k) (λ v. clear r y v) h)
  clear r (named n) l h = named_clear r n l h
  clear r t l h = absurd h

  named_clear : {A B : Type 0} (r : Bool) (n : Named) (l : Tree A B) → BindsNamed r n l
      → named_fault r n l ≡ None
  named_clear r (enum_of w ms) (Leaf k a) h = ap unless h
  named_clear r (struct_of w fs) (Struct ls) h = fields_clear r fs ls h
  named_clear r n l h = absurd h

  fields_clear : {A B : Type 0} (r : Bool) (fs : Fields) (ls : Trees A B) → BindFields r fs ls
      → fields_fault r fs ls ≡ None
  fields_clear r no_fields ls h = refl
  fields_clear {A} {B} r (field i w n t d fs) ls h =
      neither (under i
      (field_fault n (λ (l : Tree A B). type_fault r t l) (field_tree ls (nat_abs i))))
      (fields_fault r fs ls)
      (ap (under i) (field_clear n (λ (l : Tree A B). Binds r t l)
      (λ (l : Tree A B). type_fault r t l)
      (field_tree ls (nat_abs i)) (λ l. clear r t l) h.0))
      (fields_clear r fs ls h.1)

-- ---- what has no fault binds

pair_binds : {A B : Type 0} (first second : Tree A B → Type 0) (f g : Tree A B → Option Unbound)
    (l : Tree A B)
    → ((k : Tree A B) → f k ≡ None → first k) → ((v : Tree A B) → g v ≡ None → second v)
    → pair_fault f g l ≡ None
    → BindsPair first second l
pair_binds first second f g (Struct (Field i k (Field j v NoField))) p q e =
    let both = none_of_both (under (pos 1) (f k)) (under (pos 2) (g v)) e in
    (p k (none_under (pos 1) (f k) both.0), q v (none_under (pos 2) (g v) both.1))
pair_binds first second f g l p q e = absurd cc

field_binds : {A B : Type 0} (n : Need) (binds : Tree A B → Type 0) (f : Tree A B → Option Unbound)
    (o : Option (Tree A B)) → ((l : Tree A B) → f l ≡ None → binds l) → field_fault n f o ≡ None
    → BindsField n binds o
field_binds Required binds f None p e = absurd cc
field_binds Plain binds f None p e = tt
field_binds Optional binds f None p e = tt
field_binds Plain binds f (Some l) p e = p l e
field_binds Required binds f (Some l) p e = p l e
field_binds Optional binds f (Some (tree.Optional w l)) p e = p l (none_under (pos 2) (f l) e)
field_binds Optional binds f (Some l) p e = absurd cc

mutual
  pub binding : {A B : Type 0} (r : Bool) (t : TypeTree) (l : Tree A B) → type_fault r t l ≡ None
      → Binds r t l
  binding r (scalar s) (Leaf k a) e = none_unless _ e
  binding r text (ByteRange Text d c) e = tt
  binding r bytes (ByteRange Binary d c) e = tt
  binding r (list_of x) (ItemRange AList d c l) e = binding r x l (none_under (pos 3) (type_fault r x l) e)
  binding r (set_of x) (ItemRange ASet d c l) e = binding r x l (none_under (pos 3) (type_fault r x l) e)
  binding {A} {B} r (map_of x y) (ItemRange AMap d c l) e =
      pair_binds (λ (k : Tree A B). Binds r x k) (λ (v : Tree A B). Binds r y v)
      (λ (k : Tree A B). type_fault r x k) (λ (v : Tree A B). type_fault r y v) l
      (λ k. binding r x k) (λ v. binding r y v) (none_under (pos 3) _ e)
  binding r (named n) l e = named_binding r n l e
  binding r t l e = absurd cc

  named_binding : {A B : Type 0} (r : Bool) (n : Named) (l : Tree A B) → named_fault r n l ≡ None
      → BindsNamed r n l
  named_binding r (enum_of w ms) (Leaf k a) e = none_unless _ e
  named_binding r (struct_of w fs) (Struct ls) e = fields_binding r fs ls e
  named_binding r n l e = absurd cc

  fields_binding : {A B : Type 0} (r : Bool) (fs : Fields) (ls : Trees A B) → fields_fault r fs ls ≡ None
      → BindFields r fs ls
  fields_binding r no_fields ls e = tt
  fields_binding {A} {B} r (field i w n t d fs) ls e =
      let own = field_fault n (λ (l : Tree A B). type_fault r t l) (field_tree ls (nat_abs i)) in
      let both = none_of_both (under i own) (fields_fault r fs ls) e in (
        field_binds n (λ (l : Tree A B). Binds r t l) (λ (l : Tree A B). type_fault r t l)
            (field_tree ls (nat_abs i))
            (λ l. binding r t l) (none_under i own both.0),
        fields_binding r fs ls both.1,
      )
