-- Which layouts a definition binds to, and the first of its nodes that keeps it from binding.
use Rattle.std.specs.Prelude.{◌≡◌, ℤ, pos, List, [], ◌∷◌, Bool, true, false, nat_eq, nat_le, nat_abs, Option, Some}
use Rattle.std.specs.Prelude.{None}
use Rattle.idl_profile.specs.declared.kinds.Need.{Need}
use Rattle.idl_profile.specs.declared.kinds.Need.TheVariants.{Required, Optional}
use Rattle.idl_profile.specs.Types.{TypeTree, scalar, text, bytes, list_of, set_of, map_of, named, Named}
use Rattle.idl_profile.specs.Types.{enum_of, struct_of, Fields, no_fields, field}
use Rattle.frozen_model.specs.Trees as tree
use Rattle.frozen_model.specs.Trees.{LeafKind, Flag, Integer, Whole, I32, Text, Binary, AList, ASet, AMap}
use Rattle.frozen_model.specs.Trees.{Tree, Trees, Leaf, ByteRange, ItemRange, Struct, NoField, Field}
use Rattle.frozen_model.specs.Trees.{value_bits}
use Rattle.frozen_model.specs.Layouts.{Described}
use Rattle.type_kinds.specs.KindsOf.{leaf_kind}
use Rattle.bit_view.specs.Branches.{field_tree}

-- ---- binding

-- whether a scalar of a type may stand for one of a layout: of the same kind, or of a wider whole kind where
-- the layout is relaxed
abbrev pub stands_for : Bool → LeafKind → LeafKind → Bool
stands_for relaxed Flag Flag = true
stands_for true (Integer own) (Integer stored) = nat_le (value_bits stored) (value_bits own)
stands_for false (Integer own) (Integer stored) = nat_eq (value_bits stored) (value_bits own)
stands_for relaxed own stored = false

-- a field binds to the layout's field of its id: an optional one to an optional, another to none; where the
-- layout has no such field, it is not required
abbrev pub BindsField : {A B : Type 0} → Need → (Tree A B → Type 0) → Option (Tree A B) → Type 0
BindsField Required binds None = ⊥
BindsField need binds None = Unit {0}
BindsField Optional binds (Some (tree.Optional w l)) = binds l
BindsField Optional binds (Some l) = ⊥
BindsField need binds (Some l) = binds l

-- the two of a pair bind
abbrev pub BindsPair : {A B : Type 0} → (Tree A B → Type 0) → (Tree A B → Type 0) → Tree A B → Type 0
BindsPair first second (Struct (Field i k (Field j v NoField))) = first k × second v
BindsPair first second l = ⊥

-- A type binds to a layout of the same kind whose parts its own bind to; names play no part, and fields that
-- the type lacks are passed over.
abbrev mutual
  pub Binds : {A B : Type 0} → Bool → TypeTree → Tree A B → Type 0
  Binds relaxed (scalar s) (Leaf k a) = stands_for relaxed (leaf_kind s) k ≡ true
  Binds relaxed text (ByteRange Text d c) = Unit {0}
  Binds relaxed bytes (ByteRange Binary d c) = Unit {0}
  Binds relaxed (list_of x) (ItemRange AList d c l) = Binds relaxed x l
  Binds relaxed (set_of x) (ItemRange ASet d c l) = Binds relaxed x l
  Binds relaxed (map_of x y) (ItemRange AMap d c l) =
      BindsPair (λ k. Binds relaxed x k) (λ v. Binds relaxed y v) l
  Binds relaxed (named n) l = BindsNamed relaxed n l
  Binds relaxed t l = ⊥

  pub BindsNamed : {A B : Type 0} → Bool → Named → Tree A B → Type 0
  BindsNamed relaxed (enum_of w ms) (Leaf k a) = stands_for relaxed (Integer I32) k ≡ true
  BindsNamed relaxed (struct_of w fs) (Struct ls) = BindFields relaxed fs ls
  BindsNamed relaxed n l = ⊥

  pub BindFields : {A B : Type 0} → Bool → Fields → Trees A B → Type 0
  BindFields relaxed no_fields ls = Unit {0}
  BindFields relaxed (field i w n t d fs) ls =
      BindsField n (λ l. Binds relaxed t l) (field_tree ls (nat_abs i)) × BindFields relaxed fs ls

-- a definition with this root binds to the layout
abbrev pub Compatible : Described → TypeTree → Type 0
Compatible d root = Binds d.relaxed root d.tree

-- ---- the first node that does not bind

-- why a node of a type does not bind, with the ids of the fields on the way to it: 3 to an item, 1 and 2 to
-- the two of a pair, 2 to the value of an optional
pub data Unbound : Type 0 where
  -- its kind is another
  type_changed : List ℤ → Unbound
  -- it is a required field that the layout's struct lacks
  required_absent : List ℤ → Unbound

-- the same, seen from one field above
abbrev pub under : ℤ → Option Unbound → Option Unbound
under id None = None
under id (Some (type_changed ids)) = Some (type_changed (id ∷ ids))
under id (Some (required_absent ids)) = Some (required_absent (id ∷ ids))

-- the first of two
abbrev pub or_later : Option Unbound → Option Unbound → Option Unbound
or_later None later = later
or_later (Some u) later = Some u

-- none where it may stand there, else this node
abbrev pub unless : Bool → Option Unbound
unless true = None
unless false = Some (type_changed [])

abbrev pub field_fault : {A B : Type 0} → Need → (Tree A B → Option Unbound) → Option (Tree A B)
    → Option Unbound
field_fault Required fault None = Some (required_absent [])
field_fault need fault None = None
field_fault Optional fault (Some (tree.Optional w l)) = under (pos 2) (fault l)
field_fault Optional fault (Some l) = Some (type_changed [])
field_fault need fault (Some l) = fault l

abbrev pub pair_fault : {A B : Type 0} → (Tree A B → Option Unbound) → (Tree A B → Option Unbound) → Tree A B
    → Option Unbound
pair_fault first second (Struct (Field i k (Field j v NoField))) =
    or_later (under (pos 1) (first k)) (under (pos 2) (second v))
pair_fault first second l = Some (type_changed [])

-- the first node of the type, in preorder, that does not bind
abbrev mutual
  pub type_fault : {A B : Type 0} → Bool → TypeTree → Tree A B → Option Unbound
  type_fault relaxed (scalar s) (Leaf k a) = unless (stands_for relaxed (leaf_kind s) k)
  type_fault relaxed text (ByteRange Text d c) = None
  type_fault relaxed bytes (ByteRange Binary d c) = None
  type_fault relaxed (list_of x) (ItemRange AList d c l) = under (pos 3) (type_fault relaxed x l)
  type_fault relaxed (set_of x) (ItemRange ASet d c l) = under (pos 3) (type_fault relaxed x l)
  type_fault relaxed (map_of x y) (ItemRange AMap d c l) =
      under (pos 3) (pair_fault (λ k. type_fault relaxed x k) (λ v. type_fault relaxed y v) l)
  type_fault relaxed (named n) l = named_fault relaxed n l
  type_fault relaxed t l = Some (type_changed [])

  pub named_fault : {A B : Type 0} → Bool → Named → Tree A B → Option Unbound
  named_fault relaxed (enum_of w ms) (Leaf k a) = unless (stands_for relaxed (Integer I32) k)
  named_fault relaxed (struct_of w fs) (Struct ls) = fields_fault relaxed fs ls
  named_fault relaxed n l = Some (type_changed [])

  pub fields_fault : {A B : Type 0} → Bool → Fields → Trees A B → Option Unbound
  fields_fault relaxed no_fields ls = None
  fields_fault relaxed (field i w n t d fs) ls =
      or_later (under i (field_fault n (λ l. type_fault relaxed t l) (field_tree ls (nat_abs i))))
      (fields_fault relaxed fs ls)

-- the first node of a definition with this root that does not bind to the layout
abbrev pub bind_fault : Described → TypeTree → Option Unbound
bind_fault d root = type_fault d.relaxed root d.tree
