-- A type binds to each layout whose kinds are its own.
use Rattle.std.proofs.Common.{◌≡◌, ℕ, ◌≤◌, Bool, true, false, nat_abs, nat_eq, cond, refl, sym, subst, arith}
use Rattle.std.proofs.Common.{List, Option, Some, eq-eqb}
use Rattle.idl_profile.specs.declared.kinds.Need.TheVariants.{Plain, Required, Optional}
use Rattle.idl_profile.specs.declared.kinds.Need.{Need}
use Rattle.idl_profile.specs.Types.{TypeTree, scalar, text, bytes, list_of, set_of, map_of, named, Named}
use Rattle.idl_profile.specs.Types.{enum_of, struct_of, Fields, no_fields, field}
use Rattle.frozen_model.specs.Trees as tree
use Rattle.frozen_model.specs.Trees.{LeafKind, Flag, Integer, I8, I16, I32, I64, Text, Binary, AMap, AList}
use Rattle.frozen_model.specs.Trees.{ASet, Tree, Trees, Leaf, ByteRange, ItemRange, Struct, NoField, Field}
use Rattle.frozen_model.specs.Trees.{KindTree, KindTrees, Rising, Leafwise, AllLeafwise, leaf, byte_range}
use Rattle.frozen_model.specs.Trees.{item_range, optional, struct, no_field, Alike, kinds}
use Rattle.type_kinds.specs.KindsOf.{leaf_kind, kinds_of, kinds_of_named, kinds_of_fields}
use Rattle.type_kinds.specs.Defaults.{ids_of_fields}
use Rattle.type_kinds.specs.Accepted.{IsAccepted, IsAcceptedNamed, AreAccepted}
use Rattle.frozen_laws.proofs.SameKinds.{kinds_alike}
use Rattle.frozen_laws.proofs.Leafwise.{leafwise_flip}
use Rattle.bit_view.specs.Branches.{field_tree}
use Rattle.evolve.specs.Binding.{stands_for, BindsField, Binds, BindsNamed, BindFields}
use Rattle.evolve.proofs.Itself.{apart}

own_kind : (r : Bool) (k : LeafKind) → stands_for r k k ≡ true
own_kind true Flag = refl
own_kind false Flag = refl
own_kind true (Integer I8) = refl
own_kind true (Integer I16) = refl
own_kind true (Integer I32) = refl
own_kind true (Integer I64) = refl
own_kind false (Integer I8) = refl
own_kind false (Integer I16) = refl
own_kind false (Integer I32) = refl
own_kind false (Integer I64) = refl

-- ---- fields

pub skip : {A B : Type 0} (b : Bool) (l : Tree A B) (o : Option (Tree A B)) → b ≡ false
    → o ≡ cond b (Some l) o
skip false l o e = refl
skip true l o e = absurd cc

pub take_it : {A B : Type 0} (b : Bool) (l : Tree A B) (o : Option (Tree A B)) → b ≡ true
    → Some l ≡ cond b (Some l) o
take_it true l o e = refl
take_it false l o e = absurd cc

-- a field in front, whose id is below all of the type's, changes nothing
past : {A B : Type 0} (r : Bool) (fs : Fields) (j b : ℕ) (l : Tree A B) (ls : Trees A B) → j ≤ b
    → Rising b (ids_of_fields fs) → BindFields r fs ls → BindFields r fs (Field j l ls)
past r no_fields j b l ls le rs h = tt
past {A} {B} r (field i w n t d fs) j b l ls le rs h = (
  subst (λ (o : Option (Tree A B)). BindsField n (λ (m : Tree A B). Binds r t m) o)
      (skip (nat_eq j (nat_abs i)) l (field_tree ls (nat_abs i))
      (apart j (nat_abs i) (omega (arith, le, rs.0)))) h.0,
  past r fs j (nat_abs i) l ls (omega (arith, le, rs.0)) rs.2 h.1,
)

-- the first of the layout's fields is that of the id, and the others bind without it
first_binds : {A B : Type 0} (r : Bool) (n : Need) (t : TypeTree) (fs : Fields) (i : ℕ) (l : Tree A B)
    (ls : Trees A B)
    → Rising i (ids_of_fields fs) → BindsField n (λ (m : Tree A B). Binds r t m) (Some l) → BindFields r fs ls
    → BindsField n (λ (m : Tree A B). Binds r t m) (field_tree (Field i l ls) i) × BindFields r fs
    (Field i l ls)
first_binds {A} {B} r n t fs i l ls rs h hs = (
  subst (λ (o : Option (Tree A B)). BindsField n (λ (m : Tree A B). Binds r t m) o)
      (take_it (nat_eq i i) l (field_tree ls i) (eq-eqb i i refl)) h,
  past r fs i i l ls (omega arith) rs hs,
)

-- ---- types

abbrev AllAlike : {A B C D : Type 0} → Trees A B → Trees C D → Type 0
AllAlike {A} {B} {C} {D} ls ms = AllLeafwise (λ (k : LeafKind) (a : A) (c : C). Unit {0})
    (λ (b : B) (d : D). Unit {0}) (λ (b : B) (d : D). Unit {0}) ls ms

module _ (P : List ℕ → Type 0) where
  mutual
    pub own : {A B : Type 0} (r : Bool) (t : TypeTree) {l : Tree A B} → IsAccepted P t → Alike (kinds_of t) l
        → Binds r t l
    own r (scalar s) a (leaf h) = own_kind r (leaf_kind s)
    own r text a (byte_range h i) = tt
    own r bytes a (byte_range h i) = tt
    own r (list_of x) a (item_range h i u) = own r x a u
    own r (set_of x) a (item_range h i u) = own r x a.1 u
    own r (map_of x y) a (item_range h i (struct (tree.field u (tree.field v no_field)))) =
        (own r x a.1 u, own r y a.2 v)
    own r (named n) a u = own_named r n a u

    own_named : {A B : Type 0} (r : Bool) (n : Named) {l : Tree A B} → IsAcceptedNamed P n
        → Alike (kinds_of_named n) l
        → BindsNamed r n l
    own_named r (enum_of w ms) a (leaf h) = own_kind r (Integer I32)
    own_named r (struct_of w fs) a (struct us) = own_fields r fs 0 a.0 a.2 us

    own_fields : {A B : Type 0} (r : Bool) (fs : Fields) (b : ℕ) {ls : Trees A B}
        → Rising b (ids_of_fields fs)
        → AreAccepted P fs → AllAlike (kinds_of_fields fs) ls → BindFields r fs ls
    own_fields r no_fields b rs a no_field = tt
    own_fields r (field i w Plain t d fs) b rs a (tree.field {m = l} {ms = ls} u us) =
        first_binds r Plain t fs (nat_abs i) l ls rs.2 (own r t a.0 u)
        (own_fields r fs (nat_abs i) rs.2 a.2 us)
    own_fields r (field i w Required t d fs) b rs a (tree.field {m = l} {ms = ls} u us) =
        first_binds r Required t fs (nat_abs i) l ls rs.2 (own r t a.0 u)
        (own_fields r fs (nat_abs i) rs.2 a.2 us)
    own_fields r (field i w Optional t d fs) b rs a
        (tree.field {ms = ls} (optional {w' = z} {m = l} h u) us) =
        first_binds r Optional t fs (nat_abs i) (tree.Optional z l) ls rs.2 (own r t a.0 u)
        (own_fields r fs (nat_abs i) rs.2 a.2 us)

-- a layout whose kinds are those of the type
pub same_kinds : {A B : Type 0} (t : TypeTree) (l : Tree A B) → kinds_of t ≡ kinds l → Alike (kinds_of t) l
same_kinds t l e = subst (λ (k : KindTree). Alike k l) (sym e) (leafwise_flip (kinds_alike l))
