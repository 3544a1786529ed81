-- What a type that may have a written default makes of it.
use Rattle.std.proofs.Common.{◌≡◌, ℕ, ◌+◌, List, Bool, length, refl, sym, subst}
use Rattle.std.specs.Prelude.{ℤ}
use Rattle.idl_profile.specs.Types.{TypeTree, scalar, text, bytes, list_of, set_of, map_of, named, enum_of, struct_of, kind_of, flag, i8, i16, i32, i64, Default, flag_default, int_default, text_default}
use Rattle.idl_profile.specs.declared.kinds.TypeKind.TheVariants as kinds
use Rattle.frozen_model.specs.Values.{Truth, Number, One, Bytes, cells}
use Rattle.type_kinds.specs.Accepted.{IsWritten}
use Rattle.type_kinds.specs.Defaults.{default_of, written}
use Rattle.type_kinds.specs.KindsOf.{kinds_of}
use Rattle.type_kinds.specs.Laws.{Any}
use Rattle.typed_tree.specs.declared.builder.Builder.{Builder}
use Rattle.typed_tree.specs.declared.tree.TreeKind.{TreeKind}
use Rattle.typed_tree.specs.declared.tree.TreeKind.TheVariants as k
use Rattle.typed_tree.specs.Filled.{made_as}
use Rattle.typed_tree.specs.Sizes.{used_by}
use Rattle.typed_tree.specs.Trees.{Pushes}

-- ---- a flag is written on a flag, a number on a number or an enum, a text on a text or a binary

pub flag-kind : (t : TypeTree) (b : Bool) → IsWritten Any t (flag_default b) → made_as (kind_of t) ≡ k.Flag
flag-kind (scalar flag) b h = refl
flag-kind (scalar i8) b h = absurd h
flag-kind (scalar i16) b h = absurd h
flag-kind (scalar i32) b h = absurd h
flag-kind (scalar i64) b h = absurd h
flag-kind text b h = absurd h
flag-kind bytes b h = absurd h
flag-kind (list_of x) b h = absurd h
flag-kind (set_of x) b h = absurd h
flag-kind (map_of x y) b h = absurd h
flag-kind (named (enum_of w ms)) b h = absurd h
flag-kind (named (struct_of w fs)) b h = absurd h

pub int-kind : (t : TypeTree) (z : ℤ) → IsWritten Any t (int_default z) → made_as (kind_of t) ≡ k.Int
int-kind (scalar flag) z h = absurd h
int-kind (scalar i8) z h = refl
int-kind (scalar i16) z h = refl
int-kind (scalar i32) z h = refl
int-kind (scalar i64) z h = refl
int-kind text z h = absurd h
int-kind bytes z h = absurd h
int-kind (list_of x) z h = absurd h
int-kind (set_of x) z h = absurd h
int-kind (map_of x y) z h = absurd h
int-kind (named (enum_of w ms)) z h = refl
int-kind (named (struct_of w fs)) z h = absurd h

pub binary-kind : (t : TypeTree) (x : List ℕ) → (kind_of t ≡ kinds.Text → ⊥) → IsWritten Any t (text_default x) → made_as (kind_of t) ≡ k.Bytes
binary-kind (scalar s) x n h = absurd h
binary-kind text x n h = absurd (n refl)
binary-kind bytes x n h = refl
binary-kind (list_of y) x n h = absurd h
binary-kind (set_of y) x n h = absurd h
binary-kind (map_of y z) x n h = absurd h
binary-kind (named (enum_of w ms)) x n h = absurd h
binary-kind (named (struct_of w fs)) x n h = absurd h

-- ---- their cells

pub flag-cells : (t : TypeTree) (b : Bool) → IsWritten Any t (flag_default b) → cells (kinds_of t) (One (Truth b)) ≡ 1
flag-cells (scalar flag) b h = refl
flag-cells (scalar i8) b h = absurd h
flag-cells (scalar i16) b h = absurd h
flag-cells (scalar i32) b h = absurd h
flag-cells (scalar i64) b h = absurd h
flag-cells text b h = absurd h
flag-cells bytes b h = absurd h
flag-cells (list_of x) b h = absurd h
flag-cells (set_of x) b h = absurd h
flag-cells (map_of x y) b h = absurd h
flag-cells (named (enum_of w ms)) b h = absurd h
flag-cells (named (struct_of w fs)) b h = absurd h

pub int-cells : (t : TypeTree) (z : ℤ) → IsWritten Any t (int_default z) → cells (kinds_of t) (One (Number z)) ≡ 1
int-cells (scalar flag) z h = absurd h
int-cells (scalar i8) z h = refl
int-cells (scalar i16) z h = refl
int-cells (scalar i32) z h = refl
int-cells (scalar i64) z h = refl
int-cells text z h = absurd h
int-cells bytes z h = absurd h
int-cells (list_of x) z h = absurd h
int-cells (set_of x) z h = absurd h
int-cells (map_of x y) z h = absurd h
int-cells (named (enum_of w ms)) z h = refl
int-cells (named (struct_of w fs)) z h = absurd h

pub text-cells : (t : TypeTree) (x : List ℕ) → IsWritten Any t (text_default x) → cells (kinds_of t) (Bytes x) ≡ 2 + length x
text-cells (scalar s) x h = absurd h
text-cells text x h = refl
text-cells bytes x h = refl
text-cells (list_of y) x h = absurd h
text-cells (set_of y) x h = absurd h
text-cells (map_of y z) x h = absurd h
text-cells (named (enum_of w ms)) x h = absurd h
text-cells (named (struct_of w fs)) x h = absurd h

-- a written default that was put as of this kind was put as of its type's
pub written-pushed : (a b : Builder) (t : TypeTree) (w d : Default) (m : TreeKind) → w ≡ d → made_as (kind_of t) ≡ m → Pushes a b (written w (default_of t)) m (used_by (written w (default_of t)))
    → Pushes a b (written d (default_of t)) (made_as (kind_of t)) (used_by (written d (default_of t)))
written-pushed a b t w d m e f p =
    subst (λ z. Pushes a b (written z (default_of t)) (made_as (kind_of t)) (used_by (written z (default_of t)))) e
    (subst (λ j. Pushes a b (written w (default_of t)) j (used_by (written w (default_of t)))) (sym f) p)
