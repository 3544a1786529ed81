-- What is so of each type of an accepted definition.
use Rattle.std.specs.Prelude.{ℕ, ◌<◌, ◌≤◌, ℤ, List, length}
use Rattle.std.specs.List.{AllByRecursion}
use Rattle.std.specs.Str.{IsUtf8}
use Rattle.idl_profile.specs.Types.{TypeTree, scalar, text, bytes, list_of, set_of, map_of, named, Named, enum_of, struct_of, Fields, no_fields, field, Scalar, flag, i8, i16, i32, i64, Default, without, flag_default, int_default, text_default, empty_default}
use Rattle.idl_profile.specs.Measures.{depth, nodes, all_bits, widest}
use Rattle.frozen_model.specs.Trees.{Rising}
use Rattle.frozen_model.specs.Values.{InBits}
use Rattle.type_kinds.specs.Defaults.{ids_of_fields}

-- a number in the range of a whole type
abbrev pub FitsBase : Scalar → ℤ → Type 0
FitsBase flag z = ⊥
FitsBase i8 z = InBits 7 z
FitsBase i16 z = InBits 15 z
FitsBase i32 z = InBits 31 z
FitsBase i64 z = InBits 63 z

abbrev pub IsFlag : Scalar → Type 0
IsFlag flag = Unit {0}
IsFlag _ = ⊥

-- the default may be written on a field of the type, where each literal is one of which P holds
abbrev pub IsWritten : (List ℕ → Type 0) → TypeTree → Default → Type 0
IsWritten P t without = Unit {0}
IsWritten P (scalar s) (flag_default b) = IsFlag s
IsWritten P (scalar s) (int_default z) = FitsBase s z
IsWritten P text (text_default x) = P x
IsWritten P bytes (text_default x) = P x
IsWritten P (named (enum_of w ms)) (int_default z) = InBits 31 z
IsWritten P (list_of x) empty_default = Unit {0}
IsWritten P (set_of x) empty_default = Unit {0}
IsWritten P (map_of x y) empty_default = Unit {0}
IsWritten P (named (struct_of w fs)) empty_default = Unit {0}
IsWritten P _ _ = ⊥

-- a literal that may be a text: UTF-8, of fewer than 2 ^ 31 bytes
pub record IsTextDefault (x : List ℕ) : Type 0 where
  pub utf8 : IsUtf8 x
  pub bytes : AllByRecursion (λ b. b < 256) x
  pub short : length x < 2147483648

-- keys are of these types
abbrev pub IsKeyType : TypeTree → Type 0
IsKeyType (scalar s) = Unit {0}
IsKeyType text = Unit {0}
IsKeyType bytes = Unit {0}
IsKeyType (named (enum_of w ms)) = Unit {0}
IsKeyType _ = ⊥

-- Keys are of key types; the ids of each struct rise from 1 to 32767 at most, its greatest inline bits are at most
-- 32767, and each written default is one that the type may have.
abbrev mutual
  pub IsAccepted : (List ℕ → Type 0) → TypeTree → Type 0
  IsAccepted P (scalar s) = Unit {0}
  IsAccepted P text = Unit {0}
  IsAccepted P bytes = Unit {0}
  IsAccepted P (list_of x) = IsAccepted P x
  IsAccepted P (set_of x) = IsKeyType x × IsAccepted P x
  IsAccepted P (map_of x y) = IsKeyType x × IsAccepted P x × IsAccepted P y
  IsAccepted P (named n) = IsAcceptedNamed P n

  pub IsAcceptedNamed : (List ℕ → Type 0) → Named → Type 0
  IsAcceptedNamed P (enum_of w ms) = Unit {0}
  IsAcceptedNamed P (struct_of w fs) = Rising 0 (ids_of_fields fs) × (all_bits fs ≤ 32767) × AreAccepted P fs

  pub AreAccepted : (List ℕ → Type 0) → Fields → Type 0
  AreAccepted P no_fields = Unit {0}
  AreAccepted P (field i w n t d fs) = IsAccepted P t × IsWritten P t d × AreAccepted P fs

-- each text that is written as a default has fewer than 2 ^ 31 bytes
abbrev pub IsShort : Default → Type 0
IsShort (text_default x) = length x < 2147483648
IsShort _ = Unit {0}

abbrev mutual
  pub HasShortTexts : TypeTree → Type 0
  HasShortTexts (scalar s) = Unit {0}
  HasShortTexts text = Unit {0}
  HasShortTexts bytes = Unit {0}
  HasShortTexts (list_of x) = HasShortTexts x
  HasShortTexts (set_of x) = HasShortTexts x
  HasShortTexts (map_of x y) = HasShortTexts x × HasShortTexts y
  HasShortTexts (named n) = HasShortTextsNamed n

  pub HasShortTextsNamed : Named → Type 0
  HasShortTextsNamed (enum_of w ms) = Unit {0}
  HasShortTextsNamed (struct_of w fs) = HaveShortTexts fs

  pub HaveShortTexts : Fields → Type 0
  HaveShortTexts no_fields = Unit {0}
  HaveShortTexts (field i w n t d fs) = HasShortTexts t × IsShort d × HaveShortTexts fs

-- a type of an accepted definition, within the limits
pub record IsWithin (P : List ℕ → Type 0) (t : TypeTree) : Type 0 where
  pub accepted : IsAccepted P t
  pub shallow : depth t ≤ 32
  pub few : nodes t ≤ 4096
  pub narrow : widest t ≤ 32767
