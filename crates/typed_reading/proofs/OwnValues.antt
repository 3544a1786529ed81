-- What a field has that nobody gave is a value of its type, where each text of that is one of a kind.
use Rattle.std.proofs.Common.{◌≡◌, ℕ, ◌+◌, ◌<◌, List, [], ◌∷◌, length, refl, ap, arith}
use Rattle.std.specs.Prelude.{ℤ, pos, nat_abs, Bool}
use Rattle.std.specs.Str.{IsUtf8}
use Rattle.frozen_model.specs.Trees as tree
use Rattle.frozen_model.specs.Trees.{Struct}
use Rattle.frozen_model.specs.Values.{Truth, Number, One, Of, OfAll, one, items, absent, record_of, none, no_part, part, cells, cells_all}
use Rattle.frozen_model.specs.Values as value
use Rattle.idl_profile.specs.declared.kinds.Need.TheVariants.{Plain, Required, Optional}
use Rattle.idl_profile.specs.Types.{TypeTree, scalar, text, bytes, list_of, set_of, map_of, named, enum_of, struct_of, Fields, no_fields, field, Scalar, flag, i8, i16, i32, i64, Default, without, flag_default, int_default, text_default, empty_default}
use Rattle.type_kinds.specs.KindsOf.{kinds_of, kinds_of_fields}
use Rattle.type_kinds.specs.Defaults.{default_of, defaults_of, written, ids_of_fields}
use Rattle.type_kinds.specs.Accepted.{FitsBase, IsFlag, IsWritten, IsTextDefault, IsAccepted, AreAccepted}
use Rattle.type_kinds.proofs.Forms.{default_is, accepted_short}

-- a text of UTF-8 that is short
pub short_text : (x : List ℕ) → IsUtf8 x → length x < 2147483648 → IsTextDefault x
short_text x u h =
    (accepted_short (named (struct_of [] (field (pos 1) [] Plain text (text_default x) no_fields))) ((omega arith, omega arith, tt), omega arith, (tt, u, tt)) (tt, h, tt)).2.1

pub ids_kept : (fs : Fields) → ids_of_fields fs ≡ tree.ids_of (kinds_of_fields fs)
ids_kept no_fields = refl
ids_kept (field i w Optional t d fs) = ap (λ (is : List ℕ). nat_abs i ∷ is) (ids_kept fs)
ids_kept (field i w Plain t d fs) = ap (λ (is : List ℕ). nat_abs i ∷ is) (ids_kept fs)
ids_kept (field i w Required t d fs) = ap (λ (is : List ℕ). nat_abs i ∷ is) (ids_kept fs)

flag_valued : (s : Scalar) (b : Bool) → IsFlag s → Of (kinds_of (scalar s)) (One (Truth b))
flag_valued flag b h = one tt
flag_valued i8 b h = absurd h
flag_valued i16 b h = absurd h
flag_valued i32 b h = absurd h
flag_valued i64 b h = absurd h

number_valued : (s : Scalar) (z : ℤ) → FitsBase s z → Of (kinds_of (scalar s)) (One (Number z))
number_valued flag z h = absurd h
number_valued i8 z h = one h
number_valued i16 z h = one h
number_valued i32 z h = one h
number_valued i64 z h = one h

-- Where a number of cells is small so are its parts, and a written text of so few cells is short.
module _ (P : List ℕ → Type 0) (Small : ℕ → Type 0) (parts : (a b : ℕ) → Small (a + b) → Small a × Small b) (text_ok : (x : List ℕ) → P x → Small (2 + length x) → IsTextDefault x) where
  written_valued : (t : TypeTree) (d : Default) → IsWritten P t d → (Small (cells (kinds_of t) (default_of t)) → Of (kinds_of t) (default_of t)) → Small (cells (kinds_of t) (written d (default_of t)))
      → Of (kinds_of t) (written d (default_of t))
  written_valued t without h own s = own s
  written_valued t empty_default h own s = own s
  written_valued (scalar k) (flag_default b) h own s = flag_valued k b h
  written_valued (scalar k) (int_default z) h own s = number_valued k z h
  written_valued (scalar k) (text_default x) h own s = absurd h
  written_valued text (text_default x) h own s = let ok = text_ok x h s in value.bytes ok.short ok.bytes ok.utf8
  written_valued text (flag_default b) h own s = absurd h
  written_valued text (int_default z) h own s = absurd h
  written_valued bytes (text_default x) h own s = let ok = text_ok x h s in value.bytes ok.short ok.bytes tt
  written_valued bytes (flag_default b) h own s = absurd h
  written_valued bytes (int_default z) h own s = absurd h
  written_valued (list_of x) (flag_default b) h own s = absurd h
  written_valued (list_of x) (int_default z) h own s = absurd h
  written_valued (list_of x) (text_default z) h own s = absurd h
  written_valued (set_of x) (flag_default b) h own s = absurd h
  written_valued (set_of x) (int_default z) h own s = absurd h
  written_valued (set_of x) (text_default z) h own s = absurd h
  written_valued (map_of x y) (flag_default b) h own s = absurd h
  written_valued (map_of x y) (int_default z) h own s = absurd h
  written_valued (map_of x y) (text_default z) h own s = absurd h
  written_valued (named (enum_of w ms)) (int_default z) h own s = one h
  written_valued (named (enum_of w ms)) (flag_default b) h own s = absurd h
  written_valued (named (enum_of w ms)) (text_default z) h own s = absurd h
  written_valued (named (struct_of w fs)) (flag_default b) h own s = absurd h
  written_valued (named (struct_of w fs)) (int_default z) h own s = absurd h
  written_valued (named (struct_of w fs)) (text_default z) h own s = absurd h

  mutual
    default_valued : (t : TypeTree) → IsAccepted P t → Small (cells (kinds_of t) (default_of t)) → Of (kinds_of t) (default_of t)
    default_valued (scalar k) a s = default_is (scalar k) tt
    default_valued text a s = default_is text tt
    default_valued bytes a s = default_is bytes tt
    default_valued (list_of x) a s = items (omega arith) tt none
    default_valued (set_of x) a s = items (omega arith) tt none
    default_valued (map_of x y) a s = items (omega arith) tt none
    default_valued (named (enum_of w ms)) a s = one (omega arith)
    default_valued (named (struct_of w fs)) a s = record_of (ids_kept fs) (defaults_valued fs a.2 s)

    defaults_valued : (fs : Fields) → AreAccepted P fs → Small (cells_all (kinds_of_fields fs) (defaults_of fs)) → OfAll (kinds_of_fields fs) (defaults_of fs)
    defaults_valued no_fields a s = no_part
    defaults_valued (field i w Optional t d fs) a s =
        part absent (defaults_valued fs a.2 (parts (1 + value.inline_cells (kinds_of t)) (cells_all (kinds_of_fields fs) (defaults_of fs)) s).1)
    defaults_valued (field i w Plain t d fs) a s =
        let p = parts (cells (kinds_of t) (written d (default_of t))) (cells_all (kinds_of_fields fs) (defaults_of fs)) s in
        part (written_valued t d a.1 (λ q. default_valued t a.0 q) p.0) (defaults_valued fs a.2 p.1)
    defaults_valued (field i w Required t d fs) a s =
        let p = parts (cells (kinds_of t) (written d (default_of t))) (cells_all (kinds_of_fields fs) (defaults_of fs)) s in
        part (written_valued t d a.1 (λ q. default_valued t a.0 q) p.0) (defaults_valued fs a.2 p.1)

  -- a field that is not optional
  pub field_valued : (t : TypeTree) (d : Default) → IsAccepted P t → IsWritten P t d → Small (cells (kinds_of t) (written d (default_of t))) → Of (kinds_of t) (written d (default_of t))
  field_valued t d a h s = written_valued t d h (λ q. default_valued t a q) s
