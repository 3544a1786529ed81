-- The kind tree of an accepted type is within the limits, and its default is a value of it.
use Rattle.std.proofs.Common.{◌≡◌, ℕ, ◌≤◌, List, [], ◌∷◌, ℤ, nat_abs, arith, refl, ap, sym, subst, ◌++◌, length, inl, inr, true, ◌<◌}
use Rattle.std.specs.List.{AllByRecursion}
use Rattle.std.specs.Str.{IsUtf8, is_utf8, chars}
use Rattle.std.proofs.lemmas.Str.{IsUtf8-from_is_utf8}
use Rattle.std.proofs.lemmas.Bool.{cond_both, and_parts}
use lib.Utf8.{scalar as is_character, scalars as are_characters, encode, encodes, scalar_cases}
use lib.Dec.{ltb}
use borrow.Author.Tests.{ltb-true}
use Rattle.idl_profile.specs.declared.kinds.Need.TheVariants.{Plain, Required, Optional}
use Rattle.idl_profile.specs.Types.{TypeTree, scalar, text, bytes, list_of, set_of, map_of, named, enum_of, struct_of, Fields, no_fields, field, Scalar, flag, i8, i16, i32, i64, Default, without, flag_default, int_default, text_default, empty_default}
use Rattle.idl_profile.specs.Measures as of_type
use Rattle.frozen_model.specs.Trees as tree
use Rattle.frozen_model.specs.Trees.{Leaf, ByteRange, ItemRange, Struct, NoField, Field, Text, Binary, AList, ASet, AMap, ids_of, IsKey, IsPlain, Rising, IsFormed, AllFormed, nodes, nodes_all, levels, levels_all, greatest_bits, greatest_bits_all, IsNarrow, AllNarrow, IsKindTree}
use Rattle.frozen_model.specs.Values.{Value, One, Bytes, Items, Absent, Of, OfAll, one, items, absent, record_of, none, no_part, part}
use Rattle.frozen_model.specs.Values as value
use Rattle.type_kinds.specs.KindsOf.{leaf_kind, kinds_of, kinds_of_fields}
use Rattle.type_kinds.specs.Defaults.{default_of, defaults_of, written, ids_of_fields}
use Rattle.type_kinds.specs.Accepted.{FitsBase, IsFlag, IsWritten, IsTextDefault, IsKeyType, IsAccepted, AreAccepted, IsWithin, IsShort, HasShortTexts, HaveShortTexts}

-- ---- measures

base_bits_are : (s : Scalar) → tree.greatest (leaf_kind s) ≡ of_type.scalar_bits s
base_bits_are flag = refl
base_bits_are i8 = refl
base_bits_are i16 = refl
base_bits_are i32 = refl
base_bits_are i64 = refl

mutual
  pub nodes_are : (t : TypeTree) → nodes (kinds_of t) ≡ of_type.nodes t
  nodes_are (scalar s) = refl
  nodes_are text = refl
  nodes_are bytes = refl
  nodes_are (list_of x) = omega (arith, nodes_are x)
  nodes_are (set_of x) = omega (arith, nodes_are x)
  nodes_are (map_of x y) = omega (arith, nodes_are x, nodes_are y)
  nodes_are (named (enum_of w ms)) = refl
  nodes_are (named (struct_of w fs)) = omega (arith, all_nodes_are fs)

  all_nodes_are : (fs : Fields) → nodes_all (kinds_of_fields fs) ≡ of_type.all_nodes fs
  all_nodes_are no_fields = refl
  all_nodes_are (field i w Optional t d fs) = omega (arith, nodes_are t, all_nodes_are fs)
  all_nodes_are (field i w Plain t d fs) = omega (arith, nodes_are t, all_nodes_are fs)
  all_nodes_are (field i w Required t d fs) = omega (arith, nodes_are t, all_nodes_are fs)

mutual
  pub levels_are : (t : TypeTree) → levels (kinds_of t) ≡ of_type.depth t
  levels_are (scalar s) = refl
  levels_are text = refl
  levels_are bytes = refl
  levels_are (list_of x) = omega (arith, levels_are x)
  levels_are (set_of x) = omega (arith, levels_are x)
  levels_are (map_of x y) = omega (arith, levels_are x, levels_are y)
  levels_are (named (enum_of w ms)) = refl
  levels_are (named (struct_of w fs)) = omega (arith, all_levels_are fs)

  all_levels_are : (fs : Fields) → levels_all (kinds_of_fields fs) ≡ of_type.depths fs
  all_levels_are no_fields = refl
  all_levels_are (field i w Optional t d fs) = omega (arith, levels_are t, all_levels_are fs)
  all_levels_are (field i w Plain t d fs) = omega (arith, levels_are t, all_levels_are fs)
  all_levels_are (field i w Required t d fs) = omega (arith, levels_are t, all_levels_are fs)

mutual
  pub bits_are : (t : TypeTree) → greatest_bits (kinds_of t) ≡ of_type.bits t
  bits_are (scalar s) = base_bits_are s
  bits_are text = refl
  bits_are bytes = refl
  bits_are (list_of x) = refl
  bits_are (set_of x) = refl
  bits_are (map_of x y) = refl
  bits_are (named (enum_of w ms)) = refl
  bits_are (named (struct_of w fs)) = all_bits_are fs

  pub all_bits_are : (fs : Fields) → greatest_bits_all (kinds_of_fields fs) ≡ of_type.all_bits fs
  all_bits_are no_fields = refl
  all_bits_are (field i w Optional t d fs) = omega (arith, bits_are t, all_bits_are fs)
  all_bits_are (field i w Plain t d fs) = omega (arith, bits_are t, all_bits_are fs)
  all_bits_are (field i w Required t d fs) = omega (arith, bits_are t, all_bits_are fs)

-- ---- forms

mutual
  ids_are : (fs : Fields) → ids_of (kinds_of_fields fs) ≡ ids_of_fields fs
  ids_are no_fields = refl
  ids_are (field i w Optional t d fs) = ap (λ k. nat_abs i ∷ k) (ids_are fs)
  ids_are (field i w Plain t d fs) = ap (λ k. nat_abs i ∷ k) (ids_are fs)
  ids_are (field i w Required t d fs) = ap (λ k. nat_abs i ∷ k) (ids_are fs)

key_is : (t : TypeTree) → IsKeyType t → IsKey (kinds_of t)
key_is (scalar s) k = tt
key_is text k = tt
key_is bytes k = tt
key_is (list_of x) k = absurd k
key_is (set_of x) k = absurd k
key_is (map_of x y) k = absurd k
key_is (named (enum_of w ms)) k = tt
key_is (named (struct_of w fs)) k = absurd k

plain_is : (t : TypeTree) → IsPlain (kinds_of t)
plain_is (scalar s) = tt
plain_is text = tt
plain_is bytes = tt
plain_is (list_of x) = tt
plain_is (set_of x) = tt
plain_is (map_of x y) = tt
plain_is (named (enum_of w ms)) = tt
plain_is (named (struct_of w fs)) = tt

module _ (P : List ℕ → Type 0) where
  mutual
    pub formed_is : (t : TypeTree) → IsAccepted P t → IsFormed (kinds_of t)
    formed_is (scalar s) a = tt
    formed_is text a = tt
    formed_is bytes a = tt
    formed_is (list_of x) a = (plain_is x, formed_is x a)
    formed_is (set_of x) a = (key_is x a.0, formed_is x a.1)
    formed_is (map_of x y) a = ((refl, key_is x a.0, refl, plain_is y), ((omega arith, omega arith, (omega arith, omega arith, tt)), (formed_is x a.1, (formed_is y a.2, tt))))
    formed_is (named (enum_of w ms)) a = tt
    formed_is (named (struct_of w fs)) a = (subst (Rising 0) (sym (ids_are fs)) a.0, all_formed_is fs a.2)

    all_formed_is : (fs : Fields) → AreAccepted P fs → AllFormed (kinds_of_fields fs)
    all_formed_is no_fields a = tt
    all_formed_is (field i w Optional t d fs) a = ((plain_is t, formed_is t a.0), all_formed_is fs a.2)
    all_formed_is (field i w Plain t d fs) a = (formed_is t a.0, all_formed_is fs a.2)
    all_formed_is (field i w Required t d fs) a = (formed_is t a.0, all_formed_is fs a.2)

  mutual
    pub narrow_is : (t : TypeTree) → IsAccepted P t → of_type.widest t ≤ 32767 → IsNarrow (kinds_of t)
    narrow_is (scalar s) a w = tt
    narrow_is text a w = tt
    narrow_is bytes a w = tt
    narrow_is (list_of x) a w = narrow_is x a w
    narrow_is (set_of x) a w = narrow_is x a.1 w
    narrow_is (map_of x y) a w = (omega (arith, bits_are x, bits_are y, w), (narrow_is x a.1 (omega arith), (narrow_is y a.2 (omega arith), tt)))
    narrow_is (named (enum_of w ms)) a h = tt
    narrow_is (named (struct_of w fs)) a h = (omega (arith, all_bits_are fs, a.1), all_narrow_is fs a.2 h a.1)

    all_narrow_is : (fs : Fields) → AreAccepted P fs → of_type.all_widest fs ≤ 32767 → of_type.all_bits fs ≤ 32767 → AllNarrow (kinds_of_fields fs)
    all_narrow_is no_fields a h b = tt
    all_narrow_is (field i w Optional t d fs) a h b = ((omega (arith, bits_are t), narrow_is t a.0 (omega arith)), all_narrow_is fs a.2 (omega arith) (omega arith))
    all_narrow_is (field i w Plain t d fs) a h b = (narrow_is t a.0 (omega arith), all_narrow_is fs a.2 (omega arith) (omega arith))
    all_narrow_is (field i w Required t d fs) a h b = (narrow_is t a.0 (omega arith), all_narrow_is fs a.2 (omega arith) (omega arith))

  pub kind_tree_is : (t : TypeTree) → IsWithin P t → IsKindTree (kinds_of t)
  kind_tree_is t w = record {
    formed = formed_is t w.accepted;
    few = omega (arith, nodes_are t, w.few);
    shallow = omega (arith, levels_are t, w.shallow);
    narrow = narrow_is t w.accepted w.narrow;
  }

-- ---- defaults

no_text : IsUtf8 []
unfolding is_utf8 chars
no_text = IsUtf8-from_is_utf8 [] refl

base_of_kind : (s : Scalar) → Of (kinds_of (scalar s)) (default_of (scalar s))
base_of_kind flag = one tt
base_of_kind i8 = one (omega arith)
base_of_kind i16 = one (omega arith)
base_of_kind i32 = one (omega arith)
base_of_kind i64 = one (omega arith)

flag_of_kind : (s : Scalar) (b : _) → IsFlag s → Of (kinds_of (scalar s)) (One (value.Truth b))
flag_of_kind flag b h = one tt
flag_of_kind i8 b h = absurd h
flag_of_kind i16 b h = absurd h
flag_of_kind i32 b h = absurd h
flag_of_kind i64 b h = absurd h

number_of_kind : (s : Scalar) (z : ℤ) → FitsBase s z → Of (kinds_of (scalar s)) (One (value.Number z))
number_of_kind flag z h = absurd h
number_of_kind i8 z h = one h
number_of_kind i16 z h = one h
number_of_kind i32 z h = one h
number_of_kind i64 z h = one h

-- a written default is a value of its type
written_of_kind : (t : TypeTree) (d : Default) → IsWritten IsTextDefault t d → Of (kinds_of t) (default_of t) → Of (kinds_of t) (written d (default_of t))
written_of_kind t without h o = o
written_of_kind t empty_default h o = o
written_of_kind (scalar s) (flag_default b) h o = flag_of_kind s b h
written_of_kind (scalar s) (int_default z) h o = number_of_kind s z h
written_of_kind (scalar s) (text_default x) h o = absurd h
written_of_kind text (text_default x) h o = value.bytes h.short h.bytes h.utf8
written_of_kind text (flag_default b) h o = absurd h
written_of_kind text (int_default z) h o = absurd h
written_of_kind bytes (text_default x) h o = value.bytes h.short h.bytes tt
written_of_kind bytes (flag_default b) h o = absurd h
written_of_kind bytes (int_default z) h o = absurd h
written_of_kind (list_of x) (flag_default b) h o = absurd h
written_of_kind (list_of x) (int_default z) h o = absurd h
written_of_kind (list_of x) (text_default z) h o = absurd h
written_of_kind (set_of x) (flag_default b) h o = absurd h
written_of_kind (set_of x) (int_default z) h o = absurd h
written_of_kind (set_of x) (text_default z) h o = absurd h
written_of_kind (map_of x y) (flag_default b) h o = absurd h
written_of_kind (map_of x y) (int_default z) h o = absurd h
written_of_kind (map_of x y) (text_default z) h o = absurd h
written_of_kind (named (enum_of w ms)) (int_default z) h o = one h
written_of_kind (named (enum_of w ms)) (flag_default b) h o = absurd h
written_of_kind (named (enum_of w ms)) (text_default z) h o = absurd h
written_of_kind (named (struct_of w fs)) (flag_default b) h o = absurd h
written_of_kind (named (struct_of w fs)) (int_default z) h o = absurd h
written_of_kind (named (struct_of w fs)) (text_default z) h o = absurd h

mutual
  pub default_is : (t : TypeTree) → IsAccepted IsTextDefault t → Of (kinds_of t) (default_of t)
  default_is (scalar s) a = base_of_kind s
  default_is text a = value.bytes (omega arith) tt no_text
  default_is bytes a = value.bytes (omega arith) tt tt
  default_is (list_of x) a = items (omega arith) tt none
  default_is (set_of x) a = items (omega arith) tt none
  default_is (map_of x y) a = items (omega arith) tt none
  default_is (named (enum_of w ms)) a = one (omega arith)
  default_is (named (struct_of w fs)) a = record_of (sym (ids_are fs)) (defaults_are fs a.2)

  defaults_are : (fs : Fields) → AreAccepted IsTextDefault fs → OfAll (kinds_of_fields fs) (defaults_of fs)
  defaults_are no_fields a = no_part
  defaults_are (field i w Optional t d fs) a = part absent (defaults_are fs a.2)
  defaults_are (field i w Plain t d fs) a = part (written_of_kind t d a.1 (default_is t a.0)) (defaults_are fs a.2)
  defaults_are (field i w Required t d fs) a = part (written_of_kind t d a.1 (default_is t a.0)) (defaults_are fs a.2)

-- ---- short texts

abbrev Small : ℕ → Type 0
Small b = b < 256

all_append : (xs ys : List ℕ) → AllByRecursion Small xs → AllByRecursion Small ys → AllByRecursion Small (xs ++ ys)
all_append [] ys h k = k
all_append (x ∷ xs) ys h k = (h.0, all_append xs ys h.1 k)

encode_small : (c : ℕ) → c < 1114112 → AllByRecursion Small (encode c)
unfolding encode
encode_small c h =
    cond_both (ltb c 128) _ _ (AllByRecursion Small) (λ e. (omega (arith, ltb-true c 128 e), tt))
    (λ e. cond_both (ltb c 2048) _ _ (AllByRecursion Small) (λ f. (omega (arith, ltb-true c 2048 f), (omega arith, tt)))
    (λ f. cond_both (ltb c 65536) _ _ (AllByRecursion Small) (λ g. (omega (arith, ltb-true c 65536 g), (omega arith, (omega arith, tt))))
    (λ g. (omega arith, (omega arith, (omega arith, (omega arith, tt)))))))

encodes_small : (cs : List ℕ) → are_characters cs ≡ true → AllByRecursion Small (encodes cs)
encodes_small [] e = tt
encodes_small (c ∷ cs) e =
    let parts = and_parts (is_character c) (are_characters cs) e in
    let low : c < 1114112 = elim (scalar_cases c parts.0) [ inl a ↦ omega arith | inr b ↦ omega (arith, b) ] in
    all_append (encode c) (encodes cs) (encode_small c low) (encodes_small cs parts.1)

utf8_small : (x : List ℕ) → IsUtf8 x → AllByRecursion Small x
utf8_small x u = subst (AllByRecursion Small) u.1.1 (encodes_small u.0 u.1.0)

-- a text that is short
text_default_is : (x : List ℕ) → IsUtf8 x → length x < 2147483648 → IsTextDefault x
text_default_is x u h = record { utf8 = u; bytes = utf8_small x u; short = h }

written_short : (t : TypeTree) (d : Default) → IsShort d → IsWritten IsUtf8 t d → IsWritten IsTextDefault t d
written_short t without s h = tt
written_short (scalar b) (flag_default x) s h = h
written_short (scalar b) (int_default z) s h = h
written_short (scalar b) (text_default x) s h = absurd h
written_short (scalar b) empty_default s h = absurd h
written_short text (text_default x) s h = text_default_is x h s
written_short text (flag_default x) s h = absurd h
written_short text (int_default z) s h = absurd h
written_short text empty_default s h = absurd h
written_short bytes (text_default x) s h = text_default_is x h s
written_short bytes (flag_default x) s h = absurd h
written_short bytes (int_default z) s h = absurd h
written_short bytes empty_default s h = absurd h
written_short (list_of x) (flag_default b) s h = absurd h
written_short (list_of x) (int_default z) s h = absurd h
written_short (list_of x) (text_default z) s h = absurd h
written_short (list_of x) empty_default s h = tt
written_short (set_of x) (flag_default b) s h = absurd h
written_short (set_of x) (int_default z) s h = absurd h
written_short (set_of x) (text_default z) s h = absurd h
written_short (set_of x) empty_default s h = tt
written_short (map_of x y) (flag_default b) s h = absurd h
written_short (map_of x y) (int_default z) s h = absurd h
written_short (map_of x y) (text_default z) s h = absurd h
written_short (map_of x y) empty_default s h = tt
written_short (named (enum_of w ms)) (flag_default b) s h = absurd h
written_short (named (enum_of w ms)) (int_default z) s h = h
written_short (named (enum_of w ms)) (text_default z) s h = absurd h
written_short (named (enum_of w ms)) empty_default s h = absurd h
written_short (named (struct_of w fs)) (flag_default b) s h = absurd h
written_short (named (struct_of w fs)) (int_default z) s h = absurd h
written_short (named (struct_of w fs)) (text_default z) s h = absurd h
written_short (named (struct_of w fs)) empty_default s h = tt

mutual
  pub accepted_short : (t : TypeTree) → IsAccepted IsUtf8 t → HasShortTexts t → IsAccepted IsTextDefault t
  accepted_short (scalar s) a h = tt
  accepted_short text a h = tt
  accepted_short bytes a h = tt
  accepted_short (list_of x) a h = accepted_short x a h
  accepted_short (set_of x) a h = (a.0, accepted_short x a.1 h)
  accepted_short (map_of x y) a h = (a.0, accepted_short x a.1 h.0, accepted_short y a.2 h.1)
  accepted_short (named (enum_of w ms)) a h = tt
  accepted_short (named (struct_of w fs)) a h = (a.0, a.1, all_accepted_short fs a.2 h)

  all_accepted_short : (fs : Fields) → AreAccepted IsUtf8 fs → HaveShortTexts fs → AreAccepted IsTextDefault fs
  all_accepted_short no_fields a h = tt
  all_accepted_short (field i w n t d fs) a h = (accepted_short t a.0 h.0, written_short t d h.1 a.1, all_accepted_short fs a.2 h.2)
