use Rattle.std.proofs.Common.{ℕ, ◌<◌, [], ◌∷◌, true, false, refl, arith, pos, negsuc, inl}
use Rattle.std.specs.Str.{IsUtf8, is_utf8, chars}
use Rattle.std.proofs.lemmas.Str.{IsUtf8-from_is_utf8}
use Rattle.std.proofs.lemmas.Int.{ints}
use lib.Utf8.{encode}
use Rattle.frozen_model.specs.Bits.{digits}
use Rattle.frozen_model.specs.Trees.{IsKindTree, Text, ByteRange, leaf, byte_range, item_range, optional, struct, no_field, field}
use Rattle.frozen_model.specs.Values.{Bytes, Of, one, bytes, items, absent, present, record_of, none, more, no_part, part}
use Rattle.frozen_model.specs.Layouts.{Coded, Unsigned, TwosComplement, FromBase, Version1, Version2, described, flag_coded, signed_coded, based_coded}
use Rattle.frozen_model.specs.Holding.{Least, IsStart}
use Rattle.frozen_model.specs.Rows.{two_fields, two_numbers, list_of_texts, four_texts, flag_and_number, true_and_least, three_numbers, extremes, optional_items, three_optionals, map_of_texts, three_pairs, list_of_i32, thousands}
use Rattle.frozen_laws.proofs.Rests.{rest_is_least}
use Rattle.frozen_laws.proofs.rows_are_least.Goals as goal

-- ---- the values are of their kinds

letter_a : IsUtf8 (97 ∷ [])
unfolding is_utf8 chars encode
letter_a = IsUtf8-from_is_utf8 (97 ∷ []) refl

letter_b : IsUtf8 (98 ∷ [])
unfolding is_utf8 chars encode
letter_b = IsUtf8-from_is_utf8 (98 ∷ []) refl

letter_c : IsUtf8 (99 ∷ [])
unfolding is_utf8 chars encode
letter_c = IsUtf8-from_is_utf8 (99 ∷ []) refl

letter_d : IsUtf8 (100 ∷ [])
unfolding is_utf8 chars encode
letter_d = IsUtf8-from_is_utf8 (100 ∷ []) refl

letter_e : IsUtf8 (101 ∷ [])
unfolding is_utf8 chars encode
letter_e = IsUtf8-from_is_utf8 (101 ∷ []) refl

letter_i : IsUtf8 (105 ∷ [])
unfolding is_utf8 chars encode
letter_i = IsUtf8-from_is_utf8 (105 ∷ []) refl

letter : {A B : Type 0} {d c : B} {b : ℕ} → b < 256 → IsUtf8 (b ∷ []) → Of {A = A} {B = B} (ByteRange Text d c) (Bytes (b ∷ []))
letter h u = bytes (omega arith) (h, tt) u

numbers_are : (x y : Coded) → Of (two_fields x y) (two_numbers (pos 5) (negsuc 0))
numbers_are x y = record_of refl (part (one (omega arith)) (part (one (omega arith)) no_part))

zeros_are : (x y : Coded) → Of (two_fields x y) (two_numbers (pos 0) (pos 0))
zeros_are x y = record_of refl (part (one (omega arith)) (part (one (omega arith)) no_part))

texts_are : (d c e f : ℕ) → Of (list_of_texts d c e f) four_texts
texts_are d c e f =
    record_of refl (part (items (omega arith) (refl, (refl, (refl, (refl, tt))))
    (more (letter (omega arith) letter_a) (more (letter (omega arith) letter_b) (more (letter (omega arith) letter_c) (more (letter (omega arith) letter_d) none))))) no_part)

flags_are : (f m : Coded) → Of (flag_and_number f m) true_and_least
flags_are f m = record_of refl (part (one tt) (part (one (omega arith)) no_part))

extremes_are : (a b c : Coded) → Of (three_numbers a b c) extremes
extremes_are a b c = record_of refl (part (one (omega arith)) (part (one (omega arith)) (part (one (omega arith)) no_part)))

optionals_are : (d c w : ℕ) (a : Coded) → Of (optional_items d c w a) three_optionals
optionals_are d c w a =
    record_of refl (part (items (omega arith) (refl, (refl, (refl, tt)))
    (more (record_of refl (part (present (one (omega arith))) no_part)) (more (record_of refl (part absent no_part)) (more (record_of refl (part (present (one (omega arith))) no_part)) none)))) no_part)

pairs_are : (d c : ℕ) (k : Coded) (e f : ℕ) → Of (map_of_texts d c k e f) three_pairs
pairs_are d c k e f =
    record_of refl (part (items (omega arith) (refl, (refl, (refl, tt)))
    (more (record_of refl (part (one (omega arith)) (part (letter (omega arith) letter_a) no_part)))
    (more (record_of refl (part (one (omega arith)) (part (letter (omega arith) letter_e) no_part)))
    (more (record_of refl (part (one (omega arith)) (part (letter (omega arith) letter_i) no_part))) none)))) no_part)

thousands_are : (d c : ℕ) (k : Coded) → Of (list_of_i32 d c k) thousands
thousands_are d c k = record_of refl (part (items (omega arith) (refl, (refl, (refl, tt))) (more (one (omega arith)) (more (one (omega arith)) (more (one (omega arith)) none)))) no_part)

-- ---- the layouts are within the limits

numbers_kinds : (x y : Coded) → IsKindTree (two_fields x y)
numbers_kinds x y = record { formed = ((omega arith, omega arith, (omega arith, omega arith, tt)), (tt, (tt, tt))); few = omega arith; shallow = omega arith; narrow = (omega arith, (tt, (tt, tt))) }

texts_kinds : (d c e f : ℕ) → IsKindTree (list_of_texts d c e f)
texts_kinds d c e f = record { formed = ((omega arith, omega arith, tt), ((tt, tt), tt)); few = omega arith; shallow = omega arith; narrow = (omega arith, (tt, tt)) }

flags_kinds : (f m : Coded) → IsKindTree (flag_and_number f m)
flags_kinds f m = record { formed = ((omega arith, omega arith, (omega arith, omega arith, tt)), (tt, (tt, tt))); few = omega arith; shallow = omega arith; narrow = (omega arith, (tt, (tt, tt))) }

extremes_kinds : (a b c : Coded) → IsKindTree (three_numbers a b c)
extremes_kinds a b c = record {
  formed = ((omega arith, omega arith, (omega arith, omega arith, (omega arith, omega arith, tt))), (tt, (tt, (tt, tt))));
  few = omega arith;
  shallow = omega arith;
  narrow = (omega arith, (tt, (tt, (tt, tt))));
}

optionals_kinds : (d c w : ℕ) (a : Coded) → IsKindTree (optional_items d c w a)
optionals_kinds d c w a = record {
  formed = ((omega arith, omega arith, tt), ((tt, ((omega arith, omega arith, tt), ((tt, tt), tt))), tt));
  few = omega arith;
  shallow = omega arith;
  narrow = (omega arith, ((omega arith, ((omega arith, tt), tt)), tt));
}

pairs_kinds : (d c : ℕ) (k : Coded) (e f : ℕ) → IsKindTree (map_of_texts d c k e f)
pairs_kinds d c k e f = record {
  formed = ((omega arith, omega arith, tt), (((refl, tt, refl, tt), ((omega arith, omega arith, (omega arith, omega arith, tt)), (tt, (tt, tt)))), tt));
  few = omega arith;
  shallow = omega arith;
  narrow = (omega arith, ((omega arith, (tt, (tt, tt))), tt));
}

thousands_kinds : (d c : ℕ) (k : Coded) → IsKindTree (list_of_i32 d c k)
thousands_kinds d c k = record { formed = ((omega arith, omega arith, tt), ((tt, tt), tt)); few = omega arith; shallow = omega arith; narrow = (omega arith, (tt, tt)) }

-- ---- where measuring begins

start_numbers_1 : IsStart Version1 (two_fields (TwosComplement 0) (TwosComplement 0)) (two_numbers (pos 5) (negsuc 0))
start_numbers_1 = record { of_kind = numbers_are (TwosComplement 0) (TwosComplement 0); coded = (signed_coded, (signed_coded, tt)); blank = (refl, (refl, tt)); based = struct (field (leaf tt) (field (leaf tt) no_field)) }

least_numbers_1 : Least (described Version1 false (two_fields (TwosComplement 4) (TwosComplement 1))) (two_numbers (pos 5) (negsuc 0))
unfolding digits
least_numbers_1 = rest_is_least Version1 false 1 (two_fields (TwosComplement 0) (TwosComplement 0)) (two_numbers (pos 5) (negsuc 0)) refl tt (numbers_kinds (TwosComplement 0) (TwosComplement 0)) start_numbers_1 (omega arith) refl

start_zeros_1 : IsStart Version1 (two_fields (TwosComplement 0) (TwosComplement 0)) (two_numbers (pos 0) (pos 0))
start_zeros_1 = record { of_kind = zeros_are (TwosComplement 0) (TwosComplement 0); coded = (signed_coded, (signed_coded, tt)); blank = (refl, (refl, tt)); based = struct (field (leaf tt) (field (leaf tt) no_field)) }

least_zeros_1 : Least (described Version1 false (two_fields (TwosComplement 0) (TwosComplement 0))) (two_numbers (pos 0) (pos 0))
unfolding digits
least_zeros_1 = rest_is_least Version1 false 0 (two_fields (TwosComplement 0) (TwosComplement 0)) (two_numbers (pos 0) (pos 0)) refl tt (numbers_kinds (TwosComplement 0) (TwosComplement 0)) start_zeros_1 (omega arith) refl

start_texts_1 : IsStart Version1 (list_of_texts 0 0 0 0) four_texts
start_texts_1 = record { of_kind = texts_are 0 0 0 0; coded = (tt, tt); blank = ((refl, refl, (refl, refl)), tt); based = struct (field (item_range tt tt (byte_range tt tt)) no_field) }

least_texts_1 : Least (described Version1 false (list_of_texts 1 3 3 1)) four_texts
unfolding digits
least_texts_1 = rest_is_least Version1 false 2 (list_of_texts 0 0 0 0) four_texts refl tt (texts_kinds 0 0 0 0) start_texts_1 (omega arith) refl

start_flags_1 : IsStart Version1 (flag_and_number (Unsigned 0) (TwosComplement 0)) true_and_least
start_flags_1 = record { of_kind = flags_are (Unsigned 0) (TwosComplement 0); coded = (flag_coded, (signed_coded, tt)); blank = (refl, (refl, tt)); based = struct (field (leaf tt) (field (leaf tt) no_field)) }

least_flags_1 : Least (described Version1 false (flag_and_number (Unsigned 1) (TwosComplement 64))) true_and_least
unfolding digits
least_flags_1 = rest_is_least Version1 false 1 (flag_and_number (Unsigned 0) (TwosComplement 0)) true_and_least refl tt (flags_kinds (Unsigned 0) (TwosComplement 0)) start_flags_1 (omega arith) refl

start_extreme_1 : IsStart Version1 (three_numbers (TwosComplement 0) (TwosComplement 0) (TwosComplement 0)) extremes
start_extreme_1 = record { of_kind = extremes_are (TwosComplement 0) (TwosComplement 0) (TwosComplement 0); coded = (signed_coded, (signed_coded, (signed_coded, tt))); blank = (refl, (refl, (refl, tt))); based = struct (field (leaf tt) (field (leaf tt) (field (leaf tt) no_field))) }

least_extreme_1 : Least (described Version1 false (three_numbers (TwosComplement 64) (TwosComplement 8) (TwosComplement 8))) extremes
unfolding digits
least_extreme_1 = rest_is_least Version1 false 1 (three_numbers (TwosComplement 0) (TwosComplement 0) (TwosComplement 0)) extremes refl tt (extremes_kinds (TwosComplement 0) (TwosComplement 0) (TwosComplement 0)) start_extreme_1 (omega arith) refl

start_optionals_1 : IsStart Version1 (optional_items 0 0 0 (TwosComplement 0)) three_optionals
start_optionals_1 = record { of_kind = optionals_are 0 0 0 (TwosComplement 0); coded = ((signed_coded, tt), tt); blank = ((refl, refl, ((refl, refl), tt)), tt); based = struct (field (item_range tt tt (struct (field (optional tt (leaf tt)) no_field))) no_field) }

least_optionals_1 : Least (described Version1 false (optional_items 1 2 1 (TwosComplement 4))) three_optionals
unfolding digits
least_optionals_1 = rest_is_least Version1 false 2 (optional_items 0 0 0 (TwosComplement 0)) three_optionals refl tt (optionals_kinds 0 0 0 (TwosComplement 0)) start_optionals_1 (omega arith) refl

start_pairs_1 : IsStart Version1 (map_of_texts 0 0 (TwosComplement 0) 0 0) three_pairs
start_pairs_1 = record { of_kind = pairs_are 0 0 (TwosComplement 0) 0 0; coded = ((signed_coded, (tt, tt)), tt); blank = ((refl, refl, (refl, ((refl, refl), tt))), tt); based = struct (field (item_range tt tt (struct (field (leaf tt) (field (byte_range tt tt) no_field)))) no_field) }

least_pairs_1 : Least (described Version1 false (map_of_texts 1 2 (TwosComplement 5) 3 1)) three_pairs
unfolding digits
least_pairs_1 = rest_is_least Version1 false 2 (map_of_texts 0 0 (TwosComplement 0) 0 0) three_pairs refl tt (pairs_kinds 0 0 (TwosComplement 0) 0 0) start_pairs_1 (omega arith) refl

start_numbers_2 : IsStart Version2 (two_fields (FromBase (pos 5) 0) (FromBase (negsuc 0) 0)) (two_numbers (pos 5) (negsuc 0))
start_numbers_2 = record { of_kind = numbers_are (FromBase (pos 5) 0) (FromBase (negsuc 0) 0); coded = (based_coded (omega arith), (based_coded (omega arith), tt)); blank = (refl, (refl, tt)); based = struct (field (leaf (inl refl, (omega (arith, ints), tt))) (field (leaf (inl refl, (omega (arith, ints), tt))) no_field)) }

least_numbers_2 : Least (described Version2 true (two_fields (FromBase (pos 5) 0) (FromBase (negsuc 0) 0))) (two_numbers (pos 5) (negsuc 0))
unfolding digits
least_numbers_2 = rest_is_least Version2 true 0 (two_fields (FromBase (pos 5) 0) (FromBase (negsuc 0) 0)) (two_numbers (pos 5) (negsuc 0)) tt tt (numbers_kinds (FromBase (pos 5) 0) (FromBase (negsuc 0) 0)) start_numbers_2 (omega arith) refl

start_flags_2 : IsStart Version2 (flag_and_number (Unsigned 0) (FromBase (negsuc 9223372036854775807) 0)) true_and_least
start_flags_2 = record { of_kind = flags_are (Unsigned 0) (FromBase (negsuc 9223372036854775807) 0); coded = (flag_coded, (based_coded (omega arith), tt)); blank = (refl, (refl, tt)); based = struct (field (leaf tt) (field (leaf (inl refl, (omega (arith, ints), tt))) no_field)) }

least_flags_2 : Least (described Version2 true (flag_and_number (Unsigned 1) (FromBase (negsuc 9223372036854775807) 0))) true_and_least
unfolding digits
least_flags_2 = rest_is_least Version2 true 1 (flag_and_number (Unsigned 0) (FromBase (negsuc 9223372036854775807) 0)) true_and_least tt tt (flags_kinds (Unsigned 0) (FromBase (negsuc 9223372036854775807) 0)) start_flags_2 (omega arith) refl

start_optionals_2 : IsStart Version2 (optional_items 0 0 0 (FromBase (pos 0) 0)) three_optionals
start_optionals_2 = record { of_kind = optionals_are 0 0 0 (FromBase (pos 0) 0); coded = ((based_coded (omega arith), tt), tt); blank = ((refl, refl, ((refl, refl), tt)), tt); based = struct (field (item_range tt tt (struct (field (optional tt (leaf (inl refl, (omega (arith, ints), (omega (arith, ints), tt))))) no_field))) no_field) }

least_optionals_2 : Least (described Version2 true (optional_items 1 2 1 (FromBase (pos 0) 3))) three_optionals
unfolding digits
least_optionals_2 = rest_is_least Version2 true 2 (optional_items 0 0 0 (FromBase (pos 0) 0)) three_optionals tt tt (optionals_kinds 0 0 0 (FromBase (pos 0) 0)) start_optionals_2 (omega arith) refl

start_pairs_2 : IsStart Version2 (map_of_texts 0 0 (FromBase (pos 1) 0) 0 0) three_pairs
start_pairs_2 = record { of_kind = pairs_are 0 0 (FromBase (pos 1) 0) 0 0; coded = ((based_coded (omega arith), (tt, tt)), tt); blank = ((refl, refl, (refl, ((refl, refl), tt))), tt); based = struct (field (item_range tt tt (struct (field (leaf (inl refl, (omega (arith, ints), (omega (arith, ints), (omega (arith, ints), tt))))) (field (byte_range tt tt) no_field)))) no_field) }

least_pairs_2 : Least (described Version2 true (map_of_texts 1 2 (FromBase (pos 1) 4) 3 1)) three_pairs
unfolding digits
least_pairs_2 = rest_is_least Version2 true 2 (map_of_texts 0 0 (FromBase (pos 1) 0) 0 0) three_pairs tt tt (pairs_kinds 0 0 (FromBase (pos 1) 0) 0 0) start_pairs_2 (omega arith) refl

start_thousand_2 : IsStart Version2 (list_of_i32 0 0 (FromBase (pos 1000) 0)) thousands
start_thousand_2 = record { of_kind = thousands_are 0 0 (FromBase (pos 1000) 0); coded = (based_coded (omega arith), tt); blank = ((refl, refl, refl), tt); based = struct (field (item_range tt tt (leaf (inl refl, (omega (arith, ints), (omega (arith, ints), (omega (arith, ints), tt)))))) no_field) }

least_thousand_2 : Least (described Version2 true (list_of_i32 1 2 (FromBase (pos 1000) 2))) thousands
unfolding digits
least_thousand_2 = rest_is_least Version2 true 2 (list_of_i32 0 0 (FromBase (pos 1000) 0)) thousands tt tt (thousands_kinds 0 0 (FromBase (pos 1000) 0)) start_thousand_2 (omega arith) refl

pub returns-clause-first : goal.returns-clause-first
returns-clause-first c = record { numbers = least_numbers_1; zeros = least_zeros_1; texts = least_texts_1; flags = least_flags_1; extreme = least_extreme_1; optionals = least_optionals_1; pairs = least_pairs_1 }

pub returns-clause-second : goal.returns-clause-second
returns-clause-second c = record { numbers = least_numbers_2; flags = least_flags_2; optionals = least_optionals_2; pairs = least_pairs_2; thousand = least_thousand_2 }
