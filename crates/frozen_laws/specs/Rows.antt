-- Worked rows: the least layouts of the values of frozen_model's rows, in both versions.
use Rattle.std.specs.Prelude.{true, false, pos, negsuc}
use Rattle.frozen_model.specs.Layouts.{Unsigned, TwosComplement, FromBase, Version1, Version2, Layout, Described, described}
use Rattle.frozen_model.specs.Holding.{Least}
use Rattle.frozen_model.specs.Rows.{two_fields, two_numbers, list_of_texts, four_texts, flag_and_number, true_and_least, three_numbers, extremes, optional_items, three_optionals, map_of_texts, three_pairs, list_of_i32, thousands}

-- a layout of version 1, and a relaxed one of version 2
abbrev pub first : Layout → Described
first l = described Version1 false l

abbrev pub second : Layout → Described
second l = described Version2 true l

-- the least layouts of version 1: 5 and -1; four texts; a flag and the least i64; three optionals; three pairs
pub record LeastInVersion1 : Type 0 where
  pub numbers : Least (first (two_fields (TwosComplement 4) (TwosComplement 1))) (two_numbers (pos 5) (negsuc 0))
  pub zeros : Least (first (two_fields (TwosComplement 0) (TwosComplement 0))) (two_numbers (pos 0) (pos 0))
  pub texts : Least (first (list_of_texts 1 3 3 1)) four_texts
  pub flags : Least (first (flag_and_number (Unsigned 1) (TwosComplement 64))) true_and_least
  pub extreme : Least (first (three_numbers (TwosComplement 64) (TwosComplement 8) (TwosComplement 8))) extremes
  pub optionals : Least (first (optional_items 1 2 1 (TwosComplement 4))) three_optionals
  pub pairs : Least (first (map_of_texts 1 2 (TwosComplement 5) 3 1)) three_pairs

-- and those of version 2
pub record LeastInVersion2 : Type 0 where
  pub numbers : Least (second (two_fields (FromBase (pos 5) 0) (FromBase (negsuc 0) 0))) (two_numbers (pos 5) (negsuc 0))
  pub flags : Least (second (flag_and_number (Unsigned 1) (FromBase (negsuc 9223372036854775807) 0))) true_and_least
  pub optionals : Least (second (optional_items 1 2 1 (FromBase (pos 0) 3))) three_optionals
  pub pairs : Least (second (map_of_texts 1 2 (FromBase (pos 1) 4) 3 1)) three_pairs
  pub thousand : Least (second (list_of_i32 1 2 (FromBase (pos 1000) 2))) thousands
