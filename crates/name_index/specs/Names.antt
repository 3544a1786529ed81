-- Where the names of a list stood first.
use Rattle.std.specs.Prelude.{◌≡◌, ℕ, Bool, List, Option, length}
use Rattle.std.specs.List.{position, list_any}
use Rattle.std.specs.Str.{bytes_eq}
use Rattle.std.specs.BTreeMap.{get_by_text}
use Rattle.name_index.specs.declared.index.NameIndex.{NameIndex}

-- the place of the first name that is this one
abbrev pub first_place : List (List ℕ) → List ℕ → Option ℕ
first_place names name = position (λ n. bytes_eq n name) names

-- whether this is one of the names
abbrev pub is_among : List (List ℕ) → List ℕ → Bool
is_among names name = list_any (λ n. bytes_eq n name) names

-- the index has the first place of each of these names, and of no other
pub record Indexes (index : NameIndex) (names : List (List ℕ)) : Type 0 where
  pub count : index.count ≡ length names
  pub places : (name : List ℕ) → get_by_text index.places name ≡ first_place names name
