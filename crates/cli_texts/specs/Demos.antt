-- The definition of the demo, and its value.
use Rattle.std.specs.Prelude.{ℕ, zero, suc, ◌+◌, ◌/◌, ◌%◌, ◌==◌, if◌then◌else◌, List, [], ◌∷◌, ◌++◌, pos}
use Rattle.std.specs.Prelude.{take, codes}
use Rattle.idl_profile.specs.declared.kinds.Need.TheVariants.{Plain, Optional}
use Rattle.idl_profile.specs.Types.{Named, struct_of, no_fields, field, scalar, i32, text, list_of, map_of}
use Rattle.idl_profile.specs.Types.{named, without}
use Rattle.frozen_model.specs.Trees.{AList, AMap}
use Rattle.frozen_model.specs.Values.{Value, One, Number, Bytes, Items, Absent, Present, Record}
use Rattle.key_order.specs.InOrder.{row}
use Rattle.typed_tree.specs.Spots.{pair}

abbrev pub user_struct : Named
user_struct = struct_of (codes "User")
    (field (pos 1) (codes "id") Plain (scalar i32) without
    (field (pos 2) (codes "name") Plain text without
    (field (pos 3) (codes "mail") Optional text without
    (field (pos 4) (codes "tags") Plain (list_of text) without
    (field (pos 5) (codes "scores") Plain (map_of text (scalar i32)) without no_fields)))))

abbrev pub users_struct : Named
users_struct = struct_of (codes "Users")
    (field (pos 1) (codes "users") Plain (map_of (scalar i32) (named user_struct)) without no_fields)

abbrev pub demo_definition : List Named
demo_definition = user_struct ∷ users_struct ∷ []

abbrev pub number : ℕ → Value
number n = One (Number (pos n))

-- the last decimal digit
abbrev pub last_digit : ℕ → ℕ
last_digit n = 48 + n % 10

-- the last six decimal digits
abbrev pub six_digits : ℕ → List ℕ
six_digits n = last_digit (n / 100000) ∷ last_digit (n / 10000) ∷ last_digit (n / 1000) ∷ last_digit (n / 100)
    ∷ last_digit (n / 10) ∷ last_digit n ∷ []

abbrev pub name : ℕ → Value
name i = Bytes (codes "user" ++ six_digits i)

-- where i is even
abbrev pub mail : ℕ → Value
mail i = if i % 2 == 0 then Present (Bytes (six_digits i ++ codes "@example.com")) else Absent

-- the first i mod 3 of two
abbrev pub tags : ℕ → List Value
tags i = take (i % 3) (Bytes (codes "red") ∷ Bytes (codes "green") ∷ [])

abbrev pub scores : ℕ → List Value
scores i = pair (Bytes (codes "art")) (number (i % 7)) ∷ pair (Bytes (codes "math")) (number (i % 100)) ∷ []

abbrev pub user : ℕ → Value
user i = Record (1 ∷ 2 ∷ 3 ∷ 4 ∷ 5 ∷ [])
    (row (number i ∷ name i ∷ mail i ∷ Items AList (row (tags i)) ∷ Items AMap (row (scores i)) ∷ []))

-- so many users, each under its number, from the number i on
abbrev pub users : ℕ → ℕ → List Value
users i zero = []
users i (suc k) = pair (number i) (user i) ∷ users (suc i) k

-- a struct of a map of n users, from the number 1 on
abbrev pub demo : ℕ → Value
demo n = Record (1 ∷ []) (row (Items AMap (row (users 1 n)) ∷ []))
