-- The value of the demo is of the kinds of its definition, and within the limit of cells.
use Rattle.std.proofs.Common.{◌≡◌, ℕ, zero, suc, ◌+◌, ◌*◌, ◌^◌, ◌%◌, ◌<◌, ◌≤◌, List, [], ◌∷◌, ◌++◌, arith}
use Rattle.std.proofs.Common.{refl, ap}
use Rattle.std.proofs.Common.{pos, true, false, Bool, int_lt, length, None, Some, ◌==◌, take}
use Rattle.std.specs.Prelude.{codes, if◌then◌else◌}
use Rattle.std.specs.List.{AllByRecursion}
use Rattle.std.specs.Str.{IsAscii}
use Rattle.std.proofs.lemmas.Str.{IsUtf8-from_ascii}
use Rattle.idl_profile.specs.Types.{root_of, named}
use Rattle.type_kinds.specs.KindsOf.{kinds_of}
use Rattle.frozen_model.specs.Trees.{KindTree, Integer, I32, Text, AList, AMap, Leaf, ByteRange, ItemRange}
use Rattle.frozen_model.specs.Trees.{Optional}
use Rattle.frozen_model.specs.Trees.{Struct, NoField, Field}
use Rattle.frozen_model.specs.Values.{Value, Bytes, Absent, Present, Items, count, Rises, cells}
use Rattle.frozen_model.specs.Values.{cells_each, cell_limit, Of, OfEach, one, bytes, items, absent, present}
use Rattle.frozen_model.specs.Values.{record_of, none, more, no_part, part}
use Rattle.key_order.specs.InOrder.{row}
use Rattle.cli_texts.specs.Demos.{user_struct, demo_definition, number, six_digits, name, scores, user}
use Rattle.cli_texts.specs.Demos.{users, demo}

-- ---- texts

abbrev AreLow : List ℕ → Type 0
AreLow bs = AllByRecursion (λ b. b < 128) bs

low_ascii : (bs : List ℕ) → AreLow bs → IsAscii bs
low_ascii [] h i = omega arith
low_ascii (b ∷ bs) h zero = h.0
low_ascii (b ∷ bs) h (suc i) = low_ascii bs h.1 i

low_bytes : (bs : List ℕ) → AreLow bs → AllByRecursion (λ b. b < 256) bs
low_bytes [] h = tt
low_bytes (b ∷ bs) h = let lt = h.0 in (omega (arith, lt), low_bytes bs h.1)

low_append : (xs ys : List ℕ) → AreLow xs → AreLow ys → AreLow (xs ++ ys)
low_append [] ys h k = k
low_append (x ∷ xs) ys h k = (h.0, low_append xs ys h.1 k)

abbrev text_kind : KindTree
text_kind = ByteRange Text tt tt

abbrev int_kind : KindTree
int_kind = Leaf (Integer I32) tt

text_of : (bs : List ℕ) → length bs < 100 → AreLow bs → Of text_kind (Bytes bs)
text_of bs short h = bytes (omega (arith, short)) (low_bytes bs h) (IsUtf8-from_ascii bs (low_ascii bs h))

number_of : (n : ℕ) → n < 2 ^ 31 → Of int_kind (number n)
number_of n lt = one lt

six_low : (i : ℕ) → AreLow (six_digits i)
six_low i = (omega arith, (omega arith, (omega arith, (omega arith, (omega arith, (omega arith, tt))))))

user_low : AreLow (codes "user")
user_low = (omega arith, (omega arith, (omega arith, (omega arith, tt))))

host_low : AreLow (codes "@example.com")
host_low = (
  omega arith,
  (
    omega arith,
    (
      omega arith,
      (
        omega arith,
        (
          omega arith,
          (
            omega arith,
            (
              omega arith,
              (omega arith, (omega arith, (omega arith, (omega arith, (omega arith, tt))))),
            ),
          ),
        ),
      ),
    ),
  ),
)

-- ---- the parts of a user

name_of : (i : ℕ) → Of text_kind (name i)
name_of i = text_of (codes "user" ++ six_digits i) (omega arith)
    (low_append (codes "user") (six_digits i) user_low (six_low i))

abbrev mail_kind : KindTree
mail_kind = Optional tt text_kind

abbrev mail_text : ℕ → List ℕ
mail_text i = six_digits i ++ codes "@example.com"

mail_by : (b : Bool) (i : ℕ) → Of mail_kind (if b then Present (Bytes (mail_text i)) else Absent)
mail_by true i =
    present (text_of (mail_text i) (omega arith)
    (low_append (six_digits i) (codes "@example.com") (six_low i) host_low))
mail_by false i = absent

mail_cells : (b : Bool) (i : ℕ) → cells mail_kind (if b then Present (Bytes (mail_text i)) else Absent) ≤ 21
mail_cells true i = omega arith
mail_cells false i = omega arith

abbrev tags_kind : KindTree
tags_kind = ItemRange AList tt tt text_kind

abbrev two_tags : List Value
two_tags = Bytes (codes "red") ∷ Bytes (codes "green") ∷ []

red_of : Of text_kind (Bytes (codes "red"))
red_of = text_of (codes "red") (omega arith) (omega arith, (omega arith, (omega arith, tt)))

green_of : Of text_kind (Bytes (codes "green"))
green_of = text_of (codes "green") (omega arith)
    (omega arith, (omega arith, (omega arith, (omega arith, (omega arith, tt)))))

tags_by : (k : ℕ) → Of tags_kind (Items AList (row (take k two_tags)))
tags_by zero = items (omega arith) tt none
tags_by (suc zero) = items (omega arith) (refl, tt) (more red_of none)
tags_by (suc (suc zero)) = items (omega arith) (refl, (refl, tt)) (more red_of (more green_of none))
tags_by (suc (suc (suc k))) = items (omega arith) (refl, (refl, tt)) (more red_of (more green_of none))

tags_cells : (k : ℕ) → cells tags_kind (Items AList (row (take k two_tags))) ≤ 16
tags_cells zero = omega arith
tags_cells (suc zero) = omega arith
tags_cells (suc (suc zero)) = omega arith
tags_cells (suc (suc (suc k))) = omega arith

abbrev pair_kind : KindTree → KindTree → KindTree
pair_kind k v = Struct (Field 1 k (Field 2 v NoField))

abbrev scores_kind : KindTree
scores_kind = ItemRange AMap tt tt (pair_kind text_kind int_kind)

art_of : Of text_kind (Bytes (codes "art"))
art_of = text_of (codes "art") (omega arith) (omega arith, (omega arith, (omega arith, tt)))

math_of : Of text_kind (Bytes (codes "math"))
math_of = text_of (codes "math") (omega arith) (omega arith, (omega arith, (omega arith, (omega arith, tt))))

scores_of : (i : ℕ) → Of scores_kind (Items AMap (row (scores i)))
scores_of i = items (omega arith) (refl, (refl, tt))
    (more (record_of refl (part art_of (part (number_of (i % 7) (omega arith)) no_part)))
    (more (record_of refl (part math_of (part (number_of (i % 100) (omega arith)) no_part))) none))

-- ---- users

abbrev user_kind : KindTree
user_kind = kinds_of (named user_struct)

user_of : (i : ℕ) → i < 2 ^ 31 → Of user_kind (user i)
user_of i lt = record_of refl (part (number_of i lt) (part (name_of i) (part (mail_by (i % 2 == 0) i)
    (part (tags_by (i % 3)) (part (scores_of i) no_part)))))

user_cells : (i : ℕ) → cells user_kind (user i) ≤ 67
user_cells i = let m = mail_cells (i % 2 == 0) i in let t = tags_cells (i % 3) in omega (arith, m, t)

abbrev entry_kind : KindTree
entry_kind = pair_kind int_kind user_kind

users_of : (i k : ℕ) → i + k < 2 ^ 31 → OfEach entry_kind (row (users i k))
users_of i zero lt = none
users_of i (suc k) lt =
    more (record_of refl (part (number_of i (omega arith)) (part (user_of i (omega arith)) no_part)))
    (users_of (suc i) k (omega arith))

int_below : (i : ℕ) → int_lt (pos i) (pos (suc i)) ≡ true
int_below i = grind arith

users_rise : (i k : ℕ) → Rises AMap (Some (number i)) (row (users (suc i) k))
users_rise i zero = tt
users_rise i (suc k) = (int_below i, users_rise (suc i) k)

users_rise_first : (k : ℕ) → Rises AMap None (row (users 1 k))
users_rise_first zero = tt
users_rise_first (suc k) = (refl, users_rise 1 k)

pub users_count : (i k : ℕ) → count (row (users i k)) ≡ k
users_count i zero = refl
users_count i (suc k) = ap suc (users_count (suc i) k)

users_cells : (i k : ℕ) → cells_each entry_kind (row (users i k)) ≤ 69 * k
users_cells i zero = omega arith
users_cells i (suc k) = let h = user_cells i in let r = users_cells (suc i) k in omega (arith, h, r)

pub demo_of : (n : ℕ) → n ≤ 100000 → Of (kinds_of (root_of demo_definition)) (demo n)
demo_of n le =
    let c = users_count 1 n in
    let all = users_of 1 n (omega (arith, le)) in
    record_of refl (part (items (omega (arith, c, le)) (users_rise_first n) all) no_part)

pub demo_few : (n : ℕ) → n ≤ 100000 → cells (kinds_of (root_of demo_definition)) (demo n) ≤ cell_limit
demo_few n le = let h = users_cells 1 n in omega (arith, h, le)
