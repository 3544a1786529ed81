-- Worked rows: layouts, values and contents, small enough to be computed by hand.
use Rattle.std.specs.Prelude.{◌≡◌, ℕ, List, [], ◌∷◌, true, ℤ, pos, negsuc, Ok, Err}
use Rattle.frozen_model.specs.Trees.{Flag, Integer, I8, I32, I64, Text, AList, AMap, Leaf, ByteRange, ItemRange, Optional, Struct, NoField, Field}
use Rattle.frozen_model.specs.Values.{Value, Truth, Number, One, Bytes, Items, Absent, Present, Record, NoValue, And}
use Rattle.frozen_model.specs.Layouts.{Layout, Coded}
use Rattle.frozen_model.specs.Packing.{Packs}
use Rattle.frozen_model.specs.Holding.{pass, passes}
use Rattle.frozen_model.specs.Walk.{Fault, open_content}

-- a number as a value
abbrev pub num : ℤ → Value
num z = One (Number z)

-- struct P {1: i32 x; 2: i32 y}
abbrev pub two_fields : Coded → Coded → Layout
two_fields x y = Struct (Field 1 (Leaf (Integer I32) x) (Field 2 (Leaf (Integer I32) y) NoField))

-- two numbers as its value
abbrev pub two_numbers : ℤ → ℤ → Value
two_numbers x y = Record (1 ∷ 2 ∷ []) (And (num x) (And (num y) NoValue))

-- struct T {1: list<string> s}: the widths of the list's distance and count, and of the texts' distance and count
abbrev pub list_of_texts : ℕ → ℕ → ℕ → ℕ → Layout
list_of_texts d c e f = Struct (Field 1 (ItemRange AList d c (ByteRange Text e f)) NoField)

-- the texts a, b, c, d
abbrev pub four_texts : Value
four_texts = Record (1 ∷ []) (And (Items AList (And (Bytes (97 ∷ [])) (And (Bytes (98 ∷ [])) (And (Bytes (99 ∷ [])) (And (Bytes (100 ∷ [])) NoValue))))) NoValue)

-- struct B {1: bool f; 2: i64 m}
abbrev pub flag_and_number : Coded → Coded → Layout
flag_and_number f m = Struct (Field 1 (Leaf Flag f) (Field 2 (Leaf (Integer I64) m) NoField))

-- true and the least i64
abbrev pub true_and_least : Value
true_and_least = Record (1 ∷ 2 ∷ []) (And (One (Truth true)) (And (num (negsuc 9223372036854775807)) NoValue))

-- struct E {1: i64 a; 2: i8 b; 3: i8 c}
abbrev pub three_numbers : Coded → Coded → Coded → Layout
three_numbers a b c = Struct (Field 1 (Leaf (Integer I64) a) (Field 2 (Leaf (Integer I8) b) (Field 3 (Leaf (Integer I8) c) NoField)))

-- the greatest i64, -128, 127
abbrev pub extremes : Value
extremes = Record (1 ∷ 2 ∷ 3 ∷ []) (And (num (pos 9223372036854775807)) (And (num (negsuc 127)) (And (num (pos 127)) NoValue)))

-- struct O {1: optional i32 a}  struct H {1: list<O> os}
abbrev pub optional_items : ℕ → ℕ → ℕ → Coded → Layout
optional_items d c w a = Struct (Field 1 (ItemRange AList d c (Struct (Field 1 (Optional w (Leaf (Integer I32) a)) NoField))) NoField)

-- present with 0, absent, present with 5
abbrev pub three_optionals : Value
three_optionals = Record (1 ∷ []) (And (Items AList
    (And (Record (1 ∷ []) (And (Present (num (pos 0))) NoValue))
    (And (Record (1 ∷ []) (And Absent NoValue))
    (And (Record (1 ∷ []) (And (Present (num (pos 5))) NoValue)) NoValue)))) NoValue)

-- struct M {1: map<i32, string> m}
abbrev pub map_of_texts : ℕ → ℕ → Coded → ℕ → ℕ → Layout
map_of_texts d c k e f = Struct (Field 1 (ItemRange AMap d c (Struct (Field 1 (Leaf (Integer I32) k) (Field 2 (ByteRange Text e f) NoField)))) NoField)

-- a key and a text of one byte
abbrev pub pair : ℤ → ℕ → Value
pair k b = Record (1 ∷ 2 ∷ []) (And (num k) (And (Bytes (b ∷ [])) NoValue))

-- 1: a, 5: e, 9: i
abbrev pub three_pairs : Value
three_pairs = Record (1 ∷ []) (And (Items AMap (And (pair (pos 1) 97) (And (pair (pos 5) 101) (And (pair (pos 9) 105) NoValue)))) NoValue)

-- struct V {1: list<i32> v}
abbrev pub list_of_i32 : ℕ → ℕ → Coded → Layout
list_of_i32 d c k = Struct (Field 1 (ItemRange AList d c (Leaf (Integer I32) k)) NoField)

-- struct I {1: list<i8> v}
abbrev pub list_of_i8 : ℕ → ℕ → Coded → Layout
list_of_i8 d c k = Struct (Field 1 (ItemRange AList d c (Leaf (Integer I8) k)) NoField)

-- 1000, 1001, 1003
abbrev pub thousands : Value
thousands = Record (1 ∷ []) (And (Items AList (And (num (pos 1000)) (And (num (pos 1001)) (And (num (pos 1003)) NoValue)))) NoValue)

-- the bytes are the packing of the value in the layout, and are opened as that value
pub record IsRow (l : Layout) (v : Value) (bs : List ℕ) : Type 0 where
  pub packed : Packs l v bs
  pub opened : open_content bs l ≡ Ok v

-- in the layout the content is refused with the fault
abbrev pub IsRefused : Layout → List ℕ → Fault → Type 0
IsRefused l bs e = open_content bs l ≡ Err e

-- so many passes from the first layout lead to the second, at which they rest
pub record Measures (n : ℕ) (first last : Layout) (v : Value) : Type 0 where
  pub reached : passes n first v ≡ last
  pub rests : pass last v ≡ last
