-- Worked rows, by computing: the kinds and the default of
--   enum E { A = 3 }  struct P { 1: i64 n = 7; 2: optional string s = "no" }
--   struct T { 1: required bool b = true; 3: set<E> e; 4: map<string, list<P>> m = {}; 9: P p }
use Rattle.std.proofs.Common.{◌≡◌, [], ◌∷◌, refl, true}
use Rattle.std.specs.Prelude.{codes, pos}
use Rattle.idl_profile.specs.declared.kinds.Need.TheVariants.{Plain, Required, Optional}
use Rattle.idl_profile.specs.Types.{TypeTree, scalar, text, list_of, set_of, map_of, named, enum_of, struct_of, no_fields, field, flag, i64, without, flag_default, int_default, text_default, empty_default}
use Rattle.frozen_model.specs.Trees as tree
use Rattle.frozen_model.specs.Trees.{Flag, Integer, I32, I64, Text, AList, ASet, AMap, KindTree, Leaf, ByteRange, ItemRange, Struct, NoField, Field}
use Rattle.frozen_model.specs.Values.{Value, Truth, Number, One, Items, Absent, Record, NoValue, And}
use Rattle.type_kinds.specs.KindsOf.{kinds_of}
use Rattle.type_kinds.specs.Defaults.{default_of, default_field}

abbrev struct_p : TypeTree
struct_p = named (struct_of (codes "P") (field (pos 1) (codes "n") Plain (scalar i64) (int_default (pos 7)) (field (pos 2) (codes "s") Optional text (text_default (codes "no")) no_fields)))

abbrev struct_t : TypeTree
struct_t =
    named (struct_of (codes "T")
    (field (pos 1) (codes "b") Required (scalar flag) (flag_default true)
    (field (pos 3) (codes "e") Plain (set_of (named (enum_of (codes "E") (record { name = codes "A"; number = pos 3 } ∷ [])))) without
    (field (pos 4) (codes "m") Plain (map_of text (list_of struct_p)) empty_default
    (field (pos 9) (codes "p") Plain struct_p without no_fields)))))

abbrev kinds_p : KindTree
kinds_p = Struct (Field 1 (Leaf (Integer I64) tt) (Field 2 (tree.Optional tt (ByteRange Text tt tt)) NoField))

row_kinds : kinds_of struct_t
    ≡ Struct (Field 1 (Leaf Flag tt)
    (Field 3 (ItemRange ASet tt tt (Leaf (Integer I32) tt))
    (Field 4 (ItemRange AMap tt tt (Struct (Field 1 (ByteRange Text tt tt) (Field 2 (ItemRange AList tt tt kinds_p) NoField))))
    (Field 9 kinds_p NoField))))
row_kinds = refl

-- the default of an optional field is left out, and that of a required one is written
abbrev default_p : Value
default_p = Record (1 ∷ 2 ∷ []) (And (One (Number (pos 7))) (And Absent NoValue))

row_default : default_of struct_t
    ≡ Record (1 ∷ 3 ∷ 4 ∷ 9 ∷ []) (And (One (Truth true)) (And (Items ASet NoValue) (And (Items AMap NoValue) (And default_p NoValue))))
row_default = refl

row_optional : default_field Optional text (text_default (codes "no")) ≡ Absent
row_optional = refl

row_struct : default_field Plain struct_p empty_default ≡ default_p
row_struct = refl
