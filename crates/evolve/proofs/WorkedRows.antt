-- Worked rows, by computing: the struct W {1: i32 a; 2: i32 b} with 3 and 4, and M {1: map<i32,string> m}
-- with "a", "e" and "i" at 1, 5 and 9, under other definitions.
use Rattle.std.proofs.Common.{◌≡◌, [], ◌∷◌, true, false, refl}
use Rattle.std.specs.Prelude.{ℕ, ℤ, List, codes, pos, Some, None}
use Rattle.idl_profile.specs.declared.kinds.Need.{Need}
use Rattle.idl_profile.specs.declared.kinds.Need.TheVariants.{Plain, Required, Optional}
use Rattle.idl_profile.specs.Types.{TypeTree, scalar, text, list_of, map_of, named, enum_of, struct_of}
use Rattle.idl_profile.specs.Types.{no_fields, field, i16, i32, i64, without, int_default}
use Rattle.frozen_model.specs.Values.{Value, Bytes, Items, Record, NoValue, And}
use Rattle.frozen_model.specs.Trees.{AMap}
use Rattle.frozen_model.specs.Layouts.{Version1, Version2, TwosComplement, FromBase, Described, described}
use Rattle.frozen_model.specs.Bits.{digits}
use Rattle.frozen_model.specs.Rows.{num, two_fields, two_numbers, map_of_texts, optional_items}
use Rattle.frozen_model.specs.Rows.{three_optionals}
use Rattle.path_text.specs.Steps.{field_step, index_step, key_step, int_key, PlacedStep, placed}
use Rattle.evolve.specs.Binding.{Compatible, bind_fault, type_changed, required_absent}
use Rattle.evolve.specs.Projection.{proj}
use Rattle.evolve.specs.Parts.{at}
use Rattle.evolve.specs.Plans.{nodes_at}
use Rattle.evolve.specs.Costs.{lookup_cost}

-- the layouts of W with 3 and 4: of version 1, of version 2, and of version 2 and not relaxed
abbrev first_form : Described
first_form = described Version1 false (two_fields (TwosComplement 3) (TwosComplement 4))

abbrev second_form : Described
second_form = described Version2 true (two_fields (FromBase (pos 3) 0) (FromBase (pos 4) 0))

abbrev strict_form : Described
strict_form = described Version2 false (two_fields (FromBase (pos 3) 0) (FromBase (pos 4) 0))

-- ---- other definition

-- struct R {3: i32 c = 7; 2: i32 b}
abbrev with_default : TypeTree
with_default = named (struct_of (codes "R")
    (field (pos 2) (codes "b") Plain (scalar i32) without
    (field (pos 3) (codes "c") Plain (scalar i32) (int_default (pos 7)) no_fields)))

row_binds : Compatible first_form with_default
row_binds = (refl, (tt, tt))

row_no_fault : bind_fault first_form with_default ≡ None
row_no_fault = refl

row_projected : proj with_default (two_numbers (pos 3) (pos 4)) ≡ Record (2 ∷ 3 ∷ [])
    (And (num (pos 4)) (And (num (pos 7)) NoValue))
row_projected = refl

row_c : at (placed 0 (field_step (codes "c")) ∷ []) with_default
    (proj with_default (two_numbers (pos 3) (pos 4))) ≡ Some (num (pos 7))
row_c = refl

row_b : at (placed 0 (field_step (codes "b")) ∷ []) with_default
    (proj with_default (two_numbers (pos 3) (pos 4))) ≡ Some (num (pos 4))
row_b = refl

-- ---- refused binding

-- struct R {1: i32 a; 2: i32 b; 3: required i32 c}
abbrev with_required : TypeTree
with_required = named (struct_of (codes "R")
    (field (pos 1) (codes "a") Plain (scalar i32) without
    (field (pos 2) (codes "b") Plain (scalar i32) without
    (field (pos 3) (codes "c") Required (scalar i32) without no_fields))))

-- struct R {1: i64 a} and struct R {1: i16 a}
abbrev with_i64 : TypeTree
with_i64 = named (struct_of (codes "R") (field (pos 1) (codes "a") Plain (scalar i64) without no_fields))

abbrev with_i16 : TypeTree
with_i16 = named (struct_of (codes "R") (field (pos 1) (codes "a") Plain (scalar i16) without no_fields))

row_required : bind_fault first_form with_required ≡ Some (required_absent (pos 3 ∷ []))
row_required = refl

row_first_form_i64 : bind_fault first_form with_i64 ≡ Some (type_changed (pos 1 ∷ []))
row_first_form_i64 = refl

-- ---- wider integers

row_wider : bind_fault second_form with_i64 ≡ None
row_wider = refl

row_wider_a : at (placed 0 (field_step (codes "a")) ∷ []) with_i64
    (proj with_i64 (two_numbers (pos 3) (pos 4))) ≡ Some (num (pos 3))
row_wider_a = refl

row_narrower : bind_fault second_form with_i16 ≡ Some (type_changed (pos 1 ∷ []))
row_narrower = refl

row_strict : bind_fault strict_form with_i64 ≡ Some (type_changed (pos 1 ∷ []))
row_strict = refl

-- struct M {1: map<i64,string> m}
abbrev wider_keys : TypeTree
wider_keys = named (struct_of (codes "M")
    (field (pos 1) (codes "m") Plain (map_of (scalar i64) text) without no_fields))

abbrev entry : ℤ → Value → Value
entry key v = Record (1 ∷ 2 ∷ []) (And (num key) (And v NoValue))

abbrev three_texts : Value
three_texts = Record (1 ∷ [])
    (And (Items AMap (And (entry (pos 1) (Bytes (codes "a")))
    (And (entry (pos 5) (Bytes (codes "e"))) (And (entry (pos 9) (Bytes (codes "i"))) NoValue)))) NoValue)

row_wider_keys : bind_fault (described Version2 true (map_of_texts 1 2 (FromBase (pos 1) 4) 3 1))
    wider_keys ≡ None
row_wider_keys = refl

row_strict_keys : bind_fault (described Version2 false (map_of_texts 1 2 (FromBase (pos 1) 4) 3 1))
    wider_keys ≡ Some (type_changed (pos 1 ∷ pos 3 ∷ pos 1 ∷ []))
row_strict_keys = refl

row_key : at (placed 0 (field_step (codes "m")) ∷ placed 2 (key_step (int_key (pos 5))) ∷ []) wider_keys
    (proj wider_keys three_texts) ≡ Some (Bytes (codes "e"))
row_key = refl

row_no_key : at (placed 0 (field_step (codes "m")) ∷ placed 2 (key_step (int_key (pos 4294967296))) ∷ [])
    wider_keys (proj wider_keys three_texts) ≡ None
row_no_key = refl

-- ---- other parts

-- struct O {1: optional i32 a}  struct H {1: list<O> os}: present with 0, absent, present with 5
abbrev optional_root : TypeTree
optional_root = named (struct_of (codes "H")
    (field (pos 1) (codes "os") Plain
    (list_of (named (struct_of (codes "O")
    (field (pos 1) (codes "a") Optional (scalar i32) without no_fields)))) without no_fields))

abbrev optional_layout : Described
optional_layout = described Version2 true (optional_items 1 2 1 (FromBase (pos 0) 3))

row_optional_binds : bind_fault optional_layout optional_root ≡ None
row_optional_binds = refl

row_same : proj optional_root three_optionals ≡ three_optionals
row_same = refl

abbrev item_field : ℕ → List PlacedStep
item_field i =
    placed 0 (field_step (codes "os")) ∷ placed 3 (index_step i) ∷ placed 6 (field_step (codes "a")) ∷ []

row_present : at (item_field 0) optional_root three_optionals ≡ Some (num (pos 0))
row_present = refl

row_absent : at (item_field 1) optional_root three_optionals ≡ None
row_absent = refl

row_past : at (item_field 18446744073709551615) optional_root three_optionals ≡ None
row_past = refl

-- a plain field in the place of an optional one, a narrower value of an optional, and a field of a struct
-- that is lacked
abbrev with_items : Need → TypeTree → TypeTree
with_items n t = named (struct_of (codes "H")
    (field (pos 1) (codes "os") Plain
    (list_of (named (struct_of (codes "O") (field (pos 1) (codes "a") n t without no_fields)))) without
    no_fields))

row_plain_for_optional : bind_fault optional_layout (with_items Plain (scalar i32))
    ≡ Some (type_changed (pos 1 ∷ pos 3 ∷ pos 1 ∷ []))
row_plain_for_optional = refl

row_narrower_present : bind_fault optional_layout (with_items Optional (scalar i16))
    ≡ Some (type_changed (pos 1 ∷ pos 3 ∷ pos 1 ∷ pos 2 ∷ []))
row_narrower_present = refl

row_optional_for_plain : bind_fault second_form
    (named (struct_of (codes "R") (field (pos 1) (codes "a") Optional (scalar i32) without no_fields)))
    ≡ Some (type_changed (pos 1 ∷ []))
row_optional_for_plain = refl

-- an enum is an i32, and no wider than one
row_enum : bind_fault second_form
    (named (struct_of (codes "R")
    (field (pos 1) (codes "a") Plain (named (enum_of (codes "E") [])) without no_fields))) ≡ None
row_enum = refl

-- a struct that the layout lacks is not followed further, also where it has a required field
row_lacked : bind_fault second_form
    (named (struct_of (codes "R") (field (pos 4) (codes "p") Plain with_required without no_fields))) ≡ None
row_lacked = refl

-- ---- the nodes of plans

row_plan : nodes_at with_default first_form.tree 0 ≡ Some 0 ∷ Some 2 ∷ None ∷ []
row_plan = refl

row_own_plan : nodes_at optional_root optional_layout.tree 0
    ≡ Some 0 ∷ Some 1 ∷ Some 2 ∷ Some 3 ∷ Some 4 ∷ Some 5 ∷ Some 6 ∷ Some 7 ∷ []
row_own_plan = refl

row_map_plan : nodes_at wider_keys (map_of_texts 1 2 (FromBase (pos 1) 4) 3 1) 0
    ≡ Some 0 ∷ Some 1 ∷ Some 2 ∷ Some 3 ∷ Some 4 ∷ Some 5 ∷ Some 6 ∷ Some 7 ∷ Some 8 ∷ []
row_map_plan = refl

row_lacked_plan : nodes_at
    (named (struct_of (codes "R")
    (field (pos 2) (codes "b") Plain (scalar i32) without
    (field (pos 4) (codes "p") Optional with_i64 without no_fields)))) first_form.tree 0
    ≡ Some 0 ∷ Some 2 ∷ None ∷ None ∷ None ∷ None ∷ []
row_lacked_plan = refl

-- ---- what lookups may cost

row_cost : lookup_cost (placed 0 (field_step (codes "m")) ∷ placed 2 (key_step (int_key (pos 5))) ∷ [])
    wider_keys
    three_texts ≡ 2
unfolding digits
row_cost = refl

row_free : lookup_cost (item_field 0) optional_root three_optionals ≡ 0
row_free = refl
