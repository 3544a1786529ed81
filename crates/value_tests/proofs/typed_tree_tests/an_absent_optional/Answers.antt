-- The value is of the type: one field, an optional that is absent.
use Rattle.std.proofs.Common.{rules, ◌≡◌, ◌∙◌, ◌++◌, ℕ, List, [], ◌∷◌, length, get_or, Some, ap, sym, subst, arith}
use Rattle.std.specs.Prelude.{pos, nat_abs}
use Rattle.std.specs.List.{slice_get}
use Rattle.std.proofs.lemmas.Option.{get_or_from_slice_get}
use Rattle.idl_profile.specs.declared.kinds.Need.TheVariants.{Plain, Required, Optional}
use Rattle.idl_profile.specs.declared.kinds.TypeKind.TheVariants as kinds
use Rattle.idl_profile.specs.Types.{TypeTree, scalar, text, bytes, list_of, set_of, map_of, named, enum_of, struct_of, Fields, no_fields, field, DefField, field_list, fields_of, kind_of, flag, i8, i16, i32, i64}
use Rattle.idl_parse.specs.Refs.{type_of_ref, field_of_ref}
use Rattle.frozen_model.specs.Values.{Value, Absent, Record, NoValue, And, Of, absent, no_part, part, record_of}
use Rattle.type_kinds.specs.KindsOf.{kinds_of}
use Rattle.typed_tree.specs.Fields as values
use Rattle.typed_tree.specs.Trees.{trees, last, but_last}
use Rattle.typed_tree.specs.References.{value_of_ref}
use Rattle.value_tests.proofs.typed_tree_tests.an_absent_optional.Goals as goal

by_fields : (fs : Fields) (f : DefField) → length (field_list fs) ≡ 1 → get_or (field_list fs) 0 f ≡ f → f.id ≡ pos 1 → f.need ≡ Optional → Of (kinds_of (named (struct_of [] fs))) (Record (1 ∷ []) (And Absent NoValue))
by_fields no_fields f one at id is = absurd (omega (arith, one))
by_fields (field j w Optional t d no_fields) f one at id is = record_of (ap (λ z. nat_abs z ∷ []) (sym (ap (λ (g : DefField). g.id) at ∙ id))) (part absent no_part)
by_fields (field j w Plain t d no_fields) f one at id is = let same = ap (λ (g : DefField). g.need) at ∙ is in absurd (cc)
by_fields (field j w Required t d no_fields) f one at id is = let same = ap (λ (g : DefField). g.need) at ∙ is in absurd (cc)
by_fields (field j w a t d (field k u b s e fs)) f one at id is = absurd (omega (arith, one))

one-optional : (t : TypeTree) (f : DefField) → kind_of t ≡ kinds.Struct → length (fields_of t) ≡ 1 → slice_get (fields_of t) 0 ≡ Some f → f.id ≡ pos 1 → f.need ≡ Optional → Of (kinds_of t) (Record (1 ∷ []) (And Absent NoValue))
one-optional (named (struct_of w fs)) f e one at id is = by_fields fs f one (get_or_from_slice_get (field_list fs) 0 f f at) id is
one-optional (named (enum_of w ms)) f e one at id is = absurd (cc)
one-optional (scalar flag) f e one at id is = absurd (cc)
one-optional (scalar i8) f e one at id is = absurd (cc)
one-optional (scalar i16) f e one at id is = absurd (cc)
one-optional (scalar i32) f e one at id is = absurd (cc)
one-optional (scalar i64) f e one at id is = absurd (cc)
one-optional text f e one at id is = absurd (cc)
one-optional bytes f e one at id is = absurd (cc)
one-optional (list_of x) f e one at id is = absurd (cc)
one-optional (set_of x) f e one at id is = absurd (cc)
one-optional (map_of x y) f e one at id is = absurd (cc)

pub cells-requires : goal.cells-requires
cells-requires g c =
    let of_type = type_of_ref c.root-ty.result in
    let f = field_of_ref c.field_at-field.result in
    let made : trees c.absent.new.self ≡ Absent ∷ [] = c.in_ok-absent.ensures.pushed.trees ∙ ap (λ (ts : List Value). ts ++ Absent ∷ []) c.new-builder.ensures.trees in
    let joined : trees c.structure.new.self ≡ Record (1 ∷ []) (And Absent NoValue) ∷ [] = c.in_ok-structure.ensures.joined.trees ∙ ap (λ (ts : List Value). but_last 1 ts ++ values.record_of (1 ∷ []) (last 1 ts) ∷ []) made in
    let is : value_of_ref c.top.result ≡ Record (1 ∷ []) (And Absent NoValue) = c.top.ensures.value ∙ ap (λ (ts : List Value). get_or ts 0 Absent) (sym c.finish-tree.ensures.tree ∙ joined) in
    let one : length (fields_of of_type) ≡ 1 = search rules in
    let id : f.id ≡ pos 1 = search rules in
    let need : f.need ≡ Optional = search rules in
    subst (Of (kinds_of of_type)) (sym is) (one-optional of_type f c.root-ty.ensures.kind one c.field_at-field.ensures id need)
