-- A field is smaller than its struct, and its default stands on top of those before.
use Rattle.type_kinds.specs.KindsOf.{kinds_of}
use Rattle.typed_tree.specs.Made.{Makes, FieldsAreMade}
use Rattle.std.proofs.Common.{◌≡◌, ◌∙◌, ℕ, List, ap, sym, length, w64, of_z, to_z, rules, arith, subst, refl, inl}
use Rattle.std.specs.Prelude.{ℤ}
use Rattle.idl_profile.specs.Types.{fields_of, kind_of, flag_default, int_default, text_default}
use Rattle.idl_parse.specs.Refs.{type_of_ref, field_of_ref}
use Rattle.frozen_model.specs.Values.{Number, One, Bytes}
use Rattle.root_kinds.proofs.References.{field_ref_is_accepted}
use Rattle.type_kinds.specs.Accepted.{IsWritten}
use Rattle.type_kinds.specs.Laws.{Any}
use Rattle.typed_tree.specs.declared.tree.TreeKind.TheVariants as made
use Rattle.typed_tree.specs.Filled.{struct_with, made_as}
use Rattle.idl_profile.specs.declared.kinds.TypeKind.TheVariants as kinds
use Rattle.idl_profile.specs.declared.kinds.Need.TheVariants.{Optional}
use Rattle.typed_tree.proofs.Linked.{plain-made, list-kinds, set-kinds, map-kinds, bytes-kinds}
use Rattle.typed_tree.proofs.Making.{trees-many}
use Rattle.typed_tree.specs.Rooms.{room_of}
use Rattle.typed_tree.specs.Sizes.{field_kinds}
use Rattle.typed_tree.specs.Trees.{trees, Pushes}
use Rattle.typed_tree.proofs.Typed.{field-smaller}
use Rattle.typed_tree.proofs.Written.{flag-kind, int-kind, binary-kind, written-pushed}
use Rattle.typed_tree.proofs.Filling.{Fills, fills-more, fills-joined, room-for-more, room-for-struct, struct-default, fills-length, fills-last, fills-made}
use Rattle.typed_tree.proofs.builder.Builder.+fill.Goals as goal

pub put_struct-put_default-requires : goal.put_struct-put_default-requires
put_struct-put_default-requires t c =
    let s = type_of_ref c.args.ty in
    let f = field_of_ref c.field_at.result in
    let less = field-smaller s c.loop-i.i f c.field_at.ensures in
    let room = room-for-more s c.loop-i.i f c.field_at.ensures c.args.self.now c.loop-i.self c.requires.kind c.requires.room c.loop-i.invariant in
    (omega (arith, c.decreases, less), room)

pub put_struct-loop-i-preserved : goal.put_struct-loop-i-preserved
put_struct-loop-i-preserved t c =
    fills-more (type_of_ref c.args.ty) c.loop-i.i (field_of_ref c.field_at.result) c.field_at.ensures c.args.self.now c.loop-i.self c.put_default.new.self c.loop-i.invariant c.put_default.ensures.pushed c.put_default.ensures.made

pub put_struct-join_fields-requires-clause-room : goal.put_struct-join_fields-requires-clause-room
put_struct-join_fields-requires-clause-room t c = room-for-struct c.args.self.now c.loop-i.self (type_of_ref c.args.ty) c.loop-i.i c.requires.kind c.requires.room c.loop-i.invariant

pub put_struct-join_fields-requires-clause-as_many : goal.put_struct-join_fields-requires-clause-as_many
put_struct-join_fields-requires-clause-as_many t c =
    let b = c.args.self.now in
    let s = type_of_ref c.args.ty in
    let all : c.loop-i.i ≡ length (fields_of s) = omega (arith, c.loop-i-test.false, c.loop-i.auto.i-end, c.field_count-i-end.ensures) in
    let here : c.len-base.result ≡ length b.stack.items = c.len-base.ensures ∙ b.stack.ok.0 in
    fills-length b c.loop-i.self s _ here (subst (Fills b c.loop-i.self s) all c.loop-i.invariant)

pub put_struct-returns-clause-pushed : goal.put_struct-returns-clause-pushed
put_struct-returns-clause-pushed t c =
    let b = c.args.self.now in
    let s = type_of_ref c.args.ty in
    let all : c.loop-i.i ≡ length (fields_of s) = omega (arith, c.loop-i-test.false, c.loop-i.auto.i-end, c.field_count-i-end.ensures) in
    let here : c.len-base.result ≡ length b.stack.items = c.len-base.ensures ∙ b.stack.ok.0 in
    let filled = subst (Fills b c.loop-i.self s) all c.loop-i.invariant in
    fills-joined b c.loop-i.self c.join_fields.new.self s _ _ c.requires.kind filled c.join_fields.ensures.joined
    (ap (struct_with (fields_of s)) (fills-last b c.loop-i.self s _ here filled) ∙ struct-default s c.requires.kind)

pub put_written-returns-in-Flag-clause-pushed : goal.put_written-returns-in-Flag-clause-pushed
put_written-returns-in-Flag-clause-pushed t c =
    let f = field_of_ref c.args.field in
    let may = subst (IsWritten Any f.type) (sym c.in-Flag.ensures) (field_ref_is_accepted c.args.field).1 in
    written-pushed c.args.self.now c.put.new.self f.type (flag_default c.in-Flag.x) f.default made.Flag c.in-Flag.ensures (flag-kind f.type c.in-Flag.x may) c.put.ensures.pushed

pub put_written-returns-in-Int-clause-pushed : goal.put_written-returns-in-Int-clause-pushed
put_written-returns-in-Int-clause-pushed t c =
    let f = field_of_ref c.args.field in
    let may = subst (IsWritten Any f.type) (sym c.in-Int.ensures) (field_ref_is_accepted c.args.field).1 in
    let same : to_z w64 (of_z w64 c.in-Int.x) ≡ c.in-Int.x = search rules in
    written-pushed c.args.self.now c.put-in-Int.new.self f.type (int_default c.in-Int.x) f.default made.Int c.in-Int.ensures (int-kind f.type c.in-Int.x may)
    (subst (λ (z : ℤ). Pushes c.args.self.now c.put-in-Int.new.self (One (Number z)) made.Int (room_of 1 0)) same c.put-in-Int.ensures.pushed)

pub put_written-returns-in_default-clause-pushed : goal.put_written-returns-in_default-clause-pushed
put_written-returns-in_default-clause-pushed t c =
    let f = field_of_ref c.args.field in
    let may = subst (IsWritten Any f.type) (sym c.in-Text.ensures) (field_ref_is_accepted c.args.field).1 in
    written-pushed c.args.self.now c.put_binary.new.self f.type (text_default c.in-Text.x.now) f.default made.Bytes c.in-Text.ensures (binary-kind f.type c.in-Text.x.now (λ e. c.in_default.not-Text (c.kind.ensures ∙ ap kind_of c.ty.ensures ∙ e)) may)
    (subst (λ (x : List ℕ). Pushes c.args.self.now c.put_binary.new.self (Bytes x) made.Bytes (room_of 1 (length x))) c.as_bytes.ensures.value c.put_binary.ensures.pushed)

-- ---- as what they are made

pub put_default-returns-in-Optional-clause-made : goal.put_default-returns-in-Optional-clause-made
put_default-returns-in-Optional-clause-made t c =
    let f = field_of_ref c.args.field in
    let need : Optional ≡ f.need = sym c.in-Optional.is ∙ c.need.ensures in
    subst (λ n. Makes c.args.self.now c.put.new.self 0 (field_kinds n f.type)) need (c.put.ensures.made (field_kinds Optional f.type) (inl refl, tt))

pub put_struct-returns-clause-made : goal.put_struct-returns-clause-made
put_struct-returns-clause-made t c =
    let b = c.args.self.now in
    let s = type_of_ref c.args.ty in
    let all : c.loop-i.i ≡ length (fields_of s) = omega (arith, c.loop-i-test.false, c.loop-i.auto.i-end, c.field_count-i-end.ensures) in
    let here : c.len-base.result ≡ length (trees b) = c.len-base.ensures ∙ b.stack.ok.0 ∙ sym (trees-many b) in
    let filled = subst (Fills b c.loop-i.self s) all c.loop-i.invariant in
    fills-made b c.loop-i.self c.join_fields.new.self s filled (c.join_fields.ensures.made (subst (λ n. FieldsAreMade c.loop-i.self n (fields_of s) (length (fields_of s))) (sym here) filled.made))

pub put_own_default-returns-in-Flag-clause-made : goal.put_own_default-returns-in-Flag-clause-made
put_own_default-returns-in-Flag-clause-made t c =
    let ty = type_of_ref c.args.ty in
    let kind : kinds.Flag ≡ kind_of ty = sym c.in-Flag.is ∙ c.kind.ensures in
    c.put.ensures.made (kinds_of ty) (plain-made _ _ ty _ (ap made_as kind) refl (λ e. absurd (no-struct (kind ∙ e))))
  where
    no-struct : kinds.Flag ≡ kinds.Struct → ⊥
    no-struct e = cc

pub put_own_default-returns-in-I8-clause-made : goal.put_own_default-returns-in-I8-clause-made
put_own_default-returns-in-I8-clause-made t c =
    let ty = type_of_ref c.args.ty in
    let kind : kinds.I8 ≡ kind_of ty = sym c.in-I8.is ∙ c.kind.ensures in
    c.put-in-I8.ensures.made (kinds_of ty) (plain-made _ _ ty _ (ap made_as kind) refl (λ e. absurd (no-struct (kind ∙ e))))
  where
    no-struct : kinds.I8 ≡ kinds.Struct → ⊥
    no-struct e = cc

pub put_own_default-returns-in-I16-clause-made : goal.put_own_default-returns-in-I16-clause-made
put_own_default-returns-in-I16-clause-made t c =
    let ty = type_of_ref c.args.ty in
    let kind : kinds.I16 ≡ kind_of ty = sym c.in-I16.is ∙ c.kind.ensures in
    c.put-in-I16.ensures.made (kinds_of ty) (plain-made _ _ ty _ (ap made_as kind) refl (λ e. absurd (no-struct (kind ∙ e))))
  where
    no-struct : kinds.I16 ≡ kinds.Struct → ⊥
    no-struct e = cc

pub put_own_default-returns-in-I32-clause-made : goal.put_own_default-returns-in-I32-clause-made
put_own_default-returns-in-I32-clause-made t c =
    let ty = type_of_ref c.args.ty in
    let kind : kinds.I32 ≡ kind_of ty = sym c.in-I32.is ∙ c.kind.ensures in
    c.put-in-I32.ensures.made (kinds_of ty) (plain-made _ _ ty _ (ap made_as kind) refl (λ e. absurd (no-struct (kind ∙ e))))
  where
    no-struct : kinds.I32 ≡ kinds.Struct → ⊥
    no-struct e = cc

pub put_own_default-returns-in-I64-clause-made : goal.put_own_default-returns-in-I64-clause-made
put_own_default-returns-in-I64-clause-made t c =
    let ty = type_of_ref c.args.ty in
    let kind : kinds.I64 ≡ kind_of ty = sym c.in-I64.is ∙ c.kind.ensures in
    c.put-in-I64.ensures.made (kinds_of ty) (plain-made _ _ ty _ (ap made_as kind) refl (λ e. absurd (no-struct (kind ∙ e))))
  where
    no-struct : kinds.I64 ≡ kinds.Struct → ⊥
    no-struct e = cc

pub put_own_default-returns-in-Enum-clause-made : goal.put_own_default-returns-in-Enum-clause-made
put_own_default-returns-in-Enum-clause-made t c =
    let ty = type_of_ref c.args.ty in
    let kind : kinds.Enum ≡ kind_of ty = sym c.in-Enum.is ∙ c.kind.ensures in
    c.put-in-Enum.ensures.made (kinds_of ty) (plain-made _ _ ty _ (ap made_as kind) refl (λ e. absurd (no-struct (kind ∙ e))))
  where
    no-struct : kinds.Enum ≡ kinds.Struct → ⊥
    no-struct e = cc

pub put_own_default-returns-in-List-clause-made : goal.put_own_default-returns-in-List-clause-made
put_own_default-returns-in-List-clause-made t c =
    let ty = type_of_ref c.args.ty in
    let is = list-kinds ty (sym c.kind.ensures ∙ c.in-List.is) in
    subst (Makes c.args.self.now c.put_empty.new.self 0) is.1 (c.put_empty.ensures.made is.0)

pub put_own_default-returns-in-Set-clause-made : goal.put_own_default-returns-in-Set-clause-made
put_own_default-returns-in-Set-clause-made t c =
    let ty = type_of_ref c.args.ty in
    let is = set-kinds ty (sym c.kind.ensures ∙ c.in-Set.is) in
    subst (Makes c.args.self.now c.put_empty-in-Set.new.self 0) is.1 (c.put_empty-in-Set.ensures.made is.0)

pub put_own_default-returns-in-Map-clause-made : goal.put_own_default-returns-in-Map-clause-made
put_own_default-returns-in-Map-clause-made t c =
    let ty = type_of_ref c.args.ty in
    let is = map-kinds ty (sym c.kind.ensures ∙ c.in-Map.is) in
    subst (Makes c.args.self.now c.put_empty-in-Map.new.self 0) is.1 (c.put_empty-in-Map.ensures.made is.0)

pub put_written-returns-in-Flag-clause-made : goal.put_written-returns-in-Flag-clause-made
put_written-returns-in-Flag-clause-made t c =
    let f = field_of_ref c.args.field in
    let may = subst (IsWritten Any f.type) (sym c.in-Flag.ensures) (field_ref_is_accepted c.args.field).1 in
    let kind = flag-kind f.type c.in-Flag.x may in
    c.put.ensures.made (kinds_of f.type) (plain-made _ _ f.type _ (sym kind) refl (λ e. absurd (other (ap made_as (sym e) ∙ kind))))
  where
    other : made.Struct ≡ made.Flag → ⊥
    other e = cc

pub put_written-returns-in-Int-clause-made : goal.put_written-returns-in-Int-clause-made
put_written-returns-in-Int-clause-made t c =
    let f = field_of_ref c.args.field in
    let may = subst (IsWritten Any f.type) (sym c.in-Int.ensures) (field_ref_is_accepted c.args.field).1 in
    let kind = int-kind f.type c.in-Int.x may in
    c.put-in-Int.ensures.made (kinds_of f.type) (plain-made _ _ f.type _ (sym kind) refl (λ e. absurd (other (ap made_as (sym e) ∙ kind))))
  where
    other : made.Struct ≡ made.Int → ⊥
    other e = cc

pub put_written-returns-in_default-clause-made : goal.put_written-returns-in_default-clause-made
put_written-returns-in_default-clause-made t c =
    let f = field_of_ref c.args.field in
    let may = subst (IsWritten Any f.type) (sym c.in-Text.ensures) (field_ref_is_accepted c.args.field).1 in
    let kind = binary-kind f.type c.in-Text.x.now (λ e. c.in_default.not-Text (c.kind.ensures ∙ ap kind_of c.ty.ensures ∙ e)) may in
    subst (Makes c.args.self.now c.put_binary.new.self 0) (bytes-kinds f.type kind) c.put_binary.ensures.made
