use Rattle.std.proofs.Common.{◌≡◌, ◌≢◌, ◌∙◌, ◌≤◌, ◌++◌, ◌∷◌, [], sym, ap, subst, arith, List, map, take, drop, length, length-append}
use Rattle.std.specs.Prelude.{ℤ, AllPairs, Bool}
use Rattle.idl_profile.specs.Types.{DefField}
use Rattle.idl_parse.specs.Refs.{fields_of_refs}
use Rattle.typed_tree.specs.Fields.{record_of, id_numbers}
use Rattle.typed_tree.specs.Trees.{trees, last, but_last}
use Rattle.typed_reading.specs.Marks.{Marked}
use Rattle.compact_codec.specs.Building.{ids_of, without, AreSet}
use Rattle.compact_codec.proofs.Finish.{proper, differ, there, joined_is, tail_is}
use Rattle.std.proofs.lemmas.List.{take-append-le}
use Rattle.compact_codec.proofs.Structs.{drop_more}
use Rattle.compact_codec.proofs.fields.finish_struct.Goals as goal

pub slice_bounds-structure-count : goal.slice_bounds-structure-count
slice_bounds-structure-count c =
    let fs = fields_of_refs c.args.fields in
    let rs = c.requires.held.1 in
    let gs = without (ids_of rs) fs in
    let m = subst (λ (z : List Bool). Marked fs (drop c.args.first_mark z) (ids_of rs)) (sym c.as_slice.ensures.value) c.requires.held.2.marked in
    let all = ap (λ (zs : List ℤ). length zs) (c.deref.ensures.value ∙ c.in_ok-fill_missing.ensures.ids (ids_of rs) m) in
    omega (arith, c.requires.first_id, all, length-append c.args.ids.now.items (map (λ (f : DefField). f.id) gs))

pub slice_bounds-structure-start : goal.slice_bounds-structure-start
slice_bounds-structure-start c =
    let fs = fields_of_refs c.args.fields in
    let rs = c.requires.held.1 in
    let gs = without (ids_of rs) fs in
    let m = subst (λ (z : List Bool). Marked fs (drop c.args.first_mark z) (ids_of rs)) (sym c.as_slice.ensures.value) c.requires.held.2.marked in
    let all = ap (λ (zs : List ℤ). length zs) (c.deref.ensures.value ∙ c.in_ok-fill_missing.ensures.ids (ids_of rs) m) in
    let inside : c.args.first_id ≤ length c.deref.result.now = omega (arith, c.requires.first_id, all, length-append c.args.ids.now.items (map (λ (f : DefField). f.id) gs)) in
    inside

pub structure-requires : goal.structure-requires
structure-requires c =
    let fs = fields_of_refs c.args.fields in
    let rs = c.requires.held.1 in
    let h = c.requires.held.2 in
    let k = c.args.first_id in
    let gs = without (ids_of rs) fs in
    let m = subst (λ (z : List Bool). Marked fs (drop c.args.first_mark z) (ids_of rs)) (sym c.as_slice.ensures.value) h.marked in
    let put = c.in_ok-fill_missing.ensures.trees (ids_of rs) m in
    let added = ap (drop k) (c.in_ok-fill_missing.ensures.ids (ids_of rs) m) ∙ drop_more k c.args.ids.now.items (map (λ (f : DefField). f.id) gs) c.requires.first_id in
    let same = tail_is k c.deref.result.now ∙ ap (drop k) c.deref.ensures.value in
    let p = proper c.args.fields c.requires.accepted in
    record {
      differ = subst (AllPairs (λ i j. i ≢ j)) (sym same) (differ fs p c.requires.held.0 rs (trees c.args.builder.now) (trees c.fill_missing.new.builder) (drop k c.args.ids.now.items) (drop k c.fill_missing.new.ids.items) (drop c.args.first_mark c.args.marks.now.items) h put added);
      there = subst (λ (zs : List ℤ). length zs ≤ length (trees c.fill_missing.new.builder)) (sym same) (there fs p c.requires.held.0 rs (trees c.args.builder.now) (trees c.fill_missing.new.builder) (drop k c.args.ids.now.items) (drop k c.fill_missing.new.ids.items) (drop c.args.first_mark c.args.marks.now.items) h put added);
    }

pub returns-clause-trees : goal.returns-clause-trees
returns-clause-trees c front rs h =
    let fs = fields_of_refs c.args.fields in
    let k = c.args.first_id in
    let us = trees c.fill_missing.new.builder in
    let new = trees c.structure.new.self in
    let gs = without (ids_of rs) fs in
    let m = subst (λ (z : List Bool). Marked fs (drop c.args.first_mark z) (ids_of rs)) (sym c.as_slice.ensures.value) h.marked in
    let put = c.in_ok-fill_missing.ensures.trees (ids_of rs) m in
    let added = ap (drop k) (c.in_ok-fill_missing.ensures.ids (ids_of rs) m) ∙ drop_more k c.args.ids.now.items (map (λ (f : DefField). f.id) gs) c.requires.first_id in
    let same = tail_is k c.deref.result.now ∙ ap (drop k) c.deref.ensures.value in
    joined_is fs (proper c.args.fields c.requires.accepted) front rs (trees c.args.builder.now) us (drop k c.args.ids.now.items) (drop k c.fill_missing.new.ids.items) (drop c.args.first_mark c.args.marks.now.items) h put added new
    (subst (λ (zs : List ℤ). new ≡ but_last (length zs) us ++ record_of (id_numbers zs) (last (length zs) us) ∷ []) same c.in_ok-structure.ensures.joined.trees)

pub returns-clause-ids : goal.returns-clause-ids
returns-clause-ids c =
    let fs = fields_of_refs c.args.fields in
    let rs = c.requires.held.1 in
    let k = c.args.first_id in
    let m = subst (λ (z : List Bool). Marked fs (drop c.args.first_mark z) (ids_of rs)) (sym c.as_slice.ensures.value) c.requires.held.2.marked in
    c.truncate.ensures.items ∙ ap (take k) (c.in_ok-fill_missing.ensures.ids (ids_of rs) m) ∙ take-append-le k c.args.ids.now.items (map (λ (f : DefField). f.id) (without (ids_of rs) fs)) c.requires.first_id

pub fill_missing-requires : goal.fill_missing-requires
fill_missing-requires c = record { accepted = c.requires.accepted; filled = subst (λ (z : List Bool). AreSet c.args.filled (drop c.args.first_mark z)) (sym c.as_slice.ensures.value) c.requires.filled }
