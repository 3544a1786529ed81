-- Errors of the parts are errors of the whole.
use Rattle.std.proofs.Common.{◌≡◌, ◌-◌, ◌<◌, ℕ, List, [], Some, Result, Ok, Err, subst}
use Rattle.std.specs.Prelude.{ℤ}
use Rattle.exact_reading.specs.declared.stop.Stop.{Stop}
use Rattle.exact_reading.specs.declared.stop.ReadError.{ReadError}
use Rattle.exact_reading.specs.declared.stop.ReadError.TheVariants as errors
use Rattle.exact_reading.specs.Reading.{◌>>=◌, Fails}
use Rattle.compact_wire.specs.declared.header.FieldType.{FieldType}
use Rattle.compact_wire.specs.declared.kind.Kind.{Kind}
use Rattle.compact_wire.specs.Node.{Node, structure, Fields}
use Rattle.compact_wire.specs.Reads.{items, pairs, value, typed, field_start}
use Rattle.idl_profile.specs.Types.{TypeTree, DefField, fields_of}
use Rattle.exact_reading.specs.Reading.{seen}
use Rattle.wire_scan.proofs.Seen.{items_end, item_end, Reading, value_end}
use Rattle.frozen_model.specs.Values.{Value}
use Rattle.typed_reading.specs.declared.progress.Progress.{Progress}
use Rattle.typed_reading.specs.Progress.{after, after_items, after_map, after_key, after_value, after_pairs, after_field, after_fields, inside}
use Rattle.typed_reading.proofs.Steps.{no_more, one_more, no_more_pairs, one_more_pair, no_more_fields, one_more_field}
use Rattle.typed_reading.proofs.Structs.{field_err, struct_err}
use Rattle.typed_reading.proofs.Tables.{value_err, map_err}

pub items_fail : (t : TypeTree) (levels : ℕ) (kind : Kind) (e : ReadError Stop) (s : Progress) (n i : ℕ) (b : List ℕ) (total : Result (Progress × List ℕ) Stop) → i < n → Fails e (seen (after t s) (value levels kind b))
    → seen (after_items t s) (items (value levels kind) (n - i) b) ≡ total → Fails e total
items_fail t levels kind errors.NoMemory s n i b total lt f e = tt
items_fail t levels kind (errors.Stop d) s n i b total lt f e = items_end (after t) (after_items t) (no_more t) (one_more t) (value levels kind) s d n i b total lt f e

-- the value of a pair
pub pair_fails : (k v : TypeTree) (levels : ℕ) (a c : Kind) (e : ReadError Stop) (start s m : Progress) (ks ls : List (ℕ × Value)) (n i : ℕ) (all b mid : List ℕ) → i < n
    → seen (after_key k (s, ks)) (value levels a b) ≡ Ok ((m, ls), mid) → Fails e (seen (after v m) (value levels c mid))
    → seen (after_pairs k v (s, ks)) (pairs (value levels a) (value levels c) (n - i) b) ≡ seen (after_pairs k v (start, [])) (pairs (value levels a) (value levels c) n all)
    → Fails e (seen (after_map k v start) (pairs (value levels a) (value levels c) n all))
pair_fails k v levels a c errors.NoMemory start s m ks ls n i all b mid lt h f e = tt
pair_fails k v levels a c (errors.Stop d) start s m ks ls n i all b mid lt h f e =
    map_err k v start (pairs (value levels a) (value levels c) n all) d
    (item_end (after_key k) (after_value v) (after_pairs k v) (no_more_pairs k v) (one_more_pair k v) (value levels a) (value levels c) (s, ks) (m, ls) d n i b mid
    (seen (after_pairs k v (start, [])) (pairs (value levels a) (value levels c) n all)) lt h (value_err v m ls (value levels c mid) d f) e)

module _ (t : TypeTree) (s : Progress) (levels : ℕ) (r : Result (Fields × List ℕ) Stop) where
  pub whole_fails : (e : ReadError Stop) → Fails e (seen (after_fields (fields_of t) (inside s, [])) r) → Fails e (seen (after t s) (r >>= λ p. Ok (structure p.0, p.1)))
  whole_fails errors.NoMemory f = tt
  whole_fails (errors.Stop d) f = struct_err t s r d f

  pub field_fails : (fs : List DefField) → fs ≡ fields_of t → (e : ReadError Stop) (known : Progress) (ids : List ℤ) (before id : ℤ) (ty : FieldType) (rest mid : List ℕ)
      → Reading (after_field fs) (after_fields fs) (no_more_fields fs) (one_more_field fs) levels (known, ids) before rest (seen (after_fields fs (inside s, [])) r)
      → field_start levels before rest ≡ Ok (Some (id, ty), mid)
      → Fails e (seen (λ (w : Node). (after_field fs (known, ids) id w).0) (typed (value levels) ty mid))
      → Fails e (seen (after t s) (r >>= λ p. Ok (structure p.0, p.1)))
  field_fails fs is errors.NoMemory known ids before id ty rest mid h start f = tt
  field_fails fs is (errors.Stop d) known ids before id ty rest mid h start f =
      let e = value_end (after_field fs) (after_fields fs) (no_more_fields fs) (one_more_field fs) levels (known, ids) d before id ty rest mid (seen (after_fields fs (inside s, [])) r) h start
      (field_err fs known ids id (typed (value levels) ty mid) d f) in
      struct_err t s r d (subst (λ (gs : List DefField). seen (after_fields gs (inside s, [])) r ≡ Err d) is e)
