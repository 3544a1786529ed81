-- Fields and structs.
use Rattle.std.proofs.Common.{◌≡◌, ℕ, suc, ◌+◌, nat_eq, List, [], ◌∷◌, ◌++◌, Bool, true, false, Option, Some, None, Result, Ok, Err, refl, sym, ap, ◌∙◌, arith, add-one}
use Rattle.std.specs.Prelude.{ℤ, find, option_map}
use Rattle.std.proofs.lemmas.Bool.Decides.{nat_tests}
use Rattle.exact_reading.specs.declared.stop.Stop.{Stop}
use Rattle.exact_reading.specs.Reading.{◌>>=◌, seen}
use Rattle.compact_wire.specs.Node.{Node, structure, Fields}
use Rattle.wire_scan.proofs.Seen.{seen_ok, seen_err}
use Rattle.wire_scan.specs.Sizes.{size, sizes_of_fields}
use Rattle.idl_profile.specs.Types.{TypeTree, DefField, fields_of}
use Rattle.typed_reading.specs.declared.fault.NodeFault.{NodeFault}
use Rattle.typed_reading.specs.declared.fault.NodeFault.TheVariants.{RepeatedField}
use Rattle.typed_reading.specs.declared.fault.Found.{Found}
use Rattle.typed_reading.specs.declared.progress.Progress.{Progress}
use Rattle.typed_reading.specs.Codes.{code}
use Rattle.typed_reading.specs.Faults.{own, here, all_here, faults, faults_in_fields, of_field, type_in, is_among, ids_after, lesser, least, missing, has_id}
use Rattle.typed_reading.specs.Progress.{on, after, inside, skipped, with, Fielding, after_field, after_fields}
use Rattle.typed_reading.proofs.Order.{lesser_three, least_append, lesser_same, number_some}
use Rattle.typed_reading.proofs.Steps.{progress, progress_is, on_none}

-- ---- fields

-- the faults of a repeated field beside that it is one
least_again : (at : ℕ) (ks : List NodeFault) → least (here at RepeatedField ∷ all_here at ks) ≡ Some (here at RepeatedField)
least_again at [] = refl
least_again at (k ∷ ks) =
    let one : lesser (Some (here at RepeatedField)) (Some (here at k)) ≡ Some (here at RepeatedField) = lesser_same (here at RepeatedField) (here at k) refl (number_some k) in
    sym (lesser_three (Some (here at RepeatedField)) (Some (here at k)) (least (all_here at ks)))
    ∙ ap (λ (o : Option Found). lesser o (least (all_here at ks))) one ∙ least_again at ks

on_first : (s : Progress) (ks : List NodeFault) (n : ℕ) → on s (here s.next RepeatedField ∷ all_here s.next ks) n ≡ progress (lesser s.found (Some (here s.next RepeatedField))) (s.next + n)
on_first s ks n = ap (λ (o : Option Found). progress (lesser s.found o) (s.next + n)) (least_again s.next ks)

module _ (fs : List DefField) (s : Progress) (ids : List ℤ) (id : ℤ) (r : Result (Node × List ℕ) Stop) where
  pub field_ok : (q : Progress) (rest : List ℕ) → seen (λ (w : Node). (after_field fs (s, ids) id w).0) r ≡ Ok (q, rest) → seen (after_field fs (s, ids) id) r ≡ Ok ((q, id ∷ ids), rest)
  field_ok q rest e = let x = seen_ok (λ (w : Node). (after_field fs (s, ids) id w).0) r q rest e in ap (seen (after_field fs (s, ids) id)) x.1 ∙ ap (λ (p : Progress). Ok ((p, id ∷ ids), rest)) x.2

  pub field_err : (d : Stop) → seen (λ (w : Node). (after_field fs (s, ids) id w).0) r ≡ Err d → seen (after_field fs (s, ids) id) r ≡ Err d
  field_err d e = ap (seen (after_field fs (s, ids) id)) (seen_err (λ (w : Node). (after_field fs (s, ids) id w).0) r d e)

  pub size_err : (d : Stop) → seen (λ (w : Node). s.next + size w) r ≡ Err d → seen (λ (w : Node). (after_field fs (s, ids) id w).0) r ≡ Err d
  size_err d e = ap (seen (λ (w : Node). (after_field fs (s, ids) id w).0)) (seen_err (λ (w : Node). s.next + size w) r d e)

  by_type : Option TypeTree → Bool → Node → Progress
  by_type o again w = on s (of_field o again w (λ t. faults w t s.next) s.next) (size w)

  pub unknown_ok : (n : ℕ) (rest : List ℕ) → find (has_id id) fs ≡ None → seen (λ (w : Node). s.next + size w) r ≡ Ok (n, rest) → seen (λ (w : Node). (after_field fs (s, ids) id w).0) r ≡ Ok (skipped s n, rest)
  unknown_ok n rest none e =
      let x = seen_ok (λ (w : Node). s.next + size w) r n rest e in
      let o : type_in fs id ≡ None = ap (option_map (λ (f : DefField). f.type)) none in
      ap (seen (λ (w : Node). (after_field fs (s, ids) id w).0)) x.1
      ∙ ap (λ (p : Progress). Ok (p, rest)) (ap (λ (z : Option TypeTree). on s (of_field z (is_among id ids) x.0 (λ t. faults x.0 t s.next) s.next) (size x.0)) o ∙ on_none s [] (size x.0) refl ∙ ap (progress s.found) x.2)

  pub repeated_ok : (f : DefField) (n : ℕ) (rest : List ℕ) → find (has_id id) fs ≡ Some f → is_among id ids ≡ true → seen (λ (w : Node). s.next + size w) r ≡ Ok (n, rest)
      → seen (λ (w : Node). (after_field fs (s, ids) id w).0) r ≡ Ok (with s RepeatedField n, rest)
  repeated_ok f n rest some again e =
      let x = seen_ok (λ (w : Node). s.next + size w) r n rest e in
      let o : type_in fs id ≡ Some f.type = ap (option_map (λ (f : DefField). f.type)) some in
      ap (seen (λ (w : Node). (after_field fs (s, ids) id w).0)) x.1
      ∙ ap (λ (p : Progress). Ok (p, rest)) (
      ap (λ (z : Option TypeTree). on s (of_field z (is_among id ids) x.0 (λ t. faults x.0 t s.next) s.next) (size x.0)) o
      ∙ ap (λ (b : Bool). on s (of_field (Some f.type) b x.0 (λ t. faults x.0 t s.next) s.next) (size x.0)) again
      ∙ on_first s (own f.type x.0) (size x.0) ∙ ap (progress (lesser s.found (Some (here s.next RepeatedField)))) x.2
      )

  pub known_is : (f : DefField) → find (has_id id) fs ≡ Some f → is_among id ids ≡ false → seen (λ (w : Node). (after_field fs (s, ids) id w).0) r ≡ seen (after f.type s) r
  known_is f some first =
      let o : type_in fs id ≡ Some f.type = ap (option_map (λ (f : DefField). f.type)) some in
      ap (λ (z : Option TypeTree). seen (λ (w : Node). on s (of_field z (is_among id ids) w (λ t. faults w t s.next) s.next) (size w)) r) o
      ∙ ap (λ (b : Bool). seen (λ (w : Node). on s (of_field (Some f.type) b w (λ t. faults w t s.next) s.next) (size w)) r) first

-- ---- structs

module _ (t : TypeTree) (s : Progress) (r : Result (Fields × List ℕ) Stop) where
  pub struct_err : (d : Stop) → seen (after_fields (fields_of t) (inside s, [])) r ≡ Err d → seen (after t s) (r >>= λ p. Ok (structure p.0, p.1)) ≡ Err d
  struct_err d e = ap (λ (q : Result (Fields × List ℕ) Stop). seen (after t s) (q >>= λ p. Ok (structure p.0, p.1))) (seen_err (after_fields (fields_of t) (inside s, [])) r d e)

  pub struct_ok : (known : Progress) (ids : List ℤ) (rest : List ℕ) → code t ≡ 12 → seen (after_fields (fields_of t) (inside s, [])) r ≡ Ok ((known, ids), rest)
      → seen (after t s) (r >>= λ p. Ok (structure p.0, p.1)) ≡ Ok (progress (lesser known.found (least (all_here s.next (missing (fields_of t) ids)))) known.next, rest)
  struct_ok known ids rest twelve e =
      let x = seen_ok (after_fields (fields_of t) (inside s, [])) r (known, ids) rest e in
      let xs = x.0 in
      let h : nat_eq 12 (code t) ≡ true = grind (arith, nat_tests) in
      let same : on (inside s) (faults_in_fields xs (fields_of t) [] (s.next + 1)) (sizes_of_fields xs) ≡ known = ap (λ (p : Fielding). p.0) x.2 in
      let ids_are : ids_after xs [] ≡ ids = ap (λ (p : Fielding). p.1) x.2 in
      let below : faults (structure xs) t s.next ≡ faults_in_fields xs (fields_of t) [] (s.next + 1) ++ all_here s.next (missing (fields_of t) (ids_after xs [])) =
      rw h (ap (λ (n : ℕ). faults_in_fields xs (fields_of t) [] n ++ all_here s.next (missing (fields_of t) (ids_after xs []))) (sym (add-one s.next))) in
      ap (λ (q : Result (Fields × List ℕ) Stop). seen (after t s) (q >>= λ p. Ok (structure p.0, p.1))) x.1
      ∙ ap (λ (p : Progress). Ok (p, rest)) (progress_is _ _ _ _
      (ap (λ (gs : List Found). lesser s.found (least gs)) below
      ∙ ap (lesser s.found) (least_append (faults_in_fields xs (fields_of t) [] (s.next + 1)) (all_here s.next (missing (fields_of t) (ids_after xs []))))
      ∙ sym (lesser_three s.found (least (faults_in_fields xs (fields_of t) [] (s.next + 1))) (least (all_here s.next (missing (fields_of t) (ids_after xs [])))))
      ∙ ap (λ (p : Progress). lesser p.found (least (all_here s.next (missing (fields_of t) (ids_after xs []))))) same
      ∙ ap (λ (is : List ℤ). lesser known.found (least (all_here s.next (missing (fields_of t) is)))) ids_are)
      (let n : s.next + suc (sizes_of_fields xs) ≡ s.next + 1 + sizes_of_fields xs = omega arith in n ∙ ap (λ (p : Progress). p.next) same))
