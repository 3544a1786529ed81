-- One step of the loop over neighbours.
use Rattle.std.proofs.Common.{◌≡◌, ℕ, ◌+◌, ◌-◌, ◌<◌, ◌≤◌, List, length, Option, Some, None, slice_index, refl, sym, ap, ◌∙◌, subst, arith, ◌⊎◌, inl, inr, ⊎_elim}
use Rattle.std.proofs.lemmas.Bool.{cases_lt}
use Rattle.std.specs.Option.{IfSome}
use Rattle.key_order.specs.declared.repeats.PlacedKey.{PlacedKey}
use Rattle.key_order.specs.declared.repeats.Repeat.{Repeat}
use Rattle.key_order.specs.Keys.{value_of}
use Rattle.key_order.proofs.Sorted.{at, place_at, one_key, one_key-same}
use Rattle.key_order.specs.Entries.{places}
use Rattle.key_order.specs.Neighbours.{HaveOneKey, places_at, IsLeastNeighbour}

module _ (es : List PlacedKey) (n : ℕ) (some : 0 < n) (inside : n < length es) where
  -- of two neighbours up to n the first is an earlier one, or the last
  step : (k : ℕ) → k + 1 < n + 1 → (k + 1 < n) ⊎ (k ≡ n - 1)
  step k h = ⊎_elim (λ lt. inl lt) (λ le. inr (omega arith)) (cases_lt (k + 1) n)

  behind : n - 1 + 1 ≡ n
  behind = omega arith

  one : value_of (at es (n - 1)).key ≡ value_of (at es n).key → HaveOneKey es (n - 1)
  one same = one_key es (n - 1) (omega arith) (same ∙ ap (λ i. value_of (at es i).key) (sym behind))

  one-same : HaveOneKey es (n - 1) → value_of (at es (n - 1)).key ≡ value_of (at es n).key
  one-same h = one_key-same es (n - 1) (omega arith) h ∙ ap (λ i. value_of (at es i).key) behind

  skipped : (r : Option Repeat) → IsLeastNeighbour es n r → ¬ HaveOneKey es (n - 1) → IsLeastNeighbour es (n + 1) r
  skipped None h other = λ k lt one. ⊎_elim (λ l. h k l one) (λ e. other (subst (HaveOneKey es) e one)) (step k lt)
  skipped (Some r) h other =
      ((h.0.0, omega (arith, h.0.1), h.0.2, h.0.3), λ k lt one. ⊎_elim (λ l. h.1 k l one) (λ e. absurd (other (subst (HaveOneKey es) e one))) (step k lt))

  abbrev last : Repeat
  last = places_at es (n - 1)

  last_is_least : HaveOneKey es (n - 1) → ((k : ℕ) → k + 1 < n → HaveOneKey es k → last.second ≤ slice_index (places es) (k + 1)) → IsLeastNeighbour es (n + 1) (Some last)
  last_is_least same least = (
    (n - 1, omega arith, same, refl),
    λ k lt other. ⊎_elim (λ l. least k l other) (λ e. let place = ap (λ m. slice_index (places es) (m + 1)) e in omega (arith, place)) (step k lt),
  )

  taken : (r : Option Repeat) (s : Repeat) → IsLeastNeighbour es n r → HaveOneKey es (n - 1) → (Some s ≡ r) ⊎ (s ≡ last) → IfSome r (λ q. s.second ≤ q.second) → s.second ≤ last.second → IsLeastNeighbour es (n + 1) (Some s)
  taken None s h same (inl e) known new = absurd (cc)
  taken None s h same (inr e) known new = subst (λ q. IsLeastNeighbour es (n + 1) (Some q)) (sym e) (last_is_least same (λ k lt other. absurd (h k lt other)))
  taken (Some r) s h same (inl e) known new =
      let is : r ≡ s = cc in
      let le : r.second ≤ last.second = subst (λ (q : Repeat). q.second ≤ last.second) (sym is) new in
      subst (λ q. IsLeastNeighbour es (n + 1) (Some q)) is ((h.0.0, omega (arith, h.0.1), h.0.2, h.0.3), λ k lt other. ⊎_elim (λ l. h.1 k l other) (λ e. let place = ap (λ m. slice_index (places es) (m + 1)) e in omega (arith, le, place)) (step k lt))
  taken (Some r) s h same (inr e) known new = subst (λ q. IsLeastNeighbour es (n + 1) (Some q)) (sym e) (last_is_least same (λ k l other. let le = h.1 k l other in let lt = ap (λ (q : Repeat). q.second) e in omega (arith, lt, known, le)))

  pub skip_last : (r : Option Repeat) → IsLeastNeighbour es n r → ¬ (value_of (at es (n - 1)).key ≡ value_of (at es n).key) → IsLeastNeighbour es (n + 1) r
  skip_last r h other = skipped r h (λ same. other (one-same same))

  abbrev here : Repeat
  here = record { first = (at es (n - 1)).place; second = (at es n).place }

  here-is : here ≡ last
  here-is =
      let make : ℕ → ℕ → Repeat = λ f s. record { first = f; second = s } in
      let second : (at es n).place ≡ last.second = sym (ap (slice_index (places es)) behind ∙ place_at es n 0 inside) in
      ap (λ f. make f here.second) (sym (place_at es (n - 1) 0 (omega arith))) ∙ ap (make last.first) second

  pub take_last : (known : Option Repeat) (s : Repeat) → IsLeastNeighbour es n known → value_of (at es (n - 1)).key ≡ value_of (at es n).key → (Some s ≡ known) ⊎ (s ≡ here) → IfSome known (λ q. s.second ≤ q.second) → s.second ≤ here.second → IsLeastNeighbour es (n + 1) (Some s)
  take_last known s h same either low new =
      taken known s h (one same) (⊎_elim (λ e. inl e) (λ e. inr (e ∙ here-is)) either) low (subst (λ (q : Repeat). s.second ≤ q.second) here-is new)

-- after the last entry
pub at_end : (es : List PlacedKey) (n : ℕ) (r : Option Repeat) → length es ≤ n → (n ≤ length es) ⊎ (n ≡ 1) → IsLeastNeighbour es n r → IsLeastNeighbour es (length es) r
at_end es n None le end h = λ k lt one. h k (omega arith) one
at_end es n (Some r) le end h = (
  (h.0.0, ⊎_elim (λ e. omega (arith, e, h.0.1)) (λ e. absurd (omega (arith, e, h.0.1))) end, h.0.2, h.0.3),
  λ k lt one. h.1 k (omega arith) one,
)
