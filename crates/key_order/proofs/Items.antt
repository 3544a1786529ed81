-- Items at the places of entries are in order where the keys of the entries rise.
use Rattle.std.proofs.Common.{◌≡◌, ℕ, List, [], ◌∷◌, map, IsPermutation, refl, sym, subst, ap, ◌∙◌}
use Rattle.std.specs.List.{All, AllByRecursion}
use Rattle.std.proofs.lemmas.List.Elements.{recursion_from_All}
use Rattle.std.proofs.lemmas.List.Sorted.{All-permutation, IsPermutation-map}
use Rattle.frozen_model.specs.Values.{Value, key_of}
use Rattle.key_order.specs.declared.repeats.PlacedKey.{PlacedKey}
use Rattle.key_order.specs.Keys.{value_of, AreOneKind, AreRising}
use Rattle.key_order.specs.Entries.{keys}
use Rattle.key_order.specs.InOrder.{in_order}
use Rattle.key_order.proofs.Insertion.{rising_keys_are_in_order}

module _ (item : ℕ → Value) where
  abbrev Named : PlacedKey → Type 0
  Named e = key_of (item e.place) ≡ value_of e.key

  abbrev items : List PlacedKey → List Value
  items es = map (λ e. item e.place) es

  keys_of_items : (es : List PlacedKey) → AllByRecursion Named es → map key_of (items es) ≡ keys es
  keys_of_items [] h = refl
  keys_of_items (e ∷ es) h = ap (λ k. k ∷ map key_of (items es)) h.0 ∙ ap (λ ks. value_of e.key ∷ ks) (keys_of_items es h.1)

  pub entries_are_in_order : (old new : List PlacedKey) → All Named old → AreOneKind (keys old) → IsPermutation old new → AreRising (keys new) → items new ≡ in_order (items old)
  entries_are_in_order old new named kind moved rising =
      let old_keys = keys_of_items old (recursion_from_All Named old named) in
      let new_keys = keys_of_items new (recursion_from_All Named new (All-permutation Named old new moved named)) in
      rising_keys_are_in_order (items old) (items new) (subst AreOneKind (sym old_keys) kind) (IsPermutation-map (λ e. item e.place) old new moved) (subst AreRising (sym new_keys) rising)
