-- Values as a list, and values whose keys rise.
use Rattle.std.proofs.Common.{◌≡◌, ◌≢◌, None, List, [], ◌∷◌, Bool, true, false, cond, refl, sym, ap, ◌∙◌, subst}
use Rattle.frozen_model.specs.Trees.{Holder, AList}
use Rattle.frozen_model.specs.Values.{Value, Values, NoValue, And, key_less, key_of, Rises}
use Rattle.key_order.specs.InOrder.{row, insert, in_order}
use Rattle.key_order.proofs.Order.{Less_from_key_less}
use Rattle.key_order.proofs.Rising.{rises_by_keys, both_below, AreRanked, ranked_from_rising}

abbrev pub listed : Values → List Value
listed NoValue = []
listed (And v vs) = v ∷ listed vs

pub row-listed : (vs : Values) → row (listed vs) ≡ vs
row-listed NoValue = refl
row-listed (And v vs) = ap (And v) (row-listed vs)

-- keys that rise are each below all later ones
pub ranked-listed : (h : Holder) (vs : Values) → h ≢ AList → Rises h None vs → AreRanked (listed vs)
ranked-listed h vs keyed r = ranked_from_rising (listed vs) ((rises_by_keys h (listed vs) keyed).0 (subst (Rises h None) (sym (row-listed vs)) r))

-- ---- what is in order already

rises_below : (v u : Value) (us : List Value) → AreRanked (v ∷ u ∷ us) → key_less (key_of u) (key_of v) ≡ false
rises_below v u us r = by (key_less (key_of u) (key_of v)) refl
  where
    by : (b : Bool) → key_less (key_of u) (key_of v) ≡ b → key_less (key_of u) (key_of v) ≡ false
    by false e = e
    by true e = absurd (both_below v u r.0.0 (Less_from_key_less (key_of u) (key_of v) e))

pub ranked-in_order : (vs : List Value) → AreRanked vs → in_order vs ≡ vs
ranked-in_order [] r = refl
ranked-in_order (v ∷ []) r = refl
ranked-in_order (v ∷ u ∷ us) r = ap (insert v) (ranked-in_order (u ∷ us) r.1) ∙ ap (λ b. cond b (u ∷ insert v us) (v ∷ u ∷ us)) (rises_below v u us r)

pub rising-in_order : (h : Holder) (vs : Values) → h ≢ AList → Rises h None vs → row (in_order (listed vs)) ≡ vs
rising-in_order h vs keyed r = ap row (ranked-in_order (listed vs) (ranked-listed h vs keyed r)) ∙ row-listed vs
