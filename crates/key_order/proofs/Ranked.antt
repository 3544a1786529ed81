-- Lists in which each item stands before all later ones. There is one such list of the same members.
use Rattle.std.proofs.Common.{◌≡◌, zero, suc, ◌+◌, List, [], ◌∷◌, refl, sym, ap, ◌∙◌, subst, arith, ◌⊎◌, inl, inr}
use Rattle.std.specs.List.{AllByRecursion, Contains}
use Rattle.std.proofs.lemmas.List.Elements.{All-from_recursion, All-contains}
use Rattle.key_order.specs.InOrder.{HaveSameMembers}

module _ {X : Type 0} (Before : X → X → Type 0) (one_way : (x y : X) → Before x y → Before y x → ⊥) where
  abbrev pub AreRanked : List X → Type 0
  AreRanked [] = Unit {0}
  AreRanked (x ∷ xs) = AllByRecursion (Before x) xs × AreRanked xs

  above_in : (x : X) (ys : List X) (y : X) → AllByRecursion (Before x) ys → Contains ys y → Before x y
  above_in x ys y h c = All-contains (Before x) ys y (All-from_recursion (Before x) ys h) c

  in_cases : (x : X) (xs : List X) (y : X) → Contains (x ∷ xs) y → (x ≡ y) ⊎ Contains xs y
  in_cases x xs y (zero, h, e) = inl e
  in_cases x xs y (suc k, h, e) = inr (k, omega (arith, h), e)

  at_first : (x : X) (xs : List X) → Contains (x ∷ xs) x
  at_first x xs = (0, omega arith, refl)

  behind_first : (x : X) (xs : List X) (y : X) → Contains xs y → Contains (x ∷ xs) y
  behind_first x xs y (k, h, e) = (suc k, omega (arith, h), e)

  heads : (x y : X) (xs ys : List X) → AllByRecursion (Before x) xs → AllByRecursion (Before y) ys → Contains (y ∷ ys) x → Contains (x ∷ xs) y → x ≡ y
  heads x y xs ys a b f g = by (in_cases y ys x f) (in_cases x xs y g)
    where
      by : (y ≡ x) ⊎ Contains ys x → (x ≡ y) ⊎ Contains xs y → x ≡ y
      by (inl e) q = sym e
      by (inr p) (inl e) = e
      by (inr p) (inr q) = absurd (one_way x y (above_in x xs y a q) (above_in y ys x b p))

  tails : (x : X) (xs ys : List X) → AllByRecursion (Before x) xs → ((z : X) → Contains (x ∷ xs) z → Contains (x ∷ ys) z) → (z : X) → Contains xs z → Contains ys z
  tails x xs ys a f z c = by (in_cases x ys z (f z (behind_first x xs z c)))
    where
      by : (x ≡ z) ⊎ Contains ys z → Contains ys z
      by (inl e) = let l : Before x x = subst (Before x) (sym e) (above_in x xs z a c) in absurd (one_way x x l l)
      by (inr d) = d

  pub ranked_unique : (xs ys : List X) → AreRanked xs → AreRanked ys → HaveSameMembers xs ys → xs ≡ ys
  ranked_unique [] [] r s same = refl
  ranked_unique [] (y ∷ ys) r s same = let c = (same y).1 (at_first y ys) in absurd (omega (arith, c.1))
  ranked_unique (x ∷ xs) [] r s same = let c = (same x).0 (at_first x xs) in absurd (omega (arith, c.1))
  ranked_unique (x ∷ xs) (y ∷ ys) r s same =
      let e : x ≡ y = heads x y xs ys r.0 s.0 ((same x).0 (at_first x xs)) ((same y).1 (at_first y ys)) in
      let s' : AllByRecursion (Before x) ys = subst (λ w. AllByRecursion (Before w) ys) (sym e) s.0 in
      let f : (z : X) → Contains (x ∷ xs) z → Contains (x ∷ ys) z = λ z c. subst (λ w. Contains (w ∷ ys) z) (sym e) ((same z).0 c) in
      let g : (z : X) → Contains (x ∷ ys) z → Contains (x ∷ xs) z = λ z c. (same z).1 (subst (λ w. Contains (w ∷ ys) z) e c) in
      ap (λ ws. x ∷ ws) (ranked_unique xs ys r.1 s.1 (λ z. (tails x xs ys r.0 f z, tails x ys xs s' g z))) ∙ ap (λ w. w ∷ ys) e
