-- What is gathered of a value does not turn on widths.
use Rattle.std.proofs.Common.{◌≡◌, ℕ, zero, suc, ◌+◌, ◌*◌, List, [], ◌∷◌, ◌++◌, length, map, refl, ap, sym}
use Rattle.std.proofs.Common.{◌∙◌}
use Rattle.frozen_model.specs.Trees.{LeafKind, nodes, nodes_all, Alike, AllLeafwise, leaf, byte_range}
use Rattle.frozen_model.specs.Trees.{item_range, optional, struct, no_field, field}
use Rattle.frozen_model.specs.Values.{Value, Values, One, Bytes, Items, Absent, Present, Record, NoValue, And}
use Rattle.frozen_model.specs.Values.{count}
use Rattle.frozen_model.specs.Layouts.{Layout, Layouts, Coded, stride}
use Rattle.frozen_model.specs.Packing.{extent, bytes_for}
use Rattle.measure_pass.specs.Spots.{Spot, spot, with_spot, spots, spots_each, spots_all, unplaced}

abbrev AllAlike : Layouts → Layouts → Type 0
AllAlike l m = AllLeafwise (λ (k : LeafKind) (c : Coded) (d : Coded). Unit {0}) (λ (b : ℕ) (d : ℕ). Unit {0})
    (λ (b : ℕ) (d : ℕ). Unit {0}) l m

mutual
  nodes_alike : {l m : Layout} → Alike l m → nodes l ≡ nodes m
  nodes_alike (leaf h) = refl
  nodes_alike (byte_range h g) = refl
  nodes_alike (item_range h g x) = ap (λ n. 3 + n) (nodes_alike x)
  nodes_alike (optional h x) = ap (λ n. 2 + n) (nodes_alike x)
  nodes_alike (struct xs) = ap (λ n. 1 + n) (nodes_all_alike xs)

  nodes_all_alike : {l m : Layouts} → AllAlike l m → nodes_all l ≡ nodes_all m
  nodes_all_alike no_field = refl
  nodes_all_alike (field x xs) = let e = nodes_alike x in let f = nodes_all_alike xs in cc

pub map_join : (xs ys : List Spot) → map unplaced (xs ++ ys) ≡ map unplaced xs ++ map unplaced ys
map_join [] ys = refl
map_join (x ∷ xs) ys = ap (λ r. unplaced x ∷ r) (map_join xs ys)

pub map_long : (xs : List Spot) → length (map unplaced xs) ≡ length xs
map_long [] = refl
map_long (x ∷ xs) = ap suc (map_long xs)

with_same : (i n p a b : ℕ) (xs ys : List Spot) → map unplaced xs ≡ map unplaced ys
    → map unplaced (with_spot i n p a xs) ≡ map unplaced (with_spot i n p b ys)
with_same i zero p a b xs ys e = refl
with_same i (suc n) p a b xs ys e = ap (λ r. spot i (suc n) p 0 ∷ r) e

mutual
  pub spots_same : {l m : Layout} → Alike l m → (u : Value) (i p n a b : ℕ) → map unplaced (spots l u i p n a)
      ≡ map unplaced (spots m u i p n b)
  spots_same (leaf h) u i p n a b = refl
  spots_same (byte_range h g) (Bytes bs) i p n a b = with_same i (length bs) p a b [] [] refl
  spots_same (byte_range h g) (One x) i p n a b = refl
  spots_same (byte_range h g) (Items f x) i p n a b = refl
  spots_same (byte_range h g) Absent i p n a b = refl
  spots_same (byte_range h g) (Present x) i p n a b = refl
  spots_same (byte_range h g) (Record ids x) i p n a b = refl
  spots_same (item_range {l = l} {m = m} h g x) (Items f vs) i p n a b =
      let a2 = a + bytes_for (count vs * stride l) in
      let b2 = b + bytes_for (count vs * stride m) in
      with_same i (count vs) p a b (spots_each l vs (i + 3) n (suc n) a2)
      (spots_each m vs (i + 3) n (suc n) b2) (each_same x vs (i + 3) n (suc n) a2 b2)
  spots_same (item_range h g x) (One y) i p n a b = refl
  spots_same (item_range h g x) (Bytes y) i p n a b = refl
  spots_same (item_range h g x) Absent i p n a b = refl
  spots_same (item_range h g x) (Present y) i p n a b = refl
  spots_same (item_range h g x) (Record ids y) i p n a b = refl
  spots_same (optional h x) (Present u) i p n a b = spots_same x u (i + 2) p n a b
  spots_same (optional h x) (One y) i p n a b = refl
  spots_same (optional h x) (Bytes y) i p n a b = refl
  spots_same (optional h x) (Items f y) i p n a b = refl
  spots_same (optional h x) Absent i p n a b = refl
  spots_same (optional h x) (Record ids y) i p n a b = refl
  spots_same (struct xs) (Record ids vs) i p n a b = all_same xs vs (i + 1) p n a b
  spots_same (struct xs) (One y) i p n a b = refl
  spots_same (struct xs) (Bytes y) i p n a b = refl
  spots_same (struct xs) (Items f y) i p n a b = refl
  spots_same (struct xs) Absent i p n a b = refl
  spots_same (struct xs) (Present y) i p n a b = refl

  pub each_same : {l m : Layout} → Alike l m → (vs : Values) (i p n a b : ℕ)
      → map unplaced (spots_each l vs i p n a) ≡ map unplaced (spots_each m vs i p n b)
  each_same x NoValue i p n a b = refl
  each_same {l} {m} x (And u vs) i p n a b =
      let s = spots_same x u i p n a b in
      let xs = spots l u i p n a in
      let ys = spots m u i p n b in
      let long : length xs ≡ length ys = sym (map_long xs) ∙ ap (λ r. length r) s ∙ map_long ys in
      let c = a + extent l u in
      let d = b + extent m u in
      map_join xs (spots_each l vs i p (n + length xs) c)
      ∙ ap (λ r. r ++ map unplaced (spots_each l vs i p (n + length xs) c)) s
      ∙ ap (λ k. map unplaced ys ++ map unplaced (spots_each l vs i p (n + k) c)) long
      ∙ ap (λ r. map unplaced ys ++ r) (each_same x vs i p (n + length ys) c d)
      ∙ sym (map_join ys (spots_each m vs i p (n + length ys) d))

  pub all_same : {l m : Layouts} → AllAlike l m → (vs : Values) (i p n a b : ℕ)
      → map unplaced (spots_all l vs i p n a) ≡ map unplaced (spots_all m vs i p n b)
  all_same no_field vs i p n a b = refl
  all_same (field x xs) NoValue i p n a b = refl
  all_same (field {l = l} {m = m} {ls = ls} {ms = ms} x xs) (And u vs) i p n a b =
      let s = spots_same x u i p n a b in
      let ps = spots l u i p n a in
      let qs = spots m u i p n b in
      let long : length ps ≡ length qs = sym (map_long ps) ∙ ap (λ r. length r) s ∙ map_long qs in
      let c = a + extent l u in
      let d = b + extent m u in
      map_join ps (spots_all ls vs (i + nodes l) p (n + length ps) c)
      ∙ ap (λ r. r ++ map unplaced (spots_all ls vs (i + nodes l) p (n + length ps) c)) s
      ∙ ap (λ k. map unplaced qs ++ map unplaced (spots_all ls vs (i + nodes l) p (n + k) c)) long
      ∙ ap (λ j. map unplaced qs ++ map unplaced (spots_all ls vs (i + j) p (n + length qs) c))
      (nodes_alike x)
      ∙ ap (λ r. map unplaced qs ++ r) (all_same xs vs (i + nodes m) p (n + length qs) c d)
      ∙ sym (map_join qs (spots_all ms vs (i + nodes m) p (n + length qs) d))
