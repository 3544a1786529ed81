-- The packing of a whole value.
use Rattle.std.specs.List.{AllByRecursion}
use Rattle.std.proofs.Common.{List, ◌∷◌, ◌≤◌, slice_index, ◌≡◌, ℕ, zero, suc, ◌+◌, ◌-◌, ◌*◌, ◌^◌, ◌<◌, []}
use Rattle.std.proofs.Common.{◌++◌, false, length, arith, refl, ap, sym, ◌∙◌, subst, replicate, take, drop}
use Rattle.std.proofs.lemmas.List.{append-nil, length-take-le, take-append-drop}
use Rattle.std.proofs.Math.ListN.{length-replicate}
use Rattle.frozen_model.specs.Bits.{bits, bits_of}
use Rattle.frozen_model.specs.Values.{Value}
use Rattle.frozen_model.specs.Layouts.{Layout, stride}
use Rattle.frozen_model.specs.Packing.{extent, bytes_for, padding, image, tail, pack, Packs}
use Rattle.frozen_model.specs.Holding.{Holds}
use Rattle.frozen_laws.specs.Everywhere.{HoldsAt}
use Rattle.block_region.specs.Space.{Space, Span}
use Rattle.frozen_laws.proofs.Holding.{at_fit}
use Rattle.frozen_laws.proofs.Numbers.{split_same, same_bytes}
use Rattle.frozen_model.proofs.Fields.{length_bits_of}
use Rattle.freezer.specs.Writing.{Ready, Wrote}
use Rattle.freezer.proofs.Puts.{bits_of_append}
use Rattle.freezer.proofs.Runs.{zeros_add}
use Rattle.freezer.proofs.Arms.{block_at, took}

zero_bytes : (n : ℕ) → bits_of (replicate n 0) ≡ replicate (8 * n) false
zero_bytes zero = refl
zero_bytes (suc n) =
    let e : 8 * suc n ≡ 8 + 8 * n = omega arith in
    ap (λ r. bits 8 0 ++ r) (zero_bytes n) ∙ sym (zeros_add 8 (8 * n) (8 * suc n) e)

pub root_ready : (l : Layout) (v : Value) (old tk : Space) (root : Span) (n : ℕ) → Holds l v → n
    ≡ bytes_for (stride l) → stride l < 2 ^ 32 → root ≡ block_at old.taken n → tk ≡ took old root
    → length old.bytes ≡ old.taken + (bytes_for (stride l) + extent l v) → Ready l v tk root 0
root_ready l v old tk root n h en small er et left =
    let s : root.start ≡ old.taken = ap (λ z. z.start) er in
    let len : root.len ≡ n = ap (λ z. z.len) er in
    let t : tk.taken ≡ root.start + root.len = ap (λ z. z.taken) et in
    let same : length tk.bytes ≡ length old.bytes = ap (λ z. length z.bytes) et in
    let at : bytes_for (stride l) ≡ tk.taken - root.start = omega (arith, t, len, en) in
    record {
      form = h.of_kind;
      holds = subst (λ z. HoldsAt l v z) at (at_fit h.of_kind (bytes_for (stride l)) h.fits);
      room = omega (arith, t, s, len, en, same, left);
      taken = omega (arith, t);
      inside = omega (arith, len, en);
      small = omega (arith, small);
    }

pack_is : (l : Layout) (v : Value) → image l v (bytes_for (stride l))
    ++ (padding (stride l) ++ (tail l v ++ [])) ≡ pack l v
pack_is l v =
    let one : stride l ≡ 1 * stride l = omega arith in
    subst (λ k. image l v (bytes_for (stride l)) ++ (padding (stride l) ++ (tail l v ++ []))
    ≡ (image l v (bytes_for k) ++ []) ++ (padding k ++ (tail l v ++ []))) one
    (ap (λ r. r ++ (padding (stride l) ++ (tail l v ++ [])))
    (sym (append-nil (image l v (bytes_for (stride l))))))

-- all items of a list are bytes
bytes_all : (xs : List ℕ) → ((k : ℕ) → slice_index xs k < 256) → AllByRecursion (λ b. b < 256) xs
bytes_all [] h = tt
bytes_all (x ∷ xs) h = (h 0, bytes_all xs (λ k. h (suc k)))

bytes_taken : (n : ℕ) (xs : List ℕ) → AllByRecursion (λ b. b < 256) xs
    → AllByRecursion (λ b. b < 256) (take n xs)
bytes_taken zero xs h = tt
bytes_taken (suc n) [] h = tt
bytes_taken (suc n) (x ∷ xs) h = (h.0, bytes_taken n xs h.1)

-- bytes with the same bits are the same
same_front : (n : ℕ) (xs ys : List ℕ) → ((k : ℕ) → slice_index xs k < 256)
    → ((k : ℕ) → slice_index ys k < 256) → length xs ≡ length ys
    → n ≤ length ys → bits_of (take n xs) ≡ bits_of (take n ys) → take n xs ≡ take n ys
same_front n xs ys hx hy same le h =
    (same_bytes (take n xs) (take n ys) [] [] (bytes_taken n xs (bytes_all xs hx))
    (bytes_taken n ys (bytes_all ys hy))
    (length-take-le n xs (omega arith) ∙ sym (length-take-le n ys le)) (ap (λ r. r ++ []) h)).0

pub record Whole (l : Layout) (v : Value) (old new : Space) : Type 0 where
  pub taken : new.taken ≡ length new.bytes
  pub length : length new.bytes ≡ length old.bytes
  pub before : take old.taken new.bytes ≡ take old.taken old.bytes
  pub packed : Packs l v (drop old.taken new.bytes)

pub whole : (l : Layout) (v : Value) (old tk new : Space) (root : Span) (n : ℕ) → n ≡ bytes_for (stride l)
    → root ≡ block_at old.taken n → tk ≡ took old root
    → length old.bytes ≡ old.taken + (bytes_for (stride l) + extent l v) → drop old.taken old.bytes
    ≡ replicate (length old.bytes - old.taken) 0 → ((k : ℕ) → slice_index old.bytes k < 256)
    → ((k : ℕ) → slice_index new.bytes k < 256)
    → Wrote l v tk new root 0 → Whole l v old new
whole l v old tk new root n en er et left blank ho hn w =
    let s : root.start ≡ old.taken = ap (λ z. z.start) er in
    let len : root.len ≡ n = ap (λ z. z.len) er in
    let t : tk.taken ≡ root.start + root.len = ap (λ z. z.taken) et in
    let same : tk.bytes ≡ old.bytes = ap (λ z. z.bytes) et in
    let long : length new.bytes ≡ length old.bytes = w.length ∙ ap length same in
    let a = bits_of (take old.taken old.bytes) in
    let la : length a ≡ 8 * old.taken = length_bits_of (take old.taken old.bytes)
    ∙ ap (λ k. 8 * k) (length-take-le old.taken old.bytes (omega arith)) in
    let b = bytes_for (stride l) in
    let pad = 8 * b - stride l in
    let rest = length old.bytes - old.taken in
    let zero_rest : bits_of (drop old.taken old.bytes) ≡ replicate (stride l) false
    ++ (replicate pad false ++ replicate (8 * extent l v + 0) false) =
    ap bits_of blank ∙ zero_bytes rest
    ∙ zeros_add (stride l) (pad + (8 * extent l v + 0)) (8 * rest) (omega (arith, left))
    ∙ ap (λ r. replicate (stride l) false ++ r)
    (zeros_add pad (8 * extent l v + 0) (pad + (8 * extent l v + 0)) refl) in
    let start : bits_of tk.bytes ≡ a
    ++ (replicate (stride l) false ++ (replicate pad false ++ replicate (8 * extent l v + 0) false)) =
    ap bits_of same ∙ ap bits_of (sym (take-append-drop old.taken old.bytes))
    ∙ bits_of_append (take old.taken old.bytes) (drop old.taken old.bytes) ∙ ap (λ r. a ++ r) zero_rest in
    let at : tk.taken - root.start ≡ b = omega (arith, t, len, en) in
    let done : bits_of new.bytes ≡ a
    ++ (image l v (tk.taken - root.start) ++ (replicate pad false ++ (tail l v ++ []))) =
    w.written a (replicate pad false) 0 (omega (arith, la, s))
    (omega (arith, length-replicate pad false, t, s, len, en)) start in
    let packed : bits_of new.bytes ≡ a ++ pack l v = done
    ∙ ap (λ z. a ++ (image l v z ++ (replicate pad false ++ (tail l v ++ [])))) at
    ∙ ap (λ r. a ++ r) (pack_is l v) in
    let parts : bits_of new.bytes ≡ bits_of (take old.taken new.bytes) ++ bits_of (drop old.taken new.bytes) =
    ap bits_of (sym (take-append-drop old.taken new.bytes))
    ∙ bits_of_append (take old.taken new.bytes) (drop old.taken new.bytes) in
    let ln : length (bits_of (take old.taken new.bytes)) ≡ length a =
    length_bits_of (take old.taken new.bytes)
    ∙ ap (λ k. 8 * k) (length-take-le old.taken new.bytes (omega (arith, long, left))) ∙ sym la in
    let both = split_same (bits_of (take old.taken new.bytes)) a (bits_of (drop old.taken new.bytes))
    (pack l v) ln (sym parts ∙ packed) in
    record {
      taken = omega (arith, w.taken, t, s, len, en, long, left);
      length = long;
      before = same_front old.taken new.bytes old.bytes hn ho long (omega arith) both.0;
      packed = both.1;
    }
