-- Bytes of a block, written over.
use Rattle.std.proofs.Common.{◌≡◌, ℕ, ◌+◌, ◌-◌, ◌≤◌, List, ◌++◌, length, take, drop, replicate, ap, sym, subst, ◌∙◌, arith, append_assoc, refl}
use Rattle.std.proofs.lemmas.List.{length-append, length-drop, length-take-le, length-replicate, drop-replicate, drop-drop, take_all, take_at, drop_at, take-take, take-append-le, drop-append-le, take-append-drop, replicate-append-replicate}
use Rattle.std.proofs.Math.Seq.{drop-append_seam}
use Rattle.block_region.specs.Space.{Space, Span, IsRegion, IsTaken, overwritten, written, returned, in_use, grown, block_bytes}
use Rattle.block_region.specs.Laws.{WritesAlone}

pub length-overwritten : (xs w : List ℕ) (i : ℕ) → i + length w ≤ length xs → length (overwritten xs i w) ≡ length xs
length-overwritten xs w i inside =
    let front : length (take i xs) ≡ i = length-take-le i xs (omega arith) in
    omega (arith, length-append (take i xs) (w ++ drop (i + length w) xs), length-append w (drop (i + length w) xs), length-drop (i + length w) xs)

-- the parts of the bytes after a write
pub write_alone : (s : Space) (b : Span) (ws : List ℕ) → length ws ≡ b.len → b.start + b.len ≤ length s.bytes → WritesAlone s b ws
write_alone s b ws same inside =
    let front : length (take b.start s.bytes) ≡ b.start = length-take-le b.start s.bytes (omega arith) in
    let rest = drop (b.start + length ws) s.bytes in
    let at : drop b.start (overwritten s.bytes b.start ws) ≡ ws ++ rest = drop_at (take b.start s.bytes) (ws ++ rest) b.start front in
    record {
      block = ap (take b.len) at ∙ take_at ws rest b.len same;
      before = take_at (take b.start s.bytes) (ws ++ rest) b.start front;
      after =
          sym (drop-drop b.len b.start (overwritten s.bytes b.start ws))
          ∙ ap (drop b.len) at
          ∙ drop_at ws rest b.len same
          ∙ ap (λ n. drop (b.start + n) s.bytes) same;
      length = length-overwritten s.bytes ws b.start (omega arith);
    }

-- ---- the part in use, and zeros behind it

-- a region whose part in use is xs
pub region_of : (xs : List ℕ) (size : ℕ) → length xs ≤ size → IsRegion (record { bytes = xs ++ replicate (size - length xs) 0; taken = length xs })
region_of xs size le =
    let z = replicate (size - length xs) 0 in
    let long : length (xs ++ z) ≡ length xs + (size - length xs) = length-append xs z ∙ ap (λ n. length xs + n) (length-replicate (size - length xs) 0) in
    record { inside = omega (arith, long); blank = drop-append_seam xs z ∙ ap (λ n. replicate n 0) (sym (let e : length (xs ++ z) - length xs ≡ size - length xs = omega (arith, long) in e)) }

-- the part in use is cut out of the whole
pub front_is : (xs zs : List ℕ) (start len : ℕ) → start + len ≤ length xs → take len (drop start (xs ++ zs)) ≡ take len (drop start xs)
front_is xs zs start len le =
    ap (take len) (drop-append-le start xs zs (omega arith))
    ∙ take-append-le len (drop start xs) zs (omega (arith, length-drop start xs))

-- the same bytes, cut further on, and the rest behind
drop_of_front : (n k : ℕ) (xs : List ℕ) → k ≤ n → n ≤ length xs → drop k (take n xs) ++ drop n xs ≡ drop k xs
drop_of_front n k xs le in_it =
    let front : length (take n xs) ≡ n = length-take-le n xs in_it in
    sym (drop-append-le k (take n xs) (drop n xs) (omega arith)) ∙ ap (drop k) (take-append-drop n xs)

-- a write in the part in use leaves what is behind it
pub loan_is_write : (s : Space) (b : Span) (ws : List ℕ) → length ws ≡ b.len → s.taken ≤ length s.bytes → IsTaken s b → (returned s b ws).bytes ≡ (written s b ws).bytes
loan_is_write s b ws same le taken =
    let xs = in_use s in
    let front : length xs ≡ s.taken = length-take-le s.taken s.bytes le in
    let room : b.start + length ws ≤ length xs = omega arith in
    let rest = drop s.taken s.bytes in
    let all : take s.taken (overwritten xs b.start ws) ≡ overwritten xs b.start ws = take_all s.taken (overwritten xs b.start ws) (omega (arith, length-overwritten xs ws b.start room)) in
    ap (λ z. z ++ rest) all
    ∙ append_assoc (take b.start xs) (ws ++ drop (b.start + length ws) xs) rest
    ∙ ap (λ z. take b.start xs ++ z) (append_assoc ws (drop (b.start + length ws) xs) rest)
    ∙ ap (λ z. take b.start xs ++ (ws ++ z)) (drop_of_front s.taken (b.start + length ws) s.bytes (omega arith) le)
    ∙ ap (λ z. z ++ (ws ++ drop (b.start + length ws) s.bytes)) (take-take b.start s.taken s.bytes (omega arith))

-- all behind the part in use stays
pub write_keeps : (s : Space) (b : Span) (ws : List ℕ) → IsRegion s → IsTaken s b → length ws ≡ b.len → IsRegion (written s b ws)
write_keeps s b ws r taken same =
    let inside : b.start + b.len ≤ length s.bytes = omega (arith, r.inside) in
    let alone = write_alone s b ws same inside in
    let k = s.taken - (b.start + b.len) in
    let on : b.start + b.len + k ≡ s.taken = omega arith in
    let far : drop s.taken (written s b ws).bytes ≡ drop s.taken s.bytes =
    subst (λ n. drop n (written s b ws).bytes ≡ drop n s.bytes) on
    (sym (drop-drop k (b.start + b.len) (written s b ws).bytes) ∙ ap (drop k) alone.after ∙ drop-drop k (b.start + b.len) s.bytes) in
    record { inside = omega (arith, alone.length, r.inside); blank = far ∙ r.blank ∙ ap (λ n. replicate (n - s.taken) 0) (sym alone.length) }

-- a block of the part in use is in the grown region, with its bytes
pub block_stays : (s : Space) (b : Span) (len : ℕ) → s.taken ≤ length s.bytes → IsTaken s b → block_bytes (grown s len) b ≡ block_bytes s b
block_stays s b len le taken =
    let front : length (in_use s) ≡ s.taken = length-take-le s.taken s.bytes le in
    front_is (in_use s) (replicate (len - s.taken) 0) b.start b.len (omega arith)
    ∙ sym (front_is (in_use s) (drop s.taken s.bytes) b.start b.len (omega arith))
    ∙ ap (λ z. take b.len (drop b.start z)) (take-append-drop s.taken s.bytes)

-- taking the next bytes changes none
pub zeros_taken : (xs ys : List ℕ) (start len size : ℕ) → length xs ≡ start → start + len ≤ size → ys ≡ xs ++ replicate len 0
    → (ys ++ replicate (size - length ys) 0 ≡ xs ++ replicate (size - length xs) 0) × (length ys ≡ start + len)
zeros_taken xs ys start len size here le same =
    let long : length ys ≡ start + len = omega (arith, ap length same, length-append xs (replicate len 0), length-replicate {A = ℕ} len 0) in
    let left : len + (size - length ys) ≡ size - length xs = omega (arith, long) in (
      ap (λ z. z ++ replicate (size - length ys) 0) same
          ∙ append_assoc xs (replicate len 0) (replicate (size - length ys) 0)
          ∙ ap (λ z. xs ++ z) (replicate-append-replicate len (size - length ys) 0)
          ∙ ap (λ k. xs ++ replicate k 0) left,
      long,
    )

-- bytes behind those in use are written over zeros
pub appended : (xs ys ws : List ℕ) (size : ℕ) → length xs + length ws ≤ size → ys ≡ xs ++ ws
    → (ys ++ replicate (size - length ys) 0 ≡ overwritten (xs ++ replicate (size - length xs) 0) (length xs) ws) × (length ys ≡ length xs + length ws)
appended xs ys ws size le same =
    let zs : List ℕ = replicate (size - length xs) 0 in
    let long : length ys ≡ length xs + length ws = omega (arith, ap length same, length-append xs ws) in
    let left : (size - length xs) - length ws ≡ size - length ys = omega (arith, long) in
    let rest : drop (length xs + length ws) (xs ++ zs) ≡ replicate (size - length ys) 0 =
    sym (drop-drop (length ws) (length xs) (xs ++ zs))
    ∙ ap (drop (length ws)) (drop_at xs zs (length xs) refl)
    ∙ drop-replicate {X = ℕ} (length ws) (size - length xs) 0
    ∙ ap (λ n. replicate n 0) left in (
      ap (λ z. z ++ replicate (size - length ys) 0) same
          ∙ append_assoc xs ws (replicate (size - length ys) 0)
          ∙ ap (λ z. xs ++ (ws ++ z)) (sym rest)
          ∙ ap (λ z. z ++ (ws ++ drop (length xs + length ws) (xs ++ zs))) (sym (take_at xs zs (length xs) refl)),
      long,
    )

-- zeros behind zeros
pub more_zeros : (front xs ys : List ℕ) (n k m : ℕ) → xs ≡ front ++ replicate n 0 → ys ≡ xs ++ replicate k 0 → n + k ≡ m → ys ≡ front ++ replicate m 0
more_zeros front xs ys n k m before now sum =
    now
    ∙ ap (λ z. z ++ replicate k 0) before
    ∙ append_assoc front (replicate n 0) (replicate k 0)
    ∙ ap (λ z. front ++ z) (replicate-append-replicate n k 0)
    ∙ ap (λ z. front ++ replicate z 0) sum
