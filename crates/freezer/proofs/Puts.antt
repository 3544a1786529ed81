-- Writes of numbers and of bytes in a block, as writes of bits in the region.
use Rattle.std.proofs.Common.{◌≡◌, ℕ, ◌+◌, ◌*◌, ◌≤◌, List, [], ◌∷◌, ◌++◌, Bool, false, length, arith, refl}
use Rattle.std.proofs.Common.{ap, sym, ◌∙◌, replicate, append_assoc, length-append, take, drop, length-drop}
use Rattle.std.proofs.lemmas.List.{append-nil, length-take-le, take_at, drop_at, take-append-drop, drop-drop}
use Rattle.std.proofs.lemmas.List.{drop_all}
use Rattle.frozen_model.specs.Bits.{bits, bits_of}
use Rattle.std.proofs.Math.ListN.{length-replicate}
use Rattle.frozen_model.proofs.Fields.{length_bits_of}
use Rattle.block_region.specs.Space.{overwritten}
use Rattle.freezer.specs.Writing.{Writes}

pub bits_of_append : (xs ys : List ℕ) → bits_of (xs ++ ys) ≡ bits_of xs ++ bits_of ys
bits_of_append [] ys = refl
bits_of_append (x ∷ xs) ys = ap (λ r. bits 8 x ++ r) (bits_of_append xs ys)

-- the bits that a write of some bits leaves
abbrev pub put : List Bool → ℕ → ℕ → List Bool → List Bool
put b p w xs = take p b ++ (xs ++ drop (p + w) b)

pub put_at : (a z c xs b : List Bool) (p w : ℕ) → length a ≡ p → length z ≡ w → b ≡ a ++ (z ++ c)
    → put b p w xs ≡ a ++ (xs ++ c)
put_at a z c xs b p w e f h =
    let front : take p b ≡ a = ap (take p) h ∙ take_at a (z ++ c) p e in
    let back : drop (p + w) b ≡ c =
    ap (drop (p + w)) (h ∙ sym (append_assoc a z c))
    ∙ drop_at (a ++ z) c (p + w) (omega (arith, length-append a z)) in
    ap (λ r. r ++ (xs ++ drop (p + w) b)) front ∙ ap (λ r. a ++ (xs ++ r)) back

-- a list in three parts
pub three : {A : Type 0} (bs : List A) (start len : ℕ) → bs ≡ take start bs
    ++ (take len (drop start bs) ++ drop (start + len) bs)
three bs start len =
    sym (take-append-drop start bs)
    ∙ ap (λ r. take start bs ++ r) (sym (take-append-drop len (drop start bs))
    ∙ ap (λ r. take len (drop start bs) ++ r)
    (drop-drop len start bs ∙ ap (λ n. drop n bs) (omega arith)))

-- a write of bits in a block is one in the region
pub put_in_block : (bs ws : List ℕ) (start len bit w : ℕ) (xs : List Bool) → start + len ≤ length bs
    → length ws ≡ len → bit + w ≤ 8 * len
    → bits_of ws ≡ put (bits_of (take len (drop start bs))) bit w xs → bits_of (overwritten bs start ws)
    ≡ put (bits_of bs) (8 * start + bit) w xs
put_in_block bs ws start len bit w xs inside e room h =
    let pre = take start bs in
    let mine = take len (drop start bs) in
    let post = drop (start + len) bs in
    let b = bits_of mine in
    let lp : length (bits_of pre) ≡ 8 * start = length_bits_of pre
    ∙ ap (λ n. 8 * n) (length-take-le start bs (omega arith)) in
    let lm : length b ≡ 8 * len = length_bits_of mine
    ∙ ap (λ n. 8 * n) (length-take-le len (drop start bs) (omega (arith, length-drop start bs))) in
    let whole : bits_of bs ≡ bits_of pre ++ (b ++ bits_of post) =
    ap bits_of (three bs start len) ∙ bits_of_append pre (mine ++ post)
    ∙ ap (λ r. bits_of pre ++ r) (bits_of_append mine post) in
    let parts : b ≡ take bit b ++ (take w (drop bit b) ++ drop (bit + w) b) = three b bit w in
    let x1 = take bit b in
    let x2 = take w (drop bit b) in
    let x3 = drop (bit + w) b in
    let l1 : length x1 ≡ bit = length-take-le bit b (omega arith) in
    let l2 : length x2 ≡ w = length-take-le w (drop bit b) (omega (arith, length-drop bit b)) in
    let all : bits_of bs ≡ (bits_of pre ++ x1) ++ (x2 ++ (x3 ++ bits_of post)) =
    whole ∙ ap (λ r. bits_of pre ++ (r ++ bits_of post)) parts
    ∙ ap (λ r. bits_of pre ++ r) (append_assoc x1 (x2 ++ x3) (bits_of post)
    ∙ ap (λ r. x1 ++ r) (append_assoc x2 x3 (bits_of post)))
    ∙ sym (append_assoc (bits_of pre) x1 (x2 ++ (x3 ++ bits_of post))) in
    let right : put (bits_of bs) (8 * start + bit) w xs ≡ (bits_of pre ++ x1)
    ++ (xs ++ (x3 ++ bits_of post)) =
    put_at (bits_of pre ++ x1) x2 (x3 ++ bits_of post) xs (bits_of bs) (8 * start + bit) w
    (omega (arith, length-append (bits_of pre) x1, lp, l1)) l2 all in
    let left : bits_of (overwritten bs start ws) ≡ bits_of pre ++ (bits_of ws ++ bits_of post) =
    ap (λ n. bits_of (pre ++ (ws ++ drop (start + n) bs))) e ∙ bits_of_append pre (ws ++ post)
    ∙ ap (λ r. bits_of pre ++ r) (bits_of_append ws post) in
    left ∙ ap (λ r. bits_of pre ++ (r ++ bits_of post)) h
    ∙ ap (λ r. bits_of pre ++ r) (append_assoc x1 (xs ++ x3) (bits_of post)
    ∙ ap (λ r. x1 ++ r) (append_assoc xs x3 (bits_of post)))
    ∙ sym (append_assoc (bits_of pre) x1 (xs ++ (x3 ++ bits_of post))) ∙ sym right

-- such a write at a place of zero bits
pub put_writes : (b new xs : List Bool) (p w q : ℕ) → length xs ≡ w → new ≡ put b p w xs
    → Writes b new p w xs q 0 []
put_writes b new xs p w q l is a c m e far h =
    let n0 : 0 + m ≡ m = omega arith in
    let lz : length (replicate w false) ≡ w = length-replicate w false in
    is ∙ put_at a (replicate w false) (c ++ replicate (0 + m) false) xs b p w e lz h
    ∙ ap (λ n. a ++ (xs ++ (c ++ replicate n false))) n0

-- a copy over a block is a write of its bits
pub copy_in_block : (bs ws : List ℕ) (start : ℕ) → start + length ws ≤ length bs
    → bits_of (overwritten bs start ws) ≡ put (bits_of bs) (8 * start) (8 * length ws) (bits_of ws)
copy_in_block bs ws start inside =
    let n = length ws in
    let b = bits_of (take n (drop start bs)) in
    let lm : length b ≡ 8 * n = length_bits_of (take n (drop start bs))
    ∙ ap (λ k. 8 * k) (length-take-le n (drop start bs) (omega (arith, length-drop start bs))) in
    let z : 0 + 8 * n ≡ 8 * n = omega arith in
    let p : 8 * start + 0 ≡ 8 * start = omega arith in
    let rest : drop (0 + 8 * n) b ≡ [] = drop_all (0 + 8 * n) b (omega (arith, lm)) in
    let h : bits_of ws ≡ put b 0 (8 * n) (bits_of ws) = sym
    (ap (λ r. bits_of ws ++ r) rest ∙ append-nil (bits_of ws)) in
    put_in_block bs ws start n 0 (8 * n) (bits_of ws) inside refl (omega arith) h
    ∙ ap (λ k. put (bits_of bs) k (8 * n) (bits_of ws)) p
