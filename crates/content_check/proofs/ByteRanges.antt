-- Texts, bytes and blocks.
use Rattle.std.proofs.Common.{◌≡◌, ℕ, ◌+◌, ◌≤◌, ◌<◌, List, length, Bool, true, false, arith, refl, ap, sym}
use Rattle.std.proofs.Common.{◌∙◌, subst, take, drop, nat_le, None, Result, Ok, Err}
use Rattle.std.proofs.lemmas.Bool.{le-leb}
use Rattle.std.proofs.lemmas.Bool.Decides.{nat_tests}
use Rattle.std.proofs.lemmas.Str.{IsUtf8-from_is_utf8}
use Rattle.std.specs.Str.{IsUtf8, is_utf8}
use Rattle.frozen_model.specs.Trees.{ByteKind, ByteRange}
use Rattle.frozen_model.specs.Values.{Value, Bytes, cell_limit}
use Rattle.frozen_model.specs.Layouts.{Layout}
use Rattle.frozen_model.specs.Walk.{Short, BadText, TooManyCells, Walked, and_then, is_spelled, bytes_at}
use Rattle.frozen_model.specs.Walk.{range_at, in_order, walk}
use Rattle.layout_tree.specs.Reading.{distance_width, count_width}
use Rattle.content_check.specs.declared.fault.ContentFault.{ContentFault}
use Rattle.content_check.specs.declared.reach.Reach.{Reach}
use Rattle.content_check.specs.Agreeing.{counted, without_value, IsAhead, Agrees}
use Rattle.content_check.specs.Steps.{goes_on, byte_kind, IsByteRange}
use Rattle.content_check.proofs.Steps.{pass, fail}

unordered : (r : Walked Value) (bit : ℕ) → without_value (and_then r (in_order None bit)) ≡ without_value r
unordered (Ok x) bit = refl
unordered (Err e) bit = refl

-- what is counted at a text or bytes, from its count
pub bytes_agrees : (bs : List ℕ) (l : Layout) (text : Bool) (start bit : ℕ) (at : Reach)
    (q : Result ℕ ContentFault) {r : Result Reach ContentFault} → IsByteRange l text
    → ((go : ℕ → Walked Value) → range_at bs (distance_width l) (count_width l) start bit at.next go
    ≡ goes_on q go)
    → counted r ≡ without_value (goes_on q (bytes_at bs (byte_kind text) at.next at.cells)) → IsAhead bs at r
    → Agrees bs (walk bs l start None bit at.next at.cells) at r
bytes_agrees bs l text start bit at q {r} b h e a = record { same = go l b.is h; ahead = a }
  where
    go : (l : Layout) → l ≡ ByteRange (byte_kind text) b.distance b.count
        → ((go : ℕ → Walked Value) → range_at bs (distance_width l) (count_width l) start bit at.next go
        ≡ goes_on q go) → counted r ≡ without_value (walk bs l start None bit at.next at.cells)
    go l is h =
        let h2 = subst (λ (m : Layout). (go : ℕ → Walked Value)
        → range_at bs (distance_width m) (count_width m) start bit at.next go ≡ goes_on q go) is h in
        let f = bytes_at bs (byte_kind text) at.next at.cells in
        subst (λ (m : Layout). counted r ≡ without_value (walk bs m start None bit at.next at.cells)) (sym is)
        (e ∙ ap without_value (sym (h2 f))
        ∙ sym (unordered (range_at bs b.distance b.count start bit at.next f) bit))

le_false : (m n : ℕ) → n < m → nat_le m n ≡ false
le_false m n h = grind (arith, nat_tests)

pub many_bytes : (bs : List ℕ) (t : ByteKind) (next cells n : ℕ) → cell_limit < cells + n
    → bytes_at bs t next cells n ≡ Err TooManyCells
many_bytes bs t next cells n h = fail (nat_le (cells + n) cell_limit) TooManyCells _
    (le_false (cells + n) cell_limit h)

pub short_bytes : (bs : List ℕ) (t : ByteKind) (next cells n : ℕ) → cells + n ≤ cell_limit → length bs < next
    + n → bytes_at bs t next cells n ≡ Err Short
short_bytes bs t next cells n h k = pass (nat_le (cells + n) cell_limit) TooManyCells _
    (le-leb (cells + n) cell_limit h)
    ∙ fail (nat_le (next + n) (length bs)) Short _ (le_false (next + n) (length bs) k)

pub bad_bytes : (bs : List ℕ) (t : ByteKind) (next cells n : ℕ) → cells + n ≤ cell_limit → next + n
    ≤ length bs → is_spelled t (take n (drop next bs)) ≡ false → bytes_at bs t next cells n
    ≡ Err (BadText next)
bad_bytes bs t next cells n h k u =
    pass (nat_le (cells + n) cell_limit) TooManyCells _ (le-leb (cells + n) cell_limit h)
    ∙ pass (nat_le (next + n) (length bs)) Short _ (le-leb (next + n) (length bs) k)
    ∙ fail (is_spelled t (take n (drop next bs))) (BadText next) _ u

pub good_bytes : (bs : List ℕ) (t : ByteKind) (next cells n : ℕ) → cells + n ≤ cell_limit → next + n
    ≤ length bs → is_spelled t (take n (drop next bs)) ≡ true
    → bytes_at bs t next cells n ≡ Ok (Bytes (take n (drop next bs)), next + n, cells + n)
good_bytes bs t next cells n h k u =
    pass (nat_le (cells + n) cell_limit) TooManyCells _ (le-leb (cells + n) cell_limit h)
    ∙ pass (nat_le (next + n) (length bs)) Short _ (le-leb (next + n) (length bs) k)
    ∙ pass (is_spelled t (take n (drop next bs))) (BadText next) _ u

pub not_utf8 : (bs : List ℕ) → (IsUtf8 bs → ⊥) → is_utf8 bs ≡ false
not_utf8 bs h = go (is_utf8 bs) refl
  where
    go : (b : Bool) → is_utf8 bs ≡ b → is_utf8 bs ≡ false
    go false e = e
    go true e = absurd (h (IsUtf8-from_is_utf8 bs e))

pub spelled_by : (text : Bool) (bs : List ℕ) (b : Bool) → b ≡ is_utf8 bs → text ≡ true
    → is_spelled (byte_kind text) bs ≡ b
spelled_by true bs b e h = sym e
spelled_by false bs b e h = absurd cc

pub spelled_any : (text : Bool) (bs : List ℕ) → text ≡ false → is_spelled (byte_kind text) bs ≡ true
spelled_any true bs h = absurd cc
spelled_any false bs h = refl
