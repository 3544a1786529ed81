-- Whole contents.
use Rattle.std.proofs.Common.{◌≡◌, ℕ, ◌-◌, ◌*◌, ◌≤◌, ◌<◌, List, length, true, false, nat_eq, nat_le, arith}
use Rattle.std.proofs.Common.{ap, sym, ◌∙◌, None, Result, Ok, Err}
use Rattle.std.proofs.lemmas.Bool.Decides.{nat_tests}
use Rattle.frozen_model.specs.Bits.{field}
use Rattle.frozen_model.specs.Values.{Value, inline_cells}
use Rattle.frozen_model.specs.Layouts.{Layout, stride}
use Rattle.frozen_model.specs.Packing.{bytes_for}
use Rattle.frozen_model.specs.Walk.{Fault, Short, Long, Dirty, Walked, require, and_then, first_dirty}
use Rattle.frozen_model.specs.Walk.{require_zero, walk, open_content}
use Rattle.content_check.specs.declared.fault.ContentFault.{ContentFault}
use Rattle.content_check.specs.declared.fault.ContentFault.TheVariants as s
use Rattle.content_check.specs.declared.reach.Reach.{Reach}
use Rattle.content_check.specs.Agreeing.{fault_of, without_value, Agrees}
use Rattle.content_check.specs.Steps.{IsWalked, IsZeroOrDirty}
use Rattle.content_check.proofs.Steps.{pass, fail}
use Rattle.content_check.proofs.Walks.{walks}

abbrev root : List ℕ → Layout → Walked Value
root bs l = walk bs l 0 None 0 (bytes_for (stride l)) (inline_cells l)

abbrev ending : List ℕ → Value × ℕ × ℕ → Result Value Fault
ending bs x = require (nat_eq x.1 (length bs)) (Long (length bs - x.1)) (Ok x.0)

abbrev behind : List ℕ → Layout → Result Value Fault
behind bs l = require_zero bs (8 * bytes_for (stride l) - stride l) (stride l)
    (and_then (root bs l) (ending bs))

pub short_opens : (bs : List ℕ) (l : Layout) → length bs < bytes_for (stride l) → IsWalked bs l (Err s.Short)
short_opens bs l h = let t : nat_le (bytes_for (stride l)) (length bs)
    ≡ false = grind (arith, nat_tests) in fail (nat_le (bytes_for (stride l)) (length bs)) Short (behind bs l)
    t

within : (bs : List ℕ) (l : Layout) → bytes_for (stride l) ≤ length bs → open_content bs l ≡ behind bs l
within bs l h = let t : nat_le (bytes_for (stride l)) (length bs)
    ≡ true = grind (arith, nat_tests) in pass (nat_le (bytes_for (stride l)) (length bs)) Short (behind bs l)
    t

pub dirty_opens : (bs : List ℕ) (l : Layout) (bit n : ℕ) (fault : ContentFault) → bit ≡ stride l → n
    ≡ 8 * bytes_for (stride l) - stride l → bytes_for (stride l) ≤ length bs
    → IsZeroOrDirty bs bit n (Err fault) → IsWalked bs l (Err fault)
dirty_opens bs l bit n fault eb en h z =
    let a = stride l in
    let k = 8 * bytes_for (stride l) - stride l in
    let same : field bs bit n ≡ field bs a k = ap (λ b. field bs b n) eb ∙ ap (field bs a) en in
    let ne = λ (q : field bs a k ≡ 0). z.0 (same ∙ q) in
    let t : nat_eq (field bs a k) 0 ≡ false = grind (arith, nat_tests) in
    within bs l h ∙ fail (nat_eq (field bs a k) 0) (Dirty (first_dirty bs k a))
    (and_then (root bs l) (ending bs)) t
    ∙ ap (λ d. Err d) (sym (z.1 ∙ ap (λ b. Dirty (first_dirty bs n b)) eb
    ∙ ap (λ j. Dirty (first_dirty bs j a)) en))

clear : (bs : List ℕ) (l : Layout) (bit n : ℕ) → bit ≡ stride l → n ≡ 8 * bytes_for (stride l) - stride l
    → bytes_for (stride l) ≤ length bs → field bs bit n ≡ 0 → open_content bs l
    ≡ and_then (root bs l) (ending bs)
clear bs l bit n eb en h z =
    let a = stride l in
    let k = 8 * bytes_for (stride l) - stride l in
    let z2 : field bs a k ≡ 0 = sym (ap (λ b. field bs b n) eb ∙ ap (field bs a) en) ∙ z in
    let t : nat_eq (field bs a k) 0 ≡ true = grind (arith, nat_tests) in
    within bs l h ∙ pass (nat_eq (field bs a k) 0) (Dirty (first_dirty bs k a))
    (and_then (root bs l) (ending bs)) t

without_value_err : (w : Walked Value) (e : Fault) → Err e ≡ without_value w → w ≡ Err e
without_value_err (Ok x) e h = absurd cc
without_value_err (Err d) e h = let q : e ≡ d = cc in ap (λ f. Err f) (sym q)

pub err_opens : (bs : List ℕ) (l : Layout) (bit n : ℕ) (at : Reach) (fault : ContentFault) → bit ≡ stride l
    → n ≡ 8 * bytes_for (stride l) - stride l → bytes_for (stride l) ≤ length bs → field bs bit n ≡ 0
    → Agrees bs (root bs l) at (Err fault) → IsWalked bs l (Err fault)
err_opens bs l bit n at fault eb en h z r = clear bs l bit n eb en h z
    ∙ ap (λ w. and_then w (ending bs)) (without_value_err (root bs l) (fault_of fault) r.same)

pub long_opens : (bs : List ℕ) (l : Layout) (bit n : ℕ) (at end : Reach) → bit ≡ stride l → n
    ≡ 8 * bytes_for (stride l) - stride l → bytes_for (stride l) ≤ length bs → field bs bit n ≡ 0
    → Agrees bs (root bs l) at (Ok end) → (end.next ≡ length bs → ⊥)
    → IsWalked bs l (Err (s.Long (length bs - end.next)))
long_opens bs l bit n at end eb en h z r ne =
    let w = walks (root bs l) end.next end.cells (sym r.same) in
    let ne2 = λ (q : w.is.1 ≡ length bs). ne (sym w.next ∙ q) in
    let t : nat_eq w.is.1 (length bs) ≡ false = grind (arith, nat_tests) in
    clear bs l bit n eb en h z ∙ ap (λ q. and_then q (ending bs)) w.ok
    ∙ fail (nat_eq w.is.1 (length bs)) (Long (length bs - w.is.1)) (Ok w.is.0) t
    ∙ ap (λ q. Err (Long (length bs - q))) w.next

pub ok_opens : (bs : List ℕ) (l : Layout) (bit n : ℕ) (at end : Reach) → bit ≡ stride l → n
    ≡ 8 * bytes_for (stride l) - stride l → bytes_for (stride l) ≤ length bs → field bs bit n ≡ 0
    → Agrees bs (root bs l) at (Ok end) → end.next ≡ length bs → IsWalked bs l (Ok end.cells)
ok_opens bs l bit n at end eb en h z r e =
    let w = walks (root bs l) end.next end.cells (sym r.same) in
    let q : w.is.1 ≡ length bs = w.next ∙ e in
    let t : nat_eq w.is.1 (length bs) ≡ true = grind (arith, nat_tests) in
    let opened = clear bs l bit n eb en h z ∙ ap (λ x. and_then x (ending bs)) w.ok
    ∙ pass (nat_eq w.is.1 (length bs)) (Long (length bs - w.is.1)) (Ok w.is.0) t in
    (w.is.0, opened, w.ok ∙ ap (λ m. Ok (w.is.0, m, w.is.2)) q ∙ ap (λ m. Ok (w.is.0, length bs, m)) w.cells)
