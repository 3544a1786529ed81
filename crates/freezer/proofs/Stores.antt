-- What leaves store, in numbers.
use mir.Val.{of_z}
use Rattle.layout_tree.specs.Listing.{version_number}
use Rattle.std.proofs.Common.{w32, nat_eq, ◌↔◌, Bool, true, false, IsTrue, ◌≡◌, ℕ, suc, ◌+◌, ◌-◌, ◌*◌, ◌/◌}
use Rattle.std.proofs.Common.{◌^◌, ◌≤◌, ◌<◌, ℤ, pos, negsuc, ◌-ℤ◌, ◌≤ℤ◌, ◌<ℤ◌, nat_abs, arith, refl, ap, sym}
use Rattle.std.proofs.Common.{◌∙◌, subst}
use Rattle.std.proofs.lemmas.Int.{ints}
use Rattle.std.proofs.lemmas.Nat.{pow_pos, pow-add, shr_high}
use Rattle.frozen_model.specs.Bits.{complement, need_signed}
use Rattle.frozen_model.specs.Trees.{Whole, Leaf, Integer, LeafKind}
use Rattle.frozen_model.specs.Layouts.{Version, Version1, Version2, Coded, Unsigned, TwosComplement, FromBase}
use Rattle.frozen_model.specs.Layouts.{Layout, Fits, stored, width, stride}
use Rattle.frozen_model.proofs.Digits.{digits_below, complement_fits}
use Rattle.freezer.specs.Leaves.{StoresAt}

-- whatever the coding, what is stored for a number that fits has the width
pub small : (c : Coded) (z : ℤ) → Fits c z → stored c z < 2 ^ width c
small (Unsigned w) z f = digits_below (nat_abs z) w f.wide
small (TwosComplement w) z f = complement_fits w z f.wide
small (FromBase b w) z f = digits_below (nat_abs (z -ℤ b)) w f.wide

pub leaf_same : {k j : LeafKind} {c d : Coded} → ◌≡◌ {A = Layout} (Leaf k c) (Leaf j d) → c ≡ d
leaf_same e = cc

-- the version where numbers have no base
pub unbased : (v : Version) (b : Bool) → (IsTrue b ↔ (v ≡ Version2)) → b ≡ false → v ≡ Version1
unbased Version1 b h e = refl
unbased Version2 b h e = let t : b ≡ true = h.1 refl in absurd cc

pub at_zero : (w : ℕ) (x : ℤ) → pos 0 ≤ℤ x → nat_abs x ≡ complement w x
at_zero w (pos n) h = refl
at_zero w (negsuc n) h = absurd (omega (arith, ints))

ones : (w : ℕ) → w ≤ 64 → 18446744073709551615 / 2 ^ (64 - w) ≡ 2 ^ w - 1
ones w le =
    let k : ℕ = 64 - w in
    let e : 64 ≡ w + k = omega arith in
    let whole : 18446744073709551616 ≡ 2 ^ w * 2 ^ k = ap (λ n. 2 ^ n) e ∙ pow-add 2 w k in
    let p : 0 < 2 ^ w = pow_pos w in
    let q : 0 < 2 ^ k = pow_pos k in
    let a : ℕ = 2 ^ w - 1 in
    let is : 2 ^ w ≡ suc a = omega arith in
    let whole2 : 18446744073709551616 ≡ suc a * 2 ^ k = whole ∙ ap (λ n. n * 2 ^ k) is in
    let sum : 18446744073709551615 ≡ a * 2 ^ k + (2 ^ k - 1) = omega arith in
    ap (λ n. n / 2 ^ k) sum ∙ shr_high a k (2 ^ k - 1) (omega arith)

-- below 0
pub below_zero : (w : ℕ) (x : ℤ) → x <ℤ pos 0 → need_signed x ≤ w → 1 ≤ w
below_zero w (pos n) h k = absurd (omega (arith, ints))
below_zero w (negsuc n) h k = omega arith

pub neg_room : (w : ℕ) (x y : ℤ) → x <ℤ pos 0 → y ≡ negsuc 0 -ℤ x → w ≤ 64 → need_signed x ≤ w → nat_abs y
    ≤ 18446744073709551615 / 2 ^ (64 - w)
neg_room w (pos n) y h e le k = absurd (omega (arith, ints))
neg_room w (negsuc n) y h e le k =
    let is : nat_abs y ≡ n = ap nat_abs e ∙ omega (arith, ints) in
    let fits : 2 ^ w - suc n < 2 ^ w = complement_fits w (negsuc n) k in
    let d : n < 2 ^ w = digits_below n w (omega arith) in
    omega (arith, is, d, ones w le)

pub neg_stored : (w : ℕ) (x y : ℤ) → x <ℤ pos 0 → y ≡ negsuc 0 -ℤ x → w ≤ 64 → need_signed x ≤ w
    → 18446744073709551615 / 2 ^ (64 - w) - nat_abs y ≡ complement w x
neg_stored w (pos n) y h e le k = absurd (omega (arith, ints))
neg_stored w (negsuc n) y h e le k =
    let is : nat_abs y ≡ n = ap nat_abs e ∙ omega (arith, ints) in
    omega (arith, is, ones w le)

pub record Coding (d : Coded) (x : ℤ) (w : ℕ) : Type 0 where
  pub fits : Fits d x
  pub wide : w ≡ width d

pub coding : (l : Layout) (x : ℤ) (w : ℕ) (k : Whole) (d : Coded) → StoresAt l x → w ≡ stride l → l
    ≡ Leaf (Integer k) d → Coding d x w
coding l x w k d s e is = record {
  fits = subst (λ (c : Coded). Fits c x) (leaf_same (sym s.is ∙ is)) s.fits;
  wide = e ∙ ap stride is;
}

pub first_need : (d : Coded) (x : ℤ) (w : ℕ) → d ≡ TwosComplement (width d) → Coding d x w → need_signed x ≤ w
first_need d x w e c = let f = subst (λ (q : Coded). Fits q x) e c.fits in omega (arith, f.wide, c.wide)

pub small_at : (d : Coded) (x : ℤ) (w n : ℕ) → Coding d x w → n ≡ stored d x → n < 2 ^ w
small_at d x w n c e = let h = subst (λ z. stored d x < 2 ^ z) (sym c.wide) (small d x c.fits) in omega
    (arith, e, h)

pub first_stored : (d : Coded) (x : ℤ) (w n : ℕ) → d ≡ TwosComplement (width d) → Coding d x w → n
    ≡ complement w x → n ≡ stored d x
first_stored d x w n e c h = h ∙ ap (λ z. complement z x) c.wide ∙ sym (ap (λ q. stored q x) e)

-- a version's number is 2 exactly in version 2
pub based_is : (v : Version) (n : ℕ) → n ≡ of_z w32 (version_number v) → IsTrue (nat_eq n 2) ↔ (v ≡ Version2)
based_is Version1 n e = (
  λ h. let x : false ≡ true = ap (λ k. nat_eq k 2) (sym e)
      ∙ h in absurd cc,
  λ h. absurd cc,
)
based_is Version2 n e = (λ h. refl, λ h. ap (λ k. nat_eq k 2) e)
