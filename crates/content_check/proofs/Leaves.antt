-- Numbers at leaves.
use Rattle.std.proofs.Common.{◌≡◌, ℕ, zero, suc, ◌+◌, ◌-◌, ◌^◌, ◌≤◌, ◌<◌, List, Bool, true, false, ℤ, pos}
use Rattle.std.proofs.Common.{negsuc, ◌+ℤ◌, ◌-ℤ◌, ◌≤ℤ◌, ◌<ℤ◌, arith, refl, ap, sym, ◌∙◌, subst, cond, nat_eq}
use Rattle.std.proofs.Common.{nat_lt, Option, Some, None}
use Rattle.std.proofs.Math.Logic.{∥∥₁_elim}
use Rattle.std.proofs.Math.Bridge.{le_prop}
use Rattle.std.proofs.lemmas.Int.{ints}
use Rattle.std.proofs.lemmas.Nat.{pow_pos}
use Rattle.std.proofs.lemmas.Bool.Decides.{nat_tests}
use Rattle.frozen_model.specs.Bits.{field, signed}
use Rattle.frozen_model.specs.Trees.{Whole, LeafKind, Integer, Leaf}
use Rattle.frozen_model.specs.Trees.{Part, PartAll, itself, in_item, in_optional, in_struct, in_first}
use Rattle.frozen_model.specs.Trees.{in_later, value_bits, greatest}
use Rattle.frozen_model.specs.Values.{InBits}
use Rattle.frozen_model.specs.Layouts.{Version, Version1, Version2, Layout, Coded, IsCoded, signed_coded}
use Rattle.frozen_model.specs.Layouts.{based_coded, TwosComplement, FromBase, OfVersion, AllOfVersion, Legal}
use Rattle.frozen_model.specs.Layouts.{width, stride, meaning, in_range}
use Rattle.frozen_model.specs.Walk.{first_dirty}
use Rattle.frozen_model.proofs.Fields.{field_fits}
use Rattle.frozen_laws.proofs.Numbers.{always_in_range}
use Rattle.layout_tree.specs.declared.node.Kind.{Kind}
use Rattle.layout_tree.specs.declared.node.FormVersion.{FormVersion}
use Rattle.layout_tree.specs.Listing.{Noted, AllNoted, layout_in, layouts_in, version_of, IsNotedLayout}
use Rattle.layout_tree.specs.Listing.{kind_of}
use Rattle.layout_tree.specs.Reading.{plain, kind_at}
use Rattle.layout_tree.proofs.Readings.{bound}
use Rattle.layout_tree.proofs.Codings.{first_code, second_code}
use Rattle.content_check.specs.Steps.{IsNumberAt, IsAbove}
use Rattle.content_check.specs.Sure.{AlwaysIn}

-- ---- a part of a layout of a version

mutual
  pub version_part : (n v : Version) {t s : Noted} {i m : ℕ} → Part t i s m → OfVersion n (layout_in v t)
      → OfVersion n (layout_in v s)
  version_part n v itself h = h
  version_part n v (in_item p) h = version_part n v p h
  version_part n v (in_optional p) h = version_part n v p h
  version_part n v (in_struct p) h = version_part_all n v p h

  pub version_part_all : (n v : Version) {ts : AllNoted} {s : Noted} {i m : ℕ} → PartAll ts i s m
      → AllOfVersion n (layouts_in v ts) → OfVersion n (layout_in v s)
  version_part_all n v (in_first p) h = version_part n v p h.0
  version_part_all n v (in_later p) h = version_part_all n v p h.1

-- how far from zero
abbrev pub far : ℤ → ℕ
far (pos n) = n
far (negsuc n) = n

far_bits : (v : ℕ) (b : ℤ) → InBits v b → far b + 1 ≤ 2 ^ v
far_bits v (pos n) h = omega arith
far_bits v (negsuc n) h = omega arith

far_low : (v : ℕ) (b : ℤ) → far b + 1 ≤ 2 ^ v → (pos 0 -ℤ pos (2 ^ v)) ≤ℤ b
far_low v (pos n) h = omega (arith, ints)
far_low v (negsuc n) h = omega (arith, ints)

base_far : (n : Version) (k : Whole) (b : ℤ) (w : ℕ) → IsCoded n (Integer k) (FromBase b w) → far b + 1
    ≤ 2 ^ value_bits k
base_far n k b w (based_coded h) = far_bits (value_bits k) b h

pub base_low : (e : FormVersion) (t s : Noted) (n : ℕ) (k : Whole) (b : ℤ) (w : ℕ) → ∥ IsNotedLayout e t ∥₁
    → Part t 0 s n → layout_in (version_of e) s ≡ Leaf (Integer k) (FromBase b w)
    → (pos 0 -ℤ pos (2 ^ value_bits k)) ≤ℤ b
base_low e t s n k b w h p is =
    far_low (value_bits k) b (∥∥₁_elim h le_prop
    (λ x. base_far (version_of e) k b w (subst (OfVersion (version_of e)) is
    (version_part (version_of e) (version_of e) p x.coded))))

pub in_true : (k : Whole) (z : ℤ) → (pos 0 -ℤ pos (2 ^ value_bits k)) ≤ℤ z
    → z ≤ℤ (pos (2 ^ value_bits k) -ℤ pos 1) → in_range (Integer k) z ≡ true
in_true k (pos n) lo hi = let h : n
    < 2 ^ value_bits k = omega (arith, ints) in let t : nat_lt n (2 ^ value_bits k)
    ≡ true = grind (arith, nat_tests) in t
in_true k (negsuc n) lo hi = let h : n
    < 2 ^ value_bits k = omega (arith, ints) in let t : nat_lt n (2 ^ value_bits k)
    ≡ true = grind (arith, nat_tests) in t

pub in_false : (k : Whole) (z : ℤ) → (pos (2 ^ value_bits k) -ℤ pos 1) <ℤ z → in_range (Integer k) z ≡ false
in_false k (pos n) hi = let h : 2 ^ value_bits k
    ≤ n = omega (arith, ints) in let t : nat_lt n (2 ^ value_bits k) ≡ false = grind (arith, nat_tests) in t
in_false k (negsuc n) hi = let p = pow_pos (value_bits k) in absurd (omega (arith, ints, p))

-- ---- reads

pub read_first : (e : FormVersion) (t s : Noted) (n : ℕ) (bs : List ℕ) (bit w : ℕ) (x : ℤ)
    → ∥ IsNotedLayout e t ∥₁ → Part t 0 s n → version_of e ≡ Version1 → w
    ≡ stride (layout_in (version_of e) s) → x ≡ signed w (field bs bit w)
    → IsNumberAt bs (layout_in (version_of e) s) bit (Some x)
read_first e t s n bs bit w x h p ee ew ex k c is =
    let code = first_code (version_of e) s k c ee is in
    let same : w ≡ width c = ew ∙ ap stride is in
    let m = field bs bit (width c) in
    let ez : x ≡ meaning c m = ex ∙ ap (λ v. signed v (field bs bit v)) same
    ∙ sym (ap (λ d. meaning d m) code) in
    let legal = bound e t s n (width c) (greatest (Integer k)) h p
    (λ o. subst (λ (y : Layout). Legal y) is o.legal) in (
      ez,
      ap (in_range (Integer k)) (ez ∙ ap (λ d. meaning d m) code)
          ∙ always_in_range (Integer k) (TwosComplement (width c)) m signed_coded legal
          (field_fits bs bit (width c)),
    )

pub read_second : (e : FormVersion) (t s : Noted) (n : ℕ) (bs : List ℕ) (bit w : ℕ) (base top : ℤ)
    (kind : Kind) (m : ℕ) (r : Option ℤ) → ∥ IsNotedLayout e t ∥₁ → Part t 0 s n → version_of e ≡ Version2 → w
    ≡ stride (layout_in (version_of e) s)
    → m ≡ field bs bit w → ((k : LeafKind) (b : ℤ) (v : ℕ) → layout_in (version_of e) s
    ≡ Leaf k (FromBase b v) → base ≡ b) → plain kind ≡ kind_at (layout_in (version_of e) s)
    → ((k : Whole) → plain kind ≡ kind_of (Integer k) → top ≡ pos (2 ^ value_bits k) -ℤ pos 1)
    → IsAbove base m top r → IsNumberAt bs (layout_in (version_of e) s) bit r
read_second e t s n bs bit w base top kind m (Some x) h p ee ew em eb ek et a = λ k c is.
    let b = second_code (version_of e) s k c ee is in
    let same : w ≡ width c = ew ∙ ap stride is in
    let is2 = is ∙ ap (λ q. Leaf (Integer k) q) b.is in
    let base_is = eb (Integer k) b.base (width c) is2 in
    let f = field bs bit (width c) in
    let ez : x ≡ meaning c f = a.0 ∙ ap (λ z. z +ℤ pos m) base_is
    ∙ ap (λ z. b.base +ℤ pos z) (em ∙ ap (λ v. field bs bit v) same) ∙ sym (ap (λ d. meaning d f) b.is) in
    let low = base_low e t s n k b.base (width c) h p is2 in
    let lo : (pos 0 -ℤ pos (2 ^ value_bits k)) ≤ℤ x = omega (arith, ints, low, base_is, a.0) in
    (ez, in_true k x lo (subst (λ z. x ≤ℤ z) (et k (ek ∙ ap kind_at is)) a.1))
read_second e t s n bs bit w base top kind m None h p ee ew em eb ek et a = λ k c is.
    let b = second_code (version_of e) s k c ee is in
    let same : w ≡ width c = ew ∙ ap stride is in
    let is2 = is ∙ ap (λ q. Leaf (Integer k) q) b.is in
    let base_is = eb (Integer k) b.base (width c) is2 in
    let f = field bs bit (width c) in
    let ez : base +ℤ pos m ≡ meaning c f = ap (λ z. z +ℤ pos m) base_is
    ∙ ap (λ z. b.base +ℤ pos z) (em ∙ ap (λ v. field bs bit v) same) ∙ sym (ap (λ d. meaning d f) b.is) in
    in_false k (meaning c f) (subst (λ z. z <ℤ meaning c f) (et k (ek ∙ ap kind_at is))
    (subst (λ z. top <ℤ z) ez a))

-- ---- the first bit that is not zero

pub dirty_here : (bs : List ℕ) (n bit : ℕ) → 0 < n → (field bs bit 1 ≡ 0 → ⊥) → first_dirty bs n bit ≡ bit
dirty_here bs zero bit h f = absurd (omega arith)
dirty_here bs (suc n) bit h f = let t : nat_eq (field bs bit 1) 0
    ≡ false = grind (arith, nat_tests) in ap (λ (b : Bool). cond b (first_dirty bs n (suc bit)) bit) t

pub dirty_later : (bs : List ℕ) (n m bit bit2 : ℕ) → 0 < n → m ≡ n - 1 → bit2 ≡ bit + 1 → field bs bit 1 ≡ 0
    → first_dirty bs m bit2 ≡ first_dirty bs n bit
dirty_later bs zero m bit bit2 h em eb f = absurd (omega arith)
dirty_later bs (suc n) m bit bit2 h em eb f =
    let t : nat_eq (field bs bit 1) 0 ≡ true = grind (arith, nat_tests) in
    let e1 : m ≡ n = omega arith in
    let e2 : bit2 ≡ suc bit = omega arith in
    ap (λ x. first_dirty bs x bit2) e1 ∙ ap (first_dirty bs n) e2
    ∙ sym (ap (λ (b : Bool). cond b (first_dirty bs n (suc bit)) bit) t)

pub dirty_none : (bs : List ℕ) (n bit : ℕ) → n ≡ 0 → bit ≡ first_dirty bs n bit
dirty_none bs zero bit h = refl
dirty_none bs (suc n) bit h = absurd (omega arith)

-- ---- leaves that stay in their range

pub always_first : (e : FormVersion) (t s : Noted) (n : ℕ) → ∥ IsNotedLayout e t ∥₁ → Part t 0 s n
    → version_of e ≡ Version1 → (k : Whole) (c : Coded) → layout_in (version_of e) s ≡ Leaf (Integer k) c
    → AlwaysIn (Integer k) c
always_first e t s n h p ee k c is m lt =
    let code = first_code (version_of e) s k c ee is in
    let legal = bound e t s n (width c) (greatest (Integer k)) h p
    (λ o. subst (λ (y : Layout). Legal y) is o.legal) in
    ap (λ d. in_range (Integer k) (meaning d m)) code
    ∙ always_in_range (Integer k) (TwosComplement (width c)) m signed_coded legal lt

pub always_second : (e : FormVersion) (t s : Noted) (n w : ℕ) (base top : ℤ) (kind : Kind) (most : ℕ) (x : ℤ)
    → ∥ IsNotedLayout e t ∥₁ → Part t 0 s n → version_of e ≡ Version2 → w
    ≡ stride (layout_in (version_of e) s) → most ≡ 2 ^ w - 1
    → ((k : LeafKind) (b : ℤ) (v : ℕ) → layout_in (version_of e) s ≡ Leaf k (FromBase b v) → base ≡ b)
    → plain kind ≡ kind_at (layout_in (version_of e) s)
    → ((k : Whole) → plain kind ≡ kind_of (Integer k) → top ≡ pos (2 ^ value_bits k) -ℤ pos 1)
    → IsAbove base most top (Some x) → (k : Whole) (c : Coded) → layout_in (version_of e) s
    ≡ Leaf (Integer k) c → AlwaysIn (Integer k) c
always_second e t s n w base top kind most x h p ee ew em eb ek et a k c is = λ m lt.
    let b = second_code (version_of e) s k c ee is in
    let same : w ≡ width c = ew ∙ ap stride is in
    let is2 = is ∙ ap (λ q. Leaf (Integer k) q) b.is in
    let base_is = eb (Integer k) b.base (width c) is2 in
    let low = base_low e t s n k b.base (width c) h p is2 in
    let ez : meaning c m ≡ b.base +ℤ pos m = ap (λ d. meaning d m) b.is in
    let top_is = et k (ek ∙ ap kind_at is) in
    let lt2 : m < 2 ^ w = subst (λ q. m < 2 ^ q) (sym same) lt in
    let le : m ≤ most = omega (arith, lt2, em) in
    let lo : (pos 0 -ℤ pos (2 ^ value_bits k)) ≤ℤ meaning c m = omega (arith, ints, low, ez) in
    let hi : meaning c m ≤ℤ (pos (2 ^ value_bits k) -ℤ pos 1) = omega
    (arith, ints, a.0, a.1, le, base_is, ez, top_is) in
    in_true k (meaning c m) lo hi
