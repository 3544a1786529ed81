-- How a version codes the leaves of whole numbers.
use Rattle.std.proofs.Common.{◌≡◌, ℕ, ℤ, arith, refl, sym, ◌∙◌, subst, w32}
use mir.Val.{of_z}
use Rattle.frozen_model.specs.Trees.{Flag, Integer, Whole, Leaf, ByteRange, ItemRange, Optional, Struct}
use Rattle.frozen_model.specs.Layouts.{Version, Version1, Version2, Coded, TwosComplement, FromBase, width}
use Rattle.layout_tree.specs.Listing.{Noted, layout_in, version_number}

pub first_code : (v : Version) (s : Noted) (k : Whole) (c : Coded) → v ≡ Version1 → layout_in v s
    ≡ Leaf (Integer k) c → c ≡ TwosComplement (width c)
first_code Version2 s k c h i = absurd cc
first_code Version1 (Leaf Flag x) k c h i = absurd cc
first_code Version1 (Leaf (Integer j) x) k c h i = let same : TwosComplement x.bits
    ≡ c = cc in subst (λ d. d ≡ TwosComplement (width d)) same refl
first_code Version1 (ByteRange t x y) k c h i = absurd cc
first_code Version1 (ItemRange g x y l) k c h i = absurd cc
first_code Version1 (Optional x l) k c h i = absurd cc
first_code Version1 (Struct ls) k c h i = absurd cc

pub record BasedAt (c : Coded) : Type 0 where
  pub base : ℤ
  pub is : c ≡ FromBase base (width c)

pub second_code : (v : Version) (s : Noted) (k : Whole) (c : Coded) → v ≡ Version2 → layout_in v s
    ≡ Leaf (Integer k) c → BasedAt c
second_code Version1 s k c h i = absurd cc
second_code Version2 (Leaf Flag x) k c h i = absurd cc
second_code Version2 (Leaf (Integer j) x) k c h i =
    let same : FromBase x.base x.bits ≡ c = cc in record {
      base = x.base;
      is = subst (λ d. d ≡ FromBase x.base (width d)) same refl;
    }
second_code Version2 (ByteRange t x y) k c h i = absurd cc
second_code Version2 (ItemRange g x y l) k c h i = absurd cc
second_code Version2 (Optional x l) k c h i = absurd cc
second_code Version2 (Struct ls) k c h i = absurd cc

-- ---- a version by its number

pub is_first : (v : Version) (n : ℕ) → n ≡ of_z w32 (version_number v) → (n ≡ 2 → ⊥) → v ≡ Version1
is_first Version1 n e h = refl
is_first Version2 n e h = absurd (h e)

pub is_second : (v : Version) (n : ℕ) → n ≡ of_z w32 (version_number v) → n ≡ 2 → v ≡ Version2
is_second Version1 n e h = let one : 1 ≡ 2 = sym e ∙ h in absurd (omega (arith, one))
is_second Version2 n e h = refl
