-- Lemmas on a file that is read piece by piece, and on a piece that is written bit by bit.
use Rattle.std.proofs.Common.{◌≡◌, ℕ, ◌+◌, ◌-◌, ◌<◌, ◌≤◌, List, [], ◌++◌, None, Some, Option, Ok, length, take, drop, refl, sym, ap, ◌∙◌, arith, IfSome, subst, length-append}
use Rattle.std.proofs.lemmas.List.{length-take, length-take-le, length-drop, take_all}
use Rattle.std.proofs.Math.Seq.{take-add}
use Rattle.std.specs.Io.KnownBytes.{Appends}
use Rattle.std.proofs.KnownBytes.{Appends-trans}
use Rattle.fz_base.specs.Files.{Held, ReadsFrom}
use Rattle.fz_base.specs.Whole.{IsWhole, RefusesWhole}
use Rattle.fz_base.specs.declared.whole.ReadFault.TheVariants.{TooLarge}

-- what was read so far is the beginning of the file
abbrev pub Begins : Option (List ℕ) → List ℕ → Type 0
Begins None bytes = bytes ≡ []
Begins (Some file) bytes = (length bytes ≤ length file) × (bytes ≡ take (length bytes) file)

begins-more : (file : Option (List ℕ)) (bytes into : List ℕ) (n : ℕ) → n ≤ length into → Begins file bytes
    → ReadsFrom file (length bytes) (Ok n) into → Begins file (bytes ++ take n into)
begins-more None bytes into n le b r = absurd r
begins-more (Some file) bytes into n le b r =
    let len : length (take n into) ≡ n = length-take-le n into le in
    let gave : length (take n into) ≡ length (take n (drop (length bytes) file)) = ap length r.0 in
    let all : length (bytes ++ take n into) ≡ length bytes + n = length-append bytes (take n into) ∙ ap (λ k. length bytes + k) len in (
      omega (arith, length-take n (drop (length bytes) file), length-drop (length bytes) file),
      ap (λ xs. xs ++ take n into) b.1 ∙ ap (λ xs. take (length bytes) file ++ xs) r.0 ∙ sym (take-add (length bytes) n file) ∙ ap (λ k. take k file) (sym all),
    )

begins-whole : (file : Option (List ℕ)) (bytes into : List ℕ) (limit : ℕ) → 0 < length into → length bytes ≤ limit → Begins file bytes
    → ReadsFrom file (length bytes) (Ok 0) into → IsWhole file limit bytes
begins-whole None bytes into limit room le b r = absurd r
begins-whole (Some file) bytes into limit room le b r =
    (ap Some (sym (take_all (length bytes) file ((r.1 room).0 refl)) ∙ sym b.1), le)

begins-large : (file : Option (List ℕ)) (bytes : List ℕ) (limit : ℕ) → limit < length bytes → Begins file bytes → RefusesWhole file limit TooLarge
begins-large None bytes limit lt b = absurd (omega (arith, ap length b))
begins-large (Some file) bytes limit lt b = omega (arith, b.0)

-- the same, where the files are told
abbrev pub HasBegun : Option Held → List ℕ → List ℕ → Type 0
HasBegun held name bytes = IfSome held (λ h. Begins (h name) bytes)

pub begun-none : (held : Option Held) (name : List ℕ) → HasBegun held name []
begun-none None name = tt
begun-none (Some h) name = elim (h name) as (λ o. Begins o []) [ None ↦ refl | Some file ↦ (omega arith, refl) ]

begun-more-same : (held : Option Held) (name bytes into : List ℕ) (n : ℕ) → n ≤ length into → HasBegun held name bytes
    → IfSome held (λ h. ReadsFrom (h name) (length bytes) (Ok n) into) → HasBegun held name (bytes ++ take n into)
begun-more-same None name bytes into n le b r = tt
begun-more-same (Some h) name bytes into n le b r = begins-more (h name) bytes into n le b r

pub begun-more : (held now : Option Held) (name bytes into new : List ℕ) (n at : ℕ) → now ≡ held → at ≡ length bytes → new ≡ bytes ++ take n into
    → n ≤ length into → HasBegun held name bytes → IfSome now (λ h. ReadsFrom (h name) at (Ok n) into) → HasBegun held name new
begun-more held now name bytes into new n at same place grown le b r =
    rw grown (begun-more-same held name bytes into n le b
    (subst (λ k. IfSome held (λ h. ReadsFrom (h name) k (Ok n) into)) place (subst (λ o. IfSome o (λ h. ReadsFrom (h name) at (Ok n) into)) same r)))

begun-whole-same : (held : Option Held) (name bytes into : List ℕ) (limit : ℕ) → 0 < length into → length bytes ≤ limit → HasBegun held name bytes
    → IfSome held (λ h. ReadsFrom (h name) (length bytes) (Ok 0) into) → IfSome held (λ h. IsWhole (h name) limit bytes)
begun-whole-same None name bytes into limit room le b r = tt
begun-whole-same (Some h) name bytes into limit room le b r = begins-whole (h name) bytes into limit room le b r

pub begun-whole : (held now : Option Held) (name bytes into : List ℕ) (limit n at : ℕ) → now ≡ held → at ≡ length bytes → n ≡ 0 → 0 < length into → length bytes ≤ limit
    → HasBegun held name bytes → IfSome now (λ h. ReadsFrom (h name) at (Ok n) into) → IfSome held (λ h. IsWhole (h name) limit bytes)
begun-whole held now name bytes into limit n at same place none room le b r =
    begun-whole-same held name bytes into limit room le b
    (subst (λ k. IfSome held (λ h. ReadsFrom (h name) (length bytes) (Ok k) into)) none
    (subst (λ k. IfSome held (λ h. ReadsFrom (h name) k (Ok n) into)) place (subst (λ o. IfSome o (λ h. ReadsFrom (h name) at (Ok n) into)) same r)))

pub begun-large : (held : Option Held) (name bytes : List ℕ) (limit : ℕ) → limit < length bytes → HasBegun held name bytes → IfSome held (λ h. RefusesWhole (h name) limit TooLarge)
begun-large None name bytes limit lt b = tt
begun-large (Some h) name bytes limit lt b = begins-large (h name) bytes limit lt b

-- the rest of a slice, as `&bytes[k..]` gives it
pub rest-is : (k : ℕ) (bytes : List ℕ) → take (length bytes - k) (drop k bytes) ≡ drop k bytes
rest-is k bytes = take_all (length bytes - k) (drop k bytes) (omega (arith, length-drop k bytes))

-- the first n bytes of the rest come after the first k
pub appends-more : (a b c : Option (List ℕ)) (bytes : List ℕ) (k n : ℕ) → Appends a b (take k bytes)
    → Appends b c (take n (take (length bytes - k) (drop k bytes))) → Appends a c (take (k + n) bytes)
appends-more a b c bytes k n p q =
    subst (Appends a c) (sym (take-add k n bytes)) (Appends-trans a b c _ _ p (subst (λ xs. Appends b c (take n xs)) (rest-is k bytes) q))
