-- A text of bytes that need no escape is its own JSON string.
use Rattle.std.proofs.Common.{◌≡◌, ℕ, List, [], ◌∷◌, ◌++◌, Bool, true, false, ◌&&◌, refl, sym, ap, ◌∙◌, arith}
use Rattle.std.proofs.Common.{append_assoc}
use Rattle.std.specs.List.{list_all}
use Rattle.std.proofs.lemmas.Bool.Decides.{nat_tests}
use Rattle.json.specs.Print.{escape_byte, escape, quoted}
use Rattle.json_line.specs.Plain.{is_plain_byte}

left : (a b : Bool) → (a && b) ≡ true → a ≡ true
left true b h = refl
left false b h = absurd cc

right : (a b : Bool) → (a && b) ≡ true → b ≡ true
right true b h = h
right false b h = absurd cc

plain-byte : (b : ℕ) → is_plain_byte b ≡ true → escape_byte b ≡ b ∷ []
unfolding escape_byte
plain-byte b h = grind (arith, nat_tests)

escape-plain : (s : List ℕ) → list_all is_plain_byte s ≡ true → escape s ≡ s
escape-plain [] h = refl
escape-plain (b ∷ s) h =
    ap (λ r. r ++ escape s) (plain-byte b (left _ _ h)) ∙ ap (λ r. b ∷ r) (escape-plain s (right _ _ h))

pub plain-written : (s old a b new : List ℕ) → list_all is_plain_byte s ≡ true → a ≡ old ++ 34 ∷ []
    → b ≡ a ++ s → new ≡ b ++ 34 ∷ [] → new ≡ old ++ quoted s
plain-written s old a b new plain begun middle ended =
    ended ∙ ap (λ r. r ++ 34 ∷ []) (middle ∙ ap (λ r. r ++ s) begun)
    ∙ append_assoc (old ++ 34 ∷ []) s (34 ∷ []) ∙ append_assoc old (34 ∷ []) (s ++ 34 ∷ [])
    ∙ ap (λ r. old ++ 34 ∷ (r ++ 34 ∷ [])) (sym (escape-plain s plain))
