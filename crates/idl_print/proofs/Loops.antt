-- What is written piece by piece, and what a loop has still to write.
use Rattle.std.proofs.Common.{◌≡◌, ℕ, List, [], ◌∷◌, ◌++◌, map, drop, Ok, Err, ap, ◌∙◌, append_assoc}
use Rattle.std.specs.Prelude.{Result, OnOk, is_ok, if◌then◌else◌}
use Rattle.std.specs.List.{flat_map}

-- what is still to be written
abbrev pub left : {X Y : Type 0} → (Y → List ℕ) → (X → Y) → ℕ → List X → List ℕ
left f g i xs = flat_map f (map g (drop i xs))

-- a line of two pieces and its end
pub line_ends : {T E : Type 0} (r : Result T E) (a b c d x y : List ℕ) → b ≡ a ++ x → c ≡ b ++ y → d ≡ (if is_ok r then c ++ 59 ∷ 10 ∷ [] else c) → OnOk r (d ≡ a ++ (x ++ y ++ 59 ∷ [] ++ 10 ∷ []))
line_ends (Err u) a b c d x y e f h = tt
line_ends (Ok u) a b c d x y e f h =
    h ∙ ap (λ (z : List ℕ). z ++ 59 ∷ 10 ∷ []) (f ∙ ap (λ (z : List ℕ). z ++ y) e) ∙ simp append_assoc
