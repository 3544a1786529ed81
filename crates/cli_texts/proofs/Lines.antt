-- A loop over the numbers of nodes: what is written, and the lines that are left.
use Rattle.std.proofs.Common.{◌≡◌, ℕ, suc, ◌+◌, ◌≤◌, List, ◌++◌, arith, refl, ap, sym, ◌∙◌, length, drop}
use Rattle.std.proofs.Common.{append_assoc, slice_get, Some}
use Rattle.std.proofs.lemmas.List.{append-nil, drop_all}
use Rattle.frozen_model.specs.Layouts.{Version}
use Rattle.layout_tree.specs.declared.node.NodeSpec.{NodeSpec}
use Rattle.layout_schema.proofs.Places.{drop_get}
use Rattle.layout_schema.proofs.Spelled.{joined}
use Rattle.cli_texts.specs.Listing.{line, lines}

-- one line more is written
pub next_line : (v : Version) (n : ℕ) (xs : List NodeSpec) (x : NodeSpec) (out more : List ℕ)
    → slice_get xs n ≡ Some x → more ≡ out ++ line v n x
    → more ++ lines v (n + 1) (drop (n + 1) xs) ≡ out ++ lines v n (drop n xs)
next_line v n xs x out more is e =
    let one : n + 1 ≡ suc n = omega arith in
    ap (λ k. more ++ lines v k (drop k xs)) one
    ∙ ap (λ r. r ++ lines v (suc n) (drop (suc n) xs)) e
    ∙ append_assoc out (line v n x) (lines v (suc n) (drop (suc n) xs))
    ∙ ap (λ r. out ++ lines v n r) (sym (drop_get xs n x is))

-- past the last node nothing is left
pub all_lines : (v : Version) (n : ℕ) (xs : List NodeSpec) (out : List ℕ) → length xs ≤ n
    → out ≡ out ++ lines v n (drop n xs)
all_lines v n xs out le = sym (append-nil out) ∙ ap (λ r. out ++ lines v n r) (sym (drop_all n xs le))

-- eight pieces, appended one after the other
pub eight_joined : (o a b c d e f g h : List ℕ) {o1 o2 o3 o4 o5 o6 o7 o8 : List ℕ} → o1 ≡ o ++ a
    → o2 ≡ o1 ++ b → o3 ≡ o2 ++ c → o4 ≡ o3 ++ d → o5 ≡ o4 ++ e → o6 ≡ o5 ++ f → o7 ≡ o6 ++ g → o8 ≡ o7 ++ h
    → o8 ≡ o ++ (a ++ b ++ c ++ d ++ e ++ f ++ g ++ h)
eight_joined o a b c d e f g h e1 e2 e3 e4 e5 e6 e7 e8 =
    joined o a b c d e f g h e1 e2 e3 e4 e5 e6 e7 e8 ∙ ap (λ r. o ++ r) (simp append_assoc refl)
