-- Values as lines from a place on, and one line more.
use Rattle.std.proofs.Common.{◌≡◌, ◌∙◌, ◌+◌, ◌<◌, ℕ, suc, List, [], ◌∷◌, ◌++◌, sym, ap, arith, append_assoc}
use Rattle.std.proofs.Common.{append-nil}
use Rattle.frozen_model.specs.Values.{Value, Values, count, nth}
use Rattle.serde_json.specs.Data.{Data}
use Rattle.serde_json.specs.Written.{compact_text}
use Rattle.json_line.specs.Json.{each_line}
use Rattle.typed_tree.proofs.Rest.{from, from-next, from-end}

-- the lines from a place on
abbrev pub lines_from : (Value → Data) → Values → ℕ → List ℕ
lines_from f vs i = each_line f (from vs i)

pub line-more : (f : Value → Data) (vs : Values) (i : ℕ) (out mid new all : List ℕ) → i < count vs
    → mid ≡ out ++ compact_text (f (nth vs i)) → new ≡ mid ++ 10 ∷ [] → out ++ lines_from f vs i ≡ all
    → new ++ lines_from f vs (i + 1) ≡ all
line-more f vs i out mid new all lt written ended so_far =
    let d = compact_text (f (nth vs i)) in
    let rest = each_line f (from vs (suc i)) in
    let next : lines_from f vs i ≡ d ++ (10 ∷ rest) = ap (each_line f) (from-next vs i lt) in
    let one : i + 1 ≡ suc i = omega arith in
    ap (λ k. new ++ lines_from f vs k) one
    ∙ ap (λ r. r ++ rest) (ended ∙ ap (λ r. r ++ 10 ∷ []) written)
    ∙ append_assoc (out ++ d) (10 ∷ []) rest ∙ append_assoc out d (10 ∷ rest)
    ∙ ap (λ r. out ++ r) (sym next) ∙ so_far

pub lines-done : (f : Value → Data) (vs : Values) (i : ℕ) (out all : List ℕ) → i ≡ count vs
    → out ++ lines_from f vs i ≡ all → out ≡ all
lines-done f vs i out all last so_far =
    let none : lines_from f vs i ≡ [] = ap (each_line f) (from-end vs i last) in
    sym (append-nil out) ∙ ap (λ r. out ++ r) (sym none) ∙ so_far
