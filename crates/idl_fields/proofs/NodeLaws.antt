-- Types in one list: each means what its node means, and those that stand keep their meaning where more are added.
use Rattle.std.proofs.Common.{◌≡◌, ℕ, zero, suc, ◌+◌, ◌<◌, ◌≤◌, List, [], ◌∷◌, ◌++◌, Bool, true, false, if◌then◌else◌, nat_lt, length, get_or, refl, sym, ap, ap₂, ◌∙◌, subst, arith, length-append}
use Rattle.std.proofs.Math.ListN.{get_or-append}
use Rattle.std.proofs.Math.Seq.{get_or-append_seam}
use Rattle.std.proofs.lemmas.Bool.{and_parts, and_from}
use Rattle.std.proofs.lemmas.Bool.Decides.{nat_tests}
use Rattle.std.proofs.lemmas.List.{get_or_past}
use Rattle.idl_fields.specs.declared.draft.TypeNode.{TypeNode}
use Rattle.idl_fields.specs.declared.draft.TypeNode.TheVariants as n
use Rattle.idl_profile.specs.declared.kinds.BaseType.TheVariants.{Flag}
use Rattle.idl_profile.specs.Meaning as m
use Rattle.idl_fields.specs.Nodes.{type_at, node_type, known, parts_below, are_placed}

below-true : (i k : ℕ) → nat_lt i k ≡ true → i < k
below-true i k e = grind (arith, nat_tests)

pub length-known : (ts : List m.Ty) (xs : List TypeNode) → length (known ts xs) ≡ length ts + length xs
length-known ts [] = omega arith
length-known ts (x ∷ xs) = omega (arith, length-known (ts ++ node_type ts x ∷ []) xs, length-append ts (node_type ts x ∷ []))

-- one more node: its meaning goes to the end
pub known-more : (ts : List m.Ty) (xs : List TypeNode) (x : TypeNode) → known ts (xs ++ x ∷ []) ≡ known ts xs ++ node_type (known ts xs) x ∷ []
known-more ts [] x = refl
known-more ts (y ∷ ys) x = known-more (ts ++ node_type ts y ∷ []) ys x

pub placed-more : (i : ℕ) (xs : List TypeNode) (x : TypeNode) → are_placed i xs ≡ true → parts_below (i + length xs) x ≡ true → are_placed i (xs ++ x ∷ []) ≡ true
placed-more i [] x h g = let e : i + 0 ≡ i = omega arith in and_from _ _ (subst (λ (k : ℕ). parts_below k x ≡ true) e g) refl
placed-more i (y ∷ ys) x h g =
    let e : i + suc (length ys) ≡ suc i + length ys = omega arith in
    let p = and_parts (parts_below i y) (are_placed (suc i) ys) h in
    and_from _ _ p.0 (placed-more (suc i) ys x p.1 (subst (λ (k : ℕ). parts_below k x ≡ true) e g))

-- what is known stays in front
known-front : (ts : List m.Ty) (xs : List TypeNode) (i : ℕ) → i < length ts → type_at (known ts xs) i ≡ type_at ts i
known-front ts [] i h = refl
known-front ts (x ∷ xs) i h =
    known-front (ts ++ node_type ts x ∷ []) xs i (omega (arith, length-append ts (node_type ts x ∷ []))) ∙ get_or-append ts (node_type ts x ∷ []) (m.scalar Flag) i h

-- lists that agree below a place
abbrev Agree : List m.Ty → List m.Ty → ℕ → Type 0
Agree ss ts k = (i : ℕ) → i < k → type_at ss i ≡ type_at ts i

node-same : (ss ts : List m.Ty) (k : ℕ) (x : TypeNode) → Agree ss ts k → parts_below k x ≡ true → node_type ss x ≡ node_type ts x
node-same ss ts k (n.Base b) e h = refl
node-same ss ts k (n.Enum j) e h = refl
node-same ss ts k (n.Struct j) e h = refl
node-same ss ts k (n.List x) e h = ap m.list (e x (below-true x k h))
node-same ss ts k (n.Set x) e h = ap m.set (e x (below-true x k h))
node-same ss ts k (n.Map x y) e h =
    let p = and_parts (nat_lt x k) (nat_lt y k) h in
    ap₂ m.map (e x (below-true x k p.0)) (e y (below-true y k p.1))

-- a node whose parts stand keeps its meaning
pub node-stays : (ts more : List m.Ty) (x : TypeNode) → parts_below (length ts) x ≡ true → node_type (ts ++ more) x ≡ node_type ts x
node-stays ts more x h = node-same (ts ++ more) ts (length ts) x (λ i l. get_or-append ts more (m.scalar Flag) i l) h

-- the type at a place is what its node means
known-at : (ts : List m.Ty) (xs : List TypeNode) (i : ℕ) (d : TypeNode) → are_placed (length ts) xs ≡ true → i < length xs
    → type_at (known ts xs) (length ts + i) ≡ node_type (known ts xs) (get_or xs i d)
known-at ts [] i d h l = absurd (omega arith)
known-at ts (x ∷ xs) zero d h l =
    let t = node_type ts x in
    let all = known (ts ++ t ∷ []) xs in
    let e : length ts + 0 ≡ length ts = omega arith in
    let lt : length ts < length (ts ++ t ∷ []) = omega (arith, length-append ts (t ∷ [])) in
    ap (type_at all) e ∙ known-front (ts ++ t ∷ []) xs (length ts) lt ∙ get_or-append_seam ts t [] (m.scalar Flag)
    ∙ node-same ts all (length ts) x (λ j g. sym (known-front ts (x ∷ xs) j g)) (and_parts (parts_below (length ts) x) (are_placed (suc (length ts)) xs) h).0
known-at ts (x ∷ xs) (suc i) d h l =
    let us = ts ++ node_type ts x ∷ [] in
    let e : length ts + suc i ≡ length us + i = omega (arith, length-append ts (node_type ts x ∷ [])) in
    let k : suc (length ts) ≡ length us = omega (arith, length-append ts (node_type ts x ∷ [])) in
    ap (type_at (known us xs)) e
    ∙ known-at us xs i d (subst (λ (j : ℕ). are_placed j xs ≡ true) k (and_parts (parts_below (length ts) x) (are_placed (suc (length ts)) xs) h).1) (omega arith)

placed-at : (k : ℕ) (xs : List TypeNode) (i : ℕ) (d : TypeNode) → are_placed k xs ≡ true → i < length xs → parts_below (k + i) (get_or xs i d) ≡ true
placed-at k [] i d h l = absurd (omega arith)
placed-at k (x ∷ xs) zero d h l = let e : k ≡ k + 0 = omega arith in subst (λ (j : ℕ). parts_below j x ≡ true) e (and_parts (parts_below k x) (are_placed (suc k) xs) h).0
placed-at k (x ∷ xs) (suc i) d h l =
    let e : suc k + i ≡ k + suc i = omega arith in
    subst (λ (j : ℕ). parts_below j (get_or xs i d) ≡ true) e (placed-at (suc k) xs i d (and_parts (parts_below k x) (are_placed (suc k) xs) h).1 (omega arith))

pub at-node : (xs : List TypeNode) (i : ℕ) (x : TypeNode) → are_placed 0 xs ≡ true → i < length xs → x ≡ get_or xs i x → node_type (known [] xs) x ≡ type_at (known [] xs) i
at-node xs i x h l e =
    let z : 0 + i ≡ i = omega arith in
    let k = rw z at (known-at [] xs i x h l) in
    ap (node_type (known [] xs)) e ∙ sym k

pub at-below : (xs : List TypeNode) (i : ℕ) (x : TypeNode) → are_placed 0 xs ≡ true → i < length xs → x ≡ get_or xs i x → parts_below i x ≡ true
at-below xs i x h l e =
    let z : 0 + i ≡ i = omega arith in
    let k = rw z at (placed-at 0 xs i x h l) in
    ap (parts_below i) e ∙ k

pub at-none : (xs : List TypeNode) (i : ℕ) → length xs ≤ i → m.scalar Flag ≡ type_at (known [] xs) i
at-none xs i h = sym (get_or_past (known [] xs) i (m.scalar Flag) (omega (arith, length-known [] xs)))

-- one more, if it was added
pub placed-push : (xs ys : List TypeNode) (x : TypeNode) (b : Bool) → are_placed 0 xs ≡ true → parts_below (length (known [] xs)) x ≡ true → ys ≡ (if b then xs ++ x ∷ [] else xs) → are_placed 0 ys ≡ true
placed-push xs ys x true h g e =
    let k : length (known [] xs) ≡ 0 + length xs = omega (arith, length-known [] xs) in
    ap (are_placed 0) e ∙ placed-more 0 xs x h (subst (λ (j : ℕ). parts_below j x ≡ true) k g)
placed-push xs ys x false h g e = ap (are_placed 0) e ∙ h
