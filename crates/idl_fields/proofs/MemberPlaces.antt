-- The first member that a word means, alone or behind the enum's name and a dot.
use Rattle.std.proofs.Common.{◌≡◌, ◌≢◌, ℕ, ◌≤◌, min, Bool, false, not, cond, nat_lt, ◌||◌, List, [], ◌∷◌, ◌++◌, map, length, refl, sym, ap, ◌∙◌, arith}
use Rattle.std.specs.Prelude.{Option, Some, None, Result, Ok, Err, MatchOption, slice_get}
use Rattle.std.specs.Borrow.{Bor}
use Rattle.std.specs.List.{position, position_or_len}
use Rattle.std.specs.Str.{bytes_eq}
use Rattle.std.specs.Str.Pattern.{FindsTextPrefix, StripsPrefix}
use Rattle.std.proofs.lemmas.Bool.{false_from_ne_true}
use Rattle.std.proofs.lemmas.Bool.Decides.{nat_tests}
use Rattle.std.proofs.lemmas.Grind.{common_steps}
use Rattle.std.proofs.lemmas.List.{append_cancel_left, length-map}
use Rattle.std.proofs.lemmas.List.Sums.{prefix_len-le-length}
use Rattle.std.proofs.lemmas.Option.{slice_get_past}
use Rattle.std.proofs.lemmas.Slice.Eq.{bytes_eq-Decides}
use Rattle.idl_grammar.specs.declared.fault.Fault.{Fault}
use Rattle.idl_grammar.specs.declared.fault.Fault.TheVariants.{BadDefault}
use Rattle.idl_profile.specs.Types as types
use Rattle.idl_profile.specs.Judged.{Start, complete, member_number}
use Rattle.idl_fields.specs.declared.draft.Member.{Member}
use Rattle.idl_fields.specs.View.{member_of}
use Rattle.idl_fields.specs.Indexed.{names_of}
use Rattle.idl_fields.proofs.Finding.{past, within}

-- ---- what stands behind the dot

pub stripped : (name w : List ℕ) (r : Option (Bor (List ℕ))) → MatchOption r (FindsTextPrefix name w None) (λ x. StripsPrefix (FindsTextPrefix name) w x.now) → MatchOption r ((rest : List ℕ) → w ≢ name ++ rest) (λ x. w ≡ name ++ x.now)
stripped name w None h = h
stripped name w (Some x) h = h.1.1 ∙ ap (λ (z : List ℕ). name ++ z) (sym h.2)

pub behind : (name w rest : List ℕ) (r : Option (Bor (List ℕ))) → w ≡ name ++ rest → MatchOption r ((z : List ℕ) → rest ≢ 46 ∷ z) (λ x. rest ≡ 46 ∷ x.now)
    → MatchOption r ((z : List ℕ) → w ≢ name ++ 46 ∷ z) (λ x. w ≡ name ++ 46 ∷ x.now)
behind name w rest None e h = λ z f. h z (append_cancel_left name rest (46 ∷ z) (sym e ∙ f))
behind name w rest (Some x) e h = e ∙ ap (λ (z : List ℕ). name ++ z) h

cut : (name n rest : List ℕ) → bytes_eq (name ++ 46 ∷ n) (name ++ 46 ∷ rest) ≡ bytes_eq n rest
cut [] n rest = refl
cut (c ∷ name) n rest = let h = cut name n rest in grind (arith, nat_tests)

pub not_dotted : (name w : List ℕ) → ((z : List ℕ) → w ≢ name ++ 46 ∷ z) → (n : List ℕ) → bytes_eq (name ++ 46 ∷ n) w ≡ false
not_dotted name w h n = false_from_ne_true _ (λ e. h n (sym ((bytes_eq-Decides (name ++ 46 ∷ n) w).0 e)))

pub dotted : (name w rest : List ℕ) → w ≡ name ++ 46 ∷ rest → (n : List ℕ) → bytes_eq n rest ≡ bytes_eq (name ++ 46 ∷ n) w
dotted name w rest e n = sym (ap (bytes_eq (name ++ 46 ∷ n)) e ∙ cut name n rest)

-- ---- first places

pub nowhere : {X : Type 0} (p : X → Bool) (xs : List X) → ((x : X) → p x ≡ false) → None ≡ position p xs
nowhere p [] h = refl
nowhere p (x ∷ xs) h = let e = h x in let r = nowhere p xs h in grind (arith, common_steps, nat_tests)

as_far : {X : Type 0} (p q : X → Bool) (xs : List X) → ((x : X) → p x ≡ q x) → position_or_len p xs ≡ position_or_len q xs
as_far p q [] h = refl
as_far p q (x ∷ xs) h = let e = h x in let r = as_far p q xs h in grind (arith, common_steps, nat_tests)

pub alike : {X : Type 0} (p q : X → Bool) (xs : List X) → ((x : X) → p x ≡ q x) → position p xs ≡ position q xs
alike p q xs h = ap (λ n. cond (nat_lt n (length xs)) (Some n) None) (as_far p q xs h)

either : {X : Type 0} (p q : X → Bool) (xs : List X) → position_or_len (λ x. p x || q x) xs ≡ min (position_or_len p xs) (position_or_len q xs)
either p q [] = refl
either p q (x ∷ xs) = let h = either p q xs in grind (arith, common_steps, nat_tests)

pub lesser : {X : Type 0} (p q : X → Bool) (xs : List X) (i j : ℕ) → Some i ≡ position p xs → Some j ≡ position q xs → Some (min i j) ≡ position (λ x. p x || q x) xs
lesser p q xs i j e f = let h = either p q xs in grind (arith, nat_tests)

pub first_alone : {X : Type 0} (p q : X → Bool) (xs : List X) (i : ℕ) → Some i ≡ position p xs → None ≡ position q xs → Some i ≡ position (λ x. p x || q x) xs
first_alone p q xs i e f = let h = either p q xs in grind (arith, nat_tests)

pub second_alone : {X : Type 0} (p q : X → Bool) (xs : List X) → None ≡ position p xs → position q xs ≡ position (λ x. p x || q x) xs
second_alone p q xs e = let h = either p q xs in grind (arith, nat_tests, prefix_len-le-length (λ x. not (q x)) xs)

-- ---- the number of the member there

abbrev numbered : Option Member → Result Start Fault
numbered None = Err BadDefault
numbered (Some x) = Ok (complete (types.int_default x.number.value))

abbrev pub means : List ℕ → List ℕ → List ℕ → Bool
means name w n = bytes_eq n w || bytes_eq (name ++ 46 ∷ n) w

at-first : (text name w : List ℕ) (xs : List Member) → member_number name (map (member_of text) xs) w ≡ numbered (slice_get xs (position_or_len (means name w) (names_of (map (member_of text) xs))))
at-first text name w [] = refl
at-first text name w (x ∷ xs) = let h = at-first text name w xs in grind (arith, common_steps, nat_tests)

as-long : (text : List ℕ) (xs : List Member) → length (names_of (map (member_of text) xs)) ≡ length xs
as-long text xs = length-map (map (member_of text) xs) _ ∙ length-map xs _

pub no_member : (text name w : List ℕ) (xs : List Member) → None ≡ position (means name w) (names_of (map (member_of text) xs)) → Err BadDefault ≡ member_number name (map (member_of text) xs) w
no_member text name w xs e =
    let n = position_or_len (means name w) (names_of (map (member_of text) xs)) in
    let h : length xs ≤ n = omega (arith, as-long text xs, past n (length (names_of (map (member_of text) xs))) (sym e)) in
    sym (at-first text name w xs ∙ ap numbered (slice_get_past xs n h))

pub this_member : (text name w : List ℕ) (xs : List Member) (i : ℕ) (x : Member) → Some i ≡ position (means name w) (names_of (map (member_of text) xs)) → slice_get xs i ≡ Some x
    → Ok (complete (types.int_default x.number.value)) ≡ member_number name (map (member_of text) xs) w
this_member text name w xs i x e f =
    let is = within (position_or_len (means name w) (names_of (map (member_of text) xs))) (length (names_of (map (member_of text) xs))) i (sym e) in
    sym (at-first text name w xs ∙ ap (λ n. numbered (slice_get xs n)) is ∙ ap numbered f)
