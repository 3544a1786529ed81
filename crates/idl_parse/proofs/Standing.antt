-- What stands at a number among the first enums and structs.
use Rattle.std.proofs.Common.{◌≡◌, ℕ, zero, suc, ◌+◌, ◌<◌, ◌≤◌, List, [], ◌∷◌, ◌++◌, length, take, get_or, Bool, true, false, ◌&&◌, Some, None, ◌⊎◌, inl, inr, refl, sym, ap, subst, ◌∙◌, arith, length-append}
use Rattle.std.specs.Prelude.{slice_get, option_map, string_bytes}
use Rattle.std.specs.List.{fold}
use Rattle.idl_profile.specs.Types as types
use Rattle.idl_profile.specs.Types.{TypeTree, scalar, flag, named, field_list}
use Rattle.idl_profile.specs.Meaning.{Ty, MeantNamed}
use Rattle.idl_fields.specs.declared.draft.DraftNamed as draft
use Rattle.idl_fields.specs.declared.draft.TypeNode.{TypeNode}
use Rattle.idl_fields.specs.declared.draft.TypeNode.TheVariants as v
use Rattle.idl_fields.specs.View.{types_in, named_of, nameds_of}
use Rattle.idl_parse.specs.declared.definition.Definition.{Definition}
use Rattle.idl_parse.specs.Drafts.{draft_fields, fields_at}
use Rattle.idl_parse.specs.Parsed.{meant_of}
use Rattle.idl_parse.specs.Refs.{visible, Stands, node_tree, element_of, key_of, value_of, fields_in, field_in}
use Rattle.idl_fields.specs.declared.draft.DraftField as drafted
use Rattle.idl_fields.specs.View.{fields_of}
use Rattle.std.specs.List.{list_all}
use Rattle.idl_profile.specs.Measures.{at, named_tree, named_of as named_in, trees, fields}

abbrev pub grown : List TypeTree → List MeantNamed → List TypeTree
grown ts ns = fold (λ us n. us ++ named_tree us n ∷ []) ts ns

pub at_front : (ts us : List TypeTree) (i : ℕ) → i < length ts → at (ts ++ us) i ≡ at ts i
at_front [] us i h = absurd (omega arith)
at_front (t ∷ ts) us zero h = refl
at_front (t ∷ ts) us (suc i) h = at_front ts us i (omega arith)

pub at_last : (ts : List TypeTree) (t : TypeTree) → at (ts ++ t ∷ []) (length ts) ≡ t
at_last [] t = refl
at_last (u ∷ ts) t = at_last ts t

pub at_none : (ts : List TypeTree) (j : ℕ) → length ts ≤ j → at ts j ≡ scalar flag
at_none [] j h = refl
at_none (t ∷ ts) zero h = absurd (omega arith)
at_none (t ∷ ts) (suc j) h = at_none ts j (omega arith)

pub kept : (ts : List TypeTree) (ns : List MeantNamed) (i : ℕ) → i < length ts → at (grown ts ns) i ≡ at ts i
kept ts [] i h = refl
kept ts (n ∷ ns) i h = kept (ts ++ named_tree ts n ∷ []) ns i (omega (arith, length-append ts (named_tree ts n ∷ []))) ∙ at_front ts (named_tree ts n ∷ []) i h

pub all : (ts : List TypeTree) (ns : List MeantNamed) → length (grown ts ns) ≡ length ts + length ns
all ts [] = omega arith
all ts (n ∷ ns) = omega (arith, all (ts ++ named_tree ts n ∷ []) ns, length-append ts (named_tree ts n ∷ []))

at_grown : (ts : List TypeTree) (ns : List MeantNamed) (j : ℕ) (n : MeantNamed) → slice_get ns j ≡ Some n → at (grown ts ns) (length ts + j) ≡ named_tree (grown ts (take j ns)) n
at_grown ts [] j n e = absurd cc
at_grown ts (m ∷ ns) zero n e =
    let k : m ≡ n = cc in
    let z : length ts + zero ≡ length ts = omega arith in
    rw z (kept (ts ++ named_tree ts m ∷ []) ns (length ts) (omega (arith, length-append ts (named_tree ts m ∷ []))) ∙ at_last ts (named_tree ts m) ∙ ap (named_tree ts) k)
at_grown ts (m ∷ ns) (suc j) n e =
    let z : length ts + suc j ≡ length (ts ++ named_tree ts m ∷ []) + j = omega (arith, length-append ts (named_tree ts m ∷ [])) in
    rw z (at_grown (ts ++ named_tree ts m ∷ []) ns j n e)

take_take : (ns : List MeantNamed) (j k : ℕ) → j < k → take j (take k ns) ≡ take j ns
take_take [] zero zero h = refl
take_take [] zero (suc k) h = refl
take_take [] (suc j) zero h = refl
take_take [] (suc j) (suc k) h = refl
take_take (n ∷ ns) j zero h = absurd (omega arith)
take_take (n ∷ ns) zero (suc k) h = refl
take_take (n ∷ ns) (suc j) (suc k) h = ap (λ (z : List MeantNamed). n ∷ z) (take_take ns j k (omega arith))

get_take : (ns : List MeantNamed) (j k : ℕ) → j < k → slice_get (take k ns) j ≡ slice_get ns j
get_take [] j zero h = refl
get_take [] j (suc k) h = refl
get_take (n ∷ ns) j zero h = absurd (omega arith)
get_take (n ∷ ns) zero (suc k) h = refl
get_take (n ∷ ns) (suc j) (suc k) h = get_take ns j k (omega arith)

get_none : (ns : List MeantNamed) (j : ℕ) → slice_get ns j ≡ None → length ns ≤ j
get_none [] j e = omega arith
get_none (n ∷ ns) zero e = absurd cc
get_none (n ∷ ns) (suc j) e = omega (arith, get_none ns j e)

take_short : (ns : List MeantNamed) (k : ℕ) → length (take k ns) ≤ k
take_short [] zero = omega arith
take_short [] (suc k) = omega arith
take_short (n ∷ ns) zero = omega arith
take_short (n ∷ ns) (suc k) = omega (arith, take_short ns k)

pub stands-some : (ns : List MeantNamed) (k j : ℕ) (n : MeantNamed) → j < k → slice_get ns j ≡ Some n → at (trees (take k ns)) j ≡ named_tree (trees (take j ns)) n
stands-some ns k j n h e =
    let z : 0 + j ≡ j = omega arith in
    let g = rw z at (at_grown [] (take k ns) j n (get_take ns j k h ∙ e)) in
    g ∙ ap (λ (z : List MeantNamed). named_tree (trees z) n) (take_take ns j k h)

pub stands-beyond : (ns : List MeantNamed) (k j : ℕ) → k ≤ j → at (trees (take k ns)) j ≡ scalar flag
stands-beyond ns k j h = at_none (trees (take k ns)) j (omega (arith, all [] (take k ns), take_short ns k))

pub stands-none : (ns : List MeantNamed) (k j : ℕ) → j < k → slice_get ns j ≡ None → at (trees (take k ns)) j ≡ scalar flag
stands-none ns k j h e = at_none (trees (take k ns)) j (omega (arith, all [] (take k ns), get_none (take k ns) j (get_take ns j k h ∙ e)))

get_map : (text : List ℕ) (ts : List Ty) (xs : List draft.DraftNamed) (j : ℕ) → slice_get (nameds_of text ts xs) j ≡ option_map (named_of text ts) (slice_get xs j)
get_map text ts [] j = refl
get_map text ts (x ∷ xs) zero = refl
get_map text ts (x ∷ xs) (suc j) = get_map text ts xs j

got : {A : Type 0} (xs : List A) (j : ℕ) (x : A) → j < length xs → x ≡ get_or xs j x → slice_get xs j ≡ Some x
got [] j x h e = absurd (omega arith)
got (y ∷ xs) zero x h e = ap Some (sym e)
got (y ∷ xs) (suc j) x h e = got xs j x (omega arith) e

got_none : {A : Type 0} (xs : List A) (j : ℕ) → length xs ≤ j → slice_get xs j ≡ None
got_none [] j h = refl
got_none (y ∷ xs) zero h = absurd (omega arith)
got_none (y ∷ xs) (suc j) h = got_none xs j (omega arith)

pub named-some : (d : Definition) (k j : ℕ) (xs : List draft.DraftNamed) (x : draft.DraftNamed) → xs ≡ d.named.items → j < k → j < length xs → x ≡ get_or xs j x → Stands d k j (Some x)
named-some d k j xs x is h lt e =
    stands-some (meant_of d) k j (named_of (string_bytes d.text) (types_in d.types) x) h
    (get_map (string_bytes d.text) (types_in d.types) d.named.items j ∙ ap (λ (z : List draft.DraftNamed). option_map (named_of (string_bytes d.text) (types_in d.types)) (slice_get z j)) (sym is) ∙ ap (option_map (named_of (string_bytes d.text) (types_in d.types))) (got xs j x lt e))

pub named-none : (d : Definition) (k j : ℕ) (xs : List draft.DraftNamed) → xs ≡ d.named.items → j < k → length xs ≤ j → Stands d k j None
named-none d k j xs is h lt =
    stands-none (meant_of d) k j h
    (get_map (string_bytes d.text) (types_in d.types) d.named.items j ∙ ap (λ (z : List draft.DraftNamed). option_map (named_of (string_bytes d.text) (types_in d.types)) (slice_get z j)) (sym is) ∙ ap (option_map (named_of (string_bytes d.text) (types_in d.types))) (got_none xs j lt))

pub named-beyond : (d : Definition) (k j : ℕ) → k ≤ j → Stands d k j None
named-beyond d k j h = stands-beyond (meant_of d) k j h

-- what stands at a number has no parts
abbrev IsPlain : TypeTree → Type 0
IsPlain t = (element_of t ≡ t) × (key_of t ≡ t) × (value_of t ≡ t)

plain_last : (ts : List TypeTree) (n : types.Named) → ((j : ℕ) → IsPlain (at ts j)) → (j : ℕ) → IsPlain (at (ts ++ named n ∷ []) j)
plain_last [] n p zero = (refl, refl, refl)
plain_last [] n p (suc j) = (refl, refl, refl)
plain_last (t ∷ ts) n p zero = p zero
plain_last (t ∷ ts) n p (suc j) = plain_last ts n (λ i. p (suc i)) j

plain_grown : (ts : List TypeTree) (ns : List MeantNamed) → ((j : ℕ) → IsPlain (at ts j)) → (j : ℕ) → IsPlain (at (grown ts ns) j)
plain_grown ts [] p j = p j
plain_grown ts (n ∷ ns) p j = plain_grown (ts ++ named_tree ts n ∷ []) ns (plain_last ts (named_in ts n) p) j

plain : (d : Definition) (k j : ℕ) → IsPlain (at (visible d k) j)
plain d k j = plain_grown [] (take k (meant_of d)) (λ i. (refl, refl, refl)) j

-- an enum or a struct has no parts
pub no_parts : (d : Definition) (k j : ℕ) (x : TypeNode) → (x ≡ v.Enum j) ⊎ (x ≡ v.Struct j) → IsPlain (node_tree d k x)
no_parts d k j x (inl e) = subst (λ (z : TypeNode). IsPlain (node_tree d k z)) (sym e) (plain d k j)
no_parts d k j x (inr e) = subst (λ (z : TypeNode). IsPlain (node_tree d k z)) (sym e) (plain d k j)

pub fields-listed : (d : Definition) (k : ℕ) (fs : List drafted.DraftField) → fields_in d k fs ≡ field_list (fields (visible d k) (fields_of (string_bytes d.text) (types_in d.types) fs))
fields-listed d k [] = refl
fields-listed d k (f ∷ fs) = ap (λ (z : List types.DefField). field_in d k f ∷ z) (fields-listed d k fs)

all_and : (b c : Bool) → (b && c) ≡ true → (b ≡ true) × (c ≡ true)
all_and true c e = (refl, e)
all_and false c e = absurd cc

pub all-at : {A : Type 0} (test : A → Bool) (xs : List A) (j : ℕ) (x : A) → list_all test xs ≡ true → j < length xs → x ≡ get_or xs j x → test x ≡ true
all-at test [] j x e h is = absurd (omega arith)
all-at test (y ∷ xs) zero x e h is = ap test is ∙ (all_and (test y) (list_all test xs) e).0
all-at test (y ∷ xs) (suc j) x e h is = all-at test xs j x (all_and (test y) (list_all test xs) e).1 (omega arith) is

pub length-fields : (d : Definition) (k : ℕ) (fs : List drafted.DraftField) → length (fields_in d k fs) ≡ length fs
length-fields d k [] = refl
length-fields d k (f ∷ fs) = ap suc (length-fields d k fs)

pub get-fields : (d : Definition) (k : ℕ) (fs : List drafted.DraftField) (i : ℕ) (z : drafted.DraftField) → i < length fs → slice_get (fields_in d k fs) i ≡ Some (field_in d k (get_or fs i z))
get-fields d k [] i z h = absurd (omega arith)
get-fields d k (x ∷ fs) zero z h = refl
get-fields d k (x ∷ fs) (suc i) z h = get-fields d k fs i z (omega arith)

-- the fields of the struct that stands at a number
pub fields-there : (xs ys : List draft.DraftNamed) (j : ℕ) (x : draft.DraftNamed) → xs ≡ ys → j < length xs → x ≡ get_or xs j x → fields_at ys j ≡ draft_fields x
fields-there xs ys j x e h is = ap (λ (zs : List draft.DraftNamed). fields_at zs j) (sym e) ∙ by xs j h is
  where
    by : (xs : List draft.DraftNamed) (j : ℕ) → j < length xs → x ≡ get_or xs j x → fields_at xs j ≡ draft_fields x
    by [] j h is = absurd (omega arith)
    by (y ∷ xs) zero h is = ap draft_fields (sym is)
    by (y ∷ xs) (suc j) h is = by xs j (omega arith) is
