-- The tokens of a printed definition spell it: enums, structs and the whole.
use Rattle.std.proofs.Common.{◌≡◌, ◌≢◌, ◌⊎◌, inl, inr, ℕ, ◌+◌, ◌<◌, ◌≤◌, Bool, true, false, ◌||◌, List, [], ◌∷◌, ◌++◌, length, Option, Some, None, Result, Ok, Err, refl, sym, ap, ◌∙◌, subst, arith, append_assoc, append-nil}
use Rattle.std.specs.Prelude.{ℤ, codes, slice_get, nat_lt, if◌then◌else◌, is_some}
use Rattle.std.specs.Str.{bytes_eq}
use Rattle.std.proofs.lemmas.Bool.Decides.{nat_tests}
use Rattle.std.proofs.lemmas.Slice.Eq.{bytes_eq-Decides}
use Rattle.idl_grammar.specs.declared.fault.Fault.{Fault}
use Rattle.idl_grammar.specs.declared.fault.Fault.TheVariants.{BadDefault}
use Rattle.idl_tokens.specs.Tokens.{word, number, mark, finish, spot, Toks}
use Rattle.idl_grammar.specs.Grammar.{enter, wrong, loop, done, more, Spells}
use Rattle.idl_profile.specs.Meaning as m
use Rattle.idl_profile.specs.Types as types
use Rattle.idl_profile.specs.Types.{TypeTree}
use Rattle.idl_profile.specs.Measures.{tree, trees, named_tree, fields as tree_fields, depth, depths, at, scalar_tree}
use Rattle.name_index.specs.Names.{is_among}
use Rattle.idl_profile.specs.Judged.{yes, is_mark, is_sep, new_name, measured, measured_struct, is_i32, counted, a_member, Members, no_members, member_names, an_enum, a_struct, begin_of, a_definition, entry_names}
use Rattle.idl_profile.specs.Text.{closing, struct_body, struct_parts, make_parts, with_struct, own_number, member, with_member, with_enum, make_choice, enum_body, enum_parts, choice, structure, item, definition, whole}
use Rattle.idl_proper.proofs.Lists.{get-here, get-last, neither}
use Rattle.idl_proper.specs.Proper.{AllFit, IsName, IsProper, MemberFits, MembersApart, name, NamedFits}
use Rattle.idl_print.specs.Written.{name_at, name_if}
use Rattle.idl_print.proofs.PrintedTokens.{fields_tokens, members_tokens, closed, all_tokens, printed_tokens}
use Rattle.idl_profile.proofs.Each.{Each}
use Rattle.idl_proper.proofs.Proper.{Distinct, distinct-here, each-append, names-new}
use Rattle.idl_print.proofs.Spelled.{no_ann, no_sep, type_for, Knows, containers, name-is_new, fields-spelled}

-- ---- what a struct's measures say of its types

some_depth : (t : TypeTree) → 1 ≤ depth t
some_depth (types.scalar s) = omega arith
some_depth types.text = omega arith
some_depth types.bytes = omega arith
some_depth (types.list_of x) = omega arith
some_depth (types.set_of x) = omega arith
some_depth (types.map_of x y) = omega arith
some_depth (types.named (types.enum_of w ms)) = omega arith
some_depth (types.named (types.struct_of w fs)) = omega arith

containers-below : (ts : List TypeTree) (t : m.Ty) → containers t < depth (tree ts t)
containers-below ts (m.scalar s) = some_depth (scalar_tree s)
containers-below ts (m.enum n) = some_depth (at ts n)
containers-below ts (m.struct n) = some_depth (at ts n)
containers-below ts (m.list x) = omega (arith, containers-below ts x)
containers-below ts (m.set x) = omega (arith, containers-below ts x)
containers-below ts (m.map x y) = omega (arith, containers-below ts x, containers-below ts y)

below-depths : (ts : List TypeTree) (fs : List m.MeantField) (n : ℕ) → depths (tree_fields ts fs) ≤ n → Each (λ f. containers f.type ≤ n) fs
below-depths ts [] n h = tt
below-depths ts (f ∷ fs) n h = (omega (arith, containers-below ts f.type), below-depths ts fs n (omega arith))

measured-depth : (t : TypeTree) → measured t ≡ Ok yes → depth t ≤ 32
measured-depth t e = by_test (nat_lt 32 (depth t)) refl e
  where
    by_test : (b : Bool) → nat_lt 32 (depth t) ≡ b → measured t ≡ Ok yes → depth t ≤ 32
    by_test true is e = let h = rw is at e in absurd (let x : Err _ ≡ Ok yes = h in cc)
    by_test false is e = grind (arith, nat_tests)

few_containers : (ns : List m.MeantNamed) (fs : List m.MeantField) → measured_struct ns fs ≡ Ok yes → Each (λ f. containers f.type ≤ 32) fs
few_containers ns fs e = below-depths (trees ns) fs 32 (omega (arith, measured-depth (named_tree (trees ns) (m.struct_of [] fs)) e))

-- ---- what has been defined

find-new : (w : List ℕ) (es : List m.Entry) (e : m.Entry) → is_among (entry_names es) w ≡ false → bytes_eq e.name w ≡ true → m.find w (es ++ e ∷ []) ≡ Some e.type
find-new w [] e h is = rw is refl
find-new w (d ∷ es) e h is = let a = neither (bytes_eq d.name w) (is_among (entry_names es) w) h in rw a.0 (find-new w es e a.1 is)

found : (w : List ℕ) (es : List m.Entry) (e : m.Entry) (t : m.Ty) → m.find w es ≡ Some t → m.find w (es ++ e ∷ []) ≡ Some t
found w [] e t h = absurd cc
found w (d ∷ es) e t h = by_test (λ k. found w es e t k) (bytes_eq d.name w) refl h
  where
    by_test : (m.find w es ≡ Some t → m.find w (es ++ e ∷ []) ≡ Some t) → (b : Bool) → bytes_eq d.name w ≡ b → (if b then Some d.type else m.find w es) ≡ Some t → m.find w ((d ∷ es) ++ e ∷ []) ≡ Some t
    by_test ih true is k = rw is k
    by_test ih false is k = rw is (ih k)

each-split : {A : Type 0} (P : A → Type 0) (xs : List A) (y : A) → Each P (xs ++ y ∷ []) → Each P xs × P y
each-split P [] y h = (tt, h.0)
each-split P (x ∷ xs) y h = let a = each-split P xs y h.1 in ((h.0, a.0), a.1)

-- no name of an entry but those of the enums and structs
abbrev Fresh : List m.MeantNamed → List m.Entry → Type 0
Fresh ns es = (w : List ℕ) → Each (λ x. name x ≢ w) ns → Each (λ e. e.name ≢ w) es

abbrev entry_for : ℕ → m.MeantNamed → m.Entry
entry_for n x = record { name = name x; type = type_for n x }

fresh-push : (ns : List m.MeantNamed) (es : List m.Entry) (n : m.MeantNamed) → Fresh ns es → Fresh (ns ++ n ∷ []) (es ++ entry_for (length ns) n ∷ [])
fresh-push ns es n h w e =
    let a = each-split (λ x. name x ≢ w) ns n e in
    each-append (λ d. d.name ≢ w) es (entry_for (length ns) n ∷ []) (h w a.0) (a.1, tt)

bytes_same : (w : List ℕ) → bytes_eq w w ≡ true
bytes_same w = (bytes_eq-Decides w w).1 refl

module _ (all ns : List m.MeantNamed) (es : List m.Entry) (n : m.MeantNamed) (after : List m.MeantNamed) (is : ns ++ n ∷ after ≡ all) (named : IsName (name n)) (new : Each (λ e. e.name ≢ name n) es) where
  here : name_at all (length ns) ≡ name n
  here = ap (λ (z : List m.MeantNamed). name_at z (length ns)) (sym is) ∙ ap name_if (get-here ns n after)

  knows-last : IsName (name_at all (length ns)) × (m.find (name_at all (length ns)) (es ++ entry_for (length ns) n ∷ []) ≡ Some (type_for (length ns) n))
  knows-last =
      let f : m.find (name n) (es ++ entry_for (length ns) n ∷ []) ≡ Some (type_for (length ns) n) = find-new (name n) es (entry_for (length ns) n) (names-new (λ e. e.name) es (name n) new) (bytes_same (name n)) in
      (subst IsName (sym here) named, ap (λ (z : List ℕ). m.find z (es ++ entry_for (length ns) n ∷ [])) here ∙ f)

  pub knows-push : Knows all ns es → Knows all (ns ++ n ∷ []) (es ++ entry_for (length ns) n ∷ [])
  knows-push kn i x e = by_place (get-last ns n x i e)
    where
      by_place : (slice_get ns i ≡ Some x) ⊎ ((i ≡ length ns) × (n ≡ x)) → IsName (name_at all i) × (m.find (name_at all i) (es ++ entry_for (length ns) n ∷ []) ≡ Some (type_for i x))
      by_place (inl g) = let k = kn i x g in (k.0, found (name_at all i) es (entry_for (length ns) n) (type_for i x) k.1)
      by_place (inr g) =
          subst (λ (z : ℕ). IsName (name_at all z) × (m.find (name_at all z) (es ++ entry_for (length ns) n ∷ []) ≡ Some (type_for z x))) (sym g.0)
          (subst (λ (z : m.MeantNamed). IsName (name_at all (length ns)) × (m.find (name_at all (length ns)) (es ++ entry_for (length ns) n ∷ []) ≡ Some (type_for (length ns) z))) g.1 knows-last)

-- ---- what stands behind a definition

abbrev Opens : Toks → Type 0
Opens [] = ⊥
Opens (s ∷ ts) = (is_mark 40 s.token ≡ false) × (is_sep s.token ≡ false)

closing-none : {A : Type 0} (x : A) (ts : Toks) → Opens ts → Spells (closing x) x ts ts
closing-none x [] h = absurd h
closing-none x (s ∷ ts) h = (yes, s ∷ ts, (yes, s ∷ ts, no_ann s ts h.0, no_sep s ts h.1), (refl, refl))

-- ---- enums

number-spelled : (o : Option ℤ) (z : ℤ) (l : ℕ) (ts : Toks) → is_i32 z ≡ true → Spells (own_number o) z (spot (mark 61) l ∷ spot (number (Some z)) l ∷ ts) ts
number-spelled (Some n) z l ts h = (yes, spot (number (Some z)) l ∷ ts, (refl, refl), (rw h refl, refl))
number-spelled None z l ts h = (yes, spot (number (Some z)) l ∷ ts, (refl, refl), (rw h refl, refl))

member-spelled : (ms : Members) (x : types.Member) (l : ℕ) (ts : Toks) → MemberFits x → Spells (member ms x.name) (with_member ms x.name x.number) (spot (mark 61) l ∷ spot (number (Some x.number)) l ∷ spot (mark 44) l ∷ ts) ts
member-spelled ms x l ts fits =
    (x.number, spot (mark 44) l ∷ ts, number-spelled ms.coming x.number l (spot (mark 44) l ∷ ts) fits.1, (yes, ts, (yes, spot (mark 44) l ∷ ts, (refl, refl), (refl, refl)), (refl, refl)))

counted-is : (ms : Members) (w : List ℕ) (r : Result (List ℕ) Fault) → r ≡ Ok w → counted ms (mark 61) r ≡ enter w
counted-is ms w r e = ap (counted ms (mark 61)) e ∙ by_test (is_some ms.coming)
  where
    by_test : (b : Bool) → (if b || true then enter w else wrong BadDefault) ≡ enter w
    by_test true = refl
    by_test false = refl

members-spelled : (ms : Members) (all xs : List types.Member) (l : ℕ) (rest : ℕ → Toks) → ms.list ++ xs ≡ all → Distinct MembersApart all → Each MemberFits xs
    → (c : Option ℤ) × (n : ℕ) × Spells (loop a_member member ms) (record { list = all; coming = c }) (members_tokens l xs (closed rest)) (closed rest n)
members-spelled ms all [] l rest e d fits =
    (ms.coming, l, subst (λ (z : List types.Member). Spells (loop a_member member ms) (record { list = z; coming = ms.coming }) (closed rest l) (closed rest l)) (sym (append-nil ms.list) ∙ e) (done ms (spot (mark 125) l) (rest (l + 1)) refl))
members-spelled ms all (x ∷ xs) l rest e d fits =
    let new : Each (λ y. y.name ≢ x.name) ms.list = distinct-here MembersApart ms.list x xs (subst (Distinct MembersApart) (sym e) d) in
    let e2 : (ms.list ++ x ∷ []) ++ xs ≡ all = append_assoc ms.list (x ∷ []) xs ∙ e in
    let ih = members-spelled (with_member ms x.name x.number) all xs (l + 1) rest e2 d fits.1 in
    let n : new_name (member_names ms) (word x.name) ≡ Ok x.name = name-is_new (member_names ms) x.name fits.0.0.1 (names-new (λ y. y.name) ms.list x.name new) in (
      ih.0,
      ih.1,
      more ms (with_member ms x.name x.number) (record { list = all; coming = ih.0 }) x.name (spot (word x.name) l) _ (members_tokens (l + 1) xs (closed rest)) (closed rest ih.1)
          (counted-is ms x.name (new_name (member_names ms) (word x.name)) n) (member-spelled ms x l (members_tokens (l + 1) xs (closed rest)) fits.0) ih.2,
    )

enum-spelled : (scope : m.Scope) (w : List ℕ) (xs : List types.Member) (l : ℕ) (rest : ℕ → Toks) → ((n : ℕ) → Opens (rest n)) → IsName w → Each (λ e. e.name ≢ w) scope.entries → Each MemberFits xs → Distinct MembersApart xs
    → (n : ℕ) × Spells (definition scope an_enum) (with_enum scope w xs) (spot (word w) l ∷ spot (mark 123) l ∷ members_tokens (l + 1) xs (closed rest)) (rest n)
unfolding item enum_parts enum_body
enum-spelled scope w xs l rest opens named new fits d =
    let ih = members-spelled no_members xs xs (l + 1) rest refl d fits in (
      ih.1 + 1,
      (
        choice (make_choice w xs),
        rest (ih.1 + 1),
        (
          make_choice w xs,
          rest (ih.1 + 1),
          (
            w,
            spot (mark 123) l ∷ members_tokens (l + 1) xs (closed rest),
            (name-is_new (entry_names scope.entries) w named.1 (names-new (λ e. e.name) scope.entries w new), refl),
            (
              xs,
              rest (ih.1 + 1),
              (yes, members_tokens (l + 1) xs (closed rest), (refl, refl), (record { list = xs; coming = ih.0 }, closed rest ih.1, ih.2, (yes, rest (ih.1 + 1), (refl, refl), (refl, refl)))),
              closing-none (make_choice w xs) (rest (ih.1 + 1)) (opens (ih.1 + 1)),
            ),
          ),
          (refl, refl),
        ),
        (refl, refl),
      ),
    )

-- ---- structs

struct-spelled : (all ns : List m.MeantNamed) (es : List m.Entry) → Knows all ns es → (w : List ℕ) (fs : List m.MeantField) (l : ℕ) (rest : ℕ → Toks) → ((n : ℕ) → Opens (rest n)) → Each (λ e. e.name ≢ w) es → NamedFits ns (m.struct_of w fs)
    → (n : ℕ) × Spells (definition (record { entries = es; named = ns }) a_struct) (with_struct (record { entries = es; named = ns }) w fs) (spot (word w) l ∷ spot (mark 123) l ∷ fields_tokens all (l + 1) fs (closed rest)) (rest n)
unfolding item struct_parts struct_body
struct-spelled all ns es kn w fs l rest opens new fits =
    let ih = fields-spelled all ns es kn fs [] fs (l + 1) rest refl fits.2 fits.1 (few_containers ns fs fits.4) in (
      ih.0 + 1,
      (
        structure (make_parts w fs),
        rest (ih.0 + 1),
        (
          make_parts w fs,
          rest (ih.0 + 1),
          (
            w,
            spot (mark 123) l ∷ fields_tokens all (l + 1) fs (closed rest),
            (name-is_new (entry_names es) w fits.0.1 (names-new (λ e. e.name) es w new), refl),
            (
              fs,
              rest (ih.0 + 1),
              (yes, fields_tokens all (l + 1) fs (closed rest), (refl, refl), (fs, closed rest ih.0, ih.1, (yes, rest (ih.0 + 1), (fits.4, refl), (refl, refl)))),
              closing-none (make_parts w fs) (rest (ih.0 + 1)) (opens (ih.0 + 1)),
            ),
          ),
          (refl, refl),
        ),
        (ap (with_struct (record { entries = es; named = ns }) w) fits.3, refl),
      ),
    )

-- ---- the whole

all-open : (all ns : List m.MeantNamed) (l : ℕ) → Opens (all_tokens all l ns)
all-open all [] l = (refl, refl)
all-open all (m.enum_of w xs ∷ ns) l = (refl, refl)
all-open all (m.struct_of w fs ∷ ns) l = (refl, refl)

all-spelled : (all before ns : List m.MeantNamed) (es : List m.Entry) (l : ℕ) → before ++ ns ≡ all → Knows all before es → Fresh before es → AllFit before ns
    → (fs : List m.Entry) × (end : Toks) × Spells (loop a_definition definition (record { entries = es; named = before })) (record { entries = fs; named = all }) (all_tokens all l ns) end
unfolding begin_of
all-spelled all before [] es l is kn fresh fits = (
  es,
  spot finish l ∷ [],
  subst (λ (z : List m.MeantNamed). Spells (loop a_definition definition (record { entries = es; named = before })) (record { entries = es; named = z }) (spot finish l ∷ []) (spot finish l ∷ [])) (sym (append-nil before) ∙ is)
      (done (record { entries = es; named = before }) (spot finish l) [] refl),
)
all-spelled all before (m.enum_of w xs ∷ ns) es l is kn fresh fits =
    let rest : ℕ → Toks = λ k. all_tokens all k ns in
    let new : Each (λ e. e.name ≢ w) es = fresh w fits.1 in
    let one = enum-spelled (record { entries = es; named = before }) w xs l rest (λ n. all-open all ns n) fits.0.0 new fits.0.1 fits.0.2 in
    let is2 : (before ++ m.enum_of w xs ∷ []) ++ ns ≡ all = append_assoc before (m.enum_of w xs ∷ []) ns ∙ is in
    let ih = all-spelled all (before ++ m.enum_of w xs ∷ []) ns (es ++ entry_for (length before) (m.enum_of w xs) ∷ []) one.0 is2 (knows-push all before es (m.enum_of w xs) ns is fits.0.0 new kn) (fresh-push before es (m.enum_of w xs) fresh) fits.2 in
    (ih.0, ih.1, more _ _ _ an_enum (spot (word (codes "enum")) l) _ _ _ refl one.1 ih.2)
all-spelled all before (m.struct_of w fs ∷ ns) es l is kn fresh fits =
    let rest : ℕ → Toks = λ k. all_tokens all k ns in
    let new : Each (λ e. e.name ≢ w) es = fresh w fits.1 in
    let one = struct-spelled all before es kn w fs l rest (λ n. all-open all ns n) new fits.0 in
    let is2 : (before ++ m.struct_of w fs ∷ []) ++ ns ≡ all = append_assoc before (m.struct_of w fs ∷ []) ns ∙ is in
    let ih = all-spelled all (before ++ m.struct_of w fs ∷ []) ns (es ++ entry_for (length before) (m.struct_of w fs) ∷ []) one.0 is2 (knows-push all before es (m.struct_of w fs) ns is fits.0.0 new kn) (fresh-push before es (m.struct_of w fs) fresh) fits.2 in
    (ih.0, ih.1, more _ _ _ a_struct (spot (word (codes "struct")) l) _ _ _ refl one.1 ih.2)

nothing_known : (all : List m.MeantNamed) → Knows all [] []
nothing_known all n x e = absurd cc

-- The tokens of a proper definition spell it.
pub written-spelled : (ns : List m.MeantNamed) → IsProper ns → (es : List m.Entry) × (end : Toks) × Spells whole (record { entries = es; named = ns }) (printed_tokens ns) end
written-spelled ns fits = all-spelled ns [] ns [] 1 refl (nothing_known ns) (λ w e. tt) fits
