-- The code's measures are the measures.
use Rattle.std.proofs.Common.{◌≡◌, ℕ, suc, ◌<◌, ◌≤◌, nat_lt, refl, ap, ◌∙◌, arith, zero, [], ◌∷◌, length, map, get_or, drop}
use Rattle.std.proofs.lemmas.Bool.Decides.{nat_tests}
use Rattle.idl_fields.specs.declared.sizes.Size.{Size}
use Rattle.idl_profile.specs.declared.kinds.Need.TheVariants.{Plain, Required, Optional}
use Rattle.idl_profile.specs.declared.kinds.Need.{Need}
use Rattle.idl_profile.specs.declared.kinds.BaseType.TheVariants as k
use Rattle.idl_fields.specs.Nodes.{type_at}
use Rattle.idl_fields.specs.View.{written_type, written_fields, default_of}
use Rattle.base_lists.specs.Spans.{text_at}
use Rattle.idl_fields.specs.declared.draft.WrittenField.{WrittenField}
use Rattle.idl_profile.specs.Meaning.{Ty, Entry}
use Rattle.std.specs.Prelude.{ℤ, List}
use Rattle.idl_profile.specs.Types as types
use Rattle.idl_profile.specs.Types.{TypeTree, list_of, set_of, map_of, named, Fields, no_fields}
use Rattle.idl_profile.specs.Measures.{fields as fields_in, scalar_tree, at, tree, depth, nodes, bits, widest}
use Rattle.idl_profile.specs.Judged.{measured}
use Rattle.idl_definitions.specs.Sizes.{cap, make_size, size, inside, row_size, table_size, with_branch, struct_size, judged_size}

same_size : (a b c d e f g h : ℕ) → a ≡ e → b ≡ f → c ≡ g → d ≡ h → make_size a b c d ≡ make_size e f g h
same_size a b c d e f g h p q r s = cc

pub size-row : (x : TypeTree) → row_size (size x) ≡ size (list_of x)
unfolding size
size-row x = same_size _ _ _ _ _ _ _ _ (omega arith) (omega arith) refl refl

pub size-bag : (x : TypeTree) → row_size (size x) ≡ size (set_of x)
unfolding size
size-bag x = same_size _ _ _ _ _ _ _ _ (omega arith) (omega arith) refl refl

pub size-table : (x y : TypeTree) → table_size (size x) (size y) ≡ size (map_of x y)
unfolding size
size-table x y = same_size _ _ _ _ _ _ _ _ (omega arith) (omega arith) refl (omega arith)

pub size-group : (w : List ℕ) (bs : Fields) → struct_size (inside bs) ≡ size (named (types.struct_of w bs))
unfolding size inside
size-group w bs = same_size _ _ _ _ _ _ _ _ (omega arith) (omega arith) refl refl

pub inside-branch : (i : ℤ) (w : List ℕ) (n : Need) (t : TypeTree) (d : types.Default) (bs : Fields) → with_branch n (size t) (inside bs) ≡ inside (types.field i w n t d bs)
unfolding size inside
inside-branch i w Optional t d bs = same_size _ _ _ _ _ _ _ _ (omega arith) (omega arith) (omega arith) (omega arith)
inside-branch i w Plain t d bs = same_size _ _ _ _ _ _ _ _ (omega arith) (omega arith) (omega arith) (omega arith)
inside-branch i w Required t d bs = same_size _ _ _ _ _ _ _ _ (omega arith) (omega arith) (omega arith) (omega arith)

lt_cap : (m n : ℕ) → m < 65535 → nat_lt m (cap n) ≡ nat_lt m n
lt_cap m n h = grind (arith, nat_tests)

pub judged-measured : (t : TypeTree) → judged_size (size t) ≡ measured t
unfolding size
judged-measured t = rw (lt_cap 32 (depth t) (omega arith), lt_cap 4096 (nodes t) (omega arith), lt_cap 32767 (bits t) (omega arith), lt_cap 32767 (widest t) (omega arith)) refl

pub size-at : (ts : List TypeTree) (j : ℕ) (d : Size) → j < length (map size ts) → get_or (map size ts) j d ≡ size (at ts j)
size-at [] j d h = absurd (omega arith)
size-at (t ∷ ts) zero d h = refl
size-at (t ∷ ts) (suc j) d h = size-at ts j d (omega arith)

pub size-none : (ts : List TypeTree) (j : ℕ) → length (map size ts) ≤ j → size (scalar_tree k.Flag) ≡ size (at ts j)
size-none [] j h = refl
size-none (t ∷ ts) zero h = absurd (omega arith)
size-none (t ∷ ts) (suc j) h = size-none ts j (omega arith)

pub measured-group : (w : List ℕ) (bs : Fields) → judged_size (struct_size (inside bs)) ≡ measured (named (types.struct_of w bs))
measured-group w bs = ap judged_size (size-group w bs) ∙ judged-measured (named (types.struct_of w bs))

pub ruleset size_steps = (size-row, size-bag, size-table)

-- ---- the fields of a struct, from the last one

abbrev pub of_fields : List ℕ → List Entry → List TypeTree → List WrittenField → Size
of_fields text es ts fs = inside (fields_in ts (written_fields text es fs))

pub inside-none : (text : List ℕ) (es : List Entry) (ts : List TypeTree) (fs : List WrittenField) → make_size 0 0 0 0 ≡ of_fields text es ts (drop (length fs) fs)
unfolding inside
inside-none text es ts [] = refl
inside-none text es ts (f ∷ fs) = inside-none text es ts fs

pub inside-step : (text : List ℕ) (es : List Entry) (ts : List TypeTree) (fs : List WrittenField) (j : ℕ) (f : WrittenField) → j < length fs → f ≡ get_or fs j f
    → with_branch f.need (size (tree ts (written_type es f.ty))) (of_fields text es ts (drop (suc j) fs)) ≡ of_fields text es ts (drop j fs)
inside-step text es ts [] j f h e = absurd (omega arith)
inside-step text es ts (g ∷ fs) zero f h e =
    ap (λ (z : WrittenField). with_branch z.need (size (tree ts (written_type es z.ty))) (of_fields text es ts fs)) e
    ∙ inside-branch g.id.id (text_at text g.name) g.need (tree ts (written_type es g.ty)) (default_of text g.default) (fields_in ts (written_fields text es fs))
inside-step text es ts (g ∷ fs) (suc j) f h e = inside-step text es ts fs j f (omega arith) e

-- ---- the types in their list

pub type-size-at : (ts : List TypeTree) (types : List Ty) (j : ℕ) (d : Size) → j < length (map (λ t. size (tree ts t)) types) → get_or (map (λ t. size (tree ts t)) types) j d ≡ size (tree ts (type_at types j))
type-size-at ts [] j d h = absurd (omega arith)
type-size-at ts (t ∷ types) zero d h = refl
type-size-at ts (t ∷ types) (suc j) d h = type-size-at ts types j d (omega arith)

pub type-size-none : (ts : List TypeTree) (types : List Ty) (j : ℕ) → length (map (λ t. size (tree ts t)) types) ≤ j → size (scalar_tree k.Flag) ≡ size (tree ts (type_at types j))
type-size-none ts [] j h = refl
type-size-none ts (t ∷ types) zero h = absurd (omega arith)
type-size-none ts (t ∷ types) (suc j) h = type-size-none ts types j (omega arith)
