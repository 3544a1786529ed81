-- One more member.
use Rattle.std.proofs.Common.{◌≡◌, ℕ, List, [], ◌∷◌, ◌++◌, map, Option, Result, Ok, refl, sym, ap, subst, ◌∙◌}
use Rattle.std.specs.Prelude.{ℤ}
use Rattle.name_index.specs.declared.index.NameIndex.{NameIndex}
use Rattle.name_index.specs.Names.{Indexes}
use Rattle.base_lists.specs.declared.span.Span.{Span}
use Rattle.base_lists.specs.Spans.{text_at}
use Rattle.idl_grammar.specs.declared.fault.LineFault.{LineFault}
use Rattle.idl_fields.specs.declared.draft.Member.{Member}
use Rattle.idl_profile.specs.Types as types
use Rattle.idl_profile.specs.Judged.{Members, next_number}
use Rattle.idl_profile.specs.Text.{with_member}
use Rattle.idl_fields.specs.View.{member_of, turn_name}
use Rattle.idl_fields.specs.Indexed.{names_of, IndexesMembers}

push : (text : List ℕ) (xs : List Member) (x : Member) → map (member_of text) (xs ++ x ∷ []) ≡ map (member_of text) xs ++ member_of text x ∷ []
push text [] x = refl
push text (y ∷ xs) x = ap (λ (z : List types.Member). member_of text y ∷ z) (push text xs x)

abbrev pub make : List types.Member → Option ℤ → Members
make xs n = record { list = xs; coming = n }

pub members_push : (text : List ℕ) (xs ys : List Member) (x : Member) (was now : Option ℤ) → ys ≡ xs ++ x ∷ [] → now ≡ next_number x.number.value
    → make (map (member_of text) ys) now ≡ with_member (make (map (member_of text) xs) was) (text_at text x.name) x.number.value
members_push text xs ys x was now e f =
    ap (λ (z : List types.Member). make z now) (ap (map (member_of text)) e ∙ push text xs x) ∙ ap (make (map (member_of text) xs ++ member_of text x ∷ [])) f

one_more : (text : List ℕ) (xs : List Member) (x : Member) → names_of (map (member_of text) xs) ++ text_at text x.name ∷ [] ≡ names_of (map (member_of text) (xs ++ x ∷ []))
one_more text [] x = refl
one_more text (y ∷ xs) x = ap (λ (z : List (List ℕ)). text_at text y.name ∷ z) (one_more text xs x)

pub names_push : (text name : List ℕ) (index : NameIndex) (xs ys : List Member) (x : Member) → name ≡ text_at text x.name → ys ≡ xs ++ x ∷ [] → Indexes index (names_of (map (member_of text) xs) ++ name ∷ [])
    → IndexesMembers text index ys
names_push text name index xs ys x is more h =
    subst (Indexes index) (ap (λ (n : List ℕ). names_of (map (member_of text) xs) ++ n ∷ []) is ∙ one_more text xs x ∙ ap (λ (z : List Member). names_of (map (member_of text) z)) (sym more)) h

abbrev pub name_is : List ℕ → Option Span → Result (Option (List ℕ)) LineFault
name_is text o = Ok (turn_name text o)
