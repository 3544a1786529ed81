-- The entry at the first place of a name.
use Rattle.std.proofs.Common.{◌≡◌, ℕ, cond, nat_lt, true, List, [], ◌∷◌, length, ◌<◌, ◌≤◌, zero, suc, get_or, refl, ap, ◌∙◌, arith}
use Rattle.std.specs.Prelude.{Option, Some, None, option_map}
use Rattle.std.specs.List.{list_all}
use Rattle.std.proofs.lemmas.Bool.{and_parts}
use Rattle.std.proofs.lemmas.Bool.Decides.{nat_tests}
use Rattle.std.proofs.lemmas.Grind.{common_steps}
use Rattle.name_index.specs.Names.{first_place}
use Rattle.idl_profile.specs.Meaning as m
use Rattle.idl_profile.specs.Judged.{entry_names}
use Rattle.idl_fields.specs.declared.draft.Entry.{Entry}
use Rattle.idl_fields.specs.Nodes.{node_type, node_stands}
use Rattle.idl_fields.specs.View.{entry_type, entries_of}

pub past : (n l : ℕ) → cond (nat_lt n l) (Some n) None ≡ None → l ≤ n
past n l e = grind (arith, nat_tests)

pub within : (n l i : ℕ) → cond (nat_lt n l) (Some n) None ≡ Some i → n ≡ i
within n l i e = grind (arith, nat_tests)

pub at-place : (w : List ℕ) (es : List m.Entry) → option_map (entry_type es) (first_place (entry_names es) w) ≡ m.find w es
at-place w [] = refl
at-place w (e ∷ es) = let h = at-place w es in grind (arith, common_steps, nat_tests)

pub found-at : (w : List ℕ) (es : List m.Entry) (o : Option ℕ) → o ≡ first_place (entry_names es) w → option_map (entry_type es) o ≡ m.find w es
found-at w es o e = ap (option_map (entry_type es)) e ∙ at-place w es

-- the type of the entry at a place
pub entry-at : (text : List ℕ) (ts : List m.Ty) (es : List Entry) (i : ℕ) (e : Entry) → i < length es → e ≡ get_or es i e → node_type ts e.ty ≡ entry_type (entries_of text ts es) i
entry-at text ts [] i e h is = absurd (omega arith)
entry-at text ts (x ∷ xs) zero e h is = ap (λ (z : Entry). node_type ts z.ty) is
entry-at text ts (x ∷ xs) (suc i) e h is = entry-at text ts xs i e (omega arith) is

pub entry-stands : (types named : ℕ) (es : List Entry) (i : ℕ) (e : Entry) → i < length es → e ≡ get_or es i e → list_all (λ x. node_stands types named x.ty) es ≡ true → node_stands types named e.ty ≡ true
entry-stands types named [] i e h is all = absurd (omega arith)
entry-stands types named (x ∷ xs) zero e h is all =
    ap (λ (z : Entry). node_stands types named z.ty) is ∙ (and_parts (node_stands types named x.ty) (list_all (λ y. node_stands types named y.ty) xs) all).0
entry-stands types named (x ∷ xs) (suc i) e h is all =
    entry-stands types named xs i e (omega arith) is (and_parts (node_stands types named x.ty) (list_all (λ y. node_stands types named y.ty) xs) all).1
