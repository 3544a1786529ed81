-- The text of the demo's definition means it.
use Rattle.std.proofs.Common.{◌≡◌, ℕ, List, [], ◌∷◌, refl, sym, subst}
use Rattle.std.specs.Prelude.{ℤ, pos, codes}
use Rattle.std.specs.Fmt.{digits}
use Rattle.std.specs.Str.{IsUtf8}
use Rattle.std.proofs.lemmas.Str.{IsUtf8-from_ascii}
use Rattle.idl_tokens.specs.Tokens.{tokens}
use Rattle.idl_grammar.specs.Grammar.{Spells}
use Rattle.idl_profile.specs.declared.kinds.BaseType.TheVariants as base
use Rattle.idl_profile.specs.declared.kinds.Need.{Need}
use Rattle.idl_profile.specs.declared.kinds.Need.TheVariants.{Plain, Optional}
use Rattle.idl_profile.specs.Meaning as m
use Rattle.idl_profile.specs.Types.{without}
use Rattle.idl_profile.specs.Judged.{is_name}
use Rattle.idl_profile.specs.Text.{whole}
use Rattle.idl_profile.specs.DefText.{DefTokens}
use Rattle.idl_parse.specs.Parsed.{DefText}
use Rattle.idl_print.specs.Printed.{printed}
use Rattle.idl_print.specs.Written.{written}
use Rattle.idl_proper.specs.Proper.{IsName, IsProper, NamedFits}
use Rattle.idl_print.proofs.SpelledText.{written-spelled}
use Rattle.idl_print.proofs.SameText.{same-text}
use Rattle.idl_print.proofs.PrintedLaw.{proper-tokens}
use Rattle.layout_schema.proofs.SchemaText.{name, other, apart, ascii}
use Rattle.cli_texts.specs.Demos.{demo_definition}

-- ---- the two structs as they are meant

abbrev meant_field : ℤ → Need → m.Ty → List ℕ → m.MeantField
meant_field id need type name = record { id = id; need = need; type = type; name = name; default = without }

abbrev meant_user : m.MeantNamed
meant_user = m.struct_of (codes "User")
    (meant_field (pos 1) Plain (m.scalar base.I32) (codes "id")
    ∷ meant_field (pos 2) Plain (m.scalar base.Text) (codes "name")
    ∷ meant_field (pos 3) Optional (m.scalar base.Text) (codes "mail")
    ∷ meant_field (pos 4) Plain (m.list (m.scalar base.Text)) (codes "tags")
    ∷ meant_field (pos 5) Plain (m.map (m.scalar base.Text) (m.scalar base.I32)) (codes "scores") ∷ [])

abbrev meant_users : m.MeantNamed
meant_users = m.struct_of (codes "Users")
    (meant_field (pos 1) Plain (m.map (m.scalar base.I32) (m.struct 0)) (codes "users") ∷ [])

abbrev demo_meant : List m.MeantNamed
demo_meant = meant_user ∷ meant_users ∷ []

-- ---- names

user_names : IsName (codes "User") × IsName (codes "id") × IsName (codes "name") × IsName (codes "mail")
    × IsName (codes "tags") × IsName (codes "scores")
unfolding is_name
user_names = (
  name (codes "User") refl refl,
  name (codes "id") refl refl,
  name (codes "name") refl refl,
  name (codes "mail") refl refl,
  name (codes "tags") refl refl,
  name (codes "scores") refl refl,
)

users_names : IsName (codes "Users") × IsName (codes "users")
unfolding is_name
users_names = (name (codes "Users") refl refl, name (codes "users") refl refl)

-- ---- the two structs are proper

user_is : NamedFits [] meant_user
user_is =
    let n = user_names in (
      n.0,
      (
        (n.1, tt, tt, refl),
        (
          (n.2, tt, tt, refl),
          (
            (n.3, tt, tt, refl),
            (
              (n.4, (refl, tt), tt, refl),
              ((n.5, (refl, tt, tt), tt, refl), tt),
            ),
          ),
        ),
      ),
      (
        (
          apart _ _ _ _ refl refl,
          (
            apart _ _ _ _ refl refl,
            (
              apart _ _ _ _ refl refl,
              (apart _ _ _ _ refl refl, tt),
            ),
          ),
        ),
        (
          (
            apart _ _ _ _ refl refl,
            (
              apart _ _ _ _ refl refl,
              (apart _ _ _ _ refl refl, tt),
            ),
          ),
          (
            (apart _ _ _ _ refl refl, (apart _ _ _ _ refl refl, tt)),
            ((apart _ _ _ _ refl refl, tt), (tt, tt)),
          ),
        ),
      ),
      refl,
      refl,
    )

users_is : NamedFits (meant_user ∷ []) meant_users
users_is =
    let n = users_names in (
      n.0,
      ((n.1, (refl, tt, (codes "User", _, refl, refl)), tt, refl), tt),
      (tt, tt),
      refl,
      refl,
    )

proper : IsProper demo_meant
proper = (user_is, tt, (users_is, (other _ _ refl, tt), tt))

-- ---- the text

means : DefTokens (tokens (written demo_meant)) demo_meant
means =
    let s = written-spelled demo_meant proper in
    record {
      scope = record { entries = s.0; named = demo_meant };
      rest = s.1;
      spells = subst (λ ts. Spells whole (record { entries = s.0; named = demo_meant }) ts s.1)
          (sym (proper-tokens demo_meant proper)) s.2;
      means = refl;
      root = refl;
    }

text_is_utf8 : IsUtf8 (printed demo_definition)
unfolding digits
text_is_utf8 = IsUtf8-from_ascii (printed demo_definition) (ascii (printed demo_definition) refl)

pub demo_text_means : DefText (printed demo_definition) demo_definition
demo_text_means = record {
  utf8 = text_is_utf8;
  read = demo_meant;
  means = subst (λ (z : List ℕ). DefTokens (tokens z) demo_meant) (sym (same-text demo_meant proper)) means;
  is = refl;
}

pub demo_def_means : (text : List ℕ) → text ≡ printed demo_definition → DefText text demo_definition
demo_def_means text e = subst (λ (z : List ℕ). DefText z demo_definition) (sym e) demo_text_means
