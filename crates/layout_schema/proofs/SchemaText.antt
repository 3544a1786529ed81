-- The text of a schema's types means these types.
use Rattle.std.proofs.Common.{◌≡◌, ◌≢◌, Ok, ℕ, zero, suc, ◌<◌, ◌^◌, Bool, true, false, ◌&&◌, List, [], ◌∷◌, refl, sym, subst, arith}
use Rattle.std.specs.Prelude.{ℤ, codes, nat_lt, length}
use Rattle.std.specs.Fmt.{digits}
use Rattle.std.specs.List.{list_all}
use Rattle.std.specs.Ordering.{int_eq}
use Rattle.std.specs.Str.{bytes_eq, IsUtf8, IsAscii}
use Rattle.std.proofs.lemmas.Bool.{and_parts}
use Rattle.std.proofs.lemmas.Bool.Decides.{Decides-int_eq, nat_tests}
use Rattle.std.proofs.lemmas.Slice.Eq.{bytes_eq-Decides}
use Rattle.std.proofs.lemmas.Str.{IsUtf8-from_ascii}
use Rattle.idl_tokens.specs.Characters.{is_word_start, is_word_character}
use Rattle.idl_tokens.specs.Tokens.{tokens}
use Rattle.idl_grammar.specs.Grammar.{Spells}
use Rattle.idl_profile.specs.Types.{root_of}
use Rattle.idl_profile.specs.Judged.{is_name, measured_struct, yes}
use Rattle.idl_profile.specs.Text.{whole}
use Rattle.idl_profile.specs.DefText.{DefTokens}
use Rattle.idl_parse.specs.Parsed.{definition_in, DefText}
use Rattle.idl_print.specs.Written.{written}
use Rattle.idl_proper.specs.Proper.{Every, IsName, IsProper, IsWord, NamedFits}
use Rattle.idl_print.proofs.SpelledText.{written-spelled}
use Rattle.idl_print.proofs.SameText.{same-text}
use Rattle.idl_print.proofs.PrintedLaw.{proper-tokens}
use Rattle.frozen_model.specs.Layouts.{Version, Version1, Version2}
use Rattle.layout_schema.specs.Schemas.{schema_type}
use Rattle.layout_schema.specs.SchemaText.{field_struct, layout_struct, schema_struct, schema_fields, schema_meant, schema_text}

-- ---- names

pub all_of : (w : List ℕ) → list_all is_word_character w ≡ true → Every is_word_character w
all_of [] e = tt
all_of (c ∷ w) e = let p = and_parts _ _ e in (p.0, all_of w p.1)

abbrev pub is_word : List ℕ → Bool
is_word [] = false
is_word (c ∷ w) = is_word_start c && list_all is_word_character w

pub word : (w : List ℕ) → is_word w ≡ true → IsWord w
word [] e = absurd (let f : false ≡ true = e in cc)
word (c ∷ w) e = let p = and_parts _ _ e in (p.0, all_of w p.1)

pub name : (w : List ℕ) → is_word w ≡ true → is_name w ≡ true → IsName w
name w e n = (word w e, n)

pub apart : (i j : ℤ) (v w : List ℕ) → int_eq i j ≡ false → bytes_eq v w ≡ false → (i ≢ j) × (v ≢ w)
apart i j v w ids names = (λ e. let t = (Decides-int_eq i j).1 e in cc, λ e. let t = (bytes_eq-Decides v w).1 e in cc)

-- ---- the three structs are proper

field_fits : IsName (codes "Field") × IsName (codes "layoutId") × IsName (codes "offset")
unfolding is_name
field_fits = (name (codes "Field") refl refl, name (codes "layoutId") refl refl, name (codes "offset") refl refl)

layout_names : IsName (codes "Layout") × IsName (codes "size") × IsName (codes "bits") × IsName (codes "fields") × IsName (codes "typeName") × IsName (codes "base")
unfolding is_name
layout_names = (name (codes "Layout") refl refl, name (codes "size") refl refl, name (codes "bits") refl refl, name (codes "fields") refl refl, name (codes "typeName") refl refl, name (codes "base") refl refl)

schema_names : IsName (codes "Schema") × IsName (codes "relaxTypeChecks") × IsName (codes "layouts") × IsName (codes "rootLayout") × IsName (codes "fileVersion")
unfolding is_name
schema_names = (name (codes "Schema") refl refl, name (codes "relaxTypeChecks") refl refl, name (codes "layouts") refl refl, name (codes "rootLayout") refl refl, name (codes "fileVersion") refl refl)

pub other : (v w : List ℕ) → bytes_eq v w ≡ false → v ≢ w
other v w e is = let t = (bytes_eq-Decides v w).1 is in cc

field_is : NamedFits [] field_struct
field_is =
    let n = field_fits in (
      n.0,
      ((n.1, tt, tt, refl), ((n.2, tt, (refl, omega arith), refl), tt)),
      ((apart _ _ _ _ refl refl, tt), (tt, tt)),
      refl,
      refl,
    )

first_layout_is : NamedFits (field_struct ∷ []) (layout_struct Version1)
first_layout_is =
    let n = layout_names in (
      n.0,
      ((n.1, tt, (refl, omega arith), refl), ((n.2, tt, (refl, omega arith), refl), ((n.3, (refl, tt, (codes "Field", _, refl, refl)), tt, refl), ((n.4, tt, tt, refl), tt)))),
      ((apart _ _ _ _ refl refl, (apart _ _ _ _ refl refl, (apart _ _ _ _ refl refl, tt))), ((apart _ _ _ _ refl refl, (apart _ _ _ _ refl refl, tt)), ((apart _ _ _ _ refl refl, tt), (tt, tt)))),
      refl,
      refl,
    )

second_layout_is : NamedFits (field_struct ∷ []) (layout_struct Version2)
second_layout_is =
    let n = layout_names in (
      n.0,
      ((n.1, tt, (refl, omega arith), refl), ((n.2, tt, (refl, omega arith), refl), ((n.3, (refl, tt, (codes "Field", _, refl, refl)), tt, refl), ((n.4, tt, tt, refl), ((n.5, tt, (refl, omega arith), refl), tt))))),
      ((apart _ _ _ _ refl refl, (apart _ _ _ _ refl refl, (apart _ _ _ _ refl refl, (apart _ _ _ _ refl refl, tt)))), ((apart _ _ _ _ refl refl, (apart _ _ _ _ refl refl, (apart _ _ _ _ refl refl, tt))), ((apart _ _ _ _ refl refl, (apart _ _ _ _ refl refl, tt)), ((apart _ _ _ _ refl refl, tt), (tt, tt))))),
      refl,
      refl,
    )

layout_is : (v : Version) → NamedFits (field_struct ∷ []) (layout_struct v)
layout_is Version1 = first_layout_is
layout_is Version2 = second_layout_is

measured_schema : (v : Version) → measured_struct (field_struct ∷ layout_struct v ∷ []) (schema_fields) ≡ Ok yes
measured_schema Version1 = refl
measured_schema Version2 = refl

schema_is : (v : Version) → NamedFits (field_struct ∷ layout_struct v ∷ []) schema_struct
schema_is v =
    let n = schema_names in (
      n.0,
      ((n.1, tt, refl, refl), ((n.2, (refl, tt, (codes "Layout", _, refl, refl)), tt, refl), ((n.3, tt, (refl, omega arith), refl), ((n.4, tt, (refl, omega arith), refl), tt)))),
      ((apart _ _ _ _ refl refl, (apart _ _ _ _ refl refl, (apart _ _ _ _ refl refl, tt))), ((apart _ _ _ _ refl refl, (apart _ _ _ _ refl refl, tt)), ((apart _ _ _ _ refl refl, tt), (tt, tt)))),
      refl,
      measured_schema v,
    )

proper : (v : Version) → IsProper (schema_meant v)
proper v = (field_is, tt, (layout_is v, (other _ _ refl, tt), (schema_is v, (other _ _ refl, (other _ _ refl, tt)), tt)))

-- ---- the text

means : (v : Version) → DefTokens (tokens (written (schema_meant v))) (schema_meant v)
means v =
    let d = schema_meant v in
    let s = written-spelled d (proper v) in
    record {
      scope = record { entries = s.0; named = d };
      rest = s.1;
      spells = subst (λ ts. Spells whole (record { entries = s.0; named = d }) ts s.1) (sym (proper-tokens d (proper v))) s.2;
      means = refl;
      root = refl;
    }

below_2_31 : (n : ℕ) → nat_lt n 2147483648 ≡ true → n < 2 ^ 31
below_2_31 n e = grind (arith, nat_tests)

pub below_128 : (b : ℕ) → nat_lt b 128 ≡ true → b < 128
below_128 b e = grind (arith, nat_tests)

pub ascii : (bs : List ℕ) → list_all (λ b. nat_lt b 128) bs ≡ true → IsAscii bs
ascii [] e i = omega arith
ascii (b ∷ bs) e zero = below_128 b (and_parts _ _ e).0
ascii (b ∷ bs) e (suc i) = ascii bs (and_parts _ _ e).1 i

text_is_utf8 : (v : Version) → IsUtf8 (schema_text v)
unfolding digits
text_is_utf8 Version1 = IsUtf8-from_ascii (schema_text Version1) (ascii (schema_text Version1) refl)
text_is_utf8 Version2 = IsUtf8-from_ascii (schema_text Version2) (ascii (schema_text Version2) refl)

pub schema_text_short : (v : Version) → length (schema_text v) < 2 ^ 31
unfolding digits
schema_text_short Version1 = below_2_31 (length (schema_text Version1)) refl
schema_text_short Version2 = below_2_31 (length (schema_text Version2)) refl

pub schema_text_means : (v : Version) → DefText (schema_text v) (definition_in (schema_meant v))
schema_text_means v = record {
  utf8 = text_is_utf8 v;
  read = schema_meant v;
  means = subst (λ (z : List ℕ). DefTokens (tokens z) (schema_meant v)) (sym (same-text (schema_meant v) (proper v))) (means v);
  is = refl;
}

pub schema_root : (v : Version) → root_of (definition_in (schema_meant v)) ≡ schema_type v
schema_root Version1 = refl
schema_root Version2 = refl
