-- The text of a definition means the definition.
use Rattle.std.proofs.Common.{◌≡◌, ℕ, zero, suc, Bool, true, false, List, [], ◌∷◌, ◌++◌, Some, refl, sym, ◌∙◌, subst, append_assoc}
use Rattle.std.specs.Prelude.{slice_get}
use Rattle.std.specs.Str.{IsUtf8}
use Rattle.idl_tokens.specs.Tokens.{tokens}
use Rattle.idl_grammar.specs.Grammar.{Spells}
use Rattle.idl_profile.specs.Meaning as m
use Rattle.idl_profile.specs.Types as types
use Rattle.idl_profile.specs.Text.{whole}
use Rattle.idl_profile.specs.DefText.{DefTokens, has_struct}
use Rattle.idl_parse.specs.Parsed.{definition_in, DefText}
use Rattle.idl_print.specs.Printed as p
use Rattle.idl_proper.specs.Proper.{AllFit, DefaultFits, FieldFits, IsProper, IsWord, MemberFits, name, NamedFits, TypeFits}
use Rattle.idl_print.specs.Written.{name_at, written}
use Rattle.idl_print.proofs.PrintedTokens.{printed_tokens}
use Rattle.idl_profile.proofs.Each.{Each}
use Rattle.idl_print.proofs.TextTokens.{TypeWords, DefaultText, FieldText, MemberText, NamedText, tokens-written}
use Rattle.idl_proper.proofs.Proper.{each-map}
use Rattle.idl_print.proofs.SpelledText.{written-spelled}
use Rattle.idl_proper.proofs.Meaning.{proper-from}
use Rattle.idl_proper.proofs.MeantFields.{i32-64, id-64}
use Rattle.idl_print.proofs.SameText.{same-text}
use Rattle.idl_print.proofs.Utf8.{all-utf8}

named-word : (ns : List m.MeantNamed) (n : m.MeantNamed) → NamedFits ns n → IsWord (name n)
named-word ns (m.enum_of w xs) h = h.0.0
named-word ns (m.struct_of w fs) h = h.0.0

-- the name at a place where an enum or a struct stands
words : (before ns : List m.MeantNamed) → AllFit before ns → (n : ℕ) (x : m.MeantNamed) → slice_get ns n ≡ Some x → IsWord (name_at ns n)
words before [] h n x e = absurd cc
words before (y ∷ ns) h zero x e = named-word before y h.0
words before (y ∷ ns) h (suc n) x e = words (before ++ y ∷ []) ns h.2 n x e

get-front : {A : Type 0} (xs ys : List A) (i : ℕ) (x : A) → slice_get xs i ≡ Some x → slice_get (xs ++ ys) i ≡ Some x
get-front [] ys i x e = absurd cc
get-front (z ∷ xs) ys zero x e = e
get-front (z ∷ xs) ys (suc i) x e = get-front xs ys i x e

module _ (all : List m.MeantNamed) (proper : IsProper all) where
  word-at : (before ns : List m.MeantNamed) → before ++ ns ≡ all → (n : ℕ) (x : m.MeantNamed) → slice_get before n ≡ Some x → IsWord (name_at all n)
  word-at before ns is n x e = words [] all proper n x (subst (λ (z : List m.MeantNamed). slice_get z n ≡ Some x) is (get-front before ns n x e))

  type-words : (before ns : List m.MeantNamed) → before ++ ns ≡ all → (key : Bool) (t : m.Ty) → TypeFits before key t → TypeWords all t
  type-words before ns is key (m.scalar s) h = tt
  type-words before ns is key (m.enum n) h = word-at before ns is n (m.enum_of h.0 h.1) h.2
  type-words before ns is key (m.struct n) h = word-at before ns is n (m.struct_of h.0 h.1) h.2
  type-words before ns is key (m.list x) h = type-words before ns is false x h.1
  type-words before ns is key (m.set x) h = type-words before ns is true x h.1
  type-words before ns is key (m.map x y) h = (type-words before ns is true x h.1, type-words before ns is false y h.2)

  default-text : (t : m.Ty) (d : types.Default) → DefaultFits t d → DefaultText d
  default-text t types.without h = tt
  default-text t (types.flag_default b) h = tt
  default-text t (types.int_default z) h = h.1
  default-text t (types.text_default x) h = h.2
  default-text t types.empty_default h = tt

  field-text : (before ns : List m.MeantNamed) → before ++ ns ≡ all → (f : m.MeantField) → FieldFits before f → FieldText all f
  field-text before ns is f h = (id-64 f.id h.3, type-words before ns is false f.type h.1, h.0.0, default-text f.type f.default h.2)

  named-text : (before ns : List m.MeantNamed) → before ++ ns ≡ all → (n : m.MeantNamed) → NamedFits before n → NamedText all n
  named-text before ns is (m.enum_of w xs) h = (h.0.0, each-map MemberFits MemberText xs (λ x f. (f.0.0, i32-64 x.number f.1)) h.1)
  named-text before ns is (m.struct_of w fs) h = (h.0.0, each-map (FieldFits before) (FieldText all) fs (λ f g. field-text before ns is f g) h.1)

  all-text : (before ns : List m.MeantNamed) → before ++ ns ≡ all → AllFit before ns → Each (NamedText all) ns
  all-text before [] is h = tt
  all-text before (n ∷ ns) is h = (named-text before (n ∷ ns) is n h.0, all-text (before ++ n ∷ []) ns (append_assoc before (n ∷ []) ns ∙ is) h.2)

-- The tokens of the text of a proper definition.
pub proper-tokens : (d : List m.MeantNamed) → IsProper d → tokens (written d) ≡ printed_tokens d
proper-tokens d h = tokens-written d (all-text d h [] d refl h)

-- What some text means is what its own text means.
written-means : (d : List m.MeantNamed) → IsProper d → has_struct d ≡ true → DefTokens (tokens (written d)) d
written-means d proper root =
    let s = written-spelled d proper in
    record {
      scope = record { entries = s.0; named = d };
      rest = s.1;
      spells = subst (λ ts. Spells whole (record { entries = s.0; named = d }) ts s.1) (sym (proper-tokens d proper)) s.2;
      means = refl;
      root = root;
    }

-- ---- the law

module _ (text : List ℕ) (read : List m.MeantNamed) (utf8 : IsUtf8 text) (means : DefTokens (tokens text) read) where
  proper : IsProper read
  proper = proper-from text read utf8 means

  same : p.printed (definition_in read) ≡ written read
  same = same-text read proper

  pub written_is : written read ≡ p.printed (definition_in read)
  written_is = sym same

  pub written_utf8 : IsUtf8 (written read)
  written_utf8 = (all-utf8 read read (all-text read proper [] read refl proper)).is

  pub printed-utf8 : IsUtf8 (p.printed (definition_in read))
  printed-utf8 = subst IsUtf8 (sym same) written_utf8

  printed-def : DefText (p.printed (definition_in read)) (definition_in read)
  printed-def = record {
    utf8 = printed-utf8;
    read = read;
    means = subst (λ (z : List ℕ). DefTokens (tokens z) read) (sym same) (written-means read proper means.root);
    is = refl;
  }

-- What some text means is what its own text means.
pub printed_means : (text : List ℕ) (d : List types.Named) → DefText text d → DefText (p.printed d) d
printed_means text d h = subst (λ (z : List types.Named). DefText (p.printed z) z) (sym h.is) (printed-def text h.read h.utf8 h.means)
