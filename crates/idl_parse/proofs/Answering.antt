-- A text has one answer.
use Rattle.std.proofs.Common.{◌≡◌, ◌⊎◌, inl, inr, Bool, true, false, List, ℕ, Result, Ok, Err, refl, sym, ap, subst, ◌∙◌}
use Rattle.std.specs.Prelude.{MatchResult, IfOk, IfErr, [], ◌∷◌}
use Rattle.std.specs.List.{list_any}
use Rattle.std.specs.Str.{IsUtf8, is_utf8}
use Rattle.std.proofs.lemmas.Str.{IsUtf8-from_is_utf8, is_utf8-from_IsUtf8}
use Rattle.idl_tokens.specs.Tokens.{Toks, tokens}
use Rattle.idl_grammar.specs.declared.fault.LineFault.{LineFault}
use Rattle.exact_reading.specs.declared.stop.ReadError.{ReadError}
use Rattle.exact_reading.specs.declared.stop.ReadError.TheVariants as r
use Rattle.exact_reading.specs.Reading.{Fails}
use Rattle.idl_grammar.specs.Run.{run}
use Rattle.idl_grammar.proofs.Exact.{spelled, blamed}
use Rattle.idl_profile.specs.Types.{Named}
use Rattle.idl_profile.specs.Meaning as m
use Rattle.idl_profile.specs.Text.{whole}
use Rattle.idl_profile.specs.DefText.{DefTokens, has_struct, Answer, Causes, answer, means, fault, no_root as none}
use Rattle.idl_profile.proofs.DefLaws.{one_answer, read_answer}
use Rattle.idl_parse.specs.declared.fault.DefFault.{DefFault}
use Rattle.idl_parse.specs.declared.fault.DefFault.TheVariants as f
use Rattle.idl_parse.specs.declared.definition.Definition.{Definition}
use Rattle.idl_fields.specs.declared.draft.DraftNamed as draft
use Rattle.idl_fields.specs.declared.draft.DraftNamed.TheVariants as n
use Rattle.idl_fields.specs.View.{nameds_of}
use Rattle.idl_parse.specs.Faults.{fault_of, fault_of_read}
use Rattle.idl_parse.specs.Parsed.{DefText, FirstFault, not_utf8, faulty, no_root, definition_in, definition_of, IsParsed}
use Rattle.idl_parse.specs.Drafts.{is_struct}

pub read-means : (text : List ℕ) (ts : Toks) (scope : m.Scope) (rest : Toks) → ts ≡ tokens text → run whole ts ≡ Ok (scope, rest) → has_struct scope.named ≡ true → DefTokens (tokens text) scope.named
read-means text ts scope rest is e s =
    let k : run whole (tokens text) ≡ Ok (scope, rest) = ap (run whole) (sym is) ∙ e in
    record { scope = scope; rest = rest; spells = spelled whole (tokens text) scope rest k; means = refl; root = s }

pub read-no_root : (text : List ℕ) (ts : Toks) (scope : m.Scope) (rest : Toks) → IsUtf8 text → ts ≡ tokens text → run whole ts ≡ Ok (scope, rest) → has_struct scope.named ≡ false
    → FirstFault text f.NoRoot
read-no_root text ts scope rest u is e s =
    let k : run whole (tokens text) ≡ Ok (scope, rest) = ap (run whole) (sym is) ∙ e in
    no_root u (record { scope = scope; rest = rest; spells = spelled whole (tokens text) scope rest k; root = s })

pub read-stops : (text : List ℕ) (ts : Toks) (d : ReadError LineFault) → IsUtf8 text → ts ≡ tokens text → Fails d (run whole ts) → (fault_of_read d ≡ f.NoMemory) ⊎ FirstFault text (fault_of_read d)
read-stops text ts r.NoMemory u is e = inl refl
read-stops text ts (r.Stop s) u is e = inr (faulty s u (blamed whole (tokens text) s (ap (run whole) (sym is) ∙ e)))

pub one-definition : (text : List ℕ) (c d : List Named) → DefText text c → DefText text d → c ≡ d
one-definition text c d p q =
    let e : means p.read ≡ means q.read = one_answer (tokens text) (means p.read) (means q.read) p.means q.means in
    let k : p.read ≡ q.read = cc in
    p.is ∙ ap definition_in k ∙ sym q.is

pub not-both : (text : List ℕ) (d : List Named) (e : DefFault) → DefText text d → FirstFault text e → ⊥
not-both text d _ p (not_utf8 n) = n p.utf8
not-both text d _ p (faulty s u q) = let e : means p.read ≡ fault s = one_answer (tokens text) (means p.read) (fault s) p.means q in absurd cc
not-both text d _ p (no_root u q) = let e : means p.read ≡ none = one_answer (tokens text) (means p.read) none p.means q in absurd cc

pub one-fault : (text : List ℕ) (d e : DefFault) → FirstFault text d → FirstFault text e → d ≡ e
one-fault text _ _ (not_utf8 n) (not_utf8 n2) = refl
one-fault text _ _ (not_utf8 n) (faulty s u q) = absurd (n u)
one-fault text _ _ (not_utf8 n) (no_root u q) = absurd (n u)
one-fault text _ _ (faulty s u p) (not_utf8 n) = absurd (n u)
one-fault text _ _ (faulty s u p) (faulty t v q) =
    let e : fault s ≡ fault t = one_answer (tokens text) (fault s) (fault t) p q in let k : s ≡ t = cc in ap fault_of k
one-fault text _ _ (faulty s u p) (no_root v q) = let e : fault s ≡ none = one_answer (tokens text) (fault s) none p q in absurd cc
one-fault text _ _ (no_root u p) (not_utf8 n) = absurd (n u)
one-fault text _ _ (no_root u p) (faulty t v q) = let e : none ≡ fault t = one_answer (tokens text) none (fault t) p q in absurd cc
one-fault text _ _ (no_root u p) (no_root v q) = refl

pub every-text : (text : List ℕ) (result : Result Definition DefFault) → IsParsed text result → (d : List Named) → DefText text d → MatchResult result (λ p. definition_of p ≡ d) (λ e. e ≡ f.NoMemory)
every-text text (Ok p) a d h = one-definition text (definition_of p) d a h
every-text text (Err e) (inl k) d h = k
every-text text (Err e) (inr k) d h = absurd (not-both text d e h k)

pub every-fault : (text : List ℕ) (result : Result Definition DefFault) → IsParsed text result → (g : DefFault) → FirstFault text g → MatchResult result (λ _. ⊥) (λ e. (e ≡ g) ⊎ (e ≡ f.NoMemory))
every-fault text (Ok p) a g h = not-both text (definition_of p) g a h
every-fault text (Err e) (inl k) g h = inr k
every-fault text (Err e) (inr k) g h = inl (one-fault text e g k h)

pub any-struct : (text : List ℕ) (us : List m.Ty) (xs : List draft.DraftNamed) → list_any is_struct xs ≡ has_struct (nameds_of text us xs)
any-struct text us [] = refl
any-struct text us (n.Enum w ms ∷ xs) = any-struct text us xs
any-struct text us (n.Struct w fs ∷ xs) = refl

-- the answer behind a whole text that was read
pub read-rooted : (text : List ℕ) (ts : Toks) (scope : m.Scope) (rest : Toks) (result : Result Definition DefFault) → IsUtf8 text → ts ≡ tokens text → run whole ts ≡ Ok (scope, rest)
    → IfOk result (λ d. (definition_of d ≡ definition_in scope.named) × (has_struct scope.named ≡ true)) → IfErr result (λ e. (e ≡ f.NoMemory) ⊎ ((e ≡ f.NoRoot) × (has_struct scope.named ≡ false)))
    → IsParsed text result
read-rooted text ts scope rest (Ok d) u is e ok err = subst (DefText text) (sym ok.0) (record { utf8 = u; read = scope.named; means = read-means text ts scope rest is e ok.1; is = refl })
read-rooted text ts scope rest (Err k) u is e ok (inl h) = inl h
read-rooted text ts scope rest (Err k) u is e ok (inr h) = inr (subst (FirstFault text) (sym h.0) (read-no_root text ts scope rest u is e h.1))

pub struct-test : (text : List ℕ) (us : List m.Ty) (xs : List draft.DraftNamed) (b v : Bool) → b ≡ list_any is_struct xs → b ≡ v → has_struct (nameds_of text us xs) ≡ v
struct-test text us xs b v e h = sym (any-struct text us xs) ∙ sym e ∙ h

-- each text has an answer
pub some-answer : (text : List ℕ) → ((d : List Named) × DefText text d) ⊎ ((e : DefFault) × FirstFault text e)
some-answer text = by_test (is_utf8 text) refl
  where
    by_cause : IsUtf8 text → (a : Answer) → Causes (tokens text) a → ((d : List Named) × DefText text d) ⊎ ((e : DefFault) × FirstFault text e)
    by_cause u (means d) c = inl (definition_in d, record { utf8 = u; read = d; means = c; is = refl })
    by_cause u (fault s) c = inr (fault_of s, faulty s u c)
    by_cause u none c = inr (f.NoRoot, no_root u c)

    by_test : (b : Bool) → is_utf8 text ≡ b → ((d : List Named) × DefText text d) ⊎ ((e : DefFault) × FirstFault text e)
    by_test true e = by_cause (IsUtf8-from_is_utf8 text e) (answer (run whole (tokens text))) (read_answer (tokens text))
    by_test false e = inr (f.NotUtf8, not_utf8 (λ u. let t = is_utf8-from_IsUtf8 text u in absurd cc))
