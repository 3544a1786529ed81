use Rattle.std.proofs.Common.{◌≡◌, List, ℕ, Result, Ok, Err, sym, ◌∙◌}
use Rattle.std.specs.Prelude.{MatchResult}
use Rattle.std.specs.Str.{IsUtf8, is_utf8}
use Rattle.std.specs.Result.{is_ok}
use Rattle.std.proofs.lemmas.Str.{is_utf8-from_IsUtf8, IsUtf8-from_ascii}
use Rattle.content_check.proofs.ByteRanges.{not_utf8}
use Rattle.content_check.proofs.range.is_text.Goals as goal

tested : {A E : Type 0} (bs : List ℕ) (P : A → Type 0) (Q : E → Type 0) (r : Result A E)
    → MatchResult r (λ s. P s × IsUtf8 bs) (λ e. (IsUtf8 bs → ⊥) × Q e) → is_ok r ≡ is_utf8 bs
tested bs P Q (Ok s) h = sym (is_utf8-from_IsUtf8 bs h.1)
tested bs P Q (Err e) h = sym (not_utf8 bs h.0)

pub returns-then-is_ascii : goal.returns-then-is_ascii
returns-then-is_ascii c =
    let bs = c.args.bytes.now in
    c.if-is_ascii.true ∙ sym (is_utf8-from_IsUtf8 bs (IsUtf8-from_ascii bs c.if-is_ascii.ensures.cases))

pub returns-else-is_ascii : goal.returns-else-is_ascii
returns-else-is_ascii c = c.is_ok.ensures.value
    ∙ tested c.args.bytes.now _ _ c.from_utf8.result c.from_utf8.ensures.cases
