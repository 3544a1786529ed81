use Rattle.std.proofs.Common.{inr, ap, sym, subst, ◌∙◌, ◌<◌, refl, length, List, ℕ, true, false}
use Rattle.idl_tokens.specs.Tokens.{tokens}
use Rattle.idl_profile.specs.DefText.{DefTokens}
use Rattle.idl_fields.specs.View.{types_in, nameds_of}
use Rattle.idl_parse.specs.Parsed.{definition_in}
use Rattle.idl_parse.proofs.Answering.{struct-test}
use Rattle.idl_parse.proofs.parsing.rooted.Goals as goal

pub returns-then-not-has_struct-clause-err : goal.returns-then-not-has_struct-clause-err
returns-then-not-has_struct-clause-err c =
    let h = c.has_struct.ensures in
    inr (refl, struct-test c.args.text.now (types_in c.args.types) c.args.named.items c.has_struct.result false (rw c.deref.ensures.value at h) c.if-not-has_struct.true)

pub returns-clause-ok : goal.returns-clause-ok
returns-clause-ok c =
    let h = c.has_struct.ensures in (
      ap (λ (z : List ℕ). definition_in (nameds_of z (types_in c.args.types) c.args.named.items)) c.in_ok-text.ensures.ok,
      struct-test c.args.text.now (types_in c.args.types) c.args.named.items c.has_struct.result true (rw c.deref.ensures.value at h) c.if-not-has_struct.false,
    )

-- the text means what is answered
pub invariant_of-result-clause-meant : goal.invariant_of-result-clause-meant
invariant_of-result-clause-meant c =
    let h = c.has_struct.ensures in
    let means = c.requires.meant (struct-test c.args.text.now (types_in c.args.types) c.args.named.items c.has_struct.result true (rw c.deref.ensures.value at h) c.if-not-has_struct.false) in
    ∣ subst (λ (z : List ℕ). DefTokens (tokens z) (nameds_of z (types_in c.args.types) c.args.named.items)) (sym c.in_ok-text.ensures.ok) means ∣₁

pub invariant_of-result-clause-few : goal.invariant_of-result-clause-few
invariant_of-result-clause-few c = let h = c.have_few.ensures in sym (rw c.deref-2.ensures.value at h) ∙ c.if-not-have_few.false

pub invariant_of-result-clause-limited : goal.invariant_of-result-clause-limited
invariant_of-result-clause-limited c = subst (λ (z : List ℕ). length z < 2147483648) (sym c.in_ok-text.ensures.ok) c.requires.limited
