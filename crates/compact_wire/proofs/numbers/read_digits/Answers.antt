-- Each digit is added in its place, and where they stop is where the number stops.
use Rattle.std.proofs.Common.{◌≡◌, ◌-◌, [], ◌∷◌, inl, inr, ⊎_elim, arith}
use Rattle.std.proofs.lemmas.Grind.{common_steps}
use Rattle.compact_wire.proofs.NumberSteps.{goes_ended, goes_great, goes_long, goes_last, goes_more, goes_within}
use Rattle.compact_wire.proofs.numbers.read_digits.Goals as goal

pub returns-then-first-most-clause-reads : goal.returns-then-first-most-clause-reads
returns-then-first-most-clause-reads c =
    let l = c.digits in
    let is : l.rest.now ≡ c.from-first.result ∷ c.in-Some.behind.now = grind (arith, common_steps) in
    goes_great l.left l.most l.rest.now l.invariant.0 _ _ is c.if-first-lt128.true (grind (arith, common_steps))

pub returns-then-first-lt128-clause-reads : goal.returns-then-first-lt128-clause-reads
returns-then-first-lt128-clause-reads c =
    let l = c.digits in
    let is : l.rest.now ≡ c.from-first.result ∷ c.in-Some.behind.now = grind (arith, common_steps) in
    goes_last l.left l.most l.rest.now l.invariant.0 _ _ is c.if-first-lt128.true (omega (arith, c.if-first-most.false))

pub returns-then-left-eq0-clause-reads : goal.returns-then-left-eq0-clause-reads
returns-then-left-eq0-clause-reads c =
    let l = c.digits in
    let is : l.rest.now ≡ c.from-first.result ∷ c.in-Some.behind.now = grind (arith, common_steps) in
    goes_long l.left l.most l.rest.now l.invariant.0 _ _ is (omega (arith, c.if-first-lt128.false))
    (⊎_elim inl (λ h. inr h.1) c.then-left-eq0.either)

pub digits-preserved : goal.digits-preserved
digits-preserved c =
    let l = c.digits in
    let is : l.rest.now ≡ c.from-first.result ∷ c.in-Some.behind.now = grind (arith, common_steps) in
    let le = c.if-first-lt128.false in
    let low = c.if-low-most.false in
    let fits = c.ranges.greatest.fits in (
      goes_more l.left l.most l.rest.now l.invariant.0 _ _ c.args.greatest is (omega (arith, le))
          (omega (arith, c.if-left-eq0.false)) (omega (arith, low)) l.invariant.1 (omega (arith, fits)),
      goes_within l.sum l.weight (c.from-first.result - 128) l.most c.args.greatest l.invariant.1
          (omega (arith, fits)) (omega (arith, low)),
      grind (arith, common_steps),
    )

pub returns-clause-reads : goal.returns-clause-reads
returns-clause-reads c =
    let l = c.digits in
    let is : l.rest.now ≡ [] = grind (arith, common_steps) in
    goes_ended l.left l.most l.rest.now l.invariant.0 is
