use Rattle.std.proofs.Common.{arith, ap, sym, ◌∙◌}
use Rattle.idl_tokens.proofs.Steps.{newlines, turn-keeps, turn-stops, next-place}
use Rattle.idl_tokens.proofs.scan.split.Goals as goal

pub returns-then-is_wrong : goal.returns-then-is_wrong
returns-then-is_wrong c =
    let i = c.tokens.invariant in
    let f = c.front_at-found.result in
    turn-stops c.args.text.now c.utf8.text c.tokens.tokens.items c.keep.new.tokens.items c.tokens.at c.tokens.line c.tokens.left.now i.same i.place i.count
    c.in-Some.first.now f.more c.in-Some.rest.now f.piece c.in-Some.ensures.cases.0 c.front_at-found.ensures.fits c.front_at-found.ensures.same c.in_ok-keep.ensures (sym c.is_wrong.ensures ∙ c.if-is_wrong.true)

pub tokens-preserved : goal.tokens-preserved
tokens-preserved c =
    let i = c.tokens.invariant in
    let f = c.front_at-found.result in
    let k = turn-keeps c.args.text.now c.utf8.text c.tokens.tokens.items c.keep.new.tokens.items c.tokens.at c.tokens.line c.tokens.left.now i.same i.place i.count
    c.in-Some.first.now f.more c.in-Some.rest.now f.piece c.in-Some.ensures.cases.0 c.front_at-found.ensures.fits c.front_at-found.ensures.same c.in_ok-keep.ensures (sym c.is_wrong.ensures ∙ c.if-is_wrong.false) in
    let n = c.newlines.ensures.count ∙ ap newlines c.split_at.ensures.front in
    record {
      same = rw (n, c.split_at.ensures.back) k;
      place = next-place c.args.text.now c.tokens.left.now c.split_at.result.1.now c.tokens.at f.more i.place c.split_at.ensures.back;
      count = omega (arith, i.count, c.split_at.ensures.back_len);
      lines = omega (arith, i.lines, c.newlines.ensures.fits, c.split_at.ensures.front_len);
    }
