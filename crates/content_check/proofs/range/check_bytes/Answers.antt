use Rattle.std.proofs.Common.{◌≡◌, ◌+◌, ◌-◌, Ok, Err, arith, refl, ap, sym, ◌∙◌, take, drop, true}
use Rattle.std.specs.Str.{is_utf8}
use Rattle.frozen_model.specs.Walk.{is_spelled}
use Rattle.layout_tree.specs.Nodes.{at}
use Rattle.content_check.specs.Agreeing.{without_value}
use Rattle.content_check.specs.Steps.{byte_kind}
use Rattle.content_check.proofs.ByteRanges.{bytes_agrees, many_bytes, short_bytes, bad_bytes, good_bytes}
use Rattle.content_check.proofs.ByteRanges.{spelled_by, spelled_any}
use Rattle.content_check.proofs.range.check_bytes.Goals as goal
use Rattle.content_check.proofs.range.check_bytes.Goals.{else-text-via-then-text+else-not-is_text}
use Rattle.content_check.proofs.range.check_bytes.Goals.{else-text-via-else-text}

pub returns-in-Err : goal.returns-in-Err
returns-in-Err c =
    let l = at c.args.layouts.now c.args.node in
    bytes_agrees c.args.content.now l c.args.text c.args.start c.args.bit c.args.reach (Err c.in-Err.fault)
    c.requires.bytes c.in-Err.ensures.goes_on refl tt

pub returns-then-reach-n-gt-CELL_LIMIT : goal.returns-then-reach-n-gt-CELL_LIMIT
returns-then-reach-n-gt-CELL_LIMIT c =
    let bs = c.args.content.now in
    let l = at c.args.layouts.now c.args.node in
    let r = c.args.reach in
    bytes_agrees bs l c.args.text c.args.start c.args.bit r (Ok c.in-Ok.n) c.requires.bytes
    c.in-Ok.ensures.goes_on (ap without_value
    (sym (many_bytes bs (byte_kind c.args.text) r.next r.cells c.in-Ok.n
    (omega (arith, c.if-reach-n-gt-CELL_LIMIT.true))))) tt

pub returns-then-next-content : goal.returns-then-next-content
returns-then-next-content c =
    let bs = c.args.content.now in
    let l = at c.args.layouts.now c.args.node in
    let r = c.args.reach in
    bytes_agrees bs l c.args.text c.args.start c.args.bit r (Ok c.in-Ok.n) c.requires.bytes
    c.in-Ok.ensures.goes_on
    (ap without_value (sym (short_bytes bs (byte_kind c.args.text) r.next r.cells c.in-Ok.n
    (omega (arith, c.if-reach-n-gt-CELL_LIMIT.false)) (omega (arith, c.if-next-content.true))))) tt

pub returns-then-not-is_text : goal.returns-then-not-is_text
returns-then-not-is_text c =
    let bs = c.args.content.now in
    let l = at c.args.layouts.now c.args.node in
    let r = c.args.reach in
    let part = take c.in-Ok.n (drop r.next bs) in
    let e : r.next + c.in-Ok.n - r.next ≡ c.in-Ok.n = omega arith in
    let u = spelled_by c.args.text part c.is_text.result
    (c.is_text.ensures ∙ ap (λ m. is_utf8 (take m (drop r.next bs))) e) c.if-text.true in
    bytes_agrees bs l c.args.text c.args.start c.args.bit r (Ok c.in-Ok.n) c.requires.bytes
    c.in-Ok.ensures.goes_on
    (ap without_value (sym (bad_bytes bs (byte_kind c.args.text) r.next r.cells c.in-Ok.n
    (omega (arith, c.if-reach-n-gt-CELL_LIMIT.false)) (omega (arith, c.if-next-content.false))
    (u ∙ c.if-not-is_text.true)))) tt

pub returns : goal.returns
returns c =
    let bs = c.args.content.now in
    let l = at c.args.layouts.now c.args.node in
    let r = c.args.reach in
    let part = take c.in-Ok.n (drop r.next bs) in
    let e : r.next + c.in-Ok.n - r.next ≡ c.in-Ok.n = omega arith in
    let u : is_spelled (byte_kind c.args.text) part ≡ true =
    elim c.else-text.branch [
      | else-text-via-then-text+else-not-is_text w ↦ spelled_by c.args.text part w.is_text.result
          (w.is_text.ensures ∙ ap (λ m. is_utf8 (take m (drop r.next bs))) e) w.if-text.true
          ∙ w.if-not-is_text.false
      | else-text-via-else-text w ↦ spelled_any c.args.text part w.if-text.false
    ] in
    bytes_agrees bs l c.args.text c.args.start c.args.bit r (Ok c.in-Ok.n) c.requires.bytes
    c.in-Ok.ensures.goes_on
    (ap without_value (sym (good_bytes bs (byte_kind c.args.text) r.next r.cells c.in-Ok.n
    (omega (arith, c.if-reach-n-gt-CELL_LIMIT.false)) (omega (arith, c.if-next-content.false)) u)))
    (omega arith, omega (arith, c.if-next-content.false), omega (arith, c.if-reach-n-gt-CELL_LIMIT.false))
