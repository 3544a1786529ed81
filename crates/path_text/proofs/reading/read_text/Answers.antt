use Rattle.std.proofs.Common.{◌≡◌, [], ◌∷◌, Some, None, sym}
use Rattle.std.specs.Str.{IsUtf8}
use Rattle.path_text.specs.Reading.{byte_of, behind_word}
use Rattle.path_text.proofs.PieceLaws.{spelled-more}
use Rattle.path_text.proofs.TextUtf8.{spelled-utf8}
use Rattle.path_text.proofs.reading.read_text.Goals as goal

pub bytes-preserved : goal.bytes-preserved
bytes-preserved c =
    let e : byte_of c.bytes.rest.now ≡ Some (c.in-Some.byte, c.in-Some.behind.now) = sym (rw c.in-Some.is at c.byte_of.ensures) in
    record { same = spelled-more c.bytes.bytes.items c.bytes.rest.now c.args.text.now c.in-Some.behind.now c.push.new.self.items c.in-Some.byte c.bytes.invariant.same e c.in_ok-push.ensures.items }

pub returns : goal.returns
returns c =
    let n : byte_of c.bytes.rest.now ≡ None = sym (rw c.in_default.is at c.byte_of.ensures) in
    let w : behind_word (34 ∷ []) c.bytes.rest.now ≡ Some c.in-Some-behind_word.behind.now = sym (rw c.in-Some-behind_word.is at c.behind_word.ensures) in
    let u : IsUtf8 c.bytes.bytes.items = spelled-utf8 c.bytes.bytes.items c.bytes.rest.now c.args.text.now c.in-Some-behind_word.behind.now c.requires c.bytes.invariant.same n w in
    let k = c.in-Err.ensures.succeeds u in
    absurd cc
