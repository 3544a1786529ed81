-- A node for a text refers to UTF-8.
use Rattle.std.proofs.Common.{subst, sym}
use Rattle.std.specs.Str.{is_utf8}
use Rattle.std.proofs.lemmas.Bool.{and_parts}
use Rattle.std.proofs.lemmas.Str.{IsUtf8-from_is_utf8}
use Rattle.typed_tree.specs.Parts.{IsText}
use Rattle.typed_tree.specs.Pools.{store_of}
use Rattle.typed_tree.specs.Spots.{has_block, part}
use Rattle.typed_tree.proofs.tree.TreeRef.kind.Goals as goal

pub returns-in-Text-clause-form : goal.returns-in-Text-clause-form
returns-in-Text-clause-form c =
    let st = store_of c.args.self.pool.now in
    let at = c.in-Text.field-0 in
    subst IsText (sym c.in-Text.ensures.value) (IsUtf8-from_is_utf8 (part st.bytes at) (and_parts (has_block st at) (is_utf8 (part st.bytes at)) c.in-Text.ensures.fit).1)
