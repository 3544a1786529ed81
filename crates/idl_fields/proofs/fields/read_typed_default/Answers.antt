use Rattle.std.proofs.Common.{◌≡◌, ap, ◌∙◌}
use Rattle.idl_tokens.specs.Spans.{toks}
use Rattle.idl_grammar.specs.Run.{run}
use Rattle.idl_profile.specs.Meaning.{Ty}
use Rattle.idl_profile.specs.Text.{default}
use Rattle.idl_fields.specs.View.{entries_in, named_in, written_type, outer_type}
use Rattle.idl_fields.proofs.OuterLaws.{default-outer}
use Rattle.idl_fields.proofs.fields.read_typed_default.Goals as goal

pub returns : goal.returns
returns c =
    let ns = named_in c.args.text.now c.args.scope.now in
    let ts = toks c.args.text.now c.args.tokens.now in
    let t = written_type (entries_in c.args.text.now c.args.scope.now) c.args.ty.now in
    let r : run (default ns (outer_type c.outermost.result)) ts ≡ run (default ns t) ts =
    ap (λ (z : Ty). run (default ns z) ts) (c.outermost.ensures c.args.text.now) ∙ default-outer ns t ts
    in
    let h = c.read_default.ensures in
    rw r at h
