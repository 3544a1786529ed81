use Rattle.std.proofs.Common.{ap, sym, ◌∙◌}
use Rattle.std.specs.List.{Contains}
use Rattle.std.proofs.lemmas.List.Elements.{All-same, All-contains_itself}
use Rattle.idl_profile.specs.Types.{fields_of}
use Rattle.idl_parse.specs.Drafts.{rising, fields_at}
use Rattle.idl_parse.specs.Refs.{fields_in}
use Rattle.idl_parse.proofs.Standing.{fields-listed}
use Rattle.idl_parse.proofs.refs.named_fields.Goals as goal

pub returns-in-Some-Struct-clause-fields : goal.returns-in-Some-Struct-clause-fields
returns-in-Some-Struct-clause-fields c =
    let d = c.args.def.now in
    let s = c.in-Some-Struct.ensures.stands in
    let h = rw c.in-Some-Struct.field-0-is at s in
    ap (fields_in d c.args.n) c.as_slice.ensures.value ∙ fields-listed d c.args.n c.in-Some-Struct.fields.items ∙ sym (ap fields_of h)

pub returns-in-Some-Struct-clause-rising : goal.returns-in-Some-Struct-clause-rising
returns-in-Some-Struct-clause-rising c =
    let s = c.in-Some-Struct.ensures.rising in
    let h = rw c.in-Some-Struct.field-0-is at s in
    ap rising c.as_slice.ensures.value ∙ h

pub returns-in-Some-Struct-clause-listed : goal.returns-in-Some-Struct-clause-listed
returns-in-Some-Struct-clause-listed c =
    let s = c.in-Some-Struct.ensures.listed in
    let h = rw c.in-Some-Struct.field-0-is at s in
    let fs = fields_at c.args.def.now.named.items c.args.n in
    All-same (Contains fs) c.as_slice.result.now fs (c.as_slice.ensures.value ∙ sym h) (All-contains_itself fs)
