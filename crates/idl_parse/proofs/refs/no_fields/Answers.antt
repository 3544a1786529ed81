use Rattle.std.proofs.Common.{refl, arith}
use Rattle.std.specs.List.{Contains}
use Rattle.std.proofs.lemmas.List.Elements.{All-nil}
use Rattle.idl_parse.specs.Drafts.{fields_at}
use Rattle.idl_parse.proofs.refs.no_fields.Goals as goal

pub invariant_of-result : goal.invariant_of-result
invariant_of-result c =
    record { few = omega arith; in_order = refl; listed = ∣ All-nil (Contains (fields_at c.args.def.now.named.items 0)) ∣₁ }
