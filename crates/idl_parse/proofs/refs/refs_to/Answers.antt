use Rattle.idl_parse.proofs.refs.refs_to.Goals as goal

pub invariant_of-result : goal.invariant_of-result
invariant_of-result c =
    let e = c.named_fields-fields.ensures in
    record { few = e.few; in_order = e.rising; listed = ∣ e.listed ∣₁ }
