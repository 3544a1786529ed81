use Rattle.std.proofs.Common.{◌≡◌, suc, ◌+◌, ◌++◌, ◌∙◌, sym, ap, arith}
use Rattle.idl_profile.specs.declared.kinds.TypeKind.TheVariants.{Bytes}
use Rattle.serde_json.specs.View.{view}
use Rattle.serde_json.proofs.Views.{view-Array}
use Rattle.json_value.specs.Owned.{owned}
use Rattle.json_value.specs.Leaves.{leaf}
use Rattle.json_value.specs.Faults.{key_in_front, key_of_entry}
use Rattle.json_value.proofs.Climbing.{two_key, other_key}
use Rattle.json_value.proofs.keys.push_bytes_of_entry.Goals as goal

pub returns-in_ok-push_bytes-in-Array : goal.returns-in_ok-push_bytes-in-Array
returns-in_ok-push_bytes-in-Array c ks =
    let vs = c.in-Array.pair.items in
    let one : c.args.place + 1 ≡ suc c.args.place = omega arith in
    let key = ap (key_of_entry Bytes) (ap view c.in-Array.is ∙ view-Array c.in-Array.pair) ∙ two_key Bytes vs c.index.result.now (omega (arith, c.if-len-eq2.true, c.len.ensures)) c.index.ensures in
    c.in_ok-push_bytes-in-Array.ensures ks ∙ ap (λ n. owned c.args.keys.now.items ++ key_in_front n (leaf Bytes (view c.index.result.now)) ks) one ∙ ap (λ o. owned c.args.keys.now.items ++ key_in_front (suc c.args.place) o ks) (sym key)

pub returns-else-len-eq2 : goal.returns-else-len-eq2
returns-else-len-eq2 c ks =
    let vs = c.in-Array.pair.items in
    let key = ap (key_of_entry Bytes) (ap view c.in-Array.is ∙ view-Array c.in-Array.pair) ∙ other_key Bytes vs (λ n. omega (arith, c.if-len-eq2.false, c.len.ensures, n)) in
    ap (λ o. owned c.args.keys.now.items ++ key_in_front (suc c.args.place) o ks) (sym key)
