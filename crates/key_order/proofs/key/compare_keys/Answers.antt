-- The order of keys is that of the values.
use Rattle.std.proofs.Common.{◌≡◌, sym, ◌∙◌}
use Rattle.key_order.specs.Keys.{value_of}
use Rattle.key_order.proofs.Order.{value_cmp, Less_from_key_less, key_less_from_Less, Equal_from_same, Greater_from_key_less, key_less_from_Greater, Less_from_kinds, Greater_from_kinds}
use Rattle.key_order.proofs.KeyCmp.{key_cmp-is, same_key}
use Rattle.key_order.proofs.key.compare_keys.Goals as goal

pub returns-clause-less : goal.returns-clause-less
returns-clause-less c =
    let v = value_of c.args.a in
    let u = value_of c.args.b in
    let is : c.cmp.result ≡ value_cmp v u = c.cmp.ensures ∙ key_cmp-is c.args.a c.args.b in
    λ kind. (λ h. key_less_from_Less v u kind (sym is ∙ h), λ h. is ∙ Less_from_key_less v u h)

pub returns-clause-greater : goal.returns-clause-greater
returns-clause-greater c =
    let v = value_of c.args.a in
    let u = value_of c.args.b in
    let is : c.cmp.result ≡ value_cmp v u = c.cmp.ensures ∙ key_cmp-is c.args.a c.args.b in
    λ kind. (λ h. key_less_from_Greater v u kind (sym is ∙ h), λ h. is ∙ Greater_from_key_less v u h)

pub returns-clause-equal : goal.returns-clause-equal
returns-clause-equal c =
    let v = value_of c.args.a in
    let u = value_of c.args.b in
    let is : c.cmp.result ≡ value_cmp v u = c.cmp.ensures ∙ key_cmp-is c.args.a c.args.b in
    (λ h. same_key c.args.a c.args.b (sym is ∙ h), λ h. is ∙ Equal_from_same v u h)

pub returns-clause-kinds_below : goal.returns-clause-kinds_below
returns-clause-kinds_below c = λ h. c.cmp.ensures ∙ key_cmp-is c.args.a c.args.b ∙ Less_from_kinds (value_of c.args.a) (value_of c.args.b) h

pub returns-clause-kinds_above : goal.returns-clause-kinds_above
returns-clause-kinds_above c = λ h. c.cmp.ensures ∙ key_cmp-is c.args.a c.args.b ∙ Greater_from_kinds (value_of c.args.a) (value_of c.args.b) h
