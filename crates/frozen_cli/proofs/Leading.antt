-- Where a path leads from a type: also where its items are shown, which it has then.
use Rattle.std.proofs.Common.{◌≡◌, ◌∙◌, sym, refl, subst, Bool, true, false, if◌then◌else◌, Result, Ok, Err}
use Rattle.idl_profile.specs.declared.kinds.TypeKind.{TypeKind}
use Rattle.idl_profile.specs.declared.kinds.TypeKind.TheVariants as kinds
use Rattle.idl_profile.specs.Types.{TypeTree, kind_of}
use Rattle.frozen_model.specs.Trees.{AList, ASet, AMap}
use Rattle.frozen_model.specs.Values.{Value, Items}
use Rattle.typed_tree.specs.Parts.{IsList, IsSet, IsMap, IsItems}
use Rattle.path_text.specs.declared.fault.PathFault.{PathFault}
use Rattle.path_text.specs.declared.fault.PathFault.TheVariants.{NotAStep}
use Rattle.path_text.specs.Steps.{WholePath}
use Rattle.path_text.specs.Fitting.{fitted, is_container, and_then}
use Rattle.evolve.specs.declared.lens.Lens.{Lens}
use Rattle.evolve.specs.Lenses.{type_of_lens, value_of_lens, HasForm}
use Rattle.evolve.proofs.Known.{lens_form}
use Rattle.frozen_cli.specs.declared.words.Showing.{Showing}
use Rattle.frozen_cli.specs.declared.words.Showing.TheVariants as showing
use Rattle.frozen_cli.specs.Reply.{leads_to}

record IsContainer (r : Result TypeTree PathFault) (t : TypeTree) : Type 0 where
  fits : r ≡ Ok t
  container : is_container (kind_of t) ≡ true

by_test : (b : Bool) (e : PathFault) (u t : TypeTree) → is_container (kind_of u) ≡ b
    → (if b then Ok u else Err e) ≡ Ok t → IsContainer (Ok u) t
by_test true e u t is eq =
    let same : u ≡ t = cc in
    record { fits = eq; container = subst (λ x. is_container (kind_of x) ≡ true) same is }
by_test false e u t is eq = absurd cc

scan_leads : (p : WholePath) (r : Result TypeTree PathFault) (t : TypeTree)
    → and_then r (λ u. if is_container (kind_of u) then Ok u else Err (NotAStep p.len)) ≡ Ok t
    → IsContainer r t
scan_leads p (Ok u) t eq = by_test (is_container (kind_of u)) (NotAStep p.len) u t refl eq
scan_leads p (Err e) t eq = absurd cc

-- the path fits
pub leads_fitted : (s : Showing) (t u : TypeTree) (p : WholePath) → leads_to s t p ≡ Ok u → fitted t p ≡ Ok u
leads_fitted showing.Whole t u p eq = eq
leads_fitted showing.Items t u p eq = (scan_leads p (fitted t p) u eq).fits

list_has : (v : Value) → IsList v → IsItems v
list_has (Items AList vs) h = tt
list_has v h = absurd h

set_has : (v : Value) → IsSet v → IsItems v
set_has (Items ASet vs) h = tt
set_has v h = absurd h

map_has : (v : Value) → IsMap v → IsItems v
map_has (Items AMap vs) h = tt
map_has v h = absurd h

container_has : (k : TypeKind) (v : Value) → is_container k ≡ true → HasForm k v → IsItems v
container_has kinds.List v e h = list_has v h
container_has kinds.Set v e h = set_has v h
container_has kinds.Map v e h = map_has v h
container_has kinds.Flag v e h = absurd cc
container_has kinds.I8 v e h = absurd cc
container_has kinds.I16 v e h = absurd cc
container_has kinds.I32 v e h = absurd cc
container_has kinds.I64 v e h = absurd cc
container_has kinds.Enum v e h = absurd cc
container_has kinds.Text v e h = absurd cc
container_has kinds.Bytes v e h = absurd cc
container_has kinds.Struct v e h = absurd cc

-- a part whose items are shown has items
pub items_shown : (s : Showing) (t : TypeTree) (p : WholePath) (l : Lens)
    → leads_to s t p ≡ Ok (type_of_lens l)
    → s ≡ showing.Items → IsItems (value_of_lens l)
items_shown showing.Items t p l eq is =
    container_has (kind_of (type_of_lens l)) (value_of_lens l)
    (scan_leads p (fitted t p) (type_of_lens l) eq).container (lens_form l)
items_shown showing.Whole t p l eq is = absurd cc

-- two types to which it leads are one
pub leads_once : (t u w : TypeTree) (p : WholePath) → fitted t p ≡ Ok u → fitted t p ≡ Ok w → u ≡ w
leads_once t u w p one two = let same : Ok u ≡ Ok w = sym one ∙ two in cc
