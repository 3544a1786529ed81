-- Where steps lead from types of a kind, and a step of many.
use Rattle.std.proofs.Common.{◌≡◌, ℕ, ◌+◌, ◌<◌, length, get_or, drop, drop-cons, add-one, List, ◌∷◌, Result, Ok, refl, sym, ap, ◌∙◌}
use Rattle.std.specs.Prelude.{find, map}
use Rattle.std.specs.Str.{bytes_eq}
use Rattle.idl_profile.specs.declared.kinds.TypeKind.TheVariants as kinds
use Rattle.idl_profile.specs.Types.{TypeTree, scalar, flag, set_of, map_of, named, enum_of, struct_of, fields_of, kind_of}
use Rattle.idl_parse.specs.Refs.{element_of, key_of, value_of}
use Rattle.path_text.specs.declared.fault.PathFault.{PathFault}
use Rattle.path_text.specs.declared.path.Step.{Step}
use Rattle.path_text.specs.Fitting.{field_to, key_to, step_to, and_then, steps_to}
use Rattle.path_text.specs.Steps.{PathKey, field_step, key_step}
use Rattle.path_text.specs.Views.{step_of, step_of_kind}

pub field-of-struct : (at : ℕ) (name : List ℕ) (t : TypeTree) → kind_of t ≡ kinds.Struct → step_to at (field_step name) t ≡ field_to at (find (λ f. bytes_eq f.name name) (fields_of t))
field-of-struct at name (named (struct_of n fs)) h = refl
field-of-struct at name (scalar flag) h = absurd cc
field-of-struct at name t h = absurd cc

pub key-of-set : (at : ℕ) (key : PathKey) (t : TypeTree) → kind_of t ≡ kinds.Set → step_to at (key_step key) t ≡ key_to at key (element_of t) (element_of t)
key-of-set at key (set_of x) h = refl
key-of-set at key (scalar flag) h = absurd cc
key-of-set at key (named (enum_of n ms)) h = absurd cc
key-of-set at key t h = absurd cc

pub key-of-map : (at : ℕ) (key : PathKey) (t : TypeTree) → kind_of t ≡ kinds.Map → step_to at (key_step key) t ≡ key_to at key (key_of t) (value_of t)
key-of-map at key (map_of x y) h = refl
key-of-map at key (scalar flag) h = absurd cc
key-of-map at key (named (enum_of n ms)) h = absurd cc
key-of-map at key t h = absurd cc

-- the step at a place leads from here to there, where the steps behind it lead on
pub step-taken : (steps : List Step) (i : ℕ) (s : Step) (here there : TypeTree) (to : Result TypeTree PathFault) → i < length steps → s ≡ get_or steps i s
    → steps_to (map step_of (drop i steps)) here ≡ to → step_to s.place (step_of_kind s.kind) here ≡ Ok there → steps_to (map step_of (drop (i + 1) steps)) there ≡ to
step-taken steps i s here there to l e h k =
    let behind = map step_of (drop (i + 1) steps) in
    let cut : drop i steps ≡ s ∷ drop (i + 1) steps = drop-cons steps i s l ∙ (rw (← e, add-one) refl) in
    ap (λ (r : Result TypeTree PathFault). and_then r (λ u. steps_to behind u)) (sym k) ∙ ap (λ (z : List Step). steps_to (map step_of z) here) (sym cut) ∙ h
