-- The laws of binding and projection.
use Rattle.std.specs.Prelude.{◌≡◌, ◌↔◌, Some, None, Ok, length}
use Rattle.std.specs.Str.{IsUtf8}
use Rattle.idl_profile.specs.Types.{TypeTree}
use Rattle.frozen_model.specs.Trees.{kinds, nodes}
use Rattle.frozen_model.specs.Values.{Value, Of}
use Rattle.frozen_model.specs.Layouts.{Layout, Described}
use Rattle.type_kinds.specs.KindsOf.{kinds_of}
use Rattle.type_kinds.specs.Accepted.{IsAccepted, HasShortTexts}
use Rattle.path_text.specs.Steps.{WholePath}
use Rattle.path_text.specs.Fitting.{fitted}
use Rattle.evolve.specs.Binding.{Compatible, bind_fault}
use Rattle.evolve.specs.Projection.{proj}
use Rattle.evolve.specs.Parts.{at}
use Rattle.evolve.specs.Plans.{nodes_at}

-- a definition binds to a layout exactly where no node of it fails to
abbrev pub BindingHasOneAnswer : Type 0
BindingHasOneAnswer = (d : Described) (t : TypeTree) → Compatible d t ↔ (bind_fault d t ≡ None)

-- where the kind trees are equal, it binds
abbrev pub OwnKindsBind : Type 0
OwnKindsBind = (d : Described) (t : TypeTree) → IsAccepted IsUtf8 t → kinds_of t ≡ kinds d.tree
    → Compatible d t

-- where an accepted type binds to a layout, the projection of each value of the layout is a value of the type
abbrev pub ProjectionIsAValue : Type 0
ProjectionIsAValue = (d : Described) (t : TypeTree) (v : Value) → IsAccepted IsUtf8 t → HasShortTexts t
    → Compatible d t → Of d.tree v → Of (kinds_of t) (proj t v)

-- where the kind trees are equal, it is the value itself
abbrev pub ProjectionIsItself : Type 0
ProjectionIsItself = (l : Layout) (t : TypeTree) (v : Value) → IsAccepted IsUtf8 t → kinds_of t ≡ kinds l
    → Of l v → proj t v ≡ v

-- the part at a path that fits a type is a value of the type to which the path leads
abbrev pub PartsAreValues : Type 0
PartsAreValues = (t u : TypeTree) (p : WholePath) (v w : Value) → IsAccepted IsUtf8 t → fitted t p ≡ Ok u
    → Of (kinds_of t) v → at p.steps t v ≡ Some w → Of (kinds_of u) w

-- where a type binds, each of its nodes stands for a node of the layout or for none
abbrev pub PlansAreWhole : Type 0
PlansAreWhole =
    (d : Described) (t : TypeTree) → Compatible d t → length (nodes_at t d.tree 0) ≡ nodes (kinds_of t)
