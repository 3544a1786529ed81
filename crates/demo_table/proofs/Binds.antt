-- A definition that binds is refused for want of memory alone.
use Rattle.std.proofs.Common.{◌≡◌, Err, None, refl}
use Rattle.idl_profile.specs.Types.{TypeTree}
use Rattle.frozen_model.specs.Layouts.{Described}
use Rattle.evolve.specs.declared.fault.BindFault.{BindFault}
use Rattle.evolve.specs.declared.fault.BindFault.TheVariants.{TypeChanged, RequiredAbsent, NoMemory}
use Rattle.evolve.specs.Binding.{bind_fault}
use Rattle.evolve.specs.Bound.{IsBound}

pub only_memory : (d : Described) (t : TypeTree) (f : BindFault) → IsBound d t (Err f)
    → bind_fault d t ≡ None → f ≡ NoMemory
only_memory d t (TypeChanged ids) h none = absurd cc
only_memory d t (RequiredAbsent ids) h none = absurd cc
only_memory d t NoMemory h none = refl
