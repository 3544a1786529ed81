use Rattle.std.proofs.Common.{◌≡◌, rules}
use Rattle.file_check.specs.declared.fault.OpenFault.TheVariants.{NoMemory}
use Rattle.demo_table.proofs.opening.opened.Goals as goal

pub unreachable-requires : goal.unreachable-requires
unreachable-requires c =
    let not : c.in-Err.field-0 ≡ NoMemory → ⊥ = search rules in
    let f = c.requires.file in
    not (c.in-Err.ensures.every f.0 f.1 f.2)
