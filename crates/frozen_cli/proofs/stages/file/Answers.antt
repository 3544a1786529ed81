use Rattle.std.proofs.Common.{◌≡◌, rules}
use Rattle.file_check.specs.declared.fault.OpenFault.TheVariants.{NoMemory}
use Rattle.frozen_cli.proofs.Contents.{file_is_held, content_held, file_refused}
use Rattle.frozen_cli.proofs.stages.file.Goals as goal

pub returns-in-Ok-clause-gives : goal.returns-in-Ok-clause-gives
returns-in-Ok-clause-gives c = file_is_held c.args.bytes.now c.in-Ok.opened c.in-Ok.ensures.file

pub returns-in-Err-clause-gives : goal.returns-in-Err-clause-gives
returns-in-Err-clause-gives c =
    let fault = c.in-Err.fault in
    let not : fault ≡ NoMemory → ⊥ = search rules in
    file_refused c.args.bytes.now fault not c.in-Err.ensures.fault c.in-Err.ensures.every

pub returns-in-Ok-clause-held : goal.returns-in-Ok-clause-held
returns-in-Ok-clause-held c = content_held c.args.bytes.now c.in-Ok.opened c.in-Ok.ensures.file
