-- What a read of the machine's files means.
use Rattle.std.specs.Prelude.{◌≡◌, ◌↔◌, ℕ, Result, Ok, Err, IsErrAnd}
use Rattle.std.specs.declared.io.Error.{Error}
use Rattle.std.specs.declared.io.ErrorKind.TheVariants.{NotFound}
use Rattle.std.specs.IoError.{error_kind}
use Rattle.fz_base.specs.declared.files.FileFault.{FileFault}
use Rattle.fz_base.specs.declared.files.FileFault.TheVariants.{Missing}

-- how a read of the machine is answered: the same count, and a fault, which is `Missing` exactly where nothing is found
abbrev pub AnswersRead : Result ℕ Error → Result ℕ FileFault → Type 0
AnswersRead (Ok n) answer = answer ≡ Ok n
AnswersRead (Err e) answer = IsErrAnd answer (λ fault. (fault ≡ Missing) ↔ (error_kind e ≡ NotFound))
