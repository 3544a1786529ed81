-- The faults by their kinds.
use Rattle.idl_grammar.specs.declared.fault.Fault.TheVariants as k
use Rattle.idl_grammar.specs.declared.fault.Fault.{Fault}
use Rattle.idl_grammar.specs.declared.fault.LineFault.{LineFault}
use Rattle.exact_reading.specs.declared.stop.ReadError.{ReadError}
use Rattle.exact_reading.specs.declared.stop.ReadError.TheVariants as r
use Rattle.std.specs.Prelude.{ℕ}
use Rattle.idl_parse.specs.declared.fault.DefFault.{DefFault}
use Rattle.idl_parse.specs.declared.fault.DefFault.TheVariants as f

abbrev pub fault_on : Fault → ℕ → DefFault
fault_on k.Syntax line = f.Syntax line
fault_on k.Unsupported line = f.Unsupported line
fault_on k.UnknownType line = f.UnknownType line
fault_on k.RepeatedName line = f.RepeatedName line
fault_on k.RepeatedId line = f.RepeatedId line
fault_on k.BadId line = f.BadId line
fault_on k.BadDefault line = f.BadDefault line
fault_on k.KeyType line = f.KeyType line
fault_on k.TooDeep line = f.TooDeep line
fault_on k.TooManyNodes line = f.TooManyNodes line
fault_on k.StructTooWide line = f.StructTooWide line

-- the fault of a text whose first faulty token is this
abbrev pub fault_of : LineFault → DefFault
fault_of s = fault_on s.fault s.line

abbrev pub fault_of_read : ReadError LineFault → DefFault
fault_of_read r.NoMemory = f.NoMemory
fault_of_read (r.Stop s) = fault_of s
