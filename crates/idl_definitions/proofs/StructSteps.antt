-- The end of a struct's fields.
use Rattle.std.proofs.Common.{◌≡◌, List, [], Ok, refl}
use Rattle.idl_grammar.specs.declared.fault.LineFault.{LineFault}
use Rattle.exact_reading.specs.declared.stop.ReadError.{ReadError}
use Rattle.exact_reading.specs.declared.stop.ReadError.TheVariants as errors
use Rattle.idl_tokens.specs.Tokens.{Toks}
use Rattle.idl_grammar.specs.Grammar.{token}
use Rattle.exact_reading.specs.Reading.{Fails}
use Rattle.idl_grammar.specs.Run.{run}
use Rattle.idl_profile.specs.Meaning as m
use Rattle.idl_profile.specs.Judged.{a_mark, a_struct_end}
use Rattle.idl_profile.specs.Text.{struct_body, fields}

pub end_breaks : (d : ReadError LineFault) (scope : m.Scope) (ts mid rest : Toks) (fs : List m.MeantField) → run (token (a_mark 123)) ts ≡ Ok (tt, mid) → run (fields scope []) mid ≡ Ok (fs, rest)
    → Fails d (run (token (a_struct_end scope.named fs)) rest) → Fails d (run (struct_body scope) ts)
unfolding struct_body
end_breaks errors.NoMemory scope ts mid rest fs e f h = tt
end_breaks (errors.Stop d) scope ts mid rest fs e f h = rw (e, f, h) refl
