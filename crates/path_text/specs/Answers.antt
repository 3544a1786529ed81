-- What is answered for a text, and for a path.
use Rattle.std.specs.Prelude.{ℕ, List, Result, Ok, Err}
use Rattle.path_text.specs.declared.fault.PathFault.{PathFault}
use Rattle.path_text.specs.declared.fault.PathFault.TheVariants as f
use Rattle.path_text.specs.declared.path.Path.{Path}
use Rattle.path_text.specs.Texts.{PathText, PathFaultAt}
use Rattle.path_text.specs.Views.{path_of}

-- why this is the answer for a text: it is this path, or its first step that is written as none begins there; want of memory has
-- no cause
abbrev pub IsParsed : List ℕ → Result Path PathFault → Type 0
IsParsed text (Ok p) = PathText text (path_of p)
IsParsed text (Err (f.PathSyntax n)) = PathFaultAt text n
IsParsed text (Err f.NoMemory) = Unit {0}
IsParsed text (Err _) = ⊥

-- a step that does not fit
abbrev pub IsMisfit : PathFault → Type 0
IsMisfit (f.NoField n) = Unit {0}
IsMisfit (f.NotAStep n) = Unit {0}
IsMisfit (f.BadKey n) = Unit {0}
IsMisfit _ = ⊥
