use Rattle.std.proofs.Common.{◌≡◌, drop}
use Rattle.fz_base.specs.Files.{entries_of, held_in}
use Rattle.fz_base.proofs.memory_files.find_file.Given as goal

abbrev pub invariant-loop-file : goal.invariant-loop-file
invariant-loop-file l = held_in (entries_of (drop l.file-index l.files)) l.name ≡ held_in (entries_of l.files) l.name
