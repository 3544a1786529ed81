use Rattle.std.proofs.Common.{◌≡◌, ◌++◌, ◌-◌, ◌+◌}
use Rattle.typed_tree.specs.Trees.{trees}
use Rattle.cli_texts.proofs.Users.{turns}
use Rattle.cli_texts.proofs.demo.demo_users.Given as goal

-- the users that are made and those that are left
abbrev pub invariant-loop-i : goal.invariant-loop-i
invariant-loop-i l = trees l.builder ++ turns l.i (l.n + 1 - l.i) ≡ turns 1 l.n
