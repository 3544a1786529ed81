-- The links to the first nodes are there.
use Rattle.std.proofs.Common.{◌≡◌, ◌+◌, ◌++◌, map, take, vec_len, vec_capacity}
use Rattle.std.specs.Prelude.{zip, All, FitsSigned}
use Rattle.std.specs.Int.{w16}
use Rattle.typed_tree.specs.Fields.{field_link, id_numbers}
use Rattle.typed_tree.proofs.fields.push_fields.Given as goal

abbrev pub invariant-loop-i : goal.invariant-loop-i
invariant-loop-i l = record {
  added : l.links.items ≡ l.initial.links.items ++ map field_link (take l.i (zip (id_numbers l.ids) l.nodes));
  in_range : All (FitsSigned w16) (take l.i l.ids);
  len : vec_len l.links ≡ vec_len l.initial.links + l.i;
  capacity : vec_capacity l.links ≡ vec_capacity l.initial.links;
}
