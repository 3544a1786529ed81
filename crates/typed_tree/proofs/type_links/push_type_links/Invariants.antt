-- The links to the first nodes are there.
use Rattle.std.proofs.Common.{◌≡◌, ◌+◌, ◌++◌, map, take, vec_len, vec_capacity}
use Rattle.std.specs.Prelude.{zip}
use Rattle.idl_profile.specs.Types.{fields_of}
use Rattle.idl_parse.specs.Refs.{type_of_ref}
use Rattle.typed_tree.specs.Fields.{field_link}
use Rattle.typed_tree.specs.Filled.{natural_ids}
use Rattle.typed_tree.proofs.type_links.push_type_links.Given as goal

abbrev pub invariant-loop-i : goal.invariant-loop-i
invariant-loop-i l = record {
  added : l.links.items ≡ l.initial.links.items ++ map field_link (take l.i (zip (natural_ids (fields_of (type_of_ref l.ty))) l.nodes));
  len : vec_len l.links ≡ vec_len l.initial.links + l.i;
  capacity : vec_capacity l.links ≡ vec_capacity l.initial.links;
}
