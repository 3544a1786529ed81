-- What a pool has, and what it is for one to grow.
use Rattle.std.specs.Prelude.{◌≡◌, ℕ, ◌≤◌, List, [], ◌++◌, length, vec_len, vec_capacity}
use Rattle.frozen_model.specs.Values.{Value}
use Rattle.block_region.specs.Space.{in_use}
use Rattle.typed_tree.specs.declared.spot.Link.{Link}
use Rattle.typed_tree.specs.declared.pool.Pool.{Pool}
use Rattle.typed_tree.specs.Spots.{Store, store, values}

abbrev pub store_of : Pool → Store
store_of p = store p.links.items (in_use p.bytes)

-- the values of all nodes
abbrev pub values_of : Pool → List Value
values_of p = values (store_of p) p.nodes.items

-- more links and bytes stand at the end
pub record Grows (old new : Store) : Type 0 where
  pub more_links : List Link
  pub more_bytes : List ℕ
  pub links : new.links ≡ old.links ++ more_links
  pub bytes : new.bytes ≡ old.bytes ++ more_bytes

-- a pool without nodes
pub record IsEmpty (p : Pool) : Type 0 where
  pub nodes : p.nodes.items ≡ []
  pub links : p.links.items ≡ []
  pub bytes : p.bytes.taken ≡ 0

-- the nodes stay, perhaps with more room
pub record SameNodes (old new : Pool) : Type 0 where
  pub items : new.nodes.items ≡ old.nodes.items
  pub len : vec_len new.nodes ≡ vec_len old.nodes
  pub capacity : vec_capacity old.nodes ≤ vec_capacity new.nodes

-- what they refer to stays, perhaps with more room
pub record SameStore (old new : Pool) : Type 0 where
  pub links : new.links.items ≡ old.links.items
  pub len : vec_len new.links ≡ vec_len old.links
  pub capacity : vec_capacity old.links ≤ vec_capacity new.links
  pub bytes : in_use new.bytes ≡ in_use old.bytes
  pub taken : new.bytes.taken ≡ old.bytes.taken
  pub size : length old.bytes.bytes ≤ length new.bytes.bytes
