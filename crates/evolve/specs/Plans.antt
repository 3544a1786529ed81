-- Which nodes of a layout the nodes of a type that binds to it stand for, both counted in preorder.
use Rattle.std.specs.Prelude.{ℕ, ◌+◌, List, [], ◌∷◌, ◌++◌, if◌then◌else◌, nat_eq, nat_abs, replicate, Option}
use Rattle.std.specs.Prelude.{Some, None}
use Rattle.idl_profile.specs.declared.kinds.Need.{Need}
use Rattle.idl_profile.specs.declared.kinds.Need.TheVariants.{Optional}
use Rattle.idl_profile.specs.Types.{TypeTree, scalar, text, bytes, list_of, set_of, map_of, named, Named}
use Rattle.idl_profile.specs.Types.{enum_of, struct_of, Fields, no_fields, field}
use Rattle.frozen_model.specs.Trees as tree
use Rattle.frozen_model.specs.Trees.{Tree, Trees, ByteRange, ItemRange, Struct, NoField, Field, nodes}
use Rattle.frozen_model.specs.Trees.{nodes_all}
use Rattle.type_kinds.specs.KindsOf.{kinds_of_fields}
use Rattle.bit_view.specs.Branches.{field_tree}

-- the node of the field with this id, where the first field has the node i
abbrev pub field_node : {A B : Type 0} → Trees A B → ℕ → ℕ → ℕ
field_node NoField id i = i
field_node (Field j l ls) id i = if nat_eq j id then i else field_node ls id (i + nodes l)

-- the nodes of a field, of which there are so many, with the layout's field at node i; none where the layout
-- lacks it
abbrev pub nodes_of_field : {A B : Type 0} → Need → (Tree A B → ℕ → List (Option ℕ)) → ℕ → Option (Tree A B)
    → ℕ → List (Option ℕ)
nodes_of_field need inside many None i = replicate many None
nodes_of_field Optional inside many (Some (tree.Optional w l)) i = Some i ∷ Some (1 + i) ∷ inside l (2 + i)
nodes_of_field need inside many (Some l) i = inside l i

-- the nodes of a pair and of its two
abbrev pub nodes_of_pair : {A B : Type 0} → (Tree A B → ℕ → List (Option ℕ))
    → (Tree A B → ℕ → List (Option ℕ))
    → Tree A B → ℕ → List (Option ℕ)
nodes_of_pair first second (Struct (Field a k (Field b v NoField))) i =
    Some i ∷ first k (1 + i) ++ second v (1 + i + nodes k)
nodes_of_pair first second l i = []

-- the nodes of a range: its own, its distance and its count
abbrev pub range_nodes : ℕ → List (Option ℕ)
range_nodes i = Some i ∷ Some (1 + i) ∷ Some (2 + i) ∷ []

-- for each node of the type, in preorder, the node of the layout that it stands for, where the layout's own
-- node is i
abbrev mutual
  pub nodes_at : {A B : Type 0} → TypeTree → Tree A B → ℕ → List (Option ℕ)
  nodes_at (scalar s) l i = Some i ∷ []
  nodes_at text l i = range_nodes i
  nodes_at bytes l i = range_nodes i
  nodes_at (list_of x) (ItemRange h d c l) i = range_nodes i ++ nodes_at x l (3 + i)
  nodes_at (set_of x) (ItemRange h d c l) i = range_nodes i ++ nodes_at x l (3 + i)
  nodes_at (map_of x y) (ItemRange h d c l) i =
      range_nodes i ++ nodes_of_pair (λ k n. nodes_at x k n) (λ v n. nodes_at y v n) l (3 + i)
  nodes_at (named n) l i = nodes_at_named n l i
  nodes_at t l i = []

  pub nodes_at_named : {A B : Type 0} → Named → Tree A B → ℕ → List (Option ℕ)
  nodes_at_named (enum_of w ms) l i = Some i ∷ []
  nodes_at_named (struct_of w fs) (Struct ls) i = Some i ∷ nodes_at_fields fs ls (1 + i)
  nodes_at_named n l i = []

  -- the same of fields, where the layout's first field has the node i
  pub nodes_at_fields : {A B : Type 0} → Fields → Trees A B → ℕ → List (Option ℕ)
  nodes_at_fields no_fields ls i = []
  nodes_at_fields (field id w n t d fs) ls i =
      nodes_of_field n (λ l m. nodes_at t l m) (nodes_all (kinds_of_fields (field id w n t d no_fields)))
      (field_tree ls (nat_abs id)) (field_node ls (nat_abs id) i)
      ++ nodes_at_fields fs ls i
