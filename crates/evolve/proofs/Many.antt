-- There is one node of a layout, or none, for each node of a type that binds to it.
use Rattle.std.proofs.Common.{◌≡◌, ℕ, ◌+◌, Bool, refl, nat_abs, arith, List, length, length-append, Option}
use Rattle.std.proofs.Common.{Some, None, ◌∙◌}
use Rattle.std.proofs.lemmas.List.{length-replicate}
use Rattle.idl_profile.specs.declared.kinds.Need.TheVariants.{Plain, Required, Optional}
use Rattle.idl_profile.specs.Types.{TypeTree, scalar, text, bytes, list_of, set_of, map_of, named, Named}
use Rattle.idl_profile.specs.Types.{enum_of, struct_of, Fields, no_fields, field}
use Rattle.frozen_model.specs.Trees as tree
use Rattle.frozen_model.specs.Trees.{Text, Binary, AList, ASet, AMap, Tree, Trees, Leaf, ByteRange, ItemRange}
use Rattle.frozen_model.specs.Trees.{Struct, NoField, Field, nodes, nodes_all}
use Rattle.type_kinds.specs.KindsOf.{kinds_of, kinds_of_named, kinds_of_fields}
use Rattle.bit_view.specs.Branches.{field_tree}
use Rattle.evolve.specs.Binding.{BindsField, BindsPair, Binds, BindsNamed, BindFields}
use Rattle.evolve.specs.Plans.{field_node, nodes_of_field, nodes_of_pair, nodes_at, nodes_at_named}
use Rattle.evolve.specs.Plans.{nodes_at_fields}

pair_many : {A B : Type 0} (first second : Tree A B → Type 0) (f g : Tree A B → ℕ → List (Option ℕ))
    (l : Tree A B)
    (i m n : ℕ) → ((k : Tree A B) (j : ℕ) → first k → length (f k j) ≡ m)
    → ((v : Tree A B) (j : ℕ) → second v → length (g v j) ≡ n) → BindsPair first second l
    → length (nodes_of_pair f g l i) ≡ 1 + (m + n)
pair_many first second f g (Struct (Field a k (Field b v NoField))) i m n p q h =
    let x = p k (1 + i) h.0 in
    let y = q v (1 + i + nodes k) h.1 in
    omega (arith, x, y, length-append (f k (1 + i)) (g v (1 + i + nodes k)))
pair_many first second f g l i m n p q h = absurd h

-- of a field that is no optional
plain_many : {A B : Type 0} (binds : Tree A B → Type 0) (f : Tree A B → ℕ → List (Option ℕ)) (many : ℕ)
    (o : Option (Tree A B)) (i : ℕ) → ((l : Tree A B) (j : ℕ) → binds l → length (f l j) ≡ many)
    → BindsField Plain binds o → length (nodes_of_field Plain f many o i) ≡ many
plain_many binds f many None i p h = length-replicate many None
plain_many binds f many (Some l) i p h = p l i h

required_many : {A B : Type 0} (binds : Tree A B → Type 0) (f : Tree A B → ℕ → List (Option ℕ)) (many : ℕ)
    (o : Option (Tree A B)) (i : ℕ) → ((l : Tree A B) (j : ℕ) → binds l → length (f l j) ≡ many)
    → BindsField Required binds o → length (nodes_of_field Required f many o i) ≡ many
required_many binds f many None i p h = absurd h
required_many binds f many (Some l) i p h = p l i h

optional_many : {A B : Type 0} (binds : Tree A B → Type 0) (f : Tree A B → ℕ → List (Option ℕ))
    (many inner : ℕ)
    (o : Option (Tree A B)) (i : ℕ) → many ≡ 2 + inner
    → ((l : Tree A B) (j : ℕ) → binds l → length (f l j) ≡ inner)
    → BindsField Optional binds o → length (nodes_of_field Optional f many o i) ≡ many
optional_many binds f many inner None i e p h = length-replicate many None
optional_many binds f many inner (Some (tree.Optional w l)) i e p h = omega (arith, e, p l (2 + i) h)
optional_many binds f many inner (Some l) i e p h = absurd h

mutual
  pub many : {A B : Type 0} (r : Bool) (t : TypeTree) (l : Tree A B) (i : ℕ) → Binds r t l
      → length (nodes_at t l i) ≡ nodes (kinds_of t)
  many r (scalar s) (Leaf k a) i h = refl
  many r text (ByteRange Text d c) i h = refl
  many r bytes (ByteRange Binary d c) i h = refl
  many r (list_of x) (ItemRange AList d c l) i h = omega (arith, many r x l (3 + i) h)
  many r (set_of x) (ItemRange ASet d c l) i h = omega (arith, many r x l (3 + i) h)
  many {A} {B} r (map_of x y) (ItemRange AMap d c l) i h =
      omega (
        arith,
        pair_many (λ (k : Tree A B). Binds r x k) (λ (v : Tree A B). Binds r y v)
            (λ (k : Tree A B) (n : ℕ). nodes_at x k n) (λ (v : Tree A B) (n : ℕ). nodes_at y v n) l (3 + i)
            (nodes (kinds_of x)) (nodes (kinds_of y)) (λ k j b. many r x k j b) (λ v j b. many r y v j b) h,
      )
  many r (named n) l i h = named_many r n l i h
  many r t l i h = absurd h

  named_many : {A B : Type 0} (r : Bool) (n : Named) (l : Tree A B) (i : ℕ) → BindsNamed r n l
      → length (nodes_at_named n l i) ≡ nodes (kinds_of_named n)
  named_many r (enum_of w ms) (Leaf k a) i h = refl
  named_many r (struct_of w fs) (Struct ls) i h = omega (arith, fields_many r fs ls (1 + i) h)
  named_many r n l i h = absurd h

  fields_many : {A B : Type 0} (r : Bool) (fs : Fields) (ls : Trees A B) (i : ℕ) → BindFields r fs ls
      → length (nodes_at_fields fs ls i) ≡ nodes_all (kinds_of_fields fs)
  fields_many r no_fields ls i h = refl
  fields_many {A} {B} r (field id w Plain t d fs) ls i h =
      let size = nodes_all (kinds_of_fields (field id w Plain t d no_fields)) in
      let own = plain_many (λ (l : Tree A B). Binds r t l) (λ (l : Tree A B) (m : ℕ). nodes_at t l m) size
      (field_tree ls (nat_abs id)) (field_node ls (nat_abs id) i) (λ l j b. omega (arith, many r t l j b))
      h.0 in
      length-append (nodes_of_field Plain (λ (l : Tree A B) (m : ℕ). nodes_at t l m) size
      (field_tree ls (nat_abs id))
      (field_node ls (nat_abs id) i)) (nodes_at_fields fs ls i)
      ∙ omega (arith, own, fields_many r fs ls i h.1)
  fields_many {A} {B} r (field id w Required t d fs) ls i h =
      let size = nodes_all (kinds_of_fields (field id w Required t d no_fields)) in
      let own = required_many (λ (l : Tree A B). Binds r t l) (λ (l : Tree A B) (m : ℕ). nodes_at t l m) size
      (field_tree ls (nat_abs id)) (field_node ls (nat_abs id) i) (λ l j b. omega (arith, many r t l j b))
      h.0 in
      length-append (nodes_of_field Required (λ (l : Tree A B) (m : ℕ). nodes_at t l m) size
      (field_tree ls (nat_abs id))
      (field_node ls (nat_abs id) i)) (nodes_at_fields fs ls i)
      ∙ omega (arith, own, fields_many r fs ls i h.1)
  fields_many {A} {B} r (field id w Optional t d fs) ls i h =
      let size = nodes_all (kinds_of_fields (field id w Optional t d no_fields)) in
      let own = optional_many (λ (l : Tree A B). Binds r t l) (λ (l : Tree A B) (m : ℕ). nodes_at t l m) size
      (nodes (kinds_of t)) (field_tree ls (nat_abs id)) (field_node ls (nat_abs id) i) (omega arith)
      (λ l j b. many r t l j b) h.0 in
      length-append (nodes_of_field Optional (λ (l : Tree A B) (m : ℕ). nodes_at t l m) size
      (field_tree ls (nat_abs id))
      (field_node ls (nat_abs id) i)) (nodes_at_fields fs ls i)
      ∙ omega (arith, own, fields_many r fs ls i h.1)
