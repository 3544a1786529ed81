-- A node without fault has none under any other number.
use Rattle.std.proofs.Common.{◌≡◌, ℕ, suc, ◌+◌, List, [], ◌∷◌, ◌++◌, Bool, true, false, cond, Option, Some, None, refl, ap, ◌∙◌}
use Rattle.std.specs.Prelude.{ℤ}
use Rattle.frozen_model.specs.Values.{Value}
use Rattle.compact_wire.specs.Node.{Node, flag, i8, i16, i32, i64, double, binary, list, set, map, structure}
use Rattle.compact_wire.specs.Node.{Nodes, no_nodes, node, Pairs, no_pairs, pair, Fields, no_fields, field}
use Rattle.wire_scan.specs.Sizes.{size}
use Rattle.idl_profile.specs.Types.{TypeTree, DefField, fields_of}
use Rattle.idl_parse.specs.Refs.{element_of, key_of, value_of}
use Rattle.typed_reading.specs.declared.fault.NodeFault.{NodeFault}
use Rattle.typed_reading.specs.declared.fault.NodeFault.TheVariants.{RepeatedKey}
use Rattle.typed_reading.specs.declared.fault.Found.{Found}
use Rattle.typed_reading.specs.Codes.{meets}
use Rattle.typed_reading.specs.Keys.{key_value, keys_in, keys_in_pairs}
use Rattle.typed_reading.specs.Faults.{own, all_here, if_here, is_key_among, repeats, with_below, of_field, type_in, is_among, faults, faults_in, faults_in_pairs, faults_in_fields}
use Rattle.typed_reading.proofs.Valued.{none_of}

both : {X : Type 0} (xs ys : List X) → xs ≡ [] → ys ≡ [] → xs ++ ys ≡ []
both xs ys e f = ap (λ zs. zs ++ ys) e ∙ f

moved_here : (a b : ℕ) (ks : List NodeFault) → all_here a ks ≡ [] → all_here b ks ≡ []
moved_here a b [] e = refl
moved_here a b (k ∷ ks) e = absurd cc

moved_if : (c : Bool) (a b : ℕ) (k : NodeFault) → if_here c a k ≡ [] → if_here c b k ≡ []
moved_if true a b k e = absurd cc
moved_if false a b k e = refl

moved_cond : (c : Bool) (x y : List Found) → (x ≡ [] → y ≡ []) → cond c x [] ≡ [] → cond c y [] ≡ []
moved_cond true x y f e = f e
moved_cond false x y f e = refl

moved_below : (t : TypeTree) (w : Node) (a b : ℕ) (x y : List Found) → (x ≡ [] → y ≡ []) → with_below t w a x ≡ [] → with_below t w b y ≡ []
moved_below t w a b x y f e =
    let p = none_of (cond (meets t w) x []) (all_here a (own t w)) e in
    both (cond (meets t w) y []) (all_here b (own t w)) (moved_cond (meets t w) x y f p.0) (moved_here a b (own t w) p.1)

moved_keys : (xs : Nodes) (a b : ℕ) (before : List Value) → repeats (keys_in xs a) before ≡ [] → repeats (keys_in xs b) before ≡ []
moved_keys no_nodes a b before e = refl
moved_keys (node x xs) a b before e =
    let c = is_key_among (key_value x) before in
    let p = none_of (if_here c a RepeatedKey) (repeats (keys_in xs (a + size x)) (key_value x ∷ before)) e in
    both (if_here c b RepeatedKey) (repeats (keys_in xs (b + size x)) (key_value x ∷ before)) (moved_if c a b RepeatedKey p.0)
    (moved_keys xs (a + size x) (b + size x) (key_value x ∷ before) p.1)

moved_map_keys : (xs : Pairs) (a b : ℕ) (before : List Value) → repeats (keys_in_pairs xs a) before ≡ [] → repeats (keys_in_pairs xs b) before ≡ []
moved_map_keys no_pairs a b before e = refl
moved_map_keys (pair x y xs) a b before e =
    let c = is_key_among (key_value x) before in
    let p = none_of (if_here c a RepeatedKey) (repeats (keys_in_pairs xs (a + size x + size y)) (key_value x ∷ before)) e in
    both (if_here c b RepeatedKey) (repeats (keys_in_pairs xs (b + size x + size y)) (key_value x ∷ before)) (moved_if c a b RepeatedKey p.0)
    (moved_map_keys xs (a + size x + size y) (b + size x + size y) (key_value x ∷ before) p.1)

moved_field : (o : Option TypeTree) (again : Bool) (x : Node) (a b : ℕ) → ((t : TypeTree) → faults x t a ≡ [] → faults x t b ≡ []) → of_field o again x (λ t. faults x t a) a ≡ []
    → of_field o again x (λ t. faults x t b) b ≡ []
moved_field None again x a b f e = refl
moved_field (Some t) true x a b f e = absurd cc
moved_field (Some t) false x a b f e = f t e

mutual
  pub moved : (w : Node) (t : TypeTree) (a b : ℕ) → faults w t a ≡ [] → faults w t b ≡ []
  moved (flag x) t a b e = moved_here a b (own t (flag x)) e
  moved (i8 x) t a b e = moved_here a b (own t (i8 x)) e
  moved (i16 x) t a b e = moved_here a b (own t (i16 x)) e
  moved (i32 x) t a b e = moved_here a b (own t (i32 x)) e
  moved (i64 x) t a b e = moved_here a b (own t (i64 x)) e
  moved (double x) t a b e = moved_here a b (own t (double x)) e
  moved (binary x) t a b e = moved_here a b (own t (binary x)) e
  moved (list c xs) t a b e =
      moved_below t (list c xs) a b (faults_in xs (element_of t) (suc a)) (faults_in xs (element_of t) (suc b))
      (λ f. moved_all xs (element_of t) (suc a) (suc b) f) e
  moved (set c xs) t a b e =
      moved_below t (set c xs) a b (faults_in xs (element_of t) (suc a) ++ repeats (keys_in xs (suc a)) []) (faults_in xs (element_of t) (suc b) ++ repeats (keys_in xs (suc b)) [])
      (λ f. let p = none_of (faults_in xs (element_of t) (suc a)) (repeats (keys_in xs (suc a)) []) f in
      both (faults_in xs (element_of t) (suc b)) (repeats (keys_in xs (suc b)) []) (moved_all xs (element_of t) (suc a) (suc b) p.0) (moved_keys xs (suc a) (suc b) [] p.1)) e
  moved (map c d xs) t a b e =
      moved_below t (map c d xs) a b (faults_in_pairs xs (key_of t) (value_of t) (suc a) ++ repeats (keys_in_pairs xs (suc a)) []) (faults_in_pairs xs (key_of t) (value_of t) (suc b) ++ repeats (keys_in_pairs xs (suc b)) [])
      (λ f. let p = none_of (faults_in_pairs xs (key_of t) (value_of t) (suc a)) (repeats (keys_in_pairs xs (suc a)) []) f in
      both (faults_in_pairs xs (key_of t) (value_of t) (suc b)) (repeats (keys_in_pairs xs (suc b)) []) (moved_pairs xs (key_of t) (value_of t) (suc a) (suc b) p.0) (moved_map_keys xs (suc a) (suc b) [] p.1)) e
  moved (structure xs) t a b e =
      moved_below t (structure xs) a b (faults_in_fields xs (fields_of t) [] (suc a)) (faults_in_fields xs (fields_of t) [] (suc b))
      (λ f. moved_fields xs (fields_of t) [] (suc a) (suc b) f) e

  moved_all : (xs : Nodes) (t : TypeTree) (a b : ℕ) → faults_in xs t a ≡ [] → faults_in xs t b ≡ []
  moved_all no_nodes t a b e = refl
  moved_all (node x xs) t a b e =
      let p = none_of (faults x t a) (faults_in xs t (a + size x)) e in
      both (faults x t b) (faults_in xs t (b + size x)) (moved x t a b p.0) (moved_all xs t (a + size x) (b + size x) p.1)

  moved_pairs : (xs : Pairs) (t u : TypeTree) (a b : ℕ) → faults_in_pairs xs t u a ≡ [] → faults_in_pairs xs t u b ≡ []
  moved_pairs no_pairs t u a b e = refl
  moved_pairs (pair x y xs) t u a b e =
      let p = none_of (faults x t a) (faults y u (a + size x) ++ faults_in_pairs xs t u (a + size x + size y)) e in
      let q = none_of (faults y u (a + size x)) (faults_in_pairs xs t u (a + size x + size y)) p.1 in
      both (faults x t b) (faults y u (b + size x) ++ faults_in_pairs xs t u (b + size x + size y)) (moved x t a b p.0)
      (both (faults y u (b + size x)) (faults_in_pairs xs t u (b + size x + size y)) (moved y u (a + size x) (b + size x) q.0) (moved_pairs xs t u (a + size x + size y) (b + size x + size y) q.1))

  moved_fields : (xs : Fields) (fs : List DefField) (before : List ℤ) (a b : ℕ) → faults_in_fields xs fs before a ≡ [] → faults_in_fields xs fs before b ≡ []
  moved_fields no_fields fs before a b e = refl
  moved_fields (field id x xs) fs before a b e =
      let p = none_of (of_field (type_in fs id) (is_among id before) x (λ t. faults x t a) a) (faults_in_fields xs fs (id ∷ before) (a + size x)) e in
      both (of_field (type_in fs id) (is_among id before) x (λ t. faults x t b) b) (faults_in_fields xs fs (id ∷ before) (b + size x))
      (moved_field (type_in fs id) (is_among id before) x a b (λ t f. moved x t a b f) p.0) (moved_fields xs fs (id ∷ before) (a + size x) (b + size x) p.1)
