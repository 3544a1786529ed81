-- The last trees become the fields of a struct of the type.
use Rattle.typed_tree.specs.Sizes.{field_kinds}
use Rattle.typed_tree.specs.Made.{MadeAt}
use Rattle.std.proofs.Common.{◌≡◌, ◌<◌, get_or, get_or-drop, length-drop, subst, ◌∙◌, ◌+◌, ◌-◌, List, ap, sym, refl, drop, length, vec_len, vec_capacity, arith}
use Rattle.idl_profile.specs.Types.{fields_of}
use Rattle.idl_parse.specs.Refs.{type_of_ref}
use Rattle.frozen_model.specs.Values.{Value}
use Rattle.typed_tree.specs.Filled.{struct_with, links_of}
use Rattle.typed_tree.specs.Pools.{store_of, values_of}
use Rattle.typed_tree.specs.Trees.{trees_in}
use Rattle.root_kinds.proofs.References.{struct_ref_is_accepted}
use Rattle.typed_tree.proofs.Builders.{values-kept, cut-trees, cut-kinds, joins-after, trees-from}
use Rattle.typed_tree.proofs.Linked.{type-links-fit, struct-of-links, struct-links-made}
use Rattle.typed_tree.proofs.Making.{makes-cut, node-kept, number-there, trees-many}
use Rattle.typed_tree.proofs.Stack.{below-cut-is, below-rest-is, rest-is, length-rest}
use Rattle.typed_tree.proofs.builder.Builder.join_fields.Goals as goal

pub invariant_of-self : goal.invariant_of-self
invariant_of-self c =
    let b = c.args.self.now in
    let p = c.add_type_links-run.ensures in
    let q = c.truncate.ensures in
    let base = c.args.base in
    let nodes = ap (λ v. vec_len v) p.nodes in
    let capacity = ap (λ v. vec_capacity v) p.nodes in
    let taken = ap (λ s. s.taken) p.bytes in
    let size = ap (λ s. length s.bytes) p.bytes in
    let many = length-rest base c.deref.result.now in
    let all = ap (λ zs. length zs) c.deref.ensures.value in
    record {
      placed = below-cut-is b.pool.nodes.items _ b.stack.items _ base b.placed (ap (λ v. v.items) p.nodes) q.items;
      linked = omega (arith, b.linked, p.len, many, all, nodes, q.len, c.requires.as_many, b.stack.ok.0);
      few = omega (arith, b.few, nodes);
      few_bytes = b.few_bytes;
      for_nodes = omega (arith, b.for_nodes, nodes, capacity);
      for_links = omega (arith, b.for_links, nodes, p.capacity);
      for_numbers = omega (arith, b.for_numbers, q.len, q.capacity);
      for_bytes = omega (arith, b.for_bytes, taken, size);
    }

pub put-requires-clause-fit : goal.put-requires-clause-fit
put-requires-clause-fit c =
    let b = c.args.self.now in
    let base = c.args.base in
    let q = c.add_type_links-run.new.self in
    let p = c.add_type_links-run.ensures in
    let low = below-rest-is b.pool.nodes.items q.nodes.items b.stack.items _ base b.placed (ap (λ v. v.items) p.nodes) (rest-is base c.deref.result.now ∙ ap (drop base) c.deref.ensures.value) in
    type-links-fit (store_of q) _ c.add_type_links-run.result (type_of_ref c.args.ty) _ p.inside p.added low c.requires.kind (struct_ref_is_accepted c.args.ty c.requires.kind)

pub returns-clause-joined : goal.returns-clause-joined
returns-clause-joined c =
    let b = c.args.self.now in
    let q = c.add_type_links-run.new.self in
    let p = c.add_type_links-run.ensures in
    let fs = fields_of (type_of_ref c.args.ty) in
    let n = length fs in
    let base = c.args.base in
    let nodes = ap (λ v. v.items) p.nodes in
    let place : base + n ≡ length b.stack.items = c.requires.as_many in
    let kept = values-kept b q p.grows nodes base n _ c.truncate.ensures.items place in
    let many : n ≡ length c.deref.result.now - base = omega (arith, place, ap (λ zs. length zs) c.deref.ensures.value) in
    joins-after b _ c.put.new.self n _ _ _ _ _ _ c.put.ensures.pushed
    (cut-trees b q p.grows nodes base n _ c.truncate.ensures.items place)
    (cut-kinds b q p.grows nodes base n _ c.truncate.ensures.items place)
    (struct-of-links (values_of q) fs _ _ (many ∙ sym (length-rest base c.deref.result.now)) p.added
    ∙ ap (struct_with fs) (trees-from q b.stack.items base c.deref.result.now c.deref.ensures.value ∙ ap (λ (vs : List Value). drop base (trees_in vs b.stack.items)) kept))
    refl refl

pub returns-clause-made : goal.returns-clause-made
returns-clause-made c h =
    let b = c.args.self.now in
    let q = c.add_type_links-run.new.self in
    let p = c.add_type_links-run.ensures in
    let ty = type_of_ref c.args.ty in
    let fs = fields_of ty in
    let n = length fs in
    let base = c.args.base in
    let nodes = ap (λ v. v.items) p.nodes in
    let place : base + n ≡ length b.stack.items = c.requires.as_many in
    let slice = rest-is base c.deref.result.now ∙ ap (drop base) c.deref.ensures.value in
    let links = p.added ∙ ap (links_of fs) slice in
    let many : length fs ≡ length (drop base b.stack.items) = omega (arith, place, length-drop base b.stack.items) in
    let st = store_of q in
    let made = struct-links-made st q.nodes.items ty c.add_type_links-run.result (drop base b.stack.items) c.requires.kind links many
    (λ i f lt e. let low : base + i < length b.stack.items = omega (arith, lt, many, place) in let k = field_kinds f.need f.type in
    subst (MadeAt st q.nodes.items k) (sym (get_or-drop base b.stack.items i 0)) (node-kept b q p.grows nodes k (get_or b.stack.items (base + i) 0) (number-there b (base + i) low) (h i f (omega (arith, lt, many)) e))) in
    makes-cut b _ c.put.new.self base n _ (c.put.ensures.made _ made) p.grows nodes c.truncate.ensures.items (omega (arith, place)) (omega (arith, place, trees-many b))
