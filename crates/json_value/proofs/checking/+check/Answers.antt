use Rattle.std.proofs.Common.{◌≡◌, ◌+◌, ◌∙◌, sym, ap, arith, drop, Some, None, string_bytes, option_map, ℕ, List}
use Rattle.std.specs.Prelude.{find}
use Rattle.idl_profile.specs.Types.{TypeTree, fields_of, kind_of}
use Rattle.idl_profile.specs.declared.kinds.TypeKind.{TypeKind}
use Rattle.typed_reading.specs.declared.fault.Found.{Found}
use Rattle.idl_parse.specs.Refs.{type_of_ref, field_of_ref, element_of, key_of, value_of}
use Rattle.serde_json.specs.Data.{item, array, object}
use Rattle.serde_json.specs.View.{view, items_view, members_view}
use Rattle.serde_json.proofs.Views.{Entry, view-Array, view-Object}
use Rattle.typed_tree.proofs.Typed.{size, field-smaller}
use Rattle.typed_reading.proofs.Tables.{on_ok}
use Rattle.typed_reading.specs.declared.fault.NodeFault.{NodeFault}
use Rattle.typed_reading.specs.Faults.{lesser, least, all_here}
use Rattle.typed_reading.specs.Marks.{listed}
use Rattle.json_value.specs.declared.progress.Progress.{Progress}
use Rattle.json_value.specs.Nodes.{nodes, nodes_in, nodes_of_members}
use Rattle.json_value.specs.Faults.{missing, type_named, has_name, keys_in, keys_in_pairs, faults_of_entry}
use Rattle.json_value.specs.Reading.{on, with_repeats, after_pairs, after_entry, after, after_items, after_members, after_member, inside}
use Rattle.json_value.proofs.Steps.{progress, item_at, one_more, one_more_member, list_is, struct_is, noted, found_at, known_type, unknown_type, set_is, map_is, one_more_pair, two_view, two_is, other_is}
use Rattle.json_value.proofs.checking.+check.Goals as goal

pub check_items-loop-item-preserved : goal.check_items-loop-item-preserved
check_items-loop-item-preserved t c =
    let ty = type_of_ref c.args.ty in
    let vs = c.deref-item-items.result.now in
    let i = c.loop-item.item-index in
    let v = c.item-item.result in
    let split : items_view (drop i vs) ≡ item (view v) (items_view (drop (i + 1) vs)) = item_at vs i v (omega (arith, c.loop-item-test.true, c.loop-item.auto.item-index-end, c.deref-item-items.ensures.len)) c.item-item.is in
    let on = one_more ty c.loop-item.progress (view v) (items_view (drop (i + 1) vs)) in
    let here = ap (λ p. after_items ty p (items_view (drop (i + 1) vs))) c.in_ok-check_value.ensures in
    let few = ap nodes_in split in
    (here ∙ sym on ∙ sym (ap (after_items ty c.loop-item.progress) split) ∙ c.loop-item.invariant.0, omega (arith, c.loop-item.invariant.1, few, ap (λ (p : Progress). p.next) c.in_ok-check_value.ensures))

pub check_list-returns-in-Array : goal.check_list-returns-in-Array
check_list-returns-in-Array t c =
    let ty = type_of_ref c.args.ty in
    let s = c.args.progress.now in
    let ds = items_view c.in-Array.items.items in
    let is : view c.args.value.now ≡ array ds = ap view c.in-Array.is ∙ view-Array c.in-Array.items in
    let target : after ty s (view c.args.value.now) ≡ after_items (element_of ty) (inside s) ds = ap (after ty s) is ∙ list_is ty s ds c.requires.kind in
    on_ok c.check_items.result _ _ (λ e. e ∙ ap (λ (u : TypeTree). after_items u c.pass_node.new.progress ds) c.element.ensures ∙ ap (λ (p : Progress). after_items (element_of ty) p ds) c.pass_node.ensures ∙ sym target) c.check_items.ensures

pub check_struct-returns-in-Object : goal.check_struct-returns-in-Object
check_struct-returns-in-Object t c =
    let ty = type_of_ref c.args.ty in
    let s = c.args.progress.now in
    let ms = members_view c.in-Object.members.entries in
    let is : view c.args.value.now ≡ object ms = ap view c.in-Object.is ∙ view-Object c.in-Object.members in
    let target : after ty s (view c.args.value.now) ≡ after_members (fields_of ty) (noted ty s ms) ms = ap (after ty s) is ∙ struct_is ty s ms c.requires.kind in
    let lacking = c.first_missing.ensures ∙ ap (λ fs. missing fs ms) c.fields.ensures in
    let known : c.note_missing.new.progress ≡ noted ty s ms =
    c.note_missing.ensures ∙ ap (λ (p : Progress). progress (lesser p.found (least (all_here s.next (listed c.first_missing.result)))) p.next) c.pass_node.ensures ∙ ap (λ (ks : List NodeFault). progress (lesser s.found (least (all_here s.next ks))) (s.next + 1)) lacking in
    on_ok c.check_members.result _ _ (λ e. e ∙ ap (λ (p : Progress). after_members (fields_of ty) p ms) known ∙ sym target) c.check_members.ensures

pub check_members-check_value-requires : goal.check_members-check_value-requires
check_members-check_value-requires t c =
    let fs = fields_of (type_of_ref c.args.ty) in
    let f = field_of_ref c.in-Some-field_named.field in
    let found : find (has_name c.as_str.result.now) fs ≡ Some f = sym c.field_named.ensures ∙ ap (option_map field_of_ref) c.in-Some-field_named.is in
    let at = found_at (has_name c.as_str.result.now) fs f found in
    let less = field-smaller (type_of_ref c.args.ty) at.0 f at.1 in
    let few = ap (λ (es : List Entry). nodes_of_members (members_view es)) c.in-Some.ensures.steps in
    (omega (arith, c.decreases, less, ap size c.ty.ensures), omega (arith, c.loop-name.invariant.1, few))

pub check_members-loop-name-preserved-in-Continue-1 : goal.check_members-loop-name-preserved-in-Continue-1
check_members-loop-name-preserved-in-Continue-1 t c =
    let fs = fields_of (type_of_ref c.args.ty) in
    let f = field_of_ref c.in-Some-field_named.field in
    let s = c.loop-name.progress in
    let name = string_bytes c.in-Some.name.now in
    let d = view c.in-Some.member.now in
    let ms = members_view c.next.new.self in
    let found : find (has_name c.as_str.result.now) fs ≡ Some f = sym c.field_named.ensures ∙ ap (option_map field_of_ref) c.in-Some-field_named.is in
    let known : type_named fs name ≡ Some f.type = ap (type_named fs) (sym c.as_str.ensures.value) ∙ known_type fs c.as_str.result.now f found in
    let one = one_more_member fs s name d ms in
    let behind : c.check_value.new.progress ≡ after_member (type_named fs name) s d =
    c.in_ok-check_value-in-Some-field_named.ensures ∙ ap (λ (u : TypeTree). after u s d) c.ty.ensures ∙ ap (λ u. after_member u s d) (sym known) in
    let few = ap (λ (es : List Entry). nodes_of_members (members_view es)) c.in-Some.ensures.steps in (
      ap (λ (p : Progress). after_members fs p ms) behind ∙ sym one ∙ sym (ap (λ (es : List Entry). after_members fs s (members_view es)) c.in-Some.ensures.steps) ∙ c.loop-name.invariant.0,
      omega (arith, c.loop-name.invariant.1, few, ap (λ (p : Progress). p.next) behind),
    )

pub check_members-loop-name-preserved : goal.check_members-loop-name-preserved
check_members-loop-name-preserved t c =
    let fs = fields_of (type_of_ref c.args.ty) in
    let s = c.loop-name.progress in
    let name = string_bytes c.in-Some.name.now in
    let d = view c.in-Some.member.now in
    let ms = members_view c.next.new.self in
    let found : find (has_name c.as_str.result.now) fs ≡ None = sym c.field_named.ensures ∙ ap (option_map field_of_ref) c.in-None-field_named.is in
    let known : type_named fs name ≡ None = ap (type_named fs) (sym c.as_str.ensures.value) ∙ unknown_type fs c.as_str.result.now found in
    let one = one_more_member fs s name d ms in
    let behind : c.pass_over.new.progress ≡ after_member (type_named fs name) s d =
    c.in_ok-pass_over-in-None-field_named.ensures ∙ ap (λ u. after_member u s d) (sym known) in
    let few = ap (λ (es : List Entry). nodes_of_members (members_view es)) c.in-Some.ensures.steps in (
      ap (λ (p : Progress). after_members fs p ms) behind ∙ sym one ∙ sym (ap (λ (es : List Entry). after_members fs s (members_view es)) c.in-Some.ensures.steps) ∙ c.loop-name.invariant.0,
      omega (arith, c.loop-name.invariant.1, few, ap (λ (p : Progress). p.next) behind),
    )

-- ---- sets and maps

pub check_set-returns-in_ok-check_items-in-Array : goal.check_set-returns-in_ok-check_items-in-Array
check_set-returns-in_ok-check_items-in-Array t c =
    let ty = type_of_ref c.args.ty in
    let u = element_of ty in
    let s = c.args.progress.now in
    let ds = items_view c.in-Array.items.items in
    let is : view c.args.value.now ≡ array ds = ap view c.in-Array.is ∙ view-Array c.in-Array.items in
    let target : after ty s (view c.args.value.now) ≡ with_repeats (after_items u (inside s) ds) (keys_in ds (kind_of u) (s.next + 1)) = ap (after ty s) is ∙ set_is ty s ds c.requires.kind in
    let behind : c.check_items.new.progress ≡ after_items u (inside s) ds =
    c.in_ok-check_items-in-Array.ensures ∙ ap (λ (w : TypeTree). after_items w c.pass_node.new.progress ds) c.element-element.ensures ∙ ap (λ (p : Progress). after_items u p ds) c.pass_node.ensures in
    let kind : c.kind.result ≡ kind_of u = c.kind.ensures ∙ ap kind_of c.element-element.ensures in
    let first : c.pass_node.new.progress.next ≡ s.next + 1 = ap (λ (p : Progress). p.next) c.pass_node.ensures in
    on_ok c.note_repeated.result _ _ (λ e. e ∙ ap (λ (p : Progress). with_repeats p (keys_in ds c.kind.result c.pass_node.new.progress.next)) behind
    ∙ ap (λ (k : TypeKind). with_repeats (after_items u (inside s) ds) (keys_in ds k c.pass_node.new.progress.next)) kind
    ∙ ap (λ (n : ℕ). with_repeats (after_items u (inside s) ds) (keys_in ds (kind_of u) n)) first ∙ sym target) c.note_repeated.ensures

pub check_map-returns-in_ok-check_entries-in-Array : goal.check_map-returns-in_ok-check_entries-in-Array
check_map-returns-in_ok-check_entries-in-Array t c =
    let ty = type_of_ref c.args.ty in
    let u = key_of ty in
    let v = value_of ty in
    let s = c.args.progress.now in
    let ds = items_view c.in-Array.items.items in
    let is : view c.args.value.now ≡ array ds = ap view c.in-Array.is ∙ view-Array c.in-Array.items in
    let target : after ty s (view c.args.value.now) ≡ with_repeats (after_pairs u v (inside s) ds) (keys_in_pairs ds (kind_of u) (s.next + 1)) = ap (after ty s) is ∙ map_is ty s ds c.requires.kind in
    let behind : c.check_entries.new.progress ≡ after_pairs u v (inside s) ds =
    c.in_ok-check_entries-in-Array.ensures ∙ ap (λ (w : TypeTree). after_pairs w (type_of_ref c.value.result) c.pass_node.new.progress ds) c.key-key_type.ensures
    ∙ ap (λ (w : TypeTree). after_pairs u w c.pass_node.new.progress ds) c.value.ensures ∙ ap (λ (p : Progress). after_pairs u v p ds) c.pass_node.ensures in
    let kind : c.kind.result ≡ kind_of u = c.kind.ensures ∙ ap kind_of c.key-key_type.ensures in
    let first : c.pass_node.new.progress.next ≡ s.next + 1 = ap (λ (p : Progress). p.next) c.pass_node.ensures in
    on_ok c.note_repeated_keys.result _ _ (λ e. e ∙ ap (λ (p : Progress). with_repeats p (keys_in_pairs ds c.kind.result c.pass_node.new.progress.next)) behind
    ∙ ap (λ (k : TypeKind). with_repeats (after_pairs u v (inside s) ds) (keys_in_pairs ds k c.pass_node.new.progress.next)) kind
    ∙ ap (λ (n : ℕ). with_repeats (after_pairs u v (inside s) ds) (keys_in_pairs ds (kind_of u) n)) first ∙ sym target) c.note_repeated_keys.ensures

pub check_entries-loop-item-preserved : goal.check_entries-loop-item-preserved
check_entries-loop-item-preserved t c =
    let k = type_of_ref c.args.key_type in
    let u = type_of_ref c.args.value_type in
    let vs = c.deref-item-items.result.now in
    let i = c.loop-item.item-index in
    let v = c.item-item.result in
    let split : items_view (drop i vs) ≡ item (view v) (items_view (drop (i + 1) vs)) = item_at vs i v (omega (arith, c.loop-item-test.true, c.loop-item.auto.item-index-end, c.deref-item-items.ensures.len)) c.item-item.is in
    let on = one_more_pair k u c.loop-item.progress (view v) (items_view (drop (i + 1) vs)) in
    let here = ap (λ p. after_pairs k u p (items_view (drop (i + 1) vs))) c.in_ok-check_entry.ensures in
    let few = ap nodes_in split in
    (here ∙ sym on ∙ sym (ap (after_pairs k u c.loop-item.progress) split) ∙ c.loop-item.invariant.0, omega (arith, c.loop-item.invariant.1, few, ap (λ (p : Progress). p.next) c.in_ok-check_entry.ensures))

pub check_entry-returns-in_ok-check_value-in-Array : goal.check_entry-returns-in_ok-check_value-in-Array
check_entry-returns-in_ok-check_value-in-Array t c =
    let k = type_of_ref c.args.key_type in
    let u = type_of_ref c.args.value_type in
    let s = c.args.progress.now in
    let vs = c.in-Array.pair.items in
    let x = c.index.result.now in
    let y = c.index-then-len-eq2.result.now in
    let two = two_view vs x y (omega (arith, c.if-len-eq2.true, c.len.ensures)) c.index.ensures c.index-then-len-eq2.ensures in
    let is = ap view c.in-Array.is ∙ view-Array c.in-Array.pair ∙ ap array two in
    let target = ap (after_entry k u s) is ∙ two_is k u s (view x) (view y) in
    on_ok c.check_value-then-len-eq2.result _ _ (λ e. e ∙ ap (λ (p : Progress). after u p (view y)) (c.in_ok-check_value-in-Array.ensures ∙ ap (λ (p : Progress). after k p (view x)) c.pass_node.ensures) ∙ sym target) c.check_value-then-len-eq2.ensures

pub check_entry-returns-else-len-eq2 : goal.check_entry-returns-else-len-eq2
check_entry-returns-else-len-eq2 t c =
    let k = type_of_ref c.args.key_type in
    let u = type_of_ref c.args.value_type in
    let s = c.args.progress.now in
    let vs = c.in-Array.pair.items in
    let is = ap view c.in-Array.is ∙ view-Array c.in-Array.pair in
    let other = ap (λ d. faults_of_entry d k u s.next) is ∙ other_is k u s vs (λ n. omega (arith, c.if-len-eq2.false, c.len.ensures, n)) in
    on_ok c.note_wrong.result _ _ (λ e. e ∙ ap (λ (fs : List Found). on s fs (nodes (view c.args.entry.now))) (sym other)) c.note_wrong.ensures
