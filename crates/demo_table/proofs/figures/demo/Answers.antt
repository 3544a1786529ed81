use Rattle.std.proofs.Common.{◌≡◌, ◌∙◌, ◌+◌, ◌≤◌, sym, ap, subst, arith, refl}
use Rattle.std.specs.Str.{IsUtf8}
use Rattle.idl_profile.specs.Types.{root_of}
use Rattle.idl_parse.specs.Parsed.{definition_of}
use Rattle.type_kinds.specs.KindsOf.{kinds_of}
use Rattle.type_kinds.specs.Accepted.{IsAccepted}
use Rattle.frozen_model.specs.Values.{cells, cell_limit}
use Rattle.frozen_model.specs.Layouts.{stride}
use Rattle.frozen_model.specs.Packing.{bytes_for, extent}
use Rattle.frozen_model.specs.Holding.{Least}
use Rattle.frozen_laws.proofs.Opening.{packed_length}
use Rattle.layout_tree.specs.Nodes.{layout_of, noted_in}
use Rattle.layout_tree.specs.Listing.{version_of}
use Rattle.layout_tree.proofs.Readings.{same_nodes}
use Rattle.root_kinds.proofs.References.{struct_ref_is_utf8}
use Rattle.typed_tree.specs.Sizes.{capped}
use Rattle.cli_texts.specs.Demos.{demo_definition, demo as demo_value}
use Rattle.typed_tree.specs.References.{value_of_ref}
use Rattle.demo_table.proofs.Owned.{opened_own, small_file}
use Rattle.demo_table.proofs.figures.demo.Goals as goal

pub opened-requires-clause-small : goal.opened-requires-clause-small
opened-requires-clause-small c =
    small_file c.own_file_is_short.ensures (definition_of c.in_ok-def.def) (value_of_ref c.top-2.result) c.in_ok-file.file.items
    c.deref.result.now c.in_ok-file.ensures c.deref.ensures.value

pub own_plan-requires : goal.own_plan-requires
own_plan-requires c =
    let o = c.in_ok-opened.opened in
    let own = opened_own (definition_of c.in_ok-def.def) (value_of_ref c.top-2.result) c.in_ok-file.file.items
    c.deref.result.now o.content.now (layout_of o.layouts) c.in_ok-file.ensures c.deref.ensures.value
    c.in_ok-opened.ensures.layout c.in_ok-opened.ensures.content in
    own.root

pub look_all_up-tally-requires-clause-value : goal.look_all_up-tally-requires-clause-value
look_all_up-tally-requires-clause-value c =
    let root = root_of (definition_of c.in_ok-def.def) in
    let v = value_of_ref c.top-2.result in
    let o = c.in_ok-opened.opened in
    let own = opened_own (definition_of c.in_ok-def.def) v c.in_ok-file.file.items
    c.deref.result.now o.content.now (layout_of o.layouts) c.in_ok-file.ensures c.deref.ensures.value
    c.in_ok-opened.ensures.layout c.in_ok-opened.ensures.content in
    let accepted : IsAccepted IsUtf8 root =
    subst (IsAccepted IsUtf8) c.root.ensures.tree (struct_ref_is_utf8 c.root.result c.root.ensures.kind) in
    c.root_lens-root.ensures.value v own.is
    ∙ c.projection_is_a_value.ensures.same (layout_of o.layouts).tree root v accepted own.root
    own.is.holds.of_kind
    ∙ c.top-2.ensures.value ∙ c.in_ok-tree.ensures.value

pub returns : goal.returns
returns c =
    let d = definition_of c.in_ok-def.def in
    let v = value_of_ref c.top-2.result in
    let o = c.in_ok-opened.opened in
    let l = layout_of o.layouts in
    let own = opened_own d v c.in_ok-file.file.items
    c.deref.result.now o.content.now l c.in_ok-file.ensures c.deref.ensures.value
    c.in_ok-opened.ensures.layout c.in_ok-opened.ensures.content in
    let is : v ≡ demo_value c.args.n = c.top-2.ensures.value ∙ c.in_ok-tree.ensures.value in
    let u = value_of_ref c.top.result in
    let root = root_of demo_definition in
    let counted : c.cells-cells.result ≡ capped (cells (kinds_of root) (demo_value c.args.n)) =
    c.cells-cells.ensures ∙ ap (λ t. capped (cells (kinds_of t) u)) c.root.ensures.tree
    ∙ ap (λ e. capped (cells (kinds_of (root_of e)) u)) c.in_ok-def.ensures.demo
    ∙ ap (λ w. capped (cells (kinds_of root) w)) (c.top.ensures.value ∙ c.in_ok-tree.ensures.value) in
    let few = subst (λ w. cells (kinds_of root) w ≤ cell_limit) c.in_ok-tree.ensures.value
    c.in_ok-tree.ensures.few in
    record {
      layout = l;
      root = sym own.root ∙ ap (λ e. kinds_of (root_of e)) c.in_ok-def.ensures.demo;
      version = own.version;
      relaxed = own.relaxed;
      least = subst (Least l) is own.least;
      rows = refl;
      cells = omega (arith, counted, few);
      nodes = c.count.ensures ∙ sym (same_nodes (version_of o.layouts.version) (noted_in o.layouts));
      content = packed_length o.content.now own.is.holds.of_kind own.is.packed
          ∙ ap (λ u. bytes_for (stride l.tree) + extent l.tree u) is;
      found = c.look_all_up-tally.ensures.found;
      most = c.look_all_up-tally.ensures.most;
    }
