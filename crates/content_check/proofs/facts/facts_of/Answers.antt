use Rattle.std.proofs.Common.{ap, sym, ◌∙◌, map, slice_get}
use Rattle.layout_tree.specs.Nodes.{at}
use Rattle.layout_tree.specs.Listing.{tree_of, sub, version_of}
use Rattle.layout_tree.specs.Reading.{plain}
use Rattle.layout_tree.specs.Given.{shown}
use Rattle.layout_tree.proofs.Place.{at_part}
use Rattle.layout_tree.proofs.Readings.{kind_read}
use Rattle.layout_tree.proofs.Numbers.{part_here}
use Rattle.content_check.proofs.Noting.{kept, lone_facts}
use Rattle.content_check.proofs.facts.facts_of.Goals as goal

pub inline_cells-requires : goal.inline_cells-requires
inline_cells-requires c =
    let l = c.args.layouts.now in
    let ns = l.nodes.items in
    let n = c.args.node in
    let k = kept ns n c.node.result (ap (λ r. slice_get (map shown r) n) l.listing ∙ c.node.ensures) in
    record {
      node = part_here ns n k.node l.listing c.requires k.is
          (λ e. c.in_default.not-Flag (sym k.kind ∙ e)) (λ e. c.in_default.not-Size (sym k.kind ∙ e));
    }

pub is_sure-requires : goal.is_sure-requires
is_sure-requires c =
    let l = c.args.layouts.now in
    let ns = l.nodes.items in
    let n = c.args.node in
    let k = kept ns n c.node.result (ap (λ r. slice_get (map shown r) n) l.listing ∙ c.node.ensures) in
    record {
      node = part_here ns n k.node l.listing c.requires k.is
          (λ e. c.in_default.not-Flag (sym k.kind ∙ e)) (λ e. c.in_default.not-Size (sym k.kind ∙ e));
    }

pub returns-in-Flag : goal.returns-in-Flag
returns-in-Flag c p =
    let l = c.args.layouts.now in
    let ns = l.nodes.items in
    let n = c.args.node in
    let k = kept ns n c.node.result (ap (λ r. slice_get (map shown r) n) l.listing ∙ c.node.ensures) in
    let e = ap (λ x. plain x.kind) k.is
    ∙ kind_read (version_of l.version) (at_part ns (sub (tree_of ns) n) n l.listing p) k.node in
    lone_facts (at l n) c.node.result.kind (ap plain (sym k.kind) ∙ e) c.in-Flag.is
