use Rattle.std.proofs.Common.{arith, ap, length, ◌∙◌, w32}
use Rattle.std.proofs.lemmas.Int.{to_z-of_z}
use Rattle.layout_tree.proofs.Taken.{whole_given, takes}
use Rattle.layout_tree.proofs.layouts.Layouts.from_nodes.Goals as goal

pub mark_part-requires : goal.mark_part-requires
mark_part-requires c = whole_given c.deref_mut.result.now c.deref_mut.ensures.value c.requires.is

pub invariant_of-result : goal.invariant_of-result
invariant_of-result c =
    let d = c.requires.layout in
    let ns = c.args.nodes in
    let t = takes d ns.items c.deref_mut.result.now c.mark_part.new.nodes c.args.version c.args.relaxed
    c.form_version.result ns.len c.mark_part.result c.deref_mut.ensures.value c.requires.is
    (c.form_version.ensures d.version (to_z-of_z w32 c.args.version c.ranges.version
    ∙ c.requires.is.numbered))
    (omega (arith, ns.ok.0)) (omega (arith, c.mark_part.auto.nodes, ap length c.deref_mut.ensures.value))
    (c.mark_part.ensures (whole_given c.deref_mut.result.now c.deref_mut.ensures.value c.requires.is)) in
    record { listing = t.listing; sound = t.sound; relaxing = t.relaxing }

pub returns : goal.returns
returns c =
    let ns = c.args.nodes in
    record {
      layout = λ d h. (takes d ns.items c.deref_mut.result.now c.mark_part.new.nodes c.args.version
          c.args.relaxed c.form_version.result ns.len c.mark_part.result c.deref_mut.ensures.value h
          (c.form_version.ensures d.version (to_z-of_z w32 c.args.version c.ranges.version ∙ h.numbered))
          (omega (arith, ns.ok.0)) (omega
          (arith, c.mark_part.auto.nodes, ap length c.deref_mut.ensures.value))
          (c.mark_part.ensures (whole_given c.deref_mut.result.now c.deref_mut.ensures.value h))).layout;
      settled = let d = c.requires.layout in (takes d ns.items c.deref_mut.result.now c.mark_part.new.nodes
          c.args.version c.args.relaxed c.form_version.result ns.len c.mark_part.result
          c.deref_mut.ensures.value c.requires.is (c.form_version.ensures d.version
          (to_z-of_z w32 c.args.version c.ranges.version ∙ c.requires.is.numbered))
          (omega (arith, ns.ok.0)) (omega
          (arith, c.mark_part.auto.nodes, ap length c.deref_mut.ensures.value))
          (c.mark_part.ensures (whole_given c.deref_mut.result.now c.deref_mut.ensures.value
          c.requires.is))).settled;
      noted = λ d h. (takes d ns.items c.deref_mut.result.now c.mark_part.new.nodes c.args.version
          c.args.relaxed c.form_version.result ns.len c.mark_part.result c.deref_mut.ensures.value h
          (c.form_version.ensures d.version (to_z-of_z w32 c.args.version c.ranges.version ∙ h.numbered))
          (omega (arith, ns.ok.0)) (omega
          (arith, c.mark_part.auto.nodes, ap length c.deref_mut.ensures.value))
          (c.mark_part.ensures (whole_given c.deref_mut.result.now c.deref_mut.ensures.value h))).tells;
    }
