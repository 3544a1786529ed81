use Rattle.std.proofs.Common.{sym, subst}
use Rattle.std.proofs.Math.Logic.{∥∥₁_map}
use Rattle.type_kinds.specs.Accepted.{HasShortTexts}
use Rattle.root_kinds.proofs.References.{struct_ref_is_utf8}
use Rattle.root_kinds.proofs.ShortTexts.{definition_is_short}
use Rattle.evolve.proofs.Arms.{rebound}
use Rattle.evolve.proofs.root.root_lens.Goals as goal

pub invariant_of-result : goal.invariant_of-result
invariant_of-result c = record {
  binds = ∣ rebound c.new-view.ensures.relaxed c.root.ensures.tree c.new-view.ensures.layout
      c.requires.bound.0 ∣₁;
  accepted = ∣ struct_ref_is_utf8 c.root.result c.root.ensures.kind ∣₁;
  short = ∥∥₁_map (definition_is_short c.args.def.now) (λ h. subst HasShortTexts
      (sym c.root.ensures.tree) h);
}
