-- What the frozen file of a value under a definition thaws to.
use Rattle.std.proofs.Common.{◌≡◌, ◌∙◌, ◌≤◌, ℕ, List, sym, ap, subst, arith}
use Rattle.std.specs.Str.{IsUtf8}
use Rattle.idl_profile.specs.Types.{Named, root_of}
use Rattle.idl_parse.specs.Parsed.{DefText}
use Rattle.type_kinds.specs.KindsOf.{kinds_of}
use Rattle.type_kinds.specs.Accepted.{IsAccepted}
use Rattle.root_kinds.proofs.Proper.{root_is_within}
use Rattle.frozen_model.specs.Values.{Value, cells, cell_limit}
use Rattle.frozen_laws.specs.Laws.{PackingIsInjective}
use Rattle.frozen_laws.proofs.Rests.{cells_same}
use Rattle.frozen_laws.proofs.SameKinds.{kinds_alike}
use Rattle.compact_wire.specs.Canon.{canon}
use Rattle.compact_codec.specs.Wire.{wire}
use Rattle.layout_schema.specs.Laws.{SchemaIsOfOne}
use Rattle.file_check.proofs.Openings.{one_file}
use Rattle.evolve.specs.Binding.{Compatible}
use Rattle.evolve.specs.Laws.{OwnKindsBind, ProjectionIsItself}
use Rattle.evolve.specs.Projection.{proj}
use Rattle.demo_table.specs.Laws.{OwnFileIsRead, OwnFileThaws}

root_accepted : (text : List ℕ) (d : List Named) → DefText text d → IsAccepted IsUtf8 (root_of d)
root_accepted text d is = (root_is_within IsUtf8 (λ x l. l.1) text d is).accepted

pub own_read : SchemaIsOfOne → PackingIsInjective → OwnKindsBind → ProjectionIsItself → OwnFileIsRead
own_read one injective binds itself text d v bytes is f layout held g =
    let root = root_of d in
    let accepted = root_accepted text d is in
    let of_kind = f.file.holds.of_kind in
    let own = one_file one injective bytes layout f.layout held v g f.file in
    let alike = cells_same of_kind (kinds_alike f.layout.tree) in
    let few : cells (kinds_of root) v ≤ cell_limit =
    omega (arith, f.file.within, alike, ap (λ k. cells k v) f.root) in (
      subst (λ l. Compatible l root) (sym own.0) (binds f.layout root accepted (sym f.root)),
      ap (proj root) own.1 ∙ itself f.layout.tree root v accepted (sym f.root) of_kind,
      few,
    )

pub own_thaws : OwnFileIsRead → OwnFileThaws
own_thaws law text d v bytes out is f =
    let root = root_of d in
    let mine = law text d v bytes is f f.layout v f.file in (
      λ x. x.spelled ∙ ap (λ u. canon (wire root u)) (law text d v bytes is f x.layout x.value x.file).1,
      λ e. record {
        layout = f.layout;
        value = v;
        file = f.file;
        binds = mine.0;
        within = subst (λ u. cells (kinds_of root) u ≤ cell_limit) (sym mine.1) mine.2;
        spelled = e ∙ ap (λ u. canon (wire root u)) (sym mine.1);
      },
    )
