use Rattle.evolve.specs.LensRows.{lens_of_row}
use Rattle.std.proofs.Common.{sym, ◌∙◌}
use Rattle.lens_lookup.specs.LensKeys.{values_searched}
use Rattle.lens_lookup.proofs.Finding.{keys_counted, keys_rise}
use Rattle.lens_lookup.proofs.KeyForms.{holder, no_list, lens_rises}
use Rattle.lens_lookup.proofs.keys.LensKeysKeys.len.Goals as goal

pub returns-clause-len : goal.returns-clause-len
returns-clause-len g c =
    let s = c.args.self.now in s.counted ∙ sym (keys_counted (values_searched s))

pub returns-clause-rising : goal.returns-clause-rising
returns-clause-rising g c =
    let s = c.args.self.now in
    keys_rise (holder s.map) (values_searched s) (no_list s.map)
    (lens_rises s.map (lens_of_row s.row) s.keyed)
