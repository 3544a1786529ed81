-- Parts in which nothing can fail.
use Rattle.std.proofs.Common.{◌≡◌, ℕ, zero, suc, ◌+◌, List, refl, ap, ◌∙◌, Ok, Option, Some, None}
use Rattle.frozen_model.specs.Bits.{field}
use Rattle.frozen_model.specs.Trees.{Leaf, ByteRange, ItemRange, Optional, Struct, NoField, Field, AList}
use Rattle.frozen_model.specs.Trees.{ids_of}
use Rattle.frozen_model.specs.Values.{Value, Record, And, One, key_of}
use Rattle.frozen_model.specs.Layouts.{Layout, Layouts, width, stride, meaning, in_range, atom_of}
use Rattle.frozen_model.specs.Walk.{OutOfRange, walk, walk_all, walk_each, in_order}
use Rattle.frozen_model.proofs.Fields.{field_fits}
use Rattle.content_check.specs.Agreeing.{without_value}
use Rattle.content_check.specs.Sure.{IsSure, AllSure}
use Rattle.content_check.proofs.Steps.{ok_step, without_value_map, pass}

mutual
  -- the walk passes such a part with the next byte and the cells as they were
  pub sure_passes : (bs : List ℕ) (l : Layout) → IsSure l → (start bit next cells : ℕ)
      → without_value (walk bs l start None bit next cells) ≡ Ok (next, cells)
  sure_passes bs (Leaf k c) h start bit next cells =
      let z = meaning c (field bs bit (width c)) in
      ap without_value (pass (in_range k z) (OutOfRange bit)
      (in_order None bit (One (atom_of k z), next, cells))
      (h (field bs bit (width c)) (field_fits bs bit (width c))))
  sure_passes bs (ByteRange t d c) h start bit next cells = absurd h
  sure_passes bs (ItemRange g d c l) h start bit next cells = absurd h
  sure_passes bs (Optional w l) h start bit next cells = absurd h
  sure_passes bs (Struct ls) h start bit next cells = without_value_map
      (walk_all bs ls start None bit next cells) (Record (ids_of ls))
      ∙ all_sure_pass bs ls h start bit next cells

  all_sure_pass : (bs : List ℕ) (ls : Layouts) → AllSure ls → (start bit next cells : ℕ)
      → without_value (walk_all bs ls start None bit next cells) ≡ Ok (next, cells)
  all_sure_pass bs NoField h start bit next cells = refl
  all_sure_pass bs (Field i l ls) h start bit next cells =
      ok_step (walk bs l start None bit next cells) _ next cells _ (sure_passes bs l h.0 start bit next cells)
      (λ x e en ec. without_value_map (walk_all bs ls start None (bit + stride l) x.1 x.2) (And x.0)
      ∙ all_sure_pass bs ls h.1 start (bit + stride l) x.1 x.2 ∙ ap (λ n. Ok (n, x.2)) en
      ∙ ap (λ n. Ok (next, n)) ec)

-- and any number of such items of a list
pub sure_items_pass : (bs : List ℕ) (l : Layout) → IsSure l
    → (start s n bit next cells : ℕ) (k : Option Value)
    → without_value (walk_each AList (walk bs l start) s k n bit next cells) ≡ Ok (next, cells)
sure_items_pass bs l h start s zero bit next cells k = refl
sure_items_pass bs l h start s (suc n) bit next cells k =
    ok_step (walk bs l start None bit next cells) _ next cells _ (sure_passes bs l h start bit next cells)
    (λ x e en ec. without_value_map (walk_each AList (walk bs l start) s (Some (key_of x.0)) n (bit + s) x.1
    x.2) (And x.0) ∙ sure_items_pass bs l h start s n (bit + s) x.1 x.2 (Some (key_of x.0))
    ∙ ap (λ m. Ok (m, x.2)) en ∙ ap (λ m. Ok (next, m)) ec)
