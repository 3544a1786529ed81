-- The frozen file of a value in its least layout.
use Rattle.std.proofs.Common.{◌≡◌, ◌∙◌, ◌+◌, ◌≤◌, ◌<◌, ◌^◌, ◌++◌, ℕ, List, true, length, Result, Ok, Err}
use Rattle.std.proofs.Common.{IfOk, refl, sym, ap, subst, arith}
use Rattle.frozen_model.specs.Trees.{KindTree, kinds}
use Rattle.frozen_model.specs.Values.{Value, Of, cells, cell_limit}
use Rattle.frozen_model.specs.Layouts.{Layout, Version2, Described}
use Rattle.frozen_model.specs.Packing.{packed, bytes_for, extent}
use Rattle.frozen_model.specs.Layouts.{stride}
use Rattle.frozen_model.specs.Holding.{Least}
use Rattle.frozen_model.specs.Files.{File, magic, four_bytes, frozen}
use Rattle.frozen_laws.proofs.Packed.{frozen_is}
use Rattle.frozen_laws.proofs.Cells.{whole_cells}
use Rattle.frozen_laws.proofs.Puts.{of_leafwise}
use Rattle.frozen_laws.proofs.Rests.{cells_same}
use Rattle.frozen_laws.proofs.SameKinds.{kinds_alike}
use Rattle.layout_schema.specs.Answers.{SchemaBytes}
use Rattle.layout_schema.specs.Laws.{WrittenIsSchema}
use Rattle.file_check.specs.Written.{written}
use Rattle.frozen_file.specs.FrozenFile.{IsLeastFile}

-- a value that is within the limit of cells under some kinds is within it under a layout of them
pub few_cells : (k : KindTree) (l : Layout) (v : Value) → Of l v → kinds l ≡ k → cells k v ≤ cell_limit
    → cells l v ≤ cell_limit
few_cells k l v o same few = omega (arith, few, cells_same o (kinds_alike l), ap (λ t. cells t v) same)

-- what holds of a value of a layout holds of it as one of the layout's kinds
pub of_kinds : (l : Layout) (v : Value) → Of l v → Of (kinds l) v
of_kinds l v o = of_leafwise o (kinds_alike l)

pub few_kinds : (l : Layout) (v : Value) → Of l v → cells l v ≤ cell_limit → cells (kinds l) v ≤ cell_limit
few_kinds l v o few = omega (arith, few, cells_same o (kinds_alike l))

-- the packing of a value within the limit is small
pub small_content : (l : Described) (v : Value) → Least l v → cells l.tree v ≤ cell_limit
    → bytes_for (stride l.tree) + extent l.tree v ≤ 2 ^ 29
small_content l v least few =
    omega (arith, whole_cells l.tree v least.holds.of_kind least.is_layout.layout.legal, few)

is_least_file : (l : Described) (v : Value) (schema bytes : List ℕ) → WrittenIsSchema
    → Least l v → l.version ≡ Version2 → l.relaxed ≡ true → cells l.tree v ≤ cell_limit → schema ≡ written l
    → length schema < 2 ^ 32 → bytes ≡ frozen (λ e. schema) l v → IsLeastFile (kinds l.tree) v bytes
is_least_file l v schema bytes law least version relaxed few es short eb =
    let spelled : bytes ≡ frozen written l v =
    eb ∙ ap (λ s. magic ++ (four_bytes (length s) ++ (s ++ packed l.tree v))) es in
    let small : length (written l) < 2 ^ 32 = subst (λ s. length s < 2 ^ 32) es short in
    record {
      layout = l;
      root = refl;
      version = version;
      relaxed = relaxed;
      least = least;
      spelled = spelled;
      file = subst (λ b. File SchemaBytes b l v) (sym spelled)
          (frozen_is SchemaBytes written l v (law l least.is_layout) small least.holds few);
    }

-- what holds of each value holds where there is one
ok_along : {T E : Type 0} (r : Result T E) (P Q : T → Type 0) → ((t : T) → P t → Q t) → IfOk r P → IfOk r Q
ok_along (Ok t) P Q f h = f t h
ok_along (Err e) P Q f h = tt

pub least_if_ok : {T E : Type 0} (view : T → List ℕ) (r : Result T E) (l : Described) (v : Value)
    (schema : List ℕ) → WrittenIsSchema → Least l v → l.version ≡ Version2 → l.relaxed ≡ true
    → cells l.tree v ≤ cell_limit → schema ≡ written l
    → length schema < 2 ^ 32 → IfOk r (λ t. view t ≡ frozen (λ e. schema) l v)
    → IfOk r (λ t. IsLeastFile (kinds l.tree) v (view t))
least_if_ok view r l v schema law least version relaxed few es short h =
    ok_along r _ _
    (λ t eb. is_least_file l v schema (view t) law least version relaxed few es short eb) h

-- a file of the least layout of some kinds is one of kinds that are the same
pub least_along : {T E : Type 0} (view : T → List ℕ) (r : Result T E) (k t : KindTree) (v : Value) → k ≡ t
    → IfOk r (λ out. IsLeastFile k v (view out)) → IfOk r (λ out. IsLeastFile t v (view out))
least_along view r k t v same h = subst (λ x. IfOk r (λ out. IsLeastFile x v (view out))) same h
