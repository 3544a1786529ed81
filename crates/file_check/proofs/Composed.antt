-- The bytes that are composed.
use Rattle.std.proofs.Common.{◌≡◌, ℕ, zero, suc, ◌^◌, ◌<◌, List, [], ◌∷◌, ◌++◌, length, slice_index, arith}
use Rattle.std.proofs.Common.{ap, sym, ◌∙◌, subst, append_assoc}
use Rattle.std.proofs.Math.Logic.{∥∥₁_map}
use Rattle.frozen_model.specs.BitLaws.{IsBytes}
use Rattle.frozen_model.specs.Values.{Value}
use Rattle.frozen_model.specs.Layouts.{Layout, Described, IsDescribed}
use Rattle.frozen_model.specs.Packing.{Packs}
use Rattle.frozen_model.specs.Holding.{Holds}
use Rattle.frozen_model.specs.Files.{File, magic, four_bytes, frozen}
use Rattle.frozen_laws.specs.Laws.{IsContent}
use Rattle.frozen_laws.proofs.Packed.{packed_once, frozen_is}
use Rattle.layout_schema.specs.Laws.{SchemasAreShort}
use Rattle.file_check.specs.Held.{PacksValue, HoldsValue}
use Rattle.file_check.specs.Written.{written}

-- what lies past the end of a list counts as 0
pub bytes_within : (xs : List ℕ) → ((k : ℕ) → k < length xs → slice_index xs k < 256) → IsBytes xs
bytes_within [] h k = omega arith
bytes_within (x ∷ xs) h zero = h 0 (omega arith)
bytes_within (x ∷ xs) h (suc k) = bytes_within xs (λ j l. h (suc j) (omega arith)) k

-- a header, a schema and a content, one after the other, are the frozen file
pub composed : (write : Described → List ℕ) (d : Described) (v : Value) (s content : List ℕ) → s ≡ write d
    → Holds d.tree v → IsBytes content → Packs d.tree v content
    → (([] ++ (magic ++ four_bytes (length s))) ++ s) ++ content ≡ frozen write d v
composed write d v s content es h small p =
    let front = magic ++ four_bytes (length s) in
    append_assoc front s content ∙ append_assoc magic (four_bytes (length s)) (s ++ content)
    ∙ ap (λ t. magic ++ (four_bytes (length t) ++ (t ++ content))) es
    ∙ ap (λ c. magic ++ (four_bytes (length (write d)) ++ (write d ++ c)))
    (packed_once content h.of_kind small p)

-- and so they are a file of the value, where it is within the limit of cells
pub composed_file : (Spells : List ℕ → Described → Type 0) (write : Described → List ℕ) (d : Described)
    (v : Value) (s content out : List ℕ) → Spells (write d) d → s ≡ write d → length s < 2 ^ 32
    → IsBytes content → IsContent d.tree v content → out ≡ frozen write d v → File Spells out d v
composed_file Spells write d v s content out spelled es short small c e =
    subst (λ b. File Spells b d v) (sym e)
    (frozen_is Spells write d v spelled (subst (λ t. length t < 2 ^ 32) es short) c.holds c.within)

-- the packing of a value within the limit of cells is one of a value
pub held_packs : (l : Layout) (bs : List ℕ) → ∥ HoldsValue l bs ∥₁ → ∥ PacksValue l bs ∥₁
held_packs l bs h = ∥∥₁_map h (λ (p : HoldsValue l bs). (p.0, p.1.holds, p.1.packed))

-- a header has room for the length of a schema that is written
pub small_schema : SchemasAreShort → (d : Described) (s : List ℕ) → IsDescribed d → s ≡ written d
    → length s < 2 ^ 32
small_schema short d s is e = omega (arith, ap length e, short d is)
