-- The file that a header, a schema and a packing make, which are written one after the other into a region.
use Rattle.std.proofs.Common.{◌≡◌, ◌∙◌, ◌+◌, ◌++◌, ℕ, List, length, take, drop, sym, ap}
use Rattle.std.proofs.Common.{append_assoc}
use Rattle.std.proofs.lemmas.List.{take-append-drop, get_or-drop}
use Rattle.frozen_model.specs.BitLaws.{IsBytes}
use Rattle.frozen_model.specs.Values.{Value, Of}
use Rattle.frozen_model.specs.Layouts.{Described}
use Rattle.frozen_model.specs.Packing.{Packs, packed}
use Rattle.frozen_model.specs.Files.{magic, four_bytes, frozen}
use Rattle.frozen_laws.proofs.Packed.{packed_once}
use Rattle.block_region.specs.Space.{Space}

-- the region with bytes put behind those that were handed out
pub record IsPut (old new : Space) (ws : List ℕ) : Type 0 where
  pub taken : new.taken ≡ old.taken + length ws
  pub long : length new.bytes ≡ length old.bytes
  pub front : take new.taken new.bytes ≡ take old.taken old.bytes ++ ws

bytes_behind : (bs : List ℕ) (n : ℕ) → IsBytes bs → IsBytes (drop n bs)
bytes_behind bs n h k = rw (get_or-drop n bs k 0) (h (n + k))

regroup : (m f s p : List ℕ) → ((m ++ f) ++ s) ++ p ≡ m ++ (f ++ (s ++ p))
regroup m f s p = simp append_assoc

-- a header, a schema and the packing of a value are the value's file with this schema
pub file_is : (d : Described) (v : Value) (schema header : List ℕ) (r0 r1 r2 r3 : Space) → r0.taken ≡ 0
    → header ≡ magic ++ four_bytes (length schema) → IsPut r0 r1 header → IsPut r1 r2 schema
    → take r2.taken r3.bytes ≡ take r2.taken r2.bytes → Of d.tree v
    → Packs d.tree v (drop r2.taken r3.bytes) → IsBytes r3.bytes → r3.bytes ≡ frozen (λ e. schema) d v
file_is d v schema header r0 r1 r2 r3 none eh p1 p2 before o packs small =
    let content : drop r2.taken r3.bytes ≡ packed d.tree v =
    packed_once (drop r2.taken r3.bytes) o (bytes_behind r3.bytes r2.taken small) packs in
    let first : take r1.taken r1.bytes ≡ magic ++ four_bytes (length schema) =
    p1.front ∙ ap (λ k. take k r0.bytes ++ header) none ∙ eh in
    let front : take r2.taken r3.bytes ≡ (magic ++ four_bytes (length schema)) ++ schema =
    before ∙ p2.front ∙ ap (λ xs. xs ++ schema) first in
    sym (take-append-drop r2.taken r3.bytes) ∙ ap (λ xs. xs ++ drop r2.taken r3.bytes) front
    ∙ ap (λ xs. ((magic ++ four_bytes (length schema)) ++ schema) ++ xs) content
    ∙ regroup magic (four_bytes (length schema)) schema (packed d.tree v)
