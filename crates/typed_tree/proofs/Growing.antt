-- Ways in which what nodes refer to grows.
use Rattle.std.proofs.Common.{◌≡◌, ℕ, List, [], ◌++◌, length, take, drop, sym, ap, ◌∙◌}
use Rattle.std.proofs.Math.Seq.{drop-append_seam, take-length}
use Rattle.std.proofs.lemmas.List.{append-nil}
use Rattle.typed_tree.specs.declared.spot.Link.{Link}
use Rattle.typed_tree.specs.Spots.{Store, store}
use Rattle.typed_tree.specs.Pools.{Grows}

-- what was added at the end is the last part
pub added-part : {A : Type 0} (old x all : List A) (start len : ℕ) → all ≡ old ++ x → start ≡ length old → len ≡ length x → take len (drop start all) ≡ x
added-part old x all start len e f g =
    ap (λ (zs : List _). take len (drop start zs)) e ∙ ap (λ (n : ℕ). take len (drop n (old ++ x))) f ∙ ap (take len) (drop-append_seam old x) ∙ ap (λ (n : ℕ). take n x) g ∙ take-length x

pub grows-bytes : (old : Store) (x bytes : List ℕ) → bytes ≡ old.bytes ++ x → Grows old (store old.links bytes)
grows-bytes old x bytes e = record { more_links = []; more_bytes = x; links = sym (append-nil old.links); bytes = e }

pub grows-links : (old : Store) (x links : List Link) → links ≡ old.links ++ x → Grows old (store links old.bytes)
grows-links old x links e = record { more_links = x; more_bytes = []; links = e; bytes = sym (append-nil old.bytes) }

pub grows-same : (old new : Store) → new ≡ old → Grows old new
grows-same old new e =
    record { more_links = []; more_bytes = []; links = ap (λ (s : Store). s.links) e ∙ sym (append-nil old.links); bytes = ap (λ (s : Store). s.bytes) e ∙ sym (append-nil old.bytes) }
