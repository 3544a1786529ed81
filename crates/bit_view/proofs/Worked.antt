-- The worked content of two numbers.
use Rattle.std.proofs.Common.{◌≡◌, ◌∷◌, [], ℤ, pos, negsuc, false, Option, Some, refl, sym}
use Rattle.std.proofs.Common.{ap, subst, arith}
use Rattle.frozen_model.specs.Bits.{digits}
use Rattle.frozen_model.specs.Values.{Value, Of, one, record_of, part, no_part}
use Rattle.frozen_model.specs.Layouts.{Version1, Layout, Described, described}
use Rattle.frozen_model.specs.Holding.{Holds}
use Rattle.frozen_model.specs.Rows.{num, two_numbers}
use Rattle.frozen_laws.proofs.Holding.{fit_at}
use Rattle.frozen_laws.specs.Laws.{IsContent}
use Rattle.layout_tree.proofs.Worked.{worked}
use Rattle.typed_tree.specs.Parts.{IsInt}

holds : Holds worked (two_numbers (pos 5) (negsuc 0))
unfolding digits
holds =
    let of : Of worked (two_numbers (pos 5) (negsuc 0)) =
    record_of refl (part (one (omega arith)) (part (one (omega arith)) no_part)) in
    record {
      of_kind = of;
      fits = fit_at of 1 (
        record { reached = tt; wide = omega arith },
        (record { reached = tt; wide = omega arith }, tt),
      );
    }

content : IsContent worked (two_numbers (pos 5) (negsuc 0)) (21 ∷ [])
content = record { holds = holds; within = omega arith; packed = refl }

pub content_is : (d : Described) → d ≡ described Version1 false worked
    → IsContent d.tree (two_numbers (pos 5) (negsuc 0)) (21 ∷ [])
content_is d e =
    subst (λ (l : Layout). IsContent l (two_numbers (pos 5) (negsuc 0)) (21 ∷ []))
    (sym (ap (λ (x : Described). x.tree) e)) content

pub number_found : (r : Option Value) (w : Value) (z : ℤ) → r ≡ Some w → r ≡ Some (num z) → IsInt w
number_found r w z e f = let same : num z ≡ w = cc in subst IsInt same tt
