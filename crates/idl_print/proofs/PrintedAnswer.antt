-- What a printed text means.
use Rattle.std.proofs.Common.{◌≡◌, ◌∙◌, ℕ, List, Ok, Err, IfOk, sym, subst, ap}
use Rattle.std.specs.Prelude.{Result}
use Rattle.idl_profile.specs.Types as types
use Rattle.idl_parse.specs.Parsed.{DefText}
use Rattle.idl_print.specs.Printed as p
use Rattle.idl_print.proofs.PrintedLaw.{printed_means}

-- the text of a definition that a text means, means it
pub means_it : {T E : Type 0} (view : T → List ℕ) (r : Result T E) (text : List ℕ) (d e : List types.Named) → DefText text d → e ≡ d → IfOk r (λ s. view s ≡ p.printed e) → IfOk r (λ s. DefText (view s) d)
means_it view (Ok s) text d e m same is = subst (λ t. DefText t d) (sym (is ∙ ap p.printed same)) (printed_means text d m)
means_it view (Err x) text d e m same is = tt
