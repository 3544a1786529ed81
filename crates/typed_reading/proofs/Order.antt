-- The least of faults of two parts.
use Rattle.std.proofs.Common.{◌≡◌, ◌<◌, ◌≤◌, List, [], ◌∷◌, ◌++◌, Bool, true, false, cond, Option, Some, None, refl, sym, ap, ◌∙◌, arith}
use Rattle.std.proofs.lemmas.Bool.Decides.{nat_tests}
use Rattle.typed_reading.specs.declared.fault.NodeFault.{NodeFault}
use Rattle.typed_reading.specs.declared.fault.NodeFault.TheVariants.{RepeatedField, MissingRequired, WrongType, BadText, RepeatedKey}
use Rattle.typed_reading.specs.declared.fault.Found.{Found}
use Rattle.typed_reading.specs.Faults.{number, rank, is_less, lesser, least}

-- the three ways to put three together
pub lesser_three : (f g h : Option Found) → lesser (lesser f g) h ≡ lesser f (lesser g h)
lesser_three None g h = refl
lesser_three (Some f) None h = refl
lesser_three (Some f) (Some g) None = by (is_less g f)
  where
    by : (b : Bool) → lesser (cond b (Some g) (Some f)) None ≡ cond b (Some g) (Some f)
    by true = refl
    by false = refl
lesser_three (Some f) (Some g) (Some h) = by (is_less g f) refl (is_less h g) refl (is_less h f) refl
  where
    by : (b : Bool) → is_less g f ≡ b → (c : Bool) → is_less h g ≡ c → (d : Bool) → is_less h f ≡ d → lesser (cond b (Some g) (Some f)) (Some h) ≡ lesser (Some f) (cond c (Some h) (Some g))
    by true p true q true r = grind (arith, nat_tests)
    by true p true q false r = grind (arith, nat_tests)
    by true p false q true r = grind (arith, nat_tests)
    by true p false q false r = grind (arith, nat_tests)
    by false p true q true r = grind (arith, nat_tests)
    by false p true q false r = grind (arith, nat_tests)
    by false p false q true r = grind (arith, nat_tests)
    by false p false q false r = grind (arith, nat_tests)

pub lesser_none : (f : Option Found) → lesser f None ≡ f
lesser_none None = refl
lesser_none (Some f) = refl

pub least_append : (fs gs : List Found) → least (fs ++ gs) ≡ lesser (least fs) (least gs)
least_append [] gs = refl
least_append (f ∷ fs) gs = ap (lesser (Some f)) (least_append fs gs) ∙ sym (lesser_three (Some f) (least fs) (least gs))

number_small : (k : NodeFault) → number k < 8
number_small RepeatedField = omega arith
number_small (MissingRequired id) = omega arith
number_small WrongType = omega arith
number_small BadText = omega arith
number_small RepeatedKey = omega arith

pub number_some : (k : NodeFault) → 1 ≤ number k
number_some RepeatedField = omega arith
number_some (MissingRequired id) = omega arith
number_some WrongType = omega arith
number_some BadText = omega arith
number_some RepeatedKey = omega arith

lesser_by : (f g : Found) (b : Bool) → is_less g f ≡ b → lesser (Some f) (Some g) ≡ cond b (Some g) (Some f)
lesser_by f g b e = ap (λ (z : Bool). cond z (Some g) (Some f)) e

pub lesser_yes : (f g : Found) → rank g < rank f → lesser (Some f) (Some g) ≡ Some g
lesser_yes f g lt = let e : is_less g f ≡ true = grind (arith, nat_tests) in lesser_by f g true e

pub lesser_no : (f g : Found) → rank f ≤ rank g → lesser (Some f) (Some g) ≡ Some f
lesser_no f g le = let e : is_less g f ≡ false = grind (arith, nat_tests) in lesser_by f g false e

pub lesser_node : (f g : Found) → g.node < f.node → lesser (Some f) (Some g) ≡ Some g
lesser_node f g lt = lesser_yes f g (omega (arith, number_small f.fault, number_small g.fault))

pub lesser_number : (f g : Found) → g.node ≡ f.node → number g.fault < number f.fault → lesser (Some f) (Some g) ≡ Some g
lesser_number f g e lt = lesser_yes f g (omega arith)

pub lesser_same : (f g : Found) → g.node ≡ f.node → number f.fault ≤ number g.fault → lesser (Some f) (Some g) ≡ Some f
lesser_same f g e le = lesser_no f g (omega arith)

pub lesser_above : (f g : Found) → f.node < g.node → lesser (Some f) (Some g) ≡ Some f
lesser_above f g lt = lesser_no f g (omega (arith, number_small f.fault, number_small g.fault))
