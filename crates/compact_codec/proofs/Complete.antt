-- A whole struct that is read and put.
use Rattle.std.proofs.Common.{◌≡◌, ℕ, suc, List, [], ◌∷◌, ◌++◌, length, Ok, sym, ap, subst, ◌∙◌, arith, append-nil}
use Rattle.exact_reading.specs.Reading.{seen}
use Rattle.exact_reading.proofs.Items.{ok_is}
use Rattle.frozen_model.specs.Values.{Value}
use Rattle.compact_wire.specs.declared.kind.Kind.TheVariants as k
use Rattle.compact_wire.specs.Node.{Node}
use Rattle.compact_wire.specs.Reads.{value}
use Rattle.compact_wire.specs.Spells.{SpellsWire}
use Rattle.compact_wire.proofs.WireLaws.{wire, wire_exact}
use Rattle.idl_profile.specs.Types.{TypeTree}
use Rattle.typed_reading.specs.Answers.{IsValue}
use Rattle.typed_reading.specs.Meaning.{Typed, meaning}
use Rattle.wire_scan.proofs.Seen.{seen_ok}
use Rattle.compact_codec.specs.Building.{IsClean, with_value}

read_all : (w : Node) (b : List ℕ) → SpellsWire w b → value 64 k.Struct b ≡ Ok (w, [])
read_all w b s = subst (λ (zs : List ℕ). wire zs ≡ Ok (w, [])) (append-nil b) ((wire_exact (suc (length (b ++ [])))).complete w b [] s (omega arith))

one_same : (u v : Value) → u ∷ [] ≡ v ∷ [] → u ≡ v
one_same u v e = cc

module _ (t : TypeTree) (b : List ℕ) (w : Node) (is : IsValue t b w) where
  pub whole_clean : IsClean t (value 64 k.Struct b)
  whole_clean = subst (IsClean t) (sym (read_all w b is.spelled)) (0, is.clean)

  pub one_tree : (vs us : List Value) (rest : List ℕ) → vs ≡ [] → seen (with_value t vs) (value 64 k.Struct b) ≡ Ok (us, rest) → us ≡ meaning w t ∷ []
  one_tree vs us rest none e =
      let x = seen_ok (with_value t vs) (value 64 k.Struct b) us rest e in
      let same : x.0 ≡ w = (ok_is x.0 w rest [] (sym x.1 ∙ read_all w b is.spelled)).0 in
      sym x.2 ∙ ap (λ (zs : List Value). zs ++ meaning x.0 t ∷ []) none ∙ ap (λ (z : Node). meaning z t ∷ []) same

  pub typed_tree_is : (vs us : List Value) (rest : List ℕ) (v : Value) → vs ≡ [] → seen (with_value t vs) (value 64 k.Struct b) ≡ Ok (us, rest) → us ≡ v ∷ [] → Typed t w v
  typed_tree_is vs us rest v none e f =
      let same : meaning w t ∷ [] ≡ v ∷ [] = sym (one_tree vs us rest none e) ∙ f in
      record { clean = is.clean; is = one_same (meaning w t) v same }
