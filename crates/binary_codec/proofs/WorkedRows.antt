-- Encodings, computed.
use Rattle.std.proofs.Common.{◌≡◌, [], ◌∷◌, refl}
use Rattle.std.specs.Prelude.{pos, negsuc, false, true}
use Rattle.idl_profile.specs.Types.{scalar, text, list_of, map_of, flag, i16, i32}
use Rattle.frozen_model.specs.Values.{One, Number, Truth, Items, NoValue, And}
use Rattle.frozen_model.specs.Trees.{AList, AMap}
use Rattle.binary_codec.specs.BinaryEncoding.{binary}

-- an i32 of -1
minus_one : binary (scalar i32) (One (Number (negsuc 0))) ≡ 255 ∷ 255 ∷ 255 ∷ 255 ∷ []
minus_one = refl

-- an empty map has the codes of its types
no_pairs : binary (map_of (scalar i32) text) (Items AMap NoValue) ≡ 8 ∷ 11 ∷ 0 ∷ 0 ∷ 0 ∷ 0 ∷ []
no_pairs = refl

-- bools are 1 and 0
two_flags : binary (list_of (scalar flag)) (Items AList (And (One (Truth true)) (And (One (Truth false)) NoValue))) ≡ 2 ∷ 0 ∷ 0 ∷ 0 ∷ 2 ∷ 1 ∷ 0 ∷ []
two_flags = refl

one_short : binary (list_of (scalar i16)) (Items AList (And (One (Number (pos 258))) NoValue)) ≡ 6 ∷ 0 ∷ 0 ∷ 0 ∷ 1 ∷ 1 ∷ 2 ∷ []
one_short = refl
