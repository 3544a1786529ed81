-- Values that are no containers are read exactly.
use Rattle.std.proofs.Common.{◌≡◌, ℕ, List, [], ◌∷◌, ◌++◌, true, Some, refl, arith}
use Rattle.std.specs.Prelude.{pos}
use Rattle.std.specs.Int.{w16, w32, w64}
use Rattle.exact_reading.specs.Reading.{and_then, pure, one, taken}
use Rattle.exact_reading.specs.Exact.{Exact}
use Rattle.exact_reading.proofs.Combinators.{one_exact, mapped_exact, then_exact}
use Rattle.compact_wire.specs.declared.kind.Kind.{Kind}
use Rattle.compact_wire.specs.declared.kind.Kind.TheVariants as k
use Rattle.compact_wire.specs.Bytes.{IsByte, OneByte}
use Rattle.compact_wire.specs.Node.{Node, flag, i8, i16, i32, i64, double, binary}
use Rattle.compact_wire.specs.Reads.{fits, signed_byte}
use Rattle.binary_wire.specs.BinaryNumbers.{Made, Bytes, IsSigned, IsSize}
use Rattle.binary_wire.specs.BinaryGrammar.{flag_of, SpellsScalar}
use Rattle.binary_wire.specs.BinaryReads.{size, signed, scalar}
use Rattle.binary_wire.proofs.ReadParts.{made_some, bytes_exact, bytes_some, signed_exact, signed_some}
use Rattle.binary_wire.proofs.ReadSize.{whole_size_exact, zero_size}

true_byte : flag_of 1 ≡ Some true
unfolding flag_of
true_byte = refl

zero_byte : signed_byte 0 ≡ Some (pos 0)
unfolding signed_byte
zero_byte = refl

pub scalar_exact : (kind : Kind) (n : ℕ) → fits 0 kind ≡ true → Exact IsByte n (SpellsScalar kind) (scalar kind)
unfolding scalar
scalar_exact k.Flag n h = mapped_exact IsByte (OneByte flag_of) (one flag_of) flag n (one_exact IsByte flag_of 1 true (omega arith) true_byte n)
scalar_exact k.I8 n h = mapped_exact IsByte (OneByte signed_byte) (one signed_byte) i8 n (one_exact IsByte signed_byte 0 (pos 0) (omega arith) zero_byte n)
scalar_exact k.I16 n h = mapped_exact IsByte (IsSigned w16 2) (signed w16 2) i16 n (signed_exact w16 2 n)
scalar_exact k.I32 n h = mapped_exact IsByte (IsSigned w32 4) (signed w32 4) i32 n (signed_exact w32 4 n)
scalar_exact k.I64 n h = mapped_exact IsByte (IsSigned w64 8) (signed w64 8) i64 n (signed_exact w64 8 n)
scalar_exact k.Double n h = mapped_exact IsByte (Bytes 8) (taken 8) double n (bytes_exact 8 n)
scalar_exact k.Binary n h =
    then_exact IsByte IsSize (λ m. Made binary (Bytes m)) (size true) (λ m. and_then (taken m) (λ x. pure (binary x))) n n
    whole_size_exact
    (λ m t p. record {
      exact = mapped_exact IsByte (Bytes m) (taken m) binary n (bytes_exact m n);
      some = made_some binary (Bytes m) (bytes_some m);
    }) (λ m t p. omega arith)
scalar_exact k.List n h = absurd cc
scalar_exact k.Set n h = absurd cc
scalar_exact k.Map n h = absurd cc
scalar_exact k.Struct n h = absurd cc

pub scalar_some : (kind : Kind) → fits 0 kind ≡ true → (x : Node) × (t : List ℕ) × SpellsScalar kind x t
scalar_some k.Flag h = made_some flag (OneByte flag_of) (true, 1 ∷ [], (1, omega arith, true_byte, refl))
scalar_some k.I8 h = made_some i8 (OneByte signed_byte) (pos 0, 0 ∷ [], (0, omega arith, zero_byte, refl))
scalar_some k.I16 h = made_some i16 (IsSigned w16 2) (signed_some w16 2)
scalar_some k.I32 h = made_some i32 (IsSigned w32 4) (signed_some w32 4)
scalar_some k.I64 h = made_some i64 (IsSigned w64 8) (signed_some w64 8)
scalar_some k.Double h = made_some double (Bytes 8) (bytes_some 8)
scalar_some k.Binary h =
    let s = made_some binary (Bytes 0) (bytes_some 0) in
    (s.0, (0 ∷ 0 ∷ 0 ∷ 0 ∷ []) ++ s.1, (0, 0 ∷ 0 ∷ 0 ∷ 0 ∷ [], s.1, zero_size, s.2, refl))
scalar_some k.List h = absurd cc
scalar_some k.Set h = absurd cc
scalar_some k.Map h = absurd cc
scalar_some k.Struct h = absurd cc

pub scalar_fits : (kind : Kind) (x : Node) (t : List ℕ) → SpellsScalar kind x t → fits 0 kind ≡ true
scalar_fits k.Flag x t p = refl
scalar_fits k.I8 x t p = refl
scalar_fits k.I16 x t p = refl
scalar_fits k.I32 x t p = refl
scalar_fits k.I64 x t p = refl
scalar_fits k.Double x t p = refl
scalar_fits k.Binary x t p = refl
scalar_fits k.List x t p = absurd p
scalar_fits k.Set x t p = absurd p
scalar_fits k.Map x t p = absurd p
scalar_fits k.Struct x t p = absurd p
