use Rattle.idl_parse.specs.Refs.{type_of_ref}
use Rattle.compact_codec.specs.Decoding.{as_value}
use Rattle.binary_codec.proofs.Transcoded.{decoded_is, only_decoded}
use Rattle.binary_codec.proofs.decoding.decode_binary.Goals as goal

pub returns-in-Ok-clause-cause : goal.returns-in-Ok-clause-cause
returns-in-Ok-clause-cause c =
    decoded_is (type_of_ref c.args.ty) c.args.bytes.now c.in-Ok.compact.items c.in-Ok.ensures.cause (as_value c.decode.result) (rw c.as_slice.ensures.value at c.decode.ensures.cause)

pub returns-in-Ok-clause-only : goal.returns-in-Ok-clause-only
returns-in-Ok-clause-only c =
    only_decoded (type_of_ref c.args.ty) c.args.bytes.now c.in-Ok.compact.items c.in-Ok.ensures.cause (as_value c.decode.result) (rw c.as_slice.ensures.value at c.decode.ensures.only)
