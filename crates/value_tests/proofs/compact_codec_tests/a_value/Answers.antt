use Rattle.std.proofs.Common.{subst, sym}
use Rattle.idl_parse.specs.Refs.{type_of_ref}
use Rattle.frozen_model.specs.Values.{Of}
use Rattle.type_kinds.specs.KindsOf.{kinds_of}
use Rattle.value_tests.proofs.compact_codec_tests.a_value.Goals as goal

pub encode-requires : goal.encode-requires
encode-requires g c = subst (Of (kinds_of (type_of_ref c.root-ty.result))) (sym c.top.ensures.value) c.in_ok-tree.ensures.kinds
