use Rattle.idl_parse.specs.Refs.{type_of_ref}
use Rattle.key_order.specs.Keys.{value_of}
use Rattle.compact_codec.proofs.Clean.{clean_kind, text_read}
use Rattle.compact_codec.proofs.leaves.build_leaf.Goals as goal

pub read_key-requires : goal.read_key-requires
read_key-requires c = clean_kind (type_of_ref c.args.ty) c.args.kind c.args.bytes.now c.requires

pub push_key-requires : goal.push_key-requires
push_key-requires c = λ is. text_read (type_of_ref c.args.ty) c.args.kind c.args.bytes.now c.in-Ok.rest.now (value_of c.in-Ok.key) c.requires c.in-Ok.ensures.reads is
