-- The text of a definition means it.
use Rattle.std.proofs.Common.{refl}
use Rattle.std.specs.Prelude.{string_bytes}
use Rattle.std.proofs.lemmas.Str.{IsUtf8-string_bytes}
use Rattle.idl_tokens.specs.Tokens.{tokens}
use Rattle.idl_profile.proofs.Had.{tokens-had}
use Rattle.idl_fields.specs.View.{types_in, nameds_of}
use Rattle.idl_parse.specs.declared.definition.Definition.{Definition}
use Rattle.idl_parse.specs.Parsed.{DefText, definition_of}

pub text_means : (d : Definition) → DefText (string_bytes d.text) (definition_of d)
text_means d =
    let text = string_bytes d.text in
    let read = nameds_of text (types_in d.types) d.named.items in
    record { utf8 = IsUtf8-string_bytes d.text; read = read; means = tokens-had (tokens text) read d.meant; is = refl }
