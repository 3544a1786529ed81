-- What a text means is a proper definition.
use Rattle.std.proofs.Common.{ℕ, List, sym, subst}
use Rattle.std.specs.Str.{IsUtf8}
use Rattle.idl_tokens.specs.Tokens.{tokens}
use Rattle.idl_profile.specs.Meaning as m
use Rattle.idl_profile.specs.DefText.{DefTokens}
use Rattle.idl_proper.specs.Proper.{IsProper}
use Rattle.idl_proper.proofs.TokensFit.{tokens-fit}
use Rattle.idl_proper.proofs.MeantText.{meant-proper}

pub proper-from : (text : List ℕ) (d : List m.MeantNamed) → IsUtf8 text → DefTokens (tokens text) d → IsProper d
proper-from text d u h = subst IsProper (sym h.means) (meant-proper h.scope (tokens text) h.rest h.spells (tokens-fit text u))
