-- Worked rows, by computing.
use Rattle.std.proofs.Common.{◌≡◌, ℕ, List, [], ◌∷◌, Some, refl}
use Rattle.std.specs.Prelude.{codes, pos}
use Rattle.idl_grammar.specs.declared.fault.Fault.TheVariants.{UnknownType, BadDefault, KeyType}
use Rattle.idl_profile.specs.declared.kinds.BaseType.TheVariants as k
use Rattle.idl_profile.specs.declared.kinds.Need.TheVariants.{Plain}
use Rattle.idl_tokens.specs.Tokens.{Tok, word, number, mark, finish, Toks}
use Rattle.idl_grammar.specs.Grammar.{line_fault}
use Rattle.idl_grammar.specs.Run.{run}
use Rattle.idl_profile.specs.Meaning as m
use Rattle.idl_profile.specs.Types as types
use Rattle.idl_profile.specs.Judged.{is_name, scalar_of, container_of, begin_of}
use Rattle.idl_profile.specs.Text.{whole, item, enum_parts, enum_body, struct_parts, struct_body, typed, field, inner, typedef_parts}
use Rattle.idl_profile.specs.DefText.{means, fault, no_root, answer}

abbrev on : ℕ → List Tok → Toks
on n [] = []
on n (t ∷ ts) = record { token = t; line = n } ∷ on n ts

abbrev head : List Tok
head = word (codes "struct") ∷ word (codes "A") ∷ mark 123 ∷ []

-- struct A { 1: i32 x } with what follows it
row_good : answer (run whole (on 1 (word (codes "struct") ∷ word (codes "A") ∷ mark 123 ∷ number (Some (pos 1)) ∷ mark 58 ∷ word (codes "i32") ∷ word (codes "x") ∷ mark 125 ∷ finish ∷ [])))
    ≡ means (m.struct_of (codes "A") (record { id = pos 1; need = Plain; type = m.scalar k.I32; name = codes "x"; default = types.without } ∷ []) ∷ [])
unfolding is_name scalar_of container_of begin_of item enum_parts enum_body struct_parts struct_body typed field inner typedef_parts
row_good = refl

row_unknown : answer (run whole (on 7 (word (codes "struct") ∷ word (codes "A") ∷ mark 123 ∷ number (Some (pos 1)) ∷ mark 58 ∷ word (codes "B") ∷ word (codes "x") ∷ mark 125 ∷ finish ∷ []))) ≡ fault (line_fault UnknownType 7)
unfolding is_name scalar_of container_of begin_of item enum_parts enum_body struct_parts struct_body typed field inner typedef_parts
row_unknown = refl

-- enum E { A = 2147483647, B : BadDefault at B, also where the text ends
row_counting : answer (run whole (on 3 (word (codes "enum") ∷ word (codes "E") ∷ mark 123 ∷ word (codes "A") ∷ mark 61 ∷ number (Some (pos 2147483647)) ∷ mark 44 ∷ word (codes "B") ∷ finish ∷ []))) ≡ fault (line_fault BadDefault 3)
unfolding is_name scalar_of container_of begin_of item enum_parts enum_body struct_parts struct_body typed field inner typedef_parts
row_counting = refl

-- map<list< : KeyType
row_key : answer (run whole (on 3 (word (codes "typedef") ∷ word (codes "map") ∷ mark 60 ∷ word (codes "list") ∷ mark 60 ∷ finish ∷ []))) ≡ fault (line_fault KeyType 3)
unfolding is_name scalar_of container_of begin_of item enum_parts enum_body struct_parts struct_body typed field inner typedef_parts
row_key = refl

row_none : answer (run whole (on 1 (finish ∷ []))) ≡ no_root
row_none = refl
