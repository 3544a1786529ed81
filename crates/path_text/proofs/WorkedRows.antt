-- Worked rows: what texts are, where others go wrong, and where paths lead.
use Rattle.std.proofs.Common.{◌≡◌, [], ◌∷◌, Ok, Err, true, refl, lit<}
use Rattle.std.specs.Prelude.{codes, pos, negsuc}
use Rattle.hex.proofs.OnLiterals.{hex_on_literals}
use Rattle.idl_profile.specs.declared.kinds.Need.TheVariants.{Plain}
use Rattle.idl_profile.specs.Types.{TypeTree, scalar, i8, i32, text, set_of, map_of, named, struct_of, no_fields, field, without}
use Rattle.path_text.specs.declared.fault.PathFault.TheVariants.{NoField, NotAStep, BadKey}
use Rattle.path_text.specs.Steps.{field_step, index_step, key_step, int_key, flag_key, text_key, bytes_key, placed, whole}
use Rattle.path_text.specs.Texts.{PathText, PathFaultAt}
use Rattle.path_text.specs.Fitting.{fitted, scanned}
use Rattle.path_text.proofs.Begins.{none-here}

-- ---- texts that are paths

row_whole_value : PathText [] (whole [] 0)
row_whole_value = record { steps = refl; len = refl }

row_field_and_index : PathText (codes ".x[0]") (whole (placed 0 (field_step (codes "x")) ∷ placed 2 (index_step 0) ∷ []) 5)
row_field_and_index = record {
  steps = (codes ".x", codes "[0]", refl, refl, (refl, refl), refl, (codes "[0]", [], refl, refl, (codes "0", (lit< tt, refl), refl, lit< tt, refl), tt, refl));
  len = refl;
}

row_field_and_key : PathText (codes ".m{\"a\"}") (whole (placed 0 (field_step (codes "m")) ∷ placed 2 (key_step (text_key (codes "a"))) ∷ []) 7)
row_field_and_key = record {
  steps = (codes ".m", codes "{\"a\"}", refl, refl, (refl, refl), refl, (codes "{\"a\"}", [], refl, refl, (codes "\"a\"", refl, refl), tt, refl));
  len = refl;
}

-- the key of the empty binary
row_empty_bytes : PathText (codes "{#}") (whole (placed 0 (key_step (bytes_key [])) ∷ []) 3)
unfolding hex_on_literals
row_empty_bytes = record { steps = (codes "{#}", [], refl, refl, (codes "#", ([], refl, refl), refl), tt, refl); len = refl }

-- digits of either case
row_bytes : PathText (codes "{#0aFf}") (whole (placed 0 (key_step (bytes_key (10 ∷ 255 ∷ []))) ∷ []) 7)
unfolding hex_on_literals
row_bytes = record { steps = (codes "{#0aFf}", [], refl, refl, (codes "#0aFf", (codes "0aFf", refl, refl), refl), tt, refl); len = refl }

-- {"\"\\"}: a " and a \
row_escapes : PathText (123 ∷ 34 ∷ 92 ∷ 34 ∷ 92 ∷ 92 ∷ 34 ∷ 125 ∷ []) (whole (placed 0 (key_step (text_key (34 ∷ 92 ∷ []))) ∷ []) 8)
row_escapes = record { steps = (123 ∷ 34 ∷ 92 ∷ 34 ∷ 92 ∷ 92 ∷ 34 ∷ 125 ∷ [], [], refl, refl, (34 ∷ 92 ∷ 34 ∷ 92 ∷ 92 ∷ 34 ∷ [], refl, refl), tt, refl); len = refl }

row_least_number : PathText (codes "{-9223372036854775808}") (whole (placed 0 (key_step (int_key (negsuc 9223372036854775807))) ∷ []) 22)
row_least_number = record {
  steps = (codes "{-9223372036854775808}", [], refl, refl, (codes "-9223372036854775808", (true, codes "9223372036854775808", (lit< tt, refl), refl, refl), refl), tt, refl);
  len = refl;
}

row_flag : PathText (codes "{true}") (whole (placed 0 (key_step (flag_key true)) ∷ []) 6)
row_flag = record { steps = (codes "{true}", [], refl, refl, (codes "true", refl, refl), tt, refl); len = refl }

-- ---- and others

row_no_dot : PathFaultAt (codes "x") 0
row_no_dot = record { before = []; rest = codes "x"; steps = refl; place = refl; more = λ e. cc; none = none-here (codes "x") refl }

row_dash : PathFaultAt (codes ".a-b") 2
row_dash = record {
  before = placed 0 (field_step (codes "a")) ∷ [];
  rest = codes "-b";
  steps = (codes ".a", codes "-b", refl, refl, (refl, refl), refl, refl);
  place = refl;
  more = λ e. cc;
  none = none-here (codes "-b") refl;
}

row_great_index : PathFaultAt (codes "[18446744073709551616]") 0
row_great_index = record { before = []; rest = codes "[18446744073709551616]"; steps = refl; place = refl; more = λ e. cc; none = none-here (codes "[18446744073709551616]") refl }

row_great_number : PathFaultAt (codes "{9223372036854775808}") 0
row_great_number = record { before = []; rest = codes "{9223372036854775808}"; steps = refl; place = refl; more = λ e. cc; none = none-here (codes "{9223372036854775808}") refl }

row_plus : PathFaultAt (codes "{+5}") 0
row_plus = record { before = []; rest = codes "{+5}"; steps = refl; place = refl; more = λ e. cc; none = none-here (codes "{+5}") refl }

row_half_byte : PathFaultAt (codes "{#123}") 0
row_half_byte = record { before = []; rest = codes "{#123}"; steps = refl; place = refl; more = λ e. cc; none = none-here (codes "{#123}") refl }

-- {"\n"} with a \ and an n
row_other_escape : PathFaultAt (123 ∷ 34 ∷ 92 ∷ 110 ∷ 34 ∷ 125 ∷ []) 0
row_other_escape = record {
  before = [];
  rest = 123 ∷ 34 ∷ 92 ∷ 110 ∷ 34 ∷ 125 ∷ [];
  steps = refl;
  place = refl;
  more = λ e. cc;
  none = none-here (123 ∷ 34 ∷ 92 ∷ 110 ∷ 34 ∷ 125 ∷ []) refl;
}

-- ---- where paths lead

-- struct P {1: i32 x; 2: i32 y}
abbrev row_p : TypeTree
row_p = named (struct_of (codes "P") (field (pos 1) (codes "x") Plain (scalar i32) without (field (pos 2) (codes "y") Plain (scalar i32) without no_fields)))

-- struct M {1: map<i32,string> m; 2: set<i8> s}
abbrev row_m : TypeTree
row_m = named (struct_of (codes "M") (field (pos 1) (codes "m") Plain (map_of (scalar i32) text) without (field (pos 2) (codes "s") Plain (set_of (scalar i8)) without no_fields)))

row_leads : fitted row_p (whole (placed 0 (field_step (codes "x")) ∷ []) 2) ≡ Ok (scalar i32)
row_leads = refl

row_leads_to_a_value : fitted row_m (whole (placed 0 (field_step (codes "m")) ∷ placed 2 (key_step (int_key (negsuc 4))) ∷ []) 6) ≡ Ok text
row_leads_to_a_value = refl

row_no_field : fitted row_p (whole (placed 0 (field_step (codes "z")) ∷ []) 2) ≡ Err (NoField 0)
row_no_field = refl

row_not_a_step : fitted row_p (whole (placed 0 (field_step (codes "x")) ∷ placed 2 (index_step 0) ∷ []) 5) ≡ Err (NotAStep 2)
row_not_a_step = refl

row_other_key : fitted row_m (whole (placed 0 (field_step (codes "m")) ∷ placed 2 (key_step (text_key (codes "a"))) ∷ []) 7) ≡ Err (BadKey 2)
row_other_key = refl

row_great_key : fitted row_m (whole (placed 0 (field_step (codes "s")) ∷ placed 2 (key_step (int_key (pos 200))) ∷ []) 7) ≡ Err (BadKey 2)
row_great_key = refl

row_scan_of_a_number : scanned row_p (whole (placed 0 (field_step (codes "x")) ∷ []) 2) ≡ Err (NotAStep 2)
row_scan_of_a_number = refl
