-- The parts of a value from a place on: what is written of them, and one part more.
use Rattle.std.proofs.Common.{◌≡◌, ℕ, suc, ◌+◌, ◌<◌, List, [], ◌∷◌, ◌++◌, length, Some, Bool, true}
use Rattle.std.proofs.Common.{false, nat_lt, Result, Ok, Err, OnOk, is_ok, if◌then◌else◌, sym, ap, ◌∙◌}
use Rattle.std.proofs.Common.{arith, append_assoc}
use Rattle.std.proofs.lemmas.Bool.Decides.{nat_tests}
use Rattle.std.specs.List.{slice_get}
use Rattle.json.specs.Print.{quoted}
use Rattle.idl_profile.specs.Types as types
use Rattle.idl_profile.specs.Types.{TypeTree, DefField, field_list}
use Rattle.frozen_model.specs.Values.{Value, Values, count, nth}
use Rattle.serde_json.specs.Data.{Data, Members, member, array, object}
use Rattle.serde_json.specs.Written.{compact_text, comma_if, items_text, members_text}
use Rattle.typed_tree.specs.Spots as spots
use Rattle.typed_tree.proofs.Rest.{from, from-next, from-end, fields_from, fields-next, fields-end}
use Rattle.json_line.specs.Json.{as_json, each, both, with_field, members}

-- four texts behind one, and the rest
in-turn : (o a b c d rest : List ℕ) → ((((o ++ a) ++ b) ++ c) ++ d) ++ rest ≡ o ++ (a ++ (b ++ (c ++
    (d ++ rest))))
in-turn o a b c d rest =
    append_assoc (((o ++ a) ++ b) ++ c) d rest ∙ append_assoc ((o ++ a) ++ b) c (d ++ rest)
    ∙ append_assoc (o ++ a) b (c ++ (d ++ rest)) ∙ append_assoc o a (b ++ (c ++ (d ++ rest)))

-- what is pushed last is the end of it all
pub closes : {E P : Type 0} (r : Result (Unit {0}) E) (out z new : List ℕ)
    → new ≡ (if is_ok r then out ++ z else out) → (new ≡ out ++ z → P) → OnOk r P
closes (Ok x) out z new pushed whole = whole pushed
closes (Err e) out z new pushed whole = tt

-- ---- items

-- what the items from a place on are written as, with the closing bracket
abbrev pub items_from : (Value → Data) → Values → ℕ → List ℕ
items_from f vs i = items_text (nat_lt 0 i) (each f (from vs i))

pub item-more : (f : Value → Data) (vs : Values) (i : ℕ) (out mid new all : List ℕ) → i < count vs
    → mid ≡ out ++ comma_if (nat_lt 0 i) → new ≡ mid ++ compact_text (f (nth vs i))
    → out ++ items_from f vs i ≡ all → new ++ items_from f vs (i + 1) ≡ all
item-more f vs i out mid new all lt comma written so_far =
    let c = comma_if (nat_lt 0 i) in
    let d = compact_text (f (nth vs i)) in
    let rest = items_text true (each f (from vs (suc i))) in
    let next : items_from f vs i ≡ c ++ (d ++ rest) = ap (λ us. items_text (nat_lt 0 i) (each f us))
    (from-next vs i lt) in
    let one : i + 1 ≡ suc i = omega arith in
    let later : nat_lt 0 (suc i) ≡ true = grind (arith, nat_tests) in
    let same : items_from f vs (i + 1) ≡ rest = ap (items_from f vs) one
    ∙ ap (λ b. items_text b (each f (from vs (suc i)))) later in
    ap (λ r. new ++ r) same ∙ ap (λ r. r ++ rest) (written ∙ ap (λ r. r ++ d) comma)
    ∙ append_assoc (out ++ c) d rest
    ∙ append_assoc out c (d ++ rest) ∙ ap (λ r. out ++ r) (sym next) ∙ so_far

pub row-done : (f : Value → Data) (vs : Values) (i : ℕ) (old start out new : List ℕ) → i ≡ count vs
    → start ≡ old ++ 91 ∷ [] → new ≡ out ++ 93 ∷ []
    → out ++ items_from f vs i ≡ start ++ items_text false (each f vs)
    → new ≡ old ++ compact_text (array (each f vs))
row-done f vs i old start out new all begun ended written =
    let items = items_text false (each f vs) in
    ended ∙ ap (λ us. out ++ items_text (nat_lt 0 i) (each f us)) (sym (from-end vs i all)) ∙ written
    ∙ ap (λ r. r ++ items) begun
    ∙ append_assoc old (91 ∷ []) items

-- ---- a pair

pub pair-written : (f g : Value → Data) (p k v : Value) (old a b c d new : List ℕ) → p ≡ spots.pair k v
    → a ≡ old ++ 91 ∷ [] → b ≡ a ++ compact_text (f k) → c ≡ b ++ 44 ∷ [] → d ≡ c ++ compact_text (g v)
    → new ≡ d ++ 93 ∷ []
    → new ≡ old ++ compact_text (both f g p)
pair-written f g p k v old a b c d new at begun first comma second ended =
    let x = compact_text (f k) in
    let y = compact_text (g v) in
    ended ∙ ap (λ r. r ++ 93 ∷ []) (second ∙ ap (λ r. r ++ y) (comma ∙ ap (λ r. r ++ 44 ∷ []) (first
    ∙ ap (λ r. r ++ x) begun)))
    ∙ in-turn old (91 ∷ []) x (44 ∷ []) y (93 ∷ []) ∙ ap (λ q. old ++ compact_text (both f g q)) (sym at)

-- ---- fields

-- what the fields from a place on are written as, with the closing bracket
abbrev pub members_from : Bool → types.Fields → Values → ℕ → List ℕ
members_from later fs vs i = members_text later (members (fields_from fs i) (from vs i))

pub field-more : (fs : types.Fields) (vs : Values) (i : ℕ) (f : DefField) (later after : Bool)
    (out new all : List ℕ) → slice_get (field_list fs) i ≡ Some f → i < count vs
    → ((ms : Members) → new ++ members_text after ms ≡ out ++ members_text later (with_field f.need f.name
    (as_json f.type) (nth vs i) ms)) → out ++ members_from later fs vs i ≡ all
    → new ++ members_from after fs vs (i + 1) ≡ all
field-more fs vs i f later after out new all at lt written so_far =
    let rest = members (fields_from fs (suc i)) (from vs (suc i)) in
    let next : members (fields_from fs i) (from vs i) ≡ with_field f.need f.name (as_json f.type)
    (nth vs i) rest =
    ap (λ gs. members gs (from vs i)) (fields-next fs i f at)
    ∙ ap (members (types.field f.id f.name f.need f.type f.default (fields_from fs (suc i))))
    (from-next vs i lt) in
    let one : i + 1 ≡ suc i = omega arith in
    let same : members_from after fs vs (i + 1) ≡ members_text after rest = ap
    (members_from after fs vs) one in
    ap (λ r. new ++ r) same ∙ written rest ∙ ap (λ x. out ++ members_text later x) (sym next) ∙ so_far

pub fields-done : (fs : types.Fields) (vs : Values) (i : ℕ) (later : Bool) (old start out new : List ℕ)
    → i ≡ length (field_list fs) → start ≡ old ++ 123 ∷ [] → new ≡ out ++ 125 ∷ []
    → out ++ members_from later fs vs i ≡ start ++ members_text false (members fs vs)
    → new ≡ old ++ compact_text (object (members fs vs))
fields-done fs vs i later old start out new all begun ended written =
    let all_members = members_text false (members fs vs) in
    ended ∙ ap (λ gs. out ++ members_text later (members gs (from vs i))) (sym (fields-end fs i all))
    ∙ written ∙ ap (λ r. r ++ all_members) begun
    ∙ append_assoc old (123 ∷ []) all_members

pub given-more : (later : Bool) (name : List ℕ) (d : Data) (out a b c new : List ℕ)
    → a ≡ out ++ comma_if later → b ≡ a ++ quoted name → c ≡ b ++ 58 ∷ [] → new ≡ c ++ compact_text d
    → (ms : Members) → new ++ members_text true ms ≡ out ++ members_text later (member name d ms)
given-more later name d out a b c new comma named colon written ms =
    let rest = members_text true ms in
    ap (λ r. r ++ rest) (written ∙ ap (λ r. r ++ compact_text d) (colon ∙ ap (λ r. r ++ 58 ∷ []) (named
    ∙ ap (λ r. r ++ quoted name) comma)))
    ∙ in-turn out (comma_if later) (quoted name) (58 ∷ []) (compact_text d) rest
