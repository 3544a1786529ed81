use Rattle.std.proofs.Common.{rules, ◌≡◌, ◌∷◌, [], ◌∙◌, sym, string_bytes}
use Rattle.json.specs.Print.{quoted}
use Rattle.serde_json.proofs.FreeTexts.{text_of_str}
use Rattle.json_line.proofs.Plain.{plain-written}
use Rattle.json_line.proofs.Rest.{closes}
use Rattle.json_line.proofs.leaves.push_text.Goals as goal

pub returns-then-all_plain : goal.returns-then-all_plain
returns-then-all_plain c =
    let two = string_bytes c.push_str-then-all_plain.new.self in
    let new = string_bytes c.push_str-then-all_plain-2.new.self in
    closes c.push_str-then-all_plain-2.result two (34 ∷ []) new c.push_str-then-all_plain-2.ensures.bytes
    (λ ended. plain-written c.args.text.now (string_bytes c.args.out.now)
    (string_bytes c.push_str.new.self) two new (sym c.all_plain.ensures
    ∙ c.if-all_plain.true) c.in_ok-push_str.ensures.bytes c.in_ok-push_str-2.ensures.bytes ended)

pub returns-in-Ok : goal.returns-in-Ok
returns-in-Ok c =
    let h = c.in-Ok.ensures.events in
    let text : string_bytes c.in-Ok.quoted ≡ quoted c.args.text.now =
    text_of_str c.args.text.now h.0 (string_bytes c.in-Ok.quoted) h.1 h.2 in
    search (rules, text)
