-- One link after another is added.
use Rattle.std.proofs.Common.{◌≡◌, ◌∙◌, ◌++◌, ◌∷◌, [], List, get_or, ap, sym, length, take, map, append_assoc, subst, rules, arith}
use Rattle.std.specs.Prelude.{zip, pos, All, FitsSigned}
use Rattle.std.specs.Int.{w16}
use Rattle.std.proofs.lemmas.List.{length-map, get_or-map, take_all}
use Rattle.std.proofs.lemmas.List.Elements.{All-more}
use Rattle.std.proofs.lemmas.Int.{to_z-of_z}
use Rattle.std.proofs.Math.Seq.{take-length}
use Rattle.std.proofs.lemmas.Slice.Zip.{length-zip}
use Rattle.typed_tree.specs.declared.spot.Link.{Link}
use Rattle.typed_tree.specs.Fields.{field_link, id_number, id_numbers}
use Rattle.typed_tree.proofs.Structs.{more-fields}
use Rattle.typed_tree.proofs.fields.push_fields.Goals as goal

pub loop-i-preserved : goal.loop-i-preserved
loop-i-preserved c =
    let ids = c.args.ids.now in
    let ks = c.args.nodes.now in
    let i = c.loop-i.i in
    let inv = c.loop-i.invariant in
    let number = get_or-map id_number ids i (pos 0) 0 (omega (arith, c.requires.as_many)) in
    let is : c.link_to.result ≡ field_link (get_or (id_numbers ids) i 0, get_or ks i 0) = grind (arith, to_z-of_z, c.link_to.ensures, number) in
    record {
      added =
          c.push_reserved.ensures.items ∙ ap (λ (ls : List Link). ls ++ c.link_to.result ∷ []) inv.added ∙ append_assoc c.args.links.now.items (map field_link (take i (zip (id_numbers ids) ks))) (c.link_to.result ∷ [])
          ∙ ap (λ ls. c.args.links.now.items ++ ls) (sym (more-fields (id_numbers ids) ks i _ (length-map ids id_number ∙ c.requires.as_many) (omega arith) is));
      in_range = All-more (FitsSigned w16) ids i (pos 0) (omega (arith, c.requires.as_many)) inv.in_range (search rules);
      len = omega (arith, inv.len, c.push_reserved.ensures.len);
      capacity = c.push_reserved.ensures.capacity ∙ inv.capacity;
    }

pub returns-clause-added : goal.returns-clause-added
returns-clause-added c =
    let zs = zip (id_numbers c.args.ids.now) c.args.nodes.now in
    let all : c.loop-i.i ≡ length zs = omega (arith, length-zip (id_numbers c.args.ids.now) c.args.nodes.now, length-map c.args.ids.now id_number, c.requires.as_many) in
    c.loop-i.invariant.added ∙ ap (λ n. c.args.links.now.items ++ map field_link (take n zs)) all ∙ ap (λ ws. c.args.links.now.items ++ map field_link ws) (take-length zs)

pub returns-clause-in_range : goal.returns-clause-in_range
returns-clause-in_range c =
    subst (All (FitsSigned w16)) (take_all c.loop-i.i c.args.ids.now (omega (arith, c.loop-i-test.false, c.requires.as_many))) c.loop-i.invariant.in_range
