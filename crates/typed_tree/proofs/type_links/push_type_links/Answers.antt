-- One link after another is added.
use Rattle.std.proofs.Common.{◌≡◌, ◌∙◌, ◌++◌, ◌∷◌, [], List, get_or, ap, sym, length, take, map, append_assoc, arith}
use Rattle.std.proofs.lemmas.List.{length-map}
use Rattle.std.specs.Prelude.{zip, unsigned_abs}
use Rattle.std.proofs.lemmas.Int.{to_z-of_z}
use Rattle.std.proofs.Math.Seq.{take-length}
use Rattle.std.proofs.lemmas.Slice.Zip.{length-zip}
use Rattle.idl_profile.specs.Types.{DefField, fields_of}
use Rattle.idl_parse.specs.Refs.{type_of_ref, field_of_ref}
use Rattle.typed_tree.specs.declared.spot.Link.{Link}
use Rattle.typed_tree.specs.Fields.{field_link}
use Rattle.typed_tree.specs.Filled.{natural_ids}
use Rattle.typed_tree.proofs.Structs.{more-fields}
use Rattle.typed_tree.proofs.Linked.{id-at}
use Rattle.typed_tree.proofs.type_links.push_type_links.Goals as goal

pub loop-i-preserved : goal.loop-i-preserved
loop-i-preserved c =
    let fs = fields_of (type_of_ref c.args.ty) in
    let ks = c.args.nodes.now in
    let i = c.loop-i.i in
    let inv = c.loop-i.invariant in
    let many : length (natural_ids fs) ≡ length ks = length-map fs (λ (f : DefField). unsigned_abs f.id) ∙ c.requires.as_many in
    let id = id-at fs i (field_of_ref c.field_at.result) c.field_at.ensures in
    let is : c.link_to.result ≡ field_link (get_or (natural_ids fs) i 0, get_or ks i 0) = grind (arith, to_z-of_z, c.link_to.ensures, c.id.ensures, c.unsigned_abs.ensures, id) in
    record {
      added =
          c.push_reserved.ensures.items ∙ ap (λ (ls : List Link). ls ++ c.link_to.result ∷ []) inv.added ∙ append_assoc c.args.links.now.items (map field_link (take i (zip (natural_ids fs) ks))) (c.link_to.result ∷ [])
          ∙ ap (λ ls. c.args.links.now.items ++ ls) (sym (more-fields (natural_ids fs) ks i _ many (omega (arith, c.requires.as_many)) is));
      len = omega (arith, inv.len, c.push_reserved.ensures.len);
      capacity = c.push_reserved.ensures.capacity ∙ inv.capacity;
    }

pub returns-clause-added : goal.returns-clause-added
returns-clause-added c =
    let fs = fields_of (type_of_ref c.args.ty) in
    let zs = zip (natural_ids fs) c.args.nodes.now in
    let all : c.loop-i.i ≡ length zs = omega (arith, length-zip (natural_ids fs) c.args.nodes.now, length-map fs (λ (f : DefField). unsigned_abs f.id), c.requires.as_many, c.loop-i-test.false, c.loop-i.auto.i-end, c.field_count-i-end.ensures) in
    c.loop-i.invariant.added ∙ ap (λ n. c.args.links.now.items ++ map field_link (take n zs)) all ∙ ap (λ ws. c.args.links.now.items ++ map field_link ws) (take-length zs)
