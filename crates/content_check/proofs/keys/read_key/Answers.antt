use Rattle.std.proofs.Common.{ap, sym, ◌∙◌, inl, inr, refl, nat_eq, rules, w64}
use Rattle.std.proofs.lemmas.Int.{to_z-of_z}
use mir.Val.{SFits}
use Rattle.frozen_model.specs.Bits.{field}
use Rattle.frozen_model.specs.Values.{One, Truth, Number}
use Rattle.layout_tree.specs.Nodes.{at}
use Rattle.layout_tree.specs.Reading.{plain}
use Rattle.layout_tree.specs.Listing.{sub, tree_of, version_of}
use Rattle.layout_tree.specs.declared.node.Kind.TheVariants as kinds
use Rattle.content_check.proofs.KeyOrders.{flag_value, whole_key, whole_leaf, number_value, plain_flag}
use Rattle.content_check.proofs.KeyOrders.{plain_bytes, whole_rank, rank_is, bytes_kind}
use Rattle.content_check.proofs.Walks.{number_agrees}
use Rattle.content_check.proofs.keys.read_key.Goals as goal

pub returns-in-Flag-clause-value : goal.returns-in-Flag-clause-value
returns-in-Flag-clause-value c x e =
    let a = c.args in
    let y = a.layouts.now in
    let r = flag_value a.content.now (version_of y.version) (sub (tree_of y.nodes.items) a.node) a.start a.bit
    a.reach.next a.reach.cells x (ap plain (sym c.in-Flag.is) ∙ c.kind.ensures.kind) e in
    r ∙ ap (λ w. One (Truth (nat_eq (field a.content.now a.bit w) 1))) (sym c.bits.ensures.bits)
    ∙ ap (λ n. One (Truth (nat_eq n 1))) (sym c.read_bits.ensures.value)

pub returns-in-Some : goal.returns-in-Some
returns-in-Some c =
    let a = c.args in
    let l = at a.layouts.now a.node in
    let k = c.kind.result in
    let w = whole_key l c.requires.key (λ e. c.in_default.not-Flag
    (sym (plain_flag k (e ∙ sym c.kind.ensures.kind))))
    (λ e. c.in_default.not-Text (sym (plain_bytes k kinds.Text (inl refl) (e ∙ sym c.kind.ensures.kind))))
    (λ e. c.in_default.not-Bytes (sym (plain_bytes k kinds.Bytes (inr refl) (e ∙ sym c.kind.ensures.kind)))) in
    let g : SFits w64 c.in-Some.x = search rules in
    record {
      agrees = number_agrees a.content.now l a.start a.bit a.reach c.in-Some.x (whole_leaf l w)
          c.in-Some.ensures c.requires.here;
      value = λ x e. number_value a.content.now l a.start a.bit a.reach.next a.reach.cells c.in-Some.x x w
          c.in-Some.ensures e ∙ ap (λ z. One (Number z)) (sym (to_z-of_z w64 c.in-Some.x g));
      kind = whole_rank l w;
    }

pub returns-in-Flag-clause-kind : goal.returns-in-Flag-clause-kind
returns-in-Flag-clause-kind c =
    let a = c.args in
    rank_is c.kind.result kinds.Flag (at a.layouts.now a.node) c.kind.ensures.kind c.in-Flag.is

pub returns-in-Text-clause-kind : goal.returns-in-Text-clause-kind
returns-in-Text-clause-kind c =
    let a = c.args in
    let l = at a.layouts.now a.node in
    bytes_kind c.read_bytes.result l c.read_bytes.ensures.kind
    (rank_is c.kind.result kinds.Text l c.kind.ensures.kind c.in-Text.is)

pub returns-in-Bytes-clause-kind : goal.returns-in-Bytes-clause-kind
returns-in-Bytes-clause-kind c =
    let a = c.args in
    let l = at a.layouts.now a.node in
    bytes_kind c.read_bytes-in-Bytes.result l c.read_bytes-in-Bytes.ensures.kind
    (rank_is c.kind.result kinds.Bytes l c.kind.ensures.kind c.in-Bytes.is)
