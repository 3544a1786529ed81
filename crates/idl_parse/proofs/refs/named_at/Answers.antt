use Rattle.idl_parse.specs.Drafts.{has_few, has_rising}
use Rattle.idl_parse.proofs.HalvingLaws.{all-rise}
use Rattle.idl_parse.proofs.Standing.{named-some, named-none, named-beyond, all-at, fields-there}
use Rattle.idl_parse.proofs.refs.named_at.Goals as goal

pub returns-else-n-within-clause-stands : goal.returns-else-n-within-clause-stands
returns-else-n-within-clause-stands c = named-beyond c.args.def.now c.args.within c.args.n c.if-n-within.false

pub returns-in-Some-clause-stands : goal.returns-in-Some-clause-stands
returns-in-Some-clause-stands c =
    let l = c.in-Some.ensures.lookup in
    named-some c.args.def.now c.args.within c.args.n c.deref.result.now c.in-Some.one.now c.deref.ensures.value c.if-n-within.true l.3.0 l.1

pub returns-in-Some-clause-few : goal.returns-in-Some-clause-few
returns-in-Some-clause-few c =
    let l = c.in-Some.ensures.lookup in
    let h = c.args.def.now.few in
    all-at has_few c.deref.result.now c.args.n c.in-Some.one.now (rw c.deref.ensures.value h) l.3.0 l.1

pub returns-in-None-clause-stands : goal.returns-in-None-clause-stands
returns-in-None-clause-stands c =
    let l = c.in-None.ensures.lookup in
    named-none c.args.def.now c.args.within c.args.n c.deref.result.now c.deref.ensures.value c.if-n-within.true l.3

pub returns-in-Some-clause-rising : goal.returns-in-Some-clause-rising
returns-in-Some-clause-rising c =
    let l = c.in-Some.ensures.lookup in
    let h = all-rise c.args.def.now in
    all-at has_rising c.deref.result.now c.args.n c.in-Some.one.now (rw c.deref.ensures.value h) l.3.0 l.1

pub returns-in-Some-clause-listed : goal.returns-in-Some-clause-listed
returns-in-Some-clause-listed c =
    let l = c.in-Some.ensures.lookup in
    fields-there c.deref.result.now c.args.def.now.named.items c.args.n c.in-Some.one.now c.deref.ensures.value l.3.0 l.1
