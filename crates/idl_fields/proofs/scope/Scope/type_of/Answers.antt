use Rattle.std.proofs.Common.{ap, sym, ◌∙◌}
use Rattle.idl_fields.specs.View.{types_in, entries_in, word_type}
use Rattle.idl_fields.proofs.Finding.{entry-at, entry-stands}
use Rattle.idl_fields.proofs.scope.Scope.type_of.Goals as goal

pub returns-in-Some-clause-means : goal.returns-in-Some-clause-means
returns-in-Some-clause-means c text =
    let s = c.args.self.now in
    let l = c.in-Some.ensures.lookup in
    entry-at text (types_in s.types) s.entries.items c.in-Name.place c.in-Some.entry.now (rw (← c.deref.ensures.value) l.3.0) (rw (← c.deref.ensures.value) l.1)
    ∙ ap (word_type (entries_in text s)) (sym c.in-Name.is)

pub returns-in-Some-clause-stands : goal.returns-in-Some-clause-stands
returns-in-Some-clause-stands c types named h =
    let s = c.args.self.now in
    let l = c.in-Some.ensures.lookup in
    entry-stands types named s.entries.items c.in-Name.place c.in-Some.entry.now (rw (← c.deref.ensures.value) l.3.0) (rw (← c.deref.ensures.value) l.1) h
