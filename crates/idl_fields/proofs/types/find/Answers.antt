use Rattle.std.specs.Prelude.{Some, None}
use Rattle.idl_fields.specs.View.{entries_in}
use Rattle.idl_fields.proofs.Finding.{found-at}
use Rattle.idl_fields.proofs.types.find.Goals as goal

pub returns-in-Some : goal.returns-in-Some
returns-in-Some c text h = found-at c.args.w.now (entries_in text c.args.scope.now) (Some c.in-Some.place) (c.in-Some.ensures _ h.names)

pub returns-in-None : goal.returns-in-None
returns-in-None c text h = found-at c.args.w.now (entries_in text c.args.scope.now) None (c.in-None.ensures _ h.names)
