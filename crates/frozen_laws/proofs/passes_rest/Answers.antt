use Rattle.frozen_laws.proofs.Stays.{pass_stays}
use Rattle.frozen_laws.proofs.Rests.{widest_holds, widest_legal, widest_coded, passes_legal, passes_rest}
use Rattle.frozen_laws.proofs.passes_rest.Goals as goal

pub returns-clause-widest : goal.returns-clause-widest
returns-clause-widest c n l v o few = (widest_holds n l v o few, widest_legal n l, widest_coded n l)

pub returns-clause-legal : goal.returns-clause-legal
returns-clause-legal c n rounds l v s few = passes_legal n rounds l v s few

pub returns-clause-bound : goal.returns-clause-bound
returns-clause-bound c n l v s few = passes_rest n l v s few

pub returns-clause-below : goal.returns-clause-below
returns-clause-below c n l m v i b x o h = pass_stays n l m v i b x o h
