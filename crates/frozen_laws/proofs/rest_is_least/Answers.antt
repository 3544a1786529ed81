use Rattle.frozen_laws.proofs.Passes.{blank_starts}
use Rattle.frozen_laws.proofs.Rests.{rest_is_least}
use Rattle.frozen_laws.proofs.Same.{least_once_in}
use Rattle.frozen_laws.proofs.rest_is_least.Goals as goal

pub returns-clause-rest : goal.returns-clause-rest
returns-clause-rest c n relaxed r l v may root kinds s few e = rest_is_least n relaxed r l v may root kinds s few e

pub returns-clause-unique : goal.returns-clause-unique
returns-clause-unique c d e v one same a b = least_once_in d e v one same a b

pub returns-clause-start : goal.returns-clause-start
returns-clause-start c l v o i b = blank_starts l v o i b
