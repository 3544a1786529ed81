use Rattle.std.proofs.Common.{None, refl}
use Rattle.frozen_laws.proofs.Finds.{walk_finds}
use Rattle.frozen_laws.proofs.walk_is_complete.Goals as goal

pub returns : goal.returns
returns c n bs l start bit next cells v p h few =
    walk_finds n bs p.are_bytes h.of_kind p.coded p.legal p.keys start None bit next cells tt refl p.past p.inside p.within h.holds h.image_there h.tail_there few
