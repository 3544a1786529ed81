use Rattle.frozen_model.specs.Walk.{open_content}
use Rattle.frozen_laws.proofs.Opening.{where_ok, content_sound, content_complete}
use Rattle.frozen_laws.proofs.content_is_exact.Goals as goal

pub returns : goal.returns
returns c n l v bs is small = (λ e. where_ok (open_content bs l) v (content_sound n l bs is small) e, λ h. content_complete n l v bs is small h)
