use Rattle.frozen_cli.proofs.InMemory.{not_risen, not_failed, replied}
use Rattle.frozen_cli.proofs.laws.run_in_memory_is_replied.Goals as goal

pub returns : goal.returns
returns c words files files_after out out_after err err_after status runs room_out room_err =
    replied words _ _ _ status runs (not_risen 0) (not_failed _ out_after room_out) (not_failed _ err_after room_err)
