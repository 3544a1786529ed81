use Rattle.typed_reading.proofs.whole.find_fault.Goals as goal

pub returns-in-Ok : goal.returns-in-Ok
returns-in-Ok c = record { cause = c.in-Ok.ensures.cause; only = c.in-Ok.ensures.only }

pub returns-in-Err : goal.returns-in-Err
returns-in-Err c = record { cause = c.in-Err.ensures.cause; only = c.in-Err.ensures.only }
