-- `tamp::reply_size` meets its contract. Assumes nothing.
use Rattle.tamp.proofs.reply_size.Goals as goal

pub returns-in-Err : goal.returns-in-Err
returns-in-Err c status codes space = rw c.in-Err.is c.refusal_size.ensures

pub returns-in-Ok : goal.returns-in-Ok
returns-in-Ok c status codes space = rw c.in-Ok.is (c.request_size.ensures status codes space)
