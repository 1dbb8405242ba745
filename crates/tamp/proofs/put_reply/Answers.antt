-- `tamp::put_reply` meets its contract. Assumes nothing.
use Rattle.tamp.proofs.put_reply.Goals as goal

pub put_refusal-requires : goal.put_refusal-requires
put_refusal-requires c = rw c.in-Err.is at c.requires.3

pub put_request-requires : goal.put_request-requires
put_request-requires c =
    let p = c.requires in
    (p.0, p.1, p.2, rw c.in-Ok.is at p.3)

pub returns-in-Err : goal.returns-in-Err
returns-in-Err c = rw c.in-Err.is c.put_refusal.ensures

pub returns-in-Ok : goal.returns-in-Ok
returns-in-Ok c = rw c.in-Ok.is c.put_request.ensures
