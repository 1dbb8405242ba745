-- `tamp::effect` meets its contract. Assumes nothing.
use borrow.Author.Rules.{rules}
use native.Mathlib.Omega.{arith}
use Rattle.tamp.proofs.Decided.{refusal_does, request_does}
use Rattle.tamp.proofs.effect.Goals as goal

pub copy_to-requires : goal.copy_to-requires
copy_to-requires c = let k = rw c.in-Err.is at c.requires.0 in omega arith

pub effect-requires : goal.effect-requires
effect-requires c =
    let p = c.requires in
    let k = rw c.in-Ok.is at p.0 in (k.1, k.0, p.1)

pub returns-in-Err : goal.returns-in-Err
returns-in-Err c =
    let e = c.in-Err.is in
    rw e (refusal_does _ _ _ _ _ (rw e at c.requires.0).0 c.copy_to.ensures)

pub returns-in-Ok : goal.returns-in-Ok
returns-in-Ok c =
    let e = c.in-Ok.is in
    let k = rw e at c.requires.0 in
    rw e (request_does _ _ _ _ _ (record { store = k.1.store; decodes = k.1.decodes }) c.effect.ensures (search rules))
