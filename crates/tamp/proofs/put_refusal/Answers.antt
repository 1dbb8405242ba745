-- `tamp::put_refusal` meets its contract. Assumes nothing.
use borrow.Author.Tests.{not-true, not-false}
use native.Mathlib.Omega.{arith}
use lib.ListN.{length}
use mathlib.Core.Path.{ap}
use Rattle.tamp.proofs.Replies.{refusal_silent, refusal_told, nothing_put, put_as}
use Rattle.tamp.proofs.put_refusal.Goals as goal

pub returns-then-not-about : goal.returns-then-not-about
returns-then-not-about c = nothing_put _ (refusal_silent _ _ (not-true _ c.if-not-about.true))

pub put_error-requires : goal.put_error-requires
put_error-requires c =
    let a = c.args in
    omega (arith, ap length (refusal_told a.s.now a.r (not-false _ c.if-not-about.false) c.contents.ensures c.encoding.ensures))

pub returns : goal.returns
returns c =
    put_as _ (refusal_told _ _ (not-false _ c.if-not-about.false) c.contents.ensures c.encoding.ensures) c.put_error.ensures
