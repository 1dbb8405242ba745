-- `image::community_stop` meets its contract. Assumes nothing.
use mathlib.Core.Path.{sym, ap, ◌∙◌}
use lib.ListN.{drop}
use borrow.Author.Tests.{not-true, not-false}
use Rattle.der.specs.Contents.{oid_ok}
use Rattle.image.specs.Contract.Check.{after, name_read}
use Rattle.image.proofs.Checks.{community_broken, community_no_oid, community_stops}
use Rattle.image.proofs.community_stop.Goals as goal

pub returns-in_err-e : goal.returns-in_err-e
returns-in_err-e c =
    let a = c.args in
    let s = a.s.now in
    let e = ap after (community_broken (drop a.p s) (sym (ap (name_read s a.p) c.in_err-e.was) ∙ c.name_stop.ensures)) in
    rw (c.from_residual.ensures, e)

pub returns-then-not-is_oid : goal.returns-then-not-is_oid
returns-then-not-is_oid c =
    let a = c.args in
    let s = a.s.now in
    let o = ap oid_ok (sym c.name_at.ensures) ∙ sym c.is_oid.ensures ∙ not-true _ c.if-not-is_oid.true-raw in
    sym (ap after (community_no_oid (drop a.p s) _ _ (sym (ap (name_read s a.p) c.in_ok-e.was)
    ∙ c.name_stop.ensures) o))

pub returns : goal.returns
returns c =
    let a = c.args in
    let s = a.s.now in
    let o = ap oid_ok (sym c.name_at.ensures) ∙ sym c.is_oid.ensures ∙ not-false _ c.if-not-is_oid.false-raw in
    sym (community_stops (drop a.p s) _ _ (sym (ap (name_read s a.p) c.in_ok-e.was)
    ∙ c.name_stop.ensures) o)
