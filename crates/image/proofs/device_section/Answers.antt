-- `image::device_section` meets its contract. Assumes nothing.
use mathlib.Core.Path.{sym, ap, ◌∙◌}
use borrow.Author.Tests.{not-true, not-false}
use Rattle.der.specs.Contents.{oid_ok}
use Rattle.image.specs.Contract.Check.{after, rest_at, name_read}
use Rattle.image.proofs.Checks.{device_count, device_hw_type, device_serial, device_oid, device_stops}
use Rattle.image.proofs.device_section.Goals as goal

pub returns-then-octet_at-ne1 : goal.returns-then-octet_at-ne1
returns-then-octet_at-ne1 c =
    let a = c.args in
    let s = a.image.now in
    sym (ap after (device_count s (λ e. c.if-octet_at-ne1.true (c.octet_at.ensures.0 ∙ e))))

pub returns-in_err-p : goal.returns-in_err-p
returns-in_err-p c =
    let a = c.args in
    let s = a.image.now in
    let one = sym c.octet_at.ensures.0 ∙ c.if-octet_at-ne1.false in
    ap (rest_at s) c.from_residual.ensures ∙ sym (ap after (device_hw_type s one (sym (ap (name_read s 1) c.in_err-p.was) ∙ c.name_stop.ensures)))

pub returns-in_err-q : goal.returns-in_err-q
returns-in_err-q c =
    let a = c.args in
    let s = a.image.now in
    let one = sym c.octet_at.ensures.0
    ∙ c.if-octet_at-ne1.false in
    let p = c.in_ok-p.p in
    ap (rest_at s) c.from_residual-in_err-q.ensures ∙ sym
    (ap after
    (device_serial s one _ _
    (sym (ap (name_read s 1) c.in_ok-p.was) ∙ c.name_stop.ensures)
    (sym (ap (name_read s p) c.in_err-q.was) ∙ c.name_stop-2.ensures)))

pub returns-then-not-is_oid : goal.returns-then-not-is_oid
returns-then-not-is_oid c =
    let a = c.args in
    let s = a.image.now in
    let one = sym c.octet_at.ensures.0
    ∙ c.if-octet_at-ne1.false in
    let p = c.in_ok-p.p in
    let o = ap oid_ok (sym c.name_at.ensures) ∙ sym c.is_oid.ensures ∙ not-true _ c.if-not-is_oid.true-raw in
    sym
    (ap after
    (device_oid s one _ _
    (sym (ap (name_read s 1) c.in_ok-p.was)
    ∙ c.name_stop.ensures) _ _
    (sym (ap (name_read s p) c.in_ok-q.was)
    ∙ c.name_stop-2.ensures)
    o))

pub returns : goal.returns
returns c =
    let a = c.args in
    let s = a.image.now in
    let one = sym c.octet_at.ensures.0
    ∙ c.if-octet_at-ne1.false in
    let p = c.in_ok-p.p in
    let o = ap oid_ok (sym c.name_at.ensures) ∙ sym c.is_oid.ensures ∙ not-false _ c.if-not-is_oid.false-raw in
    sym
    (device_stops s one _ _
    (sym (ap (name_read s 1) c.in_ok-p.was)
    ∙ c.name_stop.ensures) _ _
    (sym (ap (name_read s p) c.in_ok-q.was)
    ∙ c.name_stop-2.ensures)
    o)
