-- `image::anchor_section` meets its contract. Assumes nothing.
use Prim.Native.Nat.{◌+◌}
use native.Mathlib.Omega.{arith}
use mathlib.Core.Path.{sym, ap, ◌∙◌}
use borrow.Author.Tests.{not-true, not-false}
use Rattle.octets.specs.Limits.{max_anchors}
use Rattle.store.specs.Image.{read_anchor}
use Rattle.store.proofs.Formats.{apart}
use Rattle.image.specs.Contract.Check.{after, rest_at}
use Rattle.image.proofs.Checks.{section_over, section_broken, section_fails, section_holds, anchors_short, anchors-none, anchors-some, keys_read}
use Rattle.image.proofs.anchor_section.Goals as goal

pub returns-then-image-p : goal.returns-then-image-p
returns-then-image-p c =
    let a = c.args in
    let s = a.image.now in
    sym (ap after (anchors_short s a.p c.if-image-p.true))

pub returns-then-n-eq0 : goal.returns-then-n-eq0
returns-then-n-eq0 c =
    let a = c.args in
    let s = a.image.now in
    let n = c.octet_at-n.result in
    let count = c.octet_at-n.ensures.0 in
    let room = c.if-image-p.false in
    sym (ap after (anchors-none s a.p room n count c.if-n-eq0.true))

pub returns-then-n-gt-MAX_ANCHORS : goal.returns-then-n-gt-MAX_ANCHORS
returns-then-n-gt-MAX_ANCHORS c =
    let a = c.args in
    let s = a.image.now in
    let n = c.octet_at-n.result in
    let count = c.octet_at-n.ensures.0 in
    let room = c.if-image-p.false in
    sym (anchors-some s a.p room n count (omega arith) ∙ section_over read_anchor max_anchors apart s a.p room n count c.if-n-gt-MAX_ANCHORS.true)

pub returns-in_err-e : goal.returns-in_err-e
returns-in_err-e c =
    let a = c.args in
    let s = a.image.now in
    let n = c.octet_at-n.result in
    let count = c.octet_at-n.ensures.0 in
    let room = c.if-image-p.false in
    ap (rest_at s) c.from_residual.ensures ∙ sym
    (anchors-some s a.p room n count (omega arith)
    ∙ section_broken read_anchor max_anchors apart s a.p room n count c.if-n-gt-MAX_ANCHORS.false
    (sym (ap (rest_at s) c.in_err-e.was) ∙ c.anchors_stop.ensures))

pub returns-then-not-keys_differ : goal.returns-then-not-keys_differ
returns-then-not-keys_differ c =
    let a = c.args in
    let s = a.image.now in
    let n = c.octet_at-n.result in
    let count = c.octet_at-n.ensures.0 in
    let room = c.if-image-p.false in
    sym
    (anchors-some s a.p room n count (omega arith)
    ∙ section_fails read_anchor max_anchors apart s a.p room n count c.if-n-gt-MAX_ANCHORS.false _
    (sym (ap (rest_at s) c.in_ok-e.was) ∙ c.anchors_stop.ensures)
    (λ l r. keys_read s n (a.p + 1) l _ r ∙ sym c.keys_differ.ensures ∙ not-true _ c.if-not-keys_differ.true-raw))

pub returns : goal.returns
returns c =
    let a = c.args in
    let s = a.image.now in
    let n = c.octet_at-n.result in
    let count = c.octet_at-n.ensures.0 in
    let room = c.if-image-p.false in
    sym
    (anchors-some s a.p room n count (omega arith)
    ∙ section_holds read_anchor max_anchors apart s a.p room n count c.if-n-gt-MAX_ANCHORS.false _
    (sym (ap (rest_at s) c.in_ok-e.was) ∙ c.anchors_stop.ensures)
    (λ l r. keys_read s n (a.p + 1) l _ r ∙ sym c.keys_differ.ensures ∙ not-false _ c.if-not-keys_differ.false-raw))
