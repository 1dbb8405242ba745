-- `image::sections` meets its contract. Assumes nothing.
use mathlib.Core.Path.{sym, ap, ◌∙◌}
use Rattle.image.specs.Contract.Check.{rest_at}
use Rattle.image.proofs.Checks.{store_no_device, store_no_anchors, store_after}
use Rattle.image.proofs.sections.Goals as goal

pub returns-in_err-p : goal.returns-in_err-p
returns-in_err-p c =
    let s = c.args.image.now in
    ap (rest_at s) c.from_residual.ensures ∙ sym (store_no_device s (sym (ap (rest_at s) c.in_err-p.was) ∙ c.device_section.ensures))

pub returns-in_err-q : goal.returns-in_err-q
returns-in_err-q c =
    let s = c.args.image.now in
    let p = sym (ap (rest_at s) c.in_ok-p.was) ∙ c.device_section.ensures in
    ap (rest_at s) c.from_residual-in_err-q.ensures ∙ sym (store_no_anchors s _ p (sym (ap (rest_at s) c.in_err-q.was) ∙ c.anchor_section.ensures))

pub returns : goal.returns
returns c =
    let s = c.args.image.now in
    let p = sym (ap (rest_at s) c.in_ok-p.was) ∙ c.device_section.ensures in
    c.community_section.ensures ∙ sym (store_after s _ p _ (sym (ap (rest_at s) c.in_ok-q.was) ∙ c.anchor_section.ensures))
