use Rattle.apply.proofs.Adds.{add_judged, add_outside, add_same, add_key, add_full, add_grows, add_appends}
use borrow.Author.Tests.{not-true, not-false}
use mathlib.Core.Path.{sym, ◌∙◌}
use Rattle.apply.proofs.update.add.Goals as goal

pub returns-in_err-judge : goal.returns-in_err-judge
returns-in_err-judge c = add_judged _ _ _ _ _ (sym c.judge.ensures ∙ c.in_err-judge.was) c.from_residual.ensures.1

pub returns-then-not-is_within_signer : goal.returns-then-not-is_within_signer
returns-then-not-is_within_signer c = add_outside _ _ _ _ (sym c.judge.ensures ∙ c.in_ok-judge.was) c.is_within_signer.ensures (not-true _ c.if-not-is_within_signer.true-raw)

pub returns-then-equal : goal.returns-then-equal
returns-then-equal c =
    add_same _ _ _ _ (sym c.judge.ensures ∙ c.in_ok-judge.was) c.is_within_signer.ensures (not-false _ c.if-not-is_within_signer.false-raw) c.public_key.ensures (rw c.image.ensures at c.find_anchor.ensures) c.in-Some.is
    (rw c.image-in-Some.ensures at c.info_at.ensures) c.equal.ensures c.if-equal.true

pub returns-in-Some : goal.returns-in-Some
returns-in-Some c =
    add_key _ _ _ _ (sym c.judge.ensures ∙ c.in_ok-judge.was) c.is_within_signer.ensures (not-false _ c.if-not-is_within_signer.false-raw) c.public_key.ensures (rw c.image.ensures at c.find_anchor.ensures) c.in-Some.is
    (rw c.image-in-Some.ensures at c.info_at.ensures) c.equal.ensures c.if-equal.false

pub returns-then-is_full : goal.returns-then-is_full
returns-then-is_full c =
    add_full _ _ _ _ (sym c.judge.ensures ∙ c.in_ok-judge.was) c.is_within_signer.ensures (not-false _ c.if-not-is_within_signer.false-raw) c.public_key.ensures (rw c.image.ensures at c.find_anchor.ensures) c.in_default.is
    (rw c.image-2.ensures at c.anchor_count-is_full.ensures) c.if-is_full.true

pub append-requires : goal.append-requires
append-requires c =
    add_grows _ _ _ _ (sym c.judge.ensures ∙ c.in_ok-judge.was) c.is_within_signer.ensures (not-false _ c.if-not-is_within_signer.false-raw) c.public_key.ensures (rw c.image.ensures at c.find_anchor.ensures) c.in_default.is
    (rw c.image-2.ensures at c.anchor_count-is_full.ensures) c.if-is_full.false c.requires.1 c.requires.0

pub returns : goal.returns
returns c =
    rw c.append.ensures.former
    (add_appends _ _ _ _ (sym c.judge.ensures ∙ c.in_ok-judge.was) c.is_within_signer.ensures (not-false _ c.if-not-is_within_signer.false-raw) c.public_key.ensures (rw c.image.ensures at c.find_anchor.ensures)
    c.in_default.is (rw c.image-2.ensures at c.anchor_count-is_full.ensures) c.if-is_full.false c.requires.1 c.append.ensures.appends)
