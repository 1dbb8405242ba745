use Rattle.apply.proofs.Removes.{remove_none, remove_apex, remove_outside, remove_cuttable, remove_cuts}
use borrow.Author.Tests.{not-true, not-false}
use native.Mathlib.Omega.{arith}
use Rattle.apply.proofs.update.remove.Goals as goal

pub returns-in_default : goal.returns-in_default
returns-in_default c = remove_none _ _ _ _ (rw c.image.ensures at c.find_anchor.ensures) c.in_default.is

pub returns-then-p-eq0 : goal.returns-then-p-eq0
returns-then-p-eq0 c = remove_apex _ _ _ _ (rw c.image.ensures at c.find_anchor.ensures) c.in-Some.is c.if-p-eq0.true

pub returns-then-not-is_within_signer : goal.returns-then-not-is_within_signer
returns-then-not-is_within_signer c =
    remove_outside _ _ _ _ (rw c.image.ensures at c.find_anchor.ensures) c.in-Some.is c.if-p-eq0.false (rw c.image-2.ensures at c.info_at.ensures) c.is_within_signer.ensures (not-true _ c.if-not-is_within_signer.true-raw)

pub remove_anchor-requires : goal.remove_anchor-requires
remove_anchor-requires c =
    remove_cuttable _ _ _ _ (rw c.image.ensures at c.find_anchor.ensures) c.in-Some.is c.if-p-eq0.false (rw c.image-2.ensures at c.info_at.ensures) c.is_within_signer.ensures (not-false _ c.if-not-is_within_signer.false-raw) c.requires

pub returns-then-p-work : goal.returns-then-p-work
returns-then-p-work c =
    let k = c.remove_anchor.ensures.former in
    remove_cuts _ _ _ _ (rw c.image.ensures at c.find_anchor.ensures) c.in-Some.is c.if-p-eq0.false (rw c.image-2.ensures at c.info_at.ensures) c.is_within_signer.ensures (not-false _ c.if-not-is_within_signer.false-raw)
    (λ h. omega arith, λ h. absurd (omega arith)) c.remove_anchor.ensures.removes

pub returns-else-p-work : goal.returns-else-p-work
returns-else-p-work c =
    let k = c.remove_anchor.ensures.former in
    remove_cuts _ _ _ _ (rw c.image.ensures at c.find_anchor.ensures) c.in-Some.is c.if-p-eq0.false (rw c.image-2.ensures at c.info_at.ensures) c.is_within_signer.ensures (not-false _ c.if-not-is_within_signer.false-raw)
    (λ h. absurd (omega (arith, k)), λ h. k) c.remove_anchor.ensures.removes
