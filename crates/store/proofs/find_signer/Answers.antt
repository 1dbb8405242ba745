use Rattle.std.specs.Prelude.{Err}
use Rattle.std.proofs.Common.{refl, sym, ap, ◌∙◌, length, arith}
use Rattle.std.specs.Option.{ok_or}
use Rattle.store.specs.Signer.{signer}
use Rattle.store.specs.Contract.Parts.{anchor_place, anchor_count}
use Rattle.store.proofs.Walk.{turn_none, turn_found, turn_unverified, turn_other, length-records_of}
use Rattle.store.proofs.find_signer.Goals.{in-None, in-Some+then-equal+then-is_verified}
use Rattle.store.proofs.find_signer.Goals as goal

pub loop-i-init : goal.loop-i-init
unfolding signer anchor_count
loop-i-init c =
    let s = c.args.image.now in
    let n = length-records_of s in
    rw (c.into_iter-i-iterator.ensures.into_iter_gives, c.enumerate-i-items.ensures.source, c.enumerate-i-items.ensures.count, c.of.ensures)
    (refl, omega (arith, n, c.type_inv.image (anchor_place s)), refl)

pub loop-i-preserved : goal.loop-i-preserved
loop-i-preserved c =
    let a = c.args in
    let l = c.loop-i in
    let s = c.in-Some.ensures.steps in (
      l.invariant.0,
      omega (arith, ap length s.0, s.2, l.invariant.1),
      sym (turn_other a.verdict.now a.wanted.now (Err l.missed) l.i-iterator.count s.0 s.1 c.identifier_of.ensures c.if-equal.ensures s.2) ∙ l.invariant.2,
    )

pub loop-i-preserved-then-equal : goal.loop-i-preserved-then-equal
loop-i-preserved-then-equal c =
    let a = c.args in
    let l = c.loop-i in
    let s = c.in-Some.ensures.steps in (
      l.invariant.0,
      omega (arith, ap length s.0, s.2, l.invariant.1),
      sym (turn_unverified a.verdict.now a.wanted.now (Err l.missed) l.i-iterator.count s.0 s.1 c.identifier_of.ensures c.if-equal.ensures c.if-is_verified.ensures s.2) ∙ l.invariant.2,
    )

pub returns : goal.returns
returns c =
    let a = c.args in
    let l = c.loop-i in
    elim c.match-next.branch [
      | in-None w ↦
          c.ok_or.ensures.value
          ∙ ap (λ o. ok_or o l.missed) (w.found-is ∙ l.invariant.0)
          ∙ sym (turn_none a.verdict.now a.wanted.now (Err l.missed) l.i-iterator.count w.in-None.ensures.steps.0.0)
          ∙ l.invariant.2
      | in-Some+then-equal+then-is_verified w ↦
          let s = w.in-Some.ensures.steps in
          c.ok_or.ensures.value
          ∙ ap (λ o. ok_or o l.missed) w.found-is
          ∙ sym (turn_found a.verdict.now a.wanted.now (Err l.missed) l.i-iterator.count s.0 s.1 w.identifier_of.ensures w.if-equal.ensures w.if-is_verified.ensures)
          ∙ l.invariant.2
    ]
