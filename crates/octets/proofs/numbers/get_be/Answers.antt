use Rattle.std.proofs.Common.{refl, ap, ◌∙◌, drop, length-take, arith}
use lib.Seq.{take_all}
use Rattle.octets.specs.Number.{number, number_from}
use Rattle.octets.proofs.Number.{number_turn, one_more, in_wider}
use Rattle.octets.proofs.Parts.{slice-n}
use Rattle.octets.proofs.numbers.get_be.Goals as goal

pub loop-x-init : goal.loop-x-init
unfolding number_from
loop-x-init c =
    let a = c.args in
    (rw (c.slice-part.ensures, length-take _ (drop a.at a.s.now)) (omega (arith, c.min.ensures, c.saturating_add.ensures)), refl, omega arith)

pub overflow_mul-n : goal.overflow_mul-n
overflow_mul-n c = let l = c.loop-x in omega (arith, in_wider l.n l.x-index 7 l.invariant.2 (omega arith))

pub overflow_add-n : goal.overflow_add-n
overflow_add-n c =
    let l = c.loop-x in
    omega (arith, in_wider l.n l.x-index 7 l.invariant.2 (omega arith), c.from.ensures, c.type_inv.part l.x-index)

pub loop-x-preserved : goal.loop-x-preserved
loop-x-preserved c =
    let l = c.loop-x in (
      l.invariant.0,
      rw (number_turn _ l.x-index c.loop-x-test.true, ← c.from.ensures, ← l.invariant.1) refl,
      one_more l.n c.from.result l.x-index l.invariant.2 (omega (arith, c.from.ensures, c.type_inv.part l.x-index)),
    )

pub returns : goal.returns
returns c =
    let a = c.args in
    let l = c.loop-x in
    let part = c.slice-part.ensures ∙ slice-n a.s.now a.at c.min.result _ _ c.saturating_add.ensures (omega arith) in (
      l.invariant.1 ∙ ap number (take_all l.x-index _ (omega arith) ∙ rw (← c.min.ensures) part),
      in_wider l.n l.x-index a.width l.invariant.2 (omega arith),
    )
