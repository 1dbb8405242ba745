use Rattle.std.proofs.Common.{◌≡◌, ◌+◌, drop, get_or, add-one, add-zero, length-drop, refl, sym, ap, ◌∙◌, arith}
use lib.ListN.{drop_of_length-le}
use lib.Seq.{drop-cons}
use Rattle.octets.specs.Octets.{placed}
use Rattle.octets.proofs.Placed.{placed-nil, placed-cons}
use Rattle.octets.proofs.strings.copy_to.Goals as goal

pub loop-i-init : goal.loop-i-init
loop-i-init c = let a = c.args in rw (add-zero a.at) refl

pub loop-i-preserved : goal.loop-i-preserved
loop-i-preserved c =
    let a = c.args in
    let l = c.loop-i in
    let e : a.at + (l.i + 1) ≡ a.at + l.i + 1 = omega arith in
    let rest = drop (l.i + 1) a.src.now in
    let room = length-drop (l.i + 1) a.src.now in
    rw e (placed-cons l.dst (a.at + l.i) (get_or a.src.now l.i 0) rest (omega arith))
    ∙ ap (placed l.dst (a.at + l.i)) (sym (rw (← add-one l.i) at (drop-cons a.src.now l.i 0 c.loop-i-test.true)))
    ∙ l.invariant

pub returns : goal.returns
returns c =
    let l = c.loop-i in
    sym (placed-nil l.dst (c.args.at + l.i)) ∙ rw (drop_of_length-le c.args.src.now c.loop-i-test.false) at l.invariant
