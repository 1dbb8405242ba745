use Rattle.std.proofs.Common.{◌≡◌, ◌+◌, ◌-◌, sym, arith}
use Rattle.octets.proofs.Compare.{same_lengths, same_differ, rest-none, rest_more, rest_all}
use Rattle.octets.proofs.strings.equal.Goals as goal

pub returns-then-a-b : goal.returns-then-a-b
returns-then-a-b c = sym (same_lengths _ _ c.if-a-b.true)

pub loop-i-init : goal.loop-i-init
loop-i-init c = rest-none c.args.a.now c.args.b.now c.if-a-b.false

pub returns-then-a-i : goal.returns-then-a-i
returns-then-a-i c = sym (same_differ _ _ _ c.if-a-i.true)

pub loop-i-preserved : goal.loop-i-preserved
loop-i-preserved c =
    let l = c.loop-i in
    let n : l.i ≡ l.i - 1 + 1 = omega arith in
    rest_more c.args.a.now c.args.b.now (l.i - 1) (omega arith) (omega arith) c.if-a-i.false (rw n at l.invariant)

pub returns : goal.returns
returns c =
    let l = c.loop-i in
    let z : l.i ≡ 0 = omega arith in
    sym (rest_all _ _ (rw z at l.invariant))
