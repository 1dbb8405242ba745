use Rattle.std.proofs.Common.{◌≡◌, ◌+◌, ◌-◌, suc, sym, ap, ◌∙◌, arith}
use Rattle.octets.specs.Number.{big_endian}
use Rattle.octets.proofs.Number.{length-big_endian}
use Rattle.octets.proofs.Placed.{placed-nil, placed_last}
use Rattle.octets.proofs.numbers.put_be.Goals as goal

pub loop-j-preserved : goal.loop-j-preserved
unfolding big_endian
loop-j-preserved c =
    let a = c.args in
    let l = c.loop-j in
    let i = l.j - 1 in
    let e : l.j ≡ suc i = omega arith in
    placed_last l.dst a.at (big_endian i _) _ (a.at + i) (ap (λ n. a.at + n) (length-big_endian i _)) (omega arith) ∙ (rw e at l.invariant)

pub returns : goal.returns
unfolding big_endian
returns c =
    let l = c.loop-j in
    let z : l.j ≡ 0 = omega arith in
    sym (placed-nil l.dst c.args.at) ∙ (rw z at l.invariant)
