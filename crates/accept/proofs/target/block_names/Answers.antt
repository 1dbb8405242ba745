-- `accept::target::block_names` meets its contract. Assumes nothing.
use Rattle.std.proofs.Common.{arith, rules}
use Rattle.octets.specs.Octets.{Octets}
use Rattle.accept.proofs.Blocks.{block_ordered}
use Rattle.accept.proofs.target.block_names.Goals as goal

pub returns-then-in_order : goal.returns-then-in_order
returns-then-in_order c =
    let a = c.args in
    let o : Octets a.serial.now = λ i. omega (arith, c.type_inv.serial i) in
    let p : Octets a.low.now = λ i. omega (arith, c.type_inv.low i) in
    let q : Octets a.high.now = λ i. omega (arith, c.type_inv.high i) in
    let e = block_ordered a.serial.now a.low.now a.high.now o p q in
    search (e, rules)

pub returns-else-in_order : goal.returns-else-in_order
returns-else-in_order c =
    let a = c.args in
    let o : Octets a.serial.now = λ i. omega (arith, c.type_inv.serial i) in
    let p : Octets a.low.now = λ i. omega (arith, c.type_inv.low i) in
    let q : Octets a.high.now = λ i. omega (arith, c.type_inv.high i) in
    let e = block_ordered a.serial.now a.low.now a.high.now o p q in
    search (e, rules)
