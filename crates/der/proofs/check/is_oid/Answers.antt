use Prim.Native.Nat.{ℕ, ◌+◌, ◌-◌}
use native.Mathlib.Omega.{arith}
use mathlib.Core.Path.{◌≡◌, refl, sym, ap, ◌∙◌}
use lib.ListN.{length, drop}
use Rattle.der.specs.Contents.{arcs_ok}
use Rattle.der.specs.Contract.Reading.{arc_begins}
use Rattle.der.proofs.Leaves.{oid-none, oid-arcs, arcs_end, arcs_padded, arcs_turn, arcs_broken}
use Rattle.der.proofs.check.is_oid.Goals as goal

pub loop-i-init : goal.loop-i-init
loop-i-init c = let o = c.args.o.now in (omega arith, arcs_end o (length o) c.if-o-eq0.false refl)

pub returns-then-is_padding : goal.returns-then-is_padding
returns-then-is_padding c =
    let o = c.args.o.now in
    let l = c.loop-i in
    let p = sym c.is_padding.ensures ∙ c.if-is_padding.true in
    sym (arcs_broken o c.if-o-eq0.false (l.i - 1) (omega arith) (arcs_padded o (l.i - 1) (omega arith) p))

pub loop-i-preserved : goal.loop-i-preserved
loop-i-preserved c =
    let o = c.args.o.now in
    let l = c.loop-i in
    let p = sym c.is_padding.ensures ∙ c.if-is_padding.false in
    let q : l.i - 1 + 1 ≡ l.i = omega arith in
    (omega arith, arcs_turn o (l.i - 1) (omega arith) p ∙ ap (λ (k : ℕ). arcs_ok (arc_begins o k) (drop k o)) q ∙ l.invariant.1)

pub returns : goal.returns
returns c =
    let o = c.args.o.now in
    let l = c.loop-i in
    let z : l.i ≡ 0 = omega arith in
    sym (oid-arcs o c.if-o-eq0.false ∙ ap (λ (k : ℕ). arcs_ok (arc_begins o k) (drop k o)) (sym z) ∙ l.invariant.1)

pub returns-then-o-eq0 : goal.returns-then-o-eq0
returns-then-o-eq0 c = sym (oid-none _ c.if-o-eq0.true)
