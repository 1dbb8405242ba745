use native.Mathlib.Omega.{arith}
use mathlib.Core.Bool.{false, true≢false}
use mathlib.Core.Logic.{⊎_elim}
use Prim.Native.Nat.{◌<◌}
use mathlib.Core.Path.{◌≡◌, sym, ap, ◌∙◌}
use Rattle.octets.specs.Octets.{octet}
use Rattle.der.specs.Contract.Reading.{length_in}
use Rattle.der.proofs.Header.{read_digit, read_count, read_none, read_beyond, read_all, length_beyond, length_of}
use Rattle.der.proofs.read.length_at.Reads as reads
use Rattle.der.proofs.read.length_at.Goals.{then-x-lt128+else-stop-start, else-x-lt128+else-stop-start-2}
use Rattle.der.proofs.read.length_at.Goals as goal

pub returns-then-stop-start : goal.returns-then-stop-start
returns-then-stop-start c =
    sym (length_beyond _ _ _ (read_beyond _ _ _ c.requires.1 c.loop-i.invariant c.loop-i-test.true c.if-stop-start.true))

pub overflow_add-n : goal.overflow_add-n
overflow_add-n c = omega (arith, c.from-x.ensures, c.shared_slice_known-in-loop-i-1.given c.loop-i.i)

pub returns-then-stop-start-2 : goal.returns-then-stop-start-2
returns-then-stop-start-2 c =
    let z = c.loop-i.invariant.none c.if-x-lt128.false.0 in
    let x = ap (octet c.args.s.now) (sym z.0) ∙ sym c.from-x.ensures in
    sym (length_beyond c.args.s.now c.args.at c.args.stop (omega (arith, x, z.1.0)))

pub returns-then-stop-start-3 : goal.returns-then-stop-start-3
returns-then-stop-start-3 c =
    let a = read_all c.args.s.now c.args.at c.args.stop c.requires.1 c.loop-i.invariant c.loop-i-test.false in
    sym (length_beyond _ _ _ (omega (arith, a.0, a.1)))

pub returns : goal.returns
returns c =
    let a = read_all c.args.s.now c.args.at c.args.stop c.requires.1 c.loop-i.invariant c.loop-i-test.false in
    rw (a.0, a.1) (sym (length_of _ _ _ (omega (arith, a.0, a.1))))

promise : (κs : _) (a : _) (r : _) (e : _) → reads.Post κs a r e → r ≡ length_in a.0.now a.1.0 a.1.1.0
promise κs a r e p = p

pub loop-i-init : goal.loop-i-init
loop-i-init c = read_none _ _ _ c.requires.0

pub overflow_sub-x : goal.overflow_sub-x
overflow_sub-x c = c.if-x-lt128.false.1

pub overflow_sub-start : goal.overflow_sub-start
overflow_sub-start c = c.if-x-lt128.false.1

pub loop-i-preserved : goal.loop-i-preserved
loop-i-preserved c =
    let l = c.loop-i in
    let x = c.from-x.ensures in
    elim c.if-x-lt128.branch [
      | then-x-lt128+else-stop-start w ↦
          let short : l.later ≡ false → octet c.args.s.now l.i < 128 = λ f.
          omega (arith, x, ⊎_elim (λ u. absurd (true≢false (sym u ∙ f))) (λ u. u.1) w.if-x-lt128.either) in
          rw (w.start-is, w.n-is, x) (read_digit _ _ _ c.requires.1 l.invariant short c.loop-i-test.true)
      | else-x-lt128+else-stop-start-2 w ↦
          let z = l.invariant.none w.if-x-lt128.false.0 in
          read_count _ _ c.args.stop z.0 (w.n-is ∙ z.1.1) (omega (arith, x, w.if-x-lt128.false.1)) (omega (arith, x, w.start-is, z.1.0)) (omega (arith, w.start-is, w.if-stop-start-2.false))
    ]
