use Rattle.std.proofs.Common.{ap, refl, ◌∙◌, length, drop, rules}
use Rattle.store.proofs.Walk.{length-records}
use Rattle.listing.specs.Contract.Texts.{record_line, record_lines}
use Rattle.listing.proofs.Texts.{part, whole, lines_turn, lines_end}
use Rattle.octets.proofs.Turns.{left_start, left_fits, left_step, left_end}
use Rattle.listing.proofs.Text.put_records.Goals as goal

pub loop-i-init-derived : goal.loop-i-init-derived
loop-i-init-derived c =
    let n = ap length c.new.ensures ∙ length-records c.args.n (drop c.args.p c.args.image.now) in
    search (n, rules)

pub loop-i-init : goal.loop-i-init
unfolding record_lines
loop-i-init c =
    rw (c.into_iter-i-iterator.ensures.into_iter_gives, c.enumerate-i-items.ensures.source, c.enumerate-i-items.ensures.count, c.new.ensures) (refl, left_start _ _ _)

pub put_record-requires : goal.put_record-requires
put_record-requires c =
    let t = c.args.self.now in
    let s = c.in-Some.ensures.steps in
    left_fits t.buf.now t.at _ c.requires c.loop-i.invariant.1 (record_line c.in-Some.i c.in-Some.record.now) _ (lines_turn c.loop-i.i-iterator.count s.0 s.1 s.2)

pub loop-i-preserved : goal.loop-i-preserved
loop-i-preserved c =
    let t = c.args.self.now in
    let s = c.in-Some.ensures.steps in
    let w = c.put_record.ensures in
    (w.same_reference ∙ c.loop-i.invariant.0, left_step t.buf.now t.at _ c.requires c.loop-i.invariant.1 (record_line c.in-Some.i c.in-Some.record.now) _ (lines_turn c.loop-i.i-iterator.count s.0 s.1 s.2) (part w.written))

pub returns-clause-written : goal.returns-clause-written
returns-clause-written c =
    let t = c.args.self.now in
    let l = c.loop-i in
    whole t.buf.now t.at _ c.requires (left_end t.buf.now t.at _ l.self.buf.now l.self.at (rw (lines_end l.i-iterator.count c.in-None.ensures.steps.0.0) at l.invariant.1))
