use Rattle.std.proofs.Common.{refl, sym, ap, ◌∙◌, length, drop, rules}
use Rattle.octets.proofs.Lists.{distinct_none}
use Rattle.repeats.proofs.Keys.{distinct_more}
use Rattle.store.proofs.Walk.{length-names}
use Rattle.image.proofs.Flags.{passed_none, passed_repeats, passed_on, former_names}
use Rattle.image.proofs.names_differ.Goals as goal

pub loop-i-init-derived : goal.loop-i-init-derived
loop-i-init-derived c =
    let n = ap length c.new.ensures ∙ length-names c.args.n (drop c.args.p c.args.s.now) in
    search (n, rules)

pub loop-i-init : goal.loop-i-init
loop-i-init c = rw (c.into_iter-i-iterator.ensures.into_iter_gives, c.enumerate-i-items.ensures.source, c.enumerate-i-items.ensures.count) (passed_none c.new.ensures distinct_none)

pub returns-then-has_name : goal.returns-then-has_name
returns-then-has_name c =
    let h = c.loop-i.invariant in
    let s = c.in-Some.ensures.steps in
    passed_repeats h s.0 (c.has_name.ensures ∙ former_names c.args.n (drop c.args.p c.args.s.now) refl s.1 h) c.if-has_name.true

pub loop-i-preserved : goal.loop-i-preserved
loop-i-preserved c =
    let h = c.loop-i.invariant in
    let s = c.in-Some.ensures.steps in
    passed_on h s.0 s.2 (distinct_more _ _ h.known (sym (former_names c.args.n (drop c.args.p c.args.s.now) refl s.1 h) ∙ sym c.has_name.ensures ∙ c.if-has_name.false))
