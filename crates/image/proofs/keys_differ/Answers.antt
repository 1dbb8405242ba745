use mathlib.Core.Logic.{inl, inr}
use Rattle.std.proofs.Common.{sym, ap, ◌∙◌, refl, map, length, drop, rules}
use Rattle.anchor.specs.Info.{public_key}
use Rattle.anchor.proofs.Flags.{marked_none, marked_on}
use Rattle.store.specs.Contract.Parts.{public_key_in}
use Rattle.store.proofs.Walk.{length-records}
use Rattle.image.specs.Contract.Check.{middle_of}
use Rattle.image.proofs.Flags.{passed_none, passed_repeats, passed_on, former_keys}
use Rattle.image.proofs.keys_differ.Goals.{else-seen-m-via-then-seen-m+else-recurs, else-seen-m-via-else-seen-m}
use Rattle.image.proofs.keys_differ.Goals as goal

pub loop-i-init-derived : goal.loop-i-init-derived
loop-i-init-derived c =
    let n = ap length c.new.ensures ∙ length-records c.args.n (drop c.args.p c.args.s.now) in
    search (n, rules)

pub loop-i-init : goal.loop-i-init
loop-i-init c = rw (c.into_iter-i-iterator.ensures.into_iter_gives, c.enumerate-i-items.ensures.source, c.enumerate-i-items.ensures.count) (passed_none (ap (map public_key_in) c.new.ensures) (marked_none _ _ refl))

pub returns-then-recurs : goal.returns-then-recurs
returns-then-recurs c =
    let h = c.loop-i.invariant in
    let s = c.in-Some.ensures.steps in
    let key = c.public_key-key.ensures ∙ ap public_key c.info_of.ensures in
    passed_repeats h (ap (map public_key_in) s.0) (c.recurs.ensures ∙ former_keys c.args.n (drop c.args.p c.args.s.now) key s.1 h) c.if-recurs.true

pub loop-i-preserved : goal.loop-i-preserved
loop-i-preserved c =
    let h = c.loop-i.invariant in
    let s = c.in-Some.ensures.steps in
    let key = c.public_key-key.ensures ∙ ap public_key c.info_of.ensures in
    passed_on h (ap (map public_key_in) s.0) s.2 (marked_on h.known (c.middle-m.ensures.0 ∙ ap middle_of key) c.middle-m.ensures.1
    (elim c.else-seen-m.branch [ else-seen-m-via-then-seen-m+else-recurs w ↦ inl (sym (former_keys c.args.n (drop c.args.p c.args.s.now) key s.1 h) ∙ sym w.recurs.ensures ∙ w.if-recurs.false) | else-seen-m-via-else-seen-m w ↦ inr w.if-seen-m.false ]))
