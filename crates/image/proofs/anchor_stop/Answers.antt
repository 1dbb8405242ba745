-- `image::anchor_stop` meets its contract. Assumes nothing.
use Prim.Native.Nat.{ℕ, ◌+◌, ◌-◌}
use native.Mathlib.Omega.{arith}
use mathlib.Core.Path.{◌≡◌, sym, ap, ◌∙◌}
use lib.ListN.{take, drop}
use borrow.Author.Tests.{not-true, not-false}
use Rattle.octets.specs.Octets.{octet}
use Rattle.anchor.specs.Judge.{storable}
use Rattle.store.specs.Image.{number_ok}
use Rattle.store.proofs.Places.{anchor_short, anchor_cut, anchor_outside}
use Rattle.image.specs.Contract.Check.{after}
use Rattle.image.proofs.Checks.{anchor_number, anchor_info, anchor_stops}
use Rattle.image.proofs.anchor_stop.Goals as goal

pub returns-then-s-p : goal.returns-then-s-p
returns-then-s-p c =
    let a = c.args in
    let s = a.s.now in
    sym (ap after (anchor_short s a.p (omega arith)))

pub returns-then-s-p-lt11 : goal.returns-then-s-p-lt11
returns-then-s-p-lt11 c =
    let a = c.args in
    let s = a.s.now in
    sym (ap after (anchor_short s a.p (omega arith)))

pub returns-then-n-eq0 : goal.returns-then-n-eq0
returns-then-n-eq0 c =
    let a = c.args in
    let s = a.s.now in
    let n = c.get_be-n.result in
    let size = c.get_be-n.ensures.0 in
    sym (ap after (anchor_outside s a.p n (omega arith) (sym size) (λ l m. omega arith)))

pub returns-then-n-gt-MAX_ANCHOR_OCTETS : goal.returns-then-n-gt-MAX_ANCHOR_OCTETS
returns-then-n-gt-MAX_ANCHOR_OCTETS c =
    let a = c.args in
    let s = a.s.now in
    let n = c.get_be-n.result in
    let size = c.get_be-n.ensures.0 in
    sym (ap after (anchor_outside s a.p n (omega arith) (sym size) (λ l m. omega arith)))

pub returns-then-s-p-2 : goal.returns-then-s-p-2
returns-then-s-p-2 c =
    let a = c.args in
    let s = a.s.now in
    let n = c.get_be-n.result in
    let size = c.get_be-n.ensures.0 in
    sym (ap after (anchor_cut s a.p n (omega arith) (sym size) (omega arith)))

pub returns-then-not-is_number : goal.returns-then-not-is_number
returns-then-not-is_number c =
    let a = c.args in
    let s = a.s.now in
    let n = c.get_be-n.result in
    let size = c.get_be-n.ensures.0 in
    let num = ap (number_ok (octet s a.p)) (sym c.get_be.ensures.0) ∙ sym c.is_number.ensures
    ∙ not-true _ c.if-not-is_number.true-raw in
    sym (ap after (anchor_number s a.p n (omega arith) size (omega arith) (omega arith) (omega arith) num))

pub returns-then-not-is_storable : goal.returns-then-not-is_storable
returns-then-not-is_storable c =
    let a = c.args in
    let s = a.s.now in
    let n = c.get_be-n.result in
    let size = c.get_be-n.ensures.0 in
    let num = ap (number_ok (octet s a.p)) (sym c.get_be.ensures.0)
    ∙ sym c.is_number.ensures ∙ not-false _ c.if-not-is_number.false-raw in
    let z : n ≡ a.p + 11 + n - (a.p + 11) = omega arith in
    let info = ap (λ (k : ℕ). storable (take k (drop (a.p + 11) s))) z ∙ sym c.is_storable.ensures ∙ not-true _ c.if-not-is_storable.true-raw in
    sym (ap after (anchor_info s a.p n (omega arith) size (omega arith) (omega arith) (omega arith) num info))

pub returns : goal.returns
returns c =
    let a = c.args in
    let s = a.s.now in
    let n = c.get_be-n.result in
    let size = c.get_be-n.ensures.0 in
    let num = ap (number_ok (octet s a.p)) (sym c.get_be.ensures.0)
    ∙ sym c.is_number.ensures ∙ not-false _ c.if-not-is_number.false-raw in
    let z : n ≡ a.p + 11 + n - (a.p + 11) = omega arith in
    let info = ap (λ (k : ℕ). storable (take k (drop (a.p + 11) s))) z ∙ sym c.is_storable.ensures ∙ not-false _ c.if-not-is_storable.false-raw in
    sym (anchor_stops s a.p n (omega arith) size (omega arith) (omega arith) (omega arith) num info)
