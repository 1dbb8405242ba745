-- `image::name_stop` meets its contract. Assumes nothing.
use native.Mathlib.Omega.{arith}
use mathlib.Core.Path.{sym, ◌∙◌}
use lib.Dec.{lit<}
use Rattle.octets.specs.Limits.{max_name_octets}
use Rattle.store.proofs.Places.{number_one, sized_short, sized_cut, sized_outside}
use Rattle.image.proofs.Checks.{name_stops}
use Rattle.image.proofs.name_stop.Goals as goal

pub returns-then-s-p : goal.returns-then-s-p
returns-then-s-p c =
    let a = c.args in
    let s = a.s.now in
    sym (sized_short s a.p 1 max_name_octets (lit< tt) (omega arith))

pub returns-then-n-eq0 : goal.returns-then-n-eq0
returns-then-n-eq0 c =
    let a = c.args in
    let s = a.s.now in
    let n = c.octet_at-n.result in
    let room = c.if-s-p.false in
    let size = number_one s a.p room ∙ sym c.octet_at-n.ensures.0 in
    sym (sized_outside s a.p 1 max_name_octets n (omega arith) size (λ l m. omega arith))

pub returns-then-n-gt-MAX_NAME_OCTETS : goal.returns-then-n-gt-MAX_NAME_OCTETS
returns-then-n-gt-MAX_NAME_OCTETS c =
    let a = c.args in
    let s = a.s.now in
    let n = c.octet_at-n.result in
    let room = c.if-s-p.false in
    let size = number_one s a.p room ∙ sym c.octet_at-n.ensures.0 in
    sym (sized_outside s a.p 1 max_name_octets n (omega arith) size (λ l m. omega arith))

pub returns-then-s-p-2 : goal.returns-then-s-p-2
returns-then-s-p-2 c =
    let a = c.args in
    let s = a.s.now in
    let n = c.octet_at-n.result in
    let room = c.if-s-p.false in
    let size = number_one s a.p room ∙ sym c.octet_at-n.ensures.0 in
    sym (sized_cut s a.p 1 max_name_octets n (omega arith) size (omega arith))

pub returns : goal.returns
returns c =
    let a = c.args in
    let s = a.s.now in
    let o = c.octet_at-n in
    name_stops s a.p o.result (omega arith) o.ensures.0 (omega arith) (omega arith) (omega arith)
