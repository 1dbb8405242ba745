-- `der::element_at` meets its contract. Each test that breaks leaves no header; where all hold there is one. Assumes nothing.
use native.Mathlib.Omega.{arith}
use mathlib.Core.Path.{sym, ◌∙◌}
use mathlib.Core.Bool.{true≢false}
use borrow.Author.Tests.{not-true, not-false}
use Rattle.der.proofs.Header.{Header, element-absent, element_is, beyond_ends, of_ends}
use Rattle.der.proofs.read.element_at.Goals as goal

pub returns-then-s-stop : goal.returns-then-s-stop
returns-then-s-stop c =
    let a = c.args in
    c.no_element.ensures ∙ sym (element-absent a.s.now a.at a.stop (λ h. omega arith))

pub returns-then-stop-at : goal.returns-then-stop-at
returns-then-stop-at c =
    let a = c.args in
    c.no_element-then-stop-at.ensures ∙ sym (element-absent a.s.now a.at a.stop (λ h. omega arith))

pub returns-then-stop-at-lt2 : goal.returns-then-stop-at-lt2
returns-then-stop-at-lt2 c =
    let a = c.args in
    c.no_element-then-stop-at-lt2.ensures ∙ sym (element-absent a.s.now a.at a.stop (λ h. omega arith))

pub returns-then-tag-eq31 : goal.returns-then-tag-eq31
returns-then-tag-eq31 c =
    let a = c.args in
    c.no_element-then-tag-eq31.ensures ∙ sym (element-absent a.s.now a.at a.stop (λ h. h.low_tag c.if-tag-eq31.true))

pub returns-in_default : goal.returns-in_default
returns-in_default c =
    let a = c.args in
    let l = beyond_ends a.s.now a.at a.stop (sym c.length_at.ensures ∙ c.in_default.is) in
    c.no_element-in_default.ensures ∙ sym (element-absent a.s.now a.at a.stop (λ h. omega arith))

pub is_shortest-requires : goal.is_shortest-requires
is_shortest-requires c =
    let a = c.args in
    let l = of_ends a.s.now a.at a.stop (sym c.length_at.ensures ∙ c.in-Some.is) in
    (omega arith, l.1.0)

pub returns-then-not-is_shortest : goal.returns-then-not-is_shortest
returns-then-not-is_shortest c =
    let a = c.args in
    let n = sym c.is_shortest.ensures ∙ not-true _ c.if-not-is_shortest.true-raw in
    c.no_element-then-not-is_shortest.ensures ∙ sym (element-absent a.s.now a.at a.stop (λ h. true≢false (sym h.shortest ∙ n)))

pub overflow_add-result : goal.overflow_add-result
overflow_add-result c =
    let a = c.args in
    let l = of_ends a.s.now a.at a.stop (sym c.length_at.ensures ∙ c.in-Some.is) in
    omega arith

pub returns : goal.returns
returns c =
    let a = c.args in
    let l = of_ends a.s.now a.at a.stop (sym c.length_at.ensures ∙ c.in-Some.is) in
    let h : Header a.s.now a.at a.stop =
    record {
      within = omega arith;
      room = omega arith;
      low_tag = c.if-tag-eq31.false;
      begins = omega arith;
      shortest = sym c.is_shortest.ensures ∙ not-false _ c.if-not-is_shortest.false-raw;
      ends = omega arith;
    }
    in
    rw (l.0, l.1.0) (sym (element_is a.s.now a.at a.stop h))
