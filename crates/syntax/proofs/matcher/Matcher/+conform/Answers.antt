use Rattle.std.proofs.Common.{rules, ◌≡◌, sym, ◌∙◌, ap, ◌<◌, not, false, List, ◌∷◌, ℕ}
use native.Mathlib.Omega.{arith}
use Rattle.der.specs.declared.Element.{Element}
use Rattle.der.specs.Element.{element_at}
use Rattle.der.specs.Fit.{kept}
use borrow.Author.Tests.{not-true, not-false}
use Rattle.syntax.proofs.Each.{Every}
use Rattle.syntax.proofs.Match.{Met}
use Rattle.syntax.proofs.Window.{Member, members}
use Rattle.syntax.proofs.Whole.{conforms_many, conform_end, conform_bad, conform_goes, by_run, whole_free, whole_end, whole_many, whole_rule, conforms_on, conforms-not}
use Rattle.syntax.proofs.Whole.{whole_none, whole_broken, whole_any, whole_one, whole_other, whole_here}
use Rattle.syntax.proofs.matcher.Matcher.+conform.Goals.{conform_each-then-not-e-via-then-not-e, conform_each-then-not-e-via-else-not-e+then-not-conform_row}
use Rattle.syntax.proofs.matcher.Matcher.+conform.Goals.{conform_field-in-AnyOptional, conform_field-in-One, conform_field-in-Optional+else-e-tag}
use Rattle.syntax.proofs.matcher.Matcher.+conform.Goals as goal

-- where an element of a field has been read
field_met : {s : List ℕ} {at stop : ℕ} {e : Element} → e ≡ element_at s at stop → at < stop → not e.valid ≡ false → Met s at stop e
field_met i r v = record { is = i; room = r; valid = not-false _ v }

pub conform_each-loop-e-init : goal.conform_each-loop-e-init
conform_each-loop-e-init t c =
    let a = c.args in
    rw (c.into_iter-e-iterator.ensures.into_iter_gives, c.new-e-items.ensures) (members a.self.now.octets.now a.at a.stop, λ outer. conforms_many _ _ _ outer _ _)

pub conform_each-returns-then-not-e : goal.conform_each-returns-then-not-e
conform_each-returns-then-not-e t c outer =
    let a = c.args in
    let q = c.in-Some.ensures.steps in
    let k : Every (Member a.self.now.octets.now a.at a.stop) (c.in-Some.e ∷ c.next.new.self) = rw q at c.loop-e.invariant.0 in
    sym
    (c.loop-e.invariant.1 outer
    ∙ elim c.then-not-e.branch [
      | conform_each-then-not-e-via-then-not-e w ↦ conform_bad _ _ _ outer q (not-true _ w.if-not-e.true)
      | conform_each-then-not-e-via-else-not-e+then-not-conform_row w ↦
          let v = not-false _ w.if-not-e.false in
          conform_goes _ _ _ outer q (k.0.own v).is v (sym (not-true _ w.if-not-conform_row.true-raw) ∙ w.conform_row.ensures outer)
    ])

pub conform_each-loop-e-preserved : goal.conform_each-loop-e-preserved
conform_each-loop-e-preserved t c =
    let a = c.args in
    let q = c.in-Some.ensures.steps in
    let k : Every (Member a.self.now.octets.now a.at a.stop) (c.in-Some.e ∷ c.next.new.self) = rw q at c.loop-e.invariant.0 in
    let v = not-false _ c.if-not-e.false in
    (k.1, λ outer. c.loop-e.invariant.1 outer ∙ conform_goes _ _ _ outer q (k.0.own v).is v (sym (not-false _ c.if-not-conform_row.false-raw) ∙ c.conform_row.ensures outer))

pub conform_each-returns : goal.conform_each-returns
conform_each-returns t c outer = sym (c.loop-e.invariant.1 outer ∙ conform_end _ _ _ outer c.in-None.ensures.steps.0)

pub conform_element-returns-then-is_entered : goal.conform_element-returns-then-is_entered
conform_element-returns-then-is_entered t c v =
    by_run _ _ _ _ v c.args.n (sym c.is_entered.ensures ∙ c.if-is_entered.true) (c.conform_row.ensures c.args.e.at)

pub conform_field-returns-then-stop-at : goal.conform_field-returns-then-stop-at
conform_field-returns-then-stop-at t c outer next = whole_none _ _ next _ _ _ _ outer _ c.left_out.ensures c.if-stop-at.true

pub conform_field-returns-then-not-e : goal.conform_field-returns-then-not-e
conform_field-returns-then-not-e t c outer next = whole_broken _ _ next _ _ _ _ outer _ c.element_at-e.ensures c.if-stop-at.false (not-true _ c.if-not-e.true)

pub conform_field-returns-then-e-tag : goal.conform_field-returns-then-e-tag
conform_field-returns-then-e-tag t c outer next =
    whole_other _ _ next _ _ _ _ outer _ (field_met c.element_at-e.ensures c.if-stop-at.false c.if-not-e.false) c.in-Optional.is c.left_out-then-e-tag.ensures c.if-e-tag.true

pub conform_field-returns : goal.conform_field-returns
conform_field-returns t c outer next =
    let m = field_met c.element_at-e.ensures c.if-stop-at.false c.if-not-e.false in
    elim c.match-kind.branch [
      | conform_field-in-AnyOptional w ↦
          let k : w.is_ok-ok.result ≡ kept w.check_element.result = search rules in
          whole_any _ _ next _ _ _ _ outer _ m w.in-AnyOptional.is (w.ok-is ∙ k ∙ ap kept w.check_element.ensures) c.after_if.ensures
      | conform_field-in-One w ↦ whole_one _ _ next _ _ _ _ outer _ m w.in-One.is (w.ok-is ∙ w.conform_row-ok.ensures outer) c.after_if.ensures
      | conform_field-in-Optional+else-e-tag w ↦
          whole_here _ _ next _ _ _ _ outer _ m w.in-Optional.is w.if-e-tag.false (w.ok-is ∙ w.conform_element-ok.ensures m.valid) c.after_if.ensures
    ]

pub conform_row-returns-in-Free : goal.conform_row-returns-in-Free
conform_row-returns-in-Free t c outer =
    let k : c.is_ok.result ≡ kept c.check_run.result = search rules in
    k ∙ sym (c.rows.invariant.1 outer ∙ whole_free _ _ _ _ _ _ outer c.in-Free.ensures c.check_run.ensures)

pub conform_row-returns-in-End : goal.conform_row-returns-in-End
conform_row-returns-in-End t c outer = sym (c.rows.invariant.1 outer ∙ whole_end _ _ _ _ _ _ outer c.in-End.ensures)

pub conform_row-returns-in-Many : goal.conform_row-returns-in-Many
conform_row-returns-in-Many t c outer = c.conform_each.ensures outer ∙ sym (c.rows.invariant.1 outer ∙ whole_many _ _ _ _ _ _ outer c.in-Many.ensures)

pub conform_row-returns-then-conform_row : goal.conform_row-returns-then-conform_row
conform_row-returns-then-conform_row t c outer =
    (rw c.slice.ensures at c.keeps.ensures)
    ∙ sym (c.rows.invariant.1 outer ∙ whole_rule _ _ _ _ _ _ outer c.in-Obeys.ensures ∙ rw (sym (c.conform_row.ensures outer) ∙ c.if-conform_row.true))

pub conform_row-returns-else-conform_row : goal.conform_row-returns-else-conform_row
conform_row-returns-else-conform_row t c outer =
    c.if-conform_row.false ∙ sym (c.rows.invariant.1 outer ∙ whole_rule _ _ _ _ _ _ outer c.in-Obeys.ensures ∙ rw (sym (c.conform_row.ensures outer) ∙ c.if-conform_row.false))

pub conform_row-returns-in_default : goal.conform_row-returns-in_default
conform_row-returns-in_default t c outer = sym (c.rows.invariant.1 outer ∙ conforms-not _ _ _ _ _ _ outer c.in-Field.ensures (c.conform_field.ensures outer) c.in_default.is)

pub conform_row-rows-preserved : goal.conform_row-rows-preserved
conform_row-rows-preserved t c =
    let n = c.in-Field.ensures.names in (
      omega (arith, n.1, c.rows.invariant.0),
      λ outer. c.rows.invariant.1 outer ∙ conforms_on _ _ _ _ _ _ outer c.in-Field.ensures (c.conform_field.ensures outer) c.in-Ok.is,
    )
