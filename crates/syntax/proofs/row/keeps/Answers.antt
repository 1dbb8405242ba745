-- `syntax::row::keeps` meets its contract, rule by rule. Assumes nothing.
use mathlib.Core.Path.{sym, ◌∙◌}
use borrow.Author.Tests.{le-leb, lt-leb}
use native.Mathlib.Omega.{arith}
use Rattle.syntax.specs.Grammar.{obeyed}
use Rattle.syntax.specs.Contract.Rows.{rule_of}
use Rattle.syntax.proofs.Rules.{same_none, seq_number_is}
use Rattle.syntax.proofs.row.keeps.Goals as goal

pub returns-in-NotEmpty : goal.returns-in-NotEmpty
unfolding rule_of obeyed
returns-in-NotEmpty c = rw c.in-NotEmpty.is

pub returns-in-Empty : goal.returns-in-Empty
unfolding rule_of obeyed
returns-in-Empty c = rw c.in-Empty.is (sym (same_none c.args.o.now))

pub returns-in-Equals : goal.returns-in-Equals
unfolding rule_of obeyed
returns-in-Equals c = rw c.in-Equals.is c.is_octet.ensures

pub returns-in-EqualsGiven : goal.returns-in-EqualsGiven
unfolding rule_of obeyed
returns-in-EqualsGiven c = rw c.in-EqualsGiven.is c.equal.ensures

pub returns-then-o-ge1 : goal.returns-then-o-ge1
unfolding rule_of obeyed
returns-then-o-ge1 c = rw (c.in-SizeTo.is, c.from.ensures, le-leb 1 _ c.if-o-ge1.true)

pub returns-else-o-ge1 : goal.returns-else-o-ge1
unfolding rule_of obeyed
returns-else-o-ge1 c = rw (c.in-SizeTo.is, lt-leb 1 _ c.if-o-ge1.false)

pub returns-then-is_integer : goal.returns-then-is_integer
unfolding rule_of obeyed
returns-then-is_integer c = rw (c.in-IntegerBut.is, sym c.is_integer.ensures ∙ c.if-is_integer.true, c.is_octet-then-is_integer.ensures)

pub returns-else-is_integer : goal.returns-else-is_integer
unfolding rule_of obeyed
returns-else-is_integer c = c.if-is_integer.false ∙ rw (c.in-IntegerBut.is, sym c.is_integer.ensures ∙ c.if-is_integer.false)

pub returns-then-o-le8 : goal.returns-then-o-le8
unfolding rule_of
returns-then-o-le8 c =
    let s = seq_number_is c.args.o.now (λ i. omega (arith, c.type_inv.o i)) in
    rw (c.in-SeqNumber.is, c.first.ensures) (sym (rw (le-leb _ 8 c.if-o-le8.true)) ∙ s)

pub returns-else-o-le8 : goal.returns-else-o-le8
unfolding rule_of obeyed
returns-else-o-le8 c = rw (c.in-SeqNumber.is, lt-leb _ 8 c.if-o-le8.false)
