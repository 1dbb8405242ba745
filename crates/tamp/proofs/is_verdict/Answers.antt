-- `tamp::is_verdict` meets its contract. Assumes nothing.
use Rattle.std.proofs.Common.{rules, ◌∙◌, length, leb}
use Rattle.std.proofs.lemmas.Iterator.{YieldsList-from_slice}
use Rattle.std.proofs.lemmas.Iterator.Search.{all_from_yields_List}
use borrow.Author.Tests.{eq-eqb}
use Rattle.store.specs.Contract.Parts.{anchor_count}
use Rattle.tamp.proofs.Verdicts.{binary_is}
use Rattle.tamp.proofs.is_verdict.Goals as goal

pub returns-then-verdict-anchor_count : goal.returns-then-verdict-anchor_count
returns-then-verdict-anchor_count c =
    let a = c.args in
    let h = all_from_yields_List (λ v. leb v 1) _ _ _ c.all.ensures.ran (YieldsList-from_slice a.verdict.now c.iter.ensures.rest) (λ x b q h. search (rules)) in
    rw (eq-eqb (length a.verdict.now) (anchor_count a.image.now) (c.if-verdict-anchor_count.true ∙ c.anchor_count.ensures)) (h ∙ binary_is a.verdict.now)
