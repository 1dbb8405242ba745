use Rattle.apply.proofs.Additions.{joining_addable, joining_full, joining_on, joining_end}
use borrow.Author.Rules.{rules}
use Rattle.apply.proofs.community.add_names.Goals as goal

pub add_name-requires : goal.add_name-requires
add_name-requires c = joining_addable _ _ _ _ _ c.loop-e.invariant c.in-Some.ensures.steps c.contents.ensures c.requires

pub returns-in_err-add_name : goal.returns-in_err-add_name
returns-in_err-add_name c =
    let e = joining_full _ _ _ _ _ c.loop-e.invariant c.in-Some.ensures.steps c.contents.ensures c.add_name.ensures c.in_err-add_name.was in
    search (e, rules)

pub loop-e-preserved : goal.loop-e-preserved
loop-e-preserved c = joining_on _ _ _ _ _ c.loop-e.invariant c.in-Some.ensures.steps c.contents.ensures c.add_name.ensures c.in_ok-add_name.was

pub returns : goal.returns
returns c = joining_end _ _ _ _ _ c.loop-e.invariant c.in-None.ensures.steps.0
