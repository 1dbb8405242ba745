-- `anchor::entry_faults` meets its contract. Assumes nothing.
use Rattle.std.proofs.Common.{rules, refl, ◌∙◌}
use Rattle.anchor.specs.Contract.Faults.{together, attribute_faults}
use Rattle.rights.specs.Constraints.{attr_constraint}
use Rattle.anchor.proofs.Chains.{fold_gives}
use Rattle.anchor.proofs.Constraints.{entry_faults_lem, faults_folded, none_is}
use Rattle.anchor.proofs.faults.entry_faults.Goals as goal

pub returns : goal.returns
returns c =
    let a = c.args in
    let f = fold_gives (λ f x. together f (attribute_faults (attr_constraint a.v.now x))) c.fold.ensures.ran c.inside.ensures (λ a x b q h. search (rules)) in
    entry_faults_lem a.v.now a.e c.field-list.ensures c.is_distinct.ensures c.is_unlike.ensures c.more_than.ensures (none_is c.default.ensures) refl
    (f ∙ faults_folded attribute_faults (attr_constraint a.v.now) _ _)
