-- `anchor::rights_faults` meets its contract. Assumes nothing.
use Rattle.std.proofs.Common.{rules, refl, ◌∙◌}
use Rattle.anchor.specs.Contract.Faults.{together, entry_faults}
use Rattle.rights.specs.Constraints.{content_type_constraint}
use Rattle.anchor.proofs.Chains.{fold_gives}
use Rattle.anchor.proofs.Constraints.{rights_faults_lem, faults_folded, none_is}
use Rattle.anchor.proofs.faults.rights_faults.Goals as goal

pub returns : goal.returns
returns c =
    let v = c.args.v.now in
    let f = fold_gives (λ f x. together f (entry_faults (content_type_constraint v x))) c.fold.ensures.ran c.inside.ensures (λ a x b q h. search (rules)) in
    rights_faults_lem v c.root-list.ensures c.is_distinct.ensures c.more_than.ensures (none_is c.default.ensures) refl
    (f ∙ faults_folded entry_faults (content_type_constraint v) _ _)
