-- The apex has whatever it is asked for; another anchor's rights are those of its own constraints.
use Rattle.std.proofs.Common.{sym, ap₂, ◌∙◌}
use Rattle.rights.specs.Decision.{within}
use Rattle.rights.proofs.Within.{within-everything}
use Rattle.anchor.specs.Info.{rights_of}
use Rattle.rights_cases.proofs.Laws.{own_rights}
use Rattle.rights_cases.proofs.is_within.Goals as goal

pub returns-in-Apex : goal.returns-in-Apex
returns-in-Apex c = rw c.in-Apex.is (sym (within-everything (rights_of c.args.new.now)))

pub returns-in-Other : goal.returns-in-Other
returns-in-Other c = rw c.in-Other.is (c.is_within.ensures ∙ ap₂ within (own_rights _ c.constraints_value.ensures) (own_rights _ c.constraints_value-in-Other.ensures))
