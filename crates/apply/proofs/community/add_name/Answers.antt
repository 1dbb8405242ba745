use Rattle.apply.proofs.Additions.{add_present, add_none, add_one}
use Rattle.apply.proofs.community.add_name.Goals as goal

pub returns-then-has_name : goal.returns-then-has_name
returns-then-has_name c = add_present _ c.requires c.has_name.ensures c.if-has_name.true

pub returns-then-is_full : goal.returns-then-is_full
returns-then-is_full c = add_none _ c.requires c.has_name.ensures c.if-has_name.false c.if-is_full.true

pub returns : goal.returns
returns c = add_one _ c.requires c.has_name.ensures c.if-has_name.false c.if-is_full.false c.join.ensures
