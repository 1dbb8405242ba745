use Rattle.apply.proofs.Sections.{keep_none, keep_one}
use Rattle.der.specs.Keys.{key_of}
use Rattle.apply.proofs.community.keep_name.Goals as goal

pub returns-then-occurs : goal.returns-then-occurs
unfolding key_of
returns-then-occurs c = keep_none _ _ c.occurs.ensures c.if-occurs.true

pub returns : goal.returns
unfolding key_of
returns c = keep_one _ _ c.occurs.ensures c.if-occurs.false c.join.ensures
