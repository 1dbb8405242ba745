use Rattle.apply.proofs.TwoLists.{community_repeated, community_long, community_longer, community_puttable, community_done}
use mathlib.Core.Path.{refl}
use Rattle.apply.proofs.community.community_scratch.Goals as goal

pub returns-then-has_repeat : goal.returns-then-has_repeat
returns-then-has_repeat c = community_repeated _ c.args.m.now.request refl c.field-removals.ensures c.field-additions.ensures c.has_repeat.ensures c.if-has_repeat.true

pub returns-then-has_long : goal.returns-then-has_long
returns-then-has_long c = community_long _ c.args.m.now.request refl c.field-removals.ensures c.field-additions.ensures c.has_repeat.ensures c.if-has_repeat.false c.has_long.ensures c.if-has_long.true

pub returns-then-has_long-2 : goal.returns-then-has_long-2
returns-then-has_long-2 c =
    community_longer _ c.args.m.now.request refl c.field-removals.ensures c.field-additions.ensures c.has_repeat.ensures c.if-has_repeat.false c.has_long.ensures c.if-has_long.false c.has_long-2.ensures c.if-has_long-2.true

pub update_communities-requires : goal.update_communities-requires
update_communities-requires c =
    community_puttable _ c.args.m.now.request refl c.field-removals.ensures c.field-additions.ensures c.requires c.has_repeat.ensures c.if-has_repeat.false c.has_long.ensures c.if-has_long.false c.has_long-2.ensures c.if-has_long-2.false

pub returns : goal.returns
returns c = community_done _ c.args.m.now.request refl c.field-removals.ensures c.field-additions.ensures c.update_communities.ensures
