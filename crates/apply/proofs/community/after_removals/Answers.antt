use Rattle.apply.proofs.Additions.{section_start, removals_clear, removals_keep}
use Rattle.apply.proofs.community.after_removals.Goals as goal

pub returns-then-clears : goal.returns-then-clears
returns-then-clears c = removals_clear _ c.args.removals _ c.clears.ensures c.if-clears.true c.args.names.now.octets c.requires.1

pub keep_names-requires : goal.keep_names-requires
keep_names-requires c = (c.requires.0, section_start c.args.names.now.octets c.requires.1)

pub returns : goal.returns
returns c = removals_keep _ c.args.removals _ c.clears.ensures c.if-clears.false c.keep_names.ensures
