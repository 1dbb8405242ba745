use mathlib.Core.Path.{refl}
use Rattle.apply.proofs.Sections.{join_done}
use borrow.Author.Rules.{rules}
use Rattle.apply.proofs.community.join.Goals as goal

pub returns : goal.returns
returns c = join_done c.requires refl c.replace_items-names.ensures (search rules)
