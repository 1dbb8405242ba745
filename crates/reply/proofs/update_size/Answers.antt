-- `reply::update_size` meets its contract. Assumes nothing.
use mathlib.Core.Path.{sym, ◌∙◌}
use Rattle.reply.proofs.Answers.{update_size}
use Rattle.reply.proofs.update_size.Goals as goal

pub returns : goal.returns
returns c = let a = c.args in λ l e. c.reply_size.ensures ∙ sym (update_size a.msgref.now l e)
