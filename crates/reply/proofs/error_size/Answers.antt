-- `reply::error_size` meets its contract. Assumes nothing.
use mathlib.Core.Path.{sym, ◌∙◌}
use Rattle.reply.proofs.Answers.{error_size}
use Rattle.reply.proofs.error_size.Goals as goal

pub returns : goal.returns
returns c = let a = c.args in λ status. c.reply_size.ensures ∙ sym (error_size a.msgtype.now status a.msgref.now)
