-- `reply::response_size` meets its contract. Assumes nothing.
use mathlib.Core.Path.{sym, ◌∙◌}
use Rattle.reply.proofs.Answers.{response_size}
use Rattle.reply.proofs.response_size.Goals as goal

pub returns : goal.returns
returns c =
    let a = c.args in
    c.reply_size.ensures ∙ sym (response_size a.msgref.now a.image.now c.terse_size.ensures.0)
