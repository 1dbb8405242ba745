-- `reply::confirm_size` meets its contract. Assumes nothing.
use mathlib.Core.List.{[], ◌∷◌}
use mathlib.Core.Path.{sym, ◌∙◌}
use Rattle.reply.specs.Replies.{community_confirm, adjust_confirm}
use Rattle.reply.proofs.Answers.{answer_size}
use Rattle.reply.proofs.confirm_size.Goals as goal

pub returns : goal.returns
unfolding community_confirm adjust_confirm
returns c =
    let m = c.args.msgref.now in
    (λ status. c.reply_size.ensures ∙ sym (answer_size m 0x80 (status.number ∷ [])), c.reply_size.ensures ∙ sym (answer_size m 0x0A (0 ∷ [])))
