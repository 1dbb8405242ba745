-- `reply::put_adjust_confirm` meets its contract. Assumes nothing.
use Rattle.reply.specs.Replies.{adjust_confirm}
use Rattle.reply.proofs.put_adjust_confirm.Goals as goal

pub put_code_confirm-requires : goal.put_code_confirm-requires
unfolding adjust_confirm
put_code_confirm-requires c = c.requires

pub returns : goal.returns
unfolding adjust_confirm
returns c = c.put_code_confirm.ensures
