-- `reply::put_community_confirm` meets its contract. Assumes nothing.
use Rattle.reply.specs.Replies.{community_confirm}
use Rattle.reply.proofs.put_community_confirm.Goals as goal

pub put_code_confirm-requires : goal.put_code_confirm-requires
unfolding community_confirm
put_code_confirm-requires c = c.requires

pub returns : goal.returns
unfolding community_confirm
returns c = c.put_code_confirm.ensures
