-- `tamp::refusal_size` meets its contract. Assumes nothing.
use borrow.Author.Tests.{not-true, not-false}
use lib.ListN.{length}
use mathlib.Core.Path.{sym, ap, ◌∙◌}
use Rattle.tamp.proofs.Parts.{encoding_fits, contents_fits}
use Rattle.tamp.proofs.Replies.{refusal_silent, refusal_told}
use Rattle.tamp.proofs.refusal_size.Goals as goal

pub returns-then-not-about : goal.returns-then-not-about
returns-then-not-about c = sym (ap length (refusal_silent _ _ (not-true _ c.if-not-about.true)))

pub error_size-requires : goal.error_size-requires
error_size-requires c = (
  contents_fits c.args.s.now c.args.r.msgtype c.requires c.contents.ensures,
  encoding_fits c.args.s.now c.args.r.msgref c.requires c.encoding.ensures,
)

pub returns : goal.returns
returns c =
    c.error_size.ensures _
    ∙ ap length (refusal_told _ _ (not-false _ c.if-not-about.false) c.contents.ensures c.encoding.ensures)
