-- `tamp::request_size` meets its contract. Assumes nothing.
use native.Mathlib.Omega.{arith}
use lib.ListN.{length}
use mathlib.Core.Path.{ap, ◌∙◌}
use Rattle.tamp.proofs.Parts.{encoding_fits, contents_fits}
use Rattle.tamp.proofs.Replies.{query_reply, adjust_reply, community_reply, many_reply, few_reply, few_size}
use Rattle.tamp.proofs.request_size.Goals as goal

pub response_size-requires : goal.response_size-requires
response_size-requires c =
    (encoding_fits c.args.s.now c.args.q.msgref c.requires.0 c.msg_ref-msgref.ensures, omega (arith, c.requires.1))

pub confirm_size-requires : goal.confirm_size-requires
confirm_size-requires c = encoding_fits c.args.s.now c.args.q.msgref c.requires.0 c.msg_ref-msgref.ensures

pub confirm_size-requires-in-SeqNumAdjust : goal.confirm_size-requires-in-SeqNumAdjust
confirm_size-requires-in-SeqNumAdjust c = encoding_fits c.args.s.now c.args.q.msgref c.requires.0 c.msg_ref-msgref.ensures

pub error_size-requires : goal.error_size-requires
error_size-requires c = (
  contents_fits c.args.s.now c.args.q.msgtype c.requires.0 c.contents.ensures,
  encoding_fits c.args.s.now c.args.q.msgref c.requires.0 c.msg_ref-msgref.ensures,
)

pub returns-then-entry_count-gt-MAX_UPDATES : goal.returns-then-entry_count-gt-MAX_UPDATES
returns-then-entry_count-gt-MAX_UPDATES c status codes space =
    let a = c.args in
    c.error_size.ensures status
    ∙ ap length (many_reply a.s.now a.q a.image.now c.msg_ref-msgref.ensures status codes c.in-Update.is c.entry_count-entry_count.ensures c.if-entry_count-gt-MAX_UPDATES.true c.contents.ensures)

pub update_size-requires : goal.update_size-requires
update_size-requires c =
    (encoding_fits c.args.s.now c.args.q.msgref c.requires.0 c.msg_ref-msgref.ensures, omega arith)

pub returns-in-StatusQuery : goal.returns-in-StatusQuery
returns-in-StatusQuery c status codes space =
    let a = c.args in
    c.response_size.ensures
    ∙ ap length (query_reply a.s.now a.q a.image.now c.msg_ref-msgref.ensures status codes c.in-StatusQuery.is)

pub returns-in-CommunityUpdate : goal.returns-in-CommunityUpdate
returns-in-CommunityUpdate c status codes space =
    let a = c.args in c.confirm_size.ensures.0 status ∙ ap length (community_reply a.s.now a.q a.image.now c.msg_ref-msgref.ensures status codes c.in-CommunityUpdate.is)

pub returns-in-SeqNumAdjust : goal.returns-in-SeqNumAdjust
returns-in-SeqNumAdjust c status codes space =
    let a = c.args in c.confirm_size-in-SeqNumAdjust.ensures.1 ∙ ap length (adjust_reply a.s.now a.q a.image.now c.msg_ref-msgref.ensures status codes c.in-SeqNumAdjust.is)

pub returns-else-entry_count-gt-MAX_UPDATES : goal.returns-else-entry_count-gt-MAX_UPDATES
returns-else-entry_count-gt-MAX_UPDATES c status codes space =
    let a = c.args in
    let n = c.entry_count-entry_count.ensures in
    c.update_size.ensures _ (few_size a.s.now a.q a.image.now c.msg_ref-msgref.ensures status codes c.in-Update.is n c.if-entry_count-gt-MAX_UPDATES.false space)
    ∙ ap length (few_reply a.s.now a.q a.image.now c.msg_ref-msgref.ensures status codes c.in-Update.is n c.if-entry_count-gt-MAX_UPDATES.false)
