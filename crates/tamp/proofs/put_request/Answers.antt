-- `tamp::put_request` meets its contract. Assumes nothing.
use native.Mathlib.Omega.{arith}
use lib.ListN.{length}
use lib.Seq.{length-take-le}
use mathlib.Core.Path.{sym, ap}
use Rattle.tamp.proofs.Replies.{query_reply, adjust_reply, community_reply, many_reply, few_reply, put_as}
use Rattle.tamp.proofs.put_request.Goals as goal

pub put_status_response-requires : goal.put_status_response-requires
put_status_response-requires c =
    let a = c.args in
    let e = query_reply a.s.now a.q a.image.now c.msg_ref-msgref.ensures a.status a.codes.now c.in-StatusQuery.is in
    (omega (arith, c.requires.1), omega (arith, ap length e, c.requires.3))

pub put_community_confirm-requires : goal.put_community_confirm-requires
put_community_confirm-requires c =
    let a = c.args in
    let e = community_reply a.s.now a.q a.image.now c.msg_ref-msgref.ensures a.status a.codes.now c.in-CommunityUpdate.is in
    omega (arith, ap length e, c.requires.3)

pub put_adjust_confirm-requires : goal.put_adjust_confirm-requires
put_adjust_confirm-requires c =
    let a = c.args in
    let e = adjust_reply a.s.now a.q a.image.now c.msg_ref-msgref.ensures a.status a.codes.now c.in-SeqNumAdjust.is in
    omega (arith, ap length e, c.requires.3)

pub put_error-requires : goal.put_error-requires
put_error-requires c =
    let a = c.args in
    let e = many_reply a.s.now a.q a.image.now c.msg_ref-msgref.ensures a.status a.codes.now c.in-Update.is c.entry_count-entry_count.ensures c.if-entry_count-gt-MAX_UPDATES.true c.contents.ensures in
    omega (arith, ap length e, c.requires.3)

pub returns-then-entry_count-gt-MAX_UPDATES : goal.returns-then-entry_count-gt-MAX_UPDATES
returns-then-entry_count-gt-MAX_UPDATES c =
    let a = c.args in
    put_as a.reply.now
    (many_reply a.s.now a.q a.image.now c.msg_ref-msgref.ensures a.status a.codes.now c.in-Update.is c.entry_count-entry_count.ensures c.if-entry_count-gt-MAX_UPDATES.true c.contents.ensures)
    c.put_error.ensures

pub put_update_confirm-requires : goal.put_update_confirm-requires
put_update_confirm-requires c =
    let a = c.args in
    let e = few_reply a.s.now a.q a.image.now c.msg_ref-msgref.ensures a.status a.codes.now c.in-Update.is c.entry_count-entry_count.ensures c.if-entry_count-gt-MAX_UPDATES.false in
    omega (arith, ap length e, c.requires.3)

pub returns-in-StatusQuery : goal.returns-in-StatusQuery
returns-in-StatusQuery c =
    let a = c.args in
    put_as a.reply.now
    (query_reply a.s.now a.q a.image.now c.msg_ref-msgref.ensures a.status a.codes.now c.in-StatusQuery.is)
    c.put_status_response.ensures

pub returns-in-CommunityUpdate : goal.returns-in-CommunityUpdate
returns-in-CommunityUpdate c =
    let a = c.args in
    put_as a.reply.now (community_reply a.s.now a.q a.image.now c.msg_ref-msgref.ensures a.status a.codes.now c.in-CommunityUpdate.is) c.put_community_confirm.ensures

pub returns-in-SeqNumAdjust : goal.returns-in-SeqNumAdjust
returns-in-SeqNumAdjust c =
    let a = c.args in
    put_as a.reply.now (adjust_reply a.s.now a.q a.image.now c.msg_ref-msgref.ensures a.status a.codes.now c.in-SeqNumAdjust.is) c.put_adjust_confirm.ensures

pub returns-else-entry_count-gt-MAX_UPDATES : goal.returns-else-entry_count-gt-MAX_UPDATES
returns-else-entry_count-gt-MAX_UPDATES c =
    let a = c.args in
    put_as a.reply.now
    (few_reply a.s.now a.q a.image.now c.msg_ref-msgref.ensures a.status a.codes.now c.in-Update.is c.entry_count-entry_count.ensures c.if-entry_count-gt-MAX_UPDATES.false)
    c.put_update_confirm.ensures

pub slice_bounds-put_update_confirm-end : goal.slice_bounds-put_update_confirm-end
slice_bounds-put_update_confirm-end c = sym (length-take-le _ _ (omega (arith, c.requires.2)))
