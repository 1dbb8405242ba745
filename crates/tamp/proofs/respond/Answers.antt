-- `tamp::respond` meets its contract. Assumes nothing.
use native.Mathlib.Omega.{arith}
use lib.ListN.{length-take}
use lib.Seq.{length-take-le}
use mathlib.Core.Path.{sym}
use Rattle.apply.proofs.Signing.{image_short}
use Rattle.tamp.proofs.Decided.{answers-long, reply_fits, answers}
use Rattle.tamp.proofs.respond.Goals as goal

pub reply_size-requires : goal.reply_size-requires
reply_size-requires c = (
  c.requires.0.message,
  image_short c.args.image.now c.requires.1.store (λ i. omega (arith, c.shared_slice_known-2-1.given i)) c.requires.1.decodes,
)

pub returns-then-reply_size-gt-REPLY_ROOM : goal.returns-then-reply_size-gt-REPLY_ROOM
returns-then-reply_size-gt-REPLY_ROOM c σ d =
    let a = c.args in
    answers-long a.s.now a.image.now σ d a.j a.reply.now a.next.now c.reply_size.ensures c.if-reply_size-gt-REPLY_ROOM.true c.refusal.ensures

pub put_reply-n-requires : goal.put_reply-n-requires
put_reply-n-requires c =
    let g = c.requires.1 in
    let e = c.effect-done.ensures in (
      c.requires.0.message,
      simp length-take (omega (arith, e.short)),
      omega (arith, e.codes_size),
      omega (arith, c.requires.0.reply, reply_fits c.args.s.now c.args.image.now g.store g.decodes c.requires.0.next (omega arith) c.args.j e c.reply_size.ensures c.if-reply_size-gt-REPLY_ROOM.false),
    )

pub returns : goal.returns
returns c σ d =
    let a = c.args in
    answers a.s.now a.image.now σ d c.requires.0.next (omega arith) a.j c.effect-done.ensures a.reply.now c.reply_size.ensures c.if-reply_size-gt-REPLY_ROOM.false c.offset_of.ensures c.put_reply-n.ensures c.reply.ensures

pub slice_bounds-put_reply-end-2 : goal.slice_bounds-put_reply-end-2
slice_bounds-put_reply-end-2 c = sym (length-take-le _ _ (omega arith))
