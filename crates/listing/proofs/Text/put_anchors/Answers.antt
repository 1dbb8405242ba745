-- `listing::Text::put_anchors` meets its contract. Assumes nothing.
use native.Mathlib.Omega.{arith}
use mathlib.Core.Path.{refl}
use Rattle.octets.specs.Ascii.{ascii, codes_from}
use Rattle.store.specs.Listing.{count_line}
use Rattle.listing.specs.Contract.Texts.{anchors_text}
use Rattle.listing.proofs.Texts.{part, whole, anchors_are, anchors-length}
use Rattle.octets.proofs.Turns.{left_start, left_step, last_step}
use Rattle.listing.proofs.Text.put_anchors.Goals as goal

pub put_count-requires : goal.put_count-requires
unfolding ascii codes_from
put_count-requires c =
    let i = c.args.image.now in
    omega (arith, anchors-length i c.anchor_count-n.ensures refl)

pub put_records-requires : goal.put_records-requires
unfolding ascii codes_from
put_records-requires c =
    let i = c.args.image.now in
    omega (arith, anchors-length i c.anchor_count-n.ensures c.first_record.ensures)

pub returns-clause-written : goal.returns-clause-written
unfolding ascii codes_from
returns-clause-written c =
    let a = c.args in
    let b = a.self.now.buf.now in
    let h = c.requires in
    let all = anchors_text a.image.now in
    let e = anchors_are a.image.now c.anchor_count-n.ensures c.first_record.ensures in
    let l = left_step b a.self.now.at all h (left_start _ _ _) (count_line (ascii "anchors ") c.anchor_count-n.result) _ e (part c.put_count.ensures.written) in
    whole a.self.now.buf.now a.self.now.at _ h (last_step b a.self.now.at all h l (part c.put_records.ensures.written))
