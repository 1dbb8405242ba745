use mathlib.Core.List.{[], ◌∷◌}
use mathlib.Core.Path.{refl, ◌∙◌}
use Rattle.listing.proofs.Texts.{part, whole, hex_turn, hex_end}
use Rattle.octets.proofs.Turns.{left_fits, left_step, left_end}
use Rattle.listing.proofs.Text.put_hex.Goals as goal

pub put_octet-requires : goal.put_octet-requires
put_octet-requires c =
    let t = c.args.self.now in
    let l = c.loop-x in
    let e = hex_turn c.args.s.now l.x-index c.loop-x-test.true c.hex_digit.ensures refl in
    left_fits t.buf.now t.at _ c.requires l.invariant.1 (c.hex_digit.result ∷ []) _ e

pub put_octet-requires-in-loop-x : goal.put_octet-requires-in-loop-x
put_octet-requires-in-loop-x c =
    let t = c.args.self.now in
    let l = c.loop-x in
    let e = hex_turn c.args.s.now l.x-index c.loop-x-test.true c.hex_digit.ensures c.hex_digit-in-loop-x.ensures in
    let m = left_step t.buf.now t.at _ c.requires l.invariant.1 (c.hex_digit.result ∷ []) _ e (part c.put_octet.ensures.written) in
    left_fits t.buf.now t.at _ c.requires m (c.hex_digit-in-loop-x.result ∷ []) _ refl

pub loop-x-preserved : goal.loop-x-preserved
loop-x-preserved c =
    let t = c.args.self.now in
    let l = c.loop-x in
    let e = hex_turn c.args.s.now l.x-index c.loop-x-test.true c.hex_digit.ensures c.hex_digit-in-loop-x.ensures in
    let m = left_step t.buf.now t.at _ c.requires l.invariant.1 (c.hex_digit.result ∷ []) _ e (part c.put_octet.ensures.written) in
    let v = c.put_octet-in-loop-x.ensures in
    (v.same_reference ∙ c.put_octet.ensures.same_reference ∙ l.invariant.0, left_step t.buf.now t.at _ c.requires m (c.hex_digit-in-loop-x.result ∷ []) _ refl (part v.written))

pub returns-clause-written : goal.returns-clause-written
returns-clause-written c =
    let t = c.args.self.now in
    let l = c.loop-x in
    whole t.buf.now t.at _ c.requires (left_end t.buf.now t.at _ l.self.buf.now l.self.at (rw (hex_end c.args.s.now l.x-index c.loop-x-test.false) at l.invariant.1))
