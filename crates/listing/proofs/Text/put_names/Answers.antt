use mathlib.Core.Path.{refl, ◌∙◌}
use Rattle.listing.specs.Contract.Texts.{hex_line, name_lines}
use Rattle.listing.proofs.Texts.{part, whole, names_turn, names_end}
use Rattle.octets.proofs.Turns.{left_start, left_fits, left_step, left_end}
use Rattle.listing.proofs.Text.put_names.Goals as goal

pub loop-name-init : goal.loop-name-init
unfolding name_lines
loop-name-init c = rw (c.into_iter-name-iterator.ensures.into_iter_gives, c.new-name-items.ensures) (refl, left_start _ _ _)

pub put_hex_line-requires : goal.put_hex_line-requires
put_hex_line-requires c =
    let t = c.args.self.now in
    left_fits t.buf.now t.at _ c.requires c.loop-name.invariant.1 (hex_line c.in-Some.name.now) _ (names_turn c.in-Some.ensures.steps)

pub loop-name-preserved : goal.loop-name-preserved
loop-name-preserved c =
    let t = c.args.self.now in
    let w = c.put_hex_line.ensures in
    (w.same_reference ∙ c.loop-name.invariant.0, left_step t.buf.now t.at _ c.requires c.loop-name.invariant.1 (hex_line c.in-Some.name.now) _ (names_turn c.in-Some.ensures.steps) (part w.written))

pub returns-clause-written : goal.returns-clause-written
returns-clause-written c =
    let t = c.args.self.now in
    let l = c.loop-name in
    whole t.buf.now t.at _ c.requires (left_end t.buf.now t.at _ l.self.buf.now l.self.at (rw (names_end c.in-None.ensures.steps.0) at l.invariant.1))
