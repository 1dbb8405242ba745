-- `listing::Text::put_hex_line` meets its contract. Assumes nothing.
use native.Mathlib.Omega.{arith}
use mathlib.Core.List.{[], ◌∷◌}
use mathlib.Core.Path.{refl}
use Rattle.store.specs.Listing.{hex}
use Rattle.listing.specs.Contract.Texts.{hex_line}
use Rattle.listing.proofs.Texts.{part, whole, hex_line-length}
use Rattle.octets.proofs.Turns.{left_start, left_step, last_step}
use Rattle.listing.proofs.Text.put_hex_line.Goals as goal

pub put_octet-requires : goal.put_octet-requires
put_octet-requires c = omega (arith, hex_line-length c.args.s.now)

pub returns-clause-written : goal.returns-clause-written
unfolding hex_line
returns-clause-written c =
    let a = c.args in
    let h = c.requires in
    let all = hex_line a.s.now in
    let l = left_step a.self.now.buf.now a.self.now.at all h (left_start _ _ _) (hex a.s.now) (10 ∷ []) refl (part c.put_hex.ensures.written) in
    whole a.self.now.buf.now a.self.now.at _ h (last_step a.self.now.buf.now a.self.now.at all h l (part c.put_octet.ensures.written))

pub put_hex-requires : goal.put_hex-requires
put_hex-requires c = omega (arith, hex_line-length c.args.s.now)
