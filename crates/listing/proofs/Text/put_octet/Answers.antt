-- `listing::Text::put_octet` meets its contract. Assumes nothing.
use native.Mathlib.Omega.{arith}
use mathlib.Core.Path.{refl, sym}
use Rattle.octets.proofs.Placed.{placed_one}
use Rattle.listing.proofs.Texts.{whole}
use Rattle.listing.proofs.Text.put_octet.Goals as goal

pub returns-clause-written : goal.returns-clause-written
returns-clause-written c =
    let t = c.args.self.now in
    whole t.buf.now t.at _ c.requires (refl, sym (placed_one t.buf.now t.at c.args.x (omega arith)))
