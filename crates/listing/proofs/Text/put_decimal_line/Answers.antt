-- `listing::Text::put_decimal_line` meets its contract. Assumes nothing.
use native.Mathlib.Omega.{arith}
use mathlib.Core.List.{[], ◌∷◌}
use mathlib.Core.Path.{refl}
use Rattle.store.specs.Listing.{decimal}
use Rattle.listing.specs.Contract.Texts.{decimal_line}
use Rattle.listing.proofs.Texts.{part, whole, decimal_line-length}
use Rattle.octets.proofs.Turns.{left_start, left_step, last_step}
use Rattle.listing.proofs.Text.put_decimal_line.Goals as goal

pub put_octet-requires : goal.put_octet-requires
put_octet-requires c = omega (arith, decimal_line-length c.args.n)

pub returns-clause-written : goal.returns-clause-written
unfolding decimal_line
returns-clause-written c =
    let a = c.args in
    let h = c.requires in
    let all = decimal_line a.n in
    let l = left_step a.self.now.buf.now a.self.now.at all h (left_start _ _ _) (decimal a.n) (10 ∷ []) refl (part c.put_decimal.ensures.written) in
    whole a.self.now.buf.now a.self.now.at _ h (last_step a.self.now.buf.now a.self.now.at all h l (part c.put_octet.ensures.written))

pub put_decimal-requires : goal.put_decimal-requires
put_decimal-requires c = omega (arith, decimal_line-length c.args.n)
