-- `listing::Text::put_key` meets its contract. Assumes nothing.
use native.Mathlib.Omega.{arith}
use mathlib.Core.List.{[], ◌∷◌}
use mathlib.Core.Path.{refl}
use Rattle.store.specs.Listing.{hex}
use Rattle.listing.specs.Contract.Texts.{key_line}
use Rattle.listing.proofs.Texts.{part, whole, key_is, key-length}
use Rattle.octets.proofs.Turns.{left_start, left_step, last_step}
use Rattle.listing.proofs.Text.put_key.Goals as goal

pub put_hex-requires : goal.put_hex-requires
put_hex-requires c = omega (arith, key-length c.args.row.now c.identifier_of.ensures refl)

pub put_octet-requires : goal.put_octet-requires
put_octet-requires c =
    let r = c.args.row.now in
    omega (arith, key-length r c.identifier_of.ensures refl)

pub put_number-requires : goal.put_number-requires
put_number-requires c =
    let r = c.args.row.now in
    omega (arith, key-length r c.identifier_of.ensures c.number_of.ensures)

pub returns-clause-written : goal.returns-clause-written
returns-clause-written c =
    let a = c.args in
    let b = a.self.now.buf.now in
    let h = c.requires in
    let all = key_line a.row.now in
    let e = key_is a.row.now c.identifier_of.ensures c.number_of.ensures in
    let l₁ = left_step b a.self.now.at all h (left_start _ _ _) (hex c.identifier_of.result.now) _ e (part c.put_hex.ensures.written) in
    let l₂ = left_step b a.self.now.at all h l₁ (32 ∷ []) _ refl (part c.put_octet.ensures.written) in
    whole a.self.now.buf.now a.self.now.at _ h (last_step b a.self.now.at all h l₂ (part c.put_number.ensures.written))
