-- `listing::Text::put_device` meets its contract. Assumes nothing.
use native.Mathlib.Omega.{arith}
use mathlib.Core.List.{[], ◌∷◌}
use mathlib.Core.Path.{refl}
use Rattle.octets.specs.Ascii.{ascii, codes_from}
use Rattle.store.specs.Listing.{hex}
use Rattle.listing.specs.Contract.Texts.{device_line}
use Rattle.listing.proofs.Texts.{part, whole, device_is, device_length}
use Rattle.octets.proofs.Turns.{left_start, left_step, last_step}
use Rattle.listing.proofs.Text.put_device.Goals as goal

pub put_word-requires : goal.put_word-requires
put_word-requires c = omega (arith, device_length c.args.image.now refl refl)

pub put_hex-requires : goal.put_hex-requires
put_hex-requires c =
    let i = c.args.image.now in
    omega (arith, device_length i c.hw_type.ensures refl)

pub put_octet-requires : goal.put_octet-requires
put_octet-requires c =
    let i = c.args.image.now in
    omega (arith, device_length i c.hw_type.ensures refl)

pub put_hex_line-requires : goal.put_hex_line-requires
put_hex_line-requires c =
    let i = c.args.image.now in
    omega (arith, device_length i c.hw_type.ensures c.serial.ensures)

pub returns-clause-written : goal.returns-clause-written
unfolding ascii codes_from
returns-clause-written c =
    let a = c.args in
    let b = a.self.now.buf.now in
    let h = c.requires in
    let all = device_line a.image.now in
    let e = device_is a.image.now c.hw_type.ensures c.serial.ensures in
    let l₁ = left_step b a.self.now.at all h (left_start _ _ _) (ascii "device ") _ e (part c.put_word.ensures.written) in
    let l₂ = left_step b a.self.now.at all h l₁ (hex c.hw_type.result.now) _ refl (part c.put_hex.ensures.written) in
    let l₃ = left_step b a.self.now.at all h l₂ (32 ∷ []) _ refl (part c.put_octet.ensures.written) in
    whole a.self.now.buf.now a.self.now.at _ h (last_step b a.self.now.at all h l₃ (part c.put_hex_line.ensures.written))
