-- `listing::list` meets its contract. Assumes nothing.
use native.Mathlib.Nat.{zero-add}
use native.Mathlib.Omega.{arith}
use mathlib.Core.Path.{ap}
use lib.ListN.{length}
use Rattle.octets.specs.Ascii.{ascii, codes_from}
use Rattle.listing.proofs.Texts.{part, valid_listing, bad_listing}
use Rattle.listing.proofs.Bounds.{listing-length}
use Rattle.listing.proofs.list.Goals.{then-is_image, else-is_image}
use Rattle.listing.proofs.list.Goals as goal

pub put_image-requires : goal.put_image-requires
put_image-requires c =
    let i = c.args.image.now in
    omega (arith, listing-length i, ap length (valid_listing i c.is_image.ensures c.if-is_image.true))

pub returns : goal.returns
unfolding ascii codes_from
returns c =
    let i = c.args.image.now in
    elim c.if-is_image.branch [
      | then-is_image w ↦ rw (w.text-is, ← valid_listing i c.is_image.ensures w.if-is_image.true) (rw (zero-add) at w.put_image.ensures.written.1, w.put_image.ensures.written.2)
      | else-is_image w ↦ rw (w.text-is, ← bad_listing i c.is_image.ensures w.if-is_image.false) (part w.put_word.ensures.written)
    ]
