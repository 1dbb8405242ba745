-- `listing::hex_text` meets its contract. Assumes nothing.
use native.Mathlib.Nat.{zero-add}
use lib.ListN.{length}
use Rattle.listing.proofs.Bounds.{hex_fits}
use Rattle.listing.proofs.hex_text.Goals as goal

pub put_hex-requires : goal.put_hex-requires
put_hex-requires c = let a = c.args in rw (c.slice.ensures, zero-add) (hex_fits (length a.out.now) a.s.now)
