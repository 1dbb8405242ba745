-- Elements as they are written (der/proofs/Writes): their size by `element_size`, and what der shows of a header and what stands after it, one call after the other.
pub use Rattle.der.proofs.Writes.{length_octets_lem, element_is, Wrote, first_fits, second_fits, both-written}
use Rattle.std.proofs.Common.{◌≡◌, ℕ, List, length}
use Rattle.der.specs.Write.{element}
use Rattle.der.proofs.Writes as writes
use Rattle.reply.specs.Contract.Parts.{element_size}

pub length-element : (tag : ℕ) (c : List ℕ) → length (element tag c) ≡ element_size (length c)
length-element tag c = writes.length-element tag c
