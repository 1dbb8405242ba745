-- 01, The store image: a stored TrustAnchorInfo has 1 to 1,024 octets, since it is DER and passes the checks of an add.
use Prim.Native.Nat.{ℕ, ◌≤◌}
use native.Mathlib.Omega.{arith}
use mathlib.Core.Bool.{true, and-eq-true_iff, false≢true}
use mathlib.Core.List.{List, [], ◌∷◌}
use mathlib.Core.Path.{◌≡◌}
use lib.ListN.{length}
use Rattle.octets.specs.Limits.{max_anchor_octets}
use Rattle.der.specs.Fit.{and_then}
use Rattle.der.specs.Check.{spans}
use Rattle.syntax.specs.Asn.{StoredTrustAnchorInfo}
use Rattle.anchor.specs.Judge.{passes, conforms, judge, storable}
use Rattle.anchor.proofs.Passed.{passed}

-- an empty string is no element
conforms-some : (t : List ℕ) → conforms StoredTrustAnchorInfo t ≡ true → 1 ≤ length t
unfolding conforms spans and_then
conforms-some [] e = absurd (false≢true e)
conforms-some (x ∷ t) e = omega arith

pub storable_size : (t : List ℕ) → storable t ≡ true → (1 ≤ length t) × (length t ≤ max_anchor_octets)
unfolding storable
storable_size t e =
    let h = (and-eq-true_iff (conforms StoredTrustAnchorInfo t) (passes (judge t))).0 e in
    (conforms-some t h.0, (passed t h.1).size)
