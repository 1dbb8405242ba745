-- Object identifiers, written by their arcs as the RFCs write them.
use Rattle.std.specs.Prelude.{ℕ, ◌+◌, ◌*◌, ◌/◌, ◌%◌, List, [], ◌∷◌, ◌++◌, map}
use Rattle.octets.specs.Number.{digits}

-- X.690, 8.19.2: an arc to the base 128, the high bit set in every octet but the last
unfoldable pub arc : ℕ → List ℕ
arc n = map (λ x. 128 + x) (digits 128 9 (n / 128)) ++ (n % 128 ∷ [])

unfoldable pub arcs : List ℕ → List ℕ
arcs [] = []
arcs (a ∷ as') = arc a ++ arcs as'

-- the contents octets of an OID: the first two arcs make one
unfoldable pub oid : ℕ → ℕ → List ℕ → List ℕ
oid a b rest = arc (a * 40 + b) ++ arcs rest
