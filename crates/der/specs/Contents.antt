-- 01, DER: what the contents of primitive types must be.
use Rattle.std.specs.Prelude.{ℕ, Bool, true, false, not, ◌&&◌, ◌||◌, List, [], ◌∷◌, ltb, leb, eqb}
use Rattle.octets.specs.Octets.{same}

-- INTEGER and ENUMERATED: not empty and shortest (X.690, 8.3.2: the first nine bits are not all equal)
unfoldable pub integer_ok : List ℕ → Bool
integer_ok [] = false
integer_ok (x ∷ []) = true
integer_ok (x ∷ y ∷ s) = not (eqb x 0 && ltb y 128) && not (eqb x 255 && leb 128 y)

-- BOOLEAN: 00 or FF
unfoldable pub boolean_ok : List ℕ → Bool
boolean_ok o = same o (0 ∷ []) || same o (255 ∷ [])

-- the octets of arcs, where `fresh` says that an arc begins here: none begins with 80, and the last has ended
unfoldable pub arcs_ok : Bool → List ℕ → Bool
arcs_ok fresh [] = fresh
arcs_ok fresh (x ∷ s) = not (fresh && eqb x 128) && arcs_ok (ltb x 128) s

-- OID: not empty, each arc shortest
unfoldable pub oid_ok : List ℕ → Bool
oid_ok [] = false
oid_ok (x ∷ s) = arcs_ok true (x ∷ s)

-- the rule of the universal tags 01, 02, 0A and 06; any other contents are free ("String contents (bits, UTF-8) are not looked into", "no other rule of DER is asked")
unfoldable pub contents_ok : ℕ → List ℕ → Bool
contents_ok tag o =
    elim (eqb tag 1) [
      | true ↦ boolean_ok o
      | false ↦ elim (eqb tag 2 || eqb tag 10) [ true ↦ integer_ok o | false ↦ elim (eqb tag 6) [ true ↦ oid_ok o | false ↦ true ] ]
    ]
