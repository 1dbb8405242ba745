-- The first member of a list whose key stood before. 01, Answers, status 7: "a type repeated"; After acceptance, 34: "a repeated
-- extension", "a repeated type or value"; 24: "an OID occurs twice in its two lists".
use Rattle.std.specs.Prelude.{ℕ, Bool, true, false, List, [], ◌∷◌, ◌++◌, eqb, Option, Some, None}
use Rattle.octets.specs.Octets.{member}
use Rattle.der.specs.declared.Element.{Element}
use Rattle.der.specs.Keys.{key_of}
use Rattle.der.specs.declared.Compared.{Compared}

-- the first member whose key is one of those seen, or that of a member before it
unfoldable pub first_repeat : Compared → List ℕ → List (List ℕ) → List Element → Option ℕ
first_repeat by s seen [] = None
first_repeat by s seen (e ∷ es) =
    elim (member (key_of by s e) seen) [ true ↦ Some e.at | false ↦ first_repeat by s (seen ++ (key_of by s e ∷ [])) es ]

-- that is the member at a place
abbrev pub is_at : Option ℕ → ℕ → Bool
is_at None place = false
is_at (Some p) place = eqb p place
