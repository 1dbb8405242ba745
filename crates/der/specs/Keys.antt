-- What the members of a run are compared by, and the first that has a key.
use Rattle.std.specs.Prelude.{ℕ, true, false, List, [], ◌∷◌, map, Option, Some, None}
use Rattle.octets.specs.Octets.{same}
use Rattle.der.specs.declared.Element.{Element}
use Rattle.der.specs.declared.Compared.{Compared}
use Rattle.der.specs.declared.Compared.TheVariants.{Types, Contents, Encodings}
use Rattle.der.specs.Element.{absent, elements, encoding, contents, field}

-- the type that stands in an element, the contents of its OID: extnID of an Extension, attrType of an Attribute or an AttrConstraint, contentType of an entry
abbrev pub type_of : List ℕ → Element → List ℕ
type_of s e = contents s (field 0x06 s e)

-- the key of a member: its type, its contents, or all its octets
unfoldable pub key_of : Compared → List ℕ → Element → List ℕ
key_of Types s e = type_of s e
key_of Contents s e = contents s e
key_of Encodings s e = encoding s e

-- the keys of a run of elements, and of the members of an element
abbrev pub keys_from : Compared → List ℕ → ℕ → ℕ → List (List ℕ)
keys_from by s at stop = map (key_of by s) (elements s at stop)

abbrev pub keys_in : Compared → List ℕ → Element → List (List ℕ)
keys_in by s list = keys_from by s list.start list.stop

-- the first of the elements that has the key
unfoldable pub first_with : Compared → List ℕ → List ℕ → List Element → Option Element
first_with by s k [] = None
first_with by s k (e ∷ es) = elim (same k (key_of by s e)) [ true ↦ Some e | false ↦ first_with by s k es ]

-- what was found, as an element
abbrev pub element_found : Option Element → Element
element_found (Some e) = e
element_found None = absent 0
