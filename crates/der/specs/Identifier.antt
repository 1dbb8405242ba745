-- X.690, 8.1.2: where the identifier octets of an element, and of all elements in it, stand.
use Rattle.std.specs.Prelude.{ℕ, true, List, ◌≡◌}
use Rattle.octets.specs.Lists.{Among}
use Rattle.der.specs.declared.Element.{Element}
use Rattle.der.specs.Element.{inside, constructed}

-- An identifier octet stands at o: the element's own, its first octet, or one of a member of its run, at any depth. A member whose header breaks a rule has an
-- identifier octet, and no members. A primitive element has none: an OCTET STRING is not opened.
pub data IdentifierOctet (s : List ℕ) (o : ℕ) : Element → Type 0 where
  own : {e : Element} → e.at ≡ o → IdentifierOctet s o e
  of_member : {e m : Element} → constructed e.tag ≡ true → Among m (inside s e) → IdentifierOctet s o m → IdentifierOctet s o e
