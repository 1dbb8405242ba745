-- 01, DER: an element's header, the elements of a run, and the element with a tag among them.
-- Octets come with the window [at, stop) in which an element must stand, so every place is an offset in the octets that the reader was first given.
use Rattle.std.specs.Prelude.{ℕ, zero, suc, ◌+◌, ◌-◌, ◌/◌, ◌%◌, Bool, true, false, not, ◌&&◌, ◌||◌, List, [], ◌∷◌, length, leb, ltb, eqb}
use Rattle.octets.specs.Octets.{octet, slice}
use Rattle.octets.specs.Number.{number}
use Rattle.der.specs.declared.Element.{Element}

-- no element: what stands at a place where the header breaks a rule, and (at 0) what a search gives that finds nothing
abbrev pub absent : ℕ → Element
absent at = record { valid = false; tag = 0; at = at; start = at; stop = at }

-- X.690, 8.1.3: every length octet is a digit of the length, to the base 256, but a first one of 128 or more:
-- that one says how many length octets stand after it. (The difference is cut off at 0: after a first octet below 128 stands none.)
abbrev pub length_octets_after : ℕ → ℕ
length_octets_after first = first - 128

-- where the contents begin, after the length octets
abbrev pub contents_at : List ℕ → ℕ → ℕ
contents_at s at = at + 2 + length_octets_after (octet s (at + 1))

-- the length that they say
unfoldable pub length_at : List ℕ → ℕ → ℕ
length_at s at =
    let first = octet s (at + 1) in
    number (elim (ltb first 128) [ true ↦ first ∷ [] | false ↦ slice s (at + 2) (contents_at s at) ])

-- 01, DER: lengths are definite and shortest (81 7F is wrong, 81 80 right; 80 is the indefinite form, and would be the length 0 in no octets)
unfoldable pub length_shortest : List ℕ → ℕ → Bool
length_shortest s at = ltb (octet s (at + 1)) 128 || (not (eqb (octet s (at + 2)) 0) && leb 128 (length_at s at))

-- a header stands at `at`, and its element ends in the window: the window is inside the octets, the tag is one octet (01, DER: "Tags are one octet"),
-- the length is shortest, and nothing passes the window's end
unfoldable pub headed : List ℕ → ℕ → ℕ → Bool
headed s at stop =
    leb stop (length s)
    && leb (at + 2) stop
    && not (eqb (octet s at % 32) 31)
    && leb (contents_at s at) stop
    && length_shortest s at
    && leb (contents_at s at + length_at s at) stop

-- the element at a place
unfoldable pub element_at : List ℕ → ℕ → ℕ → Element
element_at s at stop =
    elim (headed s at stop) [
      | true ↦ record { valid = true; tag = octet s at; at = at; start = contents_at s at; stop = contents_at s at + length_at s at }
      | false ↦ absent at
    ]

-- the elements of a run, one after the other from `at` on up to `stop`; one whose header breaks a rule is the last. (n bounds their number: an element has two
-- octets at least, so stop - at is enough; the difference is cut off at 0, where the window holds nothing.)
unfoldable pub elements_from : ℕ → List ℕ → ℕ → ℕ → List Element
elements_from zero s at stop = []
elements_from (suc n) s at stop =
    let e = element_at s at stop in
    elim (ltb at stop) [
      | false ↦ []
      | true ↦ elim e.valid [ false ↦ e ∷ [] | true ↦ e ∷ elements_from n s e.stop stop ]
    ]

unfoldable pub elements : List ℕ → ℕ → ℕ → List Element
elements s at stop = elements_from (stop - at) s at stop

-- the octets of an element: all of them, and its contents
abbrev pub encoding : List ℕ → Element → List ℕ
encoding s e = slice s e.at e.stop

abbrev pub contents : List ℕ → Element → List ℕ
contents s e = slice s e.start e.stop

-- the element that octets by themselves are
abbrev pub root : List ℕ → Element
root s = element_at s 0 (length s)

-- the elements inside an element
abbrev pub inside : List ℕ → Element → List Element
inside s e = elements s e.start e.stop

-- X.690, 8.1.2.5
abbrev pub constructed : ℕ → Bool
constructed tag = eqb (tag / 32 % 2) 1

-- the first of the elements that has the tag
unfoldable pub with_tag : ℕ → List Element → Element
with_tag t [] = absent 0
with_tag t (e ∷ es) = elim (eqb e.tag t) [ true ↦ e | false ↦ with_tag t es ]

-- the first field with the tag in an element, and the first after another field
abbrev pub field : ℕ → List ℕ → Element → Element
field t s e = with_tag t (inside s e)

abbrev pub field_after : ℕ → List ℕ → Element → Element → Element
field_after t s e f = with_tag t (elements s f.stop e.stop)
