-- The steps by which the code reads: the length octets of an element, the next element of a run, the arcs of an OID.
use Rattle.std.specs.Prelude.{ℕ, ◌+◌, ◌-◌, Bool, true, false, ◌||◌, List, leb, ltb, eqb, Option, Some, None}
use Rattle.octets.specs.Octets.{octet}
use Rattle.der.specs.declared.Element.{Element}
use Rattle.der.specs.Element.{length_at, contents_at}

-- where the contents begin and how many octets they are, unless they pass the window's end
unfoldable pub length_in : List ℕ → ℕ → ℕ → Option (ℕ × ℕ)
length_in s at stop =
    elim (leb (contents_at s at + length_at s at) stop) [ true ↦ Some (contents_at s at, length_at s at) | false ↦ None ]

-- where a run goes on after e: nothing is read after a header that breaks a rule
unfoldable pub next_at : Element → ℕ → ℕ
next_at e stop = elim e.valid [ true ↦ e.stop | false ↦ stop ]

-- an arc begins at the octet i: the first does, and one after the last octet of another
abbrev pub arc_begins : List ℕ → ℕ → Bool
arc_begins o i = eqb i 0 || ltb (octet o (i - 1)) 128
