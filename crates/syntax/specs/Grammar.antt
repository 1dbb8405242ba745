-- Syntax as data: what may stand in a window of octets, and the one definition of matching.
use Rattle.std.specs.Prelude.{ℕ, Bool, true, false, not, ◌&&◌, List, [], ◌∷◌, length, ltb, leb, eqb, Ok, Err}
use Rattle.octets.specs.Limits.{max_number}
use Rattle.octets.specs.Octets.{octet, slice, same}
use Rattle.octets.specs.Number.{number}
use Rattle.der.specs.Element.{element_at, elements}
use Rattle.der.specs.Fit.{and_then, held, each, Fit}
use Rattle.der.specs.Contents.{integer_ok}

-- what a type asks of its contents as a whole. The rules of the universal tags are those of status 1 and are not asked again: these are
-- sizes, values, and the rules of types that a context tag hides (01, DER: "types hidden by context tags, belong to the status of their reader")
pub data Rule : Type 0 where
  -- SIZE (1..MAX)
  not_empty : Rule
  -- SIZE (1..n)
  size_to : (n : ℕ) → Rule
  -- NULL
  empty : Rule
  -- these octets and no others
  equals : (o : List ℕ) → Rule
  -- an INTEGER hidden by a context tag, other than the default n ("default values omitted")
  integer_but : (n : ℕ) → Rule
  -- an INTEGER from 0 to max_number
  seq_number : Rule

unfoldable pub obeyed : Rule → List ℕ → Bool
obeyed not_empty o = leb 1 (length o)
obeyed (size_to n) o = leb 1 (length o) && leb (length o) n
obeyed empty o = same o []
obeyed (equals c) o = same o c
obeyed (integer_but n) o = integer_ok o && not (same o (n ∷ []))
-- not negative, and at most max_number; its shortest form (status 1) has 8 octets at most
obeyed seq_number o = leb (length o) 8 && (ltb (octet o 0) 128 && leb (number o) max_number)

-- what may stand in a window
pub data Syntax : Type 0 where
  -- whatever stands there
  free : Syntax
  -- no element more
  end : Syntax
  -- as g says, and as a whole by a rule
  obeys : (r : Rule) (g : Syntax) → Syntax
  -- an element with this tag and contents as g says, if one stands there; then next
  optional : (tag : ℕ) (g next : Syntax) → Syntax
  -- one element, which by itself is a window for g; then next
  one : (g next : Syntax) → Syntax
  -- an element with any tag, if one stands there; then next (ANY OPTIONAL)
  any_optional : (next : Syntax) → Syntax
  -- elements up to the end, each by itself a window for g (SEQUENCE OF, SET OF)
  many : (g : Syntax) → Syntax

-- at a place of a window: no element is left, what stands there is none, or one stands there
abbrev pub by_element : Bool → ℕ → Bool → Fit → Fit → Fit
by_element room at valid none there = elim room [ false ↦ none | true ↦ elim valid [ false ↦ Err at | true ↦ there ] ]

-- Whether the window [at, stop), the contents of the element at `outer`, is as the syntax says. 02, E3: an element that may not stand at its place is charged itself, a missing part
-- to the element that lacks it.
unfoldable pub fit : Syntax → List ℕ → ℕ → ℕ → ℕ → Fit
fit free s at stop outer = Ok tt
fit end s at stop outer = held at (leb stop at)
fit (obeys r g) s at stop outer = and_then (fit g s at stop outer) (held outer (obeyed r (slice s at stop)))
fit (optional t g next) s at stop outer =
    let e = element_at s at stop in
    by_element (ltb at stop) at e.valid (fit next s at stop outer)
    (elim (eqb e.tag t) [
      | false ↦ fit next s at stop outer
      | true ↦ and_then (fit g s e.start e.stop at) (fit next s e.stop stop outer)
    ])
fit (one g next) s at stop outer =
    let e = element_at s at stop in
    by_element (ltb at stop) at e.valid (Err outer) (and_then (fit g s at e.stop outer) (fit next s e.stop stop outer))
fit (any_optional next) s at stop outer =
    let e = element_at s at stop in
    by_element (ltb at stop) at e.valid (fit next s at stop outer) (fit next s e.stop stop outer)
fit (many g) s at stop outer = each (λ former e. fit g s e.at e.stop outer) (elements s at stop)

-- a field that must be there
abbrev pub required : ℕ → Syntax → Syntax → Syntax
required t g next = one (optional t g end) next

-- in a window of one element: this tag, with contents as g says
abbrev pub tagged : ℕ → Syntax → Syntax
tagged t g = optional t g end

-- a CHOICE, in a window of one element: an alternative by its tag, with contents as g says, or one of the others; after the last, no other.
-- (Where the element was one of them, nothing is left in the window, and the others pass.)
abbrev pub alternative : ℕ → Syntax → Syntax → Syntax
alternative t g others = optional t g others

abbrev pub no_other : Syntax
no_other = end
