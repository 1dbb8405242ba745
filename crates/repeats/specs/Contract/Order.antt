-- Places of members, sorted by key, as a search reads them. Nothing is asked of them: whatever they are, they lead from equal keys to one place, so a key that
-- leads to a place after all that the keys before it lead to is none of them.
use Rattle.std.specs.Prelude.{ℕ, zero, suc, ◌+◌, ◌-◌, ◌/◌, ◌<◌, Bool, true, false, not, ◌&&◌, ◌||◌, List, ◌≡◌, length, get_or, eqb, leb}
use Rattle.octets.specs.Octets.{member, ordered}
use Rattle.der.specs.Element.{element_at}
use Rattle.der.specs.declared.Compared.{Compared}
use Rattle.der.specs.declared.Element.{Element}
use Rattle.der.specs.Keys.{key_of, keys_in}
use Rattle.repeats.specs.declared.Sorted.{Sorted}

-- few members: there is no list, or both stand in 128 octets
abbrev pub octets_in : Element → ℕ
octets_in e = e.stop - e.start

unfoldable pub are_few : Element → Element → Bool
are_few head list = eqb (octets_in list) 0 || (leb (octets_in list) 128 && leb (octets_in head) 128)

-- how many cells there are
abbrev pub cells : ℕ
cells = 4_096

-- the key of the member at a place
abbrev pub key_at : Compared → List ℕ → ℕ → List ℕ
key_at by s place = key_of by s (element_at s place (length s))

-- a cell has a member, whose key stands before k
unfoldable pub is_before : Compared → List ℕ → List ℕ → List ℕ → ℕ → Bool
is_before by s order k i = not (eqb (get_or order i 0) 0) && not (ordered k (key_at by s (get_or order i 0)))

-- how many cells, from the second on, come before: its digits to the base 2, `left` of them, the first of this weight
unfoldable pub step : (ℕ → Bool) → ℕ → ℕ → ℕ
step before weight low = elim (before (low + weight)) [ true ↦ low + weight | false ↦ low ]

unfoldable pub find : (ℕ → Bool) → ℕ → ℕ → ℕ → ℕ
find before zero weight low = low
find before (suc left) weight low = find before left (weight / 2) (step before weight low)

-- the place that a key leads to
abbrev pub led_to : Compared → List ℕ → List ℕ → List ℕ → ℕ
led_to by s order k = get_or order (find (is_before by s order k) 12 2048 0 + 1) 0

-- these keys lead to places before this one
abbrev pub Below : (List ℕ → ℕ) → ℕ → List (List ℕ) → Type 0
Below led place keys = (k : List ℕ) → member k keys ≡ true → led k < place

-- the same of the places, octets and keys that stand together
abbrev pub precedes : Sorted → List ℕ → ℕ → Bool
precedes x = is_before x.by x.octets.now x.order.now

abbrev pub leads : Sorted → List ℕ → ℕ
leads x = led_to x.by x.octets.now x.order.now

abbrev pub keys : Sorted → Element → List (List ℕ)
keys x = keys_in x.by x.octets.now
