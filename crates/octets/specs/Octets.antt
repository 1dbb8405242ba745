-- Octet strings. An octet string is a list of numbers below 256; a definition that leans on that bound says so.
use Rattle.std.specs.Prelude.{ℕ, ◌+◌, ◌-◌, ◌<◌, Bool, true, false, ◌&&◌, ◌||◌, List, [], ◌∷◌, ◌++◌, length, get_or, take, drop, eqb, ltb}
use Rattle.octets.specs.Lists.{any_of, distinct_by}

-- what a slice holds: every member is below 256
abbrev pub Octets : List ℕ → Type 0
Octets s = (i : ℕ) → get_or s i 0 < 256

-- the octet at a place, 0 after the end
abbrev pub octet : List ℕ → ℕ → ℕ
octet s i = get_or s i 0

-- the octets from place a up to place e, none where e is not above a (there e - a is 0)
abbrev pub slice : List ℕ → ℕ → ℕ → List ℕ
slice s a e = take (e - a) (drop a s)

-- two octet strings are equal ("Values compare as octets")
unfoldable pub same : List ℕ → List ℕ → Bool
same [] [] = true
same [] (y ∷ t) = false
same (x ∷ s) [] = false
same (x ∷ s) (y ∷ t) = eqb x y && same s t

unfoldable pub member : List ℕ → List (List ℕ) → Bool
member k l = any_of (same k) l

-- no two are equal
unfoldable pub distinct : List (List ℕ) → Bool
distinct l = distinct_by same l

-- X.690, 11.6: s does not stand after t in the order of a SET OF, octet by octet. The padding with zeros that X.690 names never decides between encodings,
-- since none is a proper beginning of another.
unfoldable pub ordered : List ℕ → List ℕ → Bool
ordered [] t = true
ordered (x ∷ s) [] = false
ordered (x ∷ s) (y ∷ t) = ltb x y || (eqb x y && ordered s t)

-- d with s in it from place at on: what a buffer holds after a write
unfoldable pub placed : List ℕ → ℕ → List ℕ → List ℕ
placed d at s = take at d ++ (s ++ drop (at + length s) d)

-- 01, Answers: what a lent buffer holds after the call: what was written, then what stood after it
abbrev pub written : List ℕ → List ℕ → List ℕ
written old new = placed old 0 new
