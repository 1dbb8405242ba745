-- Words as octets, and octets written in hex.
use Rattle.std.specs.Prelude.{ℕ, zero, suc, ◌+◌, ◌-◌, ◌*◌, true, false, List, [], ◌∷◌, ltb, leb}
use Prim.Native.Char.{code}
use Prim.Native.String.{String, len, char_at}
use Rattle.octets.specs.Lists.{filter}

unfoldable pub codes_from : ℕ → ℕ → String → List ℕ
codes_from zero i t = []
codes_from (suc n) i t = code (char_at t i) ∷ codes_from n (suc i) t

-- the codes of a text, of ASCII characters alone
unfoldable pub ascii : String → List ℕ
ascii t = codes_from (len t) 0 t

-- the value of a hex digit, 0 to 9 and A to F
unfoldable pub digit_value : ℕ → ℕ
digit_value c = elim (ltb c 65) [ true ↦ c - 48 | false ↦ c - 55 ]

unfoldable pub digit_pairs : List ℕ → List ℕ
digit_pairs [] = []
digit_pairs (x ∷ []) = []
digit_pairs (x ∷ y ∷ s) = (digit_value x * 16 + digit_value y) ∷ digit_pairs s

-- octets as the papers write them: two digits each, blanks and line ends between them passed over
unfoldable pub octets_of : String → List ℕ
octets_of t = digit_pairs (filter (leb 48) (ascii t))
