-- The one edit of an image: a part of it is replaced by other octets, and what follows moves.
use Rattle.std.specs.Prelude.{ℕ, ◌+◌, List, [], ◌∷◌, ◌++◌, take, drop}
use Rattle.store.specs.Store.{Store}
use Rattle.store.specs.Steps.{with_others, unnumbered}

-- the n octets from place at on become new. (`placed` replaces as many octets as it writes.)
unfoldable pub replaced : List ℕ → ℕ → ℕ → List ℕ → List ℕ
replaced s at n new = take at s ++ (new ++ drop (at + n) s)

-- items of a section: its count, at place countAt, becomes k
unfoldable pub recounted : List ℕ → ℕ → ℕ → ℕ → ℕ → List ℕ → List ℕ
recounted s countAt k at n new = replaced (replaced s countAt 1 (k ∷ [])) at n new

-- the store with an anchor more (01, add: "appended without a number")
abbrev pub one_more : List ℕ → Store → Store
one_more info σ = with_others (σ.others ++ (unnumbered info ∷ [])) σ
