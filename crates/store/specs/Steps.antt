-- The steps of 01, After acceptance, on a store.
use Rattle.std.specs.Prelude.{ℕ, List, Some, None}
use Rattle.store.specs.Store.{Anchor, Store}

abbrev pub with_others : List Anchor → Store → Store
with_others l σ = record { device = σ.device; apex = σ.apex; others = l; communities = σ.communities }

abbrev pub with_communities : List (List ℕ) → Store → Store
with_communities l σ = record { device = σ.device; apex = σ.apex; others = σ.others; communities = l }

-- "appended without a number", and an anchor whose number is set
abbrev pub unnumbered : List ℕ → Anchor
unnumbered info = record { number = None; info = info }

abbrev pub numbered : ℕ → Anchor → Anchor
numbered n a = record { number = Some n; info = a.info }
