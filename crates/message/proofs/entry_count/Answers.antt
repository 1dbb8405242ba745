-- `message::entry_count` meets its contract. Assumes nothing.
use Prim.Native.Nat.{ℕ, ◌-◌, ◌≤◌}
use native.Mathlib.Omega.{arith}
use mathlib.Core.List.{List}
use mathlib.Core.Logic.{inl}
use mathlib.Core.Path.{refl, ap}
use lib.ListN.{length}
use Rattle.std.proofs.lemmas.Iterator.Consumers.{YieldsList-from_rest, count_from_yields_List}
use Rattle.der.specs.Element.{elements}
use Rattle.der.proofs.Elements.{valid_within, elements_end, elements_broken, elements_turn}
use Rattle.der.proofs.Runs.{by_run}
use Rattle.message.proofs.entry_count.Goals as goal

-- an element has an octet at least
few_elements : (s : List ℕ) (stop at : ℕ) → length (elements s at stop) ≤ stop - at
few_elements s stop =
    by_run s stop (λ at. length (elements s at stop) ≤ stop - at)
    (λ at h. omega (arith, ap length (elements_end s at stop h)))
    (λ at h g. omega (arith, ap length (elements_broken s at stop refl h g)))
    (λ at g k. omega (arith, k, valid_within s at stop refl g, ap length (elements_turn s at stop refl g)))

pub count-requires-clause-fits : goal.count-requires-clause-fits
count-requires-clause-fits c =
    let a = c.args in
    inl (omega (arith, ap length c.inside.ensures, few_elements a.s.now a.e.stop a.e.start))

pub returns : goal.returns
returns c = count_from_yields_List _ _ c.count.ensures.ran (YieldsList-from_rest _ c.inside.ensures)
