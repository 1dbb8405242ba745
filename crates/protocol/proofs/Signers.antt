-- The search for the signer, an anchor with the identifier k before the others.
use Rattle.std.specs.Prelude.{Result, Ok, Err}
use Prim.Native.Nat.{ℕ, suc}
use mathlib.Core.Bool.{true, false}
use mathlib.Core.List.{List, ◌∷◌}
use mathlib.Core.Path.{◌≡◌}
use lib.Dec.{eqb}
use Rattle.octets.specs.Octets.{same, octet}
use Rattle.store.specs.declared.NoSigner.{NoSigner}
use Rattle.store.specs.declared.NoSigner.TheVariants.{Unverified}
use Rattle.store.specs.Signer.{signer_from}

module _ (i : ℕ) (k : List ℕ) (ids : List (List ℕ)) (verdict wanted : List ℕ) (missed : Result ℕ NoSigner) where
  pub first_here : same k wanted ≡ true → eqb (octet verdict i) 1 ≡ true → signer_from i (k ∷ ids) verdict wanted missed ≡ Ok i
  unfolding signer_from
  first_here e f = rw (e, f, signer_from)

  pub first_unverified : same k wanted ≡ true → eqb (octet verdict i) 1 ≡ false
      → signer_from i (k ∷ ids) verdict wanted missed ≡ signer_from (suc i) ids verdict wanted (Err Unverified)
  unfolding signer_from
  first_unverified e f = rw (e, f, signer_from)

  pub first_other : same k wanted ≡ false → signer_from i (k ∷ ids) verdict wanted missed ≡ signer_from (suc i) ids verdict wanted missed
  unfolding signer_from
  first_other e = rw (e, signer_from)
