-- 01, Answers: "The signer is the first anchor with the identifier and verdict 1."
use Rattle.store.specs.declared.NoSigner.TheVariants.{Unverified, Unknown}
use Rattle.store.specs.declared.NoSigner.{NoSigner}
use Rattle.std.specs.Prelude.{ℕ, suc, true, false, List, [], ◌∷◌, eqb, Result, Ok, Err}
use Rattle.octets.specs.Octets.{same, octet}

-- the signer's position, where an identifier and a verdict are given for each anchor ("one octet per anchor, in store order"); without one, whether any anchor has
-- the identifier: 10 or 16.
-- It reads identifiers and verdict alone.
unfoldable pub signer_from : ℕ → List (List ℕ) → List ℕ → List ℕ → Result ℕ NoSigner → Result ℕ NoSigner
signer_from i [] verdict wanted missed = missed
signer_from i (k ∷ ids) verdict wanted missed =
    elim (same k wanted) [
      | false ↦ signer_from (suc i) ids verdict wanted missed
      | true ↦ elim (eqb (octet verdict i) 1) [ true ↦ Ok i | false ↦ signer_from (suc i) ids verdict wanted (Err Unverified) ]
    ]

unfoldable pub signer : List (List ℕ) → List ℕ → List ℕ → Result ℕ NoSigner
signer ids verdict wanted = signer_from 0 ids verdict wanted (Err Unknown)
