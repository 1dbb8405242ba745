-- The rows 10, 16, 38, 23, 11 and 21, one way through them at a time.
use Rattle.std.specs.Prelude.{Option, Result, Ok, Err}
use Rattle.std.specs.Result.{MatchResult, IsErrAnd}
use Rattle.store.specs.declared.NoSigner.TheVariants.{Unverified, Unknown}
use Rattle.store.specs.declared.NoSigner.{NoSigner}
use Prim.Native.Nat.{ℕ, ◌<◌}
use native.Mathlib.Omega.{arith}
use mathlib.Core.Bool.{Bool, false, not}
use mathlib.Core.List.{List, map}
use mathlib.Core.Path.{◌≡◌, refl, sym, ap}
use lib.ListN.{length, length-map}
use Rattle.der.specs.Fit.{applies_if}
use Rattle.rights.specs.Rights.{Rights}
use Rattle.rights.proofs.Within.{apex}
use Rattle.store.specs.Records.{records_of}
use Rattle.store.specs.Contract.Parts.{record_at, identifier_in, number_in}
use Rattle.store.specs.Signer.{signer}
use Rattle.envelope.specs.declared.Refusal.{Refusal}
use Rattle.message.specs.declared.Request.{Request}
use Rattle.protocol.specs.Acceptance.{found_status, message_content, row_11, row_21, refusal_of, by_signer, rights_at, number_at}
use Rattle.accept.specs.declared.Signer.{Signer}
use Rattle.accept.specs.Contract.Signer.{signer_at, signer_rights}
use Rattle.accept.specs.Contract.Judged.{store_in}
use Rattle.accept.proofs.Anchors.{signer-below, number_at_lem, rights_at_lem}

-- 11: the apex
pub apex_may : (image s : List ℕ) (q : Request) (w : Signer) → w.position ≡ 0 → applies_if false ≡ row_11 (signer_rights image w) s q
unfolding row_11 signer_rights
apex_may image s q w e = rw (e, signer_rights) (sym (ap (λ (b : Bool). applies_if (not b)) (apex (message_content s q))))

-- 11 and 21, by what stands at the signer's position
module _ (image : List ℕ) (i : ℕ) (below : i < length (records_of image)) {w : Signer} (at : w ≡ signer_at image i) (s : List ℕ) (q : Request) where
  pub row_11_at : row_11 (signer_rights image w) s q ≡ row_11 (rights_at (store_in image) i) s q
  row_11_at = rw at (ap (λ (x : Rights). row_11 x s q) (rights_at_lem image i below))

  pub row_21_at : row_21 (number_in (record_at image w.place)) q ≡ row_21 (number_at (store_in image) i) q
  row_21_at = rw at (ap (λ (x : Option ℕ). row_21 x q) (number_at_lem image i below))

-- a signer that is found stands at a record
pub found_record : (image verdict wanted : List ℕ) {i : ℕ} → signer (map identifier_in (records_of image)) verdict wanted ≡ Ok i → i < length (records_of image)
found_record image verdict wanted {i} a =
    let ids = map identifier_in (records_of image) in
    omega (arith, signer-below verdict wanted i ids a, length-map (records_of image) identifier_in)

-- 10 and 16: a signer that is missed
pub by_missed : (image s : List ℕ) (q : Request) (m : NoSigner) → by_signer (store_in image) s q (Err m) ≡ Err (refusal_of q (found_status (Err m)) 0)
unfolding by_signer
by_missed image s q Unverified = refl
by_missed image s q Unknown = refl

-- what `map_err` leaves of a search that finds one
pub found : (Q : NoSigner → Refusal → Type 0) (f : Result ℕ NoSigner) {r : Result ℕ Refusal} {i : ℕ} → MatchResult f (λ x. r ≡ Ok x) (λ m. IsErrAnd r (Q m)) → r ≡ Ok i → f ≡ Ok i
found Q (Ok x) h e = cc
found Q (Err m) {r} h e = absurd (rw e at h)
