-- The signer's position, and what stands there in the store that octets are read as.
use Rattle.std.specs.Prelude.{Result, Ok, Err}
use Rattle.store.specs.declared.NoSigner.TheVariants.{Unverified, Unknown}
use Rattle.store.specs.declared.NoSigner.{NoSigner}
use Prim.Native.Nat.{ℕ, zero, suc, ◌+◌, ◌<◌}
use native.Mathlib.Omega.{arith}
use mathlib.Core.List.{List, [], ◌∷◌, map}
use mathlib.Core.Path.{◌≡◌, refl, sym, ap, ◌∙◌}
use lib.ListN.{length, drop, get_or, length-map}
use lib.Dec.{eqb}
use borrow.Author.Tests.{ne_eqb}
use Rattle.octets.specs.Octets.{same, octet}
use Rattle.octets.proofs.Lists.{by_test}
use Rattle.rights.specs.Rights.{nothing}
use Rattle.rights.specs.Constraints.{constraints_rights}
use Rattle.anchor.specs.Info.{rights_of}
use Rattle.anchor.proofs.Rights.{value_rights}
use Rattle.store.specs.Store.{Anchor, Store, anchors, identifier_of, identifiers}
use Rattle.store.specs.Records.{records_of}
use Rattle.store.specs.Contract.Parts.{anchor_count, first_record, record_at, number_in, anchor_in}
use Rattle.store.specs.Signer.{signer_from, signer}
use Rattle.store.proofs.Walk.{records_of_lem}
use Rattle.protocol.proofs.Signers.{first_here, first_unverified, first_other}
use Rattle.store.proofs.Parts.{records_count, record_at_position}
use Rattle.protocol.specs.Acceptance.{rights_at, number_at}
use Rattle.protocol.proofs.Lists.{get_d_made}
use Rattle.accept.specs.declared.Signer.{Signer}
use Rattle.accept.specs.Contract.Signer.{signer_at, signer_constraints, signer_rights}
use Rattle.accept.specs.Contract.Judged.{store_in}

-- the signer's position is that of an anchor
module _ (verdict wanted : List ℕ) (j : ℕ) where
  below-from : (i : ℕ) (ids : List (List ℕ)) (missed : Result ℕ NoSigner) → (missed ≡ Ok j → ⊥) → signer_from i ids verdict wanted missed ≡ Ok j → j < i + length ids
  unfolding signer_from
  below-from i [] missed n e = absurd (n e)
  below-from i (k ∷ ids) missed n e =
      by_test (same k wanted)
      (λ t.
      by_test (eqb (octet verdict i) 1)
      (λ u. let h = sym (first_here i k ids verdict wanted missed t u) ∙ e in let z : i ≡ j = cc in omega arith)
      (λ u.
      let h = below-from (suc i) ids (Err Unverified) (λ h. cc) (sym (first_unverified i k ids verdict wanted missed t u) ∙ e) in
      omega arith))
      (λ t.
      let h = below-from (suc i) ids missed n (sym (first_other i k ids verdict wanted missed t) ∙ e) in
      omega arith)

  pub signer-below : (ids : List (List ℕ)) → signer ids verdict wanted ≡ Ok j → j < length ids
  unfolding signer
  signer-below ids e = let h = below-from 0 ids (Err Unknown) (λ h. cc) e in omega arith

  pub signer_anchor : (σ : Store) → signer (identifiers σ) verdict wanted ≡ Ok j → j < length (anchors σ)
  signer_anchor σ e = omega (arith, signer-below (identifiers σ) e, length-map (anchors σ) identifier_of)

-- the first record is the apex
listed : (l : List (List ℕ)) → 0 < length l → anchor_in (get_or l 0 []) ∷ map anchor_in (drop 1 l) ≡ map anchor_in l
listed [] h = absurd (omega arith)
listed (r ∷ l) h = refl

-- what stands at a record's position
module _ (image : List ℕ) (i : ℕ) (h : i < length (records_of image)) where
  pub anchors_are : anchors (store_in image) ≡ map anchor_in (records_of image)
  unfolding store_in
  anchors_are = listed (records_of image) (omega arith)

  anchor_at : anchor_in (record_at image (signer_at image i).place) ≡ get_or (anchors (store_in image)) i (store_in image).apex
  unfolding signer_at
  anchor_at =
      let n = records_count (anchor_count image) (drop (first_record image) image) in
      ap anchor_in (sym (record_at_position image i (omega (arith, n, ap length (records_of_lem image)))))
      ∙ sym (get_d_made anchor_in (records_of image) i [] (store_in image).apex h)
      ∙ ap (λ (l : List Anchor). get_or l i (store_in image).apex) (sym anchors_are)

  pub number_at_lem : number_in (record_at image (signer_at image i).place) ≡ number_at (store_in image) i
  number_at_lem = ap (λ (a : Anchor). a.number) anchor_at

  -- its own rights, by its content constraints
  own_rights : constraints_rights (signer_constraints image (signer_at image i)) ≡ rights_of (get_or (anchors (store_in image)) i (store_in image).apex).info
  unfolding signer_at
  own_rights = value_rights _ ∙ ap (λ (a : Anchor). rights_of a.info) anchor_at

pub other_rights : (image : List ℕ) (w : Signer) → (w.position ≡ 0 → ⊥) → signer_rights image w ≡ constraints_rights (signer_constraints image w)
unfolding signer_rights
other_rights image w n = rw (ne_eqb _ _ n, signer_rights)

pub rights_at_lem : (image : List ℕ) (i : ℕ) → i < length (records_of image) → signer_rights image (signer_at image i) ≡ rights_at (store_in image) i
unfolding signer_rights signer_at
rights_at_lem image zero h = refl
rights_at_lem image (suc i) h =
    let n = ap length (anchors_are image (suc i) h) ∙ length-map (records_of image) anchor_in in
    other_rights image (signer_at image (suc i)) (λ e. let z : suc i ≡ 0 = e in omega arith)
    ∙ own_rights image (suc i) h
    ∙ sym (get_d_made (λ a. rights_of a.info) (store_in image).others i (store_in image).apex nothing (omega (arith, n)))
