-- An image that breaks no rule is read as its store, and judged so.
use Rattle.std.specs.Prelude.{Some, Result, Ok, Err}
use Rattle.message.specs.declared.Request.{Request}
use Rattle.envelope.specs.declared.Refusal.{Refusal}
use Prim.Native.Nat.{ℕ, ◌<◌}
use native.Mathlib.Omega.{arith}
use mathlib.Core.List.{List}
use mathlib.Core.Path.{◌≡◌, refl, ap, ap₂, ◌∙◌}
use lib.ListN.{length, length-map}
use Rattle.der.specs.Element.{contents}
use Rattle.store.specs.Store.{Store, anchors}
use Rattle.store.specs.Image.{decode}
use Rattle.store.specs.Records.{records_of}
use Rattle.store.specs.Contract.Parts.{anchor_in}
use Rattle.store.specs.Signer.{signer}
use Rattle.store.proofs.Parts.{parts, identifiers_of}
use Rattle.message.specs.Rows.{received}
use Rattle.protocol.specs.Acceptance.{by_signer, judgement_of, judgement}
use Rattle.accept.specs.Contract.Judged.{store_in, judged_of, judged_in}
use Rattle.accept.proofs.Anchors.{anchors_are}

module _ (image : List ℕ) (σ : Store) (d : decode image ≡ Some σ) where
  pub store_read : store_in image ≡ σ
  unfolding store_in
  store_read =
      let p = parts image σ d in
      let h : 0 < length (records_of image) = omega (arith, ap length p.anchors_are, length-map (records_of image) anchor_in) in
      let all : anchors (store_in image) ≡ anchors σ = anchors_are image 0 h ∙ p.anchors_are in
      let apex : (store_in image).apex ≡ σ.apex = cc in
      let others : (store_in image).others ≡ σ.others = cc in
      rw (p.hw_type, p.serial, apex, others, p.communities)

  judged_of_lem : (verdict s : List ℕ) (r : Result Request Refusal) → judged_of image verdict s r ≡ judgement_of σ verdict s r
  unfolding judged_of judgement_of
  judged_of_lem verdict s (Err r) = refl
  judged_of_lem verdict s (Ok q) =
      ap₂ (λ (σ : Store) (ids : List (List ℕ)). by_signer σ s q (signer ids verdict (contents s q.signer))) store_read (identifiers_of image σ d)

  pub judged-store : (verdict s : List ℕ) → judged_in image verdict s ≡ judgement σ verdict s
  unfolding judged_in judgement
  judged-store verdict s = judged_of_lem verdict s (received s)
