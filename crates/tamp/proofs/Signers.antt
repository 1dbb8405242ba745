-- What acceptance knows of the message that it decided on.
use Rattle.std.specs.Prelude.{Some, Result, Ok, Err}
use Rattle.accept.specs.declared.Signer.{Signer}
use Rattle.message.specs.declared.Request.{Request}
use Rattle.envelope.specs.declared.Refusal.{Refusal}
use Prim.Native.Nat.{ℕ}
use mathlib.Core.List.{List}
use mathlib.Core.Path.{◌≡◌, refl, ap, ◌∙◌}
use Rattle.octets.specs.Octets.{Octets}
use Rattle.der.specs.Element.{contents}
use Rattle.store.specs.Store.{Store}
use Rattle.store.specs.Image.{decode}
use Rattle.message.proofs.Asked.{asked_number}
use Rattle.protocol.specs.Acceptance.{judgement}
use Rattle.protocol.proofs.Answer.{accepted_signer}
use Rattle.accept.specs.Contract.Signer.{signer_at}
use Rattle.accept.specs.Contract.Judged.{judged_in, located}
use Rattle.accept.proofs.Anchors.{signer_anchor}
use Rattle.accept.proofs.OfStore.{judged-store}
use Rattle.apply.proofs.Signing.{image_short}
use Rattle.protocol.specs.Call.{answer_of, guarded}
use Rattle.tamp.specs.Left.{CallResult, result_for}
use Rattle.tamp.specs.Contract.Given as goal
use Rattle.tamp.specs.Contract.Given.{Rooms, Stored, Known}

-- a judgement that is handed on stays the judgement
judgement_back : (image : List ℕ) (x : Result (Request × ℕ) Refusal) → goal.as_judgement (located image x) ≡ x
unfolding located signer_at
judgement_back image (Err r) = refl
judgement_back image (Ok (q, i)) = refl

module _ (s image verdict : List ℕ) {j : Result (Request × Signer) Refusal} where
  -- an image that decodes is judged by its store
  by_store : j ≡ located image (judged_in image verdict s) → (σ : Store) → decode image ≡ Some σ → j ≡ located image (judgement σ verdict s)
  by_store f σ d = f ∙ ap (located image) (judged-store image σ d verdict s)

  -- the answer to what acceptance handed on is the answer to its judgement
  pub answered_by : j ≡ located image (judged_in image verdict s) → {x : CallResult} (reply next : List ℕ)
      → ((σ : Store) → decode image ≡ Some σ → x ≡ result_for (guarded (answer_of s image σ (goal.as_judgement j))) reply next)
      → (σ : Store) → decode image ≡ Some σ → x ≡ result_for (guarded (answer_of s image σ (judgement σ verdict s))) reply next
  answered_by f reply next h σ d =
      h σ d
      ∙ ap (λ (v : Result (Request × ℕ) Refusal). result_for (guarded (answer_of s image σ v)) reply next) (ap goal.as_judgement (by_store f σ d) ∙ judgement_back image (judgement σ verdict s))

  pub known : Octets s → Octets image → j ≡ located image (judged_in image verdict s)
      → {reply next : List ℕ} → Rooms s reply next → Stored image → Known s j image next
  unfolding located signer_at
  known os oi f {reply} {next} rooms g = rw (by_store f g.store g.decodes) (go (judgement g.store verdict s) refl)
    where
      go : (x : Result (Request × ℕ) Refusal) → judgement g.store verdict s ≡ x → Known s (located image x) image next
      go (Err r) e = (image_short image g.store oi g.decodes, rooms.next)
      go (Ok (q, i)) e =
          let asks = accepted_signer g.store s verdict e in (
            asks.0,
            record {
              store = g.store;
              decodes = g.decodes;
              signer = refl;
              inside = signer_anchor verdict (contents s q.signer) i g.store asks.1;
              small = asked_number s q asks.0 os;
              room = rooms.next;
            },
          )
