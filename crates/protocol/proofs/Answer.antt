-- What an answered call did: it refused the message and left the image, or accepted it and wrote the store that its effect has.
use Rattle.std.specs.Prelude.{Option, Some, None, Result, Ok, Err}
use Rattle.store.specs.declared.NoSigner.TheVariants.{Unverified, Unknown}
use Rattle.store.specs.declared.NoSigner.{NoSigner}
use Prim.Native.Nat.{ℕ}
use mathlib.Core.Bool.{Bool}
use mathlib.Core.List.{List}
use mathlib.Core.Path.{◌≡◌, refl, sym, ap, ◌∙◌}
use Rattle.octets.specs.declared.Status.{Status}
use Rattle.octets.specs.First.{given_if}
use Rattle.der.specs.Fit.{given_at, Fit}
use Rattle.der.proofs.Fits.{past_row}
use Rattle.der.specs.Element.{contents}
use Rattle.store.specs.Store.{Store, identifiers}
use Rattle.store.specs.Signer.{signer}
use Rattle.store.specs.Image.{encode, decode}
use Rattle.envelope.specs.declared.Refusal.{Refusal}
use Rattle.message.specs.declared.Request.{Request}
use Rattle.message.specs.Rows.{received}
use Rattle.protocol.specs.Acceptance.{judged_at, by_signer, judgement_of, judgement}
use Rattle.protocol.specs.Effect.{effect}
use Rattle.protocol.specs.Call.{Outcome, refused, answered, answer_of, guarded, call_on, call_of, call}
use Rattle.protocol.proofs.Lists.{given-next}
use Rattle.protocol.proofs.Accepted.{ok_pair}

-- a refusal is no answer
pub refused≢answered : {n : Status} {status : Status} {offset : ℕ} {reply next : List ℕ} → refused n ≡ answered status offset reply next → ⊥
refused≢answered e = cc

module _ (s image verdict : List ℕ) (reply_lent next_lent : ℕ) {status : Status} {offset : ℕ} {reply next : List ℕ} where
  -- the answer of a call that no house refusal ended
  answer_of_lem : (σ : Store) → call_on σ s image verdict reply_lent next_lent ≡ answered status offset reply next
      → answer_of s image σ (judgement σ verdict s) ≡ answered status offset reply next
  unfolding call_on guarded
  answer_of_lem σ e = house _ _ _ (house _ _ _ (house _ _ _ (house _ _ _ e)))
    where
      house : (b : Bool) (n : Status) (o : Outcome) → given_if b (refused n) o ≡ answered status offset reply next → o ≡ answered status offset reply next
      house b n o e = given-next b (refused n) o refused≢answered e

  -- it read a store from the image
  pub answered_store : call s image verdict reply_lent next_lent ≡ answered status offset reply next → (σ : Store) × (decode image ≡ Some σ)
  unfolding call call_of
  answered_store e = go (decode image) refl e
    where
      go : (o : Option Store) → decode image ≡ o → call_of o s image verdict reply_lent next_lent ≡ answered status offset reply next → (σ : Store) × (decode image ≡ Some σ)
      go None d a = absurd (refused≢answered a)
      go (Some σ) d a = (σ, d)

  -- its two cases
  pub by_answer : {P : Type 0} (σ : Store) → decode image ≡ Some σ → call s image verdict reply_lent next_lent ≡ answered status offset reply next
      → (next ≡ image → P)
      → ((q : Request) (i : ℕ) → judgement σ verdict s ≡ Ok (q, i) → next ≡ encode (effect s q i σ).store → P)
      → P
  unfolding call call_of answer_of
  by_answer {P} σ d e f g = judged (judgement σ verdict s) refl (answer_of_lem σ (rw d at e))
    where
      judged : (j : Result (Request × ℕ) Refusal) → judgement σ verdict s ≡ j → answer_of s image σ j ≡ answered status offset reply next → P
      judged (Err r) t a = f (cc)
      judged (Ok (q, i)) t a = g q i t (cc)

  -- the reply of an accepted message is that of its effect
  pub accepted_reply : (σ : Store) → decode image ≡ Some σ → call s image verdict reply_lent next_lent ≡ answered status offset reply next
      → (q : Request) (i : ℕ) → judgement σ verdict s ≡ Ok (q, i) → reply ≡ (effect s q i σ).reply
  unfolding call call_of answer_of
  accepted_reply σ d e q i j = let a = rw j at (answer_of_lem σ (rw d at e)) in cc

-- an accepted message asks what was accepted
module _ (σ : Store) (s : List ℕ) {q : Request} {i : ℕ} where
  -- after a row that refuses, what is accepted is so by the next
  pub past_judged : (f : Fit) (answer : ℕ → Refusal) (j : Result (Request × ℕ) Refusal) → given_at f (λ o. Err (answer o)) j ≡ Ok (q, i) → (f ≡ Ok tt) × (j ≡ Ok (q, i))
  past_judged f answer j e = past_row f _ j (λ o h. cc) e

  -- what is accepted by the anchor at a position is what was asked, by that anchor
  pub weighed_same : (q' : Request) (j : ℕ) → judged_at σ s q' j ≡ Ok (q, i) → (q' ≡ q) × (j ≡ i)
  unfolding judged_at
  weighed_same q' j e = ok_pair (past_judged _ _ _ (past_judged _ _ _ (past_judged _ _ _ (past_judged _ _ _ e).1).1).1).1

  signer_asks : (q' : Request) (f : Result ℕ NoSigner) → by_signer σ s q' f ≡ Ok (q, i) → (q' ≡ q) × (f ≡ Ok i)
  unfolding by_signer
  signer_asks q' (Ok j) e = let w = weighed_same q' j e in (w.0, ap Ok w.1)
  signer_asks q' (Err Unverified) e = cc
  signer_asks q' (Err Unknown) e = cc

  pub accepted_signer : (verdict : List ℕ) → judgement σ verdict s ≡ Ok (q, i)
      → (received s ≡ Ok q) × (signer (identifiers σ) verdict (contents s q.signer) ≡ Ok i)
  unfolding judgement judgement_of
  accepted_signer verdict e = go (received s) refl e
    where
      go : (r : Result Request Refusal) → received s ≡ r → judgement_of σ verdict s r ≡ Ok (q, i)
          → (received s ≡ Ok q) × (signer (identifiers σ) verdict (contents s q.signer) ≡ Ok i)
      go (Err r) t a = cc
      go (Ok q') t a =
          let w = signer_asks q' _ a in
          (t ∙ ap Ok w.0, ap (λ (x : Request). signer (identifiers σ) verdict (contents s x.signer)) (sym w.0) ∙ w.1)

  pub accepted_asks : (verdict : List ℕ) → judgement σ verdict s ≡ Ok (q, i) → received s ≡ Ok q
  accepted_asks verdict e = (accepted_signer verdict e).0
