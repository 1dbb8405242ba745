-- The theorem of demand 3 (specs/Demand3), from the law of each step (Steps) and of the next store (WellFormed).
use Rattle.std.specs.Prelude.{Some}
use Prim.Native.Nat.{ℕ}
use mathlib.Core.Bool.{true, false}
use mathlib.Core.List.{List, [], ◌∷◌, map}
use mathlib.Core.Path.{◌≡◌, refl, sym, ◌∙◌, ap, subst}
use Rattle.octets.specs.declared.Status.{Status}
use Rattle.rights.specs.Rights.{Rights, Content, authorises}
use Rattle.anchor.specs.Info.{rights_of}
use Rattle.store.specs.Store.{Store}
use Rattle.store.specs.Image.{encode_anchor, encode, well_formed}
use Rattle.store.specs.Records.{records_of}
use Rattle.store.proofs.RoundTrip.{decode-encode, encode-decode, decode-well_formed}
use Rattle.protocol.specs.Acceptance.{rights_at}
use Rattle.protocol.specs.Effect.{effect}
use Rattle.protocol.specs.Call.{Outcome, refused, answered}
use Rattle.protocol.specs.Demand3.{Inputs, outcome, store_after, after, signer_of, signer_in, accepted_signer, Unauthorised, authorising, Demand3}
use Rattle.protocol.proofs.Lists.{keep_map}
use Rattle.protocol.proofs.Records.{info_of_record, records_encode}
use Rattle.protocol.proofs.Steps.{may, holders, holders-effect}
use Rattle.protocol.proofs.Answer.{by_answer}
use Rattle.protocol.proofs.WellFormed.{effect-well_formed}

-- what a call leaves: the image of a well-formed store in which the same anchors authorise the content
pub record Unmoved (content : Content) (σ : Store) (next : List ℕ) : Type 0 where
  pub store : Store
  pub image : next ≡ encode store
  pub valid : well_formed store ≡ true
  pub kept : holders content store ≡ holders content σ

-- the records of an image that authorise the content are those of the anchors that do
records_of-holders : (content : Content) (σ : Store) → well_formed σ ≡ true → authorising content (records_of (encode σ)) ≡ map encode_anchor (holders content σ)
unfolding authorising
records_of-holders content σ w =
    ap (authorising content) (records_encode σ w)
    ∙ ap (λ r. encode_anchor σ.apex ∷ r)
    (keep_map _ (may content) encode_anchor (λ a. ap (λ t. authorises (rights_of t) content) (info_of_record a)) σ.others)

module _ (content : Content) (σ : Store) (w : well_formed σ ≡ true) (g : Inputs)
    (u : (rights : Rights) → accepted_signer (encode σ) g ≡ Some rights → authorises rights content ≡ false) where
  left-same : (next : List ℕ) → next ≡ encode σ → Unmoved content σ next
  left-same next e = record { store = σ; image = e; valid = w; kept = refl }

  left_answered : (status : Status) (offset : ℕ) (reply next : List ℕ) → outcome (encode σ) g ≡ answered status offset reply next → Unmoved content σ next
  unfolding signer_in signer_of
  left_answered status offset reply next e =
      let d = decode-encode σ w in
      by_answer g.message (encode σ) g.verdict g.reply_lent g.next_lent σ d e (left-same next)
      (λ q i j n.
      record {
        store = (effect g.message q i σ).store;
        image = n;
        valid = effect-well_formed σ g.message g.verdict q i w g.octets j;
        kept = holders-effect content g.message q i σ (u (rights_at σ i) (rw (d, e, j)));
      })

  pub left_by : Unmoved content σ (store_after (encode σ) (outcome (encode σ) g))
  unfolding store_after
  left_by = go (outcome (encode σ) g) refl
    where
      go : (r : Outcome) → outcome (encode σ) g ≡ r → Unmoved content σ (store_after (encode σ) r)
      go (refused n) e = left-same (encode σ) refl
      go (answered status offset reply next) e = left_answered status offset reply next e

-- over the list of calls
pub left_after : (content : Content) (calls : List Inputs) (σ : Store) → well_formed σ ≡ true → Unauthorised content (encode σ) calls
    → Unmoved content σ (after (encode σ) calls)
unfolding after
left_after content [] σ w u = record { store = σ; image = refl; valid = w; kept = refl }
left_after content (g ∷ gs) σ w u =
    let l = left_by content σ w g u.0 in
    let m = left_after content gs l.store l.valid (subst (λ image. Unauthorised content image gs) l.image u.1) in
    record { store = m.store; image = ap (λ image. after image gs) l.image ∙ m.image; valid = m.valid; kept = m.kept ∙ l.kept }

pub demand3 : Demand3
demand3 image σ o d content calls u =
    let e = encode-decode image σ o d in
    let w = decode-well_formed image σ d in
    let l = left_after content calls σ w (rw (← e) at u) in
    let encoding : authorising content (records_of (after (encode σ) calls)) ≡ authorising content (records_of (encode σ)) =
    ap (λ image. authorising content (records_of image)) l.image
    ∙ records_of-holders content l.store l.valid
    ∙ ap (map encode_anchor) l.kept
    ∙ sym (records_of-holders content σ w)
    in
    rw e at encoding
