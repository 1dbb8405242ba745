-- 01, Answers: "All else is an answer with a TAMP status". Every status that a call answers with is below 128, so that it is one octet of an ENUMERATED; a house refusal is 201 or above.
-- And every outcome has the offset that 02, E3, says (`Outcomes`).
use Rattle.std.specs.Prelude.{Option, Some, None, Result, Ok, Err}
use Rattle.envelope.specs.declared.Refusal.{Refusal}
use Prim.Native.Nat.{ℕ, ◌≤◌, ◌<◌}
use native.Mathlib.Omega.{arith}
use mathlib.Core.Bool.{Bool, false}
use mathlib.Core.List.{List}
use mathlib.Core.Path.{◌≡◌, refl}
use lib.ListN.{length}
use lib.Dec.{ltb}
use Rattle.octets.specs.declared.Status.{Status}
use Rattle.octets.specs.Limits.{max_updates}
use Rattle.octets.specs.Lists.{any_of}
use Rattle.octets.proofs.Lists.{by_test}
use Rattle.syntax.specs.declared.TampType.{TampType}
use Rattle.syntax.specs.declared.TampType.TheVariants.{StatusQuery, Update, CommunityUpdate, SeqNumAdjust}
use Rattle.rights.specs.Rights.{Rights}
use Rattle.store.specs.Store.{Store}
use Rattle.store.specs.Image.{decode}
use Rattle.message.specs.declared.Request.{Request}
use Rattle.message.specs.Fields.{entries_in}
use Rattle.protocol.specs.Acceptance.{judgement}
use Rattle.protocol.specs.Community.{community_status}
use Rattle.protocol.specs.Effect.{query_effect, adjust_effect, community_effect, update_effect, effect_of, effect}
use Rattle.protocol.specs.Call.{Outcome, refused, answered, answer_of, guarded, call_on, call_of, call}
use Rattle.protocol.specs.Offset.{carries_offset}
use Rattle.protocol.proofs.Lists.{by_given}
use Rattle.protocol.proofs.Refusals.{Told, none_told, InJudgement, in_judgement}

module _ (s : List ℕ) where
  -- a status of an accepted message
  done : {n : ℕ} → n < 128 → carries_offset (record { number = n }) ≡ false → Told s (record { number = n }) 0
  done l c = record { small = l; offset = none_told s _ c refl }

  community_told : (present : Bool) (removals additions communities : List (List ℕ)) → Told s (community_status present removals additions communities) 0
  unfolding community_status carries_offset any_of
  community_told present removals additions communities =
      let P : Status → Type 0 = λ status. Told s status 0 in
      by_given P _ (λ _. done (omega arith) refl) (λ _.
      by_given P _ (λ _. done (omega arith) refl) (λ _. done (omega arith) refl))

  -- every answer to an accepted message
  effect_of_told : (kind : TampType) (q : Request) (rights : Rights) (σ : Store) → Told s (effect_of kind s q rights σ).status 0
  unfolding effect_of query_effect adjust_effect community_effect update_effect carries_offset any_of
  effect_of_told StatusQuery q rights σ = done (omega arith) refl
  effect_of_told Update q rights σ =
      by_test (ltb max_updates (length (entries_in s q.updates)))
      (λ t. rw (t, update_effect) (done (omega arith) refl))
      (λ t. rw (t, update_effect) (done (omega arith) refl))
  effect_of_told CommunityUpdate q rights σ = community_told _ _ _ σ.communities
  effect_of_told SeqNumAdjust q rights σ = done (omega arith) refl

  -- an outcome: its number, and its offset
  abbrev pub Outcomes : Outcome → Type 0
  Outcomes (refused number) = (201 ≤ number.number) × (carries_offset number ≡ false)
  Outcomes (answered status offset reply next) = Told s status offset

  answer_told : (image : List ℕ) (σ : Store) (j : Result (Request × ℕ) Refusal) → InJudgement s j → Outcomes (answer_of s image σ j)
  unfolding answer_of effect
  answer_told image σ (Err r) h = h
  answer_told image σ (Ok (q, i)) h = effect_of_told q.kind q _ _

  pub call_told : (image verdict : List ℕ) (reply_lent next_lent : ℕ) → Outcomes (call s image verdict reply_lent next_lent)
  unfolding call call_of call_on guarded carries_offset any_of
  call_told image verdict reply_lent next_lent = go (decode image)
    where
      go : (o : Option Store) → Outcomes (call_of o s image verdict reply_lent next_lent)
      go None = (omega arith, refl)
      go (Some σ) =
          let P : Outcome → Type 0 = Outcomes in
          by_given P _ (λ _. (omega arith, refl)) (λ _.
          by_given P _ (λ _. (omega arith, refl)) (λ _.
          by_given P _ (λ _. (omega arith, refl)) (λ _.
          by_given P _ (λ _. (omega arith, refl)) (λ _.
          answer_told image σ (judgement σ verdict s) (in_judgement s σ verdict)))))

-- the number of a house refusal is 201 or above, that of an answer below
abbrev pub Numbered : Outcome → Type 0
Numbered (refused number) = 201 ≤ number.number
Numbered (answered status offset reply next) = status.number < 201

pub numbered-call : (s image verdict : List ℕ) (reply_lent next_lent : ℕ) → Numbered (call s image verdict reply_lent next_lent)
numbered-call s image verdict reply_lent next_lent = go (call s image verdict reply_lent next_lent) (call_told s image verdict reply_lent next_lent)
  where
    go : (o : Outcome) → Outcomes s o → Numbered o
    go (refused number) h = h.0
    go (answered status offset reply next) h = omega (arith, h.small)
