-- 01, After acceptance: what an accepted message does to the store, and its reply.
use Rattle.std.specs.Prelude.{ℕ, zero, suc, true, false, List, [], ◌∷◌, ◌++◌, length, ltb}
pub use Rattle.store.specs.Steps.{with_others, with_communities}
use Rattle.octets.specs.declared.Status.{Status}
use Rattle.octets.specs.Status.{success, insufficient_memory}
use Rattle.octets.specs.Limits.{max_updates}
use Rattle.der.specs.Element.{encoding, contents}
use Rattle.syntax.specs.declared.TampType.{TampType}
use Rattle.syntax.specs.declared.TampType.TheVariants.{StatusQuery, Update, CommunityUpdate, SeqNumAdjust}
use Rattle.store.specs.Store.{Anchor, Store, identifiers}
use Rattle.message.specs.declared.Request.{Request}
use Rattle.message.specs.Fields.{entries_in, seq_numbers_in, remove_in, oids_in, additions_in}
use Rattle.reply.specs.Replies.{tamp_error, status_response, update_confirm, community_confirm, adjust_confirm}
use Rattle.rights.specs.Rights.{Rights}
use Rattle.protocol.specs.Acceptance.{rights_at}
use Rattle.protocol.specs.Update.{steps, numbered, with_seq_numbers}
use Rattle.protocol.specs.Community.{community_status, communities_after}

-- the status of the call, its reply, and the next store
pub record Effect : Type 0 where
  pub status : Status
  pub reply : List ℕ
  pub store : Store

-- an anchor's number set, by position
unfoldable pub number_set : ℕ → ℕ → List Anchor → List Anchor
number_set i n [] = []
number_set zero n (a ∷ l) = numbered n a ∷ l
number_set (suc i) n (a ∷ l) = a ∷ number_set i n l

-- "A message past 21 is accepted, and its number becomes the signer's."
unfoldable pub with_number : ℕ → ℕ → Store → Store
with_number zero n σ = record { device = σ.device; apex = numbered n σ.apex; others = σ.others; communities = σ.communities }
with_number (suc i) n σ = record { device = σ.device; apex = σ.apex; others = number_set i n σ.others; communities = σ.communities }

-- Update. σ has the signer's number already; the rights are the signer's at acceptance. Over 16 entries: 17 for the message as a whole, by TAMP Error, and the number still moves.
unfoldable pub update_effect : List ℕ → Request → Rights → Store → Effect
update_effect s q rights σ =
    let entries = entries_in s q.updates in
    let done = steps s rights σ.apex σ.others [] entries in
    elim (ltb max_updates (length entries)) [
      | true ↦
          record {
            status = insufficient_memory;
            reply = tamp_error (contents s q.msgtype) insufficient_memory (encoding s q.msgref);
            store = σ;
          }
      | false ↦
          record {
            status = success;
            reply = update_confirm (encoding s q.msgref) done.statuses;
            store = with_others (done.old ++ with_seq_numbers (seq_numbers_in s q.numbers) done.new) σ;
          }
    ]

-- Community Update: "call and confirm carry the code"
unfoldable pub community_effect : List ℕ → Request → Store → Effect
community_effect s q σ =
    let remove = remove_in s q.updates in
    let removals = oids_in s remove in
    let additions = additions_in s q.updates in
    let status = community_status remove.valid removals additions σ.communities in
    record {
      status = status;
      reply = community_confirm (encoding s q.msgref) status;
      store = with_communities (communities_after remove.valid removals additions σ.communities) σ;
    }

-- Query: "identifiers in store order, then communities unless there are none"
unfoldable pub query_effect : List ℕ → Request → Store → Effect
query_effect s q σ =
    record { status = success; reply = status_response (encoding s q.msgref) (identifiers σ) σ.communities; store = σ }

-- Adjust: 0
unfoldable pub adjust_effect : List ℕ → Request → Store → Effect
adjust_effect s q σ = record { status = success; reply = adjust_confirm (encoding s q.msgref); store = σ }

unfoldable pub effect_of : TampType → List ℕ → Request → Rights → Store → Effect
effect_of StatusQuery s q rights σ = query_effect s q σ
effect_of Update s q rights σ = update_effect s q rights σ
effect_of CommunityUpdate s q rights σ = community_effect s q σ
effect_of SeqNumAdjust s q rights σ = adjust_effect s q σ

-- what a message s accepted as request q of the anchor at position i does, "by the signer's rights at acceptance"
unfoldable pub effect : List ℕ → Request → ℕ → Store → Effect
effect s q i σ = effect_of q.kind s q (rights_at σ i) (with_number i q.number σ)
