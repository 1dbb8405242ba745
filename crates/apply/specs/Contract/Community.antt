-- What the code of a Community Update needs and leaves, by the rule book's `community_status` and `communities_after`.
use Rattle.std.specs.Prelude.{ℕ, Bool, true, false, List, ◌++◌, ◌≡◌, length, ltb, Result, Ok}
use Rattle.octets.specs.declared.Status.{Status}
use Rattle.octets.specs.Limits.{max_name_octets}
use Rattle.octets.specs.Lists.{all_of, any_of}
use Rattle.octets.specs.Octets.{distinct}
use Rattle.der.specs.Contents.{oid_ok}
use Rattle.syntax.specs.declared.TampType.TheVariants.{CommunityUpdate}
use Rattle.store.specs.Store.{Store}
use Rattle.message.specs.declared.Request.{Request}
use Rattle.message.specs.Rows.{received}
use Rattle.protocol.specs.Community.{community_status, communities_after}
use Rattle.protocol.specs.Effect.{with_communities, community_effect}
use Rattle.apply.specs.declared.scratch.ScratchImage.{ScratchImage}
use Rattle.apply.specs.Contract.Entry.{applied_status}
use Rattle.apply.specs.Contract.Scratch.{Holds, Scratch}

-- past 24, and 17 for an OID over 32 octets
pub record CanUpdate (removals additions : List (List ℕ)) (d : List ℕ) (len : ℕ) : Type 0 where
  pub scratch : Scratch d len
  pub apart : distinct (removals ++ additions) ≡ true
  pub short : any_of (λ c. ltb max_name_octets (length c)) (removals ++ additions) ≡ false
  pub oids : all_of oid_ok additions ≡ true

-- the answer and the scratch are those of the two lists
pub record UpdatesCommunities (present : Bool) (removals additions : List (List ℕ)) (w : ScratchImage) (r : Result (Unit {0}) Status) (w' : ScratchImage) : Type 0 where
  pub room : length w'.octets ≡ length w.octets
  pub status : (σ : Store) → Holds σ w.octets w.len → applied_status r ≡ community_status present removals additions σ.communities
  pub after : (σ : Store) → Holds σ w.octets w.len → Holds (with_communities (communities_after present removals additions σ.communities) σ) w'.octets w'.len

-- s asks for the Community Update q
pub record CommunityReady (s : List ℕ) (q : Request) (d : List ℕ) (len : ℕ) : Type 0 where
  pub asked : received s ≡ Ok q
  pub update : q.kind ≡ CommunityUpdate
  pub scratch : Scratch d len

-- the status and the store of the whole message
pub record CommunityDone (s : List ℕ) (q : Request) (w : ScratchImage) (r : Result (Unit {0}) Status) (w' : ScratchImage) : Type 0 where
  pub room : length w'.octets ≡ length w.octets
  pub status : (σ : Store) → Holds σ w.octets w.len → applied_status r ≡ (community_effect s q σ).status
  pub store : (σ : Store) → Holds σ w.octets w.len → Holds (community_effect s q σ).store w'.octets w'.len
