-- What the code of a Community Update reads and leaves.
use Rattle.std.specs.Prelude.{ℕ, ◌+◌, ◌*◌, ◌≤◌, ◌<◌, true, false, not, List, [], ◌∷◌, ◌++◌, map, ◌≡◌, length, take, leb, ltb, Result, Ok, Err}
use Rattle.octets.specs.declared.Status.{Status}
use Rattle.octets.specs.Status.{insufficient_memory}
use Rattle.octets.specs.Limits.{max_name_octets, max_communities}
use Rattle.octets.specs.Lists.{all_of, any_of, filter}
use Rattle.octets.specs.Octets.{octet, member}
use Rattle.der.specs.Element.{elements, contents}
use Rattle.store.specs.Image.{encode_name, encode_section}
use Rattle.store.specs.Contract.Parts.{communities_of}

-- the OIDs of a run, from a place on
abbrev pub oids_from : List ℕ → ℕ → ℕ → List (List ℕ)
oids_from s stop at = map (contents s) (elements s at stop)

-- a section of communities that is being put together: the first len octets of d are it, and every name has at most 32 octets
pub record Section (d : List ℕ) (len : ℕ) (l : List (List ℕ)) : Type 0 where
  pub image : take len d ≡ encode_section encode_name l
  pub inside : len ≤ length d
  pub bound : len ≤ 1 + 33 * length l
  pub room : 529 ≤ length d

-- a name more
pub record Joins (d : List ℕ) (len : ℕ) (name : List ℕ) (r : ℕ) (d' : List ℕ) : Type 0 where
  pub same_room : length d' ≡ length d
  pub joins : (l : List (List ℕ)) → Section d len l → Section d' r (l ++ (name ∷ []))

-- there is room for it
pub record Joinable (d : List ℕ) (len : ℕ) (name : List ℕ) : Type 0 where
  pub names : List (List ℕ)
  pub section : Section d len names
  pub few : length names < max_communities
  pub small : length name ≤ max_name_octets

-- a name more unless it is among those removed
pub record KeepsName (removals : List (List ℕ)) (d : List ℕ) (len : ℕ) (name : List ℕ) (r : ℕ) (d' : List ℕ) : Type 0 where
  pub same_room : length d' ≡ length d
  pub keeps : (l : List (List ℕ)) → Section d len l → Section d' r (l ++ filter (λ c. not (member c removals)) (name ∷ []))

-- the communities of an image are few and small
pub record FewNames (image : List ℕ) : Type 0 where
  pub few : length (communities_of image) ≤ max_communities
  pub small : all_of (λ c. leb (length c) max_name_octets) (communities_of image) ≡ true

-- what additions come to, where `kept` were there and `added` come after them: over 16 would remain, or the section with them
abbrev pub Grows : List (List ℕ) → List (List ℕ) → Result (Unit {0}) Status → ℕ → List ℕ → Type 0
Grows kept added (Ok _) n d = Section d n (kept ++ added)
Grows kept added (Err status) n d = (status ≡ insufficient_memory) × (max_communities < length (kept ++ added))

-- "present ones pass"
abbrev pub not_kept : List (List ℕ) → List (List ℕ) → List (List ℕ)
not_kept kept additions = filter (λ c. not (member c kept)) additions

pub record Addable (d : List ℕ) (len k : ℕ) (name : List ℕ) : Type 0 where
  pub kept : List (List ℕ)
  pub added : List (List ℕ)
  pub section : Section d len (kept ++ added)
  pub count : length kept ≡ k
  pub few : length (kept ++ added) ≤ max_communities
  pub small : length name ≤ max_name_octets

pub record AddsName (d : List ℕ) (len k : ℕ) (name : List ℕ) (r : Result (Unit {0}) Status) (n : ℕ) (d' : List ℕ) : Type 0 where
  pub same_room : length d' ≡ length d
  pub few : octet d' 0 ≤ max_communities
  pub adds : (kept added : List (List ℕ)) → Section d len (kept ++ added) → length kept ≡ k → Grows kept (added ++ not_kept kept (name ∷ [])) r n d'

pub record AddableAll (additions : List (List ℕ)) (d : List ℕ) (len : ℕ) : Type 0 where
  pub kept : List (List ℕ)
  pub section : Section d len kept
  pub few : length kept ≤ max_communities
  pub small : any_of (λ c. ltb max_name_octets (length c)) additions ≡ false

pub record AddsAll (additions : List (List ℕ)) (d : List ℕ) (len : ℕ) (r : Result (Unit {0}) Status) (n : ℕ) (d' : List ℕ) : Type 0 where
  pub same_room : length d' ≡ length d
  pub few : octet d' 0 ≤ max_communities
  pub adds : (kept : List (List ℕ)) → Section d len kept → Grows kept (not_kept kept additions) r n d'
