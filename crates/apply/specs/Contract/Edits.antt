-- What an edit of the scratch needs, and what it leaves, for every store that the scratch may hold.
use Rattle.std.specs.Prelude.{ℕ, suc, ◌≤◌, true, List, ◌∷◌, ◌++◌, ◌≡◌, length}
use Rattle.octets.specs.Limits.{image_room, max_number}
use Rattle.store.specs.Store.{Anchor, Store}
use Rattle.store.specs.Image.{encode, well_formed}
use Rattle.store.specs.Contract.Parts.{place_of}
use Rattle.store.specs.Steps.{with_others}
use Rattle.edit.specs.Contract.Edits.{one_more}
use Rattle.protocol.specs.Update.{with_seq_number}
use Rattle.apply.specs.Contract.Scratch.{Holds, HoldsBoth}

-- the TrustAnchorInfo t may be appended
pub record Growable (d : List ℕ) (len : ℕ) (t : List ℕ) : Type 0 where
  pub room : image_room ≤ length d
  pub store : Store
  pub holds : Holds store d len
  pub fits : well_formed (one_more t store) ≡ true

pub record Appends (d : List ℕ) (len : ℕ) (t : List ℕ) (r : ℕ) (d' : List ℕ) : Type 0 where
  pub room : length d' ≡ length d
  pub appends : (σ : Store) → Holds σ d len → well_formed (one_more t σ) ≡ true → Holds (one_more t σ) d' r

-- there is an anchor at the position, after the apex
pub record CanRemove (d : List ℕ) (len position : ℕ) : Type 0 where
  pub store : Store
  pub holds : Holds store d len
  pub after : 1 ≤ position
  pub inside : position ≤ length store.others

pub record RemovesAnchor (d : List ℕ) (len position r : ℕ) (d' : List ℕ) : Type 0 where
  pub room : length d' ≡ length d
  pub cuts : (σ : Store) (x y : List Anchor) (a : Anchor) → Holds σ d len → σ.others ≡ x ++ (a ∷ y) → suc (length x) ≡ position
      → well_formed (with_others (x ++ y) σ) ≡ true → Holds (with_others (x ++ y) σ) d' r

-- the record of an anchor after the apex stands at place p, and n may be its number
pub record CanNumber (d : List ℕ) (len p n : ℕ) : Type 0 where
  pub store : Store
  pub holds : Holds store d len
  pub before : List Anchor
  pub anchor : Anchor
  pub after : List Anchor
  pub parts : store.others ≡ before ++ (anchor ∷ after)
  pub place : p ≡ place_of (encode store) (suc (length before))
  pub small : n ≤ max_number

-- "sets the number of every anchor with that identifier": of one
pub record NumbersAt (d : List ℕ) (len p : ℕ) (id : List ℕ) (n : ℕ) (d' : List ℕ) : Type 0 where
  pub room : length d' ≡ length d
  pub stamps : (σ : Store) (x y : List Anchor) (a : Anchor) → Holds σ d len → σ.others ≡ x ++ (a ∷ y) → p ≡ place_of (encode σ) (suc (length x))
      → Holds (with_others (x ++ (with_seq_number (id, n) a ∷ y)) σ) d' len

-- the anchors that this message appended have become f of them
pub record Renumbers (f : List Anchor → List Anchor) (d : List ℕ) (len k : ℕ) (d' : List ℕ) : Type 0 where
  pub room : length d' ≡ length d
  pub does : (σ : Store) (old new : List Anchor) → HoldsBoth σ old new d len k → HoldsBoth σ old (f new) d' len k
