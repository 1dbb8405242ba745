-- The scratch image: a lent buffer that holds an image in its first octets. What stands after the image is free.
use Rattle.std.specs.Prelude.{ℕ, ◌≤◌, true, List, ◌++◌, ◌≡◌, length, take}
use Rattle.octets.specs.Limits.{image_room}
use Rattle.store.specs.Store.{Anchor, Store}
use Rattle.store.specs.Image.{encode, well_formed}
pub use Rattle.store.specs.Contract.Parts.{info_at}
use Rattle.store.specs.Steps.{with_others}

-- the first len octets of d are the image of a well-formed store
pub record Holds (σ : Store) (d : List ℕ) (len : ℕ) : Type 0 where
  pub image : take len d ≡ encode σ
  pub inside : len ≤ length d
  pub valid : well_formed σ ≡ true

-- .. of some store, and there is room for the largest image
pub record Scratch (d : List ℕ) (len : ℕ) : Type 0 where
  pub room : image_room ≤ length d
  pub store : Store
  pub holds : Holds store d len

-- .. in which the anchors after the apex are old, k that stood before this message, and new, which it appended
pub record HoldsBoth (σ : Store) (old new : List Anchor) (d : List ℕ) (len k : ℕ) : Type 0 where
  pub holds : Holds (with_others (old ++ new) σ) d len
  pub count : length old ≡ k

-- .. of some store, and there is room for the largest image
pub record ScratchBoth (d : List ℕ) (len k : ℕ) : Type 0 where
  pub room : image_room ≤ length d
  pub store : Store
  pub old : List Anchor
  pub new : List Anchor
  pub holds : HoldsBoth store old new d len k
