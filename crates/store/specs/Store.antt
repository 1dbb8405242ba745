-- 01, The store image: what an image holds.
use Rattle.std.specs.Prelude.{ℕ, List, ◌∷◌, map, Option}
use Rattle.rights.specs.Rights.{Rights, everything}
use Rattle.anchor.specs.Info.{key_identifier, public_key, rights_of}

pub record Device : Type 0 where
  pub hw_type : List ℕ
  pub serial : List ℕ

-- its last sequence number, if it has one, and its TrustAnchorInfo
pub record Anchor : Type 0 where
  pub number : Option ℕ
  pub info : List ℕ

-- "The first is the apex."
pub record Store : Type 0 where
  pub device : Device
  pub apex : Anchor
  pub others : List Anchor
  pub communities : List (List ℕ)

abbrev pub anchors : Store → List Anchor
anchors σ = σ.apex ∷ σ.others

abbrev pub public_key_of : Anchor → List ℕ
public_key_of a = public_key a.info

abbrev pub identifier_of : Anchor → List ℕ
identifier_of a = key_identifier a.info

abbrev pub identifiers : Store → List (List ℕ)
identifiers σ = map identifier_of (anchors σ)

-- what the anchors of a store may, in store order ("The apex authorises everything")
abbrev pub rights_in : Store → List Rights
rights_in σ = everything ∷ map (λ a. rights_of a.info) σ.others
