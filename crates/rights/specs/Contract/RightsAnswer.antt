-- What the engine answers: within, or a content that lies outside, by its parts in the octets of the signer's and the new anchor's constraints.
use Rattle.der.specs.declared.Element.{Element}
use Rattle.std.specs.Prelude.{ℕ, List, Option, option_map}
use Rattle.der.specs.Element.{encoding}
use Rattle.der.specs.Keys.{type_of}
use Rattle.rights.specs.declared.decision.Excess.{Excess}
use Rattle.rights.specs.declared.decision.Excess.TheVariants.{Carried, Sourced, Listed, Unlisted}
use Rattle.rights.specs.declared.decision.Lister.{Lister}
use Rattle.rights.specs.declared.decision.Lister.TheVariants.{New, Signer, Nobody}
use Rattle.rights.specs.Rights.{Key, Content, source, carrier}
use Rattle.rights.specs.Decision.{oid, integer, no_pair, one_pair}

module _ (signer new : List ℕ) where
  -- the content of a type that lies outside in this way
  unfoldable pub excess_content : Key → Excess → Content
  excess_content type Carried = no_pair type carrier
  excess_content type Sourced = no_pair type source
  excess_content type (Listed a v) = one_pair type (type_of signer a, encoding new v)
  excess_content type (Unlisted a n) = one_pair type (type_of signer a, integer n)

  -- of one type
  abbrev pub judged_content : Key → Option Excess → Option Content
  judged_content type = option_map (excess_content type)

  -- of the types that v lists
  abbrev pub picked_content : List ℕ → Option (Element × Excess) → Option Content
  picked_content v = option_map (λ p. excess_content (type_of v p.0) p.1)

  -- the type, as listed by the new anchor, by the signer, or by nobody
  unfoldable pub listed_type : Lister → Key
  listed_type (New e) = type_of new e
  listed_type (Signer e) = type_of signer e
  listed_type (Nobody n) = oid n

  abbrev pub content_of : Option (Lister × Excess) → Option Content
  content_of = option_map (λ p. excess_content (listed_type p.0) p.1)
