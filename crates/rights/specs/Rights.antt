-- 01, Rights (RFC 6010): what an anchor authorises, and when it is within a signer. The quotes are 01's.
use Rattle.std.specs.Prelude.{ℕ, Bool, true, false, ◌&&◌, List, [], ◌∷◌, ◌≡◌, Option, Some, None}
use Rattle.std.specs.Option.{option_or}
use Rattle.octets.specs.Lists.{all_of}
use Rattle.octets.specs.Octets.{same, member}

-- A type is an OID's contents, a value the whole DER element ("Values compare as octets").
abbrev pub Key : Type 0
Key = List ℕ

-- "A content is a type, a role (source or carrier) and a list of attribute type and value pairs."

pub data Role : Type 0 where
  source carrier : Role

pub record Content : Type 0 where
  pub type : Key
  pub role : Role
  pub attributes : List (Key × Key)

-- An entry's attribute constraints, each an attribute type and its listed values.
abbrev pub Constraints : Type 0
Constraints = List (Key × List Key)

pub record Entry : Type 0 where
  pub can_source : Bool
  pub constraints : Constraints

-- The entries of an anchor's content constraints extension, each under its content type. 01 bounds their number and wants types and values distinct; that is a
-- rule of reading them (34, 17), and nothing here leans on it.
abbrev pub Rights : Type 0
Rights = List (Key × Entry)

-- 01, Rights: anyContentType, 1.2.840.113549.1.9.16.1.0
unfoldable pub any_content_type : Key
any_content_type = 0x2A ∷ 0x86 ∷ 0x48 ∷ 0x86 ∷ 0xF7 ∷ 0x0D ∷ 0x01 ∷ 0x09 ∷ 0x10 ∷ 0x01 ∷ 0x00 ∷ []

module _ {A : Type 0} where
  -- what stands under a key, the first if it is repeated: an entry under its content type, the listed values under their attribute type
  unfoldable pub lookup : Key → List (Key × A) → Option A
  lookup k [] = None
  lookup k (e ∷ l) = elim (same k e.0) [ true ↦ Some e.1 | false ↦ lookup k l ]

-- 01's term: "The governing entry is the one for the content's type, else the anyContentType entry, else none."
unfoldable pub governing : Rights → Key → Option Entry
governing rights type = option_or (lookup type rights) (lookup any_content_type rights)

-- "the role is carrier or the entry is canSource"
unfoldable pub may_act : Role → Bool → Bool
may_act carrier can_source = true
may_act source can_source = can_source

-- a value under an attribute type: any where the entry does not constrain the type, else a listed one
unfoldable pub allowed : Option (List Key) → Key → Bool
allowed None value = true
allowed (Some values) value = member value values

-- "each pair whose type the entry constrains has a listed value": one pair
unfoldable pub meets : Constraints → Key × Key → Bool
meets constraints pair = allowed (lookup pair.0 constraints) pair.1

-- the governing entry lets a content pass; where there is none, nothing passes
unfoldable pub permits : Option Entry → Content → Bool
permits None content = false
permits (Some entry) content = may_act content.role entry.can_source && all_of (meets entry.constraints) content.attributes

-- "An anchor authorises a content if there is a governing entry, the role is carrier or the entry is canSource, and each pair whose type the entry constrains
-- has a listed value."
unfoldable pub authorises : Rights → Content → Bool
authorises rights content = permits (governing rights content.type) content

-- an entry that sets no limit
abbrev pub free : Entry
free = record { can_source = true; constraints = [] }

-- "The apex authorises everything."
unfoldable pub everything : Rights
everything = (any_content_type, free) ∷ []

-- "An anchor with no extension authorises nothing (an identity anchor)": identity anchor is 01's term.
unfoldable pub nothing : Rights
nothing = []

-- 01's term: "An anchor is within a signer if the signer authorises all that it authorises. Contents aren't bounded in size."
abbrev pub Within : Rights → Rights → Type 0
Within signer new = (content : Content) → authorises new content ≡ true → authorises signer content ≡ true

-- a content that the new anchor authorises and the signer does not
abbrev pub Outside : Rights → Rights → Type 0
Outside signer new = (content : Content) × (authorises new content ≡ true) × (authorises signer content ≡ false)
