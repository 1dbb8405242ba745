-- The decision of Within (specs/Rights). It yields a content that lies outside, if there is one.
use Rattle.std.specs.Prelude.{ℕ, zero, suc, Bool, true, false, List, [], ◌∷◌, ◌++◌, map, length, Some, None, Option, option_map}
use Rattle.std.specs.Option.{option_or}
use Rattle.octets.specs.Octets.{member}
use Rattle.rights.specs.Rights.{Key, Role, source, carrier, Content, Constraints, Entry, Rights, lookup, governing}

-- A type that nobody lists is made as 1.2.n (the OID's contents), an unlisted value as INTEGER n (the whole DER element). n is written in one octet, which is
-- right up to 127. That is enough: n is at most the number of keys to differ from (proofs/Fresh, `fresh_bounded`), so by the limits of 01 at most 32 for a
-- type, of two anchors with 16 entries each, and at most 4 for a value (proofs/Fresh, `unlisted_type_small`, `unlisted_value_small`).

unfoldable pub oid : ℕ → Key
oid n = 0x2A ∷ n ∷ []

unfoldable pub integer : ℕ → Key
integer n = 0x02 ∷ 0x01 ∷ n ∷ []

-- the smallest of n, n + 1, .. whose key the list has not, of which k are tried
unfoldable pub fresh_from : (ℕ → Key) → List Key → ℕ → ℕ → ℕ
fresh_from key l zero n = n
fresh_from key l (suc k) n = elim (member (key n) l) [ true ↦ fresh_from key l k (suc n) | false ↦ n ]

-- the smallest n from 0 whose key the list has not; where keys differ, it is among the first length l + 1
unfoldable pub fresh : (ℕ → Key) → List Key → ℕ
fresh key l = fresh_from key l (length l) 0

module _ {A : Type 0} where
  unfoldable pub keys : List (Key × A) → List Key
  keys l = map (λ e. e.0) l

  -- the first answer on a list
  unfoldable pub find_some : (Key → Option A) → List Key → Option A
  find_some f [] = None
  find_some f (k ∷ l) = option_or (f k) (find_some f l)

-- a value that is not among the listed ones
unfoldable pub unlisted : List Key → Key → Option Key
unlisted values value = elim (member value values) [ true ↦ None | false ↦ Some value ]

-- For one attribute type: the values that the signer lists, those that the new anchor lists, each none where it does not constrain the attribute.
unfoldable pub value_outside : Option (List Key) → Option (List Key) → Option Key
value_outside None new = None
value_outside (Some signer) None = Some (integer (fresh integer signer))
value_outside (Some signer) (Some new) = find_some (unlisted signer) new

abbrev pub pair_of : Key → Key → Key × Key
pair_of attribute value = (attribute, value)

unfoldable pub attribute_outside : Constraints → Constraints → Key → Option (Key × Key)
attribute_outside signer new attribute = option_map (pair_of attribute) (value_outside (lookup attribute signer) (lookup attribute new))

-- of two entries' constraints; an attribute that the signer's does not constrain has no value outside
unfoldable pub pair_outside : Constraints → Constraints → Option (Key × Key)
pair_outside signer new = find_some (attribute_outside signer new) (keys signer)

-- of two entries' canSource
unfoldable pub role_outside : Bool → Bool → Option Role
role_outside true new = None
role_outside false true = Some source
role_outside false false = None

-- The content is a carrier's unless the role lies outside, and has a pair only where the pair lies outside.
abbrev pub no_pair : Key → Role → Content
no_pair type role = record { type = type; role = role; attributes = [] }

abbrev pub one_pair : Key → Key × Key → Content
one_pair type pair = record { type = type; role = carrier; attributes = pair ∷ [] }

-- For one content type: the entries that govern it, none where there is none.
unfoldable pub entry_outside : Key → Option Entry → Option Entry → Option Content
entry_outside type signer None = None
entry_outside type None (Some new) = Some (no_pair type carrier)
entry_outside type (Some signer) (Some new) =
    option_or
    (option_map (no_pair type) (role_outside signer.can_source new.can_source))
    (option_map (one_pair type) (pair_outside signer.constraints new.constraints))

unfoldable pub type_outside : Rights → Rights → Key → Option Content
type_outside signer new type = entry_outside type (governing signer type) (governing new type)

unfoldable pub listed_types : Rights → Rights → List Key
listed_types signer new = keys new ++ keys signer

unfoldable pub unlisted_type : Rights → Rights → Key
unlisted_type signer new = oid (fresh oid (listed_types signer new))

-- A content that the new anchor authorises and the signer does not. A type that neither lists is tried first: it stands for all such types, since the
-- anyContentType entries govern it. They govern the listed type anyContentType alike, which is therefore never the one given. Then come the types that the new
-- anchor lists, in its order, then the signer's.
unfoldable pub outside : Rights → Rights → Option Content
outside signer new = find_some (type_outside signer new) (unlisted_type signer new ∷ listed_types signer new)

-- 01's term within, decided: it is true exactly where `Within` holds (proofs/Within, `within_iff`)
unfoldable pub within : Rights → Rights → Bool
within signer new = elim (outside signer new) [ None ↦ true | Some content ↦ false ]
