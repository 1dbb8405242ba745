-- The replies as they are written: part by part, each header by the number of octets after it. proofs/Answers ties this to Replies.
use Rattle.std.specs.Prelude.{ℕ, ◌+◌, length, drop}
use mathlib.Core.List.{List, map, flat_map}
use denote.Ref.{at_last}
use Rattle.octets.specs.declared.Status.{Status}
use Rattle.octets.specs.Octets.{placed}
use Rattle.der.specs.Write.{length_octets, header, element}
use Rattle.store.specs.Records.{records_from, records_of}
use Rattle.store.specs.Contract.Parts.{anchor_count, first_record, record_at, record_end, identifier_in, community_count, community_octets, name_at, name_end, names_from}
use Rattle.store.specs.Contract.Parts.{communities_of}
use Rattle.reply.specs.declared.Writer.{Writer}
use Rattle.reply.specs.declared.Listed.{Listed}
use Rattle.reply.specs.declared.Listed.TheVariants.{Identifiers, Communities}
use Rattle.reply.specs.declared.Part.{Part}
use Rattle.reply.specs.declared.Part.TheVariants.{Octets, Header, Codes, List as ListOf}
use Rattle.reply.specs.Replies.{status_code, list_of, status_response}

-- a status by its number
abbrev pub status_numbered : ℕ → Status
status_numbered code = record { number = code }

-- the response to a query with this msgRef, of the store with this image
abbrev pub response_of : List ℕ → List ℕ → List ℕ
response_of msg_ref image = status_response msg_ref (map identifier_in (records_of image)) (communities_of image)

-- its lists, and how many octets they take
unfoldable pub identifier_parts : List ℕ → List ℕ
identifier_parts image = list_of 0x04 (map identifier_in (records_of image))

unfoldable pub community_parts : List ℕ → List ℕ
community_parts image = list_of 0x06 (communities_of image)

abbrev pub terse_size : List ℕ → ℕ
terse_size image = length (identifier_parts image) + length (community_parts image)

-- the octets of an element with n octets of contents
abbrev pub element_size : ℕ → ℕ
element_size n = length (length_octets n) + 1 + n

-- the octets of a reply: an element of `lead` octets, of an element with m octets of contents, and of `after` more
abbrev pub reply_size : ℕ → ℕ → ℕ → ℕ
reply_size lead m after = element_size (lead + element_size m + after)

-- A list's members: the octets of an image in which they stand, and how many there are; the member at a place of those octets, and where it ends; the tag of each.

abbrev pub rows_in : Listed → List ℕ → List ℕ
rows_in Identifiers image = drop (first_record image) image
rows_in Communities image = community_octets image

abbrev pub count_in : Listed → List ℕ → ℕ
count_in Identifiers image = anchor_count image
count_in Communities image = community_count image

abbrev pub member_at : Listed → List ℕ → ℕ → List ℕ
member_at Identifiers s p = identifier_in (record_at s p)
member_at Communities s p = name_at s p

abbrev pub member_end : Listed → List ℕ → ℕ → ℕ
member_end Identifiers s p = record_end s p
member_end Communities s p = name_end s p

abbrev pub tag_of : Listed → ℕ
tag_of Identifiers = 0x04
tag_of Communities = 0x06

-- the n members at the head of octets, and as they are written; those of an image
unfoldable pub contents_from : Listed → ℕ → List ℕ → List (List ℕ)
contents_from Identifiers n s = map identifier_in (records_from n s)
contents_from Communities n s = names_from n s

unfoldable pub members_from : Listed → ℕ → List ℕ → List ℕ
members_from by n s = flat_map (element (tag_of by)) (contents_from by n s)

abbrev pub listed : Listed → List ℕ → List (List ℕ)
listed by image = contents_from by (count_in by image) (rows_in by image)

-- a StatusCodeList's members, of codes that stand as octets
unfoldable pub status_codes : List ℕ → List ℕ
status_codes codes = flat_map status_code (map status_numbered codes)

-- a part of a reply
abbrev pub part_octets : Part → List ℕ
part_octets (Octets s) = s.now
part_octets (Header tag n) = header tag n
part_octets (Codes s) = status_codes s.now
part_octets (ListOf by image) = list_of (tag_of by) (listed by image.now)

-- The writer once octets are appended: the same borrow, with s at the writer's place, and the place after it. (`at_last x l` is the reference x at the list l.)
abbrev pub wrote : Writer → List ℕ → Writer
wrote w s = record { buf = at_last w.buf (placed w.buf.now w.at s); at = w.at + length s }

-- the octets of a reply's parts
abbrev pub octets_of : List Part → List ℕ
octets_of parts = flat_map part_octets parts
