-- The limits of 01, each under one name.
use Rattle.std.specs.Prelude.{ℕ}

-- 01, The store image
abbrev pub max_anchors : ℕ
max_anchors = 32

abbrev pub max_communities : ℕ
max_communities = 16

-- hwType, serial and a community's OID contents, in octets
abbrev pub max_name_octets : ℕ
max_name_octets = 32

-- a TrustAnchorInfo, in octets
abbrev pub max_anchor_octets : ℕ
max_anchor_octets = 1_024

-- a sequence number: RFC 5934, SeqNumber
abbrev pub max_number : ℕ
max_number = 9_223_372_036_854_775_807

-- a key identifier, in octets (01, After acceptance, add)
abbrev pub max_key_identifier : ℕ
max_key_identifier = 32

-- 01, DER
abbrev pub max_depth : ℕ
max_depth = 16

-- 01, Rights: entries, attribute constraints of an entry, values of an attribute constraint, octets of a value
abbrev pub max_entries : ℕ
max_entries = 16

abbrev pub max_attributes : ℕ
max_attributes = 4

abbrev pub max_values : ℕ
max_values = 4

abbrev pub max_value_octets : ℕ
max_value_octets = 64

-- 01, After acceptance, Update
abbrev pub max_updates : ℕ
max_updates = 16

-- 01, Answers: the rooms of 203, the reply of 205, the message of 204
abbrev pub reply_room : ℕ
reply_room = 10_240

-- ("The largest image is 33,717 octets")
abbrev pub image_room : ℕ
image_room = 33_717

abbrev pub max_message : ℕ
max_message = 8_192
