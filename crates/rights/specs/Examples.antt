-- 01, Checked examples, P1 to P10: the rights of each signer and each new anchor, and the claim that is proved of all contents (proofs/Examples).
use Rattle.std.specs.Prelude.{true, false, List, [], ◌∷◌}
use Rattle.rights.specs.Rights.{Key, Entry, Rights, any_content_type, free, nothing, Within}
use Rattle.rights.specs.Decision.{integer}

-- "T, A: a type, an attribute": 1.2.100.1 and 1.2.200.1
abbrev pub type_t : Key
type_t = 0x2A ∷ 0x64 ∷ 0x01 ∷ []

abbrev pub attribute_a : Key
attribute_a = 0x2A ∷ 0x81 ∷ 0x48 ∷ 0x01 ∷ []

-- 01 writes an entry with no limit by its type alone: canSource is RFC 6010's default

abbrev pub carrier_only : Entry
carrier_only = record { can_source = false; constraints = [] }

-- "A in ..": the values are INTEGERs
abbrev pub in_a : List Key → Entry
in_a values = record { can_source = true; constraints = (attribute_a, values) ∷ [] }

-- P1 signer {T}, new {T}: within.
abbrev pub p1_signer : Rights
p1_signer = (type_t, free) ∷ []

abbrev pub p1_new : Rights
p1_new = (type_t, free) ∷ []

-- P2 signer {T carrier only}, new {T}: not.
abbrev pub p2_signer : Rights
p2_signer = (type_t, carrier_only) ∷ []

abbrev pub p2_new : Rights
p2_new = (type_t, free) ∷ []

-- P3 signer {any}, new {T, A in 1}: within.
abbrev pub p3_signer : Rights
p3_signer = (any_content_type, free) ∷ []

abbrev pub p3_new : Rights
p3_new = (type_t, in_a (integer 1 ∷ [])) ∷ []

-- P4 signer {any; T, A in 1}, new {any}: not.
abbrev pub p4_signer : Rights
p4_signer = (any_content_type, free) ∷ (type_t, in_a (integer 1 ∷ [])) ∷ []

abbrev pub p4_new : Rights
p4_new = (any_content_type, free) ∷ []

-- P5 signer {any; T free}, new {any}: within.
abbrev pub p5_signer : Rights
p5_signer = (any_content_type, free) ∷ (type_t, free) ∷ []

abbrev pub p5_new : Rights
p5_new = (any_content_type, free) ∷ []

-- P6 signer {T, A in 1, 2}, new {T, A in 1}: within. P7, P8 and P9 have the same signer.
abbrev pub p6_signer : Rights
p6_signer = (type_t, in_a (integer 1 ∷ integer 2 ∷ [])) ∷ []

abbrev pub p6_new : Rights
p6_new = (type_t, in_a (integer 1 ∷ [])) ∷ []

-- P7 new {T, A in 1, 3}: not.
abbrev pub p7_signer : Rights
p7_signer = p6_signer

abbrev pub p7_new : Rights
p7_new = (type_t, in_a (integer 1 ∷ integer 3 ∷ [])) ∷ []

-- P8 new {T}: not.
abbrev pub p8_signer : Rights
p8_signer = p6_signer

abbrev pub p8_new : Rights
p8_new = (type_t, free) ∷ []

-- P9 new without extension: within.
abbrev pub p9_signer : Rights
p9_signer = p6_signer

abbrev pub p9_new : Rights
p9_new = nothing

-- P10 signer without, new {T}: not.
abbrev pub p10_signer : Rights
p10_signer = nothing

abbrev pub p10_new : Rights
p10_new = (type_t, free) ∷ []

abbrev pub P1_P10 : Type 0
P1_P10 =
    Within p1_signer p1_new
    × (Within p2_signer p2_new → ⊥)
    × Within p3_signer p3_new
    × (Within p4_signer p4_new → ⊥)
    × Within p5_signer p5_new
    × Within p6_signer p6_new
    × (Within p7_signer p7_new → ⊥)
    × (Within p8_signer p8_new → ⊥)
    × Within p9_signer p9_new
    × (Within p10_signer p10_new → ⊥)
