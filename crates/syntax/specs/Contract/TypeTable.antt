-- 01, "What form each place needs": the constant table of the TAMP type OIDs. Row k is the ten octets from 10 * k on, the contents octets of an OID.
use Rattle.std.specs.Prelude.{ℕ, ◌+◌, ◌*◌, List, [], ◌∷◌, map, get_or}
use Rattle.octets.specs.Octets.{slice}
use Rattle.syntax.specs.declared.TampType.{TampType}
use Rattle.syntax.specs.declared.TampType.TheVariants.{SeqNumAdjust}
use Rattle.syntax.specs.Types.{tamp_types}

unfoldable pub type_table : List ℕ
type_table =
    0x60 ∷ 0x86 ∷ 0x48 ∷ 0x01 ∷ 0x65 ∷ 0x02 ∷ 0x01 ∷ 0x02 ∷ 0x4D ∷ 0x01  -- id-ct-TAMP-statusQuery
    ∷ 0x60 ∷ 0x86 ∷ 0x48 ∷ 0x01 ∷ 0x65 ∷ 0x02 ∷ 0x01 ∷ 0x02 ∷ 0x4D ∷ 0x03  -- id-ct-TAMP-update
    ∷ 0x60 ∷ 0x86 ∷ 0x48 ∷ 0x01 ∷ 0x65 ∷ 0x02 ∷ 0x01 ∷ 0x02 ∷ 0x4D ∷ 0x07  -- id-ct-TAMP-communityUpdate
    ∷ 0x60 ∷ 0x86 ∷ 0x48 ∷ 0x01 ∷ 0x65 ∷ 0x02 ∷ 0x01 ∷ 0x02 ∷ 0x4D ∷ 0x0A  -- id-ct-TAMP-seqNumAdjust
    ∷ []

abbrev pub type_rows : ℕ
type_rows = 4

-- the octets of a row, and the type that it stands for
abbrev pub type_octets : ℕ → List ℕ
type_octets k = slice type_table (10 * k) (10 * k + 10)

abbrev pub type_at : ℕ → TampType
type_at k = get_or tamp_types k SeqNumAdjust

-- the rows, each with its type
abbrev pub typed_rows : List (List ℕ × TampType)
typed_rows = map (λ k. (type_octets k, type_at k)) (0 ∷ 1 ∷ 2 ∷ 3 ∷ [])
