-- 01, Answers, 38 and 23, and the sentence "Target": the target is given as the octets of its element. Row 36 has left it no tag but those of a
-- TargetIdentifier, of which 38 takes two before 23, and its entries none but those of a HardwareSerialEntry: the last of each is told by being none of the
-- others.
use Rattle.std.specs.Prelude.{ℕ, Bool, true, false, ◌&&◌, ◌||◌, List, length, eqb, leb}
use Rattle.octets.specs.Lists.{any_of}
use Rattle.octets.specs.Octets.{same, member}
use Rattle.octets.specs.Number.{number}
use Rattle.der.specs.declared.Element.{Element}
use Rattle.der.specs.Element.{root, contents, inside, field, field_after}

-- "a block whose low and high have the serial's length and bound it as big-endian numbers, ends included"
unfoldable pub block_names : List ℕ → List ℕ → List ℕ → Bool
block_names serial low high =
    eqb (length low) (length serial) && eqb (length high) (length serial)
    && leb (number low) (number serial) && leb (number serial) (number high)

-- a HardwareSerialEntry: serial "all", "a single equal serial, or a block"
unfoldable pub entry_names : List ℕ → List ℕ → Element → Bool
entry_names serial target e =
    let low = field 0x04 target e in
    elim (eqb e.tag 0x05) [
      | true ↦ true
      | false ↦
          elim (eqb e.tag 0x04) [
            | true ↦ same (contents target e) serial
            | false ↦ block_names serial (contents target low) (contents target (field_after 0x04 target e low))
          ]
    ]

-- a HardwareModules: "the same hwType with .."
unfoldable pub module_names : List ℕ → List ℕ → List ℕ → Element → Bool
module_names hw_type serial target m =
    same (contents target (field 0x06 target m)) hw_type && any_of (entry_names serial target) (inside target (field 0x30 target m))

-- "allModules; a community in the store; or the same hwType with .."
unfoldable pub names_device : List ℕ → List ℕ → List (List ℕ) → List ℕ → Bool
names_device hw_type serial communities target =
    let t = root target in
    elim (eqb t.tag 0x83) [
      | true ↦ true
      | false ↦
          elim (eqb t.tag 0xA2) [
            | true ↦ any_of (λ c. member (contents target c) communities) (inside target t)
            | false ↦ any_of (module_names hw_type serial target) (inside target t)
          ]
    ]

-- 38: target is uri or otherName
abbrev pub is_unsupported : List ℕ → Bool
is_unsupported target = eqb (root target).tag 0x84 || eqb (root target).tag 0xA5
