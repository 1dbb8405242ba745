-- 01, Checked examples, the listing: "role (apex, management if it has constraints, else identity)".
use Rattle.std.specs.Prelude.{ℕ, true, false, List, eqb}
use Rattle.der.specs.declared.Element.{Element}
use Rattle.der.specs.Element.{root, field}
use Rattle.anchor.specs.declared.AnchorRole.{AnchorRole}
use Rattle.anchor.specs.declared.AnchorRole.TheVariants.{Apex, Management, Identity}
use Rattle.anchor.specs.Info.{has_constraints}

-- by the anchor's position in the store
unfoldable pub role_of : ℕ → List ℕ → AnchorRole
role_of position t = elim (eqb position 0) [ true ↦ Apex | false ↦ elim (has_constraints t) [ true ↦ Management | false ↦ Identity ] ]

-- Extensions, whose members are `extensions`
abbrev pub extension_list : List ℕ → Element
extension_list t = field 0x30 t (field 0xA1 t (root t))
