-- The signer as the code hands it on: what the rows after 16 and the effects read of it. All of it is total, as the parts of an image are.
use Rattle.std.specs.Prelude.{ℕ, true, false, List, eqb}
use Rattle.der.specs.Element.{contents, field}
use Rattle.rights.specs.Rights.{Rights, everything}
use Rattle.rights.specs.Constraints.{constraints_rights}
use Rattle.anchor.specs.Info.{constraints_extension}
use Rattle.store.specs.Contract.Parts.{first_record, record_at, record_place, info_in}
use Rattle.accept.specs.declared.Signer.{Signer}

-- the anchor at a position
unfoldable pub signer_at : List ℕ → ℕ → Signer
signer_at image i =
    let place = record_place image (first_record image) i in
    let info = info_in (record_at image place) in
    record { position = i; place = place; constraints = field 0x04 info (constraints_extension info) }

-- the octets of its content constraints
abbrev pub signer_constraints : List ℕ → Signer → List ℕ
signer_constraints image w = contents (info_in (record_at image w.place)) w.constraints

-- what it may ("The apex authorises everything")
unfoldable pub signer_rights : List ℕ → Signer → Rights
signer_rights image w = elim (eqb w.position 0) [ true ↦ everything | false ↦ constraints_rights (signer_constraints image w) ]
