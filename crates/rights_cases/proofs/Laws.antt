-- The rights of a case's anchor, and the role, by the case's octets.
use Rattle.std.proofs.Common.{◌≡◌, ℕ, List, refl, ap, ◌∙◌}
use borrow.Author.Tests.{eq-eqb, ne_eqb}
use Rattle.rights.specs.Rights.{source, carrier, everything}
use Rattle.rights.specs.Constraints.{constraints_rights}
use Rattle.anchor.specs.Info.{constraints_value, rights_of}
use Rattle.anchor.proofs.Rights.{value_rights}
use Rattle.rights_cases.specs.Contract.Cases.{rights_if, content_role}

pub of_apex : (a : ℕ) (t : List ℕ) → a ≡ 1 → everything ≡ rights_if a t
unfolding rights_if
of_apex a t is = rw (eq-eqb a 1 is, rights_if) refl

pub of_other : (a : ℕ) (t : List ℕ) → (a ≡ 1 → ⊥) → rights_of t ≡ rights_if a t
unfolding rights_if
of_other a t not_is = rw (ne_eqb a 1 not_is, rights_if) refl

pub as_carrier : (a : ℕ) → a ≡ 1 → carrier ≡ content_role a
unfolding content_role
as_carrier a is = rw (eq-eqb a 1 is, content_role) refl

pub as_source : (a : ℕ) → (a ≡ 1 → ⊥) → source ≡ content_role a
unfolding content_role
as_source a not_is = rw (ne_eqb a 1 not_is, content_role) refl

-- the rights of another anchor are those of its own constraints
pub own_rights : (t : List ℕ) {v : List ℕ} → v ≡ constraints_value t → constraints_rights v ≡ rights_of t
own_rights t h = ap constraints_rights h ∙ value_rights t
