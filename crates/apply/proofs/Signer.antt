-- 01, After acceptance: "by the signer's rights at acceptance".
use Prim.Native.Nat.{ℕ}
use mathlib.Core.Bool.{Bool, true}
use mathlib.Core.List.{List}
use mathlib.Core.Path.{◌≡◌, sym, ap, ap₂, ◌∙◌}
use Rattle.rights.specs.Decision.{within}
use Rattle.rights.specs.Constraints.{constraints_rights}
use Rattle.rights.proofs.Within.{within-everything}
use Rattle.anchor.specs.Info.{constraints_value, rights_of}
use Rattle.anchor.proofs.Rights.{value_rights}
use Rattle.accept.specs.declared.Signer.{Signer}
use Rattle.accept.specs.Contract.Signer.{signer_constraints, signer_rights}
use Rattle.accept.proofs.Anchors.{other_rights}

module _ (image t : List ℕ) (w : Signer) where
  pub within_apex : w.position ≡ 0 → true ≡ within (signer_rights image w) (rights_of t)
  unfolding signer_rights
  within_apex e = rw (e, signer_rights) (sym (within-everything (rights_of t)))

  pub within-other : {v u : List ℕ} {b : Bool} → (w.position ≡ 0 → ⊥) → v ≡ signer_constraints image w → u ≡ constraints_value t
      → b ≡ within (constraints_rights v) (constraints_rights u) → b ≡ within (signer_rights image w) (rights_of t)
  within-other n f g h = h ∙ ap₂ within (ap constraints_rights f ∙ sym (other_rights image w n)) (ap constraints_rights g ∙ value_rights t)
