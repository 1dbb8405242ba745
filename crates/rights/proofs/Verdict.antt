-- What the engine's answer says of all contents: within exactly where the new anchor is within the signer, and else a content that lies outside.
use Rattle.std.specs.Prelude.{Option, Some, None}
use Prim.Native.Nat.{ℕ}
use mathlib.Core.Bool.{true, false}
use mathlib.Core.List.{List}
use mathlib.Core.Logic.{◌↔◌}
use mathlib.Core.Path.{◌≡◌, refl, sym, ap, ◌∙◌}
use Rattle.rights.specs.declared.decision.Excess.{Excess}
use Rattle.rights.specs.declared.decision.Lister.{Lister}
use Rattle.rights.specs.Rights.{Content, authorises, Within}
use Rattle.rights.specs.Decision.{outside}
use Rattle.rights.specs.Constraints.{constraints_rights}
use Rattle.rights.specs.Contract.RightsAnswer.{excess_content, listed_type, content_of}
use Rattle.rights.proofs.Within.{outside-none, outside-some, not-both}

module _ (signer new : List ℕ) where
  -- the promise of `content_outside`
  abbrev Promised : Option (Lister × Excess) → Type 0
  Promised r = content_of signer new r ≡ outside (constraints_rights signer) (constraints_rights new)

  abbrev content_given : Lister → Excess → Content
  content_given l x = excess_content signer new (listed_type signer new l) x

  pub given-outside :
      (l : Lister) (x : Excess) → Promised (Some (l, x))
      → (authorises (constraints_rights new) (content_given l x) ≡ true) × (authorises (constraints_rights signer) (content_given l x) ≡ false)
  given-outside l x h = outside-some (constraints_rights signer) (constraints_rights new) (sym h)

  pub says_within : (r : Option (Lister × Excess)) → Promised r → (r ≡ None) ↔ Within (constraints_rights signer) (constraints_rights new)
  says_within None h = (λ e. outside-none (constraints_rights signer) (constraints_rights new) (sym h), λ w. refl)
  says_within (Some (l, x)) h = (
    λ e. outside-none (constraints_rights signer) (constraints_rights new) (sym h ∙ ap (content_of signer new) e),
    λ w. let g = given-outside l x h in not-both (constraints_rights signer) (constraints_rights new) w (content_given l x, g.0, g.1),
  )
