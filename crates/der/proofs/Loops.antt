-- The first member with a tag, as a search.
use mathlib.Core.List.{List, [], ◌∷◌}
use mathlib.Core.Path.{◌≡◌, refl}
use Prim.Native.Nat.{ℕ}
use lib.Dec.{eqb}
use Rattle.std.specs.Prelude.{unwrap_or}
use Rattle.std.specs.List.{find}
use Rattle.octets.proofs.Lists.{by_test}
use Rattle.der.specs.declared.Element.{Element}
use Rattle.der.specs.Element.{absent, with_tag}

pub tag_found : (t : ℕ) (l : List Element) → unwrap_or (find (λ (e : Element). eqb e.tag t) l) (absent 0) ≡ with_tag t l
unfolding with_tag
tag_found t [] = refl
tag_found t (e ∷ l) = by_test (eqb e.tag t) (λ h. rw (h, with_tag)) (λ h. rw (h, with_tag) (tag_found t l))
