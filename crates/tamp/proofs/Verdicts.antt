-- 202: what `all` says of a verdict's octets, in the words of octets' specs/Lists.
use Rattle.std.proofs.Common.{◌≡◌, ℕ, List, refl, [], ◌∷◌, ap, leb, ◌&&◌}
use Rattle.std.specs.List.{list_all}
use Rattle.octets.specs.Lists.{all_of}

pub binary_is : (l : List ℕ) → list_all (λ v. leb v 1) l ≡ all_of (λ v. leb v 1) l
unfolding all_of
binary_is [] = refl
binary_is (x ∷ l) = ap (λ b. leb x 1 && b) (binary_is l)
