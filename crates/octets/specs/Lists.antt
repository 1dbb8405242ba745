-- Tests on lists that compute, and membership.
use Rattle.std.specs.Prelude.{Bool, true, false, not, ◌&&◌, ◌||◌, List, [], ◌∷◌}

module _ {A : Type 0} where
  -- every member passes
  unfoldable pub all_of : (A → Bool) → List A → Bool
  all_of p [] = true
  all_of p (x ∷ l) = p x && all_of p l

  -- some member passes
  unfoldable pub any_of : (A → Bool) → List A → Bool
  any_of p [] = false
  any_of p (x ∷ l) = p x || any_of p l

  -- the members that pass, in order
  unfoldable pub filter : (A → Bool) → List A → List A
  filter p [] = []
  filter p (x ∷ l) = elim (p x) [ true ↦ x ∷ filter p l | false ↦ filter p l ]

  -- no two members of which the test says that they agree
  unfoldable pub distinct_by : (A → A → Bool) → List A → Bool
  distinct_by f [] = true
  distinct_by f (x ∷ l) = not (any_of (f x) l) && distinct_by f l

-- it stands in the list
pub data Among {A : Type 0} (x : A) : List A → Type 0 where
  first : {l : List A} → Among x (x ∷ l)
  later : {y : A} {l : List A} → Among x l → Among x (y ∷ l)
