-- 01, Answers: 201, "the store image breaks a rule above"; and what the checks of its sections say.
use Rattle.std.specs.Prelude.{ℕ, ◌/◌, Bool, true, false, List, length, drop, Option, Some, None}
use Rattle.octets.specs.Octets.{octet}
use Rattle.store.specs.Image.{found, decode}
use Rattle.store.specs.Contract.Parts.{name_at}

abbrev pub is_given : {A : Type 0} → Option A → Bool
is_given None = false
is_given (Some x) = true

-- octets that break no rule: there is a store of which they are the image
abbrev pub is_image : List ℕ → Bool
is_image image = is_given (decode image)

-- the octets after what a reader found
abbrev pub after : {A : Type 0} → Option (A × List ℕ) → Option (List ℕ)
after None = None
after (Some p) = Some p.1

-- where a part of the image stops: the octets after it
abbrev pub rest_at : List ℕ → Option ℕ → Option (List ℕ)
rest_at s (Some e) = Some (drop e s)
rest_at s None = None

-- the same of a name at place p, and the name
abbrev pub name_read : List ℕ → ℕ → Option ℕ → Option (List ℕ × List ℕ)
name_read s p (Some e) = found (name_at s p) (drop e s)
name_read s p None = None

-- the octet in the middle of a key, by which keys are told apart
unfoldable pub middle_of : List ℕ → ℕ
middle_of k = octet k (length k / 2)
