-- `option_map` taken back.
use Rattle.std.specs.Prelude.{Option, None, Some, option_map}
use Rattle.std.proofs.Common.{◌≡◌, refl}
use Rattle.std.proofs.lemmas.Option.{none-some, same_Some}

module _ {A B : Type 0} (f : A → B) where
  pub map_some : (o : Option A) {b : B} → option_map f o ≡ Some b → (a : A) × (o ≡ Some a) × (f a ≡ b)
  map_some None {b} e = absurd (none-some b e)
  map_some (Some a) {b} e = (a, refl, same_Some (f a) b e)

  pub map_none : (o : Option A) → option_map f o ≡ None → o ≡ None
  map_none None e = refl
  map_none (Some a) e = cc
