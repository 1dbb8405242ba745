-- Two acceptances that are equal.
use Rattle.std.specs.Prelude.{Result, Ok, Err}
use Rattle.std.proofs.Common.{◌≡◌, ap}

module _ {A B E : Type 0} where
  parts : A × B → Result (A × B) E → A × B
  parts d (Ok p) = p
  parts d (Err e) = d

  pub ok_pair : {a x : A} {b y : B} → ◌≡◌ {A = Result (A × B) E} (Ok (a, b)) (Ok (x, y)) → (a ≡ x) × (b ≡ y)
  unfolding parts
  ok_pair {a} {x} {b} {y} e =
      let p : ◌≡◌ {A = A × B} (a, b) (x, y) = ap (parts (a, b)) e in
      (ap (λ q. q.0) p, ap (λ q. q.1) p)
