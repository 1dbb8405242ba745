-- Laws of `lookup` and of `find_some`, the first answer on a list.
use Rattle.std.specs.Prelude.{Option, Some, None}
use Rattle.std.specs.Option.{option_or}
use Rattle.std.proofs.lemmas.Option.{none-some}
use mathlib.Core.Bool.{true, false, false≢true}
use mathlib.Core.List.{List, [], ◌∷◌}
use mathlib.Core.Path.{◌≡◌, refl}
use Rattle.octets.specs.Lists.{any_of}
use Rattle.octets.specs.Octets.{same, member}
use Rattle.octets.proofs.Lists.{neither, member_head, member_tail, member_cases}
use Rattle.rights.specs.Rights.{Key, lookup}
use Rattle.rights.specs.Decision.{keys, find_some}

module _ {A : Type 0} where
  pub or_else_none : (a b : Option A) → option_or a b ≡ None → (a ≡ None) × (b ≡ None)
  or_else_none None b e = (refl, e)
  or_else_none (Some x) b e = (cc, cc)

  pub or_else_some : {P : Type 0} (a b : Option A) {x : A} → option_or a b ≡ Some x → (a ≡ Some x → P) → (b ≡ Some x → P) → P
  or_else_some None b e f g = g e
  or_else_some (Some y) b e f g = f e

  pub find_some-none : (f : Key → Option A) (l : List Key) → find_some f l ≡ None → (k : Key) → member k l ≡ true → f k ≡ None
  unfolding find_some member any_of
  find_some-none f [] e k m = absurd (false≢true m)
  find_some-none f (x ∷ l) e k m =
      let h = or_else_none (f x) (find_some f l) e in
      member_cases k x l m (λ q. rw q h.0) (find_some-none f l h.1 k)

  pub find_some-some : (f : Key → Option A) (l : List Key) {x : A} → find_some f l ≡ Some x → (k : Key) × (member k l ≡ true) × (f k ≡ Some x)
  unfolding find_some
  find_some-some f [] {x} e = absurd (none-some x e)
  find_some-some f (k ∷ l) {x} e =
      or_else_some
      (f k)
      (find_some f l)
      e
      (λ h. (k, member_head k l, h))
      (λ h. let r = find_some-some f l h in (r.0, member_tail r.0 k l r.1, r.2))

  -- nothing stands under a key that is not among the keys
  pub lookup-unlisted : (l : List (Key × A)) (k : Key) → member k (keys l) ≡ false → lookup k l ≡ None
  unfolding member any_of keys lookup
  lookup-unlisted [] k m = refl
  lookup-unlisted (e ∷ l) k m =
      let h = neither (same k e.0) (member k (keys l)) m in
      rw (h.0, lookup) (lookup-unlisted l k h.1)
