-- The search for a key in a run.
use Rattle.std.specs.Prelude.{Option, Some, None}
use Prim.Native.Nat.{ℕ}
use mathlib.Core.Bool.{true, false}
use mathlib.Core.List.{List, [], ◌∷◌, map}
use mathlib.Core.Path.{◌≡◌, refl, sym, ◌∙◌}
use Rattle.std.specs.Prelude.{is_some}
use Rattle.std.specs.List.{find}
use Rattle.octets.specs.Lists.{any_of}
use Rattle.octets.specs.Octets.{same, member}
use Rattle.octets.proofs.Lists.{by_test, same→≡}
use Rattle.der.specs.declared.Element.{Element}
use Rattle.der.specs.declared.Compared.{Compared}
use Rattle.der.specs.Keys.{key_of, first_with}

module _ (by : Compared) (s k : List ℕ) where
  pub first_hit : (e : Element) (l : List Element) → same k (key_of by s e) ≡ true → first_with by s k (e ∷ l) ≡ Some e
  unfolding first_with
  first_hit e l h = rw (h, first_with)

  pub first_miss : (e : Element) (l : List Element) → same k (key_of by s e) ≡ false → first_with by s k (e ∷ l) ≡ first_with by s k l
  unfolding first_with
  first_miss e l h = rw (h, first_with)

  -- it has the key
  pub first_key : (l : List Element) {e : Element} → first_with by s k l ≡ Some e → key_of by s e ≡ k
  unfolding first_with
  first_key [] h = cc
  first_key (x ∷ l) {e} h =
      by_test (same k (key_of by s x))
      (λ t. let q : x ≡ e = cc (first_hit x l t) in rw (← q) (sym (same→≡ k (key_of by s x) t)))
      (λ t. first_key l (sym (first_miss x l t) ∙ h))

  -- there is one exactly if the key is among the keys
  pub first_member : (l : List Element) {f : Option Element} → f ≡ first_with by s k l → {e : Element} → f ≡ Some e → true ≡ member k (map (key_of by s) l)
  unfolding member any_of first_with
  first_member [] q t = cc
  first_member (x ∷ l) q t = by_test (same k (key_of by s x)) (λ w. rw w) (λ w. rw w (first_member l (q ∙ first_miss x l w) t))

  pub first_none : (l : List Element) {f : Option Element} → f ≡ first_with by s k l → f ≡ None → false ≡ member k (map (key_of by s) l)
  unfolding member any_of first_with
  first_none [] q t = refl
  first_none (x ∷ l) q t = by_test (same k (key_of by s x)) (λ w. cc (first_hit x l w)) (λ w. rw w (first_none l (q ∙ first_miss x l w) t))

  -- as a search
  pub first_found : (l : List Element) → find (λ (e : Element). same k (key_of by s e)) l ≡ first_with by s k l
  unfolding first_with
  first_found [] = refl
  first_found (x ∷ l) = by_test (same k (key_of by s x)) (λ h. rw (h, first_with)) (λ h. rw (h, first_with) (first_found l))

  -- whether there is one
  pub found_member : (l : List Element) → is_some (first_with by s k l) ≡ member k (map (key_of by s) l)
  unfolding member any_of first_with
  found_member [] = refl
  found_member (x ∷ l) = by_test (same k (key_of by s x)) (λ h. rw (h, first_with)) (λ h. rw (h, first_with) (found_member l))
