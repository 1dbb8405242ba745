-- 01, The store image: no two public keys are equal, so the first anchor found with a key is the only one that has it.
use Prim.Native.Nat.{ℕ}
use mathlib.Core.Bool.{Bool, true, false, ◌&&◌, ◌||◌, and-eq-true_iff}
use mathlib.Core.List.{List, [], ◌∷◌, ◌++◌, map}
use mathlib.Core.Path.{◌≡◌, refl, sym, ap, ap₂, ◌∙◌}
use Rattle.octets.specs.Lists.{any_of}
use Rattle.octets.specs.Octets.{same, member, distinct}
use Rattle.octets.proofs.Lists.{both, neither, same_answer, same_refl, same→≡, same_sym, distinct_parts}
use Rattle.anchor.specs.Info.{public_key}
use Rattle.store.specs.Store.{Anchor, public_key_of}
use Rattle.protocol.specs.Update.{has_key}
use Rattle.apply.proofs.Found.{First, any_less, any_one}

none_has : (key : List ℕ) (l : List Anchor) → member key (map public_key_of l) ≡ false → any_of (has_key key) l ≡ false
unfolding member any_of
none_has key [] e = refl
none_has key (b ∷ l) e =
    let h = neither (same key (public_key_of b)) (any_of (same key) (map public_key_of l)) e in
    rw (same_sym (public_key_of b) key ∙ h.0) (none_has key l h.1)

none_after : (key : List ℕ) (x y : List Anchor) (a : Anchor) → has_key key a ≡ true → distinct (map public_key_of (x ++ (a ∷ y))) ≡ true → any_of (has_key key) y ≡ false
none_after key [] y a t d = none_has key y (rw (same→≡ (public_key_of a) key t) at (distinct_parts (public_key_of a) (map public_key_of y) d).0)
none_after key (b ∷ x) y a t d = none_after key x y a t (distinct_parts (public_key_of b) (map public_key_of (x ++ (a ∷ y))) d).1

pub key_once : (key : List ℕ) (l : List Anchor) {k : ℕ} (f : First (has_key key) l k) → distinct (map public_key_of l) ≡ true → any_of (has_key key) f.after ≡ false
key_once key l f d =
    none_after key f.before f.after f.here f.passes (ap (λ (r : List Anchor). distinct (map public_key_of r)) (sym f.parts) ∙ d)

module _ (t : List ℕ) where
  abbrev has_octets : Anchor → Bool
  has_octets a = same a.info t

  abbrev has_both : Anchor → Bool
  has_both a = has_key (public_key t) a && has_octets a

  -- equal octets have equal keys
  has_both_lem : (a : Anchor) → has_octets a ≡ has_both a
  has_both_lem a =
      same_answer (has_octets a) (has_both a)
      (λ e. both (ap (λ (i : List ℕ). same (public_key i) (public_key t)) (same→≡ a.info t e) ∙ same_refl (public_key t)) e)
      (λ e. ((and-eq-true_iff (has_key (public_key t) a) (has_octets a)).0 e).1)

  any_both : (l : List Anchor) → any_of has_octets l ≡ any_of has_both l
  unfolding any_of
  any_both [] = refl
  any_both (a ∷ l) = ap₂ ◌||◌ (has_both_lem a) (any_both l)

  -- t is not stored where its key is not
  pub octets_nowhere : (l : List Anchor) → any_of (has_key (public_key t)) l ≡ false → any_of has_octets l ≡ false
  octets_nowhere l e = any_both l ∙ any_less (has_key (public_key t)) has_octets l e

  -- else it is stored if it is the anchor with its key
  pub octets_once : (l : List Anchor) {k : ℕ} (f : First (has_key (public_key t)) l k) → distinct (map public_key_of l) ≡ true → any_of has_octets l ≡ has_octets f.here
  octets_once l f d =
      any_both l
      ∙ ap (any_of has_both) f.parts
      ∙ any_one (has_key (public_key t)) f.before f.after f.here f.passes f.fails (key_once (public_key t) l f d) has_octets
