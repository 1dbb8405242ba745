-- What a search gives, and what it tells of lists in which one member alone passes.
use Rattle.std.specs.Prelude.{Some, None}
use Prim.Native.Nat.{ℕ, suc, ◌+◌, ◌≤◌, ◌<◌}
use native.Mathlib.Omega.{arith}
use mathlib.Core.Bool.{Bool, true, false, not, ◌&&◌, ◌||◌}
use mathlib.Core.List.{List, [], ◌∷◌, ◌++◌, map}
use mathlib.Core.Path.{◌≡◌, refl, sym, ap, ap₂, ◌∙◌}
use lib.ListN.{length}
use Rattle.octets.specs.Lists.{any_of, filter}
use Rattle.octets.proofs.Lists.{by_test, neither, keep_in, keep_out}
use Rattle.store.specs.Contract.Parts.{first_from}
use Rattle.store.proofs.Walk.{first_here, first_later}
use Rattle.protocol.proofs.Lists.{any_of-append, keep_append}

pub first_map : {A B : Type 0} (f : A → B) (p : B → Bool) (i : ℕ) (l : List A) → first_from i p (map f l) ≡ first_from i (λ x. p (f x)) l
unfolding first_from
first_map f p i [] = refl
first_map f p i (x ∷ l) =
    by_test (p (f x))
    (λ t. first_here p i (f x) (map f l) t ∙ sym (first_here (λ x. p (f x)) i x l t))
    (λ t. first_later p i (f x) (map f l) t ∙ first_map f p (suc i) l ∙ sym (first_later (λ x. p (f x)) i x l t))

at_same : (i j : ℕ) → Some i ≡ Some j → i ≡ j
at_same i j e = cc

nothing_at : {P : Type 0} (j : ℕ) → None ≡ Some j → P
nothing_at j e = let z : ◌≡◌ {A = ℕ} 0 1 = cc in absurd (omega arith)

-- the first member that passes, and the members around it
pub record First {A : Type 0} (p : A → Bool) (l : List A) (k : ℕ) : Type 0 where
  pub before : List A
  pub here : A
  pub after : List A
  pub parts : l ≡ before ++ (here ∷ after)
  pub place : length before ≡ k
  pub passes : p here ≡ true
  pub fails : any_of p before ≡ false

module _ {A : Type 0} (p : A → Bool) where
  pub first_at : (i j : ℕ) (l : List A) → first_from i p l ≡ Some j → (k : ℕ) × (j ≡ i + k) × First p l k
  unfolding first_from any_of
  first_at i j [] e = nothing_at j e
  first_at i j (x ∷ l) e =
      by_test (p x)
      (λ t. (
        0,
        omega (arith, at_same i j (sym (first_here p i x l t) ∙ e)),
        record {
          before = [];
          here = x;
          after = l;
          parts = refl;
          place = refl;
          passes = t;
          fails = refl;
        },
      ))
      (λ t.
      let (k, q, f) = first_at (suc i) j l (sym (first_later p i x l t) ∙ e) in (
        suc k,
        omega (arith, q),
        record {
          before = x ∷ f.before;
          here = f.here;
          after = f.after;
          parts = ap (λ (r : List A). x ∷ r) f.parts;
          place = ap suc f.place;
          passes = f.passes;
          fails = rw t f.fails;
        },
      ))

  -- the first of a list, or a later one
  pub head_found : (x : A) (l : List A) → first_from 0 p (x ∷ l) ≡ Some 0 → p x ≡ true
  head_found x l e =
      by_test (p x)
      (λ t. t)
      (λ t. let f = first_at 1 0 l (sym (first_later p 0 x l t) ∙ e) in absurd (omega (arith, f.1)))

  pub later-found : (x : A) (l : List A) (j : ℕ) → first_from 0 p (x ∷ l) ≡ Some j → (j ≡ 0 → ⊥) → (p x ≡ false) × ((k : ℕ) × (j ≡ suc k) × First p l k)
  later-found x l j e n =
      by_test (p x)
      (λ t. absurd (n (sym (at_same 0 j (sym (first_here p 0 x l t) ∙ e)))))
      (λ t.
      let (k, q, f) = first_at 1 j l (sym (first_later p 0 x l t) ∙ e) in
      (t, (k, omega (arith, q), f)))

  -- one member passes alone

  pub any_less : (q : A → Bool) (l : List A) → any_of p l ≡ false → any_of (λ b. p b && q b) l ≡ false
  unfolding any_of
  any_less q [] e = refl
  any_less q (b ∷ l) e =
      let h = neither (p b) (any_of p l) e in
      rw h.0 (any_less q l h.1)

  pub keep_all : (l : List A) → any_of p l ≡ false → filter (λ b. not (p b)) l ≡ l
  unfolding filter any_of
  keep_all [] e = refl
  keep_all (b ∷ l) e =
      let h = neither (p b) (any_of p l) e in
      keep_in (λ b. not (p b)) b l (ap not h.0) ∙ ap (λ (r : List A). b ∷ r) (keep_all l h.1)

  any_front : (l m : List A) → any_of p (l ++ m) ≡ false → any_of p l ≡ false
  unfolding any_of
  any_front [] m e = refl
  any_front (b ∷ l) m e =
      let h = neither (p b) (any_of p (l ++ m)) e in
      rw h.0 (any_front l m h.1)

  module _ (x y : List A) (a : A) (t : p a ≡ true) (ex : any_of p x ≡ false) (ey : any_of p y ≡ false) where
    pub any_one : (q : A → Bool) → any_of (λ b. p b && q b) (x ++ (a ∷ y)) ≡ q a
    unfolding any_of
    any_one q =
        any_of-append (λ b. p b && q b) x (a ∷ y)
        ∙ rw (any_less q x ex, t, any_less q y ey) (or_false (q a))
      where
        or_false : (b : Bool) → b || false ≡ b
        or_false true = refl
        or_false false = refl

    pub keep_rest : filter (λ b. not (p b)) (x ++ (a ∷ y)) ≡ x ++ y
    keep_rest =
        keep_append (λ b. not (p b)) x (a ∷ y)
        ∙ ap₂ ◌++◌ (keep_all x ex) (keep_out (λ b. not (p b)) a y (ap not t) ∙ keep_all y ey)

  -- how many are kept of the front of such a list
  pub kept_front : (x y : List A) (a : A) (old new : List A) → p a ≡ true → any_of p x ≡ false → any_of p y ≡ false → old ++ new ≡ x ++ (a ∷ y)
      → (length x < length old → length (filter (λ b. not (p b)) old) + 1 ≡ length old) × (length old ≤ length x → length (filter (λ b. not (p b)) old) ≡ length old)
  unfolding filter any_of
  kept_front x y a [] new t ex ey e = (λ h. absurd (omega arith), λ h. refl)
  kept_front [] y a (b ∷ old) new t ex ey e =
      let s : (b ≡ a) × (old ++ new ≡ y) = (cc, cc) in
      let k : filter (λ b. not (p b)) (b ∷ old) ≡ old =
      keep_out (λ b. not (p b)) b old (ap not (ap p s.0 ∙ t)) ∙ keep_all old (any_front old new (ap (any_of p) s.1 ∙ ey))
      in
      (λ h. omega (arith, ap length k), λ h. absurd (omega arith))
  kept_front (c ∷ x) y a (b ∷ old) new t ex ey e =
      let s : (b ≡ c) × (old ++ new ≡ x ++ (a ∷ y)) = (cc, cc) in
      let h = neither (p c) (any_of p x) ex in
      let k = keep_in (λ b. not (p b)) b old (ap not (ap p s.0 ∙ h.0)) in
      let (i, j) = kept_front x y a old new t h.1 ey s.1 in
      (λ l. omega (arith, ap length k, i (omega arith)), λ l. omega (arith, ap length k, j (omega arith)))
