-- Laws of the tests on lists and of membership (specs/Lists), and of `same`, `member` and `distinct` (specs/Octets).
use Prim.Native.Nat.{ℕ, ◌≤◌, ◌<◌}
use native.Mathlib.Omega.{arith}
use mathlib.Core.Bool.{Bool, true, false, not, ◌&&◌, ◌||◌, and-eq-true_iff, true≢false, false≢true}
use mathlib.Core.List.{List, [], ◌∷◌, ◌++◌, map}
use mathlib.Core.Path.{◌≡◌, refl, sym, ◌∙◌, ap, ap₂, subst}
use lib.ListN.{length}
use lib.Dec.{eqb}
use borrow.Author.Tests.{eqb-true, eq-eqb}
use Rattle.octets.specs.Lists.{all_of, any_of, filter, distinct_by, Among, first, later}
use Rattle.octets.specs.Octets.{same, member, distinct}

-- a test has one of two answers, and each case knows which
pub by_test : {P : Type 0} (b : Bool) → (b ≡ true → P) → (b ≡ false → P) → P
by_test true f g = f refl
by_test false f g = g refl

pub both : {a b : Bool} → a ≡ true → b ≡ true → a && b ≡ true
both {a} {b} p q = (and-eq-true_iff a b).1 (p, q)

pub neither : (a b : Bool) → a || b ≡ false → (a ≡ false) × (b ≡ false)
neither true b e = absurd (true≢false e)
neither false b e = (refl, e)

-- two tests that pass together are equal
pub same_answer : (a b : Bool) → (a ≡ true → b ≡ true) → (b ≡ true → a ≡ true) → a ≡ b
same_answer true b f g = sym (f refl)
same_answer false true f g = g refl
same_answer false false f g = refl

-- `same` decides equality

pub same_refl : (s : List ℕ) → same s s ≡ true
unfolding same
same_refl [] = refl
same_refl (x ∷ s) = both (eq-eqb x x refl) (same_refl s)

pub same→≡ : (s t : List ℕ) → same s t ≡ true → s ≡ t
unfolding same
same→≡ [] [] e = refl
same→≡ [] (y ∷ t) e = absurd (false≢true e)
same→≡ (x ∷ s) [] e = absurd (false≢true e)
same→≡ (x ∷ s) (y ∷ t) e =
    let h = (and-eq-true_iff (eqb x y) (same s t)).0 e in
    ap₂ ◌∷◌ (eqb-true x y h.0) (same→≡ s t h.1)

pub ≢→same : (s t : List ℕ) → (s ≡ t → ⊥) → same s t ≡ false
≢→same s t h = by_test (same s t) (λ e. absurd (h (same→≡ s t e))) (λ e. e)

pub same_sym : (s t : List ℕ) → same s t ≡ same t s
same_sym s t =
    same_answer (same s t) (same t s) (λ e. turn s t (same→≡ s t e)) (λ e. turn t s (same→≡ t s e))
  where
    turn : (s t : List ℕ) → s ≡ t → same t s ≡ true
    turn s t e = rw e (same_refl t)

-- every, some, keep

module _ {A : Type 0} where
  pub all_of_always : (p : A → Bool) → ((x : A) → p x ≡ true) → (l : List A) → all_of p l ≡ true
  unfolding all_of
  all_of_always p f [] = refl
  all_of_always p f (x ∷ l) = both (f x) (all_of_always p f l)

  pub all_of_weaken : (p q : A → Bool) → ((x : A) → p x ≡ true → q x ≡ true) → (l : List A) → all_of p l ≡ true → all_of q l ≡ true
  unfolding all_of
  all_of_weaken p q f [] e = refl
  all_of_weaken p q f (x ∷ l) e =
      let h = (and-eq-true_iff (p x) (all_of p l)).0 e in
      both (f x h.0) (all_of_weaken p q f l h.1)

  pub keep_in : (p : A → Bool) (x : A) (l : List A) → p x ≡ true → filter p (x ∷ l) ≡ x ∷ filter p l
  unfolding filter
  keep_in p x l e = rw (e, filter)

  pub keep_out : (p : A → Bool) (x : A) (l : List A) → p x ≡ false → filter p (x ∷ l) ≡ filter p l
  unfolding filter
  keep_out p x l e = rw (e, filter)

  pub keep_length : (p : A → Bool) (l : List A) → length (filter p l) ≤ length l
  unfolding filter
  keep_length p [] = omega arith
  keep_length p (x ∷ l) =
      let h = keep_length p l in
      by_test (p x) (λ e. omega (arith, ap length (keep_in p x l e))) (λ e. omega (arith, ap length (keep_out p x l e)))

pub any_of-map : {A B : Type 0} (p : B → Bool) (f : A → B) (l : List A) → any_of p (map f l) ≡ any_of (λ x. p (f x)) l
unfolding any_of
any_of-map p f [] = refl
any_of-map p f (x ∷ l) = ap (λ (b : Bool). p (f x) || b) (any_of-map p f l)

-- the members of a list of octet strings

pub member_head : (k : List ℕ) (l : List (List ℕ)) → member k (k ∷ l) ≡ true
unfolding member any_of
member_head k l = rw (same_refl k)

pub member_tail : (k x : List ℕ) (l : List (List ℕ)) → member k l ≡ true → member k (x ∷ l) ≡ true
unfolding member any_of
member_tail k x l e = by_test (same k x) (λ h. rw h) (λ h. rw h e)

pub member-append : (k : List ℕ) (a b : List (List ℕ)) → member k (a ++ b) ≡ member k a || member k b
unfolding member any_of
member-append k [] b = refl
member-append k (x ∷ a) b = by_test (same k x) (λ h. rw h) (λ h. rw h (member-append k a b))

-- a member is the first or a later one
pub member_cases : {P : Type 0} (k x : List ℕ) (l : List (List ℕ)) → member k (x ∷ l) ≡ true → (k ≡ x → P) → (member k l ≡ true → P) → P
unfolding member any_of
member_cases k x l e f g = by_test (same k x) (λ h. f (same→≡ k x h)) (λ h. g (rw h at e))

pub all_of-member : (p : List ℕ → Bool) (l : List (List ℕ)) (k : List ℕ) → all_of p l ≡ true → member k l ≡ true → p k ≡ true
unfolding all_of member any_of
all_of-member p [] k e m = absurd (false≢true m)
all_of-member p (x ∷ l) k e m =
    let h = (and-eq-true_iff (p x) (all_of p l)).0 e in
    member_cases k x l m (λ q. rw q h.0) (all_of-member p l k h.1)

pub keep_member : (p : List ℕ → Bool) (l : List (List ℕ)) (k : List ℕ) → member k l ≡ true → p k ≡ true → member k (filter p l) ≡ true
unfolding member any_of filter
keep_member p [] k m e = m
keep_member p (x ∷ l) k m e =
    member_cases
    k
    x
    l
    m
    (λ q.
    subst (λ (y : List ℕ). member y (filter p (x ∷ l)) ≡ true) (sym q) (rw (keep_in p x l (ap p (sym q) ∙ e)) (member_head x (filter p l))))
    (λ h.
    by_test (p x)
    (λ t. rw (keep_in p x l t) (member_tail k x (filter p l) (keep_member p l k h e)))
    (λ t. rw (keep_out p x l t) (keep_member p l k h e)))

-- a list that loses a member is shorter
pub keep_shorter : (p : List ℕ → Bool) (l : List (List ℕ)) (k : List ℕ) → member k l ≡ true → p k ≡ false → length (filter p l) < length l
unfolding member any_of filter
keep_shorter p [] k m e = absurd (false≢true m)
keep_shorter p (x ∷ l) k m e =
    member_cases
    k
    x
    l
    m
    (λ q. omega (arith, ap length (keep_out p x l (ap p (sym q) ∙ e)), keep_length p l))
    (λ h.
    let i = keep_shorter p l k h e in
    by_test (p x) (λ t. omega (arith, ap length (keep_in p x l t))) (λ t. omega (arith, ap length (keep_out p x l t))))

-- no two equal

pub member-none : (k : List ℕ) → member k [] ≡ false
unfolding member any_of
member-none k = refl

pub distinct_none : distinct [] ≡ true
unfolding distinct distinct_by
distinct_none = refl

-- the first is in none of the others
pub distinct_first : (k : List ℕ) (l : List (List ℕ)) → distinct (k ∷ l) ≡ not (member k l) && distinct l
unfolding distinct distinct_by member
distinct_first k l = refl

pub distinct_parts : (k : List ℕ) (l : List (List ℕ)) → distinct (k ∷ l) ≡ true → (member k l ≡ false) × (distinct l ≡ true)
distinct_parts k l h =
    by_test (member k l)
    (λ t. absurd (true≢false (sym h ∙ distinct_first k l ∙ rw t)))
    (λ t. (t, sym (distinct_first k l ∙ rw t) ∙ h))

-- what stands in a list: in none, as the first or a later one, in a list of one

pub among_none : {A : Type 0} {x : A} → Among x [] → ⊥
among_none = elim [ ]

pub among_either : {A X : Type 0} {x y : A} {l : List A} → Among x (y ∷ l) → (x ≡ y → X) → (Among x l → X) → X
among_either first f g = f refl
among_either (later i) f g = g i

pub among_one : {A : Type 0} {x y : A} → Among x (y ∷ []) → x ≡ y
among_one i = among_either i (λ q. q) (λ j. absurd (among_none j))
