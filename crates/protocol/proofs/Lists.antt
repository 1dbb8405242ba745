-- Laws of `given_if`, of the tests on lists (octets, specs/Lists), and of lists of octet strings with no two equal.
use Prim.Native.Nat.{ℕ, zero, suc, ◌<◌}
use native.Mathlib.Omega.{arith}
use mathlib.Core.Bool.{Bool, true, false, not, ◌||◌, and-eq-true_iff}
use mathlib.Core.List.{List, [], ◌∷◌, ◌++◌, map, map-id, append-nil}
use mathlib.Core.Path.{◌≡◌, refl, sym, ◌∙◌, ap, ap₂}
use lib.ListN.{length, get_or}
use Rattle.octets.specs.First.{given_if}
use borrow.Author.Tests.{not-true}
use Rattle.octets.specs.Lists.{any_of, all_of, filter, distinct_by}
use Rattle.octets.specs.Octets.{same, member, distinct}
use Rattle.octets.proofs.Lists.{by_test, both, neither, any_of-map, same_sym, all_of_weaken, keep_in, keep_out, member-append, distinct_parts}

module _ {A : Type 0} where
  -- what holds of the answer where its test applies, and of the next where it does not
  pub by_given : (P : A → Type 0) (b : Bool) {x y : A} → (b ≡ true → P x) → (b ≡ false → P y) → P (given_if b x y)
  unfolding given_if
  by_given P true f g = f refl
  by_given P false f g = g refl

  -- an answer that was not the one whose test came first is the next one's
  pub given-next : (b : Bool) (x y : A) {z : A} → (x ≡ z → ⊥) → given_if b x y ≡ z → y ≡ z
  unfolding given_if
  given-next true x y n e = absurd (n e)
  given-next false x y n e = e

  pub keep_cons : (p : A → Bool) (x : A) (a b : List A) → filter p a ≡ filter p b → filter p (x ∷ a) ≡ filter p (x ∷ b)
  keep_cons p x a b e =
      by_test (p x)
      (λ t. keep_in p x a t ∙ ap (λ r. x ∷ r) e ∙ sym (keep_in p x b t))
      (λ t. keep_out p x a t ∙ e ∙ sym (keep_out p x b t))

  pub keep_append : (p : A → Bool) (a b : List A) → filter p (a ++ b) ≡ filter p a ++ filter p b
  unfolding filter
  keep_append p [] b = refl
  keep_append p (x ∷ a) b =
      let h = keep_append p a b in
      by_test (p x)
      (λ t. keep_in p x (a ++ b) t ∙ ap (λ r. x ∷ r) h ∙ ap (λ r. r ++ filter p b) (sym (keep_in p x a t)))
      (λ t. keep_out p x (a ++ b) t ∙ h ∙ ap (λ r. r ++ filter p b) (sym (keep_out p x a t)))

  -- a last member that does not pass
  pub keep_last_out : (p : A → Bool) (a : List A) (x : A) → p x ≡ false → filter p (a ++ (x ∷ [])) ≡ filter p a
  unfolding filter
  keep_last_out p a x e = keep_append p a (x ∷ []) ∙ ap (λ r. filter p a ++ r) (keep_out p x [] e) ∙ append-nil (filter p a)

  -- where no member passes, none does once changed in what the test does not read
  pub keep_map-none : (p : A → Bool) (f : A → A) → ((x : A) → p (f x) ≡ p x) → (l : List A) → filter p l ≡ [] → filter p (map f l) ≡ []
  unfolding filter
  keep_map-none p f same [] e = refl
  keep_map-none p f same (x ∷ l) e =
      by_test (p x)
      (λ t. let z = sym (keep_in p x l t) ∙ e in cc)
      (λ t. keep_out p (f x) (map f l) (same x ∙ t) ∙ keep_map-none p f same l (sym (keep_out p x l t) ∙ e))

  pub keep_none : (p : A → Bool) → filter p [] ≡ []
  unfolding filter
  keep_none p = refl

  pub any_of-append : (p : A → Bool) (a b : List A) → any_of p (a ++ b) ≡ any_of p a || any_of p b
  unfolding any_of
  any_of-append p [] b = refl
  any_of-append p (x ∷ a) b = by_test (p x) (λ t. rw t) (λ t. rw t (any_of-append p a b))

  pub any_of_keep : (p q : A → Bool) (l : List A) → any_of p l ≡ false → any_of p (filter q l) ≡ false
  unfolding any_of filter
  any_of_keep p q [] e = e
  any_of_keep p q (x ∷ l) e =
      let h = neither (p x) (any_of p l) e in
      let ih = any_of_keep p q l h.1 in
      by_test (q x) (λ t. rw (keep_in q x l t) (rw h.0 ih)) (λ t. rw (keep_out q x l t) ih)

  pub all_of_keep : (p q : A → Bool) (l : List A) → all_of p l ≡ true → all_of p (filter q l) ≡ true
  unfolding all_of filter
  all_of_keep p q [] e = e
  all_of_keep p q (x ∷ l) e =
      let h = (and-eq-true_iff (p x) (all_of p l)).0 e in
      let ih = all_of_keep p q l h.1 in
      by_test (q x) (λ t. rw (keep_in q x l t) (both h.0 ih)) (λ t. rw (keep_out q x l t) ih)

  -- all that are kept pass
  pub all_of-kept : (p : A → Bool) (l : List A) → all_of p (filter p l) ≡ true
  unfolding all_of filter
  all_of-kept p [] = refl
  all_of-kept p (x ∷ l) =
      let ih = all_of-kept p l in
      by_test (p x) (λ t. rw (keep_in p x l t) (both t ih)) (λ t. rw (keep_out p x l t) ih)

  pub all_of-append : (p : A → Bool) (a b : List A) → all_of p a ≡ true → all_of p b ≡ true → all_of p (a ++ b) ≡ true
  unfolding all_of
  all_of-append p [] b e f = f
  all_of-append p (x ∷ a) b e f =
      let h = (and-eq-true_iff (p x) (all_of p a)).0 e in
      both h.0 (all_of-append p a b h.1 f)

  pub all_of_front : (p : A → Bool) (a b : List A) → all_of p (a ++ b) ≡ true → all_of p a ≡ true
  unfolding all_of
  all_of_front p [] b e = refl
  all_of_front p (x ∷ a) b e =
      let h = (and-eq-true_iff (p x) (all_of p (a ++ b))).0 e in
      both h.0 (all_of_front p a b h.1)

  pub all_of-after : (p : A → Bool) (a b : List A) → all_of p (a ++ b) ≡ true → all_of p b ≡ true
  unfolding all_of
  all_of-after p [] b e = e
  all_of-after p (x ∷ a) b e = all_of-after p a b ((and-eq-true_iff (p x) (all_of p (a ++ b))).0 e).1

  -- members changed by a function that keeps a test
  pub all_of-map : (p : A → Bool) (f : A → A) → ((x : A) → p x ≡ true → p (f x) ≡ true) → (l : List A) → all_of p l ≡ true → all_of p (map f l) ≡ true
  unfolding all_of
  all_of-map p f k [] e = e
  all_of-map p f k (x ∷ l) e =
      let h = (and-eq-true_iff (p x) (all_of p l)).0 e in
      both (k x h.0) (all_of-map p f k l h.1)

  pub all_of_and : {p q r : A → Bool} → ((x : A) → p x ≡ true → q x ≡ true → r x ≡ true) → (l : List A) → all_of p l ≡ true → all_of q l ≡ true → all_of r l ≡ true
  unfolding all_of
  all_of_and f [] e h = refl
  all_of_and {p} {q} f (x ∷ l) e h =
      let i = (and-eq-true_iff (p x) (all_of p l)).0 e in
      let j = (and-eq-true_iff (q x) (all_of q l)).0 h in
      both (f x i.0 j.0) (all_of_and f l i.1 j.1)

  pub any_of_false : (p : A → Bool) (l : List A) → any_of p l ≡ false → all_of (λ x. not (p x)) l ≡ true
  unfolding any_of all_of
  any_of_false p [] e = refl
  any_of_false p (x ∷ l) e =
      let h = neither (p x) (any_of p l) e in
      both (ap not h.0) (any_of_false p l h.1)

  -- a member that passes is kept
  pub kept_place : (p : A → Bool) (l : List A) (k : ℕ) (d : A) → k < length l → p (get_or l k d) ≡ true
      → (m : ℕ) × (m < length (filter p l)) × (get_or (filter p l) m d ≡ get_or l k d)
  kept_place p [] k d h t = absurd (omega arith)
  kept_place p (x ∷ l) zero d h t = rw (keep_in p x l t) (0, omega arith, refl)
  kept_place p (x ∷ l) (suc k) d h t =
      let n = kept_place p l k d (omega arith) t in
      by_test (p x) (λ e. rw (keep_in p x l e) (suc n.0, omega (arith, n.1), n.2)) (λ e. rw (keep_out p x l e) n)

  -- a member that passes, and is y
  abbrev pub Passing : (A → Bool) → List A → A → A → Type 0
  Passing p l d y = (j : ℕ) × (j < length l) × (get_or l j d ≡ y) × (p (get_or l j d) ≡ true)

  passing_after : (p : A → Bool) (x : A) (l : List A) (d y : A) → Passing p l d y → Passing p (x ∷ l) d y
  passing_after p x l d y n = (suc n.0, omega (arith, n.1), n.2, n.3)

  -- what is kept is one
  pub kept_from : (p : A → Bool) (l : List A) (m : ℕ) (d : A) → m < length (filter p l) → Passing p l d (get_or (filter p l) m d)
  unfolding filter
  kept_from p [] m d h = absurd (omega arith)
  kept_from p (x ∷ l) m d h =
      by_test (p x)
      (λ e. rw (keep_in p x l e) (here m e (rw (keep_in p x l e) at h) (λ k g. kept_from p l k d g)))
      (λ e. rw (keep_out p x l e) (passing_after p x l d _ (kept_from p l m d (rw (keep_out p x l e) at h))))
    where
      here : (m : ℕ) → p x ≡ true → m < length (x ∷ filter p l) → ((k : ℕ) → k < length (filter p l) → Passing p l d (get_or (filter p l) k d))
          → Passing p (x ∷ l) d (get_or (x ∷ filter p l) m d)
      here zero e h f = (0, omega arith, refl, e)
      here (suc m) e h f = passing_after p x l d _ (f m (omega arith))

-- a member of a list that was made of another
pub get_d_made : {A B : Type 0} (f : A → B) (l : List A) (i : ℕ) (a : A) (b : B) → i < length l → get_or (map f l) i b ≡ f (get_or l i a)
get_d_made f [] i a b h = absurd (omega arith)
get_d_made f (x ∷ l) zero a b h = refl
get_d_made f (x ∷ l) (suc i) a b h = get_d_made f l i a b (omega arith)

pub keep_map : {A B : Type 0} (p : B → Bool) (q : A → Bool) (f : A → B) → ((x : A) → p (f x) ≡ q x) → (l : List A) → filter p (map f l) ≡ map f (filter q l)
unfolding filter
keep_map p q f e [] = refl
keep_map p q f e (x ∷ l) =
    let ih = keep_map p q f e l in
    by_test (q x)
    (λ t. keep_in p (f x) (map f l) (e x ∙ t) ∙ ap (λ r. f x ∷ r) ih ∙ ap (map f) (sym (keep_in q x l t)))
    (λ t. keep_out p (f x) (map f l) (e x ∙ t) ∙ ih ∙ ap (map f) (sym (keep_out q x l t)))

pub map_same : {A B : Type 0} {f g : A → B} → ((x : A) → f x ≡ g x) → (l : List A) → map f l ≡ map g l
map_same e [] = refl
map_same e (x ∷ l) = ap₂ ◌∷◌ (e x) (map_same e l)

-- no two equal

pub distinct_cons : (k : List ℕ) (l : List (List ℕ)) → member k l ≡ false → distinct l ≡ true → distinct (k ∷ l) ≡ true
unfolding distinct distinct_by member
distinct_cons k l m d = both (ap not m) d

pub distinct_one : (k : List ℕ) → distinct (k ∷ []) ≡ true
unfolding distinct distinct_by any_of
distinct_one k = refl

-- an octet string is in no list of which no member is equal to it
pub not-member : (k : List ℕ) (l : List (List ℕ)) → all_of (λ x. not (same x k)) l ≡ true → member k l ≡ false
unfolding member any_of all_of
not-member k [] e = refl
not-member k (x ∷ l) e =
    let h = (and-eq-true_iff (not (same x k)) (all_of (λ x. not (same x k)) l)).0 e in
    rw (same_sym k x ∙ not-true _ h.0) (not-member k l h.1)

-- two lists joined, where no member of the second is in the first
pub distinct_append : (a b : List (List ℕ)) → distinct a ≡ true → distinct b ≡ true → all_of (λ x. not (member x a)) b ≡ true → distinct (a ++ b) ≡ true
unfolding member any_of
distinct_append [] b da db n = db
distinct_append (k ∷ a) b da db n =
    let h = distinct_parts k a da in
    let apart : (x : List ℕ) → not (member x (k ∷ a)) ≡ true → (same x k ≡ false) × (member x a ≡ false) =
    λ x e. neither (same x k) (member x a) (not-true _ e)
    in
    let here : member k b ≡ false = not-member k b (all_of_weaken _ _ (λ x e. ap not (apart x e).0) b n) in
    distinct_cons k (a ++ b)
    (member-append k a b ∙ ap₂ ◌||◌ h.0 here)
    (distinct_append a b h.1 db (all_of_weaken _ _ (λ x e. ap not (apart x e).1) b n))

pub distinct-after : (a b : List (List ℕ)) → distinct (a ++ b) ≡ true → distinct b ≡ true
distinct-after [] b d = d
distinct-after (k ∷ a) b d = distinct-after a b (distinct_parts k (a ++ b) d).1

-- what is left of a list of which some members are taken out
pub distinct_keep : {A : Type 0} (f : A → List ℕ) (q : A → Bool) (l : List A) → distinct (map f l) ≡ true → distinct (map f (filter q l)) ≡ true
unfolding filter member
distinct_keep f q [] d = d
distinct_keep f q (x ∷ l) d =
    let h = distinct_parts (f x) (map f l) d in
    let ih = distinct_keep f q l h.1 in
    by_test (q x)
    (λ t. rw (keep_in q x l t) (distinct_cons (f x) (map f (filter q l)) (any_of-map (same (f x)) f (filter q l) ∙ any_of_keep (λ y. same (f x) (f y)) q l (sym (any_of-map (same (f x)) f l) ∙ h.0)) ih))
    (λ t. rw (keep_out q x l t) ih)

pub distinct-kept : (q : List ℕ → Bool) (l : List (List ℕ)) → distinct l ≡ true → distinct (filter q l) ≡ true
distinct-kept q l d = ap distinct (sym (map-id (filter q l))) ∙ distinct_keep (λ k. k) q l (ap distinct (map-id l) ∙ d)
