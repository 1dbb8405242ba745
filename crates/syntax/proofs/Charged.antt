-- 02, E3: what the grammar charges is the element that lacks a part, or an identifier octet of the run that it reads.
use Rattle.std.specs.Prelude.{Ok, Err}
use Prim.Native.Nat.{ℕ, ◌<◌}
use native.Mathlib.Omega.{arith}
use mathlib.Core.Bool.{Bool, true, false, ◌&&◌, ◌||◌, and-eq-true_iff, true≢false}
use mathlib.Core.List.{List, [], ◌∷◌}
use mathlib.Core.Path.{◌≡◌, refl, sym, ap, subst, ◌∙◌}
use lib.ListN.{length}
use lib.Dec.{ltb, leb, eqb}
use borrow.Author.Tests.{ltb-true, leb-false, eqb-true}
use Rattle.octets.specs.Octets.{slice}
use Rattle.octets.specs.Lists.{Among}
use Rattle.octets.proofs.Lists.{by_test, among_one}
use Rattle.der.specs.declared.Element.{Element}
use Rattle.der.specs.Element.{element_at, elements, root, constructed}
use Rattle.der.specs.Fit.{held, Fit}
use Rattle.der.specs.Check.{spans}
use Rattle.der.specs.Identifier.{IdentifierOctet, own, of_member}
use Rattle.der.proofs.Members.{among_first, among_later, member_is, run_of_one}
use Rattle.der.proofs.Charged.{then_charges, held_charges, each_charges, spans_charges, root-octet}
use Rattle.der.proofs.Bools.{on_true, on_false}
use Rattle.der.proofs.Fits.{breaks≢fits}
use Rattle.der.proofs.Elements.{valid_within, bounded}
use Rattle.syntax.proofs.Depth.{der_valid, spans_fits}
use Rattle.syntax.specs.Grammar.{Syntax, free, end, obeys, optional, one, any_optional, many, obeyed, by_element, fit}

-- it looks for no element in its window
unfoldable pub leaf : Syntax → Bool
leaf free = true
leaf end = false
leaf (obeys r g) = leaf g
leaf (optional t g next) = false
leaf (one g next) = false
leaf (any_optional next) = false
leaf (many g) = false

-- it looks for elements in constructed ones only
unfoldable pub opens_constructed : Syntax → Bool
opens_constructed free = true
opens_constructed end = true
opens_constructed (obeys r g) = opens_constructed g
opens_constructed (optional t g next) = (constructed t || leaf g) && (opens_constructed g && opens_constructed next)
opens_constructed (one g next) = opens_constructed g && opens_constructed next
opens_constructed (any_optional next) = opens_constructed next
opens_constructed (many g) = opens_constructed g

module _ (s : List ℕ) {X : Type 0} {o : ℕ} where
  -- such a syntax charges the element whose contents it reads
  leaf_charges : (g : Syntax) (at stop outer : ℕ) → leaf g ≡ true → (outer ≡ o → X) → fit g s at stop outer ≡ Err o → X
  unfolding fit leaf
  leaf_charges free at stop outer l f h = absurd (breaks≢fits (sym h))
  leaf_charges end at stop outer l f h = absurd (true≢false (sym l))
  leaf_charges (obeys r g) at stop outer l f h =
      then_charges (fit g s at stop outer) (held outer (obeyed r (slice s at stop)))
      (leaf_charges g at stop outer l f)
      (λ _. held_charges outer (obeyed r (slice s at stop)) (λ _. f))
      h
  leaf_charges (optional t g next) at stop outer l f h = absurd (true≢false (sym l))
  leaf_charges (one g next) at stop outer l f h = absurd (true≢false (sym l))
  leaf_charges (any_optional next) at stop outer l f h = absurd (true≢false (sym l))
  leaf_charges (many g) at stop outer l f h = absurd (true≢false (sym l))

  -- the first of a run
  first_charged : (at stop : ℕ) → ((e : Element) → Among e (elements s at stop) → IdentifierOctet s o e → X) → at < stop → at ≡ o → X
  first_charged at stop f l k = f (element_at s at stop) (among_first s at stop l) (own ((bounded s at stop refl).here ∙ k))

  by_element_lem : (at : ℕ) (room valid : Bool) (none there : Fit)
      → (none ≡ Err o → X) → (room ≡ true → at ≡ o → X) → (valid ≡ true → there ≡ Err o → X) → by_element room at valid none there ≡ Err o → X
  by_element_lem at false valid none there f g k h = f h
  by_element_lem at true false none there f g k h = g refl (cc)
  by_element_lem at true true none there f g k h = k refl h

  by_tag : (tag t : ℕ) (other there : Fit) → (other ≡ Err o → X) → (tag ≡ t → there ≡ Err o → X)
      → ◌≡◌ {A = Fit} (elim (eqb tag t) [ false ↦ other | true ↦ there ]) (Err o) → X
  by_tag tag t other there f g h =
      by_test (eqb tag t)
      (λ q. g (eqb-true tag t q) (sym (on_true (eqb tag t) there other q) ∙ h))
      (λ q. f (sym (on_false (eqb tag t) there other q) ∙ h))

  -- an element by itself is a run of one
  pub alone : (at stop : ℕ) (e : Element) → ((e : Element) → Among e (elements s at stop) → IdentifierOctet s o e → X) → Among e (elements s at stop)
      → e.valid ≡ true → (m : Element) → Among m (elements s e.at e.stop) → IdentifierOctet s o m → X
  alone at stop e i j v m l d =
      let is : m ≡ e = among_one (subst (Among m) (run_of_one s e.at stop (member_is s at stop j).element v) l) in
      i e j (subst (IdentifierOctet s o) is d)

  pub fit_charges : (g : Syntax) (at stop outer : ℕ) → opens_constructed g ≡ true → (outer ≡ o → X)
      → ((e : Element) → Among e (elements s at stop) → IdentifierOctet s o e → X) → fit g s at stop outer ≡ Err o → X
  unfolding fit opens_constructed
  fit_charges free at stop outer c f i h = absurd (breaks≢fits (sym h))
  fit_charges end at stop outer c f i h =
      held_charges at (leb stop at) (λ n k. first_charged at stop i (leb-false stop at n) k) h
  fit_charges (obeys r g) at stop outer c f i h =
      then_charges (fit g s at stop outer) (held outer (obeyed r (slice s at stop)))
      (fit_charges g at stop outer c f i)
      (λ _. held_charges outer (obeyed r (slice s at stop)) (λ _. f))
      h
  fit_charges (optional t g next) at stop outer c f i h =
      let e = element_at s at stop in
      let cs = (and-eq-true_iff (constructed t || leaf g) (opens_constructed g && opens_constructed next)).0 c in
      let gn = (and-eq-true_iff (opens_constructed g) (opens_constructed next)).0 cs.1 in
      by_element_lem at (ltb at stop) e.valid (fit next s at stop outer) _
      (fit_charges next at stop outer gn.1 f i)
      (λ r. first_charged at stop i (ltb-true at stop r))
      (λ v.
      let w = valid_within s at stop refl v in
      let l : at < stop = omega arith in
      by_tag e.tag t (fit next s at stop outer) _
      (fit_charges next at stop outer gn.1 f i)
      (λ q.
      then_charges (fit g s e.start e.stop at) (fit next s e.stop stop outer)
      (by_test (constructed t)
      (λ k.
      fit_charges g e.start e.stop at gn.0 (first_charged at stop i l)
      (λ m j d. i e (among_first s at stop l) (of_member (ap constructed q ∙ k) j d)))
      (λ k. leaf_charges g e.start e.stop at (rw k at cs.0) (first_charged at stop i l)))
      (λ _. fit_charges next e.stop stop outer gn.1 f (λ m j. i m (among_later s at stop v j)))))
      h
  fit_charges (one g next) at stop outer c f i h =
      let e = element_at s at stop in
      let gn = (and-eq-true_iff (opens_constructed g) (opens_constructed next)).0 c in
      by_element_lem at (ltb at stop) e.valid (Err outer) _
      (λ k. f (cc))
      (λ r. first_charged at stop i (ltb-true at stop r))
      (λ v.
      let w = valid_within s at stop refl v in
      let l : at < stop = omega arith in
      then_charges (fit g s at e.stop outer) (fit next s e.stop stop outer)
      (fit_charges g at e.stop outer gn.0 f
      (λ m j. alone at stop e i (among_first s at stop l) v m (subst (λ a. Among m (elements s a e.stop)) (sym w.here) j)))
      (λ _. fit_charges next e.stop stop outer gn.1 f (λ m j. i m (among_later s at stop v j))))
      h
  fit_charges (any_optional next) at stop outer c f i h =
      let e = element_at s at stop in
      by_element_lem at (ltb at stop) e.valid (fit next s at stop outer) _
      (fit_charges next at stop outer c f i)
      (λ r. first_charged at stop i (ltb-true at stop r))
      (λ v. fit_charges next e.stop stop outer c f (λ m j. i m (among_later s at stop v j)))
      h
  fit_charges (many g) at stop outer c f i h =
      each_charges (λ former e. fit g s e.at e.stop outer) (elements s at stop)
      (λ e j k. i e j (own k))
      (λ former e j v. fit_charges g e.at e.stop outer c f (alone at stop e i j v))
      h

-- octets by themselves, which one element should span
module _ (d : ℕ) (s : List ℕ) where
  pub one_charges : {X : Type 0} {o : ℕ} → (length s ≡ 0 → o ≡ 0 → X) → (o < length s → IdentifierOctet s o (root s) → X)
      → ((root s).valid ≡ true → o < length s → o ≡ (root s).stop → X) → spans d s 0 (length s) 0 ≡ Err o → X
  one_charges f g h =
      spans_charges d s 0 (length s) 0
      (λ l k. f (omega arith) (sym k))
      (λ l i. g (root-octet s l i) i)
      (λ e k n.
      let v = der_valid d s (root s) e in
      let w = valid_within s 0 (length s) refl v in
      h v (omega (arith, w.ends, n, k)) (sym k))

  module _ (one : spans d s 0 (length s) 0 ≡ Ok tt) where
    pub one_run : elements s 0 (length s) ≡ root s ∷ []
    one_run =
        let e = spans_fits d s 0 (length s) 0 one in
        subst (λ (n : ℕ). elements s 0 n ≡ root s ∷ []) e.1 (run_of_one s 0 (length s) refl (der_valid d s (root s) e.0))

    pub one_octet : {o : ℕ} → IdentifierOctet s o (root s) → o < length s
    one_octet =
        let w = valid_within s 0 (length s) refl (der_valid d s (root s) (spans_fits d s 0 (length s) 0 one).0) in
        root-octet s (omega (arith, w))

    -- a syntax that reads the element
    pub syntax_charges : (g : Syntax) → opens_constructed g ≡ true → {o : ℕ} → fit g s 0 (length s) 0 ≡ Err o → IdentifierOctet s o (root s)
    syntax_charges g c {o} =
        fit_charges s g 0 (length s) 0 c
        (λ k. own ((bounded s 0 (length s) refl).here ∙ k))
        (λ m i e. subst (IdentifierOctet s o) (among_one (subst (Among m) one_run i)) e)
