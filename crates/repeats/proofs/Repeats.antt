-- The first member whose key stood before: what it says of lists in which no two keys are equal, and one member of a run at a time.
use Rattle.std.specs.Prelude.{Option, Some, None, is_some}
use Prim.Native.Nat.{ℕ, zero, suc, ◌-◌, ◌≤◌, ◌<◌}
use native.Mathlib.Omega.{arith}
use mathlib.Core.Bool.{Bool, true, false, not, true≢false}
use mathlib.Core.List.{List, [], ◌∷◌, ◌++◌, map, map-append, append_assoc, append-nil}
use mathlib.Core.Path.{◌≡◌, refl, sym, ap, ◌∙◌}
use lib.Dec.{ltb}
use borrow.Author.Tests.{ltb-true, ltb-false, eq-eqb, ne_eqb, not-true, not-false}
use Rattle.octets.specs.Octets.{member, distinct}
use Rattle.octets.proofs.Lists.{by_test}
use Rattle.der.specs.declared.Element.{Element}
use Rattle.der.specs.Element.{element_at, elements}
use Rattle.der.proofs.Elements.{valid_within, bounded, elements_end, elements_broken, elements_turn}
use Rattle.der.proofs.Runs.{Reached, reached_head, run_turn}
use Rattle.der.specs.declared.Compared.{Compared}
use Rattle.der.specs.Keys.{key_of, keys_from}
use Rattle.repeats.specs.Contract.Keys.{first_repeat, is_at}
use Rattle.repeats.proofs.Keys.{distinct_more, distinct_before}

module _ (by : Compared) (s : List ℕ) where
  abbrev key : Element → List ℕ
  key e = key_of by s e

  pub first_none : (seen : List (List ℕ)) → first_repeat by s seen [] ≡ None
  unfolding first_repeat
  first_none seen = refl

  module _ (seen : List (List ℕ)) (e : Element) (es : List Element) where
    first_hit : member (key e) seen ≡ true → first_repeat by s seen (e ∷ es) ≡ Some e.at
    unfolding first_repeat
    first_hit h = rw (h, first_repeat)

    first_miss : member (key e) seen ≡ false → first_repeat by s seen (e ∷ es) ≡ first_repeat by s (seen ++ (key e ∷ [])) es
    unfolding first_repeat
    first_miss h = rw (h, first_repeat)

    more : (rest : List (List ℕ)) → distinct (seen ++ (key e ∷ rest)) ≡ distinct ((seen ++ (key e ∷ [])) ++ rest)
    more rest = ap distinct (sym (append_assoc seen (key e ∷ []) rest))

  pub at_repeats : (seen : List (List ℕ)) (es : List Element) (rest : List (List ℕ)) {p : ℕ} → first_repeat by s seen es ≡ Some p → distinct (seen ++ (map key es ++ rest)) ≡ false
  at_repeats seen [] rest h = let z : ◌≡◌ {A = ℕ} 0 1 = cc (first_none seen) in absurd (omega arith)
  at_repeats seen (e ∷ es) rest h =
      let b = map key es ++ rest in
      by_test (distinct (seen ++ (key e ∷ b)))
      (λ d. absurd (true≢false (sym d ∙ more seen e es b ∙ at_repeats (seen ++ (key e ∷ [])) es rest (sym (first_miss seen e es (distinct_before seen (key e) b d)) ∙ h))))
      (λ d. d)

  pub never_repeats : (seen : List (List ℕ)) (es : List Element) → first_repeat by s seen es ≡ None → distinct seen ≡ true → distinct (seen ++ map key es) ≡ true
  never_repeats seen [] h d = ap distinct (append-nil seen) ∙ d
  never_repeats seen (e ∷ es) h d =
      by_test (member (key e) seen)
      (λ t. let z : ◌≡◌ {A = ℕ} 0 1 = cc (first_hit seen e es t) in absurd (omega arith))
      (λ t. more seen e es (map key es) ∙ never_repeats (seen ++ (key e ∷ [])) es (sym (first_miss seen e es t) ∙ h) (distinct_more seen (key e) d t))

  -- a loop over the members that are left: none, or one that is the next
  module _ (seen : List (List ℕ)) {l : List Element} where
    pub first_end : l ≡ [] → first_repeat by s seen l ≡ None
    first_end q = ap (first_repeat by s seen) q ∙ first_none seen

    module _ {e : Element} {m : List Element} (q : l ≡ e ∷ m) where
      pub member_hit : member (key e) seen ≡ true → first_repeat by s seen l ≡ Some e.at
      member_hit h = ap (first_repeat by s seen) q ∙ first_hit seen e m h

      pub member_miss : member (key e) seen ≡ false → first_repeat by s seen l ≡ first_repeat by s (seen ++ (key e ∷ [])) m
      member_miss h = ap (first_repeat by s seen) q ∙ first_miss seen e m h

  pub keys_more : (h : List (List ℕ)) (l : List Element) (e : Element) → h ++ map key (l ++ (e ∷ [])) ≡ (h ++ map key l) ++ (key e ∷ [])
  keys_more h l e = ap (λ x. h ++ x) (map-append key l (e ∷ [])) ∙ sym (append_assoc h (map key l) (key e ∷ []))

  -- what is_none tells of it
  module _ (seen : List (List ℕ)) (es : List Element) {b : Bool} where
    pub some_repeats : (rest : List (List ℕ)) (r : Option ℕ) → r ≡ first_repeat by s seen es → is_some r ≡ not b → b ≡ false → distinct (seen ++ (map key es ++ rest)) ≡ false
    some_repeats rest None h i e = absurd (true≢false (sym (not-false b (sym i)) ∙ e))
    some_repeats rest (Some p) h i e = at_repeats seen es rest (sym h)

    pub none_repeats : (r : Option ℕ) → r ≡ first_repeat by s seen es → is_some r ≡ not b → distinct seen ≡ true → b ≡ distinct (seen ++ map key es)
    none_repeats None h i d = not-false b (sym i) ∙ sym (never_repeats seen es (sym h) d)
    none_repeats (Some p) h i d = not-true b (sym i) ∙ sym (ap (λ (l : List (List ℕ)). distinct (seen ++ l)) (sym (append-nil (map key es))) ∙ at_repeats seen es [] (sym h))

  -- a run, at a place that it reaches

  pub run_never : (seen : List (List ℕ)) (at stop : ℕ) → stop ≤ at → first_repeat by s seen (elements s at stop) ≡ None
  run_never seen at stop h = ap (first_repeat by s seen) (elements_end s at stop h) ∙ first_none seen

  moved : {k : List ℕ} (e : Element) → k ≡ key e → (seen : List (List ℕ)) {b : Bool} → member k seen ≡ b → member (key e) seen ≡ b
  moved e j seen m = ap (λ (x : List ℕ). member x seen) (sym j) ∙ m

  module _ (at stop : ℕ) {e : Element} (q : e ≡ element_at s at stop) {k : List ℕ} (j : k ≡ key e) where
    pub run_hit : (seen : List (List ℕ)) → at < stop → member k seen ≡ true → first_repeat by s seen (elements s at stop) ≡ Some at
    run_hit seen l m =
        ap (first_repeat by s seen) (run_turn s at stop q l refl) ∙ first_hit seen e _ (moved e j seen m) ∙ ap Some (bounded s at stop q).here

    pub run_broken : (seen : List (List ℕ)) → at < stop → member k seen ≡ false → e.valid ≡ false → first_repeat by s seen (elements s at stop) ≡ None
    run_broken seen l m g =
        ap (first_repeat by s seen) (elements_broken s at stop q l g) ∙ first_miss seen e [] (moved e j seen m) ∙ first_none _

    module _ (h : List (List ℕ)) {start : ℕ} (r : Reached s start at) (g : e.valid ≡ true) where
      pub seen_on : (h ++ keys_from by s start at) ++ (k ∷ []) ≡ h ++ keys_from by s start e.stop
      seen_on =
          let w = valid_within s at stop q g in
          let f = reached_head r stop q g e.stop (omega arith) (omega (arith, w)) ∙ ap (λ (x : List Element). elements s start at ++ (e ∷ x)) (elements_end s e.stop e.stop (omega arith)) in
          append_assoc h (keys_from by s start at) (k ∷ [])
          ∙ ap (λ (x : List ℕ). h ++ (keys_from by s start at ++ (x ∷ []))) j
          ∙ ap (λ (l : List (List ℕ)). h ++ l) (sym (ap (map key) f ∙ map-append key (elements s start at) (e ∷ [])))

      pub run_on : member k (h ++ keys_from by s start at) ≡ false
          → first_repeat by s (h ++ keys_from by s start at) (elements s at stop) ≡ first_repeat by s (h ++ keys_from by s start e.stop) (elements s e.stop stop)
      run_on m =
          let seen = h ++ keys_from by s start at in
          ap (first_repeat by s seen) (elements_turn s at stop q g)
          ∙ first_miss seen e _ (moved e j seen m)
          ∙ ap (λ (l : List (List ℕ)). first_repeat by s l (elements s e.stop stop)) (ap (λ (x : List ℕ). seen ++ (x ∷ [])) (sym j) ∙ seen_on)

  -- a run tells of no member before it
  run-later : (n : ℕ) (seen : List (List ℕ)) (at stop : ℕ) → stop - at ≤ n → {p : ℕ} → p < at → is_at (first_repeat by s seen (elements s at stop)) p ≡ false
  run-later zero seen at stop h {p} l = ap (λ (r : Option ℕ). is_at r p) (run_never seen at stop (omega arith))
  run-later (suc n) seen at stop h {p} l =
      let e = element_at s at stop in
      by_test (ltb at stop)
      (λ t.
      let b = ltb-true at stop t in
      by_test (member (key e) seen)
      (λ m. ap (λ (r : Option ℕ). is_at r p) (run_hit at stop refl refl seen b m) ∙ ne_eqb at p (λ x. omega (arith, x, l)))
      (λ m.
      by_test e.valid
      (λ g.
      let w = valid_within s at stop refl g in
      ap (λ (r : Option ℕ). is_at r p) (ap (first_repeat by s seen) (elements_turn s at stop refl g) ∙ first_miss seen e _ m)
      ∙ run-later n (seen ++ (key e ∷ [])) e.stop stop (omega (arith, w, h)) (omega (arith, w, l)))
      (λ g. ap (λ (r : Option ℕ). is_at r p) (run_broken at stop refl refl seen b m g))))
      (λ t. ap (λ (r : Option ℕ). is_at r p) (run_never seen at stop (ltb-false at stop t)))

  -- whether it is the one at a place that the run reaches
  pub run_is : (at stop : ℕ) {e : Element} → e ≡ element_at s at stop → e.valid ≡ true → (start : ℕ) → Reached s start at
      → is_at (first_repeat by s (keys_from by s start at) (elements s at stop)) at ≡ member (key e) (keys_from by s start at)
  run_is at stop {e} q g start r =
      let seen = keys_from by s start at in
      let w = valid_within s at stop q g in
      by_test (member (key e) seen)
      (λ m. ap (λ (x : Option ℕ). is_at x at) (run_hit at stop q refl seen (omega (arith, w)) m) ∙ eq-eqb at at refl ∙ sym m)
      (λ m. ap (λ (x : Option ℕ). is_at x at) (run_on at stop q refl [] r g m) ∙ run-later (stop - e.stop) _ e.stop stop (omega arith) (omega (arith, w)) ∙ sym m)
