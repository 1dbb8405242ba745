-- A run that is split before one of its members: the run up to that one, and the members after it.
use Prim.Native.Nat.{ℕ, ◌<◌}
use native.Mathlib.Omega.{arith}
use mathlib.Core.Bool.{true}
use mathlib.Core.List.{List, [], ◌∷◌, ◌++◌, append_assoc}
use mathlib.Core.Path.{◌≡◌, refl, sym, ap, subst, ◌∙◌}
use lib.Dec.{ltb}
use borrow.Author.Tests.{ltb-true, ltb-false}
use Rattle.octets.specs.Lists.{Among, first, later}
use Rattle.octets.proofs.Lists.{by_test, among_none}
use Rattle.der.specs.declared.Element.{Element}
use Rattle.der.specs.Element.{element_at, elements}
use Rattle.der.specs.Contract.Reading.{next_at}
use Rattle.der.proofs.Elements.{valid_within, bounded, elements_end, elements_turn}
use Rattle.der.proofs.Members.{member_is}
use Rattle.der.proofs.Runs.{next_valid, next_broken, run_turn, run_on, element_window}

among_here : {A : Type 0} (x : A) (l m : List A) → Among x (l ++ (x ∷ m))
among_here x [] m = first
among_here x (y ∷ l) m = later (among_here x l m)

module _ (s : List ℕ) (stop : ℕ) where
  record Begins (at : ℕ) (e : Element) (l : List Element) : Type 0 where
    room : at < stop
    is : e ≡ element_at s at stop
    rest : elements s (next_at e stop) stop ≡ l

  begins : (at : ℕ) {e : Element} {l : List Element} → elements s at stop ≡ e ∷ l → Begins at e l
  begins at {e} {l} h =
      by_test (ltb at stop)
      (λ t.
      let r = ltb-true at stop t in
      let turn = run_turn s at stop refl r refl in
      let i : e ≡ element_at s at stop = cc (h, turn) in
      let k : elements s (next_at (element_at s at stop) stop) stop ≡ l = cc (h, turn) in
      record { room = r; is = i; rest = ap (λ (x : Element). elements s (next_at x stop) stop) i ∙ k })
      (λ t. absurd (among_none {x = e} (subst (Among e) (sym h ∙ elements_end s at stop (ltb-false at stop t)) first)))

  module _ (e : Element) (m : List Element) where
    -- after a member before e comes the rest
    on : (y : Element) (l : List Element) → elements s (next_at y stop) stop ≡ l ++ (e ∷ m) → (y.valid ≡ true) × (elements s y.stop stop ≡ l ++ (e ∷ m))
    on y l h =
        by_test y.valid
        (λ g. (g, ap (λ (n : ℕ). elements s n stop) (sym (next_valid y stop g)) ∙ h))
        (λ g.
        let none = ap (λ (n : ℕ). elements s n stop) (next_broken y stop g) ∙ elements_end s stop stop (omega arith) in
        absurd (among_none {x = e} (subst (Among e) (sym h ∙ none) (among_here e l m))))

    before : (l : List Element) (at : ℕ) → elements s at stop ≡ l ++ (e ∷ m) → elements s at e.at ≡ l
    before [] at h = elements_end s at e.at (omega (arith, (bounded s at stop (begins at h).is).here))
    before (y ∷ l) at h =
        let b = begins at h in
        let n = on y l b.rest in
        let i = member_is s y.stop stop (subst (Among e) (sym n.1) (among_here e l m)) in
        let w = valid_within s at stop b.is n.0 in
        elements_turn s at e.at (sym (element_window s at stop e.at b.is n.0 i.from (omega (arith, i.before, w)))) n.0 ∙ ap (λ (x : List Element). y ∷ x) (before l y.stop n.1)

    after : (l : List Element) (at : ℕ) → elements s at stop ≡ l ++ (e ∷ m) → elements s e.at stop ≡ e ∷ m
    after [] at h = ap (λ (n : ℕ). elements s n stop) (bounded s at stop (begins at h).is).here ∙ h
    after (y ∷ l) at h = let n = on y l (begins at h).rest in after l y.stop n.1

  module _ (l : List Element) (at : ℕ) {r : List Element} (run : elements s at stop ≡ l ++ r) {e : Element} {m : List Element} (q : r ≡ e ∷ m) where
    here : elements s at stop ≡ l ++ (e ∷ m)
    here = run ∙ ap (λ (x : List Element). l ++ x) q

    pub split_before : elements s at e.at ≡ l
    split_before = before e m l at here

    -- those after it stand behind it
    pub split_behind : {x : Element} → Among x m → e.at < x.at
    split_behind {x} i =
        let b = begins e.at (after e m l at here) in
        let o = run_on s e.at stop b.is b.room refl in
        omega (arith, o.0, (member_is s (next_at e stop) stop (subst (Among x) (sym b.rest) i)).from)

    pub split_on : elements s at stop ≡ (l ++ (e ∷ [])) ++ m
    split_on = here ∙ sym (append_assoc l (e ∷ []) m)
