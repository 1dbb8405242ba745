-- What `find_map` gives over an iterator that is seen as the list of what it has left (`TakesFirst (λ x. x)`): an answer that agrees with the first of the decision.
use Rattle.std.specs.Prelude.{Option, None, Some, MatchOption, IfSome}
use Rattle.std.proofs.Common.{◌≡◌, refl, sym, ◌∙◌, ap, subst, IsTrue, List, [], ◌∷◌, map, ℕ, suc, ◌+◌, ◌<◌, slice_get}
use Rattle.std.proofs.lemmas.Option.{none-some}
use Rattle.std.specs.List.{FoldsTo}
use Rattle.std.specs.Option.{option_or}
use Rattle.std.specs.Fn.{Called}
use Rattle.std.specs.Iterator.{Yields, YieldsThen, FindsMapped}
use Rattle.std.specs.Iterator.Runs.{YieldsRun, SomeRun, AllItemsGive, IsFirstToGive}
use Rattle.std.specs.Map.Iter.{TakesFirst}
use denote.Param.Members.{Mut}
use Rattle.rights.specs.Rights.{Key}
use Rattle.rights.specs.Decision.{find_some}

-- what `find_map` promises of its answer r: it called f at the items of s, in turn, and left u
abbrev pub FindMap : {A B F : Type 0} → Mut F (A × Unit {0}) (Option B) → List A → F → Option B → List A → Type 0
FindMap {A} g s f r u =
    FindsMapped (TakesFirst (λ (x : A). x)) g s f r u
    × SomeRun (TakesFirst (λ (x : A). x)) s
    (λ p. MatchOption r (IsTrue p.whole × AllItemsGive p g f None) (λ y. (i : ℕ) × (i < p.len) × (p.len ≡ i + 1) × IsFirstToGive p g f (Some y) None i))

module _ {A B C F : Type 0} {g : Mut F (A × Unit {0}) (Option B)} {f : F} (test : Key → Option C) (key : A → Key)
    (Agrees : Option B → Option C → Type 0) (none : Agrees None None) (as_none : (c : Option C) → Agrees None c → c ≡ None) (not_none : (b : B) → Agrees (Some b) None → ⊥)
    (k : (x : A) (r : Option B) (q : F) → Called g f (x, tt) r q → (q ≡ f) × Agrees r (test (key x))) where
  abbrev first : List A → Option C
  first l = find_some test (map key l)

  passed : (x : A) (l : List A) {o : Option C} → test (key x) ≡ o → first (x ∷ l) ≡ option_or o (first l)
  unfolding find_some
  passed x l e = ap (λ (o : Option C). option_or o (first l)) e

  -- the closure gave None at some items, and then Some b
  ends : (b : B) (xs s u : List A) (o : Option A) (i j : F) → i ≡ f → YieldsThen (TakesFirst (λ (x : A). x)) s xs o u → FoldsTo (λ p x q. Called g p (x, tt) None q) i xs j
      → MatchOption o (◌≡◌ {A = Option B} (Some b) None) (λ x. (h : F) × Called g j (x, tt) (Some b) h) → Agrees (Some b) (first s)
  ends b [] s u None i j e y w m = absurd (none-some b (sym m))
  ends b [] s u (Some x) i j e y w m =
      go (test (key x)) refl (k x (Some b) m.0 (subst (λ (z : F). Called g z (x, tt) (Some b) m.0) (sym w ∙ e) m.1)).1
    where
      go : (c : Option C) → test (key x) ≡ c → Agrees (Some b) (test (key x)) → Agrees (Some b) (first s)
      go None q a = absurd (not_none b (subst (Agrees (Some b)) q a))
      go (Some c) q a = subst (Agrees (Some b)) (q ∙ sym (ap first (y.1 ∙ y.2) ∙ passed x u q)) a
  ends b (x ∷ xs) s u o i j e y w m =
      let a = k x None w.0 (subst (λ (z : F). Called g z (x, tt) None w.0) e w.1) in
      subst (Agrees (Some b))
      (sym (ap first y.1.1 ∙ passed x y.1.0 (as_none (test (key x)) a.1)))
      (ends b xs y.1.0 u o w.0 j a.0 (y.0, y.1.2, y.2) w.2 m)

  -- it gave None at all
  all_none : (l : List A) → ((i : ℕ) → IfSome (slice_get l i) (λ x. Called g f (x, tt) None f)) → first l ≡ None
  unfolding find_some
  all_none [] c = refl
  all_none (x ∷ l) c = passed x l (as_none (test (key x)) (k x None f (c 0)).1) ∙ all_none l (λ i. c (suc i))

  yielded : (xs s t : List A) → Yields (TakesFirst (λ (x : A). x)) s xs t → t ≡ [] → s ≡ xs
  yielded [] s t e h = e ∙ h
  yielded (x ∷ xs) s t e h = e.1 ∙ ap (λ (l : List A). x ∷ l) (yielded xs e.0 t e.2 h)

  pub find_map_gives : {s u all : List A} (r : Option B) → FindMap g s f r u → s ≡ all → Agrees r (first all)
  unfolding YieldsRun
  find_map_gives (Some b) m e = let ran = m.0 in subst (λ (l : List A). Agrees (Some b) (first l)) e (ends b ran.0 _ _ ran.1 f ran.2 refl ran.3 ran.4 ran.5)
  find_map_gives {s} None m e =
      let runs = m.1 in
      let p = runs.0 in
      let d = p.gave.0 in
      let l : s ≡ p.items = sym runs.1 ∙ yielded p.items p.from d.0 d.1 (d.2 runs.2.0).1.0 in
      let h = runs.2.1 (λ a r q c. (k a.0 r q c).0) in
      subst (Agrees None) (sym (ap first (sym e ∙ l) ∙ all_none p.items (λ i. subst (λ (o : Option A). IfSome o (λ x. Called g f (x, tt) None f)) (p.gave.1 i) (h i)))) none
