-- Parts that stand one after the other, each read where the one before it stops: what `try_fold` over their number gives.
use Rattle.std.specs.Prelude.{Option, Some, None, MatchOption}
use Rattle.std.proofs.Common.{◌≡◌, sym, ap, subst, ◌∙◌, ℕ, ◌-◌, List, [], ◌∷◌, length, drop, arith}
use Rattle.std.specs.List.{FoldsTo, range_with_len}
use Rattle.std.specs.Fn.{Called}
use Rattle.std.specs.ControlFlow.{continue_value}
use Rattle.std.specs.Iterator.{AlwaysYields, YieldsThen, TryFoldTurn}
use Rattle.std.proofs.lemmas.Iterator.{YieldsList}
use Rattle.std.proofs.lemmas.List.FromFn.{length-range_with_len}
use denote.Param.Members.{Mut}
use Rattle.store.specs.Image.{Reader, read_times}
use Rattle.image.specs.Contract.Check.{after, rest_at}
use Rattle.image.proofs.Checks.{times_broken, times_turn, times_end}

-- the turns that are left from place q on
abbrev Left : {S A F : Type 0} (E : Type 0) (steps : S → Option A → S → Type 0) (g : Mut F (ℕ × (A × Unit {0})) (Option ℕ)) → F → S → ℕ → Option ℕ → S → Type 0
Left {A = A} {F = F} E steps g f s q result u =
    (xs : List A) × (o : Option A) × (f' : F) × (a : ℕ) × YieldsThen steps s xs o u
    × FoldsTo {P = F × ℕ} (TryFoldTurn g (λ (x : Option ℕ) c. x ≡ continue_value {B = E} c)) (f, q) xs (f', a)
    × MatchOption o (result ≡ Some a) (λ x. (w : Option ℕ) × (h : F) × (e : E) × Called g f' (a, (x, tt)) w h × (w ≡ None) × (result ≡ None))

module _ {S A B F : Type 0} (E : Type 0) (steps : S → Option A → S → Type 0) (v : A → ℕ) (g : Mut F (ℕ × (A × Unit {0})) (Option ℕ)) (r : Reader B) (t : List ℕ) (f : F)
    (told : (q : ℕ) (x : A) (o : Option ℕ) (h : F) → Called g f (q, (x, tt)) o h → (h ≡ f) × (rest_at t o ≡ after (r (drop q t)))) where
  here : (q : ℕ) (x : A) (m : F × ℕ) {w : Option ℕ} {h : F} → (f, q) ≡ m → Called g m.0 (m.1, (x, tt)) w h → (h ≡ f) × (rest_at t w ≡ after (r (drop q t)))
  here q x m {w} {h} p c = told q x w h (subst (λ (n : F × ℕ). Called g n.0 (n.1, (x, tt)) w h) (sym p) c)

  turns : (ys : List ℕ) (s u : S) (q : ℕ) (result : Option ℕ) → AlwaysYields steps v s ys → Left E steps g f s q result u → rest_at t result ≡ after (read_times (length ys) r (drop q t))
  turns [] s u q result y ([], None, f', a, w, p, e) = ap (rest_at t) e ∙ ap (λ (m : F × ℕ). Some (drop m.1 t)) (sym p) ∙ sym (times_end r t q 0 (omega arith))
  turns [] s u q result y ([], Some x, f', a, w, p, e) = absurd (y x u (subst (λ j. steps j (Some x) u) (sym w.1) w.2))
  turns [] s u q result y (x ∷ xs, o, f', a, w, p, e) = absurd (y x _ w.1.1)
  turns (i ∷ ys) s u q result y ([], None, f', a, w, p, e) = absurd (y.0 u (subst (λ j. steps j None u) (sym w.1) w.2))
  turns (i ∷ ys) s u q result y ([], Some x, f', a, w, p, e) =
      ap (rest_at t) e.5 ∙ sym (times_broken r t q (length (i ∷ ys)) (omega arith) (sym (ap (rest_at t) e.4) ∙ (here q x (f', a) p e.3).1))
  turns (i ∷ ys) s u q result y (x ∷ xs, o, f', a, w, p, e) =
      let m = p.0 in
      let k = told q x _ _ p.1.1 in
      let n : length (i ∷ ys) - 1 ≡ length ys = omega arith in
      turns ys _ u m.1 result (y.1 x _ w.1.1).1 (xs, o, f', a, (w.0, w.1.2, w.2), subst (λ z. FoldsTo {P = F × ℕ} (TryFoldTurn g (λ (x : Option ℕ) c. x ≡ continue_value {B = E} c)) (z, m.1) xs (f', a)) k.0 p.2, e)
      ∙ sym (times_turn r t q (length (i ∷ ys)) m.1 (omega arith) (sym (ap (rest_at t) p.1.2) ∙ k.1) ∙ ap (λ j. after (read_times j r (drop m.1 t))) n)

-- n parts from place q on
pub tried : {S A B F E : Type 0} {steps : S → Option A → S → Type 0} {v : A → ℕ} {g : Mut F (ℕ × (A × Unit {0})) (Option ℕ)} (r : Reader B) (t : List ℕ) (n : ℕ) {f : F}
    {s : S} {q : ℕ} {result : Option ℕ} (u : S) → Left E steps g f s q result u → YieldsList steps v s (range_with_len 0 n)
    → ((q : ℕ) (x : A) (o : Option ℕ) (h : F) → Called g f (q, (x, tt)) o h → (h ≡ f) × (rest_at t o ≡ after (r (drop q t))))
    → rest_at t result ≡ after (read_times n r (drop q t))
tried {E = E} {steps = steps} {v = v} {g = g} r t n {f} {s} {q} {result} u l y told =
    turns E steps v g r t f told (range_with_len 0 n) s u q result y.runs l ∙ ap (λ (m : ℕ). after (read_times m r (drop q t))) (length-range_with_len 0 n)
