-- Laws of keeping rules (der, specs/Fit): what is known where a chain of rules is kept, and of the members of a run that a judge passed.
use Rattle.std.specs.Prelude.{Ok, Err}
use Prim.Native.Nat.{ℕ}
use mathlib.Core.Bool.{Bool, true, false, ◌&&◌, false≢true}
use mathlib.Core.List.{List, [], ◌∷◌, map}
use mathlib.Core.Path.{◌≡◌, refl, sym, ap, ap₂, ◌∙◌}
use Rattle.octets.specs.Lists.{all_of, Among, first, later}
use Rattle.octets.proofs.Lists.{both}
use Rattle.der.specs.declared.Element.{Element}
use Rattle.der.specs.Fit.{and_then, held, kept, each_from, each, Fit}
use Rattle.der.proofs.Fits.{breaks≢fits, held_true}
use Rattle.syntax.specs.Grammar.{by_element}

module _ {A : Type 0} where
  -- every member of a list has the property
  abbrev pub Every : (A → Type 0) → List A → Type 0
  Every P [] = Unit {0}
  Every P (x ∷ l) = P x × Every P l

  pub every_weaken : (P Q : A → Type 0) → ((x : A) → P x → Q x) → (l : List A) → Every P l → Every Q l
  every_weaken P Q f [] h = tt
  every_weaken P Q f (x ∷ l) h = (f x h.0, every_weaken P Q f l h.1)

  -- .. and so has what stands in it
  pub every_among : (P : A → Type 0) (l : List A) → Every P l → {x : A} → Among x l → P x
  every_among P [] h i = elim i [ ]
  every_among P (x ∷ l) h first = h.0
  every_among P (y ∷ l) h (later i) = every_among P l h.1 i

  pub among_every : (l : List A) → Every (λ x. Among x l) l
  among_every [] = tt
  among_every (x ∷ l) = (first, every_weaken (λ y. Among y l) (λ y. Among y (x ∷ l)) (λ y i. later i) l (among_every l))

  pub every_both : (P Q : A → Type 0) (l : List A) → Every P l → Every Q l → Every (λ x. P x × Q x) l
  every_both P Q [] h k = tt
  every_both P Q (x ∷ l) h k = ((h.0, k.0), every_both P Q l h.1 k.1)

  pub every_all : (p : A → Bool) (l : List A) → Every (λ x. p x ≡ true) l → all_of p l ≡ true
  unfolding all_of
  every_all p [] h = refl
  every_all p (x ∷ l) h = both h.0 (every_all p l h.1)

pub every_map : {A B : Type 0} (f : A → B) (Q : B → Type 0) (l : List A) → Every (λ x. Q (f x)) l → Every Q (map f l)
every_map f Q [] h = tt
every_map f Q (x ∷ l) h = (h.0, every_map f Q l h.1)

-- kept or not

pub kept_fits : (f : Fit) → kept f ≡ true → f ≡ Ok tt
kept_fits (Ok _) e = refl
kept_fits (Err o) e = absurd (false≢true e)

pub kept_then : (f g : Fit) → kept (and_then f g) ≡ kept f && kept g
unfolding and_then
kept_then (Ok _) g = refl
kept_then (Err o) g = refl

pub kept-held : (at : ℕ) (b : Bool) → kept (held at b) ≡ b
unfolding held
kept-held at true = refl
kept-held at false = refl

-- what is kept alike, part by part

pub alike_if : (b : Bool) (x y u v : Fit) → (b ≡ true → kept x ≡ kept u) → (b ≡ false → kept y ≡ kept v)
    → kept (elim b [ false ↦ y | true ↦ x ]) ≡ kept (elim b [ false ↦ v | true ↦ u ])
alike_if true x y u v p q = p refl
alike_if false x y u v p q = q refl

pub alike_element : {b c : Bool} → b ≡ c → (i j : ℕ) (valid : Bool) (x y u v : Fit) → kept x ≡ kept u → (valid ≡ true → kept y ≡ kept v)
    → kept (by_element b i valid x y) ≡ kept (by_element c j valid u v)
alike_element {b} {c} e i j valid x y u v p q =
    rw e (alike_if c (elim valid [ false ↦ Err i | true ↦ y ]) x (elim valid [ false ↦ Err j | true ↦ v ]) u (λ r. alike_if valid y (Err i) v (Err j) q (λ g. refl)) (λ r. p))

pub alike_then : (f g h k : Fit) → kept f ≡ kept h → kept g ≡ kept k → kept (and_then f g) ≡ kept (and_then h k)
alike_then f g h k p q = kept_then f g ∙ ap₂ ◌&&◌ p q ∙ sym (kept_then h k)

pub alike_held : (i j : ℕ) {b c : Bool} → b ≡ c → kept (held i b) ≡ kept (held j c)
alike_held i j {b} {c} p = kept-held i b ∙ p ∙ sym (kept-held j c)

-- a chain that is kept
pub then_both : (f g : Fit) → and_then f g ≡ Ok tt → (f ≡ Ok tt) × (g ≡ Ok tt)
unfolding and_then
then_both (Ok _) g e = (refl, e)
then_both (Err o) g e = absurd (breaks≢fits e)

-- a run

module _ (judge : Element → Element → Fit) where
  pub kept_turn : (former e : Element) (es : List Element)
      → kept (each_from judge former (e ∷ es)) ≡ (e.valid && kept (judge former e)) && kept (each_from judge e es)
  unfolding each_from
  kept_turn former e es =
      kept_then (and_then (held e.at e.valid) (judge former e)) (each_from judge e es)
      ∙ ap (λ (b : Bool). b && kept (each_from judge e es))
      (kept_then (held e.at e.valid) (judge former e) ∙ ap (λ (b : Bool). b && kept (judge former e)) (kept-held e.at e.valid))

  -- what the judge's answer on an element shows holds of every member
  module _ (Q : Element → Type 0) (shows : (former e : Element) → e.valid ≡ true → judge former e ≡ Ok tt → Q e) where
    every_from : (former : Element) (es : List Element) → each_from judge former es ≡ Ok tt → Every Q es
    unfolding each_from
    every_from former [] h = tt
    every_from former (e ∷ es) h =
        let two = then_both (and_then (held e.at e.valid) (judge former e)) (each_from judge e es) h in
        let one = then_both (held e.at e.valid) (judge former e) two.0 in
        (shows former e (held_true e.at e.valid one.0) one.1, every_from e es two.1)

    pub every_member : (es : List Element) → each judge es ≡ Ok tt → Every Q es
    unfolding each
    every_member [] h = tt
    every_member (e ∷ es) h = every_from e (e ∷ es) h

-- a weaker judge passes what a judge passes
module _ (judge weaker : Element → Element → Fit) (passes : (former e : Element) → judge former e ≡ Ok tt → weaker former e ≡ Ok tt) where
  weaker_from : (former : Element) (es : List Element) → each_from judge former es ≡ Ok tt → each_from weaker former es ≡ Ok tt
  unfolding each_from and_then
  weaker_from former [] h = refl
  weaker_from former (e ∷ es) h =
      let two = then_both (and_then (held e.at e.valid) (judge former e)) (each_from judge e es) h in
      let one = then_both (held e.at e.valid) (judge former e) two.0 in
      rw (one.0, passes former e one.1) (weaker_from e es two.1)

  pub each_weaker : (es : List Element) → each judge es ≡ Ok tt → each weaker es ≡ Ok tt
  unfolding each
  each_weaker [] h = refl
  each_weaker (e ∷ es) h = weaker_from e (e ∷ es) h

-- Judges that keep alike, on runs of which one is made from the other: f leaves good as it is, and the judges agree on members that have the property.
module _ (f : Element → Element) (judge other : Element → Element → Fit) (P : Element → Type 0) (valid : (e : Element) → (f e).valid ≡ e.valid)
    (alike : (former e : Element) → P former → P e → kept (judge (f former) (f e)) ≡ kept (other former e)) where
  alike_from : (former : Element) (es : List Element) → P former → Every P es → kept (each_from judge (f former) (map f es)) ≡ kept (each_from other former es)
  unfolding each_from
  alike_from former [] p h = refl
  alike_from former (e ∷ es) p h =
      kept_turn judge (f former) (f e) (map f es)
      ∙ ap₂ ◌&&◌ (ap₂ ◌&&◌ (valid e) (alike former e p h.0)) (alike_from e es h.0 h.1)
      ∙ sym (kept_turn other former e es)

  pub each_alike : (es : List Element) → Every P es → kept (each judge (map f es)) ≡ kept (each other es)
  unfolding each
  each_alike [] h = refl
  each_alike (e ∷ es) h = alike_from e (e ∷ es) h.0 h
