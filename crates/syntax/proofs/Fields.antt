-- Where a run of elements is as a syntax says, the first element with a tag is the syntax's field with that tag. The syntax itself says which field that is
-- (`field_in`, which computes), so the law of a message's field is one line.
use Rattle.std.specs.Prelude.{Ok}
use Prim.Native.Nat.{ℕ, ◌≤◌}
use native.Mathlib.Omega.{arith}
use mathlib.Core.Bool.{Bool, true, false, not, ◌&&◌, true≢false, false≢true, and-eq-true_iff}
use mathlib.Core.List.{List}
use mathlib.Core.Path.{◌≡◌, refl, sym, ap, ◌∙◌}
use lib.Dec.{leb, eqb}
use borrow.Author.Tests.{le-leb, eqb-true, eqb-false, not-true}
use Rattle.octets.proofs.Lists.{by_test}
use Rattle.der.specs.declared.Element.{Element}
use Rattle.der.specs.Element.{absent, element_at, elements, with_tag}
use Rattle.der.specs.Fit.{held}
use Rattle.der.proofs.Fits.{then_fits, held_fits}
use Rattle.der.proofs.Elements.{valid_within, with_tag_end, with_tag-found, with_tag_turn}
use Rattle.syntax.specs.Grammar.{Syntax, free, end, obeys, optional, one, any_optional, many, fit}
use Rattle.syntax.proofs.Match.{First, met, optional_here, one_turn, optional_fits, one_fits, end_fits, obeys_fits, many_fits}
use Rattle.syntax.proofs.Each.{Every, every_weaken, every_both}
use Rattle.der.proofs.Runs.{again}
use Rattle.syntax.proofs.Window.{Own, own, own_within, Member, members}

-- no element of the run has the tag t, whatever stands there
unfoldable pub lacks : ℕ → Syntax → Bool
lacks t free = false
lacks t end = true
lacks t (obeys r g) = lacks t g
lacks t (optional u g next) = not (eqb u t) && lacks t next
lacks t (one g next) = lacks t g && lacks t next
lacks t (any_optional next) = false
lacks t (many g) = false

-- where a syntax has its first field with a tag: it must be there, with these contents and this after it; it may be there; or it is not told
pub data Place : Type 0 where
  must : (g next : Syntax) → Place
  may : (g : Syntax) → Place
  nowhere : Place
  untold : Place

-- one element that must have the tag t
unfoldable pub only_field : ℕ → Syntax → Syntax → Place
only_field t free next = untold
only_field t end next = untold
only_field t (obeys r g) next = untold
only_field t (optional u g free) next = untold
only_field t (optional u g end) next = elim (eqb u t) [ true ↦ must g next | false ↦ untold ]
only_field t (optional u g (obeys r h)) next = untold
only_field t (optional u g (optional v h k)) next = untold
only_field t (optional u g (one h k)) next = untold
only_field t (optional u g (any_optional h)) next = untold
only_field t (optional u g (many h)) next = untold
only_field t (one g h) next = untold
only_field t (any_optional g) next = untold
only_field t (many g) next = untold

unfoldable pub field_in : ℕ → Syntax → Place
field_in t free = untold
field_in t end = nowhere
field_in t (obeys r g) = field_in t g
field_in t (optional u g next) =
    elim (eqb u t) [ true ↦ elim (lacks t next) [ true ↦ may g | false ↦ untold ] | false ↦ field_in t next ]
field_in t (one g next) = elim (lacks t g) [ true ↦ field_in t next | false ↦ only_field t g next ]
field_in t (any_optional next) = untold
field_in t (many g) = untold

-- no element has the tag, so no field has it
lacks_nowhere : (t : ℕ) (g : Syntax) → lacks t g ≡ true → field_in t g ≡ nowhere
unfolding lacks field_in
lacks_nowhere t free l = absurd (false≢true l)
lacks_nowhere t end l = refl
lacks_nowhere t (obeys r g) l = lacks_nowhere t g l
lacks_nowhere t (optional u g next) l =
    let k = (and-eq-true_iff (not (eqb u t)) (lacks t next)).0 l in
    rw (not-true (eqb u t) k.0, field_in) (lacks_nowhere t next k.1)
lacks_nowhere t (one g next) l =
    let k = (and-eq-true_iff (lacks t g) (lacks t next)).0 l in
    rw (k.0, field_in) (lacks_nowhere t next k.1)
lacks_nowhere t (any_optional next) l = absurd (false≢true l)
lacks_nowhere t (many g) l = absurd (false≢true l)

-- an element with the tag t in a window, with contents as g says
pub record Found (t : ℕ) (g : Syntax) (s : List ℕ) (at stop : ℕ) (e : Element) : Type 0 where
  pub own : Own s e
  pub tag : e.tag ≡ t
  pub from : at ≤ e.at
  pub ends : e.stop ≤ stop
  pub fits : fit g s e.start e.stop e.at ≡ Ok tt

-- that e is what a place says
abbrev pub Placed : ℕ → List ℕ → ℕ → ℕ → ℕ → Element → Place → Type 0
Placed t s at stop outer e (must g next) = Found t g s at stop e × (fit next s e.stop stop outer ≡ Ok tt)
Placed t s at stop outer e (may g) = (e.valid ≡ true → Found t g s at stop e) × (e.valid ≡ false → e ≡ absent 0)
Placed t s at stop outer e nowhere = e ≡ absent 0
Placed t s at stop outer e untold = Unit {0}

absent_bad : {e : Element} → e ≡ absent 0 → e.valid ≡ true → ⊥
absent_bad q g = false≢true (sym (ap (λ (x : Element). x.valid) q) ∙ g)

-- an element that by itself is as a syntax of one tag says
module _ (s : List ℕ) (at stop outer : ℕ) {e : Element} (q : e ≡ element_at s at stop) (b : e.valid ≡ true) where
  pub chosen : (t : ℕ) (g : Syntax) → fit (optional t g end) s at e.stop outer ≡ Ok tt → Found t g s at stop e
  chosen t g h =
      let w = valid_within s at stop q b in
      optional_fits s at e.stop outer (sym (again s at stop q b)) t g end h
      (λ m f. absurd (omega arith))
      (λ m k n f. absurd (omega (arith, end_fits s at e.stop outer f)))
      (λ m k n f r. record { own = own s at stop q b; tag = eqb-true e.tag t n; from = omega arith; ends = w.ends; fits = rw w.here f })

module _ (t : ℕ) (s : List ℕ) where
  wider : (at to stop outer : ℕ) (e : Element) (p : Place) → at ≤ to → Placed t s to stop outer e p → Placed t s at stop outer e p
  wider at to stop outer e (must g next) l h =
      (record { own = h.0.own; tag = h.0.tag; from = omega arith; ends = h.0.ends; fits = h.0.fits }, h.1)
  wider at to stop outer e (may g) l h =
      (λ b. let f = h.0 b in record { own = f.own; tag = f.tag; from = omega arith; ends = f.ends; fits = f.fits }, h.1)
  wider at to stop outer e nowhere l h = h
  wider at to stop outer e untold l h = tt

  -- an element without the tag
  unlike : (at stop : ℕ) → (element_at s at stop).valid ≡ true → with_tag t (elements s at (element_at s at stop).stop) ≡ absent 0
      → (element_at s at stop).tag ≡ t → ⊥
  unlike at stop b q n =
      let e = element_at s at stop in
      let w = valid_within s at stop refl b in
      absent_bad (sym (with_tag-found t s at e.stop (sym (again s at stop refl b)) (omega arith) n) ∙ q) b

  only_placed : (g next : Syntax) (at stop outer : ℕ) → First s at stop outer refl g next
      → Placed t s at stop outer (with_tag t (elements s at stop)) (only_field t g next)
  unfolding only_field
  only_placed free next at stop outer f = tt
  only_placed end next at stop outer f = tt
  only_placed (obeys r g) next at stop outer f = tt
  only_placed (optional u g free) next at stop outer f = tt
  only_placed (optional u g end) next at stop outer f =
      by_test (eqb u t)
      (λ n.
      let q = eqb-true u t n in
      let c = chosen s at stop outer refl f.valid u g f.alone in
      let w = valid_within s at stop refl f.valid in
      rw (n, only_field, with_tag-found t s at stop refl (omega arith) (c.tag ∙ q)) (rw q at c, f.rest))
      (λ n. rw (n, only_field) tt)
  only_placed (optional u g (obeys r h)) next at stop outer f = tt
  only_placed (optional u g (optional v h k)) next at stop outer f = tt
  only_placed (optional u g (one h k)) next at stop outer f = tt
  only_placed (optional u g (any_optional h)) next at stop outer f = tt
  only_placed (optional u g (many h)) next at stop outer f = tt
  only_placed (one g h) next at stop outer f = tt
  only_placed (any_optional g) next at stop outer f = tt
  only_placed (many g) next at stop outer f = tt

  -- the first element with the tag is where the syntax has it
  pub placed : (g : Syntax) (at stop outer : ℕ) → fit g s at stop outer ≡ Ok tt → Placed t s at stop outer (with_tag t (elements s at stop)) (field_in t g)
  unfolding field_in
  placed free at stop outer h = tt
  placed end at stop outer h = with_tag_end t s at stop (end_fits s at stop outer h)
  placed (obeys r g) at stop outer h = placed g at stop outer (obeys_fits s at stop outer r g h).0
  placed (optional u g next) at stop outer h =
      let e = element_at s at stop in
      by_test (eqb u t)
      (λ n.
      by_test (lacks t next)
      (λ l.
      let none : with_tag t (elements s at stop) ≡ absent 0 → Placed t s at stop outer (with_tag t (elements s at stop)) (may g) =
      λ q. (λ b. absurd (absent_bad q b), λ b. q)
      in
      rw (n, l, field_in)
      (optional_fits s at stop outer refl u g next h
      (λ m f. none (rw (lacks_nowhere t next l) at (placed next at stop outer f)))
      (λ m b k f. none (rw (lacks_nowhere t next l) at (placed next at stop outer f)))
      (λ m b k f r.
      let q = eqb-true e.tag u k ∙ eqb-true u t n in
      let w = valid_within s at stop refl b in
      rw (with_tag-found t s at stop refl m q) (
        λ _. record { own = own s at stop refl b; tag = q; from = omega arith; ends = w.ends; fits = rw w.here f },
        λ x. absurd (true≢false (sym b ∙ x)),
      ))))
      (λ l. rw (n, l, field_in) tt))
      (λ n.
      rw (n, field_in)
      (optional_fits s at stop outer refl u g next h
      (λ m f. placed next at stop outer f)
      (λ m b k f. placed next at stop outer f)
      (λ m b k f r.
      let w = valid_within s at stop refl b in
      rw (with_tag_turn t s at stop refl b (λ x. eqb-false u t n (sym (eqb-true e.tag u k) ∙ x)))
      (wider at e.stop stop outer (with_tag t (elements s e.stop stop)) (field_in t next) (omega arith) (placed next e.stop stop outer r)))))
  placed (one g next) at stop outer h =
      let e = element_at s at stop in
      let f = one_fits s at stop outer refl g next h in
      by_test (lacks t g)
      (λ l.
      let w = valid_within s at stop refl f.valid in
      rw (l, field_in, with_tag_turn t s at stop refl f.valid (unlike at stop f.valid (rw (lacks_nowhere t g l) at (placed g at e.stop outer f.alone))))
      (wider at e.stop stop outer (with_tag t (elements s e.stop stop)) (field_in t next) (omega arith) (placed next e.stop stop outer f.rest)))
      (λ l. rw (l, field_in) (only_placed g next at stop outer f))
  placed (any_optional next) at stop outer h = tt
  placed (many g) at stop outer h = tt

-- SEQUENCE OF and SET OF: every member is one
pub each-found : (t : ℕ) (g : Syntax) (s : List ℕ) (at stop outer : ℕ) → fit (many (optional t g end)) s at stop outer ≡ Ok tt
    → Every (Found t g s at stop) (elements s at stop)
each-found t g s at stop outer h =
    let P : Element → Type 0 = λ m. (m.valid ≡ true) × (fit (optional t g end) s m.at m.stop outer ≡ Ok tt) in
    every_weaken (λ m. Member s at stop m × P m) (Found t g s at stop)
    (λ m k.
    let c = chosen s m.at m.stop outer (k.0.own k.1.0).is k.1.0 t g k.1.1 in
    record { own = c.own; tag = c.tag; from = k.0.from; ends = k.0.ends; fits = c.fits })
    (elements s at stop)
    (every_both (Member s at stop) P (elements s at stop) (members s at stop) (many_fits s at stop outer (optional t g end) h))

-- an element that was found, as the one element of its window
pub as_only : (t : ℕ) (g : Syntax) (s : List ℕ) (at stop outer : ℕ) (e : Element) → Found t g s at stop e
    → fit (one (optional t g end) end) s e.at e.stop outer ≡ Ok tt
unfolding fit
as_only t g s at stop outer e f =
    let nothing : held e.stop (leb e.stop e.stop) ≡ Ok tt = held_fits e.stop (le-leb e.stop e.stop (omega arith)) in
    let m = met f.own.is f.own.valid in
    one_turn m outer (optional t g end) end
    ∙ then_fits _
    (optional_here m outer t g end f.tag ∙ then_fits _ f.fits ∙ nothing)
    ∙ nothing

-- the contents of the alternative with the tag t of a CHOICE
unfoldable pub alternative : ℕ → Syntax → Syntax
alternative t free = free
alternative t end = free
alternative t (obeys r g) = free
alternative t (optional u g next) = elim (eqb u t) [ true ↦ g | false ↦ alternative t next ]
alternative t (one g next) = free
alternative t (any_optional next) = free
alternative t (many g) = free

-- an element's tag tells which alternative it is
pub choice_fits : (g : Syntax) (s : List ℕ) (outer t : ℕ) (e : Element) → Own s e → e.tag ≡ t → fit g s e.at e.stop outer ≡ Ok tt
    → fit (alternative t g) s e.start e.stop e.at ≡ Ok tt
unfolding alternative fit
choice_fits free s outer t e o q h = refl
choice_fits end s outer t e o q h = refl
choice_fits (obeys r g) s outer t e o q h = refl
choice_fits (optional u g next) s outer t e o q h =
    let w = own_within s e o in
    by_test (eqb u t)
    (λ n.
    rw (n, alternative)
    (optional_fits s e.at e.stop outer o.is u g next h
    (λ m f. absurd (omega arith))
    (λ m b k f. absurd (eqb-false e.tag u k (q ∙ sym (eqb-true u t n))))
    (λ m b k f r. f)))
    (λ n.
    rw (n, alternative)
    (optional_fits s e.at e.stop outer o.is u g next h
    (λ m f. absurd (omega arith))
    (λ m b k f. choice_fits next s outer t e o q f)
    (λ m b k f r. absurd (eqb-false u t n (sym (eqb-true e.tag u k) ∙ q)))))
choice_fits (one g next) s outer t e o q h = refl
choice_fits (any_optional next) s outer t e o q h = refl
choice_fits (many g) s outer t e o q h = refl
