-- Windows that are DER and as a syntax says, shown one field at a time, in the order in which a path that only says yes reads them.
use Prim.Native.Nat.{ℕ, suc, ◌+◌, ◌-◌, ◌≤◌, ◌<◌}
use native.Mathlib.Omega.{arith}
use mathlib.Core.Bool.{Bool, true, false, not, ◌&&◌, true≢false, and-eq-true_iff}
use mathlib.Core.List.{List}
use mathlib.Core.Path.{◌≡◌, refl, sym, ap, ◌∙◌}
use lib.ListN.{length}
use lib.Dec.{leb, eqb}
use borrow.Author.Tests.{le-leb, eqb-false, not-true}
use Rattle.octets.specs.Octets.{slice}
use Rattle.octets.proofs.Lists.{both}
use Rattle.octets.proofs.Parts.{length-slice}
use Rattle.der.specs.declared.Element.{Element}
use Rattle.der.specs.Element.{element_at, contents, constructed}
use Rattle.der.specs.Fit.{held, kept}
use Rattle.der.specs.Contents.{oid_ok, contents_ok}
use Rattle.der.specs.Check.{der}
use Rattle.der.proofs.Elements.{InWindow, valid_within}
use Rattle.der.proofs.Checks.{der-leaf}
use Rattle.syntax.specs.Grammar.{Rule, not_empty, obeyed, Syntax, free, end, obeys, optional, many, tagged, required, fit}
use Rattle.syntax.specs.Contract.Whole.{der_run}
use Rattle.syntax.proofs.Each.{kept_then, kept-held}
use Rattle.syntax.proofs.Match.{Met, met, own_window, optional_end, optional_other, optional_here, one_turn}
use Rattle.syntax.proofs.Whole.{run_end, run_turn, run_inside}
use Rattle.syntax.proofs.RowSteps.{alone-here, many_end, many_turn}
use Rattle.syntax.specs.Contract.Once.{IfYes, Tagged, TypeAt, Conforms}

-- what a path promises where it says yes, and where it says no

pub yes_with : {P : Type 0} {b : Bool} → P → IfYes b P
yes_with p = record { holds = λ e. p }

pub no_by : {P : Type 0} {b : Bool} → b ≡ false → IfYes b P
no_by h = record { holds = λ e. absurd (true≢false (sym e ∙ h)) }

pub no : {P : Type 0} → IfYes false P
no = no_by refl

pub not-zero : (n : ℕ) → suc n ≡ 0 → ⊥
not-zero n e = omega arith

-- contents that a syntax fits, whichever element is charged
pub record Kept (g : Syntax) (s : List ℕ) (at stop : ℕ) : Type 0 where
  pub fits : (outer : ℕ) → kept (fit g s at stop outer) ≡ true

pub fit_of : {d : ℕ} {g : Syntax} {s : List ℕ} {at stop : ℕ} → Conforms d g s at stop → Kept g s at stop
fit_of h = record { fits = h.fits }

pub kept_free : (s : List ℕ) (at stop : ℕ) → Kept free s at stop
unfolding fit
kept_free s at stop = record { fits = λ outer. refl }

kept_end : (s : List ℕ) (at stop outer : ℕ) → stop ≤ at → kept (fit end s at stop outer) ≡ true
unfolding fit
kept_end s at stop outer l = kept-held at (leb stop at) ∙ le-leb stop at l

pub kept_obeys : {g : Syntax} {s : List ℕ} {at stop : ℕ} (r : Rule) → Kept g s at stop → obeyed r (slice s at stop) ≡ true → Kept (obeys r g) s at stop
unfolding fit
kept_obeys {g} {s} {at} {stop} r f h =
    record {
      fits =
          λ outer.
          kept_then (fit g s at stop outer) (held outer (obeyed r (slice s at stop))) ∙ both (f.fits outer) (kept-held outer (obeyed r (slice s at stop)) ∙ h);
    }

pub kept-some : {g : Syntax} {s : List ℕ} {at stop : ℕ} → Kept g s at stop → at < stop → stop ≤ length s → Kept (obeys not_empty g) s at stop
unfolding obeyed
kept-some {g} {s} {at} {stop} f l m =
    let n : at + (stop - at) ≤ length s = omega arith in
    let e = length-slice s at (stop - at) n in
    kept_obeys not_empty f (le-leb 1 (length (slice s at stop)) (omega arith))

-- at the end of a window

module _ (d : ℕ) (s : List ℕ) (at stop : ℕ) (l : stop ≤ at) where
  pub at_end : Conforms d end s at stop
  at_end = record { run = run_end d s at stop l; fits = λ outer. kept_end s at stop outer l }

  pub none_there : (t : ℕ) (g : Syntax) {next : Syntax} → Conforms d next s at stop → Conforms d (optional t g next) s at stop
  none_there t g {next} h = record { run = h.run; fits = λ outer. ap kept (optional_end s at stop outer l t g next) ∙ h.fits outer }

  pub none_left : (g : Syntax) → Conforms d (many g) s at stop
  none_left g = record { run = run_end d s at stop l; fits = λ outer. ap kept (many_end g s at stop outer l) }

-- an element with a tag in a window
module _ {s : List ℕ} {at stop t : ℕ} {e : Element} (x : Tagged s at stop t e) where
  pub within : InWindow s at stop e
  within = valid_within s at stop x.is x.valid

  stands : Met s at stop e
  stands = met x.is x.valid

  pub past : {d u : ℕ} {next : Syntax} (g : Syntax) → (t ≡ u → ⊥) → Conforms d next s at stop → Conforms d (optional u g next) s at stop
  past {d} {u} {next} g n h =
      record { run = h.run; fits = λ outer. ap kept (optional_other stands outer u g next (λ y. n (sym x.tag ∙ y))) ∙ h.fits outer }

  -- a constructed element, other than a SET, whose contents conform is DER
  pub filled : {d : ℕ} {g : Syntax} → constructed t && not (eqb t 49) ≡ true → Conforms d g s e.start e.stop → kept (der (suc d) s e) ≡ true
  filled {d} n h =
      let two = (and-eq-true_iff (constructed t) (not (eqb t 49))).0 n in
      let p : suc d - 1 ≡ d = omega arith in
      let m : e.tag ≡ 49 → ⊥ = λ i. eqb-false t 49 (not-true _ two.1) (sym x.tag ∙ i) in
      sym (run_inside (suc d) s e x.valid m (not-zero d) (rw x.tag two.0)) ∙ rw p h.run

  -- contents that keep the rule of their tag
  pub leaf : (d : ℕ) → (d ≡ 0 → ⊥) → constructed t ≡ false → contents_ok t (contents s e) ≡ true → kept (der d s e) ≡ true
  leaf d z c h =
      ap kept (der-leaf s e d z x.valid (rw x.tag c)) ∙ kept-held e.at (contents_ok e.tag (contents s e)) ∙ rw x.tag h

  running : (d : ℕ) → kept (der d s e) ≡ true → der_run d s e.stop stop ≡ true → der_run d s at stop ≡ true
  running d k h = run_turn d s at stop x.is x.valid ∙ both k h

  -- it is DER, and a syntax fits its contents
  module _ {g : Syntax} (f : Kept g s e.start e.stop) where
    alone : (outer : ℕ) → kept (fit (tagged t g) s at e.stop outer) ≡ true
    alone outer = ap kept (alone-here t g outer (own_window stands) x.tag (omega arith)) ∙ f.fits at

    module _ {d : ℕ} (k : kept (der d s e) ≡ true) where
      pub must : {next : Syntax} → Conforms d next s e.stop stop → Conforms d (required t g next) s at stop
      must {next} h =
          record {
            run = running d k h.run;
            fits =
                λ outer.
                ap kept (one_turn stands outer (tagged t g) next)
                ∙ kept_then (fit (tagged t g) s at e.stop outer) (fit next s e.stop stop outer)
                ∙ both (alone outer) (h.fits outer);
          }

      pub may : {next : Syntax} → Conforms d next s e.stop stop → Conforms d (optional t g next) s at stop
      may {next} h =
          record {
            run = running d k h.run;
            fits =
                λ outer.
                ap kept (optional_here stands outer t g next x.tag)
                ∙ kept_then (fit g s e.start e.stop at) (fit next s e.stop stop outer)
                ∙ both (f.fits at) (h.fits outer);
          }

      -- a member of a list
      pub more : Conforms d (many (tagged t g)) s e.stop stop → Conforms d (many (tagged t g)) s at stop
      more h =
          record {
            run = running d k h.run;
            fits =
                λ outer.
                ap kept (many_turn (tagged t g) s at stop outer x.is x.valid)
                ∙ kept_then (fit (tagged t g) s e.at e.stop outer) (fit (many (tagged t g)) s e.stop stop outer)
                ∙ both (ap (λ (i : ℕ). kept (fit (tagged t g) s i e.stop outer)) within.here ∙ alone outer) (h.fits outer);
          }

-- a type is DER
pub type_der : {s : List ℕ} {at stop : ℕ} {e : Element} (d : ℕ) → (d ≡ 0 → ⊥) → TypeAt s at stop e → kept (der d s e) ≡ true
unfolding contents_ok
type_der d z h = leaf h.tagged d z refl h.oid

-- an element that was read, if it has the tag; and if it is an OID
module _ (s : List ℕ) {at stop : ℕ} {e : Element} where
  pub expected : {t : ℕ} → e ≡ element_at s at stop → e.tag ≡ t → IfYes e.valid (Tagged s at stop t e)
  expected q n = record { holds = λ b. record { is = q; valid = b; tag = n } }

-- a member of a list, whose contents conform
pub member_on : {d : ℕ} {g : Syntax} {v : List ℕ} {at stop : ℕ} {e : Element} → Tagged v at stop 0x30 e → Conforms d g v e.start e.stop
    → Conforms (suc d) (many (tagged 0x30 g)) v e.stop stop → Conforms (suc d) (many (tagged 0x30 g)) v at stop
member_on x k h = more x (fit_of k) (filled x refl k) h
