-- 01, Answers, status 7: the signed attributes in turn, as a loop over them goes.
use Rattle.std.specs.Prelude.{Option, Err}
use Prim.Native.Nat.{ℕ, ◌≤◌}
use mathlib.Core.Bool.{Bool, true, false, not, ◌&&◌, and-eq-true_iff}
use borrow.Author.Tests.{ltb-true, ltb-false, not-true}
use native.Mathlib.Omega.{arith}
use lib.Dec.{ltb}
use mathlib.Core.List.{List, [], ◌∷◌, map}
use mathlib.Core.Path.{◌≡◌, refl, sym, ap, ap₂, ◌∙◌}
use Rattle.octets.specs.Octets.{member, ordered}
use Rattle.der.specs.declared.Element.{Element}
use Rattle.octets.proofs.Lists.{by_test}
use Rattle.octets.proofs.Compare.{ordered_refl}
use Rattle.octets.proofs.Parts.{slice-none}
use Rattle.der.specs.Contract.Reading.{next_at}
use Rattle.der.specs.Element.{absent, element_at, elements, encoding, inside}
use Rattle.der.specs.Fit.{and_then, held, each_from, each, Fit}
use Rattle.der.proofs.Elements.{valid_within, elements_end}
use Rattle.der.proofs.Fits.{then_fits, then_breaks, held_fits, held_breaks, judge_by}
use Rattle.der.proofs.Runs.{Reached, reached-none, reached_on, next_valid, run_turn}
use Rattle.der.specs.Keys.{type_of, key_of, keys_from, keys_in}
use Rattle.repeats.specs.Contract.Keys.{first_repeat, is_at}
use Rattle.der.specs.declared.Compared.TheVariants.{Types}
use Rattle.repeats.proofs.Keys.{none_in, keys_end}
use Rattle.repeats.proofs.Repeats.{run_is, run_on}
use Rattle.envelope.specs.Attributes.{attribute_fit, repeated}

-- the attributes that are left, from a place that the run reaches, and the first whose type stood before, as they tell it
module _ (s : List ℕ) (attributes : Element) (first : Option ℕ) where
  pub record Left (l : List Element) : Type 0 where
    pub at : ℕ
    pub reached : Reached s attributes.start at
    pub is : l ≡ elements s at attributes.stop
    pub tells : first ≡ first_repeat Types s (keys_from Types s attributes.start at) (elements s at attributes.stop)

  pub all_left : {none : Element} {l : List Element} → none ≡ absent 0 → first ≡ first_repeat Types s (keys_in Types s none) (inside s attributes) → l ≡ inside s attributes → Left l
  all_left n f h =
      record {
        at = attributes.start;
        reached = reached-none s attributes.start;
        is = h;
        tells = f ∙ ap (λ (k : List (List ℕ)). first_repeat Types s k (inside s attributes)) (none_in Types s n ∙ sym (keys_end Types s attributes.start attributes.start (omega arith)));
      }

  module _ {l m : List Element} {e : Element} (k : Left l) (q : l ≡ e ∷ m) where
    turn : (e ≡ element_at s k.at attributes.stop) × (m ≡ elements s (next_at e attributes.stop) attributes.stop)
    turn =
        let n = element_at s k.at attributes.stop in
        by_test (ltb k.at attributes.stop)
        (λ t.
        let r : e ∷ m ≡ n ∷ elements s (next_at n attributes.stop) attributes.stop = sym q ∙ k.is ∙ run_turn s k.at attributes.stop refl (ltb-true _ _ t) refl in
        let h : e ≡ n = cc in
        (h, rw h (cc)))
        (λ t. let r : e ∷ m ≡ [] = sym q ∙ k.is ∙ elements_end s k.at attributes.stop (ltb-false _ _ t) in cc)

    module _ (g : e.valid ≡ true) where
      here : e.at ≡ k.at
      here = (valid_within s k.at attributes.stop turn.0 g).here

      first_is : is_at first e.at ≡ member (key_of Types s e) (keys_from Types s attributes.start k.at)
      first_is = ap₂ is_at k.tells here ∙ run_is Types s k.at attributes.stop turn.0 g attributes.start k.reached

      module _ (former : Element) where
        pub in_place : {b : Bool} → b ≡ ordered (encoding s former) (encoding s e) && not (is_at first e.at) → b ≡ ordered (encoding s former) (encoding s e) && not (repeated s attributes e)
        unfolding repeated key_of
        in_place h =
            h
            ∙ ap (λ (x : Bool). ordered (encoding s former) (encoding s e) && not x)
            (first_is ∙ sym (ap (λ (i : ℕ). member (type_of s e) (map (type_of s) (elements s attributes.start i))) here))

        pub left_on : ordered (encoding s former) (encoding s e) && not (is_at first e.at) ≡ true → Left m
        left_on h =
            record {
              at = e.stop;
              reached = reached_on k.reached attributes.stop turn.0 g;
              is = turn.1 ∙ ap (λ (i : ℕ). elements s i attributes.stop) (next_valid e attributes.stop g);
              tells =
                  k.tells
                  ∙ run_on Types s k.at attributes.stop turn.0 refl [] k.reached g
                  (sym first_is ∙ not-true _ ((and-eq-true_iff (ordered (encoding s former) (encoding s e)) (not (is_at first e.at))).0 h).1);
            }

-- an attribute stands where it may, after the one before it
abbrev pub well_placed : List ℕ → Element → Element → Element → Bool
well_placed s attributes former e = ordered (encoding s former) (encoding s e) && not (repeated s attributes e)

-- the judge of each attribute
abbrev pub attribute_judge : List ℕ → List ℕ → Element → Element → Element → Fit
attribute_judge type s attributes = judge_by (attribute_fit type s) (well_placed s attributes)

-- the first has itself before it, and might as well have nothing: both are in order
module _ (type s : List ℕ) (attributes : Element) (at : ℕ) where
  ordered_first : (e : Element) → ordered (encoding s (absent at)) (encoding s e) ≡ ordered (encoding s e) (encoding s e)
  unfolding ordered
  ordered_first e = let n : at ≤ at = omega arith in rw (slice-none s at at n, ordered_refl (encoding s e))

  pub each_first : (l : List Element) → each_from (attribute_judge type s attributes) (absent at) l ≡ each (attribute_judge type s attributes) l
  unfolding each each_from
  each_first [] = refl
  each_first (e ∷ l) = rw (ordered_first e)

module _ (f : Fit) (e : Element) where
  pub header_breaks : e.valid ≡ false → Err e.at ≡ and_then (held e.at e.valid) f
  header_breaks g = sym (then_breaks f (held_breaks e.at g))

  pub header_fits : e.valid ≡ true → f ≡ and_then (held e.at e.valid) f
  header_fits g = sym (then_fits f (held_fits e.at g))
