-- What a TrustAnchorInfo is known to have that passes 34, and 17 for size: its length, and rights with valid keys within the limits of 01.
use Rattle.std.specs.Prelude.{Result}
use Rattle.anchor.specs.declared.AnchorFault.{AnchorFault}
use Prim.Native.Nat.{ℕ, ◌≤◌}
use mathlib.Core.Bool.{Bool, true, false, true≢false}
use mathlib.Core.List.{List, [], ◌∷◌}
use mathlib.Core.Path.{◌≡◌, refl, sym, ◌∙◌}
use lib.ListN.{length}
use borrow.Author.Tests.{ltb-false, not-false}
use Rattle.octets.specs.Limits.{max_anchor_octets, max_entries, max_values, max_depth}
use Rattle.octets.specs.First.{given_if}
use Rattle.octets.specs.Lists.{any_of}
use Rattle.octets.specs.Octets.{Octets}
use Rattle.octets.proofs.Lists.{by_test, neither}
use Rattle.der.specs.Element.{field}
use Rattle.der.specs.Check.{spans}
use Rattle.syntax.specs.Grammar.{fit}
use Rattle.syntax.specs.Asn.{CMSContentConstraints}
use Rattle.syntax.proofs.Each.{Every, kept_fits, then_both}
use Rattle.syntax.proofs.Rules.{octets_slice}
use Rattle.rights.specs.Rights.{nothing}
use Rattle.rights.proofs.Witness.{Few, ValidEntry, ValidRights}
use Rattle.rights.proofs.ValidKeys.{valid_keys}
use Rattle.anchor.specs.Info.{constraints_extension, has_constraints, constraints_value, rights_of}
use Rattle.anchor.specs.Judge.{passes, conforms, bad_constraints, over_entries, over_values, judge}

-- an answer that is no pass was not given
past : (b : Bool) (answer next : Result (Unit {0}) AnchorFault) → passes answer ≡ false → passes (given_if b answer next) ≡ true → (b ≡ false) × (passes next ≡ true)
unfolding given_if
past true answer next h e = absurd (true≢false (sym e ∙ h))
past false answer next h e = (refl, e)

any_every : {A : Type 0} (p : A → Bool) (P : A → Type 0) → ((x : A) → p x ≡ false → P x) → (l : List A) → any_of p l ≡ false → Every P l
unfolding any_of
any_every p P f [] e = tt
any_every p P f (x ∷ l) e = let h = neither (p x) (any_of p l) e in (f x h.0, any_every p P f l h.1)

pub record Passed (t : List ℕ) : Type 0 where
  pub constraints : bad_constraints t ≡ false
  pub size : length t ≤ max_anchor_octets
  pub entries : over_entries (rights_of t) ≡ false
  pub values : over_values (rights_of t) ≡ false

pub passed : (t : List ℕ) → passes (judge t) ≡ true → Passed t
unfolding judge
passed t e =
    let version = past _ _ _ refl e in
    let path = past _ _ _ refl version.1 in
    let repeated = past _ _ _ refl path.1 in
    let critical = past _ _ _ refl repeated.1 in
    let syntax = past _ _ _ refl critical.1 in
    let twice = past _ _ _ refl syntax.1 in
    let unlike = past _ _ _ refl twice.1 in
    let size = past _ _ _ refl unlike.1 in
    let identifier = past _ _ _ refl size.1 in
    let entries = past _ _ _ refl identifier.1 in
    let attributes = past _ _ _ refl entries.1 in
    let values = past _ _ _ refl attributes.1 in
    record { constraints = syntax.0; size = ltb-false max_anchor_octets (length t) size.0; entries = entries.0; values = values.0 }

module _ (t : List ℕ) (o : Octets t) (e : passes (judge t) ≡ true) where
  valid_entries : Every ValidEntry (rights_of t)
  unfolding rights_of nothing bad_constraints conforms
  valid_entries =
      let v = constraints_value t in
      by_test (has_constraints t)
      (λ g.
      let x = field 0x04 t (constraints_extension t) in
      let c = not-false (conforms CMSContentConstraints v) (rw g at (passed t e).constraints) in
      let h = then_both (spans max_depth v 0 (length v) 0) (fit CMSContentConstraints v 0 (length v) 0) (kept_fits _ c) in
      rw (g, rights_of) (valid_keys v (octets_slice t x.start x.stop o) h.0 h.1))
      (λ g. rw (g, rights_of) tt)

  pub valid_rights : ValidRights (rights_of t)
  unfolding over_entries over_values
  valid_rights =
      record {
        keyed = valid_entries;
        few = any_every _ _ (λ x. any_every _ Few (λ a h. ltb-false max_values (length a.1) h) x.1.constraints) (rights_of t) (passed t e).values;
        entries = ltb-false max_entries (length (rights_of t)) (passed t e).entries;
      }
