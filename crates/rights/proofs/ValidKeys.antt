-- The rights that conforming octets give have valid keys: DER checked each OID and each value where it stands, and the syntax says which elements those are.
use Rattle.std.specs.Prelude.{Ok}
use Prim.Native.Nat.{ℕ, zero, suc}
use native.Mathlib.Omega.{arith}
use mathlib.Core.Bool.{true}
use mathlib.Core.List.{List, [], ◌∷◌, map}
use mathlib.Core.Path.{◌≡◌, refl, ap}
use lib.ListN.{length}
use borrow.Author.Tests.{lt-ltb}
use Rattle.octets.specs.Limits.{max_depth}
use Rattle.octets.specs.Lists.{all_of}
use Rattle.octets.specs.Octets.{Octets, slice}
use Rattle.octets.proofs.Lists.{by_test, both}
use Rattle.der.specs.declared.Element.{Element}
use Rattle.der.specs.Element.{root, encoding, contents, inside, field}
use Rattle.der.specs.Fit.{kept}
use Rattle.der.specs.Contents.{contents_ok}
use Rattle.der.specs.Check.{der, spans}
use Rattle.der.proofs.Elements.{elements_end}
use Rattle.syntax.specs.Grammar.{fit}
use Rattle.syntax.specs.Asn.{AttrConstraint, ContentTypeConstraint, CMSContentConstraints}
use Rattle.syntax.proofs.Each.{Every, every_weaken, every_both, every_map}
use Rattle.syntax.proofs.Match.{one_fits, obeys_fits}
use Rattle.syntax.proofs.Window.{Member, members, tagged-member}
use Rattle.syntax.proofs.Depth.{der_valid, inside-der, contents-der, spans_fits}
use Rattle.syntax.proofs.Moved.{spans-alone}
use Rattle.syntax.proofs.Rules.{octets_slice}
use Rattle.syntax.proofs.Fields.{Found, chosen, placed, each-found, field_in, lacks, only_field}
use Rattle.rights.specs.Constraints.{attr_constraint, content_type_constraint, constraints_rights}
use Rattle.rights.specs.Valid.{is_octets, is_type, is_value}
use Rattle.rights.proofs.Witness.{ValidAttribute, ValidEntry}

all_octets : (k : List ℕ) → Octets k → is_octets k ≡ true
unfolding all_of
all_octets [] o = refl
all_octets (x ∷ k) o = both (lt-ltb x 256 (o zero)) (all_octets k (λ i. o (suc i)))

module _ (v : List ℕ) (o : Octets v) where
  slice_octets : (a e : ℕ) → is_octets (slice v a e) ≡ true
  slice_octets a e = all_octets (slice v a e) (octets_slice v a e o)

  -- an OID among the fields of an element
  valid_type : (d : ℕ) (e : Element) → Every (λ m. der (suc d) v m ≡ Ok tt) (inside v e) → (field 0x06 v e).valid ≡ true → (field 0x06 v e).tag ≡ 0x06
      → is_type (contents v (field 0x06 v e)) ≡ true
  unfolding is_type contents_ok
  valid_type d e h g t =
      let x = field 0x06 v e in
      let k = tagged-member (λ m. der (suc d) v m ≡ Ok tt) 0x06 (inside v e) h g in
      both (slice_octets x.start x.stop) (rw t at (contents-der d v x k (rw t refl)))

  -- a listed value
  valid_value : (s : Element) → Every (λ m. der 11 v m ≡ Ok tt) (inside v s) → Every (λ w. is_value w ≡ true) (map (encoding v) (inside v s))
  unfolding is_value
  valid_value s h =
      every_map (encoding v) (λ w. is_value w ≡ true) (inside v s)
      (every_weaken (λ m. Member v s.start s.stop m × (der 11 v m ≡ Ok tt)) (λ m. is_value (encoding v m) ≡ true)
      (λ m k. both (slice_octets m.at m.stop) (ap kept (spans-alone v m (k.0.own (der_valid 11 v m k.1)) 11 k.1)))
      (inside v s)
      (every_both (Member v s.start s.stop) (λ m. der 11 v m ≡ Ok tt) (inside v s) (members v s.start s.stop) h))

  valid_attribute : (at stop : ℕ) (a : Element) → Found 0x30 AttrConstraint v at stop a → der 13 v a ≡ Ok tt → ValidAttribute (attr_constraint v a)
  unfolding attr_constraint field_in lacks only_field
  valid_attribute at stop a f h =
      let m = inside-der 12 v a h (rw f.tag refl) in
      let t = (placed 0x06 v AttrConstraint a.start a.stop a.at f.fits).0 in
      let s = (placed 0x31 v AttrConstraint a.start a.stop a.at f.fits).0 in (
        valid_type 11 a m t.own.valid t.tag,
        valid_value (field 0x31 v a) (inside-der 11 v (field 0x31 v a) (tagged-member (λ m. der 12 v m ≡ Ok tt) 0x31 (inside v a) m s.own.valid) (rw s.tag refl)),
      )

  valid_entry : (at stop : ℕ) (e : Element) → Found 0x30 ContentTypeConstraint v at stop e → der 15 v e ≡ Ok tt → ValidEntry (content_type_constraint v e)
  unfolding content_type_constraint field_in lacks only_field
  valid_entry at stop e f h =
      let m = inside-der 14 v e h (rw f.tag refl) in
      let t = (placed 0x06 v ContentTypeConstraint e.start e.stop e.at f.fits).0 in
      let p = placed 0x30 v ContentTypeConstraint e.start e.stop e.at f.fits in
      let l = field 0x30 v e in (
        valid_type 13 e m t.own.valid t.tag,
        every_map (attr_constraint v) ValidAttribute (inside v l)
            (by_test l.valid
            (λ g.
            let q = p.0 g in
            every_weaken (λ a. Found 0x30 AttrConstraint v l.start l.stop a × (der 13 v a ≡ Ok tt)) (λ a. ValidAttribute (attr_constraint v a))
            (λ a k. valid_attribute l.start l.stop a k.0 k.1)
            (inside v l)
            (every_both _ _ (inside v l)
            (each-found 0x30 AttrConstraint v l.start l.stop l.at (obeys_fits v l.start l.stop l.at _ _ q.fits).0)
            (inside-der 13 v l (tagged-member (λ m. der 14 v m ≡ Ok tt) 0x30 (inside v e) m g) (rw q.tag refl))))
            (λ g. rw (p.1 g, elements_end v 0 0 (omega arith)) tt)),
      )

  pub valid_keys : spans max_depth v 0 (length v) 0 ≡ Ok tt → fit CMSContentConstraints v 0 (length v) 0 ≡ Ok tt → Every ValidEntry (constraints_rights v)
  unfolding constraints_rights
  valid_keys s f =
      let e = root v in
      let one = one_fits v 0 (length v) 0 refl _ _ f in
      let c = chosen v 0 (length v) 0 {e = e} refl one.valid 0x30 _ one.alone in
      every_map (content_type_constraint v) ValidEntry (inside v e)
      (every_weaken (λ m. Found 0x30 ContentTypeConstraint v e.start e.stop m × (der 15 v m ≡ Ok tt)) (λ m. ValidEntry (content_type_constraint v m))
      (λ m k. valid_entry e.start e.stop m k.0 k.1)
      (inside v e)
      (every_both _ _ (inside v e)
      (each-found 0x30 ContentTypeConstraint v e.start e.stop e.at (obeys_fits v e.start e.stop e.at _ _ c.fits).0)
      (inside-der 15 v e (spans_fits max_depth v 0 (length v) 0 s).0 (rw c.tag refl))))
