-- The faults of content constraints, gathered by the loops; and that they are the tests of Judge on the rights.
use Rattle.std.specs.Prelude.{is_some, slice_get}
use Rattle.std.specs.List.{fold}
use Prim.Native.Nat.{ℕ, zero, suc}
use native.Mathlib.Omega.{arith}
use mathlib.Core.Bool.{Bool, true, false, not, ◌&&◌, ◌||◌, or_assoc, or-false}
use mathlib.Core.List.{List, [], ◌∷◌, map, map-map}
use mathlib.Core.Path.{◌≡◌, refl, sym, ap, ap₂, ◌∙◌}
use lib.ListN.{length}
use lib.Dec.{ltb, eqb}
use borrow.Author.Tests.{eqb-true, eqb-false, ltb-true, ltb-false, lt-ltb, le-ltb}
use Rattle.octets.specs.Limits.{max_entries, max_attributes, max_values, max_value_octets}
use Rattle.octets.specs.Lists.{all_of, any_of}
use Rattle.octets.specs.Octets.{same, distinct}
use Rattle.octets.proofs.Lists.{by_test, any_of-map}
use Rattle.der.specs.declared.Element.{Element}
use Rattle.der.specs.Element.{root, encoding, contents, field, inside}
use Rattle.rights.specs.Rights.{Key, Constraints, Entry, Rights, any_content_type}
use Rattle.rights.specs.Constraints.{attr_constraint, content_type_constraint, constraints_rights}
use Rattle.anchor.specs.declared.faults.Faults.{Faults}
use Rattle.der.specs.declared.Compared.TheVariants.{Types, Encodings}
use Rattle.anchor.specs.Judge.{types_in, repeated_constraint, any_content_type_unlike, over_entries, over_attributes, over_values, over_value_octets}
use Rattle.der.specs.Keys.{key_of}
use Rattle.anchor.specs.Contract.Faults.{no_faults, together, faults_in, attribute_faults, is_unlike, entry_faults, rights_faults}

pub together_assoc : (a b c : Faults) → together (together a b) c ≡ together a (together b c)
unfolding together
together_assoc a b c = simp or_assoc

pub together-none : (a : Faults) → together a no_faults ≡ a
unfolding together
together-none a = simp or-false

pub none-together : (a : Faults) → together no_faults a ≡ a
unfolding together
none-together a = refl

-- a fold that adds each member's faults to those that it begins with
pub faults_folded : {A : Type 0} (f : A → Faults) (g : Element → A) (found : Faults) (es : List Element)
    → fold (λ x e. together x (f (g e))) found es ≡ together found (faults_in f (map g es))
unfolding faults_in
faults_folded f g found [] = sym (together-none found)
faults_folded f g found (e ∷ es) = faults_folded f g (together found (f (g e))) es ∙ together_assoc found (f (g e)) (faults_in f (map g es))

-- more members than a number stand in a list where it has one at that place
pub nth_stands : {A : Type 0} (l : List A) (n : ℕ) → is_some (slice_get l n) ≡ ltb n (length l)
nth_stands [] n = sym (le-ltb n 0 (omega arith))
nth_stands (x ∷ l) zero = sym (lt-ltb 0 (suc (length l)) (omega arith))
nth_stands (x ∷ l) (suc n) =
    nth_stands l n
    ∙ by_test (ltb n (length l))
    (λ t. let u = ltb-true n (length l) t in t ∙ sym (lt-ltb (suc n) (suc (length l)) (omega arith)))
    (λ t. let u = ltb-false n (length l) t in t ∙ sym (le-ltb (suc n) (suc (length l)) (omega arith)))

-- what `Default` gives is no faults
pub none_is : {f : Faults}
    → (f.repeated ≡ false) × ((f.unlike ≡ false) × ((f.entries ≡ false) × ((f.attributes ≡ false) × ((f.values ≡ false) × (f.octets ≡ false)))))
    → f ≡ no_faults
none_is (a, (b, (c, (d, (e, f))))) = rw (a, b, c, d, e, f) refl

map-length : {A B : Type 0} (f : A → B) (l : List A) → length (map f l) ≡ length l
map-length f [] = refl
map-length f (x ∷ l) = ap suc (map-length f l)

pub attribute_faults_lem : (v : List ℕ) (a : Element) {x : Element} {d m o : Bool} {y : Faults}
    → x ≡ field 0x31 v a
    → d ≡ distinct (map (key_of Encodings v) (inside v x))
    → m ≡ ltb max_values (length (inside v x))
    → o ≡ any_of (λ e. ltb max_value_octets (length (encoding v e))) (inside v x)
    → y ≡ no_faults
    → record y { repeated = not d; values = m; octets = o } ≡ attribute_faults (attr_constraint v a)
unfolding attribute_faults attr_constraint key_of
attribute_faults_lem v a {x} hx hd hm ho hy =
    rw (hy, hd, hm, ho, hx, map-length (encoding v) (inside v (field 0x31 v a)), any_of-map (λ v. ltb max_value_octets (length v)) (encoding v) (inside v (field 0x31 v a)))

-- an entry

some_members : (n : ℕ) → not (eqb n 0) ≡ ltb 0 n
some_members n =
    by_test (eqb n 0)
    (λ t. let z = eqb-true n 0 t in rw t (sym (le-ltb 0 n (omega arith))))
    (λ t. let z : n ≡ 0 → ⊥ = eqb-false n 0 t in rw t (sym (lt-ltb 0 n (omega arith))))

module _ (v : List ℕ) (e : Element) {k : List ℕ} {b : Bool} (hk : k ≡ contents v (field 0x06 v e)) (hb : b ≡ same k any_content_type) where
  unlike_test : b ≡ same (contents v (field 0x06 v e)) any_content_type
  unlike_test = hb ∙ ap (λ (x : List ℕ). same x any_content_type) hk

  pub unlike_other : b ≡ false → is_unlike (content_type_constraint v e) ≡ false
  unfolding is_unlike content_type_constraint
  unlike_other t = rw (sym unlike_test ∙ t)

  module _ (t : b ≡ true) {g : Element} (hg : g ≡ field 0x0A v e) where
    pub unlike_generation : g.valid ≡ true → is_unlike (content_type_constraint v e) ≡ true
    unfolding is_unlike content_type_constraint
    unlike_generation h = rw (sym unlike_test ∙ t, ap (λ (x : Element). x.valid) (sym hg) ∙ h)

    pub unlike_constrained : {x : Element} {m : Bool} → g.valid ≡ false → x ≡ field 0x30 v e → m ≡ ltb 0 (length (inside v x)) → is_unlike (content_type_constraint v e) ≡ m
    unfolding is_unlike content_type_constraint
    unlike_constrained h hx hm =
        rw (sym unlike_test ∙ t, ap (λ (x : Element). x.valid) (sym hg) ∙ h, map-length (attr_constraint v) (inside v (field 0x30 v e)), hm, hx)
        (some_members (length (inside v (field 0x30 v e))))

-- the types in front of the members of a list
attribute_types : (v : List ℕ) (es : List Element) → types_in (map (attr_constraint v) es) ≡ map (key_of Types v) es
unfolding attr_constraint key_of
attribute_types v es = map-map (λ (a : Key × List Key). a.0) (attr_constraint v) es

pub entry_faults_lem : (v : List ℕ) (e : Element) {x : Element} {d u m : Bool} {w y z : Faults}
    → x ≡ field 0x30 v e
    → d ≡ distinct (map (key_of Types v) (inside v x))
    → u ≡ is_unlike (content_type_constraint v e)
    → m ≡ ltb max_attributes (length (inside v x))
    → w ≡ no_faults
    → y ≡ faults_in attribute_faults (map (attr_constraint v) (inside v x))
    → z ≡ together (record w { repeated = not d; unlike = u; attributes = m }) y
    → z ≡ entry_faults (content_type_constraint v e)
unfolding entry_faults content_type_constraint
entry_faults_lem v e {x} hx hd hu hm hw hy hz =
    let es = inside v (field 0x30 v e) in
    rw (hz, hw, hy, hd, hu, hm, hx, map-length (attr_constraint v) es, attribute_types v es)

-- the rights

entry_types : (v : List ℕ) (es : List Element) → types_in (map (content_type_constraint v) es) ≡ map (key_of Types v) es
unfolding content_type_constraint key_of
entry_types v es = map-map (λ (e : Key × Entry). e.0) (content_type_constraint v) es

pub rights_faults_lem : (v : List ℕ) {x : Element} {d m : Bool} {w y z : Faults}
    → x ≡ root v
    → d ≡ distinct (map (key_of Types v) (inside v x))
    → m ≡ ltb max_entries (length (inside v x))
    → w ≡ no_faults
    → y ≡ faults_in entry_faults (map (content_type_constraint v) (inside v x))
    → z ≡ together (record w { repeated = not d; entries = m }) y
    → z ≡ rights_faults (constraints_rights v)
unfolding rights_faults constraints_rights
rights_faults_lem v {x} hx hd hm hw hy hz =
    let es = inside v (root v) in
    rw (hz, hw, hy, hd, hm, hx, map-length (content_type_constraint v) es, entry_types v es)

-- The faults are the tests of Judge. Each fault of a list is that of some member:

any_of-same : {A : Type 0} (p q : A → Bool) → ((x : A) → p x ≡ q x) → (l : List A) → any_of p l ≡ any_of q l
unfolding any_of
any_of-same p q h [] = refl
any_of-same p q h (x ∷ l) = ap₂ ◌||◌ (h x) (any_of-same p q h l)

any_of_never : {A : Type 0} (p : A → Bool) → ((x : A) → p x ≡ false) → (l : List A) → any_of p l ≡ false
unfolding any_of
any_of_never p h [] = refl
any_of_never p h (x ∷ l) = rw (h x) (any_of_never p h l)

not-both : (a b : Bool) → not (a && b) ≡ not a || not b
not-both true b = refl
not-both false b = refl

any_of-not : {A : Type 0} (p : A → Bool) (l : List A) → any_of (λ x. not (p x)) l ≡ not (all_of p l)
unfolding any_of all_of
any_of-not p [] = refl
any_of-not p (x ∷ l) = ap (λ (r : Bool). not (p x) || r) (any_of-not p l) ∙ sym (not-both (p x) (all_of p l))

module _ (fault : Faults → Bool) (none : fault no_faults ≡ false) (joins : (a b : Faults) → fault (together a b) ≡ fault a || fault b) where
  some-member : {A : Type 0} (f : A → Faults) (l : List A) → fault (faults_in f l) ≡ any_of (λ x. fault (f x)) l
  unfolding faults_in any_of
  some-member f [] = none
  some-member f (x ∷ l) = joins (f x) (faults_in f l) ∙ ap (λ (r : Bool). fault (f x) || r) (some-member f l)

  -- and one that an attribute constraint never has is an entry's own
  own_fault : ((a : Key × List Key) → fault (attribute_faults a) ≡ false) → (own : Bool) (l : Constraints) → own || fault (faults_in attribute_faults l) ≡ own
  own_fault h own l =
      ap (λ (r : Bool). own || r) (some-member attribute_faults l ∙ any_of_never (λ a. fault (attribute_faults a)) h l) ∙ or-false own

entry-repeated : (e : Key × Entry)
    → (entry_faults e).repeated ≡ not (distinct (types_in e.1.constraints) && all_of (λ a. distinct a.1) e.1.constraints)
unfolding entry_faults together attribute_faults
entry-repeated e =
    let l = e.1.constraints in
    let own = not (distinct (types_in l)) in
    ap (λ (r : Bool). own || r) (some-member (λ f. f.repeated) refl (λ a b. refl) attribute_faults l ∙ any_of-not (λ a. distinct a.1) l)
    ∙ sym (not-both (distinct (types_in l)) (all_of (λ a. distinct a.1) l))

pub repeated_fault : (r : Rights) → (rights_faults r).repeated ≡ repeated_constraint r
unfolding rights_faults together repeated_constraint
repeated_fault r =
    let ok : Key × Entry → Bool = λ e. distinct (types_in e.1.constraints) && all_of (λ a. distinct a.1) e.1.constraints in
    ap (λ (x : Bool). not (distinct (types_in r)) || x)
    (some-member (λ f. f.repeated) refl (λ a b. refl) entry_faults r ∙ any_of-same (λ e. (entry_faults e).repeated) (λ e. not (ok e)) entry-repeated r ∙ any_of-not ok r)
    ∙ sym (not-both (distinct (types_in r)) (all_of ok r))

pub unlike_fault : (r : Rights) → (rights_faults r).unlike ≡ any_content_type_unlike r
unfolding rights_faults together any_content_type_unlike entry_faults attribute_faults is_unlike
unlike_fault r =
    some-member (λ f. f.unlike) refl (λ a b. refl) entry_faults r
    ∙ any_of-same (λ e. (entry_faults e).unlike) is_unlike (λ e. own_fault (λ f. f.unlike) refl (λ a b. refl) (λ a. refl) (is_unlike e) e.1.constraints) r

pub entries_fault : (r : Rights) → (rights_faults r).entries ≡ over_entries r
unfolding rights_faults together over_entries entry_faults attribute_faults
entries_fault r =
    ap (λ (x : Bool). ltb max_entries (length r) || x)
    (some-member (λ f. f.entries) refl (λ a b. refl) entry_faults r
    ∙ any_of_never (λ e. (entry_faults e).entries) (λ e. own_fault (λ f. f.entries) refl (λ a b. refl) (λ a. refl) false e.1.constraints) r)
    ∙ or-false (ltb max_entries (length r))

pub attributes_fault : (r : Rights) → (rights_faults r).attributes ≡ over_attributes r
unfolding rights_faults together over_attributes entry_faults attribute_faults
attributes_fault r =
    some-member (λ f. f.attributes) refl (λ a b. refl) entry_faults r
    ∙ any_of-same
    (λ e. (entry_faults e).attributes)
    (λ e. ltb max_attributes (length e.1.constraints))
    (λ e. own_fault (λ f. f.attributes) refl (λ a b. refl) (λ a. refl) (ltb max_attributes (length e.1.constraints)) e.1.constraints)
    r

pub values_fault : (r : Rights) → (rights_faults r).values ≡ over_values r
unfolding rights_faults together over_values entry_faults attribute_faults
values_fault r =
    some-member (λ f. f.values) refl (λ a b. refl) entry_faults r
    ∙ any_of-same
    (λ e. (entry_faults e).values)
    (λ e. any_of (λ a. ltb max_values (length a.1)) e.1.constraints)
    (λ e. some-member (λ f. f.values) refl (λ a b. refl) attribute_faults e.1.constraints)
    r

pub octets_fault : (r : Rights) → (rights_faults r).octets ≡ over_value_octets r
unfolding rights_faults together over_value_octets entry_faults attribute_faults
octets_fault r =
    some-member (λ f. f.octets) refl (λ a b. refl) entry_faults r
    ∙ any_of-same
    (λ e. (entry_faults e).octets)
    (λ e. any_of (λ a. any_of (λ v. ltb max_value_octets (length v)) a.1) e.1.constraints)
    (λ e. some-member (λ f. f.octets) refl (λ a b. refl) attribute_faults e.1.constraints)
    r
