-- The checks of an add: each test of the definition as the code has it.
use Rattle.std.specs.Prelude.{Result, Ok, Err}
use Rattle.anchor.specs.declared.AnchorFault.{AnchorFault}
use Prim.Native.Nat.{ℕ}
use mathlib.Core.Bool.{Bool, true, false, not, ◌&&◌}
use mathlib.Core.List.{List, [], ◌∷◌, map}
use mathlib.Core.Logic.{◌⊎◌, inl, inr}
use mathlib.Core.Path.{◌≡◌, refl, sym, ap, ap₂, ◌∙◌}
use lib.ListN.{length, drop}
use lib.Dec.{ltb}
use borrow.Author.Tests.{not-true, not-false}
use Rattle.octets.specs.Limits.{max_anchor_octets, max_depth}
use Rattle.octets.specs.First.{given_if}
use Rattle.octets.specs.Lists.{any_of}
use Rattle.octets.specs.Octets.{distinct}
use Rattle.der.specs.declared.Element.{Element}
use Rattle.der.specs.Element.{root, contents, inside, field, field_after}
use Rattle.der.specs.Fit.{kept}
use Rattle.der.specs.Check.{spans}
use Rattle.syntax.specs.Grammar.{Syntax, fit}
use Rattle.syntax.specs.Asn.{CMSContentConstraints}
use Rattle.syntax.specs.Contract.Whole.{conforms_in}
use Rattle.syntax.proofs.Each.{kept_then}
use Rattle.syntax.proofs.Whole.{spans_bad, spans-long, spans-run}
use Rattle.rights.specs.Rights.{Rights}
use Rattle.rights.specs.Constraints.{constraints_rights}
use Rattle.anchor.specs.declared.AnchorFault.TheVariants as fault
use Rattle.anchor.specs.declared.faults.Faults.{Faults}
use Rattle.der.specs.declared.Compared.TheVariants.{Types}
use Rattle.anchor.specs.Info.{version, key_id_field, key_identifier, cert_path, extensions, extn_value, constraints_in, constraints_extension}
use Rattle.anchor.specs.Info.{constraints_value, rights_of}
use Rattle.anchor.specs.Role.{extension_list}
use Rattle.anchor.specs.Judge.{conforms, repeated_extension, critical_extension, bad_constraints, repeated_constraint, any_content_type_unlike}
use Rattle.anchor.specs.Judge.{identifier_outside, over_entries, over_attributes, over_values, over_value_octets, judge_rights, judge}
use Rattle.der.specs.Keys.{key_of}
use Rattle.anchor.specs.Contract.Faults.{is_other_critical, rights_faults}
use Rattle.anchor.specs.Contract.Usual.{judge_sizes}
use Rattle.anchor.proofs.Constraints.{repeated_fault, unlike_fault, entries_fault, attributes_fault, values_fault, octets_fault}
use Rattle.anchor.proofs.Rights.{value_rights}

-- DER and a syntax
module _ (g : Syntax) (t : List ℕ) {e : Element} (q : e ≡ root t) where
  by_spans : {b : Bool} → kept (spans max_depth t 0 (length t) 0) ≡ b → b && kept (fit g t 0 (length t) 0) ≡ conforms g t
  unfolding conforms
  by_spans h =
      ap (λ (b : Bool). b && kept (fit g t 0 (length t) 0)) (sym h) ∙ sym (kept_then (spans max_depth t 0 (length t) 0) (fit g t 0 (length t) 0))

  pub conforms_not : (not e.valid ≡ true) ⊎ ((not e.valid ≡ false) × (e.stop ≡ length t → ⊥)) → false ≡ conforms g t
  conforms_not (inl b) = by_spans (spans_bad max_depth t 0 (length t) 0 q (not-true _ b))
  conforms_not (inr h) = by_spans (spans-long max_depth t 0 (length t) 0 q (not-false _ h.0) h.1)

  pub conforms_whole : e.valid ≡ true → e.stop ≡ length t → conforms_in max_depth g t 0 (length t) 0 ≡ conforms g t
  conforms_whole b h = by_spans (spans-run max_depth t 0 (length t) 0 q b h)

-- the parts of a TrustAnchorInfo, each found in the one before it

module _ (t : List ℕ) {info : Element} (i : info ≡ root t) where
  pub version_is : {e : Element} → e ≡ field 0x02 t info → (version t).valid ≡ e.valid
  unfolding version
  version_is q = rw (q, i)

  pub identifier_is : {id : Element} {k : List ℕ} → id ≡ field 0x04 t info → k ≡ contents t id → k ≡ key_identifier t
  unfolding key_id_field
  identifier_is q r = rw (r, q, i)

  pub path_is : {id e : Element} → id ≡ field 0x04 t info → e ≡ field_after 0x30 t info id → (cert_path t).valid ≡ e.valid
  unfolding cert_path key_id_field
  path_is q r = rw (r, q, i)

  pub list_is : {x list : Element} → x ≡ field 0xA1 t info → list ≡ field 0x30 t x → list ≡ extension_list t
  list_is q r = rw (r, q, i)

module _ (t : List ℕ) {list : Element} (l : list ≡ extension_list t) where
  pub repeated_extension_is : {d : Bool} → d ≡ distinct (map (key_of Types t) (inside t list)) → repeated_extension t ≡ not d
  unfolding repeated_extension extensions key_of
  repeated_extension_is q = rw (q, l)

  pub critical_extension_is : {b : Bool} → b ≡ any_of (is_other_critical t) (inside t list) → critical_extension t ≡ b
  unfolding critical_extension extensions
  critical_extension_is q = rw (q, l)

  pub constraints_is : {e : Element} → e ≡ constraints_in t (inside t list) → e ≡ constraints_extension t
  unfolding constraints_extension extensions
  constraints_is q = rw (q, l)

module _ (t : List ℕ) {e : Element} (p : e ≡ constraints_extension t) {v : List ℕ} (q : v ≡ extn_value t e) where
  pub value_is : v ≡ constraints_value t
  value_is = rw (q, p)

  pub bad_constraints_is : {b : Bool} → b ≡ (e.valid && not (conforms CMSContentConstraints v)) → bad_constraints t ≡ b
  unfolding bad_constraints
  bad_constraints_is r = rw (r, q, p)

pub rights_is : (t : List ℕ) {k v : List ℕ} {j : Result (Unit {0}) AnchorFault} → k ≡ key_identifier t → v ≡ constraints_value t → j ≡ judge_rights t k (constraints_rights v)
    → j ≡ judge_rights t (key_identifier t) (rights_of t)
rights_is t p q h = h ∙ ap₂ (judge_rights t) p (ap constraints_rights q ∙ value_rights t)

-- what the faults of the rights say of them

module _ (r : Rights) {f : Faults} (h : f ≡ rights_faults r) where
  pub repeated_is : repeated_constraint r ≡ f.repeated
  repeated_is = rw h (sym (repeated_fault r))

  pub unlike_is : any_content_type_unlike r ≡ f.unlike
  unlike_is = rw h (sym (unlike_fault r))

  pub entries_is : over_entries r ≡ f.entries
  entries_is = rw h (sym (entries_fault r))

  pub attributes_is : over_attributes r ≡ f.attributes
  attributes_is = rw h (sym (attributes_fault r))

  pub values_is : over_values r ≡ f.values
  values_is = rw h (sym (values_fault r))

  pub octets_is : over_value_octets r ≡ f.octets
  octets_is = rw h (sym (octets_fault r))

-- "The first that applies is given": stages in their order and what is given after them

abbrev stages : List ℕ → List (Bool × Result (Unit {0}) AnchorFault)
stages t =
    ((version t).valid, Err fault.OtherVersion)
    ∷ ((cert_path t).valid, Err fault.CertPath)
    ∷ (repeated_extension t, Err fault.RepeatedExtension)
    ∷ (critical_extension t, Err fault.CriticalExtension)
    ∷ (bad_constraints t, Err fault.ConstraintsSyntax)
    ∷ []

abbrev rights_stages : List ℕ → List ℕ → Rights → List (Bool × Result (Unit {0}) AnchorFault)
rights_stages t k r =
    (repeated_constraint r, Err fault.RepeatedConstraint)
    ∷ (any_content_type_unlike r, Err fault.AnyContentTypeEntry)
    ∷ (ltb max_anchor_octets (length t), Err fault.AnchorOctets)
    ∷ (identifier_outside k, Err fault.KeyIdentifierOctets)
    ∷ (over_entries r, Err fault.EntryCount)
    ∷ (over_attributes r, Err fault.AttributeCount)
    ∷ (over_values r, Err fault.ValueCount)
    ∷ (over_value_octets r, Err fault.ValueOctets)
    ∷ []

unfoldable pub first_of : List (Bool × Result (Unit {0}) AnchorFault) → Result (Unit {0}) AnchorFault → Result (Unit {0}) AnchorFault
first_of [] last = last
first_of (s ∷ l) last = given_if s.0 s.1 (first_of l last)

-- an answer is what stages give
pub record From (j : Result (Unit {0}) AnchorFault) (l : List (Bool × Result (Unit {0}) AnchorFault)) (last : Result (Unit {0}) AnchorFault) : Type 0 where
  pub is : j ≡ first_of l last

module _ {j answer last : Result (Unit {0}) AnchorFault} {b : Bool} {l : List (Bool × Result (Unit {0}) AnchorFault)} (p : From j ((b, answer) ∷ l) last) where
  pub passed : b ≡ false → From j l last
  unfolding first_of given_if
  passed h = record { is = p.is ∙ rw h }

  pub given : b ≡ true → answer ≡ j
  unfolding first_of given_if
  given h = sym (p.is ∙ rw h)

-- two stages that are tested together
module _ {j last : Result (Unit {0}) AnchorFault} {l : List (Bool × Result (Unit {0}) AnchorFault)} {x y : AnchorFault} where
  pub two_passed : (a b : Bool) → From j ((a, Err x) ∷ (b, Err y) ∷ l) last → ◌≡◌ {A = Result (Unit {0}) AnchorFault} (given_if a (Err x) (given_if b (Err y) (Ok tt))) (Ok tt) → From j l last
  unfolding given_if
  two_passed true b p h = cc
  two_passed false true p h = cc
  two_passed false false p h = passed (passed p refl) refl

  pub two_given : (a b : Bool) → From j ((a, Err x) ∷ (b, Err y) ∷ l) last → {f : AnchorFault} → ◌≡◌ {A = Result (Unit {0}) AnchorFault} (given_if a (Err x) (given_if b (Err y) (Ok tt))) (Err f) → Err f ≡ j
  unfolding given_if
  two_given true b p h = sym h ∙ given p refl
  two_given false true p h = sym h ∙ given (passed p refl) refl
  two_given false false p h = cc

pub given_last : {j last : Result (Unit {0}) AnchorFault} → From j [] last → last ≡ j
unfolding first_of
given_last p = sym p.is

-- the first n stages do not apply

abbrev pub Past : ℕ → List ℕ → Type 0
Past n t = From (judge t) (drop n (stages t)) (judge_rights t (key_identifier t) (rights_of t))

pub start : (t : List ℕ) → Past 0 t
unfolding judge first_of
start t = record { is = refl }

abbrev pub RightsPast : ℕ → List ℕ → List ℕ → Rights → Type 0
RightsPast n t k r = From (judge_rights t k r) (drop n (rights_stages t k r)) (Ok tt)

pub rights_start : (t k : List ℕ) (r : Rights) → RightsPast 0 t k r
unfolding first_of
rights_start t k r = record { is = refl }

-- .. as the code tests them, one after the other

module _ (t : List ℕ) {info : Element} (i : info ≡ root t) {v : Element} (v_is : v ≡ field 0x02 t info) (no_version : v.valid ≡ false) where
  pub past_version : Past 1 t
  past_version = passed (start t) (version_is t i v_is ∙ no_version)

  module _ {id path : Element} (id_is : id ≡ field 0x04 t info) (path_here : path ≡ field_after 0x30 t info id) (no_path : path.valid ≡ false) where
    pub past_path : Past 2 t
    past_path = passed past_version (path_is t i id_is path_here ∙ no_path)

    module _ {list : Element} (l : list ≡ extension_list t) {d : Bool} (d_is : d ≡ distinct (map (key_of Types t) (inside t list))) (once : not d ≡ false) where
      pub past_repeated : Past 3 t
      past_repeated = passed past_path (repeated_extension_is t l d_is ∙ once)

      module _ {b : Bool} (b_is : b ≡ any_of (is_other_critical t) (inside t list)) (none : b ≡ false) where
        pub past_critical : Past 4 t
        past_critical = passed past_repeated (critical_extension_is t l b_is ∙ none)

module _ (t k : List ℕ) (r : Rights) {f : Faults} (h : f ≡ rights_faults r) (once : f.repeated ≡ false) where
  pub past_repeats : RightsPast 1 t k r
  past_repeats = passed (rights_start t k r) (repeated_is r h ∙ once)

  module _ (like : f.unlike ≡ false) where
    pub past_unlike : RightsPast 2 t k r
    past_unlike = passed past_repeats (unlike_is r h ∙ like)

    module _ {s : Result (Unit {0}) AnchorFault} (s_is : s ≡ judge_sizes t k) where
      pub bad_size : {x : AnchorFault} → s ≡ Err x → Err x ≡ judge_rights t k r
      bad_size e = two_given _ _ past_unlike (sym s_is ∙ e)

      module _ (fine : s ≡ Ok tt) where
        pub past_sizes : RightsPast 4 t k r
        past_sizes = two_passed _ _ past_unlike (sym s_is ∙ fine)

        module _ (few_entries : f.entries ≡ false) where
          pub past_entries : RightsPast 5 t k r
          past_entries = passed past_sizes (entries_is r h ∙ few_entries)

          module _ (few_attributes : f.attributes ≡ false) where
            pub past_attributes : RightsPast 6 t k r
            past_attributes = passed past_entries (attributes_is r h ∙ few_attributes)

            module _ (few_values : f.values ≡ false) where
              pub past_values : RightsPast 7 t k r
              past_values = passed past_attributes (values_is r h ∙ few_values)
