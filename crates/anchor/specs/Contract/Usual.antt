-- What the path for the usual content constraints promises where it says yes. Where it says no, it promises nothing, and the plain code decides.
use Rattle.anchor.specs.declared.AnchorFault.{AnchorFault}
use Rattle.std.specs.Prelude.{ℕ, suc, ◌-◌, ◌≤◌, true, false, List, [], ◌∷◌, ◌≡◌, length, ltb, Result, Ok, Err}
use Rattle.octets.specs.Limits.{max_anchor_octets, max_entries, max_attributes, max_values}
use Rattle.octets.specs.First.{given_if}
use Rattle.octets.specs.Octets.{octet, ordered, distinct}
use Rattle.octets.specs.Lists.{any_of}
use Rattle.der.specs.declared.Element.{Element}
use Rattle.der.specs.Element.{elements, encoding, inside, with_tag}
use Rattle.der.specs.Fit.{kept, and_then, held, each}
use Rattle.der.specs.Check.{sorted_in, der as derOf}
use Rattle.syntax.specs.Grammar.{Syntax, free, end, obeys, optional, many, tagged, equals}
use Rattle.syntax.specs.Asn.{AttrConstraint, AttrConstraintList, ContentTypeConstraint, CMSContentConstraints}
use Rattle.syntax.specs.Contract.Once.{Conforms}
use Rattle.rights.specs.Constraints.{attr_constraint, content_type_constraint, constraints_rights}
use Rattle.der.specs.declared.Compared.TheVariants.{Types, Encodings}
use Rattle.der.specs.Keys.{keys_from, keys_in}
use Rattle.anchor.specs.declared.faults.Faults.{Faults}
use Rattle.anchor.specs.declared.AnchorFault.TheVariants as fault
use Rattle.anchor.specs.Judge.{conforms, identifier_outside}
use Rattle.anchor.specs.Contract.Faults.{is_long, no_faults, faults_in, attribute_faults, entry_faults, rights_faults}

-- the ContentTypeGeneration that is not the default
abbrev pub cannot_source : Syntax
cannot_source = obeys (equals (1 ∷ [])) free

-- the octet by which types are told apart
unfoldable pub last_of : List ℕ → ℕ
last_of k = octet k (length k - 1)

-- the faults of an AttrConstraint, and of a ContentTypeConstraint
abbrev pub attribute_fault : List ℕ → Element → Faults
attribute_fault v a = attribute_faults (attr_constraint v a)

abbrev pub entry_fault : List ℕ → Element → Faults
entry_fault v e = entry_faults (content_type_constraint v e)

-- what the members of a list are: the levels left for their contents, the syntax of these, and the faults that a member has
pub record Kind : Type 0 where
  pub depth : ℕ
  pub syntax : Syntax
  pub faults : Element → Faults

abbrev pub attributes : List ℕ → Kind
attributes v = record { depth = 12; syntax = AttrConstraint; faults = attribute_fault v }

abbrev pub entries : List ℕ → Kind
entries v = record { depth = 14; syntax = ContentTypeConstraint; faults = entry_fault v }

-- a member of which 34 and 17 find nothing: its contents are as g says, with d levels left, and it has no faults
pub record MemberOk (d : ℕ) (g : Syntax) (f : Element → Faults) (v : List ℕ) (e : Element) : Type 0 where
  pub syntax : Conforms d g v e.start e.stop
  pub faults : f e ≡ no_faults

-- a run of such members, at most so many, and no type twice
pub record RunOk (d : ℕ) (g : Syntax) (f : Element → Faults) (most : ℕ) (v : List ℕ) (at stop : ℕ) : Type 0 where
  pub syntax : Conforms (suc d) (many (tagged 0x30 g)) v at stop
  pub faults : faults_in f (elements v at stop) ≡ no_faults
  pub differ : distinct (keys_from Types v at stop) ≡ true
  pub few : length (elements v at stop) ≤ most

abbrev pub AttributeOk : List ℕ → Element → Type 0
AttributeOk v a = MemberOk 12 AttrConstraint (attribute_fault v) v a

abbrev pub AttributesOk : List ℕ → ℕ → ℕ → Type 0
AttributesOk v at stop = RunOk 12 AttrConstraint (attribute_fault v) max_attributes v at stop

abbrev pub EntryOk : List ℕ → Element → Type 0
EntryOk v e = MemberOk 14 ContentTypeConstraint (entry_fault v) v e

abbrev pub EntriesOk : List ℕ → ℕ → ℕ → Type 0
EntriesOk v at stop = RunOk 14 ContentTypeConstraint (entry_fault v) max_entries v at stop

-- a value after another in a SET OF, in order and not equal; the values in a window
pub record ValueOk (v : List ℕ) (former e : Element) : Type 0 where
  pub der : kept (derOf 11 v e) ≡ true
  pub after : ordered (encoding v e) (encoding v former) ≡ false
  pub short : is_long v e ≡ false

pub record ValuesOk (v : List ℕ) (at stop : ℕ) : Type 0 where
  pub der : each (λ former e. and_then (derOf 11 v e) (held e.at (sorted_in 49 v former e))) (elements v at stop) ≡ Ok tt
  pub differ : distinct (keys_from Encodings v at stop) ≡ true
  pub few : length (elements v at stop) ≤ max_values
  pub short : any_of (is_long v) (elements v at stop) ≡ false

-- what may stand after the type of an entry
abbrev pub Listed : Syntax
Listed = optional 0x30 AttrConstraintList end

abbrev pub Behind : Syntax
Behind = optional 0x0A cannot_source Listed

-- what stands there, and of the attribute constraints in it
pub record RestOk (g : Syntax) (v : List ℕ) (at stop : ℕ) : Type 0 where
  pub syntax : Conforms 14 g v at stop
  pub faults : faults_in (attribute_fault v) (inside v (with_tag 0x30 (elements v at stop))) ≡ no_faults
  pub differ : distinct (keys_in Types v (with_tag 0x30 (elements v at stop))) ≡ true
  pub few : length (inside v (with_tag 0x30 (elements v at stop))) ≤ max_attributes

-- a CMSContentConstraints value of which they find nothing
pub record ConstraintsOk (v : List ℕ) : Type 0 where
  pub syntax : conforms CMSContentConstraints v ≡ true
  pub faults : rights_faults (constraints_rights v) ≡ no_faults

-- what is left to judge then: the sizes of t and of its identifier k
abbrev pub judge_sizes : List ℕ → List ℕ → Result (Unit {0}) AnchorFault
judge_sizes t k =
    given_if (ltb max_anchor_octets (length t)) (Err fault.AnchorOctets) (given_if (identifier_outside k) (Err fault.KeyIdentifierOctets) (Ok tt))
