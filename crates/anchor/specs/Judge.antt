-- 01, After acceptance, add: the checks up to status 17 for size, in order; and The store image: a stored TrustAnchorInfo.
use Rattle.anchor.specs.declared.AnchorFault.{AnchorFault}
use Rattle.std.specs.Prelude.{is_ok, ℕ, Bool, not, ◌&&◌, List, map, length, leb, ltb, eqb, Result, Ok, Err}
use Rattle.octets.specs.declared.Status.{Status}
use Rattle.octets.specs.Status.{success, insufficient_memory, unsupported_trust_anchor_format}
use Rattle.octets.specs.Limits.{max_anchor_octets, max_key_identifier, max_depth, max_entries, max_attributes, max_values, max_value_octets}
use Rattle.octets.specs.First.{given_if}
use Rattle.octets.specs.Lists.{all_of, any_of}
use Rattle.octets.specs.Octets.{same, distinct}
use Rattle.der.specs.Fit.{and_then, kept}
use Rattle.der.specs.Check.{spans}
use Rattle.der.specs.Keys.{type_of}
use Rattle.syntax.specs.Grammar.{Syntax, fit}
use Rattle.syntax.specs.Asn.{StoredTrustAnchorInfo, CMSContentConstraints}
use Rattle.rights.specs.Rights.{Key, Rights, any_content_type}
use Rattle.anchor.specs.declared.AnchorFault.TheVariants as fault
use Rattle.anchor.specs.Info.{version, key_identifier, cert_path, extensions, critical, is_constraints, has_constraints, constraints_value, rights_of}

-- 01's number of a fault
unfoldable pub fault_status : AnchorFault → Status
fault_status fault.OtherVersion = unsupported_trust_anchor_format
fault_status fault.CertPath = unsupported_trust_anchor_format
fault_status fault.RepeatedExtension = unsupported_trust_anchor_format
fault_status fault.CriticalExtension = unsupported_trust_anchor_format
fault_status fault.ConstraintsSyntax = unsupported_trust_anchor_format
fault_status fault.RepeatedConstraint = unsupported_trust_anchor_format
fault_status fault.AnyContentTypeEntry = unsupported_trust_anchor_format
fault_status fault.AnchorOctets = insufficient_memory
fault_status fault.KeyIdentifierOctets = insufficient_memory
fault_status fault.EntryCount = insufficient_memory
fault_status fault.AttributeCount = insufficient_memory
fault_status fault.ValueCount = insufficient_memory
fault_status fault.ValueOctets = insufficient_memory

-- .. and of all checks
unfoldable pub check_status : Result (Unit {0}) AnchorFault → Status
check_status (Ok _) = success
check_status (Err f) = fault_status f

-- no fault was found
abbrev pub passes : Result (Unit {0}) AnchorFault → Bool
passes j = is_ok j

-- octets by themselves: DER, depth counted from their element, and of a syntax
unfoldable pub conforms : Syntax → List ℕ → Bool
conforms g t = kept (and_then (spans max_depth t 0 (length t) 0) (fit g t 0 (length t) 0))

-- 34, "a repeated extension"
unfoldable pub repeated_extension : List ℕ → Bool
repeated_extension t = not (distinct (map (type_of t) (extensions t)))

-- 34, "a critical one but content constraints"
unfoldable pub critical_extension : List ℕ → Bool
critical_extension t = any_of (λ e. critical t e && not (is_constraints t e)) (extensions t)

-- 34, "bad constraints syntax": DER and syntax of the value, depth counted afresh
unfoldable pub bad_constraints : List ℕ → Bool
bad_constraints t = has_constraints t && not (conforms CMSContentConstraints (constraints_value t))

abbrev pub types_in : {A : Type 0} → List (Key × A) → List Key
types_in l = map (λ e. e.0) l

-- 34, "a repeated type or value in it": a content type, an attribute type in one entry, a value in one attribute constraint
unfoldable pub repeated_constraint : Rights → Bool
repeated_constraint r =
    not
    (distinct (types_in r)
    && all_of (λ e. distinct (types_in e.1.constraints) && all_of (λ a. distinct a.1) e.1.constraints) r)

-- 34, "an anyContentType entry unlike Rights": it has canSource and no constraints
unfoldable pub any_content_type_unlike : Rights → Bool
any_content_type_unlike r = any_of (λ e. same e.0 any_content_type && not (e.1.can_source && eqb (length e.1.constraints) 0)) r

-- 17, "identifier outside 1 to 32"
unfoldable pub identifier_outside : List ℕ → Bool
identifier_outside k = not (leb 1 (length k) && leb (length k) max_key_identifier)

-- 17, "a count or value over the limits of Rights": "1 to 16 entries", "0 to 4 attribute constraints", "1 to 4 distinct values of at most 64 octets"
unfoldable pub over_entries : Rights → Bool
over_entries r = ltb max_entries (length r)

unfoldable pub over_attributes : Rights → Bool
over_attributes r = any_of (λ e. ltb max_attributes (length e.1.constraints)) r

unfoldable pub over_values : Rights → Bool
over_values r = any_of (λ e. any_of (λ a. ltb max_values (length a.1)) e.1.constraints) r

unfoldable pub over_value_octets : Rights → Bool
over_value_octets r = any_of (λ e. any_of (λ a. any_of (λ v. ltb max_value_octets (length v)) a.1) e.1.constraints) r

-- The checks after those of syntax: of a TrustAnchorInfo's rights r, of its size (17, "over 1,024 octets") and of its key identifier k.
abbrev pub judge_rights : List ℕ → List ℕ → Rights → Result (Unit {0}) AnchorFault
judge_rights t k r =
    given_if (repeated_constraint r) (Err fault.RepeatedConstraint)
    (given_if (any_content_type_unlike r) (Err fault.AnyContentTypeEntry)
    (given_if (ltb max_anchor_octets (length t)) (Err fault.AnchorOctets)
    (given_if (identifier_outside k) (Err fault.KeyIdentifierOctets)
    (given_if (over_entries r) (Err fault.EntryCount)
    (given_if (over_attributes r) (Err fault.AttributeCount)
    (given_if (over_values r) (Err fault.ValueCount)
    (given_if (over_value_octets r) (Err fault.ValueOctets) (Ok tt))))))))

-- The checks of a TrustAnchorInfo, in the order of 01, first "a version other than 1" and "certPath present". (The certificate forms are told by the TrustAnchorChoice around it.)
unfoldable pub judge : List ℕ → Result (Unit {0}) AnchorFault
judge t =
    given_if (version t).valid (Err fault.OtherVersion)
    (given_if (cert_path t).valid (Err fault.CertPath)
    (given_if (repeated_extension t) (Err fault.RepeatedExtension)
    (given_if (critical_extension t) (Err fault.CriticalExtension)
    (given_if (bad_constraints t) (Err fault.ConstraintsSyntax) (judge_rights t (key_identifier t) (rights_of t))))))

-- 01, The store image: "A stored TrustAnchorInfo is DER of RFC 5914's syntax, depth counted from itself, and passes every check of an add up to status 17 for size."
unfoldable pub storable : List ℕ → Bool
storable t = conforms StoredTrustAnchorInfo t && passes (judge t)
