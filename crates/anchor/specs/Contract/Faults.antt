-- What content constraints break of 34 and 17, found in one pass over them: an equal account of those tests of Judge that read the rights.
use Rattle.std.specs.Prelude.{ℕ, Bool, false, not, ◌&&◌, ◌||◌, List, [], ◌∷◌, length, ltb, eqb}
use Rattle.octets.specs.Limits.{max_entries, max_attributes, max_values, max_value_octets}
use Rattle.octets.specs.Lists.{any_of}
use Rattle.octets.specs.Octets.{same, distinct}
use Rattle.der.specs.declared.Element.{Element}
use Rattle.der.specs.Element.{encoding}
use Rattle.rights.specs.Rights.{Key, Entry, Rights, any_content_type}
use Rattle.anchor.specs.declared.faults.Faults.{Faults}
use Rattle.anchor.specs.Info.{critical, is_constraints}
use Rattle.anchor.specs.Judge.{types_in}

-- the tests that are made of each member of a run: 17, a value over the limit; 34, "a critical one but content constraints"

abbrev pub is_long : List ℕ → Element → Bool
is_long s e = ltb max_value_octets (length (encoding s e))

abbrev pub is_other_critical : List ℕ → Element → Bool
is_other_critical t e = critical t e && not (is_constraints t e)

abbrev pub no_faults : Faults
no_faults = record { repeated = false; unlike = false; entries = false; attributes = false; values = false; octets = false }

-- the faults of two parts together
unfoldable pub together : Faults → Faults → Faults
together a b =
    record {
      repeated = a.repeated || b.repeated;
      unlike = a.unlike || b.unlike;
      entries = a.entries || b.entries;
      attributes = a.attributes || b.attributes;
      values = a.values || b.values;
      octets = a.octets || b.octets;
    }

module _ {A : Type 0} where
  unfoldable pub faults_in : (A → Faults) → List A → Faults
  faults_in f [] = no_faults
  faults_in f (x ∷ l) = together (f x) (faults_in f l)

unfoldable pub attribute_faults : Key × List Key → Faults
attribute_faults a =
    record {
      repeated = not (distinct a.1);
      unlike = false;
      entries = false;
      attributes = false;
      values = ltb max_values (length a.1);
      octets = any_of (λ v. ltb max_value_octets (length v)) a.1;
    }

-- 34, "an anyContentType entry unlike Rights"
unfoldable pub is_unlike : Key × Entry → Bool
is_unlike e = same e.0 any_content_type && not (e.1.can_source && eqb (length e.1.constraints) 0)

unfoldable pub entry_faults : Key × Entry → Faults
entry_faults e =
    together
    (record {
      repeated = not (distinct (types_in e.1.constraints));
      unlike = is_unlike e;
      entries = false;
      attributes = ltb max_attributes (length e.1.constraints);
      values = false;
      octets = false;
    })
    (faults_in attribute_faults e.1.constraints)

unfoldable pub rights_faults : Rights → Faults
rights_faults r =
    together
    (record
    { repeated = not (distinct (types_in r)); unlike = false; entries = ltb max_entries (length r); attributes = false; values = false; octets = false })
    (faults_in entry_faults r)
