-- Rights read in place: which elements of the octets answer, and what stands there.
use Rattle.std.specs.Prelude.{ℕ, Bool, true, false, List, Option}
use Rattle.std.specs.Option.{option_or}
use Rattle.der.specs.declared.Element.{Element}
use Rattle.der.specs.declared.Compared.TheVariants.{Types, Encodings}
use Rattle.der.specs.Element.{root, encoding, inside, field}
use Rattle.der.specs.Keys.{type_of, keys_in, first_with}
use Rattle.rights.specs.Rights.{Key, Entry, any_content_type, meets}
use Rattle.rights.specs.Constraints.{content_type_constraint}
use Rattle.rights.specs.Attributes.{attr_value, is_other_attribute}

-- the constraint of an attribute type in an entry, and the values that it lists, each the whole element
abbrev pub constraint_for : List ℕ → Element → Key → Option Element
constraint_for v entry type = first_with Types v type (inside v (field 0x30 v entry))

abbrev pub values_under : List ℕ → Element → List Key
values_under v constraint = keys_in Encodings v (field 0x31 v constraint)

-- the entry of a type
abbrev pub entry_for : List ℕ → Key → Option Element
entry_for v type = first_with Types v type (inside v (root v))

-- the anyContentType entry
unfoldable pub any_entry : List ℕ → Option Element
any_entry v = entry_for v any_content_type

-- 01, Rights: "The governing entry is the one for the content's type, else the anyContentType entry, else none."
abbrev pub governing_entry : List ℕ → Key → Option Element
governing_entry v type = option_or (entry_for v type) (any_entry v)

-- an entry
abbrev pub rights_entry : List ℕ → Element → Entry
rights_entry v e = (content_type_constraint v e).1

-- one signed attribute against an entry: it is weighed only if it is neither content-type nor message-digest
unfoldable pub attribute_meets : Entry → List ℕ → Element → Bool
attribute_meets entry s e = elim (is_other_attribute s e) [ true ↦ meets entry.constraints (type_of s e, encoding s (attr_value s e)) | false ↦ true ]
