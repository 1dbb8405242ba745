-- Entries and attribute constraints by their types: what the code finds in place is what stands under the type in the rights that the octets give.
-- A law that is named for a step of the code has what the calls before it promise as premises, in the order in which they come.
use Rattle.std.specs.Prelude.{Option, Some, None, option_map}
use Rattle.std.specs.Option.{option_or}
use Prim.Native.Nat.{ℕ}
use mathlib.Core.Bool.{false}
use mathlib.Core.List.{List, [], ◌∷◌, map}
use mathlib.Core.Path.{◌≡◌, refl, sym, ap₂, ◌∙◌}
use Rattle.octets.specs.Octets.{same, member}
use Rattle.octets.proofs.Lists.{by_test, member-append}
use Rattle.der.specs.declared.Element.{Element}
use Rattle.der.specs.declared.Compared.TheVariants.{Types}
use Rattle.der.specs.Element.{root, inside, field}
use Rattle.der.specs.Keys.{type_of, key_of, keys_in, first_with}
use Rattle.rights.specs.Rights.{Key, Rights, any_content_type, lookup, governing}
use Rattle.rights.specs.Decision.{keys, listed_types}
use Rattle.rights.specs.Constraints.{attr_constraint, content_type_constraint, constraints_rights}
use Rattle.rights.specs.Contract.Places.{constraint_for, values_under, entry_for, any_entry, governing_entry, rights_entry}

-- what is made of elements by their types: the first of a type holds what stands under the type, and the types are the keys
module _ {A : Type 0} (v : List ℕ) (f : Element → Key × A) (typed : (e : Element) → (f e).0 ≡ type_of v e) where
  first_lookup : (k : Key) (l : List Element) → lookup k (map f l) ≡ option_map (λ e. (f e).1) (first_with Types v k l)
  unfolding lookup first_with key_of
  first_lookup k [] = refl
  first_lookup k (e ∷ l) =
      by_test (same k (type_of v e))
      (λ t. rw (typed e, t, lookup, first_with))
      (λ t. rw (typed e, t, lookup, first_with) (first_lookup k l))

  keys_typed : (l : List Element) → keys (map f l) ≡ map (key_of Types v) l
  unfolding keys key_of
  keys_typed [] = refl
  keys_typed (e ∷ l) = ap₂ ◌∷◌ (typed e) (keys_typed l)

-- the types of entries, and those that an entry constrains

pub listed_types_lem : (v : List ℕ) → keys (constraints_rights v) ≡ keys_in Types v (root v)
unfolding constraints_rights content_type_constraint
listed_types_lem v = keys_typed v (content_type_constraint v) (λ e. refl) (inside v (root v))

pub constrained_types : (v : List ℕ) (entry : Element) → keys (rights_entry v entry).constraints ≡ keys_in Types v (field 0x30 v entry)
unfolding content_type_constraint attr_constraint
constrained_types v entry = keys_typed v (attr_constraint v) (λ e. refl) (inside v (field 0x30 v entry))

-- the values that stand under an attribute type in an entry
pub values_under_lem : (v : List ℕ) (entry : Element) (k : Key) → lookup k (rights_entry v entry).constraints ≡ option_map (values_under v) (constraint_for v entry k)
unfolding content_type_constraint attr_constraint key_of
values_under_lem v entry k = first_lookup v (attr_constraint v) (λ e. refl) k (inside v (field 0x30 v entry))

-- the entry that governs a type

entry_under : (v : List ℕ) (k : Key) → lookup k (constraints_rights v) ≡ option_map (rights_entry v) (entry_for v k)
unfolding constraints_rights content_type_constraint
entry_under v k = first_lookup v (content_type_constraint v) (λ e. refl) k (inside v (root v))

pub any_entry_lem : (v : List ℕ) → lookup any_content_type (constraints_rights v) ≡ option_map (rights_entry v) (any_entry v)
unfolding any_entry
any_entry_lem v = entry_under v any_content_type

pub governing_entry_lem : (v : List ℕ) (k : Key) → governing (constraints_rights v) k ≡ option_map (rights_entry v) (governing_entry v k)
unfolding governing
governing_entry_lem v k = ap₂ option_or (entry_under v k) (any_entry_lem v) ∙ sym (either (entry_for v k) (any_entry v))
  where
    either : (a b : Option Element) → option_map (rights_entry v) (option_or a b) ≡ option_or (option_map (rights_entry v) a) (option_map (rights_entry v) b)
    either (Some e) b = refl
    either None b = refl

-- a type that the new anchor does not list is listed if the signer lists it
pub listed-by_signer : (signer new : Rights) (k : Key) → member k (keys new) ≡ false → member k (listed_types signer new) ≡ member k (keys signer)
unfolding listed_types
listed-by_signer signer new k h = member-append k (keys new) (keys signer) ∙ rw h
