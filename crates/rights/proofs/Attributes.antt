-- Status 11: which signed attributes are weighed, what each asks of the governing entry, and what the anchor authorises.
use Rattle.std.specs.Prelude.{Option, Some, None, MatchOption, option_map}
use Prim.Native.Nat.{ℕ}
use mathlib.Core.Bool.{Bool, true, false, not, ◌&&◌}
use mathlib.Core.List.{List, [], ◌∷◌, map}
use mathlib.Core.Path.{◌≡◌, refl, sym, ap, ◌∙◌}
use borrow.Author.Tests.{not-true, not-false}
use Rattle.octets.specs.Lists.{all_of, filter}
use Rattle.octets.specs.Octets.{same, member}
use Rattle.octets.specs.Number.{digits}
use Rattle.octets.proofs.Lists.{by_test, keep_in, keep_out}
use Rattle.der.specs.declared.Element.{Element}
use Rattle.der.specs.Element.{encoding, inside}
use Rattle.der.specs.Keys.{type_of}
use Rattle.der.specs.Oid.{arc, arcs, oid}
use Rattle.syntax.specs.Types.{id_content_type, id_message_digest}
use Rattle.rights.specs.Rights.{Key, Entry, Role, Content, may_act, allowed, meets, permits, authorises}
use Rattle.rights.specs.Constraints.{constraints_rights}
use Rattle.rights.specs.Attributes.{attr_value, is_other_attribute, pairs}
use Rattle.rights.specs.Contract.Places.{constraint_for, values_under, governing_entry, rights_entry, attribute_meets}
use Rattle.rights.proofs.Places.{values_under_lem, governing_entry_lem}

-- the two types that are not weighed, as the code's constants have them

abbrev pub content_type_octets : List ℕ
content_type_octets = 0x2A ∷ 0x86 ∷ 0x48 ∷ 0x86 ∷ 0xF7 ∷ 0x0D ∷ 0x01 ∷ 0x09 ∷ 0x03 ∷ []

abbrev pub message_digest_octets : List ℕ
message_digest_octets = 0x2A ∷ 0x86 ∷ 0x48 ∷ 0x86 ∷ 0xF7 ∷ 0x0D ∷ 0x01 ∷ 0x09 ∷ 0x04 ∷ []

content_type_is : content_type_octets ≡ id_content_type
unfolding oid arcs arc digits
content_type_is = refl

message_digest_is : message_digest_octets ≡ id_message_digest
unfolding oid arcs arc digits
message_digest_is = refl

module _ (s : List ℕ) (e : Element) {t : List ℕ} (q : t ≡ type_of s e) {r : Bool} (h : r ≡ same t content_type_octets) where
  is_type : r ≡ same (type_of s e) id_content_type
  is_type = h ∙ ap (same t) content_type_is ∙ ap (λ (x : List ℕ). same x id_content_type) q

  pub content_type : r ≡ true → false ≡ is_other_attribute s e
  unfolding is_other_attribute
  content_type b = rw (sym is_type ∙ b)

  pub other_type : r ≡ false → {u : List ℕ} → u ≡ type_of s e → {d : Bool} → d ≡ same u message_digest_octets → not d ≡ is_other_attribute s e
  unfolding is_other_attribute
  other_type b {u} w {d} k =
      let g : d ≡ same (type_of s e) id_message_digest = k ∙ ap (same u) message_digest_is ∙ ap (λ (x : List ℕ). same x id_message_digest) w in
      rw (sym is_type ∙ b, g)

-- one attribute, and the governing entry

module _ (v : List ℕ) (entry : Element) (s : List ℕ) (e : Element) {b : Bool} (w : b ≡ is_other_attribute s e) where
  pub not_weighed : not b ≡ true → true ≡ attribute_meets (rights_entry v entry) s e
  unfolding attribute_meets
  not_weighed n = let h = sym w ∙ not-true b n in rw (h, attribute_meets)

  module _ (n : not b ≡ false) {t : Key} (y : t ≡ type_of s e) {f : Option Element} (h : f ≡ constraint_for v entry t) where
    weighed_meets : {x : Option Element} → f ≡ x → attribute_meets (rights_entry v entry) s e ≡ allowed (option_map (values_under v) x) (encoding s (attr_value s e))
    unfolding attribute_meets meets
    weighed_meets g =
        let k = sym w ∙ not-false b n in
        let u = sym (h ∙ ap (constraint_for v entry) y) ∙ g in
        rw (k, attribute_meets, values_under_lem v entry (type_of s e), u)

    pub not_constrained : f ≡ None → true ≡ attribute_meets (rights_entry v entry) s e
    unfolding allowed
    not_constrained g = sym (weighed_meets g)

    pub constrained : {a : Element} → f ≡ Some a → {z : Key} → z ≡ encoding s (attr_value s e) → {r : Bool} → r ≡ member z (values_under v a)
        → r ≡ attribute_meets (rights_entry v entry) s e
    unfolding allowed
    constrained {a} g j k = k ∙ ap (λ (z : Key). member z (values_under v a)) j ∙ sym (weighed_meets g)

-- the pairs that the signed attributes are

pairs-kept :
    (entry : Entry) (s : List ℕ) (l : List Element)
    → all_of (meets entry.constraints) (map (λ e. (type_of s e, encoding s (attr_value s e))) (filter (is_other_attribute s) l)) ≡ all_of (attribute_meets entry s) l
unfolding all_of filter attribute_meets
pairs-kept entry s [] = refl
pairs-kept entry s (e ∷ l) =
    let rest = pairs-kept entry s l in
    by_test (is_other_attribute s e)
    (λ t. rw (keep_in (is_other_attribute s) e l t, t, attribute_meets) (ap (λ (b : Bool). meets entry.constraints (type_of s e, encoding s (attr_value s e)) && b) rest))
    (λ t. rw (keep_out (is_other_attribute s) e l t, t, attribute_meets) rest)

pairs_meet :
    (entry : Entry) (s : List ℕ) (attributes : Element)
    → all_of (meets entry.constraints) (pairs s attributes) ≡ all_of (attribute_meets entry s) (inside s attributes)
unfolding pairs
pairs_meet entry s attributes = pairs-kept entry s (inside s attributes)

-- the content of a message, as its source's or a carrier's
abbrev pub message_content : Role → Key → List ℕ → Element → Content
message_content role k s attributes = record { type = k; role = role; attributes = pairs s attributes }

-- the code's answer r: false where no entry governs, else what P says of the entry that does
module _ (v : List ℕ) (k : Key) (s : List ℕ) (attributes : Element) {f : Option Element} (h : f ≡ governing_entry v k) (role : Role) {r : Bool} {P : Element → Type 0} where
  pub governed : MatchOption f (r ≡ false) P
      → ((e : Element) → P e → r ≡ may_act role (rights_entry v e).can_source && all_of (attribute_meets (rights_entry v e) s) (inside s attributes))
      → r ≡ authorises (constraints_rights v) (message_content role k s attributes)
  unfolding authorises permits
  governed m p = go f refl m
    where
      go : (x : Option Element) → f ≡ x → MatchOption x (r ≡ false) P → r ≡ authorises (constraints_rights v) (message_content role k s attributes)
      go None g m = m ∙ sym (rw (governing_entry_lem v k, sym h ∙ g))
      go (Some e) g m = p e m ∙ sym (rw (governing_entry_lem v k, sym h ∙ g, pairs_meet (rights_entry v e) s attributes))
