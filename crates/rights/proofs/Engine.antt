-- The engine, level by level: what each function answers is what the decision gives (specs/Decision).
-- A law that is named for a step of the code has what the calls before it promise as premises, in the order in which they come.
use Rattle.std.specs.Prelude.{Some, None, Option, is_none, option_map}
use Rattle.std.specs.List.{find}
use Rattle.std.specs.Fn.{Called}
use Rattle.std.specs.Option.{option_or}
use Rattle.std.proofs.lemmas.Option.{none-some}
use denote.Param.Members.{Mut}
use Prim.Native.Nat.{ℕ}
use mathlib.Core.Bool.{Bool, true, false, not, ◌&&◌}
use mathlib.Core.List.{List, [], ◌∷◌, ◌++◌, map}
use mathlib.Core.Path.{◌≡◌, refl, sym, ap, ap₂, subst, ◌∙◌}
use Rattle.octets.specs.Octets.{member}
use Rattle.octets.proofs.Lists.{by_test}
use Rattle.der.specs.declared.Element.{Element}
use Rattle.der.specs.declared.Compared.TheVariants.{Types, Encodings}
use Rattle.der.specs.Element.{root, encoding, inside, field}
use Rattle.der.specs.Keys.{type_of, key_of}
use Rattle.der.proofs.Keys.{first_key}
use Rattle.rights.specs.declared.decision.Excess.{Excess}
use Rattle.rights.specs.declared.decision.Excess.TheVariants.{Carried, Sourced, Listed, Unlisted}
use Rattle.rights.specs.declared.decision.Lister.{Lister}
use Rattle.rights.specs.declared.decision.Lister.TheVariants.{New, Signer, Nobody}
use Rattle.rights.specs.Rights.{Key, Content, source}
use Rattle.rights.specs.Decision.{oid, integer, fresh, keys, find_some, unlisted, value_outside, attribute_outside, pair_outside, role_outside, one_pair}
use Rattle.rights.specs.Decision.{entry_outside, type_outside, listed_types, unlisted_type, outside, within}
use Rattle.rights.specs.Constraints.{constraints_rights}
use Rattle.rights.specs.Contract.Places.{constraint_for, values_under, any_entry, governing_entry, rights_entry}
use Rattle.rights.specs.Contract.RightsAnswer.{excess_content, judged_content, picked_content, listed_type, content_of}
use Rattle.rights.proofs.Places.{values_under_lem, governing_entry_lem, any_entry_lem, listed_types_lem, constrained_types}
use Rattle.rights.proofs.Searches.{FindMap, find_map_gives}
use Rattle.rights.proofs.Types.{governing-unlisted, neither_lists, unlisted_type-new}

-- one attribute type of two entries

module _ (signer new : List ℕ) (s n : Element) (k : Key) where
  -- what lies outside by this attribute, as a content of some type
  abbrev attribute : Key → Option Content
  attribute type = option_map (one_pair type) (attribute_outside (rights_entry signer s).constraints (rights_entry new n).constraints k)

  module _ {f : Option Element} (h₁ : f ≡ constraint_for signer s k) where
    pub attribute-free : f ≡ None → {r : Option Excess} → r ≡ None → (type : Key) → judged_content signer new type r ≡ attribute type
    unfolding attribute_outside value_outside
    attribute-free g z type = rw (z, values_under_lem signer s k, sym h₁ ∙ g)

    module _ {a : Element} (g₁ : f ≡ Some a) {g : Option Element} (h₂ : g ≡ constraint_for new n k) where
      typed : type_of signer a ≡ k
      unfolding key_of
      typed = first_key Types signer k (inside signer (field 0x30 signer s)) (sym h₁ ∙ g₁)

      pub attribute_open : g ≡ None → {m : ℕ} → m ≡ fresh integer (values_under signer a)
          → (type : Key) → judged_content signer new type (Some (Unlisted a m)) ≡ attribute type
      unfolding excess_content attribute_outside value_outside
      attribute_open g₂ q type = rw (values_under_lem signer s k, values_under_lem new n k, sym h₁ ∙ g₁, sym h₂ ∙ g₂, typed, q)

      module _ {b : Element} (g₂ : g ≡ Some b) (u : Option Element) (h₃ : option_map (encoding new) u ≡ find_some (unlisted (values_under signer a)) (values_under new b)) where
        pub attribute-value : {w : Element} → u ≡ Some w → (type : Key) → judged_content signer new type (Some (Listed a w)) ≡ attribute type
        unfolding excess_content attribute_outside value_outside
        attribute-value q type = rw (values_under_lem signer s k, values_under_lem new n k, sym h₁ ∙ g₁, sym h₂ ∙ g₂, ← h₃, q, typed)

        pub attribute-within : u ≡ None → {r : Option Excess} → r ≡ None → (type : Key) → judged_content signer new type r ≡ attribute type
        unfolding attribute_outside value_outside
        attribute-within q z type = rw (z, values_under_lem signer s k, values_under_lem new n k, sym h₁ ∙ g₁, sym h₂ ∙ g₂, ← h₃, q)

-- the first value that is not listed, as a search

pub unlisted_found : (values : List Key) (new : List ℕ) (l : List Element)
    → option_map (encoding new) (find (λ (e : Element). not (member (encoding new e) values)) l) ≡ find_some (unlisted values) (map (key_of Encodings new) l)
unfolding find_some unlisted key_of
unlisted_found values new [] = refl
unlisted_found values new (e ∷ l) =
    by_test (member (encoding new e) values)
    (λ t. rw (t, unlisted) (unlisted_found values new l))
    (λ t. rw (t, unlisted))

-- of all attribute types that the signer's entry constrains

module _ (signer new : List ℕ) (s n : Element) where
  abbrev of_type : Key → Option (Key × Key)
  of_type = attribute_outside (rights_entry signer s).constraints (rights_entry new n).constraints

  abbrev first_pair : Option (Key × Key)
  first_pair = pair_outside (rights_entry signer s).constraints (rights_entry new n).constraints

  abbrev pair : Key → Option Content
  pair type = option_map (one_pair type) first_pair

  -- r is the pair p, as a content of any type
  abbrev pub Given : Option Excess → Option (Key × Key) → Type 0
  Given r p = (type : Key) → judged_content signer new type r ≡ option_map (one_pair type) p

  pub pair_found : {F : Type 0} {g : Mut F (Element × Unit {0}) (Option Excess)} {f : F} {l u : List Element} (r : Option Excess) → FindMap g l f r u
      → {list : Element} → list ≡ field 0x30 signer s → l ≡ inside signer list
      → ((e : Element) (x : Option Excess) (q : F) → Called g f (e, tt) x q → (q ≡ f) × Given x (of_type (type_of signer e)))
      → Given r first_pair
  unfolding pair_outside key_of
  pair_found r m o w k =
      subst (Given r) (ap (find_some of_type) (sym (constrained_types signer s)))
      (find_map_gives of_type (type_of signer) Given (λ type. refl) as_none not_none k r m (w ∙ ap (inside signer) o))
    where
      as_none : (p : Option (Key × Key)) → Given None p → p ≡ None
      as_none None a = refl
      as_none (Some y) a = absurd (none-some _ (a []))

      not_none : (x : Excess) → Given (Some x) None → ⊥
      not_none x a = none-some _ (sym (a []))

-- of two entries

role_out : (a b : Bool) → b && not a ≡ true → role_outside a b ≡ Some source
unfolding role_outside
role_out true true h = cc
role_out true false h = cc
role_out false true h = refl
role_out false false h = cc

role_in : (a b : Bool) → b && not a ≡ false → role_outside a b ≡ None
unfolding role_outside
role_in true b h = refl
role_in false true h = cc
role_in false false h = refl

module _ (signer new : List ℕ) (a b : Option Element) where
  abbrev entry : Key → Option Content
  entry type = entry_outside type (option_map (rights_entry signer) a) (option_map (rights_entry new) b)

  pub entry-within : b ≡ None → {r : Option Excess} → r ≡ None → (type : Key) → judged_content signer new type r ≡ entry type
  unfolding entry_outside
  entry-within h z type = rw (h, z)

  module _ {n : Element} (h : b ≡ Some n) where
    pub entry_carried : a ≡ None → (type : Key) → judged_content signer new type (Some Carried) ≡ entry type
    unfolding excess_content entry_outside
    entry_carried g type = rw (h, g)

    module _ {s : Element} (g : a ≡ Some s) {c : Bool} (q : c ≡ (rights_entry new n).can_source && not (rights_entry signer s).can_source) where
      pub entry_sourced : c ≡ true → (type : Key) → judged_content signer new type (Some Sourced) ≡ entry type
      unfolding excess_content entry_outside
      entry_sourced r type = rw (h, g, role_out (rights_entry signer s).can_source (rights_entry new n).can_source (sym q ∙ r))

      pub entry-pair : c ≡ false → (j : Option Excess) → ((type : Key) → judged_content signer new type j ≡ pair signer new s n type)
          → (type : Key) → judged_content signer new type j ≡ entry type
      unfolding entry_outside
      entry-pair r j p type = rw (h, g, role_in (rights_entry signer s).can_source (rights_entry new n).can_source (sym q ∙ r)) (p type)

-- of a type, by the entries that govern it

module _ (signer new : List ℕ) where
  abbrev of_content_type : Key → Option Content
  of_content_type = type_outside (constraints_rights signer) (constraints_rights new)

  pub type_governed :
      (k : Key) {a : Option Element} → a ≡ governing_entry signer k → {b : Option Element} → b ≡ governing_entry new k → (r : Option Excess)
      → ((type : Key) → judged_content signer new type r ≡ entry signer new a b type) → judged_content signer new k r ≡ of_content_type k
  unfolding type_outside
  type_governed k p q r h =
      h k
      ∙ ap₂ (λ (x y : Option Element). entry_outside k (option_map (rights_entry signer) x) (option_map (rights_entry new) y)) p q
      ∙ sym (ap₂ (entry_outside k) (governing_entry_lem signer k) (governing_entry_lem new k))

  abbrev found : List ℕ → Option Content
  found v = find_some of_content_type (keys (constraints_rights v))

  -- of the types that v lists
  pub listed_found : (v : List ℕ) {F : Type 0} {g : Mut F (Element × Unit {0}) (Option (Element × Excess))} {f : F} {l u : List Element} (r : Option (Element × Excess))
      → FindMap g l f r u → {list : Element} → list ≡ root v → l ≡ inside v list
      → ((e : Element) (x : Option (Element × Excess)) (q : F) → Called g f (e, tt) x q → (q ≡ f) × (picked_content signer new v x ≡ of_content_type (type_of v e)))
      → picked_content signer new v r ≡ found v
  unfolding key_of
  listed_found v r m o w k =
      find_map_gives of_content_type (type_of v) (λ x c. picked_content signer new v x ≡ c) refl (λ c a. sym a) (λ x a. none-some _ (sym a)) k r m (w ∙ ap (inside v) o)
      ∙ ap (find_some of_content_type) (sym (listed_types_lem v))

find-append : {A : Type 0} (f : Key → Option A) (a b : List Key) → find_some f (a ++ b) ≡ option_or (find_some f a) (find_some f b)
unfolding find_some
find-append f [] b = refl
find-append f (k ∷ a) b = go (f k) (find-append f a b)
  where
    go : (x : Option _) → find_some f (a ++ b) ≡ option_or (find_some f a) (find_some f b) → option_or x (find_some f (a ++ b)) ≡ option_or (option_or x (find_some f a)) (find_some f b)
    go None h = h
    go (Some x) h = refl

-- the whole answer: a type that neither lists, which the anyContentType entries govern, then the types of the new anchor, then those of the signer

module _ (signer new : List ℕ) where
  abbrev nobody : Key
  nobody = unlisted_type (constraints_rights signer) (constraints_rights new)

  nobody_governed : of_content_type signer new nobody ≡ entry signer new (any_entry signer) (any_entry new) nobody
  unfolding type_outside
  nobody_governed =
      let u = neither_lists (constraints_rights signer) (constraints_rights new) nobody (unlisted_type-new (constraints_rights signer) (constraints_rights new)) in
      ap₂ (entry_outside nobody)
      (governing-unlisted (constraints_rights signer) nobody u.1 ∙ any_entry_lem signer)
      (governing-unlisted (constraints_rights new) nobody u.0 ∙ any_entry_lem new)

  abbrev given : Option Content
  given = outside (constraints_rights signer) (constraints_rights new)

  in_turn : given ≡ option_or (of_content_type signer new nobody) (option_or (found signer new new) (found signer new signer))
  unfolding outside find_some listed_types
  in_turn =
      ap (option_or (of_content_type signer new nobody))
      (find-append (of_content_type signer new) (keys (constraints_rights new)) (keys (constraints_rights signer)))

  module _ {p : Option Element} (a : p ≡ any_entry signer) {q : Option Element} (b : q ≡ any_entry new) (r : Option Excess)
      (h : (type : Key) → judged_content signer new type r ≡ entry signer new p q type) where
    at_nobody : judged_content signer new nobody r ≡ of_content_type signer new nobody
    at_nobody =
        h nobody
        ∙ ap₂ (λ (x y : Option Element). entry_outside nobody (option_map (rights_entry signer) x) (option_map (rights_entry new) y)) a b
        ∙ sym nobody_governed

    pub by_nobody : {x : Excess} → r ≡ Some x → {m : ℕ} → m ≡ fresh oid (listed_types (constraints_rights signer) (constraints_rights new))
        → content_of signer new (Some (Nobody m, x)) ≡ given
    unfolding listed_type unlisted_type
    by_nobody e n = rw (in_turn, ← at_nobody, e, n)

    module _ (e : r ≡ None) {r₁ : Option (Element × Excess)} (h₁ : picked_content signer new new r₁ ≡ found signer new new) where
      pub by_new : {k : Element} {x : Excess} → r₁ ≡ Some (k, x) → content_of signer new (Some (New k, x)) ≡ given
      unfolding listed_type
      by_new g = rw (in_turn, ← at_nobody, e, ← h₁, g)

      module _ (e₁ : r₁ ≡ None) {r₂ : Option (Element × Excess)} (h₂ : picked_content signer new signer r₂ ≡ found signer new signer) where
        pub by_signer_lem : {k : Element} {x : Excess} → r₂ ≡ Some (k, x) → content_of signer new (Some (Signer k, x)) ≡ given
        unfolding listed_type
        by_signer_lem g = rw (in_turn, ← at_nobody, e, ← h₁, e₁, ← h₂, g)

        pub by_none : r₂ ≡ None → content_of signer new None ≡ given
        by_none g = rw (in_turn, ← at_nobody, e, ← h₁, e₁, ← h₂, g)

  pub said : (r : Option (Lister × Excess)) → content_of signer new r ≡ given → is_none r ≡ within (constraints_rights signer) (constraints_rights new)
  unfolding within
  said None h = rw (sym h, within)
  said (Some p) h = rw (sym h, within)
