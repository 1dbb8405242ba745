-- The content that the decision gives is a valid one, where the keys of both anchors' rights are valid and within the limits of 01: its type and value are listed, or made with a small number.
use Rattle.std.specs.Prelude.{Option, Some, None, option_map}
use Rattle.std.proofs.lemmas.Option.{none-some}
use Prim.Native.Nat.{ℕ, ◌≤◌}
use native.Mathlib.Omega.{arith}
use mathlib.Core.Bool.{true, false, ◌&&◌, true≢false, false≢true}
use mathlib.Core.List.{List, [], ◌∷◌}
use mathlib.Core.Path.{◌≡◌, refl, sym, ◌∙◌}
use lib.ListN.{length}
use borrow.Author.Tests.{lt-ltb, ne_eqb}
use Rattle.octets.specs.Limits.{max_entries, max_values}
use Rattle.octets.specs.Lists.{all_of, any_of}
use Rattle.octets.specs.Number.{number_from}
use Rattle.octets.specs.Octets.{same, member}
use Rattle.octets.proofs.Lists.{by_test, both, member_cases, member-append}
use Rattle.der.specs.Contents.{integer_ok, arcs_ok, oid_ok, contents_ok}
use Rattle.der.specs.Element.{length_at, length_shortest, headed, element_at}
use Rattle.der.specs.Fit.{and_then, held}
use Rattle.der.specs.Check.{der, spans}
use Rattle.syntax.proofs.Each.{Every}
use Rattle.rights.specs.Rights.{Key, carrier, Content, Constraints, Entry, Rights, any_content_type, lookup, governing}
use Rattle.rights.specs.Decision.{oid, integer, fresh, keys, unlisted, value_outside, attribute_outside, pair_of, pair_outside, role_outside, no_pair, one_pair}
use Rattle.rights.specs.Decision.{entry_outside, type_outside, listed_types, unlisted_type, outside, within}
use Rattle.rights.specs.Valid.{is_type, is_value, valid_content, ValidOutside}
use Rattle.rights.proofs.Fresh.{unlisted_type_small, unlisted_value_small}
use Rattle.rights.proofs.Lookup.{or_else_some, find_some-some}
use Rattle.rights.proofs.Outside.{unlisted-some}
use Rattle.octets.proofs.Options.{map_some}
use Rattle.rights.proofs.Within.{outside-some}

-- an attribute constraint whose type and values are valid, and one with few values
abbrev pub ValidAttribute : Key × List Key → Type 0
ValidAttribute a = (is_type a.0 ≡ true) × Every (λ v. is_value v ≡ true) a.1

abbrev pub Few : Key × List Key → Type 0
Few a = length a.1 ≤ max_values

-- an entry's constraints
abbrev ValidConstraints : Constraints → Type 0
ValidConstraints l = Every ValidAttribute l × Every Few l

abbrev pub ValidEntry : Key × Entry → Type 0
ValidEntry e = (is_type e.0 ≡ true) × Every ValidAttribute e.1.constraints

-- rights whose keys are valid, within the limits of 01
pub record ValidRights (rights : Rights) : Type 0 where
  pub keyed : Every ValidEntry rights
  pub few : Every (λ e. Every Few e.1.constraints) rights
  pub entries : length rights ≤ max_entries

-- a member of a list has what every member has; so has what stands under a key
every_member : (P : Key → Type 0) (l : List Key) (k : Key) → Every P l → member k l ≡ true → P k
unfolding member any_of
every_member P [] k h m = absurd (false≢true m)
every_member P (x ∷ l) k h m = member_cases k x l m (λ q. rw q h.0) (every_member P l k h.1)

module _ {A : Type 0} (P : Key × A → Type 0) where
  every_key : (Q : Key → Type 0) → ((e : Key × A) → P e → Q e.0) → (l : List (Key × A)) → Every P l → Every Q (keys l)
  unfolding keys
  every_key Q f [] h = tt
  every_key Q f (e ∷ l) h = (f e h.0, every_key Q f l h.1)

  every_lookup : (l : List (Key × A)) (k : Key) {x : A} → Every P l → lookup k l ≡ Some x → (j : Key) × P (j, x)
  unfolding lookup
  every_lookup [] k {x} h e = absurd (none-some x e)
  every_lookup (p ∷ l) k {x} h e =
      by_test (same k p.0)
      (λ t. let q : p.1 ≡ x = (let s = rw (t, lookup) at e in cc) in (p.0, rw (← q) h.0))
      (λ t. every_lookup l k h.1 (rw (t, lookup) at e))

-- the keys that are made

small_type : (n : ℕ) → n ≤ 32 → is_type (oid n) ≡ true
unfolding is_type oid_ok arcs_ok oid all_of
small_type n h = rw (lt-ltb n 256 (omega arith), ne_eqb n 128 (λ e. omega arith), lt-ltb n 128 (omega arith))

small_value : (n : ℕ) → n ≤ 4 → is_value (integer n) ≡ true
unfolding is_value integer all_of spans der element_at headed length_at number_from length_shortest contents_ok integer_ok and_then held
small_value n h = rw (lt-ltb n 256 (omega arith))

-- the decision, level by level

valid_value : (signer new : Constraints) (a : Key) {v : Key} → ValidConstraints signer → ValidConstraints new
    → value_outside (lookup a signer) (lookup a new) ≡ Some v → is_value v ≡ true
unfolding value_outside
valid_value signer new a {v} hs hn e = go (lookup a signer) (lookup a new) refl refl e
  where
    go : (s n : Option (List Key)) → lookup a signer ≡ s → lookup a new ≡ n → value_outside s n ≡ Some v → is_value v ≡ true
    go None n p q e = absurd (none-some v e)
    go (Some values) None p q e =
        let h : integer (fresh integer values) ≡ v = cc in
        rw (← h) (small_value (fresh integer values) (unlisted_value_small values (every_lookup Few signer a hs.1 p).1))
    go (Some values) (Some ws) p q e =
        let f = find_some-some (unlisted values) ws e in
        rw (← (unlisted-some values f.0 f.2).0) (every_member _ ws f.0 (every_lookup ValidAttribute new a hn.0 q).1.1 f.1)

valid_pair : (signer new : Constraints) {p : Key × Key} → ValidConstraints signer → ValidConstraints new → pair_outside signer new ≡ Some p
    → is_type p.0 && is_value p.1 ≡ true
unfolding pair_outside attribute_outside
valid_pair signer new {p} hs hn e =
    let f = find_some-some (attribute_outside signer new) (keys signer) e in
    let v = map_some (pair_of f.0) (value_outside (lookup f.0 signer) (lookup f.0 new)) f.2 in
    rw (← v.2)
    (both
    (every_member _ (keys signer) f.0 (every_key ValidAttribute (λ k. is_type k ≡ true) (λ a h. h.0) signer hs.0) f.1)
    (valid_value signer new f.0 hs hn v.1))

valid_entry : (type : Key) (signer new : Option Entry) {c : Content} → is_type type ≡ true
    → ((e : Entry) → signer ≡ Some e → ValidConstraints e.constraints) → ((e : Entry) → new ≡ Some e → ValidConstraints e.constraints)
    → entry_outside type signer new ≡ Some c → valid_content c ≡ true
unfolding entry_outside valid_content all_of
valid_entry type signer None {c} t hs hn e = absurd (none-some c e)
valid_entry type None (Some new) {c} t hs hn e = let q : no_pair type carrier ≡ c = cc in rw (← q) (both t refl)
valid_entry type (Some signer) (Some new) t hs hn e =
    let role = role_outside signer.can_source new.can_source in
    let pair = pair_outside signer.constraints new.constraints in
    or_else_some (option_map (no_pair type) role) (option_map (one_pair type) pair) e
    (λ h. let f = map_some (no_pair type) role h in rw (← f.2) (both t refl))
    (λ h.
    let f = map_some (one_pair type) pair h in
    rw (← f.2) (both t (both (valid_pair signer.constraints new.constraints (hs signer refl) (hn new refl) f.1) refl)))

module _ (signer new : Rights) (vs : ValidRights signer) (vn : ValidRights new) where
  -- the entry that governs a type
  governs : (rights : Rights) → ValidRights rights → (type : Key) (e : Entry) → governing rights type ≡ Some e → ValidConstraints e.constraints
  unfolding governing
  governs rights v type e q =
      let at : (k : Key) → lookup k rights ≡ Some e → ValidConstraints e.constraints = λ k h.
      ((every_lookup _ rights k v.keyed h).1.1, (every_lookup _ rights k v.few h).1) in
      or_else_some (lookup type rights) (lookup any_content_type rights) q (at type) (at any_content_type)

  valid_type : (k : Key) → member k (unlisted_type signer new ∷ listed_types signer new) ≡ true → is_type k ≡ true
  unfolding unlisted_type listed_types
  valid_type k m =
      let listed : (rights : Rights) → ValidRights rights → member k (keys rights) ≡ true → is_type k ≡ true =
      λ rights v. every_member _ (keys rights) k (every_key _ (λ j. is_type j ≡ true) (λ e h. h.0) rights v.keyed)
      in
      member_cases k (unlisted_type signer new) (listed_types signer new) m
      (λ q. rw q (small_type _ (unlisted_type_small signer new vs.entries vn.entries)))
      (λ m.
      by_test (member k (keys new))
      (λ t. listed new vn t)
      (λ t. listed signer vs (rw t at (sym (member-append k (keys new) (keys signer)) ∙ m))))

  -- where the new anchor is not within the signer, a valid content lies outside
  pub valid_outside : within signer new ≡ false → ValidOutside signer new
  unfolding within outside type_outside
  valid_outside w = go (outside signer new) refl
    where
      go : (o : Option Content) → outside signer new ≡ o → ValidOutside signer new
      go None e = absurd (true≢false (rw (e, within) at w))
      go (Some c) e =
          let f = find_some-some (type_outside signer new) (unlisted_type signer new ∷ listed_types signer new) e in
          let k = f.0 in
          let h = outside-some signer new e in
          (c, valid_entry k (governing signer k) (governing new k) (valid_type k f.1) (governs signer vs k) (governs new vn k) f.2, h.0, h.1)
