-- The decision, level by level: what it gives passes the new anchor's side and not the signer's; where it gives none, all that passes the one passes the other.
-- No rule on the shape of the rights is used: each level looks up by key, as the definitions do, and takes no list's element for what stands under its key.
use Rattle.std.specs.Prelude.{Option, Some, None, option_map}
use Rattle.std.proofs.lemmas.Option.{none-some, same_Some}
use mathlib.Core.Bool.{Bool, true, false, and-eq-true_iff, false≢true}
use mathlib.Core.List.{List}
use mathlib.Core.Path.{◌≡◌, refl}
use Rattle.octets.specs.Lists.{all_of}
use Rattle.octets.specs.Octets.{member}
use Rattle.octets.proofs.Lists.{by_test, both, all_of_weaken}
use Rattle.rights.specs.Rights.{Key, Role, source, carrier, Content, Constraints, Entry, lookup, may_act, allowed, meets, permits}
use Rattle.rights.specs.Decision.{integer, fresh, keys, unlisted, value_outside, attribute_outside, pair_outside, role_outside, pair_of, no_pair, one_pair}
use Rattle.rights.specs.Decision.{entry_outside}
use Rattle.rights.proofs.Fresh.{fresh-new, integer_differ}
use Rattle.octets.proofs.Options.{map_none, map_some}
use Rattle.rights.proofs.Lookup.{or_else_none, or_else_some, find_some-none, find_some-some, lookup-unlisted}

-- a value

pub unlisted-some : (values : List Key) (w : Key) {v : Key} → unlisted values w ≡ Some v → (w ≡ v) × (member w values ≡ false)
unfolding unlisted
unlisted-some values w {v} e =
    by_test (member w values) (λ t. absurd (none-some v (rw (t, unlisted) at e))) (λ t. let h = rw (t, unlisted) at e in (cc, t))

unlisted-none : (values : List Key) (w : Key) → unlisted values w ≡ None → member w values ≡ true
unfolding unlisted
unlisted-none values w e = by_test (member w values) (λ t. t) (λ t. let h = rw (t, unlisted) at e in cc)

value-some : (signer new : Option (List Key)) {v : Key} → value_outside signer new ≡ Some v → (allowed new v ≡ true) × (allowed signer v ≡ false)
unfolding value_outside allowed
value-some None new {v} e = absurd (none-some v e)
value-some (Some values) None {v} e =
    let h : integer (fresh integer values) ≡ v = cc in
    (refl, rw (← h) (fresh-new integer integer_differ values))
value-some (Some values) (Some ws) {v} e =
    let f = find_some-some (unlisted values) ws e in
    let h = unlisted-some values f.0 f.2 in
    (rw (← h.0) f.1, rw (← h.0) h.1)

value_none : (signer new : Option (List Key)) → value_outside signer new ≡ None → (v : Key) → allowed new v ≡ true → allowed signer v ≡ true
unfolding value_outside allowed
value_none None new e v m = refl
value_none (Some values) None e v m = cc
value_none (Some values) (Some ws) e v m = unlisted-none values v (find_some-none (unlisted values) ws e v m)

-- a pair

attribute-some :
    (signer new : Constraints) (a : Key) {p : Key × Key} → attribute_outside signer new a ≡ Some p → (meets new p ≡ true) × (meets signer p ≡ false)
unfolding attribute_outside meets
attribute-some signer new a e =
    let f = map_some (pair_of a) (value_outside (lookup a signer) (lookup a new)) e in
    rw (← f.2) (value-some (lookup a signer) (lookup a new) f.1)

attribute-none :
    (signer new : Constraints) (a : Key) → attribute_outside signer new a ≡ None → (v : Key) → meets new (pair_of a v) ≡ true → meets signer (pair_of a v) ≡ true
unfolding attribute_outside meets
attribute-none signer new a e =
    value_none (lookup a signer) (lookup a new) (map_none (pair_of a) (value_outside (lookup a signer) (lookup a new)) e)

-- an attribute type that is not constrained takes any value
unconstrained : (signer : Constraints) (p : Key × Key) → member p.0 (keys signer) ≡ false → meets signer p ≡ true
unfolding meets allowed
unconstrained signer p t = rw (lookup-unlisted signer p.0 t)

pair-some : (signer new : Constraints) {p : Key × Key} → pair_outside signer new ≡ Some p → (meets new p ≡ true) × (meets signer p ≡ false)
unfolding pair_outside
pair-some signer new e =
    let f = find_some-some (attribute_outside signer new) (keys signer) e in
    attribute-some signer new f.0 f.2

pair-none : (signer new : Constraints) → pair_outside signer new ≡ None → (p : Key × Key) → meets new p ≡ true → meets signer p ≡ true
unfolding pair_outside
pair-none signer new e p m =
    by_test (member p.0 (keys signer))
    (λ t. attribute-none signer new p.0 (find_some-none (attribute_outside signer new) (keys signer) e p.0 t) p.1 m)
    (unconstrained signer p)

-- a role

role_some : (signer new : Bool) {r : Role} → role_outside signer new ≡ Some r → (may_act r new ≡ true) × (may_act r signer ≡ false)
unfolding role_outside may_act
role_some true new {r} e = absurd (none-some r e)
role_some false true {r} e = rw (← same_Some source r e) (refl, refl)
role_some false false {r} e = absurd (none-some r e)

role_none : (signer new : Bool) → role_outside signer new ≡ None → (r : Role) → may_act r new ≡ true → may_act r signer ≡ true
unfolding role_outside may_act
role_none true new e source m = refl
role_none true new e carrier m = refl
role_none false true e source m = cc
role_none false true e carrier m = refl
role_none false false e source m = m
role_none false false e carrier m = refl

-- an entry

pub entry-some :
    (type : Key) (signer new : Option Entry) {c : Content} → entry_outside type signer new ≡ Some c
    → (c.type ≡ type) × (permits new c ≡ true) × (permits signer c ≡ false)
unfolding entry_outside permits may_act all_of
entry-some type signer None {c} e = absurd (none-some c e)
entry-some type None (Some new) {c} e = rw (← same_Some (no_pair type carrier) c e) (refl, refl, refl)
entry-some type (Some signer) (Some new) e =
    let role = role_outside signer.can_source new.can_source in
    let pair = pair_outside signer.constraints new.constraints in
    or_else_some (option_map (no_pair type) role) (option_map (one_pair type) pair) e
    (λ h.
    let f = map_some (no_pair type) role h in
    let r = role_some signer.can_source new.can_source f.1 in
    rw (← f.2) (refl, both r.0 refl, rw r.1))
    (λ h.
    let f = map_some (one_pair type) pair h in
    let r = pair-some signer.constraints new.constraints f.1 in
    rw (← f.2) (refl, both r.0 refl, rw r.1))

pub entry-none : (type : Key) (signer new : Option Entry) → entry_outside type signer new ≡ None → (c : Content) → permits new c ≡ true → permits signer c ≡ true
unfolding entry_outside permits
entry-none type signer None e c m = absurd (false≢true m)
entry-none type None (Some new) e c m = cc
entry-none type (Some signer) (Some new) e c m =
    let role = role_outside signer.can_source new.can_source in
    let pair = pair_outside signer.constraints new.constraints in
    let o = or_else_none (option_map (no_pair type) role) (option_map (one_pair type) pair) e in
    let h = (and-eq-true_iff (may_act c.role new.can_source) (all_of (meets new.constraints) c.attributes)).0 m in
    both
    (role_none signer.can_source new.can_source (map_none (no_pair type) role o.0) c.role h.0)
    (all_of_weaken
    (meets new.constraints)
    (meets signer.constraints)
    (pair-none signer.constraints new.constraints (map_none (one_pair type) pair o.1))
    c.attributes
    h.1)
