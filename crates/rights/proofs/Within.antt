-- The theorems on rights: the decision answers for all contents, the apex authorises everything, an identity anchor nothing.
use Rattle.std.specs.Prelude.{Option, Some, None}
use mathlib.Core.Bool.{true, false, true≢false}
use mathlib.Core.List.{[], ◌∷◌}
use mathlib.Core.Logic.{◌↔◌}
use mathlib.Core.Path.{◌≡◌, refl, sym, ◌∙◌}
use Rattle.octets.specs.Octets.{same, member}
use Rattle.octets.proofs.Lists.{by_test, both, same_refl, all_of_always, member_head, member_tail}
use Rattle.rights.specs.Rights.{Role, source, carrier, Content, Rights, any_content_type, lookup, governing, may_act, allowed, meets, permits, authorises}
use Rattle.rights.specs.Rights.{free, everything, nothing, Within, Outside}
use Rattle.rights.specs.Decision.{type_outside, listed_types, unlisted_type, outside, within}
use Rattle.rights.proofs.Lookup.{find_some-none, find_some-some}
use Rattle.rights.proofs.Types.{type_some, type_none, same-governing}

module _ (signer new : Rights) where
  -- what `outside` gives lies outside
  pub outside-some : {c : Content} → outside signer new ≡ Some c → (authorises new c ≡ true) × (authorises signer c ≡ false)
  unfolding outside
  outside-some e =
      let f = find_some-some (type_outside signer new) (unlisted_type signer new ∷ listed_types signer new) e in
      type_some signer new f.0 f.2

  -- where it gives none, no content does
  pub outside-none : outside signer new ≡ None → Within signer new
  unfolding outside authorises
  outside-none e c m =
      let u = unlisted_type signer new in
      let l = listed_types signer new in
      let at = find_some-none (type_outside signer new) (u ∷ l) e in
      by_test (member c.type l)
      (λ t. type_none signer new c.type (at c.type (member_tail c.type u l t)) c m)
      (λ t.
      let g = same-governing signer new c.type t in
      rw g.0 (type_none signer new u (at u (member_head u l)) c (rw g.1 at m)))

  pub not-both : {P : Type 0} → Within signer new → Outside signer new → P
  not-both w o = absurd (true≢false (sym (w o.0 o.1) ∙ o.2))

  -- the decision's two answers, each with what it tells
  answer : {P : Type 0} → (within signer new ≡ true → Within signer new → P) → (within signer new ≡ false → Outside signer new → P) → P
  unfolding within
  answer {P} f g = go (outside signer new) refl
    where
      go : (o : Option Content) → outside signer new ≡ o → P
      go None e = f (rw (e, within)) (outside-none e)
      go (Some c) e = let h = outside-some e in g (rw (e, within)) (c, h.0, h.1)

  -- the decision says yes exactly where the new anchor is within the signer
  pub within_iff : (within signer new ≡ true) ↔ Within signer new
  within_iff = answer (λ t w. (λ _. w, λ _. t)) (λ f o. (λ t. absurd (true≢false (sym t ∙ f)), λ w. not-both w o))

  -- it says no exactly where a content lies outside
  pub outside_iff : (within signer new ≡ false) ↔ Outside signer new
  outside_iff = answer (λ t w. (λ f. absurd (true≢false (sym t ∙ f)), λ o. not-both w o)) (λ f o. (λ _. o, λ _. f))

  -- what the signer does not authorise, an anchor within it does not
  pub below : (c : Content) → within signer new ≡ true → authorises signer c ≡ false → authorises new c ≡ false
  below c w f = by_test (authorises new c) (λ t. absurd (true≢false (sym (within_iff.0 w c t) ∙ f))) (λ e. e)

-- "The apex authorises everything."
pub apex : (c : Content) → authorises everything c ≡ true
unfolding authorises everything governing lookup permits may_act meets allowed
apex c =
    let any : lookup any_content_type everything ≡ Some free = rw (same_refl any_content_type, lookup) in
    let governs : governing everything c.type ≡ Some free = by_test (same c.type any_content_type) (λ t. rw (t, lookup)) (λ t. rw (t, lookup) any) in
    rw governs (both (acts c.role) (all_of_always (meets []) (λ p. refl) c.attributes))
  where
    acts : (r : Role) → may_act r true ≡ true
    acts source = refl
    acts carrier = refl

-- "An anchor with no extension authorises nothing."
pub identity : (c : Content) → authorises nothing c ≡ false
unfolding authorises nothing governing lookup permits
identity c = refl

pub within-everything : (new : Rights) → within everything new ≡ true
within-everything new = (within_iff everything new).1 (λ c t. apex c)
