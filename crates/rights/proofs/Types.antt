-- The decision over all content types: those that are listed, and one that stands for all others.
use Rattle.std.specs.Prelude.{Some, None}
use mathlib.Core.Bool.{true, false}
use mathlib.Core.Path.{◌≡◌, sym, ap, ◌∙◌}
use Rattle.octets.specs.Octets.{member}
use Rattle.octets.proofs.Lists.{neither, member-append}
use Rattle.rights.specs.Rights.{Key, Content, Rights, any_content_type, lookup, governing, permits, authorises}
use Rattle.rights.specs.Decision.{oid, keys, type_outside, listed_types, unlisted_type}
use Rattle.rights.proofs.Fresh.{fresh-new, oid_differ}
use Rattle.rights.proofs.Lookup.{lookup-unlisted}
use Rattle.rights.proofs.Outside.{entry-some, entry-none}

pub governing-unlisted : (rights : Rights) (type : Key) → member type (keys rights) ≡ false → governing rights type ≡ lookup any_content_type rights
unfolding governing
governing-unlisted rights type t = rw (lookup-unlisted rights type t)

module _ (signer new : Rights) where
  -- what neither lists, the signer does not list, nor does the new anchor
  pub neither_lists : (type : Key) → member type (listed_types signer new) ≡ false → (member type (keys new) ≡ false) × (member type (keys signer) ≡ false)
  unfolding listed_types
  neither_lists type t =
      neither (member type (keys new)) (member type (keys signer)) (sym (member-append type (keys new) (keys signer)) ∙ t)

  pub unlisted_type-new : member (unlisted_type signer new) (listed_types signer new) ≡ false
  unfolding unlisted_type
  unlisted_type-new = fresh-new oid oid_differ (listed_types signer new)

  pub type_some : (type : Key) {c : Content} → type_outside signer new type ≡ Some c → (authorises new c ≡ true) × (authorises signer c ≡ false)
  unfolding type_outside authorises
  type_some type {c} e =
      let h = entry-some type (governing signer type) (governing new type) e in
      let at : (rights : Rights) → authorises rights c ≡ permits (governing rights type) c = λ rights. ap (λ t. permits (governing rights t) c) h.0 in
      (at new ∙ h.1, at signer ∙ h.2)

  pub type_none :
      (type : Key) → type_outside signer new type ≡ None → (c : Content) → permits (governing new type) c ≡ true → permits (governing signer type) c ≡ true
  unfolding type_outside
  type_none type = entry-none type (governing signer type) (governing new type)

  -- the entries that govern a type that neither lists are those that govern `unlisted_type`
  pub same-governing :
      (type : Key) → member type (listed_types signer new) ≡ false
      → (governing signer type ≡ governing signer (unlisted_type signer new)) × (governing new type ≡ governing new (unlisted_type signer new))
  same-governing type t =
      let a = neither_lists type t in
      let b = neither_lists (unlisted_type signer new) unlisted_type-new in (
        governing-unlisted signer type a.1 ∙ sym (governing-unlisted signer (unlisted_type signer new) b.1),
        governing-unlisted new type a.0 ∙ sym (governing-unlisted new (unlisted_type signer new) b.0),
      )
