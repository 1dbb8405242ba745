-- 02, E3: what the rows 1 to 8 charge is an identifier octet of the message's element, but that 1 charges octets behind it too.
use Rattle.std.specs.Prelude.{Ok, Err}
use Prim.Native.Nat.{ℕ, ◌<◌}
use native.Mathlib.Omega.{arith}
use mathlib.Core.Bool.{true, not, false≢true}
use mathlib.Core.List.{List}
use mathlib.Core.Path.{◌≡◌, refl, sym, ap, subst, ◌∙◌}
use lib.ListN.{length}
use Rattle.octets.specs.Lists.{Among}
use Rattle.octets.specs.Limits.{max_depth}
use Rattle.octets.specs.Octets.{same}
use Rattle.octets.proofs.Lists.{by_test, among_none, among_one}
use Rattle.der.specs.declared.Element.{Element}
use Rattle.der.specs.Element.{elements, inside, root, contents, constructed, with_tag, field}
use Rattle.der.specs.Fit.{held}
use Rattle.der.specs.Identifier.{IdentifierOctet, own, of_member}
use Rattle.der.proofs.Elements.{bounded, elements_end}
use Rattle.der.proofs.Members.{with_tag_among}
use Rattle.der.proofs.Charged.{then_charges, held_charges, each_charges}
use Rattle.der.specs.Keys.{type_of}
use Rattle.syntax.specs.Grammar.{Syntax, tagged, fit}
use Rattle.syntax.specs.Asn.{ContentInfoSignedData, OneSignedData, EncapsulatedContentInfo, OneSignerInfo, SignedData, Attribute}
use Rattle.syntax.specs.Types.{id_content_type, id_message_digest}
use Rattle.syntax.proofs.Each.{every_among, among_every}
use Rattle.syntax.proofs.Window.{after-member}
use Rattle.syntax.proofs.Fields.{lacks, only_field, field_in, placed}
use Rattle.syntax.proofs.Charged.{leaf, opens_constructed, alone, fit_charges, one_charges, one_run, one_octet, syntax_charges}
use Rattle.envelope.specs.Parts.{content_info, content, signed_data, encap_content_info, e_content_type, e_content_tag, e_content, signer_infos, signer_info, signed_attrs, unsigned_attrs}
use Rattle.envelope.specs.Attributes.{value_syntax, attribute_fit, attributes_fit}
use Rattle.envelope.specs.Rows.{row_1, row_2, row_3, row_4, row_6, row_7, row_8}

-- what is charged to some elements, or inside them, is an identifier octet of the message's element
abbrev InRoot : List ℕ → List Element → Type 0
InRoot s l = (m : Element) → Among m l → (o : ℕ) → IdentifierOctet s o m → IdentifierOctet s o (root s)

-- an element of the message, or none, whose place is the first octet: the same of it and of its members
record Chargeable (s : List ℕ) (e : Element) : Type 0 where
  place : IdentifierOctet s e.at (root s)
  members : InRoot s (inside s e)

-- the value of an attribute: no element is looked for in it
value_opens : (e_content_type type : List ℕ) → opens_constructed (value_syntax e_content_type type) ≡ true
unfolding value_syntax opens_constructed leaf
value_opens e_content_type type =
    by_test (same type id_content_type)
    (λ c. rw (c, value_syntax))
    (λ c. by_test (same type id_message_digest) (λ d. rw (c, d, value_syntax)) (λ d. rw (c, d, value_syntax)))

module _ (s : List ℕ) where
  -- the first of some members that has a tag
  tagged-octet : (t : ℕ) (l : List Element) → InRoot s l → IdentifierOctet s (with_tag t l).at (root s)
  tagged-octet t l f =
      let at : Element → ℕ = λ x. x.at in
      with_tag_among t l
      (λ q. own ((bounded s 0 (length s) refl).here ∙ sym (ap at q)))
      (λ e q i k. f e i (with_tag t l).at (own (sym (ap at q))))

  tagged_members : (t : ℕ) (l : List Element) → constructed t ≡ true → InRoot s l → InRoot s (inside s (with_tag t l))
  tagged_members t l c f m j o d =
      with_tag_among t l
      (λ q. absurd (among_none (subst (Among m) (ap (inside s) q ∙ elements_end s 0 0 (omega arith)) j)))
      (λ e q i k. f e i o (of_member (ap constructed k ∙ c) (subst (Among m) (ap (inside s) q) j) d))

  tagged_chargeable : (t : ℕ) (l : List Element) → constructed t ≡ true → InRoot s l → Chargeable s (with_tag t l)
  tagged_chargeable t l c f = record { place = tagged-octet t l f; members = tagged_members t l c f }

  -- the members after the first that has a tag are members
  among_after : (t : ℕ) (at stop : ℕ) → (with_tag t (elements s at stop)).valid ≡ true → {m : Element}
      → Among m (elements s (with_tag t (elements s at stop)).stop stop) → Among m (elements s at stop)
  among_after t at stop v {m} i =
      every_among (λ e. Among e (elements s at stop)) (elements s (with_tag t (elements s at stop)).stop stop)
      (after-member (λ e. Among e (elements s at stop)) t s at stop (among_every (elements s at stop)) v) i

  field_chargeable : (t : ℕ) {e : Element} → constructed t ≡ true → Chargeable s e → Chargeable s (field t s e)
  field_chargeable t {e} c h = tagged_chargeable t (inside s e) c h.members

  -- it is charged itself
  charged_itself : {e : Element} {o : ℕ} → Chargeable s e → e.at ≡ o → IdentifierOctet s o (root s)
  charged_itself h k = subst (λ a. IdentifierOctet s a (root s)) k h.place

  -- a syntax that reads its contents
  contents_charge : (g : Syntax) {e : Element} {o : ℕ} → opens_constructed g ≡ true → Chargeable s e → fit g s e.start e.stop e.at ≡ Err o
      → IdentifierOctet s o (root s)
  contents_charge g {e} {o} c h =
      fit_charges s g e.start e.stop e.at c (charged_itself h) (λ m i. h.members m i o)

  -- an Attribute of signedAttrs
  attribute_charges : (e_content_type : List ℕ) (a : Element) → Chargeable s a → (e : Element) → Among e (inside s a) → e.valid ≡ true → {o : ℕ}
      → attribute_fit e_content_type s e ≡ Err o → IdentifierOctet s o (root s)
  unfolding attribute_fit opens_constructed leaf
  attribute_charges e_content_type a h e i v {o} =
      fit_charges s (tagged 0x30 (Attribute (value_syntax e_content_type (type_of s e)))) e.at e.stop e.at
      (rw (value_opens e_content_type (type_of s e)))
      (λ k. h.members e i o (own k))
      (alone s a.start a.stop e (λ m j. h.members m j o) i v)

  -- 1
  pub row_1_charges : {X : Type 0} {o : ℕ} → (length s ≡ 0 → o ≡ 0 → X) → (o < length s → IdentifierOctet s o (root s) → X)
      → ((root s).valid ≡ true → o < length s → o ≡ (root s).stop → X) → row_1 s ≡ Err o → X
  unfolding row_1
  row_1_charges = one_charges max_depth s

  module _ (r1 : row_1 s ≡ Ok tt) where
    -- where an identifier octet of the message's element stands, an octet of the message does
    pub row_1_octet : {o : ℕ} → IdentifierOctet s o (root s) → o < length s
    unfolding row_1
    row_1_octet = one_octet max_depth s r1

    -- 2
    pub row_2_charges : {o : ℕ} → row_2 s ≡ Err o → IdentifierOctet s o (root s)
    unfolding row_1 row_2 opens_constructed leaf
    row_2_charges = syntax_charges max_depth s r1 ContentInfoSignedData refl

    module _ (r2 : row_2 s ≡ Ok tt) where
      root-tag : (root s).tag ≡ 0x30
      unfolding row_1 row_2 field_in lacks only_field
      root-tag =
          let f = (placed 0x30 s ContentInfoSignedData 0 (length s) 0 r2).0 in
          with_tag_among 0x30 (elements s 0 (length s))
          (λ q. absurd (false≢true (sym (ap (λ (x : Element). x.valid) q) ∙ f.own.valid)))
          (λ e q i k. ap (λ (x : Element). x.tag) (sym (among_one (subst (Among e) (one_run max_depth s r1) i))) ∙ k)

      at_root : Chargeable s (content_info s)
      unfolding content_info
      at_root = record { place = own refl; members = λ m i o d. of_member (ap constructed root-tag) i d }

      at_content : Chargeable s (content s)
      unfolding content
      at_content = field_chargeable 0xA0 refl at_root

      at_signed_data : Chargeable s (signed_data s)
      unfolding signed_data
      at_signed_data = field_chargeable 0x30 refl at_content

      at_encap_content_info : Chargeable s (encap_content_info s)
      unfolding encap_content_info
      at_encap_content_info = field_chargeable 0x30 refl at_signed_data

      -- the OCTET STRING that is eContent: it is charged itself where it holds no octet
      pub e_content-octet : IdentifierOctet s (e_content s).at (root s)
      unfolding e_content_tag e_content
      e_content-octet = tagged-octet 0x04 (inside s (e_content_tag s)) (field_chargeable 0xA0 refl at_encap_content_info).members

      -- 3 and 4
      pub row_3_charges : {o : ℕ} → row_3 s ≡ Err o → IdentifierOctet s o (root s)
      unfolding row_3 opens_constructed leaf
      row_3_charges = contents_charge OneSignedData refl at_content

      pub row_4_charges : {o : ℕ} → row_4 s ≡ Err o → IdentifierOctet s o (root s)
      unfolding row_4 opens_constructed leaf
      row_4_charges = contents_charge EncapsulatedContentInfo refl at_encap_content_info

      module _ (r3 : row_3 s ≡ Ok tt) where
        -- SignerInfos stand after EncapsulatedContentInfo, which is there
        at_signer_infos : Chargeable s (signer_infos s)
        unfolding row_3 signer_infos encap_content_info signed_data field_in lacks only_field
        at_signer_infos =
            let c = content s in
            let f = (placed 0x30 s OneSignedData c.start c.stop c.at r3).0 in
            let g = (placed 0x30 s SignedData (signed_data s).start (signed_data s).stop (signed_data s).at f.fits).0 in
            tagged_chargeable 0x31 _ refl
            (λ m i. at_signed_data.members m (among_after 0x30 (signed_data s).start (signed_data s).stop g.own.valid i))

        at_signer_info : Chargeable s (signer_info s)
        unfolding signer_info
        at_signer_info = field_chargeable 0x30 refl at_signer_infos

        at_signed_attrs : Chargeable s (signed_attrs s)
        unfolding signed_attrs
        at_signed_attrs = field_chargeable 0xA0 refl at_signer_info

        at_unsigned_attrs : Chargeable s (unsigned_attrs s)
        unfolding unsigned_attrs
        at_unsigned_attrs = field_chargeable 0xA1 refl at_signer_info

        -- 6, 7 and 8
        pub row_6_charges : {o : ℕ} → row_6 s ≡ Err o → IdentifierOctet s o (root s)
        unfolding row_6 opens_constructed leaf
        row_6_charges = contents_charge OneSignerInfo refl at_signer_infos

        pub row_7_charges : {o : ℕ} → row_7 s ≡ Err o → IdentifierOctet s o (root s)
        unfolding row_7 attributes_fit
        row_7_charges {o} h =
            let a = signed_attrs s in
            by_test a.valid
            (λ v.
            then_charges _ (held a.at _)
            (each_charges _ (inside s a)
            (λ e i k. at_signed_attrs.members e i o (own k))
            (λ former e i g.
            then_charges (attribute_fit (contents s (e_content_type s)) s e) (held e.at _)
            (attribute_charges (contents s (e_content_type s)) a at_signed_attrs e i g)
            (λ _. held_charges e.at _ (λ _ k. at_signed_attrs.members e i o (own k)))))
            (λ _. held_charges a.at _ (λ _. charged_itself at_signed_attrs))
            (rw (attributes_fit, v) at h))
            (λ v. let w = rw (attributes_fit, v) at h in charged_itself at_signer_info (cc))

        pub row_8_charges : {o : ℕ} → row_8 s ≡ Err o → IdentifierOctet s o (root s)
        unfolding row_8
        row_8_charges = held_charges (unsigned_attrs s).at (not (unsigned_attrs s).valid) (λ _. charged_itself at_unsigned_attrs)
