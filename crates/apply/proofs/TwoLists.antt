-- 01, After acceptance, Community Update.
use Rattle.std.specs.Prelude.{Result, Ok, Err}
use Prim.Native.Nat.{ℕ, ◌+◌, ◌≤◌, ◌<◌}
use native.Mathlib.Omega.{arith}
use mathlib.Core.Bool.{Bool, true, false, not, ◌&&◌}
use mathlib.Core.List.{List, [], ◌++◌, flat_map, append-nil}
use mathlib.Core.Path.{◌≡◌, refl, sym, ap, ap₂, ◌∙◌}
use lib.ListN.{length, take}
use lib.Dec.{ltb, leb, eqb}
use borrow.Author.Tests.{le-leb, lt-ltb, le-ltb, ne_eqb, not-false}
use Rattle.octets.specs.declared.Status.{Status}
use Rattle.octets.specs.Status.{success, insufficient_memory, community_update_failed}
use Rattle.octets.specs.Limits.{max_name_octets, max_communities}
use Rattle.octets.specs.First.{given_if}
use Rattle.octets.specs.Lists.{all_of, any_of}
use Rattle.octets.specs.Octets.{member, distinct, placed}
use Rattle.octets.proofs.Lists.{by_test, neither, keep_length, all_of_weaken}
use Rattle.der.specs.declared.Element.{Element}
use Rattle.der.specs.Element.{field}
use Rattle.der.specs.Contents.{oid_ok}
use Rattle.syntax.proofs.Each.{every_all}
use Rattle.store.specs.Store.{Store, anchors}
use Rattle.store.specs.Image.{encode_name, encode_section, encode, well_formed}
use Rattle.store.specs.Contract.Parts.{community_place, community_octets, communities_of}
use Rattle.store.proofs.Formats.{community_ok, rules, from_rules}
use Rattle.store.proofs.RoundTrip.{decode-encode}
use Rattle.store.proofs.Parts.{parts}
use Rattle.store.proofs.Sizes.{encode-length, community_size}
use Rattle.store.proofs.Standing.{image-length}
use Rattle.store.proofs.Standing as standing
use Rattle.edit.specs.Contract.Edits.{replaced}
use Rattle.edit.proofs.Stores.{communities-replaced}
use Rattle.message.specs.declared.Request.{Request}
use Rattle.message.specs.Fields.{remove_in, oids_in, additions_in}
use Rattle.message.proofs.Asked.{asked_additions}
use Rattle.protocol.specs.Community.{after_removals, after_additions, updated, community_status, communities_after}
use Rattle.protocol.specs.Effect.{with_communities, community_effect}
use Rattle.protocol.proofs.Lists.{any_of-append}
use Rattle.protocol.proofs.WellFormed.{ValidCommunities, valid_communities}
use Rattle.apply.specs.declared.scratch.ScratchImage.{ScratchImage}
use Rattle.apply.specs.Contract.Scratch.{Holds, Scratch}
use Rattle.apply.specs.Contract.Names.{oids_from, Section, FewNames, AddableAll, AddsAll}
use Rattle.apply.specs.Contract.Community.{CanUpdate, UpdatesCommunities, CommunityReady, CommunityDone}
use Rattle.apply.proofs.Adds.{scratch}
use Rattle.apply.proofs.Held as held
use Rattle.apply.proofs.Sections.{section_count}

-- the status and the communities after it, by what the tests said

abbrev long : List ℕ → Bool
long c = ltb max_name_octets (length c)

-- "On 24 or 17 no community changes"
module _ (present : Bool) (removals additions : List (List ℕ)) (d : List ℕ) (len : ℕ) where
  same-communities : (l : List (List ℕ)) (status : Status) → community_status present removals additions l ≡ status → (status.number ≡ 0 → ⊥)
      → communities_after present removals additions l ≡ l
  unfolding communities_after
  same-communities l status e n = rw (ap (λ (v : Status). eqb v.number 0) e ∙ ne_eqb _ _ n, communities_after)

  no_change : {former : ℕ} (status : Status) → (status.number ≡ 0 → ⊥)
      → ((σ : Store) → Holds σ d len → community_status present removals additions σ.communities ≡ status)
      → UpdatesCommunities present removals additions (scratch d len former) (Err status) (scratch d len former)
  no_change status n e =
      record {
        room = refl;
        status = λ σ h. sym (e σ h);
        after = λ σ h. rw (same-communities σ.communities status (e σ h) n) h;
      }

  -- 24
  pub put_repeated : {former : ℕ} {b : Bool} → b ≡ not (distinct (removals ++ additions)) → b ≡ true
      → UpdatesCommunities present removals additions (scratch d len former) (Err community_update_failed) (scratch d len former)
  unfolding community_status given_if
  put_repeated m t = no_change community_update_failed (λ z. absurd (omega arith)) (λ σ h. rw (sym m ∙ t))

  module _ (apart : not (distinct (removals ++ additions)) ≡ false) where
    -- 17: "an OID is over 32 octets"
    pub put_long : {former : ℕ} → any_of long (removals ++ additions) ≡ true → UpdatesCommunities present removals additions (scratch d len former) (Err insufficient_memory) (scratch d len former)
    unfolding community_status given_if
    put_long t = no_change insufficient_memory (λ z. absurd (omega arith)) (λ σ h. rw (apart, t))

    module _ (short : any_of long (removals ++ additions) ≡ false) where
      -- 17: "over 16 would remain"
      pub put_many : {former : ℕ} → ((σ : Store) → Holds σ d len → max_communities < length (updated present removals additions σ.communities))
          → UpdatesCommunities present removals additions (scratch d len former) (Err insufficient_memory) (scratch d len former)
      unfolding community_status given_if
      put_many f = no_change insufficient_memory (λ z. absurd (omega arith)) (λ σ h. rw (apart, short, lt-ltb _ _ (f σ h)))

      -- 0
      succeeds : (l : List (List ℕ)) → length (updated present removals additions l) ≤ max_communities → community_status present removals additions l ≡ success
      unfolding community_status given_if
      succeeds l f = rw (apart, short, le-ltb _ _ f)

      becomes : (l : List (List ℕ)) → length (updated present removals additions l) ≤ max_communities
          → communities_after present removals additions l ≡ updated present removals additions l
      unfolding communities_after
      becomes l f = rw (ap (λ (v : Status). eqb v.number 0) (succeeds l f), communities_after)

      pub updated_valid : (σ : Store) → well_formed σ ≡ true → all_of oid_ok additions ≡ true → length (updated present removals additions σ.communities) ≤ max_communities
          → well_formed (with_communities (updated present removals additions σ.communities) σ) ≡ true
      updated_valid σ g o f =
          let p = rules σ g in
          let c : ValidCommunities (updated present removals additions σ.communities) =
          rw (becomes σ.communities f) at
          (valid_communities present removals additions σ.communities o
          (record { count = p.community_count; each = p.each_community; apart = p.communities }))
          in
          from_rules _
          (record {
            hw_type = p.hw_type;
            hw_type_oid = p.hw_type_oid;
            serial = p.serial;
            anchor_count_lem = p.anchor_count_lem;
            each_anchor = p.each_anchor;
            keys = p.keys;
            community_count = c.count;
            each_community = c.each;
            communities = c.apart;
          })

-- what is in the scratch

communities_are : (σ : Store) (d : List ℕ) (len : ℕ) → Holds σ d len → communities_of (take len d) ≡ σ.communities
communities_are σ d len h = ap communities_of h.image ∙ (parts (encode σ) σ (decode-encode σ h.valid)).communities

pub put_few : {d : List ℕ} {len : ℕ} → Scratch d len → FewNames (take len d)
put_few {d} {len} s =
    let σ = s.store in
    let p = rules σ s.holds.valid in
    let e = communities_are σ d len s.holds in
    record {
      few = rw e p.community_count;
      small = rw e (all_of_weaken community_ok (λ c. leb (length c) max_name_octets) (λ c k. le-leb _ _ (community_size c k).1) σ.communities p.each_community);
    }

removals_few : (present : Bool) (removals l : List (List ℕ)) → length (after_removals present removals l) ≤ length l
unfolding after_removals
removals_few present removals l =
    by_test (present && eqb (length removals) 0)
    (λ t. rw (t, after_removals) (omega arith))
    (λ t. rw (t, after_removals) (keep_length (λ c. not (member c removals)) l))

module _ (present : Bool) {removals additions : List (List ℕ)} {d : List ℕ} {len : ℕ} (w : CanUpdate removals additions d len) {names : List ℕ} {k : ℕ}
    (s : Section names k (after_removals present removals (communities_of (take len d)))) where
  apart_no : not (distinct (removals ++ additions)) ≡ false
  apart_no = ap not w.apart

  pub put_addable : AddableAll additions names k
  put_addable =
      record {
        kept = after_removals present removals (communities_of (take len d));
        section = s;
        few = omega (arith, removals_few present removals (communities_of (take len d)), (put_few w.scratch).few);
        small = (neither (any_of long removals) (any_of long additions) (sym (any_of-append long removals additions) ∙ w.short)).1;
      }

  module _ {r : Result (Unit {0}) Status} {n : ℕ} {names' : List ℕ} (a : AddsAll additions names k r n names') where
    pub put_full : {former : ℕ} {status : Status} → r ≡ Err status → UpdatesCommunities present removals additions (scratch d len former) (Err status) (scratch d len former)
    unfolding after_additions
    put_full f =
        let g = rw f at (a.adds (after_removals present removals (communities_of (take len d))) s) in
        rw g.0 (put_many present removals additions d len apart_no w.short (λ σ h. rw (← communities_are σ d len h) g.1))

    module _ {x : Unit {0}} (t : r ≡ Ok x) where
      abbrev after : List (List ℕ)
      after = updated present removals additions (communities_of (take len d))

      section : Section names' n after
      unfolding after_additions
      section = rw t at (a.adds (after_removals present removals (communities_of (take len d))) s)

      few : length after ≤ max_communities
      few = omega (arith, a.few, section_count section)

      module _ (σ : Store) (h : Holds σ d len) where
        next : Store
        next = with_communities (updated present removals additions σ.communities) σ

        as_there : after ≡ updated present removals additions σ.communities
        as_there = ap (updated present removals additions) (communities_are σ d len h)

        few_there : length (updated present removals additions σ.communities) ≤ max_communities
        few_there = rw as_there at few

        valid : well_formed next ≡ true
        unfolding next
        valid = updated_valid present removals additions d len apart_no w.short σ h.valid w.oids few_there

      module _ {place old : ℕ} (p : place ≡ community_place (take len d)) (o : old ≡ length (community_octets (take len d)) + 1) where
        new-image : (σ : Store) (h : Holds σ d len) → replaced (take len d) place old ([] ++ take n names') ≡ encode (next σ h)
        unfolding next
        new-image σ h =
            let k : old ≡ 1 + length (community_octets (take len d)) = omega arith in
            ap₂ (λ (a b : ℕ). replaced (take len d) a b (take n names')) p k
            ∙ ap₂ (λ (s l : List ℕ). replaced s (community_place s) (1 + length (community_octets s)) l) h.image
            (section.image ∙ ap (encode_section encode_name) (as_there σ h))
            ∙ communities-replaced σ h.valid (updated present removals additions σ.communities)

        -- the section is the end of the image, and the next one has room
        pub put_bounds : (place + old ≤ len) × (len ≤ length d) × (len + (0 + length (take n names')) ≤ length d + old)
        unfolding next flat_map
        put_bounds =
            let σ = w.scratch.store in
            let h = w.scratch.holds in
            let all = sym (append-nil (anchors σ)) in
            let i = image-length σ (anchors σ) [] all in
            let j = image-length (next σ h) (anchors σ) [] all in
            let e = p ∙ held.end_is σ d len h in
            let c = ap (λ (s : List ℕ). length (community_octets s)) h.image ∙ ap length (standing.communities_are σ h.valid) in
            let s = ap length (section.image ∙ ap (encode_section encode_name) (as_there σ h)) in
            let z = held.size σ d len h in
            (omega arith, h.inside, omega (arith, encode-length (next σ h) (valid σ h), w.scratch.room))

        pub put_done : {former r : ℕ} {d' : List ℕ} → (r ≡ length (replaced (take len d) place old ([] ++ take n names')))
            × (d' ≡ placed d 0 (replaced (take len d) place old ([] ++ take n names')))
            → UpdatesCommunities present removals additions (scratch d len former) (Ok tt) (scratch d' r former)
        unfolding next
        put_done {former} {r} {d'} e =
            let done : (σ : Store) (h : Holds σ d len) → (length d' ≡ length d) × Holds (next σ h) d' r =
            λ σ h.
            held.written d _ (new-image σ h) (valid σ h) (omega (arith, ap length (new-image σ h), encode-length (next σ h) (valid σ h), w.scratch.room)) e.0 e.1
            in
            record {
              room = (done w.scratch.store w.scratch.holds).0;
              status = λ σ h. sym (succeeds present removals additions d len apart_no w.short σ.communities (few_there σ h));
              after = λ σ h.
                  rw (becomes present removals additions d len apart_no w.short σ.communities (few_there σ h)) (done σ h).1;
            }

-- the message

module _ (s : List ℕ) (q : Request) {updates removals additions : Element} (u : updates ≡ q.updates)
    (v : removals ≡ field 0xA1 s updates) (z : additions ≡ field 0xA2 s updates) where
  abbrev gone : List (List ℕ)
  gone = oids_from s removals.stop removals.start

  abbrev come : List (List ℕ)
  come = oids_from s additions.stop additions.start

  pub community_done : {w w' : ScratchImage} {r : Result (Unit {0}) Status} → UpdatesCommunities removals.valid gone come w r w' → CommunityDone s q w r w'
  unfolding community_effect remove_in additions_in oids_in
  community_done p =
      record {
        room = p.room;
        status = λ σ h. rw (← u, ← v, ← z) (p.status σ h);
        store = λ σ h. rw (← u, ← v, ← z) (p.after σ h);
      }

  pub community_puttable : {d : List ℕ} {len : ℕ} → CommunityReady s q d len → {b : Bool} → b ≡ not (distinct (gone ++ come)) → b ≡ false
      → {x : Bool} → x ≡ any_of long gone → x ≡ false → {y : Bool} → y ≡ any_of long come → y ≡ false → CanUpdate gone come d len
  unfolding additions_in oids_in
  community_puttable w m t f g h k =
      record {
        scratch = w.scratch;
        apart = not-false _ (sym m ∙ t);
        short = any_of-append long gone come ∙ rw (sym f ∙ g, sym h ∙ k);
        oids = every_all oid_ok come (rw (← u, ← z) at (asked_additions s q w.asked w.update));
      }

  -- 24, and 17 for an OID over 32 octets
  pub community_repeated : {d : List ℕ} {len former : ℕ} {b : Bool} → b ≡ not (distinct (gone ++ come)) → b ≡ true → CommunityDone s q (scratch d len former) (Err community_update_failed) (scratch d len former)
  community_repeated m t = community_done (put_repeated removals.valid gone come _ _ m t)

  module _ {b : Bool} (m : b ≡ not (distinct (gone ++ come))) (t : b ≡ false) where
    pub community_long : {d : List ℕ} {len former : ℕ} {x : Bool} → x ≡ any_of long gone → x ≡ true → CommunityDone s q (scratch d len former) (Err insufficient_memory) (scratch d len former)
    community_long f g = community_done (put_long removals.valid gone come _ _ (sym m ∙ t) (any_of-append long gone come ∙ rw (sym f ∙ g)))

    pub community_longer : {d : List ℕ} {len former : ℕ} {x : Bool} → x ≡ any_of long gone → x ≡ false → {y : Bool} → y ≡ any_of long come → y ≡ true
        → CommunityDone s q (scratch d len former) (Err insufficient_memory) (scratch d len former)
    community_longer f g h k =
        community_done (put_long removals.valid gone come _ _ (sym m ∙ t) (any_of-append long gone come ∙ rw (sym f ∙ g, sym h ∙ k)))
