-- 01, Answers: "The next store .. is well-formed". One law for each step of an accepted message.
use Rattle.std.specs.Option.{option_map_or}
use Rattle.std.specs.Prelude.{Some, Ok}
use Prim.Native.Nat.{ℕ, zero, suc, ◌≤◌, ◌<◌}
use native.Mathlib.Omega.{arith}
use mathlib.Core.Bool.{Bool, true, false, not, ◌&&◌, and-eq-true_iff, false≢true}
use mathlib.Core.List.{List, [], ◌∷◌, ◌++◌, map, map-append, map-map, append_assoc, append-nil}
use mathlib.Core.Path.{◌≡◌, refl, sym, ◌∙◌, ap}
use lib.ListN.{length, length-append, length-map}
use lib.Dec.{leb, ltb, eqb}
use borrow.Author.Tests.{leb-false, le-leb, ltb-false, not-true, not-false}
use Rattle.octets.specs.declared.Status.{Status}
use Rattle.octets.specs.Limits.{max_anchors, max_communities, max_name_octets, max_number, max_updates}
use Rattle.octets.specs.Lists.{all_of, any_of, filter}
use Rattle.octets.specs.Octets.{Octets, same, member, distinct}
use Rattle.octets.proofs.Lists.{any_of-map, by_test, both, neither, keep_in, keep_length, distinct_none}
use Rattle.der.specs.Element.{encoding}
use Rattle.der.specs.Contents.{oid_ok}
use Rattle.syntax.specs.declared.TampType.{TampType}
use Rattle.syntax.specs.declared.TampType.TheVariants.{StatusQuery, Update, CommunityUpdate, SeqNumAdjust}
use Rattle.syntax.specs.Asn.{StoredTrustAnchorInfo}
use Rattle.rights.specs.Rights.{Rights}
use Rattle.anchor.specs.Judge.{judge, passes, conforms, storable}
use Rattle.anchor.specs.Info.{untagged}
use Rattle.store.specs.Store.{Anchor, Store, anchors, public_key_of, identifier_of}
use Rattle.store.specs.Image.{decode, name_ok, anchor_ok, well_formed}
use Rattle.store.proofs.Readers.{section_parts, section_ok_lem}
use Rattle.store.proofs.Formats.{apart, community_ok, device_ok, sections, from_sections}
use Rattle.store.proofs.RoundTrip.{decode-encode, decode-well_formed}
use Rattle.syntax.proofs.Each.{Every, every_all}
use Rattle.message.specs.declared.Request.{Request}
use Rattle.message.specs.declared.Entry.{Entry}
use Rattle.message.specs.declared.Entry.TheVariants as entry
use Rattle.message.specs.Fields.{entries_in, seq_numbers_in, additions_in}
use Rattle.message.specs.Rows.{received}
use Rattle.message.proofs.Entries.{Adding}
use Rattle.message.proofs.Asked.{asked_number, asked_adds, asked_seq_numbers, asked_additions}
use Rattle.protocol.specs.Acceptance.{judgement, rights_at}
use Rattle.protocol.specs.Update.{Step, unnumbered, added, has_key, removed, step, steps, numbered, with_seq_number, with_seq_numbers}
use Rattle.protocol.specs.Community.{after_removals, after_additions, updated, community_status, communities_after}
use Rattle.protocol.specs.Effect.{number_set, with_number, query_effect, adjust_effect, community_effect, update_effect, effect_of, effect}
use Rattle.protocol.specs.Call.{answered, call}
use Rattle.protocol.proofs.Answer.{answered_store, by_answer, accepted_asks}
use Rattle.protocol.proofs.Lists.{by_given, keep_append, map_same, all_of_keep, all_of-kept, all_of-append, all_of_front, all_of-after, all_of-map}
use Rattle.protocol.proofs.Lists.{any_of_false, not-member, distinct_one, distinct-kept, all_of_and, distinct_append, distinct-after, distinct_keep}

-- What 01, "The store image", asks of a store, in its sections

pub record ValidAnchors (l : List Anchor) : Type 0 where
  pub count : length l ≤ max_anchors
  pub each : all_of anchor_ok l ≡ true
  pub keys : distinct (map public_key_of l) ≡ true

pub record ValidCommunities (l : List (List ℕ)) : Type 0 where
  pub count : length l ≤ max_communities
  pub each : all_of community_ok l ≡ true
  pub apart : distinct l ≡ true

pub record Good (σ : Store) : Type 0 where
  pub of_device : device_ok σ.device ≡ true
  pub of_anchors : ValidAnchors (anchors σ)
  pub of_communities : ValidCommunities σ.communities

-- the rules of a well-formed store, and back
pub valid_store : (σ : Store) → well_formed σ ≡ true → Good σ
valid_store σ w =
    let (d, a, c) = sections σ w in
    let p = section_parts anchor_ok max_anchors apart (anchors σ) a in
    let q = section_parts community_ok max_communities distinct σ.communities c in
    record {
      of_device = d;
      of_anchors = record { count = p.0; each = p.1; keys = p.2 };
      of_communities = record { count = q.0; each = q.1; apart = q.2 };
    }

pub store_valid : (σ : Store) → Good σ → well_formed σ ≡ true
store_valid σ g =
    let a = g.of_anchors in
    let c = g.of_communities in
    from_sections σ g.of_device
    (section_ok_lem anchor_ok max_anchors apart (anchors σ) a.count a.each a.keys)
    (section_ok_lem community_ok max_communities distinct σ.communities c.count c.each c.apart)

-- Numbers: they change neither keys nor count

valid_renumbered : (l l' : List Anchor) → map public_key_of l' ≡ map public_key_of l → all_of anchor_ok l' ≡ true → ValidAnchors l → ValidAnchors l'
valid_renumbered l l' e ok g =
    record {
      count = omega (arith, g.count, sym (length-map l' public_key_of) ∙ ap length e ∙ length-map l public_key_of);
      each = ok;
      keys = ap distinct e ∙ g.keys;
    }

numbered_ok : (n : ℕ) (a : Anchor) → n ≤ max_number → anchor_ok a ≡ true → anchor_ok (numbered n a) ≡ true
unfolding anchor_ok
numbered_ok n a b ok = both (le-leb n max_number b) ((and-eq-true_iff (option_map_or (λ n. leb n max_number) a.number true) (storable a.info)).0 ok).1

number_set-keys : (i n : ℕ) (l : List Anchor) → map public_key_of (number_set i n l) ≡ map public_key_of l
unfolding number_set
number_set-keys i n [] = refl
number_set-keys zero n (a ∷ l) = refl
number_set-keys (suc i) n (a ∷ l) = ap (λ r. public_key_of a ∷ r) (number_set-keys i n l)

number_set_ok : (i n : ℕ) (l : List Anchor) → n ≤ max_number → all_of anchor_ok l ≡ true → all_of anchor_ok (number_set i n l) ≡ true
unfolding number_set all_of
number_set_ok i n [] b e = e
number_set_ok zero n (a ∷ l) b e =
    let h = (and-eq-true_iff (anchor_ok a) (all_of anchor_ok l)).0 e in
    both (numbered_ok n a b h.0) h.1
number_set_ok (suc i) n (a ∷ l) b e =
    let h = (and-eq-true_iff (anchor_ok a) (all_of anchor_ok l)).0 e in
    both h.0 (number_set_ok i n l b h.1)

valid_number_set : (i n : ℕ) (l : List Anchor) → n ≤ max_number → ValidAnchors l → ValidAnchors (number_set i n l)
valid_number_set i n l b g = valid_renumbered l (number_set i n l) (number_set-keys i n l) (number_set_ok i n l b g.each) g

-- the signer's number
pub valid_with_number : (i n : ℕ) (σ : Store) → n ≤ max_number → Good σ → Good (with_number i n σ)
unfolding with_number number_set
valid_with_number zero n σ b w =
    record { of_device = w.of_device; of_anchors = valid_number_set zero n (anchors σ) b w.of_anchors; of_communities = w.of_communities }
valid_with_number (suc i) n σ b w =
    record { of_device = w.of_device; of_anchors = valid_number_set (suc i) n (anchors σ) b w.of_anchors; of_communities = w.of_communities }

-- the numbers of appended anchors
abbrev SmallNumbers : List (List ℕ × ℕ) → Type 0
SmallNumbers ps = Every (λ p. p.1 ≤ max_number) ps

seq_number_key : (p : List ℕ × ℕ) (a : Anchor) → public_key_of (with_seq_number p a) ≡ public_key_of a
unfolding with_seq_number
seq_number_key p a = by_test (same (identifier_of a) p.0) (λ t. rw (t, with_seq_number)) (λ t. rw (t, with_seq_number))

seq_number_ok : (p : List ℕ × ℕ) → p.1 ≤ max_number → (a : Anchor) → anchor_ok a ≡ true → anchor_ok (with_seq_number p a) ≡ true
unfolding with_seq_number
seq_number_ok p b a ok = by_test (same (identifier_of a) p.0) (λ t. rw (t, with_seq_number) (numbered_ok p.1 a b ok)) (λ t. rw (t, with_seq_number) ok)

seq_numbers_keys : (ps : List (List ℕ × ℕ)) (l : List Anchor) → map public_key_of (with_seq_numbers ps l) ≡ map public_key_of l
unfolding with_seq_numbers
seq_numbers_keys [] l = refl
seq_numbers_keys (p ∷ ps) l = seq_numbers_keys ps (map (with_seq_number p) l) ∙ map-map public_key_of (with_seq_number p) l ∙ map_same (seq_number_key p) l

seq_numbers_ok : (ps : List (List ℕ × ℕ)) (l : List Anchor) → SmallNumbers ps → all_of anchor_ok l ≡ true → all_of anchor_ok (with_seq_numbers ps l) ≡ true
unfolding with_seq_numbers
seq_numbers_ok [] l b e = e
seq_numbers_ok (p ∷ ps) l b e =
    seq_numbers_ok ps (map (with_seq_number p) l) b.1 (all_of-map anchor_ok (with_seq_number p) (seq_number_ok p b.0) l e)

valid_seq_numbers : (front : List Anchor) (ps : List (List ℕ × ℕ)) (new : List Anchor) → SmallNumbers ps → ValidAnchors (front ++ new) → ValidAnchors (front ++ with_seq_numbers ps new)
valid_seq_numbers front ps new b g =
    valid_renumbered
    (front ++ new)
    (front ++ with_seq_numbers ps new)
    (map-append public_key_of front (with_seq_numbers ps new) ∙ ap (λ r. map public_key_of front ++ r) (seq_numbers_keys ps new) ∙ sym (map-append public_key_of front new))
    (all_of-append anchor_ok front (with_seq_numbers ps new) (all_of_front anchor_ok front new g.each) (seq_numbers_ok ps new b (all_of-after anchor_ok front new g.each)))
    g

-- Entries

-- anchors taken out
valid_keep : (q : Anchor → Bool) (l : List Anchor) → ValidAnchors l → ValidAnchors (filter q l)
valid_keep q l g =
    record {
      count = omega (arith, g.count, keep_length q l);
      each = all_of_keep anchor_ok q l g.each;
      keys = distinct_keep public_key_of q l g.keys;
    }

-- an anchor appended: its key is not stored, and there is room
valid_append : (l : List Anchor) (a : Anchor) → anchor_ok a ≡ true → any_of (λ b. same (public_key_of b) (public_key_of a)) l ≡ false → length l < max_anchors → ValidAnchors l
    → ValidAnchors (l ++ (a ∷ []))
unfolding all_of
valid_append l a ok apart room g =
    let new : member (public_key_of a) (map public_key_of l) ≡ false = not-member (public_key_of a) (map public_key_of l) (any_of_false (λ k. same k (public_key_of a)) (map public_key_of l) (any_of-map _ public_key_of l ∙ apart)) in
    record {
      count = omega (arith, length-append l (a ∷ []));
      each = all_of-append anchor_ok l (a ∷ []) g.each (both ok refl);
      keys =
          ap distinct (map-append public_key_of l (a ∷ []))
          ∙ distinct_append (map public_key_of l) (public_key_of a ∷ []) g.keys (distinct_one (public_key_of a)) (both (ap not new) refl);
    }

unnumbered_ok : (t : List ℕ) → conforms StoredTrustAnchorInfo t ≡ true → passes (judge t) ≡ true → anchor_ok (unnumbered t) ≡ true
unfolding anchor_ok storable
unnumbered_ok t c p = both c p

-- an add of a TrustAnchorInfo that has the syntax of a stored one
pub valid_added : (rights : Rights) (apex : Anchor) (old new : List Anchor) (t : List ℕ) → conforms StoredTrustAnchorInfo t ≡ true
    → ValidAnchors (apex ∷ (old ++ new)) → let d = added rights apex old new t in ValidAnchors (apex ∷ (d.old ++ d.new))
unfolding added
valid_added rights apex old new t c g =
    let G : Step → Type 0 = λ d. ValidAnchors (apex ∷ (d.old ++ d.new)) in
    by_given G _ (λ _. g) (λ p.
    by_given G _ (λ _. g) (λ _.
    by_given G _ (λ _. g) (λ _.
    by_given G _ (λ _. g) (λ apart.
    by_given G _ (λ _. g) (λ room.
    rw (← append_assoc old new (unnumbered t ∷ []))
    (valid_append (apex ∷ (old ++ new)) (unnumbered t) (unnumbered_ok t c (not-false _ p)) apart (leb-false _ _ room) g))))))

-- a removal
pub valid_removed : (rights : Rights) (apex : Anchor) (old new : List Anchor) (key : List ℕ)
    → ValidAnchors (apex ∷ (old ++ new)) → let d = removed rights apex old new key in ValidAnchors (apex ∷ (d.old ++ d.new))
unfolding removed
valid_removed rights apex old new key g =
    let G : Step → Type 0 = λ d. ValidAnchors (apex ∷ (d.old ++ d.new)) in
    let others : Anchor → Bool = λ a. not (has_key key a) in
    by_given G _ (λ _. g) (λ _.
    by_given G _ (λ _. g) (λ f.
    by_given G _ (λ _. g) (λ _.
    rw (← keep_append others old new, ← keep_in others apex (old ++ new) (ap not f)) (valid_keep others (apex ∷ (old ++ new)) g))))

-- the entries of a message, whose adds passed row 36
valid_step : (s : List ℕ) (rights : Rights) (apex : Anchor) (old new : List Anchor) (e : Entry) → Adding s e
    → ValidAnchors (apex ∷ (old ++ new)) → let d = step s rights apex old new e in ValidAnchors (apex ∷ (d.old ++ d.new))
unfolding step conforms
valid_step s rights apex old new (entry.Add e) c g = valid_added rights apex old new (encoding s e) c g
valid_step s rights apex old new entry.AddCertificate c g = g
valid_step s rights apex old new (entry.Remove e) c g = valid_removed rights apex old new (untagged (encoding s e)) g
valid_step s rights apex old new entry.Change c g = g

pub valid_steps : (s : List ℕ) (rights : Rights) (apex : Anchor) (old new : List Anchor) (es : List Entry) → Every (Adding s) es
    → ValidAnchors (apex ∷ (old ++ new)) → let d = steps s rights apex old new es in ValidAnchors (apex ∷ (d.old ++ d.new))
unfolding steps
valid_steps s rights apex old new [] c g = g
valid_steps s rights apex old new (e ∷ es) c g =
    let d = step s rights apex old new e in
    valid_steps s rights apex d.old d.new es c.1 (valid_step s rights apex old new e c.0 g)

-- Communities

valid_removals : (present : Bool) (removals l : List (List ℕ)) → ValidCommunities l → ValidCommunities (after_removals present removals l)
unfolding after_removals all_of
valid_removals present removals l g =
    let p : List ℕ → Bool = λ c. not (member c removals) in
    by_test (present && eqb (length removals) 0)
    (λ t. rw (t, after_removals) (record { count = omega arith; each = refl; apart = distinct_none }))
    (λ t.
    rw (t, after_removals)
    (record { count = omega (arith, g.count, keep_length p l); each = all_of_keep community_ok p l g.each; apart = distinct-kept p l g.apart }))

-- an OID that is not too long
community_ok_lem : (c : List ℕ) → oid_ok c ≡ true → not (ltb max_name_octets (length c)) ≡ true → community_ok c ≡ true
unfolding name_ok oid_ok
community_ok_lem [] o n = absurd (false≢true o)
community_ok_lem (x ∷ c) o n = both (both (le-leb 1 (suc (length c)) (omega arith)) (le-leb (suc (length c)) max_name_octets (ltb-false _ _ (not-true _ n)))) o

valid_additions : (additions l : List (List ℕ)) → all_of community_ok additions ≡ true → distinct additions ≡ true → length (after_additions additions l) ≤ max_communities
    → ValidCommunities l → ValidCommunities (after_additions additions l)
unfolding after_additions
valid_additions additions l ok apart room g =
    let p : List ℕ → Bool = λ c. not (member c l) in
    record {
      count = room;
      each = all_of-append community_ok l (filter p additions) g.each (all_of_keep community_ok p additions ok);
      apart = distinct_append l (filter p additions) g.apart (distinct-kept p additions apart) (all_of-kept p additions);
    }

pub valid_communities : (present : Bool) (removals additions l : List (List ℕ)) → all_of oid_ok additions ≡ true → ValidCommunities l
    → ValidCommunities (communities_after present removals additions l)
unfolding communities_after community_status
valid_communities present removals additions l oids g =
    let over : List ℕ → Bool = λ c. ltb max_name_octets (length c) in
    let after = updated present removals additions l in
    let G : Status → Type 0 = λ status. eqb status.number 0 ≡ true → ValidCommunities after in
    let valid : G (community_status present removals additions l) =
    by_given G _ (λ _ e. absurd (false≢true e)) (λ d.
    by_given G _ (λ _ e. absurd (false≢true e)) (λ n _.
    let h = neither (any_of over (removals ++ additions)) (ltb max_communities (length after)) n in
    let short = all_of-after (λ c. not (over c)) removals additions (any_of_false over (removals ++ additions) h.0) in
    valid_additions
    additions
    (after_removals present removals l)
    (all_of_and community_ok_lem additions oids short)
    (distinct-after removals additions (not-false _ d))
    (ltb-false _ _ h.1)
    (valid_removals present removals l g)))
    in
    by_test (eqb (community_status present removals additions l).number 0)
    (λ t. rw (t, communities_after) (valid t))
    (λ t. rw (t, communities_after) g)

-- Effects

module _ (s : List ℕ) (q : Request) (σ : Store) (w : Good σ) where
  valid_update : (rights : Rights) → Every (Adding s) (entries_in s q.updates) → SmallNumbers (seq_numbers_in s q.numbers)
      → Good (update_effect s q rights σ).store
  unfolding update_effect
  valid_update rights adds numbers =
      let entries = entries_in s q.updates in
      let done = steps s rights σ.apex σ.others [] entries in
      let g : ValidAnchors (σ.apex ∷ (done.old ++ done.new)) =
      valid_steps s rights σ.apex σ.others [] entries adds (rw (append-nil σ.others) w.of_anchors)
      in
      by_test (ltb max_updates (length entries))
      (λ t. rw (t, update_effect) w)
      (λ t.
      rw (t, update_effect)
      (record {
        of_device = w.of_device;
        of_anchors = valid_seq_numbers (σ.apex ∷ done.old) (seq_numbers_in s q.numbers) done.new numbers g;
        of_communities = w.of_communities;
      }))

  valid_community : Every (λ o. oid_ok o ≡ true) (additions_in s q.updates) → Good (community_effect s q σ).store
  unfolding community_effect
  valid_community oids =
      record {
        of_device = w.of_device;
        of_anchors = w.of_anchors;
        of_communities = valid_communities _ _ _ σ.communities (every_all oid_ok _ oids) w.of_communities;
      }

  valid_effect_of : (rights : Rights) → Octets s → received s ≡ Ok q → (kind : TampType) → q.kind ≡ kind → Good (effect_of kind s q rights σ).store
  unfolding effect_of query_effect adjust_effect
  valid_effect_of rights o r StatusQuery k = w
  valid_effect_of rights o r Update k = valid_update rights (asked_adds s q r k) (asked_seq_numbers s q r k)
  valid_effect_of rights o r CommunityUpdate k = valid_community (asked_additions s q r k)
  valid_effect_of rights o r SeqNumAdjust k = w

valid_effect : (s : List ℕ) (q : Request) (i : ℕ) (σ : Store) → Octets s → received s ≡ Ok q → Good σ → Good (effect s q i σ).store
unfolding effect
valid_effect s q i σ o r g =
    let n = q.number in
    valid_effect_of s q (with_number i n σ) (valid_with_number i n σ (asked_number s q r o) g) (rights_at σ i) o r q.kind refl

-- what an accepted message leaves of a well-formed store is well-formed
pub effect-well_formed : (σ : Store) (s verdict : List ℕ) (q : Request) (i : ℕ) → well_formed σ ≡ true → Octets s → judgement σ verdict s ≡ Ok (q, i)
    → well_formed (effect s q i σ).store ≡ true
effect-well_formed σ s verdict q i w o j = store_valid _ (valid_effect s q i σ o (accepted_asks σ s verdict j) (valid_store σ w))

-- "The next store is written whole .. and is well-formed"
pub next_decodes : (s image verdict : List ℕ) (reply_lent next_lent : ℕ) (status : Status) (offset : ℕ) (reply next : List ℕ) → Octets s
    → call s image verdict reply_lent next_lent ≡ answered status offset reply next → (σ : Store) × (decode next ≡ Some σ)
next_decodes s image verdict reply_lent next_lent status offset reply next o e =
    let (σ, d) = answered_store s image verdict reply_lent next_lent e in
    by_answer s image verdict reply_lent next_lent σ d e
    (λ n. (σ, ap decode n ∙ d))
    (λ q i j n.
    let w = effect-well_formed σ s verdict q i (decode-well_formed image σ d) o j in
    ((effect s q i σ).store, ap decode n ∙ decode-encode (effect s q i σ).store w))
