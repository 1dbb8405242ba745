-- Demand 3, step by step: where the signer does not authorise a content, no step of an accepted message changes the anchors that do, or their order.
use Prim.Native.Nat.{ℕ, zero, suc}
use mathlib.Core.Bool.{Bool, true, false, not, ◌&&◌, true≢false}
use mathlib.Core.List.{List, [], ◌∷◌, ◌++◌, map, append-nil}
use mathlib.Core.Path.{◌≡◌, refl, sym, ◌∙◌, ap, ap₂}
use lib.ListN.{length, get_or}
use lib.Dec.{ltb}
use borrow.Author.Tests.{not-false}
use Rattle.octets.specs.Limits.{max_updates}
use Rattle.octets.specs.Lists.{any_of, filter}
use Rattle.octets.specs.Octets.{same}
use Rattle.octets.proofs.Lists.{by_test, neither, keep_in, keep_out}
use Rattle.der.specs.Element.{encoding}
use Rattle.syntax.specs.declared.TampType.{TampType}
use Rattle.syntax.specs.declared.TampType.TheVariants.{StatusQuery, Update, CommunityUpdate, SeqNumAdjust}
use Rattle.rights.specs.Rights.{Rights, Content, authorises, nothing}
use Rattle.rights.specs.Decision.{within}
use Rattle.rights.proofs.Within.{below, apex as apex-authorises}
use Rattle.anchor.specs.Info.{rights_of, untagged}
use Rattle.store.specs.Store.{Anchor, Store, identifier_of}
use Rattle.message.specs.declared.Request.{Request}
use Rattle.message.specs.declared.Entry.{Entry}
use Rattle.message.specs.declared.Entry.TheVariants as entry
use Rattle.message.specs.Fields.{entries_in, seq_numbers_in}
use Rattle.protocol.specs.Acceptance.{rights_at}
use Rattle.protocol.specs.Update.{Step, unnumbered, added, has_key, without, removed, step, steps, numbered, with_seq_number, with_seq_numbers}
use Rattle.protocol.specs.Effect.{number_set, with_number, query_effect, adjust_effect, community_effect, update_effect, effect_of, effect}
use Rattle.protocol.proofs.Lists.{by_given, keep_cons, keep_none, keep_append, keep_last_out, keep_map-none, any_of-append}

-- an anchor authorises the content by its own extension
abbrev pub may : Content → Anchor → Bool
may content a = authorises (rights_of a.info) content

-- the anchors of a store that authorise the content, in order: the apex, and others
abbrev pub holders : Content → Store → List Anchor
holders content σ = σ.apex ∷ filter (may content) σ.others

-- the old anchors and the new ones that authorise the content are the same afterwards
pub record Kept (content : Content) (old new old' new' : List Anchor) : Type 0 where
  pub of_old : filter (may content) old' ≡ filter (may content) old
  pub of_new : filter (may content) new' ≡ filter (may content) new

module _ (content : Content) where
  -- the number of an anchor that does not authorise the content
  pub keep_number_set : (i n : ℕ) (l : List Anchor) → authorises (get_or (map (λ a. rights_of a.info) l) i nothing) content ≡ false
      → filter (may content) (number_set i n l) ≡ filter (may content) l
  unfolding number_set
  keep_number_set i n [] f = refl
  keep_number_set zero n (a ∷ l) f = keep_out (may content) (numbered n a) l f ∙ sym (keep_out (may content) a l f)
  keep_number_set (suc i) n (a ∷ l) f = keep_cons (may content) a (number_set i n l) l (keep_number_set i n l f)

  -- the signer's number; the apex is no such signer, since it authorises everything
  pub holders-with_number : (i n : ℕ) (σ : Store) → authorises (rights_at σ i) content ≡ false → holders content (with_number i n σ) ≡ holders content σ
  unfolding with_number
  holders-with_number zero n σ f = absurd (true≢false (sym (apex-authorises content) ∙ f))
  holders-with_number (suc i) n σ f = ap (λ r. σ.apex ∷ r) (keep_number_set i n σ.others f)

  -- the numbers of appended anchors, none of which authorises the content
  may_seq_number : (p : List ℕ × ℕ) (a : Anchor) → may content (with_seq_number p a) ≡ may content a
  unfolding with_seq_number
  may_seq_number p a = by_test (same (identifier_of a) p.0) (λ t. rw (t, with_seq_number)) (λ t. rw (t, with_seq_number))

  pub keep_seq_numbers : (ps : List (List ℕ × ℕ)) (new : List Anchor) → filter (may content) new ≡ [] → filter (may content) (with_seq_numbers ps new) ≡ []
  unfolding with_seq_numbers
  keep_seq_numbers [] new e = e
  keep_seq_numbers (p ∷ ps) new e = keep_seq_numbers ps (map (with_seq_number p) new) (keep_map-none (may content) (with_seq_number p) (may_seq_number p) new e)

-- the entries, by a signer that does not authorise the content
module _ (content : Content) (rights : Rights) (silent : authorises rights content ≡ false) where
  -- an anchor that is within the signer does not authorise it
  below-signer : (t : List ℕ) → within rights (rights_of t) ≡ true → authorises (rights_of t) content ≡ false
  below-signer t w = below rights (rights_of t) content w silent

  same-anchors : (old new : List Anchor) → Kept content old new old new
  same-anchors old new = record { of_old = refl; of_new = refl }

  pub kept-added : (apex : Anchor) (old new : List Anchor) (t : List ℕ)
      → let d = added rights apex old new t in Kept content old new d.old d.new
  unfolding added
  kept-added apex old new t =
      let K : Step → Type 0 = λ d. Kept content old new d.old d.new in
      let none : Kept content old new old new = same-anchors old new in
      by_given K _ (λ _. none) (λ _.
      by_given K _ (λ _. none) (λ w.
      by_given K _ (λ _. none) (λ _.
      by_given K _ (λ _. none) (λ _.
      by_given K _ (λ _. none) (λ _.
      record { of_old = refl; of_new = keep_last_out (may content) new (unnumbered t) (below-signer t (not-false _ w)) })))))

  -- anchors taken out that are within the signer
  keep_without : (key : List ℕ) (l : List Anchor) → any_of (λ a. has_key key a && not (within rights (rights_of a.info))) l ≡ false
      → filter (may content) (without key l) ≡ filter (may content) l
  unfolding any_of filter
  keep_without key [] f = refl
  keep_without key (a ∷ l) f =
      let p : Anchor → Bool = λ a. not (has_key key a) in
      let h = neither (has_key key a && not (within rights (rights_of a.info))) _ f in
      let ih = keep_without key l h.1 in
      by_test (has_key key a)
      (λ t.
      let w = not-false (within rights (rights_of a.info)) (rw t at h.0) in
      ap (filter (may content)) (keep_out p a l (ap not t)) ∙ ih ∙ sym (keep_out (may content) a l (below-signer a.info w)))
      (λ t. ap (filter (may content)) (keep_in p a l (ap not t)) ∙ keep_cons (may content) a (without key l) l ih)

  pub kept-removed : (apex : Anchor) (old new : List Anchor) (key : List ℕ)
      → let d = removed rights apex old new key in Kept content old new d.old d.new
  unfolding removed
  kept-removed apex old new key =
      let K : Step → Type 0 = λ d. Kept content old new d.old d.new in
      let none : Kept content old new old new = same-anchors old new in
      let outside : Anchor → Bool = λ a. has_key key a && not (within rights (rights_of a.info)) in
      by_given K _ (λ _. none) (λ _.
      by_given K _ (λ _. none) (λ _.
      by_given K _ (λ _. none) (λ f.
      let h = neither _ _ (sym (any_of-append outside old new) ∙ f) in
      record { of_old = keep_without key old h.0; of_new = keep_without key new h.1 })))

  pub kept_step : (s : List ℕ) (apex : Anchor) (old new : List Anchor) (e : Entry)
      → let d = step s rights apex old new e in Kept content old new d.old d.new
  unfolding step
  kept_step s apex old new (entry.Add e) = kept-added apex old new (encoding s e)
  kept_step s apex old new entry.AddCertificate = same-anchors old new
  kept_step s apex old new (entry.Remove e) = kept-removed apex old new (untagged (encoding s e))
  kept_step s apex old new entry.Change = same-anchors old new

  pub kept-steps : (s : List ℕ) (apex : Anchor) (old new : List Anchor) (es : List Entry)
      → let d = steps s rights apex old new es in Kept content old new d.old d.new
  unfolding steps
  kept-steps s apex old new [] = same-anchors old new
  kept-steps s apex old new (e ∷ es) =
      let d = step s rights apex old new e in
      let one = kept_step s apex old new e in
      let rest = kept-steps s apex d.old d.new es in
      record { of_old = rest.of_old ∙ one.of_old; of_new = rest.of_new ∙ one.of_new }

  -- what a message of each type does
  holders_update : (s : List ℕ) (q : Request) (σ : Store) → holders content (update_effect s q rights σ).store ≡ holders content σ
  unfolding update_effect
  holders_update s q σ =
      let entries = entries_in s q.updates in
      let done = steps s rights σ.apex σ.others [] entries in
      let kept = kept-steps s σ.apex σ.others [] entries in
      let numbers = seq_numbers_in s q.numbers in
      let new : filter (may content) (with_seq_numbers numbers done.new) ≡ [] = keep_seq_numbers content numbers done.new (kept.of_new ∙ keep_none (may content)) in
      by_test (ltb max_updates (length entries))
      (λ t. rw (t, update_effect))
      (λ t. rw (t, update_effect)
      (ap (λ r. σ.apex ∷ r)
      (keep_append (may content) done.old (with_seq_numbers numbers done.new) ∙ ap₂ ◌++◌ kept.of_old new ∙ append-nil _)))

  holders-effect_of : (kind : TampType) (s : List ℕ) (q : Request) (σ : Store) → holders content (effect_of kind s q rights σ).store ≡ holders content σ
  unfolding effect_of query_effect adjust_effect community_effect
  holders-effect_of StatusQuery s q σ = refl
  holders-effect_of Update s q σ = holders_update s q σ
  holders-effect_of CommunityUpdate s q σ = refl
  holders-effect_of SeqNumAdjust s q σ = refl

-- what an accepted message does, where its signer does not authorise the content
pub holders-effect : (content : Content) (s : List ℕ) (q : Request) (i : ℕ) (σ : Store) → authorises (rights_at σ i) content ≡ false
    → holders content (effect s q i σ).store ≡ holders content σ
unfolding effect
holders-effect content s q i σ f =
    let n = q.number in
    holders-effect_of content (rights_at σ i) f q.kind s q (with_number i n σ) ∙ holders-with_number content i n σ f
