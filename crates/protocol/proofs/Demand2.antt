-- The theorem of demand 2's last sentence (specs/Demand2), from the add's row 11 and the theorem on rights (rights, proofs/Within).
use Prim.Native.Nat.{ℕ, zero, suc, ◌≤◌, ◌<◌}
use native.Mathlib.Omega.{arith}
use mathlib.Core.Bool.{true, true≢false}
use mathlib.Core.List.{List, [], ◌∷◌}
use mathlib.Core.Logic.{◌↔◌}
use mathlib.Core.Path.{◌≡◌, refl, sym, ◌∙◌, ap, subst}
use lib.ListN.{length, get_or}
use lib.Dec.{ltb}
use borrow.Author.Tests.{not-true, not-false, ltb-true}
use Rattle.octets.specs.declared.Status.{Status}
use Rattle.octets.specs.Status.{success, not_authorized}
use Rattle.octets.specs.Limits.{max_updates}
use Rattle.octets.specs.Octets.{Octets}
use Rattle.octets.proofs.Lists.{by_test}
use Rattle.der.specs.declared.Element.{Element}
use Rattle.der.specs.Element.{encoding}
use Rattle.syntax.proofs.Rules.{octets_slice}
use Rattle.syntax.specs.declared.TampType.TheVariants.{Update}
use Rattle.rights.specs.Rights.{Rights, Outside}
use Rattle.rights.proofs.Witness.{ValidRights, valid_outside}
use Rattle.rights.proofs.Within.{within_iff, outside_iff, not-both}
use Rattle.anchor.specs.Info.{rights_of}
use Rattle.anchor.specs.Judge.{judge, passes}
use Rattle.anchor.proofs.Passed.{valid_rights}
use Rattle.store.specs.Store.{Anchor, Store}
use Rattle.message.specs.declared.Request.{Request}
use Rattle.message.specs.declared.Entry.{Entry}
use Rattle.message.specs.declared.Entry.TheVariants as entry
use Rattle.protocol.specs.Acceptance.{rights_at}
use Rattle.protocol.specs.Update.{Step, added, step, steps}
use Rattle.protocol.specs.Effect.{with_number, update_effect, effect_of, effect}
use Rattle.protocol.specs.Demand2.{entries_of, Exactly, Confirms, Demand2}
use Rattle.protocol.proofs.Lists.{by_given}
use Rattle.protocol.proofs.Answer.{accepted_reply}
use Rattle.protocol.proofs.ValidStore.{signer_valid}

-- a status that is not 11
other_status : {status : Status} → (status.number ≡ 11 → ⊥) → status ≡ not_authorized → ⊥
other_status n e = n (ap (λ (s : Status). s.number) e)

module _ (rights : Rights) (apex : Anchor) (old new : List Anchor) (t : List ℕ) where
  -- an add that passes 34, and 17 for size
  add_iff : passes (judge t) ≡ true → ((added rights apex old new t).status ≡ not_authorized) ↔ Outside rights (rights_of t)
  unfolding added
  add_iff p =
      let K : Step → Type 0 = λ d. (d.status ≡ not_authorized) ↔ Outside rights (rights_of t) in
      by_given K _ (λ f. absurd (true≢false (sym p ∙ not-true _ f))) (λ _.
      by_given K _ (λ f. (λ _. (outside_iff rights (rights_of t)).0 (not-true _ f), λ _. refl)) (λ f.
      let inside = (within_iff rights (rights_of t)).0 (not-false _ f) in
      by_given K _ (λ _. (λ e. absurd (other_status (λ z. omega arith) e), not-both rights (rights_of t) inside)) (λ _.
      by_given K _ (λ _. (λ e. absurd (other_status (λ z. omega arith) e), not-both rights (rights_of t) inside)) (λ _.
      by_given K _ (λ _. (λ e. absurd (other_status (λ z. omega arith) e), not-both rights (rights_of t) inside)) (λ _.
      (λ e. absurd (other_status (λ z. omega arith) e), not-both rights (rights_of t) inside))))))

module _ (s : List ℕ) (rights : Rights) (apex : Anchor) where
  -- a status per entry
  pub steps-count : (old new : List Anchor) (es : List Entry) → length (steps s rights apex old new es).statuses ≡ length es
  unfolding steps
  steps-count old new [] = refl
  steps-count old new (e ∷ es) =
      let d = step s rights apex old new e in
      ap suc (steps-count d.old d.new es)

  -- that of each add
  steps_iff : (old new : List Anchor) (es : List Entry) (k : ℕ) (e : Element) → k < length es → get_or es k entry.Change ≡ entry.Add e → passes (judge (encoding s e)) ≡ true
      → (get_or (steps s rights apex old new es).statuses k success ≡ not_authorized) ↔ Outside rights (rights_of (encoding s e))
  unfolding steps step
  steps_iff old new [] k e h g p = absurd (omega arith)
  steps_iff old new (x ∷ es) zero e h g p =
      rw g (add_iff rights apex old new (encoding s e) p)
  steps_iff old new (x ∷ es) (suc k) e h g p =
      let d = step s rights apex old new x in
      steps_iff d.old d.new es k e (omega arith) g p

-- .. among contents by DER, where the rights of both have valid keys
exactly : {status : Status} {signer new : Rights} → ValidRights signer → ValidRights new → (status ≡ not_authorized) ↔ Outside signer new → Exactly status signer new
exactly {signer = signer} {new = new} vs vn i =
    (i, (λ e. valid_outside signer new vs vn ((outside_iff signer new).1 (i.0 e)), λ o. i.1 (o.0, o.2, o.3)))

module _ (s : List ℕ) (o : Octets s) (q : Request) (rights : Rights) (valid : ValidRights rights) (σ : Store) where
  update_confirms : length (entries_of s q) ≤ max_updates → Confirms s q rights (update_effect s q rights σ).reply
  unfolding update_effect
  update_confirms n =
      by_test (ltb max_updates (length (entries_of s q)))
      (λ t. absurd (omega (arith, ltb-true max_updates (length (entries_of s q)) t)))
      (λ t.
      record {
        statuses = (steps s rights σ.apex σ.others [] (entries_of s q)).statuses;
        confirm = rw (t, update_effect);
        per_entry = steps-count s rights σ.apex σ.others [] (entries_of s q);
        adds =
            λ k e h g p.
            exactly valid (valid_rights (encoding s e) (octets_slice s e.at e.stop o) p) (steps_iff s rights σ.apex σ.others [] (entries_of s q) k e h g p);
      })

effect_confirms : (s : List ℕ) → Octets s → (q : Request) (i : ℕ) (σ : Store) → ValidRights (rights_at σ i) → q.kind ≡ Update
    → length (entries_of s q) ≤ max_updates → Confirms s q (rights_at σ i) (effect s q i σ).reply
unfolding effect effect_of
effect_confirms s o q i σ v k n =
    let after = with_number i q.number σ in
    subst (λ kind. Confirms s q (rights_at σ i) (effect_of kind s q (rights_at σ i) after).reply) (sym k) (update_confirms s o q (rights_at σ i) v after n)

pub demand2 : Demand2
demand2 s image verdict reply_lent next_lent status offset reply next o os e σ d q i j k n =
    rw (accepted_reply s image verdict reply_lent next_lent σ d e q i j) (effect_confirms s o q i σ (signer_valid image σ os d i) k n)
