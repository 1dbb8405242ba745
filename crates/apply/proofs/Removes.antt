-- 01, After acceptance, remove: one law for each way through its checks.
use Rattle.std.specs.Prelude.{Option, Some, None, Ok, Err}
use Prim.Native.Nat.{ℕ, suc, ◌+◌, ◌≤◌, ◌<◌}
use native.Mathlib.Omega.{arith}
use mathlib.Core.Bool.{Bool, true, false, not, ◌&&◌}
use mathlib.Core.List.{List, ◌∷◌, ◌++◌, map}
use mathlib.Core.Path.{◌≡◌, refl, sym, ap, ◌∙◌}
use lib.ListN.{length, take, length-append}
use lib.Dec.{leb}
use borrow.Author.Tests.{leb-true, leb-false}
use Rattle.octets.specs.Status.{success, not_authorized, apex_tamp_anchor, trust_anchor_not_found}
use Rattle.octets.specs.First.{given_if}
use Rattle.octets.specs.Lists.{any_of, filter}
use Rattle.octets.proofs.Lists.{by_test, distinct_parts}
use Rattle.rights.specs.Rights.{Rights}
use Rattle.rights.specs.Decision.{within}
use Rattle.anchor.specs.Info.{rights_of}
use Rattle.store.specs.declared.Sought.TheVariants.{TaggedPublicKey}
use Rattle.store.specs.Store.{Anchor, Store, anchors, public_key_of}
use Rattle.store.specs.Records.{records_of}
use Rattle.store.specs.Contract.Parts.{info_in, is_sought, first_from}
use Rattle.store.proofs.Parts.{is_at, first_any}
use Rattle.store.specs.Steps.{with_others}
use Rattle.protocol.specs.Update.{Step, has_key, without, removed}
use Rattle.protocol.proofs.Lists.{keep_append}
use Rattle.protocol.proofs.WellFormed.{ValidAnchors, valid_removed}
use Rattle.apply.specs.Contract.Scratch.{Holds, Scratch, info_at}
use Rattle.apply.specs.Contract.Edits.{CanRemove, RemovesAnchor}
use Rattle.anchor.specs.Info.{untagged}
use Rattle.apply.specs.Contract.Entry.{Applies}
use Rattle.apply.proofs.Held.{search_is, info_is}
use Rattle.apply.proofs.Found.{First, head_found, later-found, any_one, keep_rest, kept_front}
use Rattle.apply.proofs.Stored.{key_once}
use Rattle.apply.proofs.Adds.{scratch, with_anchors, valid_anchors, unmoved}

module _ (rights : Rights) (wanted : List ℕ) where
  abbrev removing : Anchor → List Anchor → List Anchor → Step
  removing apex old new = removed rights apex old new (untagged wanted)

  abbrev wanted_in : Anchor → Bool
  wanted_in = has_key (untagged wanted)

  module _ (d : List ℕ) (len : ℕ) {p : Option ℕ} (f : p ≡ first_from 0 (is_sought TaggedPublicKey wanted) (map info_in (records_of (take len d)))) where
    found_in : (σ : Store) → Holds σ d len → first_from 0 wanted_in (anchors σ) ≡ p
    unfolding is_sought
    found_in σ h = search_is σ d len h TaggedPublicKey wanted f

    -- 25
    pub remove_none : {k : ℕ} → p ≡ None → Applies removing (scratch d len k) (Err trust_anchor_not_found) (scratch d len k)
    unfolding removed given_if
    remove_none e =
        unmoved removing (λ σ old new h.
        let τ = with_others (old ++ new) σ in
        let n : any_of wanted_in (anchors τ) ≡ false = sym (first_any wanted_in 0 (anchors τ)) ∙ ap is_at (found_in τ h.holds ∙ e) in
        rw n)

    module _ {j : ℕ} (e : p ≡ Some j) where
      is_there : (σ : Store) → Holds σ d len → any_of wanted_in (anchors σ) ≡ true
      is_there σ h = sym (first_any wanted_in 0 (anchors σ)) ∙ ap is_at (found_in σ h ∙ e)

      -- 19
      pub remove_apex : {k : ℕ} → j ≡ 0 → Applies removing (scratch d len k) (Err apex_tamp_anchor) (scratch d len k)
      unfolding removed given_if
      remove_apex z =
          unmoved removing (λ σ old new h.
          let τ = with_others (old ++ new) σ in
          let a = head_found wanted_in σ.apex (old ++ new) (found_in τ h.holds ∙ e ∙ ap Some z) in
          rw (is_there τ h.holds, a))

      module _ (n : j ≡ 0 → ⊥) where
        -- the anchor at the position is the one with the key
        record There (σ : Store) : Type 0 where
          apex : wanted_in σ.apex ≡ false
          k : ℕ
          place : j ≡ suc k
          first : First wanted_in σ.others k
          alone : any_of wanted_in first.after ≡ false
          info : info_at (take len d) j ≡ first.here.info

        there : (σ : Store) → Holds σ d len → There σ
        there σ h =
            let l = later-found wanted_in σ.apex σ.others j (found_in σ h ∙ e) n in
            let k = l.1.0 in
            let q = l.1.1 in
            let f = l.1.2 in
            let x = σ.apex ∷ f.before in
            let s : j ≡ length x = omega (arith, f.place) in
            let keys = (distinct_parts (public_key_of σ.apex) (map public_key_of σ.others) (valid_anchors σ h.valid).keys).1 in
            record {
              apex = l.0;
              k = k;
              place = q;
              first = f;
              alone = key_once (untagged wanted) σ.others f keys;
              info = ap (info_at (take len d)) s ∙ info_is σ d len h x f.after f.here (ap (λ (r : List Anchor). σ.apex ∷ r) f.parts);
            }

        abbrev above : Anchor → Bool
        above a = not (within rights (rights_of a.info))

        -- whether the signer is above it
        judged : (σ : Store) (h : Holds σ d len) {t : List ℕ} → t ≡ info_at (take len d) j → {b : Bool} → b ≡ within rights (rights_of t)
            → any_of (λ a. wanted_in a && above a) σ.others ≡ not b
        judged σ h {t} q {b} w =
            let v = there σ h in
            let f = v.first in
            ap (any_of (λ a. wanted_in a && above a)) f.parts
            ∙ any_one wanted_in f.before f.after f.here f.passes f.fails v.alone above
            ∙ ap not (ap (λ (i : List ℕ). within rights (rights_of i)) (sym (q ∙ v.info)) ∙ sym w)

        -- 11
        pub remove_outside : {k : ℕ} {t : List ℕ} → t ≡ info_at (take len d) j → {b : Bool} → b ≡ within rights (rights_of t) → b ≡ false
            → Applies removing (scratch d len k) (Err not_authorized) (scratch d len k)
        unfolding removed given_if
        remove_outside q w y =
            unmoved removing (λ σ old new h.
            let τ = with_others (old ++ new) σ in
            rw (is_there τ h.holds, (there τ h.holds).apex, judged τ h.holds q w ∙ ap not y))

        module _ {t : List ℕ} (q : t ≡ info_at (take len d) j) {b : Bool} (w : b ≡ within rights (rights_of t)) (y : b ≡ true) where
          -- "else 0, later anchors move up"
          removes : (σ : Store) (old new : List Anchor) → Holds (with_others (old ++ new) σ) d len
              → removing σ.apex old new ≡ record { status = success; old = without (untagged wanted) old; new = without (untagged wanted) new }
          unfolding removed given_if
          removes σ old new h =
              let τ = with_others (old ++ new) σ in
              rw (is_there τ h, (there τ h).apex, judged τ h q w ∙ ap not y)

          pub remove_cuttable : Scratch d len → CanRemove d len j
          remove_cuttable s =
              let σ = s.store in
              let v = there σ s.holds in
              let f = v.first in
              record {
                store = σ;
                holds = s.holds;
                after = omega (arith, v.place);
                inside = omega (arith, v.place, f.place, ap length f.parts, length-append f.before (f.here ∷ f.after));
              }

          -- how many of the old ones are left
          abbrev left : ℕ → ℕ → Type 0
          left k m = (j ≤ k → m + 1 ≡ k) × (k < j → m ≡ k)

          pub remove_cuts : {k m r : ℕ} {d' : List ℕ} → left k m → RemovesAnchor d len j r d' → Applies removing (scratch d len k) (Ok tt) (scratch d' r m)
          remove_cuts {k} {m} {r} {d'} c u =
              record {
                room = u.room;
                does = λ σ old new h.
                    let τ = with_others (old ++ new) σ in
                    let v = there τ h.holds in
                    let f = v.first in
                    let x = f.before in
                    let rest = f.after in
                    let kept : without (untagged wanted) old ++ without (untagged wanted) new ≡ x ++ rest =
                    sym (keep_append (λ a. not (wanted_in a)) old new)
                    ∙ ap (filter (λ a. not (wanted_in a))) f.parts
                    ∙ keep_rest wanted_in x rest f.here f.passes f.fails v.alone
                    in
                    let g = valid_removed rights σ.apex old new (untagged wanted) (valid_anchors τ h.holds.valid) in
                    let g₁ : ValidAnchors (σ.apex ∷ (without (untagged wanted) old ++ without (untagged wanted) new)) = rw (removes σ old new h.holds) at g in
                    let g₂ = with_anchors τ (x ++ rest) h.holds.valid (rw kept at g₁) in
                    let counts = kept_front wanted_in x rest f.here old new f.passes f.fails v.alone f.parts in
                    rw (removes σ old new h.holds)
                    (record {
                      status = refl;
                      after =
                          record {
                            holds = rw kept (u.cuts τ x rest f.here h.holds f.parts (ap suc f.place ∙ sym v.place) g₂);
                            count =
                                by_test (leb j k)
                                (λ t.
                                let l = leb-true j k t in
                                omega (arith, c.0 l, counts.0 (omega (arith, f.place, v.place, h.count, l)), h.count))
                                (λ t.
                                let l = leb-false j k t in
                                omega (arith, c.1 l, counts.1 (omega (arith, f.place, v.place, h.count, l)), h.count));
                          };
                    });
              }
