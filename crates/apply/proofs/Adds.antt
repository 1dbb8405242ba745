-- 01, After acceptance, add: one law for each way through its checks.
use Rattle.std.specs.Prelude.{Result, IsErrAnd, Option, Some, None, Ok, Err}
use Prim.Native.Nat.{ℕ, ◌≤◌, ◌<◌}
use native.Mathlib.Omega.{arith}
use mathlib.Core.Bool.{Bool, true, false}
use mathlib.Core.List.{List, [], ◌∷◌, ◌++◌, map, append_assoc, append-nil}
use mathlib.Core.Path.{◌≡◌, refl, sym, ap, ◌∙◌}
use lib.ListN.{length, take}
use borrow.Author.Tests.{le-leb, lt-leb}
use Rattle.octets.specs.declared.Status.{Status}
use Rattle.octets.specs.Status.{success, not_authorized, insufficient_memory, improper_ta_addition}
use Rattle.octets.specs.First.{given_if}
use Rattle.octets.specs.Lists.{any_of}
use Rattle.octets.specs.Octets.{same}
use Rattle.rights.specs.Rights.{Rights}
use Rattle.rights.specs.Decision.{within}
use Rattle.anchor.specs.Info.{public_key, rights_of}
use Rattle.anchor.specs.declared.AnchorFault.{AnchorFault}
use Rattle.anchor.specs.Judge.{judge, check_status as judgedStatus, fault_status}
use Rattle.store.specs.declared.Sought.TheVariants.{PublicKey}
use Rattle.store.specs.Store.{Anchor, Store, anchors}
use Rattle.store.specs.Image.{well_formed}
use Rattle.store.specs.Records.{records_of}
use Rattle.store.specs.Contract.Parts.{anchor_count, info_in, is_sought, first_from}
use Rattle.store.proofs.Formats.{rules, from_rules}
use Rattle.store.proofs.Parts.{is_at, first_any}
use Rattle.store.specs.Steps.{with_others}
use Rattle.edit.specs.Contract.Edits.{one_more}
use Rattle.protocol.specs.Update.{Step, unnumbered, unchanged, added, has_key}
use Rattle.protocol.proofs.WellFormed.{ValidAnchors, valid_added}
use Rattle.apply.specs.declared.scratch.ScratchImage.{ScratchImage}
use Rattle.apply.specs.Contract.Scratch.{Holds, Scratch, HoldsBoth, info_at}
use Rattle.apply.specs.Contract.Edits.{Growable, Appends}
use Rattle.apply.specs.Contract.Entry.{Applies, Conforming}
use Rattle.apply.proofs.Held.{search_is, info_is, counted}
use Rattle.apply.proofs.Found.{first_at}
use Rattle.apply.proofs.Stored.{octets_nowhere, octets_once}

-- other anchors after the apex, of which the rules for anchors hold
pub with_anchors : (σ : Store) (l : List Anchor) → well_formed σ ≡ true → ValidAnchors (σ.apex ∷ l) → well_formed (with_others l σ) ≡ true
with_anchors σ l g a =
    let p = rules σ g in
    from_rules (with_others l σ)
    (record {
      hw_type = p.hw_type;
      hw_type_oid = p.hw_type_oid;
      serial = p.serial;
      anchor_count_lem = a.count;
      each_anchor = a.each;
      keys = a.keys;
      community_count = p.community_count;
      each_community = p.each_community;
      communities = p.communities;
    })

pub valid_anchors : (σ : Store) → well_formed σ ≡ true → ValidAnchors (anchors σ)
valid_anchors σ g =
    let p = rules σ g in
    record { count = p.anchor_count_lem; each = p.each_anchor; keys = p.keys }

-- the scratch image of these octets
abbrev pub scratch : List ℕ → ℕ → ℕ → ScratchImage
scratch d len k = record { octets = d; len = len; former = k }

-- a step that changes nothing
pub unmoved : (f : Anchor → List Anchor → List Anchor → Step) {w : ScratchImage} {status : Status}
    → ((σ : Store) (old new : List Anchor) → HoldsBoth σ old new w.octets w.len w.former → f σ.apex old new ≡ unchanged status old new)
    → Applies f w (Err status) w
unmoved f e =
    record {
      room = refl;
      does = λ σ old new h.
          rw (e σ old new h)
          (record { status = refl; after = h });
    }

module _ (rights : Rights) (t : List ℕ) where
  abbrev adding : Anchor → List Anchor → List Anchor → Step
  adding apex old new = added rights apex old new t

  module _ (d : List ℕ) (len : ℕ) where
    -- 34, and 17 for size
    pub add_judged : {k : ℕ} {fault : AnchorFault} (r : Result (Unit {0}) Status) → judge t ≡ Err fault → IsErrAnd r (λ status. status ≡ fault_status fault)
        → Applies adding (scratch d len k) r (scratch d len k)
    unfolding added given_if judgedStatus
    add_judged (Err status) e v = unmoved adding (λ σ old new h. rw (e, v))
    add_judged (Ok _) e v = absurd v

    module _ (pass : judge t ≡ Ok tt) where
      -- 11
      pub add_outside : {k : ℕ} {b : Bool} → b ≡ within rights (rights_of t) → b ≡ false → Applies adding (scratch d len k) (Err not_authorized) (scratch d len k)
      unfolding added given_if
      add_outside p q = unmoved adding (λ σ old new h. rw (pass, sym p ∙ q))

      module _ {b : Bool} (p : b ≡ within rights (rights_of t)) (q : b ≡ true) where
        in_signer : within rights (rights_of t) ≡ true
        in_signer = sym p ∙ q

        module _ {key : List ℕ} (public : key ≡ public_key t) {found : Option ℕ}
            (search : found ≡ first_from 0 (is_sought PublicKey key) (map info_in (records_of (take len d)))) where
          found_in : (σ : Store) → Holds σ d len → first_from 0 (has_key (public_key t)) (anchors σ) ≡ found
          unfolding is_sought
          found_in σ h = ap (λ (k : List ℕ). first_from 0 (has_key k) (anchors σ)) (sym public) ∙ search_is σ d len h PublicKey key search

          key_stored : (σ : Store) → Holds σ d len → any_of (has_key (public_key t)) (anchors σ) ≡ is_at found
          key_stored σ h = sym (first_any (has_key (public_key t)) 0 (anchors σ)) ∙ ap is_at (found_in σ h)

          module _ {j : ℕ} (there : found ≡ Some j) {s : List ℕ} (info : s ≡ info_at (take len d) j) {a : Bool} (equal : a ≡ same s t) where
            -- the anchor found is the only one that can have t's octets
            octets_stored : (σ : Store) → Holds σ d len → any_of (λ b. same b.info t) (anchors σ) ≡ a
            octets_stored σ h =
                let (k, y, f) = first_at (has_key (public_key t)) 0 j (anchors σ) (found_in σ h ∙ there) in
                let l : j ≡ length f.before = omega (arith, y, f.place) in
                let here : s ≡ f.here.info = info ∙ ap (info_at (take len d)) l ∙ info_is σ d len h f.before f.after f.here f.parts in
                octets_once t (anchors σ) f (valid_anchors σ h.valid).keys
                ∙ ap (λ (o : List ℕ). same o t) (sym here)
                ∙ sym equal

            -- "0 with no change if the same octets are stored"
            pub add_same : {k : ℕ} → a ≡ true → Applies adding (scratch d len k) (Ok tt) (scratch d len k)
            unfolding added given_if
            add_same y =
                record {
                  room = refl;
                  does = λ σ old new h.
                      let f : adding σ.apex old new ≡ unchanged success old new = rw (pass, in_signer, octets_stored (with_others (old ++ new) σ) h.holds ∙ y) in
                      rw f (record { status = refl; after = h });
                }

            -- "20 if the public key is stored otherwise"
            pub add_key : {k : ℕ} → a ≡ false → Applies adding (scratch d len k) (Err improper_ta_addition) (scratch d len k)
            unfolding added given_if
            add_key y =
                unmoved adding (λ σ old new h.
                let τ = with_others (old ++ new) σ in
                rw (pass, in_signer, octets_stored τ h.holds ∙ y, key_stored τ h.holds ∙ ap is_at there))

          module _ (nowhere : found ≡ None) where
            no_key : (σ : Store) → Holds σ d len → any_of (has_key (public_key t)) (anchors σ) ≡ false
            no_key σ h = key_stored σ h ∙ ap is_at nowhere

            no_octets : (σ : Store) → Holds σ d len → any_of (λ b. same b.info t) (anchors σ) ≡ false
            no_octets σ h = octets_nowhere t (anchors σ) (no_key σ h)

            -- "17 at 32 anchors"
            pub add_full : {k n : ℕ} → n ≡ anchor_count (take len d) → 32 ≤ n → Applies adding (scratch d len k) (Err insufficient_memory) (scratch d len k)
            unfolding added given_if
            add_full c y =
                unmoved adding (λ σ old new h.
                let τ = with_others (old ++ new) σ in
                let l : 32 ≤ length (anchors τ) = omega (arith, c, counted τ d len h.holds) in
                rw (pass, in_signer, no_octets τ h.holds, no_key τ h.holds, le-leb 32 (length (anchors τ)) l))

            module _ {n : ℕ} (c : n ≡ anchor_count (take len d)) (room : n < 32) (conforming : Conforming t) where
              -- "else appended without a number, 0"
              appended : (σ : Store) (old new : List Anchor) → Holds (with_others (old ++ new) σ) d len
                  → adding σ.apex old new ≡ record { status = success; old = old; new = new ++ (unnumbered t ∷ []) }
              unfolding added given_if
              appended σ old new h =
                  let τ = with_others (old ++ new) σ in
                  let l : length (anchors τ) < 32 = omega (arith, c, counted τ d len h) in
                  rw (pass, in_signer, no_octets τ h, no_key τ h, lt-leb 32 (length (anchors τ)) l)

              fits : (σ : Store) (old new : List Anchor) → Holds (with_others (old ++ new) σ) d len → well_formed (one_more t (with_others (old ++ new) σ)) ≡ true
              fits σ old new h =
                  let g = valid_added rights σ.apex old new t conforming (valid_anchors (with_others (old ++ new) σ) h.valid) in
                  with_anchors (with_others (old ++ new) σ) ((old ++ new) ++ (unnumbered t ∷ [])) h.valid
                  (rw (append_assoc old new (unnumbered t ∷ [])) (rw (appended σ old new h) at g))

              -- an anchor more has room
              pub add_grows : Scratch d len → Growable d len t
              add_grows w =
                  let σ = w.store in
                  let e = append-nil σ.others in
                  record {
                    room = w.room;
                    store = σ;
                    holds = w.holds;
                    fits = rw e at (fits σ σ.others [] (rw e w.holds));
                  }

              pub add_appends : {k r : ℕ} {d' : List ℕ} → Appends d len t r d' → Applies adding (scratch d len k) (Ok tt) (scratch d' r k)
              add_appends w =
                  record {
                    room = w.room;
                    does = λ σ old new h.
                        rw (appended σ old new h.holds)
                        (record {
                          status = refl;
                          after =
                              record {
                                holds = rw (← append_assoc old new (unnumbered t ∷ [])) (w.appends (with_others (old ++ new) σ) h.holds (fits σ old new h.holds));
                                count = h.count;
                              };
                        });
                  }
