-- 01, After acceptance, Update: "tampSeqNumbers in order: each sets the number of every anchor with that identifier that this message appended and that still stands".
use Rattle.std.specs.Prelude.{Some}
use Prim.Native.Nat.{ℕ, suc, ◌+◌, ◌≤◌, ◌<◌}
use native.Mathlib.Omega.{arith}
use mathlib.Core.Bool.{Bool, true, false}
use mathlib.Core.List.{List, [], ◌∷◌, ◌++◌, map, append_assoc, append-nil}
use mathlib.Core.Path.{◌≡◌, refl, sym, ap, ap₂, ◌∙◌}
use lib.ListN.{length, take, length-append}
use Rattle.octets.specs.Limits.{max_number}
use Rattle.octets.specs.Octets.{same, placed}
use Rattle.octets.proofs.Lists.{both}
use Rattle.octets.proofs.Placed.{length-placed}
use Rattle.store.specs.Store.{Anchor, Store, anchors, identifier_of}
use Rattle.store.specs.Image.{encode_number, encode, well_formed}
use Rattle.store.specs.Contract.Parts.{anchor_count, record_end, record_at, place_of, info_in, identifier_in}
use Rattle.store.proofs.Formats.{rules}
use Rattle.store.proofs.Sizes.{length-encode_number}
use Rattle.store.specs.Steps.{with_others}
use Rattle.store.proofs.Standing.{up_to, next_place, place_is, info_here}
use Rattle.edit.proofs.Replaced.{take-placed}
use Rattle.protocol.specs.Update.{numbered, with_seq_number}
use Rattle.protocol.specs.Effect.{number_set, with_number}
use Rattle.protocol.proofs.WellFormed.{Good, valid_with_number}
use Rattle.apply.specs.Contract.Scratch.{Holds, HoldsBoth, ScratchBoth}
use Rattle.apply.specs.Contract.Edits.{CanNumber, NumbersAt}
use Rattle.apply.proofs.Edits.{number_set_at, set-number_law}
use Rattle.apply.proofs.Held.{counted, record_end_is, inside_is}
use Rattle.apply.proofs.Held as held
use Rattle.apply.proofs.Adds.{with_anchors, valid_anchors}

valid_of : (σ : Store) → well_formed σ ≡ true → Good σ
valid_of σ g =
    let p = rules σ g in
    record {
      of_device = both (both p.hw_type p.hw_type_oid) p.serial;
      of_anchors = valid_anchors σ g;
      of_communities = record { count = p.community_count; each = p.each_community; apart = p.communities };
    }

numbered_valid : (σ : Store) (x y : List Anchor) (a : Anchor) (n : ℕ) → σ.others ≡ x ++ (a ∷ y) → n ≤ max_number → well_formed σ ≡ true
    → well_formed (with_others (x ++ (numbered n a ∷ y)) σ) ≡ true
unfolding with_number
numbered_valid σ x y a n e b g =
    let w = (valid_with_number (suc (length x)) n σ b (valid_of σ g)).of_anchors in
    with_anchors σ (x ++ (numbered n a ∷ y)) g (rw (e, number_set_at n x y a) at w)

-- one anchor

module _ {d : List ℕ} {len p n : ℕ} (w : CanNumber d len p n) where
  pub stamp_inside : p + 9 ≤ len
  stamp_inside =
      let σ = w.store in
      let x = σ.apex ∷ w.before in
      let all = ap (λ (l : List Anchor). σ.apex ∷ l) w.parts in
      let i = inside_is σ d len w.holds x w.after w.anchor all in
      let q = w.place ∙ place_is σ w.holds.valid x (w.anchor ∷ w.after) all in
      omega (arith, w.holds.inside)

  module _ {found : List ℕ} (f : found ≡ identifier_in (record_at (take len d) p)) (id : List ℕ) {b : Bool} (s : b ≡ same found id) where
    identified : (σ : Store) (x y : List Anchor) (a : Anchor) → Holds σ d len → σ.others ≡ x ++ (a ∷ y) → p ≡ place_of (encode σ) (suc (length x))
        → same (identifier_of a) id ≡ b
    identified σ x y a h e q =
        let all = ap (λ (l : List Anchor). σ.apex ∷ l) e in
        let i : info_in (record_at (take len d) p) ≡ a.info =
        ap₂ (λ (j : ℕ) (r : List ℕ). info_in (record_at r j)) (q ∙ place_is σ h.valid (σ.apex ∷ x) (a ∷ y) all) h.image
        ∙ info_here σ h.valid (σ.apex ∷ x) y a all
        in
        ap (λ (r : List ℕ). same r id) (sym (f ∙ ap (λ (t : List ℕ). identifier_of (record { number = a.number; info = t })) i)) ∙ sym s

    pub stamp_other : b ≡ false → NumbersAt d len p id n d
    unfolding with_seq_number
    stamp_other z =
        record {
          room = refl;
          stamps = λ σ x y a h e q.
              let t : with_seq_number (id, n) a ≡ a = rw (identified σ x y a h e q ∙ z, with_seq_number) in
              rw (t, ← e) h;
        }

    pub stamp_set : b ≡ true → {d' : List ℕ} → d' ≡ placed d p (encode_number (Some n)) → NumbersAt d len p id n d'
    unfolding with_seq_number with_number
    stamp_set y {d'} k =
        let z = length-encode_number (Some n) in
        let b = stamp_inside in
        let j = w.holds.inside in
        let l : length d' ≡ length d = ap length k ∙ length-placed d p (encode_number (Some n)) (omega arith) in
        record {
          room = l;
          stamps = λ σ x v a h e q.
              let t : with_seq_number (id, n) a ≡ numbered n a = rw (identified σ x v a h e q ∙ y, with_seq_number) in
              let m : suc (length x) < length (anchors σ) = omega (arith, ap length e, length-append x (a ∷ v)) in
              rw t
              (record {
                image =
                    ap (take len) k
                    ∙ take-placed d len p (encode_number (Some n)) (omega arith) j
                    ∙ ap₂ (λ (s : List ℕ) (o : ℕ). placed s o (encode_number (Some n))) h.image q
                    ∙ set-number_law σ h.valid (suc (length x)) n m
                    ∙ ap (λ (r : List Anchor). encode (with_others r σ)) (ap (number_set (length x) n) e ∙ number_set_at n x v a);
                inside = omega (arith, h.inside);
                valid = numbered_valid σ x v a n e w.small h.valid;
              });
        }

-- the anchors after the old ones, one after the other

first_of : {A : Type 0} (l : List A) → 1 ≤ length l → (a : A) × (r : List A) × (l ≡ a ∷ r)
first_of [] h = absurd (omega arith)
first_of (a ∷ r) h = (a, r, refl)

module _ (id : List ℕ) (n : ℕ) (d₀ : List ℕ) (len k count : ℕ) where
  abbrev set : Anchor → Anchor
  set = with_seq_number (id, n)

  -- `done` have been seen, `rest` have not
  pub record Seen (σ : Store) (old new : List Anchor) (d : List ℕ) (j p : ℕ) : Type 0 where
    pub done : List Anchor
    pub rest : List Anchor
    pub parts : map set new ≡ done ++ map set rest
    pub holds : HoldsBoth σ old (done ++ rest) d len k
    pub at : j ≡ suc (k + length done)
    pub left : count ≡ j + length rest
    pub place : p ≡ up_to σ (σ.apex ∷ (old ++ done))

  pub record Numbering (d : List ℕ) (j p : ℕ) : Type 0 where
    pub room : length d ≡ length d₀
    pub seen : (σ : Store) (old new : List Anchor) → HoldsBoth σ old new d₀ len k → Seen σ old new d j p

  pub numbering_start : count ≡ anchor_count (take len d₀) → {p : ℕ} → p ≡ place_of (take len d₀) (k + 1) → Numbering d₀ (k + 1) p
  numbering_start c {p} q =
      record {
        room = refl;
        seen = λ σ old new h.
            let τ = with_others (old ++ new) σ in
            let l : k + 1 ≡ length (σ.apex ∷ old) = omega (arith, h.count) in
            record {
              done = [];
              rest = new;
              parts = refl;
              holds = h;
              at = omega arith;
              left = omega (arith, c, counted τ d₀ len h.holds, length-append old new, h.count);
              place =
                  q
                  ∙ ap (place_of (take len d₀)) l
                  ∙ held.place_is τ d₀ len h.holds (σ.apex ∷ old) new refl
                  ∙ ap (λ (r : List Anchor). up_to σ (σ.apex ∷ r)) (sym (append-nil old));
            };
      }

  -- the next one
  record Next (σ : Store) (old new : List Anchor) (d : List ℕ) (j p : ℕ) (v : Seen σ old new d j p) : Type 0 where
    anchor : Anchor
    after : List Anchor
    rest : v.rest ≡ anchor ∷ after
    parts : old ++ (v.done ++ v.rest) ≡ (old ++ v.done) ++ (anchor ∷ after)
    place : p ≡ place_of (encode (with_others (old ++ (v.done ++ v.rest)) σ)) (suc (length (old ++ v.done)))

  next : (σ : Store) (old new : List Anchor) (d : List ℕ) (j p : ℕ) (v : Seen σ old new d j p) → j < count → Next σ old new d j p v
  next σ old new d j p v h =
      let f = first_of v.rest (omega (arith, v.left)) in
      let l = old ++ (v.done ++ v.rest) in
      let e : l ≡ (old ++ v.done) ++ (f.0 ∷ f.1) = ap (λ (r : List Anchor). old ++ (v.done ++ r)) f.2 ∙ sym (append_assoc old v.done (f.0 ∷ f.1)) in
      record {
        anchor = f.0;
        after = f.1;
        rest = f.2;
        parts = e;
        place =
            v.place
            ∙ sym (place_is (with_others l σ) v.holds.holds.valid (σ.apex ∷ (old ++ v.done)) (f.0 ∷ f.1) (ap (λ (r : List Anchor). σ.apex ∷ r) e));
      }

  module _ {d : List ℕ} {j p : ℕ} (w : Numbering d j p) where
    module _ (more : j < count) where
      pub numbering_able : ScratchBoth d₀ len k → n ≤ max_number → CanNumber d len p n
      numbering_able s b =
          let σ = s.store in
          let v = w.seen σ s.old s.new s.holds in
          let m = next σ s.old s.new d j p v more in
          record {
            store = with_others (s.old ++ (v.done ++ v.rest)) σ;
            holds = v.holds.holds;
            before = s.old ++ v.done;
            anchor = m.anchor;
            after = m.after;
            parts = m.parts;
            place = m.place;
            small = b;
          }

      module _ {d' : List ℕ} (s : NumbersAt d len p id n d') {p' : ℕ} (q : p' ≡ record_end (take len d') p) where
        seen_on : (σ : Store) (old new : List Anchor) → Seen σ old new d j p → Seen σ old new d' (j + 1) p'
        seen_on σ old new v =
            let m = next σ old new d j p v more in
            let a = set m.anchor in
            let x = old ++ v.done in
            let e : x ++ (a ∷ m.after) ≡ old ++ ((v.done ++ (a ∷ [])) ++ m.after) =
            append_assoc old v.done (a ∷ m.after) ∙ ap (λ (r : List Anchor). old ++ r) (sym (append_assoc v.done (a ∷ []) m.after))
            in
            let h : Holds (with_others (x ++ (a ∷ m.after)) σ) d' len =
            s.stamps (with_others (old ++ (v.done ++ v.rest)) σ) x m.after m.anchor v.holds.holds m.parts m.place
            in
            let τ = with_others (x ++ (a ∷ m.after)) σ in
            let end : p' ≡ up_to σ (σ.apex ∷ (old ++ (v.done ++ (a ∷ [])))) =
            q
            ∙ ap (record_end (take len d')) v.place
            ∙ record_end_is τ d' len h (σ.apex ∷ x) m.after a refl
            ∙ sym (next_place σ (σ.apex ∷ x) a)
            ∙ ap (λ (r : List Anchor). up_to σ (σ.apex ∷ r)) (append_assoc old v.done (a ∷ []))
            in
            record {
              done = v.done ++ (a ∷ []);
              rest = m.after;
              parts =
                  v.parts
                  ∙ ap (λ (r : List Anchor). v.done ++ map set r) m.rest
                  ∙ sym (append_assoc v.done (a ∷ []) (map set m.after));
              holds = record { holds = rw e at h; count = v.holds.count };
              at = omega (arith, v.at, length-append v.done (a ∷ []));
              left = omega (arith, v.left, ap length m.rest);
              place = end;
            }

        pub numbering_on : Numbering d' (j + 1) p'
        numbering_on = record { room = s.room ∙ w.room; seen = λ σ old new h. seen_on σ old new (w.seen σ old new h) }

pub old_few : {d : List ℕ} {len k : ℕ} → ScratchBoth d len k → k ≤ 32
old_few s =
    let τ = with_others (s.old ++ s.new) s.store in
    omega (arith, (rules τ s.holds.holds.valid).anchor_count_lem, length-append s.old s.new, s.holds.count)
