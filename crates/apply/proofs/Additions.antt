-- 01, Community Update: "removals (absent ones pass), then additions at the end (present ones pass)".
use Rattle.std.specs.Prelude.{Result, Ok, Err}
use Prim.Native.Nat.{ℕ, ◌+◌, ◌≤◌}
use native.Mathlib.Omega.{arith}
use mathlib.Core.Bool.{Bool, true, false, not, ◌&&◌}
use mathlib.Core.List.{List, [], ◌∷◌, ◌++◌, map, flat_map, append_assoc, append-nil}
use mathlib.Core.Path.{◌≡◌, refl, sym, ap, ap₂, ◌∙◌}
use lib.ListN.{length, take, drop, set, length-append, length-set}
use lib.Seq.{take-suc-set, take_at, drop_at}
use lib.Dec.{leb, ltb, eqb}
use borrow.Author.Tests.{leb-true, leb-false, ltb-false, ne_eqb}
use Rattle.octets.specs.declared.Status.{Status}
use Rattle.octets.specs.Status.{insufficient_memory}
use Rattle.octets.specs.Limits.{max_name_octets, max_communities}
use Rattle.octets.specs.Lists.{any_of, filter}
use Rattle.octets.specs.Octets.{octet, member}
use Rattle.octets.proofs.Lists.{by_test, neither, keep_in, keep_out}
use Rattle.der.specs.declared.Element.{Element}
use Rattle.der.specs.Element.{element_at, contents}
use Rattle.der.proofs.Elements.{elements_end}
use Rattle.der.proofs.Runs.{run_turn}
use Rattle.store.specs.Image.{encode_name}
use Rattle.store.specs.Contract.Parts.{names_from}
use Rattle.store.proofs.Standing.{flat_map_append}
use Rattle.protocol.specs.Community.{after_removals}
use Rattle.protocol.proofs.Lists.{keep_append}
use Rattle.apply.specs.Contract.Names.{oids_from, Section, Joins, Grows, not_kept, Addable, AddsName, AddableAll, AddsAll}
use Rattle.apply.proofs.Sections.{section_count}

-- no name yet
pub section_start : (d : List ℕ) → 529 ≤ length d → Section (set d 0 0) 1 []
unfolding flat_map
section_start d h =
    record {
      image = take-suc-set d 0 0 (omega arith);
      inside = simp length-set (omega arith);
      bound = omega arith;
      room = simp length-set h;
    }

-- a remove list that is present and empty

no_oids : (s : List ℕ) (stop start : ℕ) → leb stop start ≡ eqb (length (oids_from s stop start)) 0
no_oids s stop start =
    by_test (leb stop start)
    (λ t. t ∙ sym (ap (λ (l : List (List ℕ)). eqb (length l) 0) (ap (map (contents s)) (elements_end s start stop (leb-true stop start t)))))
    (λ t.
    let e = ap (map (contents s)) (run_turn s start stop {e = element_at s start stop} refl (leb-false stop start t) refl) in
    t ∙ sym (ne_eqb (length (oids_from s stop start)) 0 (λ z. absurd (omega (arith, ap length e)))))

module _ (s : List ℕ) (e : Element) (l : List (List ℕ)) {b : Bool} (c : b ≡ e.valid && leb e.stop e.start) where
  abbrev removals : List (List ℕ)
  removals = oids_from s e.stop e.start

  test : e.valid && eqb (length removals) 0 ≡ b
  test = ap (λ (v : Bool). e.valid && v) (sym (no_oids s e.stop e.start)) ∙ sym c

  pub removals_clear : b ≡ true → (d : List ℕ) → 529 ≤ length d → Section (set d 0 0) 1 (after_removals e.valid removals l)
  unfolding after_removals
  removals_clear t d h = rw (test ∙ t, after_removals) (section_start d h)

  pub removals_keep : b ≡ false → {d : List ℕ} {len : ℕ} → Section d len (filter (λ c. not (member c removals)) l)
      → Section d len (after_removals e.valid removals l)
  unfolding after_removals
  removals_keep t s = rw (test ∙ t, after_removals) s

-- the names of a section are read back

pub names_back : (l : List (List ℕ)) (rest : List ℕ) → names_from (length l) (flat_map encode_name l ++ rest) ≡ l
unfolding names_from flat_map
names_back [] rest = refl
names_back (c ∷ l) rest =
    let t = flat_map encode_name l ++ rest in
    let e : (c ++ flat_map encode_name l) ++ rest ≡ c ++ t = append_assoc c (flat_map encode_name l) rest in
    ap₂ ◌∷◌
    (ap (take (length c)) e ∙ take_at c t (length c) refl)
    (ap (names_from (length l))
    (ap (λ (r : List ℕ). drop (1 + length c) (length c ∷ r)) e ∙ drop_at (length c ∷ c) t (1 + length c) (omega arith))
    ∙ names_back l rest)

module _ {d : List ℕ} {len k : ℕ} (name : List ℕ) (w : Addable d len k name) {b : Bool} (m : b ≡ member name (names_from k (drop 1 (take len d)))) where
  held : octet d 0 ≤ max_communities
  held = omega (arith, section_count w.section, w.few)

  among : (kept added : List (List ℕ)) → Section d len (kept ++ added) → length kept ≡ k → member name kept ≡ b
  among kept added s c =
      let e : names_from k (drop 1 (take len d)) ≡ kept =
      ap₂ names_from (sym c) (ap (drop 1) s.image ∙ flat_map_append encode_name kept added) ∙ names_back kept (flat_map encode_name added)
      in
      ap (member name) (sym e) ∙ sym m

  pub add_present : b ≡ true → AddsName d len k name (Ok tt) len d
  unfolding filter
  add_present t =
      record {
        same_room = refl;
        few = held;
        adds = λ kept added s c.
            let e : added ++ not_kept kept (name ∷ []) ≡ added =
            ap (λ (r : List (List ℕ)). added ++ r) (keep_out (λ x. not (member x kept)) name [] (ap not (among kept added s c ∙ t))) ∙ append-nil added
            in
            rw e s;
      }

  module _ (t : b ≡ false) where
    one_more : (kept added : List (List ℕ)) → Section d len (kept ++ added) → length kept ≡ k
        → kept ++ (added ++ not_kept kept (name ∷ [])) ≡ (kept ++ added) ++ (name ∷ [])
    unfolding filter
    one_more kept added s c =
        ap (λ (r : List (List ℕ)). kept ++ (added ++ r)) (keep_in (λ x. not (member x kept)) name [] (ap not (among kept added s c ∙ t)))
        ∙ sym (append_assoc kept added (name ∷ []))

    pub add_none : octet d 0 ≡ 16 → AddsName d len k name (Err insufficient_memory) len d
    add_none z =
        record {
          same_room = refl;
          few = held;
          adds = λ kept added s c.
              (refl, omega (arith, ap length (one_more kept added s c), length-append (kept ++ added) (name ∷ []), section_count s));
        }

    pub add_one : (octet d 0 ≡ 16 → ⊥) → {r : ℕ} {d' : List ℕ} → Joins d len name r d' → AddsName d len k name (Ok tt) r d'
    add_one n j =
        let l = w.kept ++ w.added in
        record {
          same_room = j.same_room;
          few = omega (arith, section_count (j.joins l w.section), length-append l (name ∷ []), section_count w.section, w.few);
          adds = λ kept added s c. rw (one_more kept added s c) (j.joins (kept ++ added) s);
        }

-- the additions, one after the other: `all` of them, and those that are left

module _ (all : List (List ℕ)) (k : ℕ) (d₀ : List ℕ) (len : ℕ) where
  pub record Added (kept : List (List ℕ)) (d : List ℕ) (left : List (List ℕ)) (end : ℕ) : Type 0 where
    pub added : List (List ℕ)
    pub section : Section d end (kept ++ added)
    pub rest : added ++ not_kept kept left ≡ not_kept kept all

  pub record Joining (d : List ℕ) (left : List (List ℕ)) (end : ℕ) : Type 0 where
    pub same_room : length d ≡ length d₀
    pub count : octet d₀ 0 ≡ k
    pub few : octet d 0 ≤ max_communities
    pub small : any_of (λ c. ltb max_name_octets (length c)) left ≡ false
    pub so_far : (kept : List (List ℕ)) → Section d₀ len kept → Added kept d left end

  module _ {d : List ℕ} (s : List ℕ) {l : List Element} {end : ℕ} (w : Joining d (map (contents s) l) end) where
    pub joining_end : l ≡ [] → AddsAll all d₀ len (Ok tt) end d
    unfolding filter
    joining_end h =
        record {
          same_room = w.same_room;
          few = w.few;
          adds = λ kept v.
              let a = w.so_far kept v in
              let e : a.added ≡ not_kept kept all = sym (append-nil a.added) ∙ (rw h at a.rest) in
              rw (← e) a.section;
        }

    module _ {e : Element} {m : List Element} (q : l ≡ e ∷ m) {name : List ℕ} (c : name ≡ contents s e) where
      abbrev more : List (List ℕ)
      more = map (contents s) m

      turn : map (contents s) l ≡ name ∷ more
      turn = ap (map (contents s)) q ∙ ap (λ (v : List ℕ). v ∷ more) (sym c)

      smalls : (ltb max_name_octets (length name) ≡ false) × (any_of (λ c. ltb max_name_octets (length c)) more ≡ false)
      unfolding any_of
      smalls = neither _ _ (rw turn at w.small)

      pub joining_addable : AddableAll all d₀ len → Addable d end k name
      joining_addable v =
          let a = w.so_far v.kept v.section in
          record {
            kept = v.kept;
            added = a.added;
            section = a.section;
            count = sym (section_count v.section) ∙ w.count;
            few = omega (arith, w.few, section_count a.section);
            small = ltb-false _ _ smalls.0;
          }

      -- all that is left, with the next one first
      next_first : (kept added : List (List ℕ)) → added ++ not_kept kept (map (contents s) l) ≡ (added ++ not_kept kept (name ∷ [])) ++ not_kept kept more
      next_first kept added =
          ap (λ (r : List (List ℕ)). added ++ not_kept kept r) turn
          ∙ ap (λ (r : List (List ℕ)). added ++ r) (keep_append (λ x. not (member x kept)) (name ∷ []) more)
          ∙ sym (append_assoc added (not_kept kept (name ∷ [])) (not_kept kept more))

      module _ {r : Result (Unit {0}) Status} {n : ℕ} {d' : List ℕ} (one : AddsName d end k name r n d') where
        grown : (kept : List (List ℕ)) (v : Section d₀ len kept) → Grows kept ((w.so_far kept v).added ++ not_kept kept (name ∷ [])) r n d'
        grown kept v = let a = w.so_far kept v in one.adds kept a.added a.section (sym (section_count v) ∙ w.count)

        pub joining_full : {status : Status} → r ≡ Err status → AddsAll all d₀ len (Err status) n d'
        joining_full f =
            record {
              same_room = one.same_room ∙ w.same_room;
              few = one.few;
              adds = λ kept v.
                  let a = w.so_far kept v in
                  let g = rw f at (grown kept v) in
                  let t = ap length (sym (next_first kept a.added) ∙ a.rest) in (
                    g.0,
                    omega (
                      arith,
                      g.1,
                      t,
                      length-append kept (a.added ++ not_kept kept (name ∷ [])),
                      length-append (a.added ++ not_kept kept (name ∷ [])) (not_kept kept more),
                      length-append kept (not_kept kept all),
                    ),
                  );
            }

        pub joining_on : {x : Unit {0}} → r ≡ Ok x → Joining d' more n
        joining_on f =
            record {
              same_room = one.same_room ∙ w.same_room;
              count = w.count;
              few = one.few;
              small = smalls.1;
              so_far = λ kept v.
                  let a = w.so_far kept v in
                  record {
                    added = a.added ++ not_kept kept (name ∷ []);
                    section = rw f at (grown kept v);
                    rest = sym (next_first kept a.added) ∙ a.rest;
                  };
            }
