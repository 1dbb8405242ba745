-- A section of communities that is being put together.
use Prim.Native.Nat.{ℕ, ◌+◌, ◌-◌, ◌*◌, ◌≤◌, ◌<◌}
use native.Mathlib.Omega.{arith}
use native.Mathlib.Nat.{mul-suc}
use mathlib.Core.Bool.{Bool, true, false, not, and-eq-true_iff}
use mathlib.Core.List.{List, [], ◌∷◌, ◌++◌, flat_map, append_assoc, append-nil}
use mathlib.Core.Path.{◌≡◌, refl, sym, ap, ap₂, ◌∙◌}
use lib.ListN.{length, take, length-append}
use lib.Seq.{length-take-le, get_or-take}
use lib.Dec.{leb}
use borrow.Author.Tests.{leb-true}
use Rattle.octets.specs.Limits.{max_name_octets, max_communities}
use Rattle.octets.specs.Lists.{all_of, filter}
use Rattle.octets.specs.Octets.{octet, member, placed}
use Rattle.octets.proofs.Placed.{length-placed}
use Rattle.octets.proofs.Lists.{keep_in, keep_out, keep_length}
use Rattle.store.specs.Image.{encode_name, encode_section}
use Rattle.store.specs.Contract.Parts.{communities_of}
use Rattle.store.proofs.Standing.{flat_map_append}
use Rattle.edit.specs.Contract.Edits.{recounted}
use Rattle.edit.proofs.Replaced.{section_replaced, take-all-placed}
use Rattle.protocol.proofs.Lists.{keep_append}
use Rattle.apply.specs.Contract.Names.{Section, Joins, Joinable, KeepsName, FewNames}

module _ {d : List ℕ} {len : ℕ} {l : List (List ℕ)} (w : Section d len l) where
  pub section_size : length (encode_section encode_name l) ≡ len
  section_size = ap length (sym w.image) ∙ length-take-le len d w.inside

  pub section_count : octet d 0 ≡ length l
  section_count = sym (get_or-take len d 0 0 (omega (arith, section_size))) ∙ ap (λ (b : List ℕ). octet b 0) w.image

  module _ (name : List ℕ) (few : length l < max_communities) (small : length name ≤ max_name_octets) where
    pub join_bounds : (0 < len) × (len + 0 ≤ len) × (len ≤ length d) × (len + (1 + length name) ≤ length d + 0)
    join_bounds =
        let s = section_size in
        (omega arith, omega arith, w.inside, omega (arith, w.bound, w.room))

    pub section_join : {items : ℕ} → items ≡ octet d 0 + 1 → {r : ℕ} {d' : List ℕ} → r ≡ length (recounted (take len d) 0 items len 0 (encode_name name))
        → d' ≡ placed d 0 (recounted (take len d) 0 items len 0 (encode_name name)) → Section d' r (l ++ (name ∷ []))
    unfolding flat_map
    section_join {items} o {r} {d'} e f =
        let s = section_size in
        let n = length-append l (name ∷ []) in
        let k : items ≡ length (l ++ (name ∷ [])) = omega (arith, section_count) in
        let all : encode_section encode_name l ≡ [] ++ (encode_section encode_name (l ++ []) ++ []) =
        ap (encode_section encode_name) (sym (append-nil l)) ∙ sym (append-nil (encode_section encode_name (l ++ [])))
        in
        let i : recounted (take len d) 0 items len 0 (encode_name name) ≡ encode_section encode_name (l ++ (name ∷ [])) =
        ap₂ (λ (b : List ℕ) (c : ℕ). recounted b 0 c len 0 (encode_name name)) (w.image ∙ all) k
        ∙ ap (recounted ([] ++ (encode_section encode_name (l ++ []) ++ [])) 0 (length (l ++ (name ∷ []))) len 0) (sym (append-nil (encode_name name)))
        ∙ section_replaced encode_name [] [] l [] (name ∷ []) [] refl (omega arith)
        ∙ append-nil (encode_section encode_name (l ++ (name ∷ [])))
        in
        let size : length (encode_section encode_name (l ++ (name ∷ []))) ≡ len + (1 + length name) =
        omega (arith, ap length (flat_map_append encode_name l (name ∷ [])), length-append (flat_map encode_name l) (encode_name name ++ []), length-append name [])
        in
        let b = join_bounds.3 in
        let j = ap length i in
        let room = ap length f ∙ length-placed d 0 (recounted (take len d) 0 items len 0 (encode_name name)) (omega arith) in
        record {
          image = ap₂ take e f ∙ take-all-placed d _ (omega arith) ∙ i;
          inside = omega arith;
          bound = omega (arith, w.bound, mul-suc 33 (length l), ap (λ (x : ℕ). 33 * x) n);
          room = omega (arith, w.room);
        }

-- a longer section than the one at hand may be another's: its length says how many names there are
pub join_done : {d : List ℕ} {len : ℕ} {name : List ℕ} (w : Joinable d len name) {items : ℕ} → items ≡ octet d 0 + 1 → {r : ℕ} {d' : List ℕ}
    → (r ≡ length (recounted (take len d) 0 items len 0 (encode_name name))) × (d' ≡ placed d 0 (recounted (take len d) 0 items len 0 (encode_name name)))
    → length d' ≡ length d
    → Joins d len name r d'
join_done {d} {len} {name} w o f k =
    record {
      same_room = k;
      joins = λ l s.
          let few : length l < max_communities = omega (arith, w.few, section_count s, section_count w.section) in
          section_join s name few w.small o f.0 f.1;
    }

abbrev stays : List (List ℕ) → List ℕ → Bool
stays removals c = not (member c removals)

module _ (removals : List (List ℕ)) (name : List ℕ) where
  pub keep_none : {d : List ℕ} {len : ℕ} {b : Bool} → b ≡ member name removals → b ≡ true → KeepsName removals d len name len d
  unfolding filter
  keep_none m t =
      record {
        same_room = refl;
        keeps = λ l s.
            let e : l ++ filter (stays removals) (name ∷ []) ≡ l = ap (λ (r : List (List ℕ)). l ++ r) (keep_out (stays removals) name [] (ap not (sym m ∙ t))) ∙ append-nil l in
            rw e s;
      }

  pub keep_one : {d : List ℕ} {len : ℕ} {b : Bool} → b ≡ member name removals → b ≡ false → {r : ℕ} {d' : List ℕ} → Joins d len name r d' → KeepsName removals d len name r d'
  unfolding filter
  keep_one m t j =
      record {
        same_room = j.same_room;
        keeps = λ l s.
            let e : l ++ filter (stays removals) (name ∷ []) ≡ l ++ (name ∷ []) = ap (λ (r : List (List ℕ)). l ++ r) (keep_in (stays removals) name [] (ap not (sym m ∙ t))) in
            rw e (j.joins l s);
      }

-- the names of a list that are not removed, one after the other: `all` of them, and those that are left

module _ (removals all : List (List ℕ)) where
  pub record Keeping (names : List ℕ) (len : ℕ) (left : List (List ℕ)) : Type 0 where
    pub kept : List (List ℕ)
    pub section : Section names len kept
    pub rest : kept ++ filter (stays removals) left ≡ filter (stays removals) all
    pub few : length kept + length left ≤ max_communities
    pub small : all_of (λ c. leb (length c) max_name_octets) left ≡ true

  module _ {names : List ℕ} {len : ℕ} {left : List (List ℕ)} (w : Keeping names len left) where
    module _ {name : List ℕ} {after : List (List ℕ)} (turn : left ≡ name ∷ after) where
      smalls : (leb (length name) max_name_octets ≡ true) × (all_of (λ c. leb (length c) max_name_octets) after ≡ true)
      unfolding all_of
      smalls = (and-eq-true_iff _ _).0 (rw turn at w.small)

      pub keeping_joinable : Joinable names len name
      keeping_joinable =
          record {
            names = w.kept;
            section = w.section;
            few = omega (arith, w.few, ap length turn);
            small = leb-true _ _ smalls.0;
          }

      pub keeping_on : {r : ℕ} {names' : List ℕ} → KeepsName removals names len name r names' → Keeping names' r after
      keeping_on k =
          let one = filter (stays removals) (name ∷ []) in
          let t : filter (stays removals) left ≡ one ++ filter (stays removals) after =
          ap (filter (stays removals)) turn ∙ keep_append (stays removals) (name ∷ []) after
          in
          record {
            kept = w.kept ++ one;
            section = k.keeps w.kept w.section;
            rest = append_assoc w.kept one (filter (stays removals) after) ∙ ap (λ (v : List (List ℕ)). w.kept ++ v) (sym t) ∙ w.rest;
            few = omega (arith, w.few, ap length turn, length-append w.kept one, keep_length (stays removals) (name ∷ []));
            small = smalls.1;
          }

    pub keeping_end : left ≡ [] → Section names len (filter (stays removals) all)
    unfolding filter
    keeping_end z =
        let e : w.kept ≡ filter (stays removals) all = sym (append-nil w.kept) ∙ (rw z at w.rest) in
        rw (← e) w.section

pub keeping_start : (removals : List (List ℕ)) (image names : List ℕ) {len : ℕ} → FewNames image → Section names len []
    → Keeping removals (communities_of image) names len (communities_of image)
keeping_start removals image names f s = record { kept = []; section = s; rest = refl; few = omega (arith, f.few); small = f.small }
