-- 01, After acceptance, Update: the loop over tampSeqNumbers.
use Prim.Native.Nat.{ℕ, ◌≤◌}
use mathlib.Core.List.{List, [], ◌∷◌, map}
use mathlib.Core.Path.{◌≡◌, refl, ap, ap₂, ◌∙◌}
use lib.ListN.{length}
use Rattle.octets.specs.Limits.{max_number}
use Rattle.der.specs.declared.Element.{Element}
use Rattle.der.specs.Element.{inside, contents, field}
use Rattle.syntax.proofs.Each.{Every}
use Rattle.store.specs.Store.{Anchor, Store}
use Rattle.message.specs.declared.Request.{Request}
use Rattle.message.specs.Fields.{seq_number_in, seq_numbers_in}
use Rattle.message.proofs.Asked.{asked_seq_numbers}
use Rattle.protocol.specs.Update.{with_seq_number, with_seq_numbers}
use Rattle.apply.specs.Contract.Scratch.{HoldsBoth}
use Rattle.apply.specs.Contract.Edits.{Renumbers}
use Rattle.apply.specs.Contract.Update.{Numerable}

-- a key identifier and a number
abbrev pair_of : List ℕ → Element → List ℕ × ℕ
pair_of s e = (contents s (field 0x04 s e), seq_number_in s (field 0x02 s e))

module _ (s : List ℕ) (all : List Element) (d₀ : List ℕ) (len k : ℕ) where
  abbrev pairs_at : List Element → List (List ℕ × ℕ)
  pairs_at l = map (pair_of s) l

  -- the pairs left do to the scratch what all do to the first scratch
  pub record PairsLeft (σ : Store) (old new : List Anchor) (d : List ℕ) (left : List Element) : Type 0 where
    pub now : List Anchor
    pub holds : HoldsBoth σ old now d len k
    pub rest : with_seq_numbers (pairs_at left) now ≡ with_seq_numbers (pairs_at all) new

  pub record Pairing (d : List ℕ) (left : List Element) : Type 0 where
    pub room : length d ≡ length d₀
    pub small : Every (λ p. p.1 ≤ max_number) (pairs_at left)
    pub so_far : (σ : Store) (old new : List Anchor) → HoldsBoth σ old new d₀ len k → PairsLeft σ old new d left

  module _ {d : List ℕ} {left : List Element} (w : Pairing d left) where
    module _ {e : Element} {after : List Element} (turned : left ≡ e ∷ after) {f : Element} (y : f ≡ field 0x02 s e) {n : ℕ}
        (z : n ≡ seq_number_in s f) where
      number_is : n ≡ seq_number_in s (field 0x02 s e)
      number_is = z ∙ ap (seq_number_in s) y

      module _ {g : Element} (x : g ≡ field 0x04 s e) {id : List ℕ} (u : id ≡ contents s g) {d' : List ℕ}
          (one : Renumbers (map (with_seq_number (id, n))) d len k d') where
        left_on : (σ : Store) (old new : List Anchor) → PairsLeft σ old new d left → PairsLeft σ old new d' after
        unfolding with_seq_numbers
        left_on σ old new p =
            let t : pairs_at left ≡ pair_of s e ∷ pairs_at after = ap (map (pair_of s)) turned in
            let pair : ◌≡◌ {A = List ℕ × ℕ} (id, n) (pair_of s e) = ap₂ (λ (i : List ℕ) (m : ℕ). (i, m)) (u ∙ ap (contents s) x) number_is in
            record {
              now = map (with_seq_number (id, n)) p.now;
              holds = one.does σ old p.now p.holds;
              rest = ap (λ (r : List ℕ × ℕ). with_seq_numbers (pairs_at after) (map (with_seq_number r) p.now)) pair ∙ (rw t at p.rest);
            }

        pub pairing_on : Pairing d' after
        pairing_on =
            let a : Every (λ p. p.1 ≤ max_number) (pair_of s e ∷ pairs_at after) = rw turned at w.small in
            record {
              room = one.room ∙ w.room;
              small = a.1;
              so_far = λ σ old new h. left_on σ old new (w.so_far σ old new h);
            }

    pub pairing_end : (ps : List (List ℕ × ℕ)) → ps ≡ pairs_at all → left ≡ [] → Renumbers (with_seq_numbers ps) d₀ len k d
    unfolding with_seq_numbers
    pairing_end ps t h =
        record {
          room = w.room;
          does = λ σ old new held.
              let p = w.so_far σ old new held in
              let z : pairs_at left ≡ [] = ap (map (pair_of s)) h in
              let o : p.now ≡ with_seq_numbers (pairs_at all) new = rw z at p.rest in
              rw (t, ← o) p.holds;
        }

pub pairs_of : (s : List ℕ) (q : Request) → seq_numbers_in s q.numbers ≡ map (pair_of s) (inside s q.numbers)
unfolding seq_numbers_in
pairs_of s q = refl

pub pairing_start : (s : List ℕ) (d : List ℕ) (len k : ℕ) (q : Request) → Numerable s q d len k
    → Pairing s (inside s q.numbers) d len k d (inside s q.numbers)
pairing_start s d len k q w =
    record {
      room = refl;
      small = rw (pairs_of s q) at (asked_seq_numbers s q w.asked w.update);
      so_far = λ σ old new h. record { now = new; holds = h; rest = refl };
    }
