-- 01, After acceptance, Update: "They apply in order, each to what the former left". The loop over the entries of a message.
use Prim.Native.Nat.{ℕ, suc, ◌+◌, ◌-◌, ◌≤◌}
use native.Mathlib.Omega.{arith}
use mathlib.Core.List.{List, [], ◌∷◌, map, append-nil}
use mathlib.Core.Path.{◌≡◌, refl, sym, ap, ◌∙◌}
use lib.ListN.{length, set, take, length-set, length-map}
use Rattle.octets.specs.declared.Status.{Status}
use Rattle.octets.specs.Limits.{max_updates}
use Rattle.octets.specs.Octets.{placed}
use Rattle.octets.proofs.Placed.{placed-nil, placed-cons}
use Rattle.der.specs.declared.Element.{Element}
use Rattle.der.specs.Element.{inside}
use Rattle.syntax.proofs.Each.{Every}
use Rattle.rights.specs.Rights.{Rights}
use Rattle.anchor.specs.Judge.{conforms}
use Rattle.store.specs.Store.{Anchor, Store}
use Rattle.store.specs.Contract.Parts.{anchor_count}
use Rattle.message.specs.declared.Request.{Request}
use Rattle.message.specs.declared.Entry.{Entry}
use Rattle.message.specs.declared.Entry.TheVariants as entry
use Rattle.message.specs.Fields.{entry_of, entries_in}
use Rattle.message.proofs.Entries as asked
use Rattle.message.proofs.Asked.{asked_adds}
use Rattle.protocol.specs.Update.{step, steps}
use Rattle.apply.specs.declared.scratch.ScratchImage.{ScratchImage}
use Rattle.apply.specs.Contract.Scratch.{Holds, Scratch, HoldsBoth, ScratchBoth}
use Rattle.apply.specs.Contract.Entry.{Enters, Adding}
use Rattle.apply.specs.Contract.Update.{codes_of, Enterable, EntersAll}
use Rattle.apply.proofs.Adds.{scratch}
use Rattle.apply.proofs.Held.{counted}

abbrev pub entries_at : List ℕ → List Element → List Entry
entries_at s l = map (entry_of s) l

statuses_count : (s : List ℕ) (rights : Rights) (apex : Anchor) (old new : List Anchor) (es : List Entry)
    → length (steps s rights apex old new es).statuses ≡ length es
unfolding steps
statuses_count s rights apex old new [] = refl
statuses_count s rights apex old new (e ∷ es) =
    let one = step s rights apex old new e in
    ap suc (statuses_count s rights apex one.old one.new es)

-- what is asked of an entry in the message's laws and here
adding : (s : List ℕ) (x : Entry) → asked.Adding s x → Adding s x
unfolding conforms
adding s (entry.Add e) a = a
adding s entry.AddCertificate a = a
adding s (entry.Remove e) a = a
adding s entry.Change a = a

module _ (s : List ℕ) (rights : Rights) (all : List Element) (d₀ : List ℕ) (len : ℕ) (codes₀ : List ℕ) where
  -- the scratch d holds what the entries so far left, and the entries left do to it what all do to the first scratch
  pub record Progress (σ : Store) (d codes : List ℕ) (left : List Element) (end k n : ℕ) : Type 0 where
    pub old : List Anchor
    pub new : List Anchor
    pub holds : HoldsBoth σ old new d end k
    pub of_old : (steps s rights σ.apex old new (entries_at s left)).old ≡ (steps s rights σ.apex σ.others [] (entries_at s all)).old
    pub of_new : (steps s rights σ.apex old new (entries_at s left)).new ≡ (steps s rights σ.apex σ.others [] (entries_at s all)).new
    pub of_codes : placed codes n (codes_of (steps s rights σ.apex old new (entries_at s left)).statuses)
        ≡ placed codes₀ 0 (codes_of (steps s rights σ.apex σ.others [] (entries_at s all)).statuses)

  pub record Entering (d codes : List ℕ) (left : List Element) (end k n : ℕ) : Type 0 where
    pub room : length d ≡ length d₀
    pub size : length codes ≡ length codes₀
    pub few : n + length (left) ≤ max_updates
    pub space : max_updates ≤ length codes
    pub adds : Every (asked.Adding s) (entries_at s left)
    pub progress : (σ : Store) → Holds σ d₀ len → Progress σ d codes left end k n

  module _ {d codes : List ℕ} {left : List Element} {end k n : ℕ} (w : Entering d codes left end k n) where
    pub entering_scratch : Scratch d₀ len → ScratchBoth d end k
    entering_scratch c =
        let p = w.progress c.store c.holds in
        record { room = omega (arith, c.room, w.room); store = c.store; old = p.old; new = p.new; holds = p.holds }

    module _ {e : Element} {after : List Element} (turned : left ≡ e ∷ after) where
      pub entering_adds : Adding s (entry_of s e)
      entering_adds = let a : Every (asked.Adding s) (entry_of s e ∷ map (entry_of s) after) = rw turned at w.adds in adding s (entry_of s e) a.0

      module _ {code : ℕ} {w' : ScratchImage} (one : Enters (λ apex old new. step s rights apex old new (entry_of s e)) (scratch d end k) code w') where
        progress_on : (σ : Store) → Progress σ d codes left end k n → Progress σ w'.octets (set codes n code) after w'.len w'.former (n + 1)
        unfolding steps
        progress_on σ p =
            let x = entry_of s e in
            let es = entries_at s after in
            let done = step s rights σ.apex p.old p.new x in
            let rest = steps s rights σ.apex done.old done.new es in
            let l = one.does σ p.old p.new p.holds in
            let t : entries_at s left ≡ x ∷ es = ap (map (entry_of s)) turned in
            let c = statuses_count s rights σ.apex done.old done.new es in
            let m = length-map rest.statuses (λ (v : Status). v.number) in
            let size = length-map (after) (entry_of s) in
            let fits : n + 1 + length (codes_of rest.statuses) ≤ length codes = omega (arith, w.space, w.few, ap length turned) in
            record {
              old = done.old;
              new = done.new;
              holds = l.after;
              of_old = rw t at p.of_old;
              of_new = rw t at p.of_new;
              of_codes =
                  placed-cons codes n code (codes_of rest.statuses) fits
                  ∙ ap (λ (v : ℕ). placed codes n (v ∷ codes_of rest.statuses)) l.number
                  ∙ (rw t at p.of_codes);
            }

        pub entering_on : Entering w'.octets (set codes n code) after w'.len w'.former (n + 1)
        entering_on =
            let t = turned in
            let a : Every (asked.Adding s) (entry_of s e ∷ entries_at s after) = rw t at w.adds in
            record {
              room = one.room ∙ w.room;
              size = simp length-set w.size;
              few = omega (arith, w.few, ap length t);
              space = simp length-set w.space;
              adds = a.1;
              progress = λ σ h. progress_on σ (w.progress σ h);
            }

    pub entering_end : {k₀ : ℕ} (q : Request) → entries_in s q.updates ≡ entries_at s all → left ≡ []
        → EntersAll s rights q (scratch d₀ len k₀) codes₀ (scratch d end k) codes
    unfolding steps
    entering_end q t h =
        record {
          room = w.room;
          does = λ σ held.
              let p = w.progress σ held in
              let z : entries_at s left ≡ [] = ap (map (entry_of s)) h in
              let o : p.old ≡ (steps s rights σ.apex σ.others [] (entries_at s all)).old = rw z at p.of_old in
              let v : p.new ≡ (steps s rights σ.apex σ.others [] (entries_at s all)).new = rw z at p.of_new in
              let c = rw z at p.of_codes in
              rw t (record { after = rw (← o, ← v) p.holds; written = sym (placed-nil codes n) ∙ c });
        }

-- the loop begins
pub entering_start : (s : List ℕ) (rights : Rights) (d : List ℕ) (len : ℕ) (codes : List ℕ) (q : Request) → Enterable s q d len codes
    → {c : ℕ} → c ≡ anchor_count (take len d) → Entering s rights (inside s q.updates) d len codes d codes (inside s q.updates) len (c - 1) 0
unfolding entries_in
entering_start s rights d len codes q w {c} k =
    record {
      room = refl;
      size = refl;
      few = omega (arith, w.few, length-map (inside s q.updates) (entry_of s));
      space = w.space;
      adds = asked_adds s q w.asked w.update;
      progress = λ σ h.
          record {
            old = σ.others;
            new = [];
            holds = record { holds = rw (append-nil σ.others) h; count = omega (arith, k, counted σ d len h) };
            of_old = refl;
            of_new = refl;
            of_codes = refl;
          };
    }

pub entries_of : (s : List ℕ) (q : Request) → entries_in s q.updates ≡ entries_at s (inside s q.updates)
unfolding entries_in
entries_of s q = refl

pub entering_count : {s : List ℕ} {d : List ℕ} {len : ℕ} {codes : List ℕ} {q : Request} → Enterable s q d len codes → {c : ℕ} → c ≡ anchor_count (take len d) → 1 ≤ c
entering_count {s} {d} {len} w k = omega (arith, k, counted w.scratch.store d len w.scratch.holds)
