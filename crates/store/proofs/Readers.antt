-- Laws of the readers of the image (specs/Image), each both ways: what is written is read, and what is read was written.
use Rattle.std.specs.Prelude.{Option, Some, None}
use Rattle.std.proofs.lemmas.Option.{none-some, same_Some}
use Prim.Native.Nat.{ℕ, zero, suc, ◌^◌, ◌≤◌, ◌<◌}
use native.Mathlib.Nat.{zero-add, mod-eq_of_lt}
use native.Mathlib.Omega.{arith}
use mathlib.Core.Bool.{Bool, true, false, ◌&&◌, and-eq-true_iff}
use mathlib.Core.List.{List, [], ◌∷◌, ◌++◌, flat_map, append_assoc}
use mathlib.Core.Path.{◌≡◌, refl, sym, ap, ap₂, ◌∙◌, subst}
use lib.ListN.{length, length-append, take-append-drop}
use lib.Seq.{take_at, drop_at, length-take-le}
use lib.Dec.{leb}
use borrow.Author.Tests.{leb-true, le-leb}
use Rattle.octets.specs.Lists.{all_of}
use Rattle.octets.specs.Octets.{Octets}
use Rattle.octets.specs.Number.{number, number_from, big_endian}
use Rattle.octets.proofs.Lists.{both}
use Rattle.octets.proofs.Number.{octets_take, octets_drop, length-big_endian, number-big_endian, big_endian-number}
use Rattle.store.specs.Image.{Reader, found, provided, pass_on, read_octets, read_number, read_sized, read_times, encode_section, ◌>>=◌}

module _ {A : Type 0} where
  -- a reader gives one value and one rest
  pub same-found : (x y : A) (s t : List ℕ) → found x s ≡ found y t → (x ≡ y) × (s ≡ t)
  same-found x y s t e =
      let p = same_Some _ _ e in
      (ap (λ (q : A × List ℕ). q.0) p, ap (λ (q : A × List ℕ). q.1) p)

  -- what holds of what a reader found
  pub as_found : (P : A → List ℕ → Type 0) (x y : A) (s t : List ℕ) → found x s ≡ found y t → P x s → P y t
  as_found P x y s t e = subst (λ (q : A × List ℕ). P q.0 q.1) (same_Some _ _ e)

  -- a rule that let a reader go on
  pub granted : (b : Bool) (r : Reader A) (s : List ℕ) (q : A × List ℕ) → provided b r s ≡ Some q → (b ≡ true) × (r s ≡ Some q)
  unfolding provided
  granted true r s q e = (refl, e)
  granted false r s q e = absurd (none-some q e)

  -- under a rule: where it is kept, where it is broken, and where nothing is found anyway
  pub allowed : (b : Bool) (r : Reader A) (s : List ℕ) → b ≡ true → provided b r s ≡ r s
  unfolding provided
  allowed b r s e = rw e

  pub refused : (b : Bool) (r : Reader A) (s : List ℕ) → b ≡ false → provided b r s ≡ None
  unfolding provided
  refused b r s e = rw e

  pub nothing : (b : Bool) (r : Reader A) (s : List ℕ) → r s ≡ None → provided b r s ≡ None
  unfolding provided
  nothing true r s e = e
  nothing false r s e = refl

module _ {A B : Type 0} where
  -- two readers in turn: what the first found, and what the second did with it
  pub record Passed (o : Option (A × List ℕ)) (f : A → Reader B) (q : B × List ℕ) : Type 0 where
    pub value : A
    pub after : List ℕ
    pub first : o ≡ found value after
    pub second : f value after ≡ Some q

  pub passed : (o : Option (A × List ℕ)) (f : A → Reader B) (q : B × List ℕ) → pass_on o f ≡ Some q → Passed o f q
  unfolding pass_on
  passed None f q e = absurd (none-some q e)
  passed (Some p) f q e = record { value = p.0; after = p.1; first = refl; second = e }

  pub passes : (o : Option (A × List ℕ)) (f : A → Reader B) (x : A) (t : List ℕ) → o ≡ found x t → pass_on o f ≡ f x t
  unfolding pass_on
  passes o f x t e = rw e

  pub passes_none : (o : Option (A × List ℕ)) (f : A → Reader B) → o ≡ None → pass_on o f ≡ None
  unfolding pass_on
  passes_none o f e = rw e

-- Octet strings put together

-- the front and the rest of an octet string
pub octets_front : (a b s : List ℕ) → a ++ b ≡ s → Octets s → Octets a
octets_front a b s e o = rw (← take_at a b (length a) refl, e) (octets_take s (length a) o)

pub octets_after : (a b s : List ℕ) → a ++ b ≡ s → Octets s → Octets b
octets_after a b s e o = rw (← drop_at a b (length a) refl, e) (octets_drop s (length a) o)

-- what was written in two parts, the second where the first ends
pub in_turn : (a b rest t s : List ℕ) → a ++ t ≡ s → (Octets t → b ++ rest ≡ t) → Octets s → a ++ b ++ rest ≡ s
in_turn a b rest t s e f o = append_assoc a b rest ∙ ap (λ (r : List ℕ). a ++ r) (f (octets_after a t s e o)) ∙ e

-- A format: a reader, a writer, and a test that values pass

module _ {A : Type 0} where
  -- a value that was read: it passes, and the writer writes what stood there
  pub record Was (w : A → List ℕ) (ok : A → Bool) (s : List ℕ) (x : A) (rest : List ℕ) : Type 0 where
    pub valid : ok x ≡ true
    pub back : Octets s → w x ++ rest ≡ s

  pub record Format (r : Reader A) (w : A → List ℕ) (ok : A → Bool) : Type 0 where
    pub reads : (x : A) (rest : List ℕ) → ok x ≡ true → r (w x ++ rest) ≡ found x rest
    pub was : (s : List ℕ) (x : A) (rest : List ℕ) → r s ≡ found x rest → Was w ok s x rest

-- n octets

pub octets_read : (n : ℕ) (o rest : List ℕ) → length o ≡ n → read_octets n (o ++ rest) ≡ found o rest
unfolding read_octets provided
octets_read n o rest e =
    rw (le-leb n (length (o ++ rest)) (omega (arith, length-append o rest)), take_at o rest n e, drop_at o rest n e)

pub octets_found : (n : ℕ) (s o rest : List ℕ) → read_octets n s ≡ found o rest → (length o ≡ n) × (o ++ rest ≡ s)
unfolding read_octets
octets_found n s o rest e =
    let g = granted _ _ _ _ e in
    let p = same-found _ _ _ _ g.1 in
    (ap length (sym p.0) ∙ length-take-le n s (leb-true n (length s) g.0), sym (ap₂ ◌++◌ p.0 p.1) ∙ take-append-drop n s)

-- a number of so many octets

pub number_read : (k n : ℕ) (rest : List ℕ) → n < 256 ^ k → read_number k (big_endian k n ++ rest) ≡ found n rest
unfolding read_number pass_on
number_read k n rest h = rw (octets_read k (big_endian k n) rest (length-big_endian k n), number-big_endian k n h)

pub number-found : (k : ℕ) (s : List ℕ) (n : ℕ) (rest : List ℕ) → read_number k s ≡ found n rest → Octets s → big_endian k n ++ rest ≡ s
unfolding read_number
number-found k s n rest e o =
    let p = passed _ _ _ e in
    let q = same-found _ _ _ _ p.second in
    let t = octets_found k s p.value p.after p.first in
    let v : Octets p.value = octets_front p.value p.after s t.1 o in
    ap₂ ◌++◌ (ap (big_endian k) (sym q.0) ∙ ap (λ (j : ℕ). big_endian j (number p.value)) (sym t.0) ∙ big_endian-number p.value v) (sym q.1)
    ∙ t.1

-- one octet

pub octet_read : (n : ℕ) (rest : List ℕ) → read_number 1 (n ∷ rest) ≡ found n rest
unfolding read_number pass_on number_from
octet_read n rest = rw (octets_read 1 (n ∷ []) rest refl, zero-add n)

pub octet-found : (s : List ℕ) (n : ℕ) (rest : List ℕ) → read_number 1 s ≡ found n rest → n ∷ rest ≡ s
unfolding read_number read_octets provided pass_on
octet-found [] n rest e = absurd (none-some (n, rest) e)
octet-found (x ∷ s) n rest e =
    let q = same-found _ _ _ _ (sym (octet_read x s) ∙ e) in
    sym (ap₂ ◌∷◌ q.0 q.1)

pub octet-big_endian : (n : ℕ) → n < 256 → big_endian 1 n ≡ n ∷ []
unfolding big_endian
octet-big_endian n h = rw (mod-eq_of_lt h)

-- a length of so many octets, and as many octets

-- from 1 up to most
abbrev pub size_ok : ℕ → List ℕ → Bool
size_ok most o = leb 1 (length o) && leb (length o) most

abbrev pub write_sized : ℕ → List ℕ → List ℕ
write_sized k o = big_endian k (length o) ++ o

pub sized_read : (k most : ℕ) → most < 256 ^ k → (o rest : List ℕ) → size_ok most o ≡ true → read_sized k most (write_sized k o ++ rest) ≡ found o rest
unfolding read_sized pass_on provided
sized_read k most h o rest g =
    let b = (and-eq-true_iff (leb 1 (length o)) (leb (length o) most)).0 g in
    let l : length o < 256 ^ k = omega (arith, leb-true (length o) most b.1) in
    rw (append_assoc (big_endian k (length o)) o rest, number_read k (length o) (o ++ rest) l, g) (octets_read (length o) o rest refl)

pub sized_was : (k most : ℕ) (s o rest : List ℕ) → read_sized k most s ≡ found o rest → Was (write_sized k) (size_ok most) s o rest
unfolding read_sized
sized_was k most s o rest e =
    let p = passed _ _ _ e in
    let g = granted _ _ _ _ p.second in
    let t = octets_found p.value p.after o rest g.1 in
    record {
      valid = rw t.0 g.0;
      back = λ v. in_turn (big_endian k (length o)) o rest p.after s (rw t.0 (number-found k s p.value p.after p.first v)) (λ _. t.1) v;
    }

-- so many in turn, each of one format

-- a list that was read so: its count, that every member passes, and that the writer writes what stood there
pub record Times {A : Type 0} (w : A → List ℕ) (ok : A → Bool) (n : ℕ) (s : List ℕ) (l : List A) (rest : List ℕ) : Type 0 where
  pub count : length l ≡ n
  pub valid : all_of ok l ≡ true
  pub back : Octets s → flat_map w l ++ rest ≡ s

-- a section: its count, at most `most`, and so many, which pass a test together
module _ {A : Type 0} where
  abbrev pub section_ok : (A → Bool) → ℕ → (List A → Bool) → List A → Bool
  section_ok ok most test l = leb (length l) most && all_of ok l && test l

  pub section_parts : (ok : A → Bool) (most : ℕ) (test : List A → Bool) (l : List A) → section_ok ok most test l ≡ true
      → (length l ≤ most) × (all_of ok l ≡ true) × (test l ≡ true)
  section_parts ok most test l g =
      let h = (and-eq-true_iff (leb (length l) most && all_of ok l) (test l)).0 g in
      let k = (and-eq-true_iff (leb (length l) most) (all_of ok l)).0 h.0 in
      (leb-true (length l) most k.0, k.1, h.1)

  pub section_ok_lem : (ok : A → Bool) (most : ℕ) (test : List A → Bool) (l : List A) → length l ≤ most → all_of ok l ≡ true → test l ≡ true
      → section_ok ok most test l ≡ true
  section_ok_lem ok most test l c a t = both (both (le-leb (length l) most c) a) t

  abbrev pub read_section : Reader A → ℕ → (List A → Bool) → Reader (List A)
  read_section r most test = do
    count ← read_number 1
    l ← provided (leb count most) (read_times count r)
    provided (test l) (found l)

module _ {A : Type 0} (r : Reader A) (w : A → List ℕ) (ok : A → Bool) (form : Format r w ok) where
  pub times_read : (l : List A) (rest : List ℕ) → all_of ok l ≡ true → read_times (length l) r (flat_map w l ++ rest) ≡ found l rest
  unfolding read_times pass_on all_of flat_map
  times_read [] rest g = refl
  times_read (x ∷ l) rest g =
      let b = (and-eq-true_iff (ok x) (all_of ok l)).0 g in
      rw (append_assoc (w x) (flat_map w l) rest, form.reads x (flat_map w l ++ rest) b.0, times_read l rest b.1)

  pub times_found : (n : ℕ) (s : List ℕ) (l : List A) (rest : List ℕ) → read_times n r s ≡ found l rest → Times w ok n s l rest
  unfolding read_times all_of flat_map
  times_found zero s l rest e =
      as_found (Times w ok 0 s) [] l s rest e (record { count = refl; valid = refl; back = λ o. refl })
  times_found (suc n) s l rest e =
      let p = passed _ _ _ e in
      let q = passed _ _ _ p.second in
      let i = times_found n p.after q.value q.after q.first in
      let f = form.was s p.value p.after p.first in
      as_found (Times w ok (suc n) s) _ _ _ _ q.second
      (record {
        count = ap suc i.count;
        valid = both f.valid i.valid;
        back = λ o. in_turn (w p.value) (flat_map w q.value) q.after p.after s (f.back o) i.back o;
      })

  pub section_read : (most : ℕ) (test : List A → Bool) (l : List A) (rest : List ℕ) → section_ok ok most test l ≡ true
      → read_section r most test (encode_section w l ++ rest) ≡ found l rest
  unfolding pass_on provided
  section_read most test l rest g =
      let p = section_parts ok most test l g in
      rw (octet_read (length l) (flat_map w l ++ rest), le-leb (length l) most p.0, times_read l rest p.1, p.2)

  pub section_was : (most : ℕ) (test : List A → Bool) (s : List ℕ) (l : List A) (rest : List ℕ) → read_section r most test s ≡ found l rest
      → Was (encode_section w) (section_ok ok most test) s l rest
  section_was most test s l rest e =
      let p = passed _ _ _ e in
      let q = passed _ _ _ p.second in
      let g = granted _ _ _ _ q.first in
      let h = granted _ _ _ _ q.second in
      let c = octet-found s p.value p.after p.first in
      let t = times_found p.value p.after q.value q.after g.1 in
      let m : leb (length q.value) most ≡ true = rw t.count g.0 in
      as_found (Was (encode_section w) (section_ok ok most test) s) _ _ _ _ h.1
      (record {
        valid = both (both m t.valid) h.0;
        back = in_turn (length q.value ∷ []) (flat_map w q.value) q.after p.after s (rw t.count c) t.back;
      })

  pub section : (most : ℕ) (test : List A → Bool) → Format (read_section r most test) (encode_section w) (section_ok ok most test)
  section most test = record { reads = section_read most test; was = section_was most test }
