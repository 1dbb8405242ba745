-- An element by itself: what status 1's check and a syntax say of an element in the octets s they say of its octets alone.
-- (Places in the part of s from a on are a less than in s.)
use Rattle.std.specs.Prelude.{Ok, Err}
use Prim.Native.Nat.{ℕ, zero, suc, ◌+◌, ◌-◌, ◌≤◌, ◌<◌}
use native.Mathlib.Omega.{arith}
use mathlib.Core.Bool.{Bool, true, false, not, ◌&&◌, ◌||◌}
use mathlib.Core.List.{List, [], ◌∷◌, map}
use mathlib.Core.Path.{◌≡◌, refl, sym, ap, ap₂, ◌∙◌}
use lib.ListN.{length}
use lib.Seq.{ext_get_or}
use lib.Dec.{ltb, leb, eqb}
use borrow.Author.Tests.{ltb-true, ltb-false, leb-true, leb-false, lt-ltb, le-ltb, le-leb, lt-leb, eqb-true, eqb-false}
use Rattle.octets.specs.Octets.{octet, slice, ordered}
use Rattle.octets.specs.Number.{number}
use Rattle.octets.proofs.Lists.{by_test}
use Rattle.octets.proofs.Parts.{length-slice, octet-slice, slice-none}
use Rattle.der.specs.declared.Element.{Element}
use Rattle.der.specs.Element.{length_at, length_shortest, contents_at, element_at, elements, encoding, contents, inside, constructed}
use Rattle.der.specs.Contents.{contents_ok}
use Rattle.der.specs.Fit.{and_then, kept, each, Fit}
use Rattle.der.specs.Check.{sorted_in, der, spans}
use Rattle.der.proofs.Header.{Header, header_or_not, element_is, element-absent, short_form, indefinite_form}
use Rattle.der.proofs.Checks.{member_fit}
use Rattle.der.proofs.Elements.{valid_within, elements_end, elements_broken, elements_turn}
use Rattle.syntax.specs.Grammar.{obeyed, Syntax, free, end, obeys, optional, one, any_optional, many, by_element, fit}
use Rattle.syntax.proofs.Each.{Every, every_weaken, kept_fits, alike_if, alike_element, alike_then, alike_held, each_alike}
use Rattle.der.proofs.Runs.{by_run}
use Rattle.syntax.proofs.Window.{Own, own_within, Member, members}
use Rattle.syntax.proofs.Depth.{spans_holds}

abbrev pub moved : ℕ → Element → Element
moved a e = record { valid = e.valid; tag = e.tag; at = a + e.at; start = a + e.start; stop = a + e.stop }

-- an element's length octets, by what they hold
abbrev length_of : ℕ → List ℕ → ℕ
length_of first after = number (elim (ltb first 128) [ true ↦ first ∷ [] | false ↦ after ])

abbrev shortest_of : ℕ → ℕ → ℕ → Bool
shortest_of first second n = ltb first 128 || (not (eqb second 0) && leb 128 n)

same-element : (tag tag' at at' start start' stop stop' : ℕ) → tag ≡ tag' → at ≡ at' → start ≡ start' → stop ≡ stop'
    → ◌≡◌ {A = Element} (record { valid = true; tag = tag; at = at; start = start; stop = stop })
    (record { valid = true; tag = tag'; at = at'; start = start'; stop = stop' })
same-element tag tag' at at' start start' stop stop' p q r u = λ i. record { valid = true; tag = p i; at = q i; start = r i; stop = u i }

leb-moved : (a i j : ℕ) → leb (a + j) (a + i) ≡ leb j i
leb-moved a i j =
    by_test (leb j i)
    (λ e. let l = leb-true j i e in le-leb (a + j) (a + i) (omega arith) ∙ sym e)
    (λ e. let l = leb-false j i e in lt-leb (a + j) (a + i) (omega arith) ∙ sym e)

ltb-moved : (a i j : ℕ) → ltb (a + i) (a + j) ≡ ltb i j
ltb-moved a i j =
    by_test (ltb i j)
    (λ e. let l = ltb-true i j e in lt-ltb (a + i) (a + j) (omega arith) ∙ sym e)
    (λ e. let l = ltb-false i j e in le-ltb (a + i) (a + j) (omega arith) ∙ sym e)

module _ (s : List ℕ) (a b : ℕ) (ab : a ≤ b) (bs : b ≤ length s) where
  length-here : length (slice s a b) ≡ b - a
  length-here = length-slice s a (b - a) (omega arith)

  octet-here : (i k : ℕ) → k ≡ a + i → i < b - a → octet (slice s a b) i ≡ octet s k
  octet-here i k q l = octet-slice s a (b - a) i l ∙ ap (octet s) (sym q)

  pub slice-here : (x y u v : ℕ) → u ≡ a + x → v ≡ a + y → y ≤ b - a → slice (slice s a b) x y ≡ slice s u v
  slice-here x y u v p q l =
      by_test (leb x y)
      (λ t.
      let xy = leb-true x y t in
      let n : v - u ≡ y - x = omega arith in
      let left : length (slice (slice s a b) x y) ≡ y - x = length-slice (slice s a b) x (y - x) (omega (arith, length-here)) in
      let right : length (slice s u v) ≡ y - x = length-slice s u (v - u) (omega arith) ∙ n in
      ext_get_or 0 (slice (slice s a b) x y) (slice s u v) (left ∙ sym right)
      (λ i h.
      let k : i < y - x = omega arith in
      octet-slice (slice s a b) x (y - x) i k ∙ octet-here (x + i) (u + i) (omega arith) (omega arith) ∙ sym (octet-slice s u (v - u) i (omega arith))))
      (λ t.
      let xy = leb-false x y t in
      slice-none (slice s a b) x y (omega arith) ∙ sym (slice-none s u v (omega arith)))

  -- a header
  module _ (i : ℕ) (room : i + 2 ≤ b - a) where
    first_here : octet (slice s a b) (i + 1) ≡ octet s (a + i + 1)
    first_here = octet-here (i + 1) (a + i + 1) (omega arith) (omega arith)

    module _ (begins : contents_at (slice s a b) i ≤ b - a) where
      length_at-here : length_at (slice s a b) i ≡ length_at s (a + i)
      unfolding length_at
      length_at-here =
          let f = first_here in
          ap₂ length_of f
          (slice-here (i + 2) (contents_at (slice s a b) i) (a + i + 2) (contents_at s (a + i)) (omega arith) (omega arith) begins)

      shortest_here : length_shortest (slice s a b) i ≡ length_shortest s (a + i)
      unfolding length_shortest
      shortest_here =
          let f = first_here in
          let t = slice s a b in
          by_test (ltb (octet t (i + 1)) 128)
          (λ l.
          let k = ltb-true (octet t (i + 1)) 128 l in
          short_form t i k ∙ sym (short_form s (a + i) (omega arith)))
          (λ l.
          let k = ltb-false (octet t (i + 1)) 128 l in
          by_test (eqb (octet t (i + 1)) 128)
          (λ n. let e = eqb-true (octet t (i + 1)) 128 n in indefinite_form t i e ∙ sym (indefinite_form s (a + i) (omega arith)))
          (λ n.
          let e = eqb-false (octet t (i + 1)) 128 n in
          let second : octet t (i + 2) ≡ octet s (a + i + 2) = octet-here (i + 2) (a + i + 2) (omega arith) (omega arith) in
          ap (λ (x : ℕ). shortest_of x (octet t (i + 2)) (length_at t i)) f
          ∙ ap₂ (λ (x y : ℕ). shortest_of (octet s (a + i + 1)) x y) second length_at-here))

  module _ (i j : ℕ) (jb : j ≤ b - a) where
    header_there : Header (slice s a b) i j → Header s (a + i) (a + j)
    header_there h =
        let room : i + 2 ≤ b - a = omega arith in
        let f = first_here i room in
        let begins : contents_at (slice s a b) i ≤ b - a = omega arith in
        let n = length_at-here i room begins in
        let o = octet-here i (a + i) refl (omega arith) in
        record {
          within = omega arith;
          room = omega arith;
          low_tag = rw (← o) h.low_tag;
          begins = omega arith;
          shortest = sym (shortest_here i room begins) ∙ h.shortest;
          ends = omega arith;
        }

    header-here : Header s (a + i) (a + j) → Header (slice s a b) i j
    header-here h =
        let room : i + 2 ≤ b - a = omega arith in
        let f = first_here i room in
        let begins : contents_at (slice s a b) i ≤ b - a = omega arith in
        let n = length_at-here i room begins in
        let o = octet-here i (a + i) refl (omega arith) in
        record {
          within = rw length-here jb;
          room = omega arith;
          low_tag = rw o h.low_tag;
          begins = omega arith;
          shortest = shortest_here i room begins ∙ h.shortest;
          ends = omega arith;
        }

    pub element-moved : element_at s (a + i) (a + j) ≡ moved a (element_at (slice s a b) i j)
    element-moved =
        header_or_not (slice s a b) i j
        (λ h.
        let room : i + 2 ≤ b - a = omega arith in
        let f = first_here i room in
        let begins : contents_at (slice s a b) i ≤ b - a = omega arith in
        let n = length_at-here i room begins in
        let o = octet-here i (a + i) refl (omega arith) in
        element_is s (a + i) (a + j) (header_there h)
        ∙ same-element _ _ _ _ _ _ _ _ (sym o) refl (omega arith) (omega arith)
        ∙ ap (moved a) (sym (element_is (slice s a b) i j h)))
        (λ n. element-absent s (a + i) (a + j) (λ h. n (header-here h)) ∙ ap (moved a) (sym (element-absent (slice s a b) i j n)))

  pub elements-moved : (i j : ℕ) → j ≤ b - a → elements s (a + i) (a + j) ≡ map (moved a) (elements (slice s a b) i j)
  elements-moved i j jb =
      by_run (slice s a b) j (λ (i : ℕ). elements s (a + i) (a + j) ≡ map (moved a) (elements (slice s a b) i j))
      (λ i l. elements_end s (a + i) (a + j) (omega arith) ∙ ap (map (moved a)) (sym (elements_end (slice s a b) i j l)))
      (λ i l g.
      elements_broken s (a + i) (a + j) (sym (element-moved i j jb)) (omega arith) g
      ∙ ap (map (moved a)) (sym (elements_broken (slice s a b) i j refl l g)))
      (λ i g h.
      let e = element_at (slice s a b) i j in
      elements_turn s (a + i) (a + j) (sym (element-moved i j jb)) g
      ∙ ap (λ (l : List Element). moved a e ∷ l) h
      ∙ ap (map (moved a)) (sym (elements_turn (slice s a b) i j refl g)))
      i

  -- a run's members end in the part
  abbrev Here : Element → Type 0
  Here e = e.stop ≤ b - a

  all_here : (i j : ℕ) → j ≤ b - a → Every Here (elements (slice s a b) i j)
  all_here i j jb = every_weaken (Member (slice s a b) i j) Here (λ m k. let l = k.ends in omega arith) (elements (slice s a b) i j) (members (slice s a b) i j)

  whole_moved : (e : Element) → Here e → encoding s (moved a e) ≡ encoding (slice s a b) e
  whole_moved e h = sym (slice-here e.at e.stop (a + e.at) (a + e.stop) refl refl h)

  contents-moved : (e : Element) → Here e → contents s (moved a e) ≡ contents (slice s a b) e
  contents-moved e h = sym (slice-here e.start e.stop (a + e.start) (a + e.stop) refl refl h)

  sorted_moved : (e former m : Element) → Here former → Here m → sorted_in e.tag s (moved a former) (moved a m) ≡ sorted_in e.tag (slice s a b) former m
  unfolding sorted_in
  sorted_moved e former m h k =
      ap₂ (λ (x y : List ℕ). elim (eqb e.tag 49) as (λ _. Bool) [ true ↦ ordered x y | false ↦ true ]) (whole_moved former h) (whole_moved m k)

  pub der-moved : (d : ℕ) (e : Element) → Here e → kept (der d s (moved a e)) ≡ kept (der d (slice s a b) e)
  unfolding der
  der-moved zero e h = refl
  der-moved (suc d) e h =
      let t = slice s a b in
      alike_if e.valid _ _ _ _
      (λ g.
      alike_if (constructed e.tag) _ _ _ _
      (λ c.
      ap (λ (l : List Element). kept (each (member_fit d s e.tag) l)) (elements-moved e.start e.stop h)
      ∙ each_alike (moved a) (member_fit d s e.tag) (member_fit d t e.tag) Here (λ _. refl)
      (λ former m k l. alike_then _ _ _ _ (der-moved d m l) (alike_held (a + m.at) m.at (sorted_moved e former m k l)))
      (inside t e)
      (all_here e.start e.stop h))
      (λ c. alike_held (a + e.at) e.at (ap (contents_ok e.tag) (contents-moved e h))))
      (λ g. refl)

  -- a window: what is charged where a part is missing makes no difference
  pub fit-moved : (g : Syntax) (i j outer other : ℕ) → j ≤ b - a → kept (fit g s (a + i) (a + j) outer) ≡ kept (fit g (slice s a b) i j other)
  unfolding fit
  fit-moved free i j outer other jb = refl
  fit-moved end i j outer other jb = alike_held (a + i) i (leb-moved a i j)
  fit-moved (obeys r g) i j outer other jb =
      alike_then _ _ _ _ (fit-moved g i j outer other jb) (alike_held outer other (ap (obeyed r) (sym (slice-here i j (a + i) (a + j) refl refl jb))))
  fit-moved (optional u g next) i j outer other jb =
      let e = element_at (slice s a b) i j in
      ap (λ (x : Element).
      kept
      (by_element (ltb (a + i) (a + j)) (a + i) x.valid (fit next s (a + i) (a + j) outer)
      (elim (eqb x.tag u) [
        | false ↦ fit next s (a + i) (a + j) outer
        | true ↦ and_then (fit g s x.start x.stop (a + i)) (fit next s x.stop (a + j) outer)
      ])))
      (element-moved i j jb)
      ∙ alike_element (ltb-moved a i j) (a + i) i e.valid _ _ _ _ (fit-moved next i j outer other jb)
      (λ k.
      let w = valid_within (slice s a b) i j refl k in
      alike_if (eqb e.tag u) _ _ _ _
      (λ n. alike_then _ _ _ _ (fit-moved g e.start e.stop (a + i) i (omega arith)) (fit-moved next e.stop j outer other jb))
      (λ n. fit-moved next i j outer other jb))
  fit-moved (one g next) i j outer other jb =
      let e = element_at (slice s a b) i j in
      ap (λ (x : Element).
      kept
      (by_element (ltb (a + i) (a + j)) (a + i) x.valid (Err outer)
      (and_then (fit g s (a + i) x.stop outer) (fit next s x.stop (a + j) outer))))
      (element-moved i j jb)
      ∙ alike_element (ltb-moved a i j) (a + i) i e.valid _ _ _ _ refl
      (λ k.
      let w = valid_within (slice s a b) i j refl k in
      alike_then _ _ _ _ (fit-moved g i e.stop outer other (omega arith)) (fit-moved next e.stop j outer other jb))
  fit-moved (any_optional next) i j outer other jb =
      let e = element_at (slice s a b) i j in
      ap (λ (x : Element).
      kept (by_element (ltb (a + i) (a + j)) (a + i) x.valid (fit next s (a + i) (a + j) outer) (fit next s x.stop (a + j) outer)))
      (element-moved i j jb)
      ∙ alike_element (ltb-moved a i j) (a + i) i e.valid _ _ _ _ (fit-moved next i j outer other jb) (λ k. fit-moved next e.stop j outer other jb)
  fit-moved (many g) i j outer other jb =
      let judge : Element → Element → Fit = λ former e. fit g s e.at e.stop outer in
      ap (λ (l : List Element). kept (each judge l)) (elements-moved i j jb)
      ∙ each_alike (moved a) judge (λ former e. fit g (slice s a b) e.at e.stop other) Here (λ _. refl)
      (λ former e k l. fit-moved g e.at e.stop outer other l)
      (elements (slice s a b) i j)
      (all_here i j jb)

-- an element and its octets alone
module _ (s : List ℕ) (e : Element) (o : Own s e) where
  at_stop : e.at ≤ e.stop
  at_stop = let w = own_within s e o in omega arith

  stop_length : e.stop ≤ length s
  stop_length = (own_within s e o).inside

  size : length (encoding s e) ≡ e.stop - e.at
  size = length-slice s e.at (e.stop - e.at) (let l = stop_length in let k = at_stop in omega arith)

  -- read alone, it is the same from 0 on
  read_alone : moved e.at (element_at (encoding s e) 0 (e.stop - e.at)) ≡ e
  read_alone =
      let k = at_stop in
      let start : e.at + 0 ≡ e.at = omega arith in
      let ends : e.at + (e.stop - e.at) ≡ e.stop = omega arith in
      sym (element-moved s e.at e.stop at_stop stop_length 0 (e.stop - e.at) (omega arith))
      ∙ ap₂ (element_at s) start ends
      ∙ sym o.is

  pub fits_alone : (g : Syntax) (outer : ℕ) → fit g s e.at e.stop outer ≡ Ok tt → fit g (encoding s e) 0 (length (encoding s e)) 0 ≡ Ok tt
  fits_alone g outer h =
      let k = at_stop in
      let start : e.at + 0 ≡ e.at = omega arith in
      let ends : e.at + (e.stop - e.at) ≡ e.stop = omega arith in
      rw size
      (kept_fits (fit g (encoding s e) 0 (e.stop - e.at) 0)
      (sym (fit-moved s e.at e.stop at_stop stop_length g 0 (e.stop - e.at) outer 0 (omega arith))
      ∙ ap₂ (λ (x y : ℕ). kept (fit g s x y outer)) start ends
      ∙ ap kept h))

  pub spans-alone : (d : ℕ) → der d s e ≡ Ok tt → spans d (encoding s e) 0 (length (encoding s e)) 0 ≡ Ok tt
  spans-alone d h =
      let k = at_stop in
      let w = own_within s e o in
      let alone = element_at (encoding s e) 0 (e.stop - e.at) in
      let ends : e.at + alone.stop ≡ e.stop = ap (λ (x : Element). x.stop) read_alone in
      rw size
      (spans_holds d (encoding s e) 0 (e.stop - e.at) 0 (omega arith)
      (kept_fits (der d (encoding s e) alone)
      (sym (der-moved s e.at e.stop at_stop stop_length d alone (omega arith)) ∙ ap (λ (x : Element). kept (der d s x)) read_alone ∙ ap kept h))
      (omega arith))
