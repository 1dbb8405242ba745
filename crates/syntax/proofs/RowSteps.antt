-- What a row stands for, by its kind, one way through the matcher's tests at a time; and the loop of `many`.
use Rattle.std.specs.Prelude.{Result, Ok, Err}
use Prim.Native.Nat.{ℕ, ◌≤◌, ◌<◌}
use native.Mathlib.Omega.{arith}
use mathlib.Core.Bool.{true, false}
use mathlib.Core.List.{List, [], ◌∷◌}
use mathlib.Core.Logic.{◌⊎◌, inl, inr}
use mathlib.Core.Path.{◌≡◌, refl, sym, ap, ◌∙◌}
use borrow.Author.Tests.{le-leb, lt-leb}
use Rattle.octets.specs.Octets.{slice}
use Rattle.der.specs.declared.Element.{Element}
use Rattle.der.specs.Element.{element_at, elements}
use Rattle.der.specs.Fit.{and_then, held, each_from, each, Fit}
use Rattle.der.proofs.Fits.{then_fits, then_breaks, held_fits, held_breaks, each_start, each_end, each_breaks, each_turn}
use Rattle.syntax.specs.declared.row.Row.{Row}
use Rattle.syntax.specs.declared.row.Row.TheVariants.{Free, End, Many, Obeys, Field}
use Rattle.syntax.specs.declared.row.Kind.{Kind}
use Rattle.syntax.specs.declared.row.Kind.TheVariants.{Optional, Required, One, AnyOptional}
use Rattle.syntax.specs.declared.row.Rule.TheVariants.{the_data}
use Rattle.syntax.specs.Grammar.{obeyed, Syntax, end, optional, many, fit}
use Rattle.syntax.specs.Contract.Rows.{rule_of, field_syntax, row_syntax, grammar_of, RowIs, then_after, left_out}
use Rattle.syntax.proofs.Match.{Met, own_window, optional_end, one_end, any_end, optional_broken, one_broken, any_broken, optional_other}
use Rattle.syntax.proofs.Match.{optional_here, one_turn, any_turn}
use Rattle.syntax.proofs.Rows.{first_fits, second_ends}

then_nothing : (f : Fit) → and_then f (Ok tt) ≡ f
unfolding and_then
then_nothing (Ok _) = refl
then_nothing (Err o) = refl

module _ (s : List ℕ) (at stop outer : ℕ) where
  end_holds : stop ≤ at → fit end s at stop outer ≡ Ok tt
  unfolding fit
  end_holds l = held_fits at (le-leb stop at l)

  end_breaks : at < stop → fit end s at stop outer ≡ Err at
  unfolding fit
  end_breaks l = held_breaks at (lt-leb stop at l)

-- one field and then the end, in a window or, where the field is required, in that of its own element
module _ (t : ℕ) (g : Syntax) {s : List ℕ} {at stop : ℕ} (outer : ℕ) {e : Element} (m : Met s at stop e) where
  alone-other : (e.tag ≡ t → ⊥) → fit (optional t g end) s at stop outer ≡ Err at
  alone-other n =
      optional_other m outer t g end n ∙ end_breaks s at stop outer m.room

  pub alone-here : e.tag ≡ t → stop ≤ e.stop → fit (optional t g end) s at stop outer ≡ fit g s e.start e.stop at
  alone-here n l =
      optional_here m outer t g end n
      ∙ ap (and_then (fit g s e.start e.stop at)) (end_holds s e.stop stop outer l)
      ∙ then_nothing (fit g s e.start e.stop at)

-- a field that is there, up to stop: it breaks where its contents do
unfoldable pub by_contents : Fit → ℕ → Result ℕ ℕ
by_contents (Ok _) stop = Ok stop
by_contents (Err o) stop = Err o

pub contents_goes : {x : Fit} (stop : ℕ) → x ≡ Ok tt → by_contents x stop ≡ Ok stop
unfolding by_contents
contents_goes stop e = rw e

pub contents_breaks : {x : Fit} (stop : ℕ) {o : ℕ} → x ≡ Err o → by_contents x stop ≡ Err o
unfolding by_contents
contents_breaks stop e = rw e

contents_then : (f : Fit) (stop : ℕ) (rest : ℕ → Fit) → and_then f (rest stop) ≡ then_after (by_contents f stop) rest
unfolding then_after by_contents and_then
contents_then (Ok _) stop rest = refl
contents_then (Err i) stop rest = refl

-- a field, by its kind, and what stands next
module _ (tag : ℕ) (body next : Syntax) (s : List ℕ) (at stop outer : ℕ) where
  abbrev answer : Kind → Fit
  answer kind = fit (field_syntax kind tag body next) s at stop outer

  abbrev from : Result ℕ ℕ → Fit
  from g = then_after g (λ i. fit next s i stop outer)

  -- no element is left
  pub field-none : (kind : Kind) {g : Result ℕ ℕ} → g ≡ left_out kind at outer → stop ≤ at → answer kind ≡ from g
  unfolding field_syntax then_after left_out
  field-none Optional v l = rw v (optional_end s at stop outer l tag body next)
  field-none Required v l = rw v (one_end s at stop outer l (optional tag body end) next)
  field-none One v l = rw v (one_end s at stop outer l body next)
  field-none AnyOptional v l = rw v (any_end s at stop outer l next)

  -- what stands there is no element
  pub field_broken : (kind : Kind) {e : Element} → e ≡ element_at s at stop → at < stop → e.valid ≡ false → answer kind ≡ from (Err at)
  unfolding field_syntax then_after
  field_broken Optional q l bad = optional_broken s at stop outer q l bad tag body next
  field_broken Required q l bad = one_broken s at stop outer q l bad (optional tag body end) next
  field_broken One q l bad = one_broken s at stop outer q l bad body next
  field_broken AnyOptional q l bad = any_broken s at stop outer q l bad next

  module _ {e : Element} (m : Met s at stop e) where
    pub field_any : {kind : Kind} → kind ≡ AnyOptional → answer kind ≡ from (Ok e.stop)
    unfolding field_syntax then_after
    field_any k = rw k (any_turn m outer next)

    pub field_one : {kind : Kind} → kind ≡ One → {x : Fit} {g : Result ℕ ℕ} → x ≡ fit body s at e.stop outer → by_contents x e.stop ≡ g → answer kind ≡ from g
    unfolding field_syntax
    field_one k q v = rw (k, ← v, q) (one_turn m outer body next ∙ contents_then _ _ _)

    -- a required field is one of its own window
    required_is : answer Required ≡ and_then (fit (optional tag body end) s at e.stop outer) (fit next s e.stop stop outer)
    unfolding field_syntax
    required_is = one_turn m outer (optional tag body end) next

    -- optional or required, by the tag
    module _ (kind : Kind) (k : (kind ≡ Optional) ⊎ (kind ≡ Required)) where
      pub field-other : {g : Result ℕ ℕ} → g ≡ left_out kind at at → (e.tag ≡ tag → ⊥) → answer kind ≡ from g
      unfolding field_syntax then_after left_out
      field-other v h =
          elim k [
            | inl q ↦ rw (v, q) (optional_other m outer tag body next h)
            | inr q ↦ rw (v, q) (required_is ∙ then_breaks _ (alone-other tag body outer (own_window m) h))
          ]

      pub field-here : {x : Fit} {g : Result ℕ ℕ} → x ≡ fit body s e.start e.stop at → by_contents x e.stop ≡ g → e.tag ≡ tag → answer kind ≡ from g
      unfolding field_syntax
      field-here v w h =
          elim k [
            | inl q ↦ rw (← w, v, q) (optional_here m outer tag body next h ∙ contents_then _ _ _)
            | inr q ↦
                rw (← w, v, q)
                (required_is
                ∙ ap (λ (f : Fit). and_then f (fit next s e.stop stop outer)) (alone-here tag body outer (own_window m) h (omega arith))
                ∙ contents_then _ _ _)
          ]

-- a row of the table, as read
module _ (n : ℕ) (o s : List ℕ) (at stop outer : ℕ) where
  abbrev whole : Fit
  whole = fit (grammar_of o n) s at stop outer

  is : {row : Row} → RowIs n row → whole ≡ fit (row_syntax o (grammar_of o) row) s at stop outer
  is r = ap (λ (g : Syntax). fit g s at stop outer) (r.stands o)

  pub row_free : RowIs n Free → whole ≡ Ok tt
  unfolding row_syntax fit
  row_free r = is r

  pub row_end : RowIs n End → stop ≤ at → whole ≡ Ok tt
  unfolding row_syntax
  row_end r l = is r ∙ end_holds s at stop outer l

  pub row_end_breaks : RowIs n End → at < stop → whole ≡ Err at
  unfolding row_syntax
  row_end_breaks r l = is r ∙ end_breaks s at stop outer l

  pub row_many : {body : ℕ} → RowIs n (Many body) → whole ≡ fit (many (grammar_of o body)) s at stop outer
  unfolding row_syntax
  row_many r = is r

  module _ {rule : the_data} {body : ℕ} (r : RowIs n (Obeys rule body)) where
    pub row_rule : whole ≡ and_then (fit (grammar_of o body) s at stop outer) (held outer (obeyed (rule_of rule o) (slice s at stop)))
    unfolding row_syntax fit
    row_rule = is r

    -- a rule alone: its body is free
    pub rule_alone : body ≡ 0 → {x : Fit} → x ≡ held outer (obeyed (rule_of rule o) (slice s at stop)) → whole ≡ x
    rule_alone z v = row_rule ∙ then_fits _ (first_fits o s at stop outer z) ∙ sym v

  module _ {kind : Kind} {tag body next : ℕ} (r : RowIs n (Field kind tag body next)) where
    pub row_field : whole ≡ fit (field_syntax kind tag (grammar_of o body) (grammar_of o next)) s at stop outer
    unfolding row_syntax
    row_field = is r

    -- a field, and what stands after it
    module _ {f : Result ℕ ℕ} (h : (g : Syntax) → fit (field_syntax kind tag (grammar_of o body) g) s at stop outer ≡ then_after f (λ i. fit g s i stop outer)) where
      pub after_goes : {i : ℕ} → f ≡ Ok i → whole ≡ fit (grammar_of o next) s i stop outer
      unfolding then_after
      after_goes k = row_field ∙ (rw k at h (grammar_of o next))

      pub after_breaks : {i : ℕ} → f ≡ Err i → whole ≡ Err i
      unfolding then_after
      after_breaks k = row_field ∙ (rw k at h (grammar_of o next))

  -- an optional field, and then the end
  module _ {kind : Kind} {tag body next : ℕ} (r : RowIs n (Field kind tag body next)) (k : kind ≡ Optional) (z : next ≡ 1) {x : Element} (m : Met s at stop x) where
    lone : whole ≡ fit (optional tag (grammar_of o body) end) s at stop outer
    unfolding field_syntax
    lone = row_field r ∙ rw (k, second_ends o z)

    pub lone_other : (x.tag ≡ tag → ⊥) → whole ≡ Err at
    lone_other h = lone ∙ alone-other tag (grammar_of o body) outer m h

    pub lone_here : x.tag ≡ tag → stop ≤ x.stop → whole ≡ fit (grammar_of o body) s x.start x.stop at
    lone_here h l = lone ∙ alone-here tag (grammar_of o body) outer m h l

-- The loop over a run: from an element on, the answer is that for the run from there. (The judge looks at the element alone.)

-- the members that are left, of which f reads each
module _ (g : Syntax) (s : List ℕ) (outer : ℕ) where
  abbrev pub members_fit : List Element → Fit
  members_fit = each (λ former e. fit g s e.at e.stop outer)

  pub members_many : (at stop : ℕ) → fit (many g) s at stop outer ≡ members_fit (elements s at stop)
  unfolding fit
  members_many at stop = refl

  members_from : (former : Element) (es : List Element) → each_from (λ former e. fit g s e.at e.stop outer) former es ≡ members_fit es
  unfolding each each_from
  members_from former [] = refl
  members_from former (e ∷ es) = refl

  pub members_turn : (e : Element) (m : List Element) → members_fit (e ∷ m) ≡ and_then (and_then (held e.at e.valid) (fit g s e.at e.stop outer)) (members_fit m)
  unfolding each each_from
  members_turn e m = ap (and_then (and_then (held e.at e.valid) (fit g s e.at e.stop outer))) (members_from e m)

  module _ {l : List Element} {x : Fit} (rest : members_fit l ≡ x) where
    pub members_end : l ≡ [] → Ok tt ≡ x
    unfolding each
    members_end q = sym (ap members_fit q) ∙ rest

    module _ {e : Element} {m : List Element} (q : l ≡ e ∷ m) where
      turn : x ≡ and_then (and_then (held e.at e.valid) (fit g s e.at e.stop outer)) (members_fit m)
      turn = sym rest ∙ ap members_fit q ∙ members_turn e m

      pub members_broken : e.valid ≡ false → Err e.at ≡ x
      members_broken v = sym (turn ∙ then_breaks _ (then_breaks _ (held_breaks e.at v)))

      module _ (v : e.valid ≡ true) {r : Fit} (h : r ≡ fit g s e.at e.stop outer) where
        pub members_fail : {o : ℕ} → r ≡ Err o → Err o ≡ x
        members_fail k = sym (turn ∙ then_breaks _ (then_fits _ (held_fits e.at v) ∙ sym h ∙ k))

        pub members_on : r ≡ Ok tt → members_fit m ≡ x
        members_on k = sym (turn ∙ then_fits _ (then_fits _ (held_fits e.at v) ∙ sym h ∙ k))

module _ (g : Syntax) (s : List ℕ) (at stop outer : ℕ) where
  member : Element → Element → Fit
  member former e = fit g s e.at e.stop outer

  member-from : (former : Element) (es : List Element) → each_from member former es ≡ each member es
  unfolding member each each_from
  member-from former [] = refl
  member-from former (e ∷ es) = refl

  many_from : fit (many g) s at stop outer ≡ each_from member (element_at s at stop) (elements s at stop)
  unfolding fit member
  many_from = sym (each_start member s at stop)

  pub many_end : stop ≤ at → fit (many g) s at stop outer ≡ Ok tt
  many_end l = many_from ∙ each_end member s at stop (element_at s at stop) l

  module _ {e : Element} (q : e ≡ element_at s at stop) where
    pub many_turn : e.valid ≡ true → fit (many g) s at stop outer ≡ and_then (fit g s e.at e.stop outer) (fit (many g) s e.stop stop outer)
    unfolding fit member and_then
    many_turn b = go (fit g s e.at e.stop outer) refl
      where
        go : (f : Fit) → fit g s e.at e.stop outer ≡ f → fit (many g) s at stop outer ≡ and_then f (fit (many g) s e.stop stop outer)
        go (Ok _) j = many_from ∙ each_turn member s at stop (element_at s at stop) q b j ∙ member-from e (elements s e.stop stop)
        go (Err i) j = many_from ∙ each_breaks member s at stop (element_at s at stop) q b j
