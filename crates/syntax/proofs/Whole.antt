-- DER and syntax at once: the run of a window's elements step by step, and a row, one way through the walk's tests at a time.
use Rattle.std.specs.Prelude.{Result, Ok, Err}
use Prim.Native.Nat.{ℕ, ◌-◌, ◌≤◌, ◌<◌}
use native.Mathlib.Omega.{arith}
use mathlib.Core.Bool.{Bool, true, false, not, ◌&&◌, and-eq-true_iff}
use mathlib.Core.List.{List, [], ◌∷◌}
use mathlib.Core.Logic.{◌⊎◌}
use mathlib.Core.Path.{◌≡◌, refl, sym, ap, ap₂, ◌∙◌}
use lib.Dec.{ltb, leb, eqb}
use borrow.Author.Tests.{not-true, ltb-true, ltb-false, leb-true, leb-false, eq-eqb, ne_eqb, eqb-false}
use Rattle.octets.specs.Octets.{slice}
use Rattle.octets.proofs.Lists.{by_test}
use Rattle.der.specs.declared.Element.{Element}
use Rattle.der.specs.Element.{element_at, elements, constructed}
use Rattle.der.specs.Fit.{and_then, held, kept, each_from, each, Fit}
use Rattle.der.specs.Check.{sorted_in, der, spans}
use Rattle.der.proofs.Bools.{and_true, and_false}
use Rattle.der.proofs.Elements.{valid_within, elements_end, elements_turn}
use Rattle.der.proofs.Checks.{member_fit, sorted_other, der_bad, der_run_lem, spans-none, spans_one}
use Rattle.syntax.specs.declared.row.Row.TheVariants.{Free, End, Many, Obeys, Field}
use Rattle.syntax.specs.declared.row.Kind.{Kind}
use Rattle.syntax.specs.declared.row.Kind.TheVariants.{Optional, Required, One, AnyOptional}
use Rattle.syntax.specs.declared.row.Rule.TheVariants.{the_data}
use Rattle.syntax.specs.Grammar.{obeyed, Syntax, many, fit}
use Rattle.syntax.specs.Contract.Rows.{rule_of, field_syntax, grammar_of, RowIs, then_after, left_out}
use Rattle.syntax.specs.Contract.Whole.{der_run, conforms_in, after_if, then_conforms, entered}
use Rattle.syntax.proofs.Each.{kept_then, kept-held, kept_turn}
use Rattle.der.proofs.Runs.{again}
use Rattle.syntax.proofs.Match.{Met}
use Rattle.syntax.proofs.RowSteps.{by_contents, row_free, row_end, row_end_breaks, row_many, row_rule, row_field, members_fit, members_turn}
use Rattle.syntax.proofs.RowSteps.{field-none, field_broken, field_any, field_one, field-other, field-here}

swap : (a b c d : Bool) → (a && b) && (c && d) ≡ (a && c) && (b && d)
swap true true c d = refl
swap true false c d = sym (and_false c)
swap false b c d = refl

all_hold : {v : Bool} → v ≡ true → (a b c d : Bool) → ((v && a) && b) && ((v && c) && d) ≡ (a && c) && (b && d)
all_hold h a b c d = rw h (swap a b c d)

none_holds : {v : Bool} → v ≡ false → (a b c : Bool) → ((v && a) && b) && c ≡ false
none_holds h a b c = rw h

assoc : (a b c : Bool) → (a && b) && c ≡ a && (b && c)
assoc true b c = refl
assoc false b c = refl

-- judges that keep alike, whatever stands before a member
module _ (j k : Element → Element → Fit) (alike : (f g e : Element) → kept (j f e) ≡ kept (k g e)) where
  alike_from : (f g : Element) (es : List Element) → kept (each_from j f es) ≡ kept (each_from k g es)
  unfolding each_from
  alike_from f g [] = refl
  alike_from f g (e ∷ es) =
      kept_turn j f e es ∙ ap₂ ◌&&◌ (ap (λ (b : Bool). e.valid && b) (alike f g e)) (alike_from e e es) ∙ sym (kept_turn k g e es)

  alike_each : (es : List Element) → kept (each j es) ≡ kept (each k es)
  unfolding each
  alike_each [] = refl
  alike_each (e ∷ es) = alike_from e e (e ∷ es)

-- the run of a window's elements

module _ (d : ℕ) (s : List ℕ) (at stop : ℕ) where
  pub run_end : stop ≤ at → der_run d s at stop ≡ true
  unfolding der_run each
  run_end l = ap (λ (es : List Element). kept (each (λ former e. der d s e) es)) (elements_end s at stop l)

  pub run-free : (tag : ℕ) → (tag ≡ 49 → ⊥) → kept (each (member_fit d s tag) (elements s at stop)) ≡ der_run d s at stop
  unfolding der_run
  run-free tag n =
      alike_each (member_fit d s tag) (λ former e. der d s e)
      (λ f g e.
      kept_then (der d s e) (held e.at (sorted_in tag s f e))
      ∙ ap (λ (b : Bool). kept (der d s e) && b) (kept-held e.at (sorted_in tag s f e) ∙ sorted_other tag s f e n)
      ∙ and_true (kept (der d s e)))
      (elements s at stop)

  module _ {e : Element} (q : e ≡ element_at s at stop) (g : e.valid ≡ true) where
    pub run_turn : der_run d s at stop ≡ kept (der d s e) && der_run d s e.stop stop
    unfolding der_run each each_from
    run_turn =
        ap (λ (es : List Element). kept (each (λ former e. der d s e) es)) (elements_turn s at stop q g)
        ∙ kept_turn (λ former e. der d s e) e e (elements s e.stop stop)
        ∙ ap₂ ◌&&◌ (ap (λ (b : Bool). b && kept (der d s e)) g) (from_each (elements s e.stop stop))
      where
        from_each : (es : List Element) → kept (each_from (λ former e. der d s e) e es) ≡ kept (each (λ former e. der d s e) es)
        from_each [] = refl
        from_each (m ∷ es) = refl

-- an element alone in its window
pub run_one : (d : ℕ) (s : List ℕ) (at stop : ℕ) {e : Element} → e ≡ element_at s at stop → e.valid ≡ true → der_run d s at e.stop ≡ kept (der d s e)
run_one d s at stop {e} q g =
    run_turn d s at e.stop (sym (again s at stop q g)) g
    ∙ ap (λ (b : Bool). kept (der d s e) && b) (run_end d s e.stop e.stop (omega arith))
    ∙ and_true (kept (der d s e))

-- an element that spans its window, or not: what is asked of it is asked of the run
module _ (d : ℕ) (s : List ℕ) (at stop outer : ℕ) {e : Element} (q : e ≡ element_at s at stop) where
  pub spans_bad : e.valid ≡ false → kept (spans d s at stop outer) ≡ false
  unfolding and_then
  spans_bad b =
      by_test (ltb at stop)
      (λ t.
      ap kept
      (spans_one d s at stop outer (ltb-true at stop t) q
      ∙ ap (λ (f : Fit). and_then f (held e.stop (eqb e.stop stop))) (der_bad s e d b)))
      (λ t. ap kept (spans-none d s at stop outer (ltb-false at stop t)))

  module _ (g : e.valid ≡ true) where
    spans-kept : kept (spans d s at stop outer) ≡ kept (der d s e) && eqb e.stop stop
    spans-kept =
        let w = valid_within s at stop q g in
        let l : at < stop = omega arith in
        ap kept (spans_one d s at stop outer l q)
        ∙ kept_then (der d s e) (held e.stop (eqb e.stop stop))
        ∙ ap (λ (b : Bool). kept (der d s e) && b) (kept-held e.stop (eqb e.stop stop))

    pub spans-long : (e.stop ≡ stop → ⊥) → kept (spans d s at stop outer) ≡ false
    spans-long n = spans-kept ∙ ap (λ (b : Bool). kept (der d s e) && b) (ne_eqb e.stop stop n) ∙ and_false (kept (der d s e))

    pub spans-run : e.stop ≡ stop → kept (spans d s at stop outer) ≡ der_run d s at stop
    spans-run h =
        spans-kept
        ∙ ap (λ (b : Bool). kept (der d s e) && b) (eq-eqb e.stop stop h)
        ∙ and_true (kept (der d s e))
        ∙ sym (run_one d s at stop q g)
        ∙ ap (der_run d s at) h

-- one that is entered
pub run_inside : (d : ℕ) (s : List ℕ) (e : Element) → e.valid ≡ true → (e.tag ≡ 49 → ⊥) → (d ≡ 0 → ⊥) → constructed e.tag ≡ true
    → der_run (d - 1) s e.start e.stop ≡ kept (der d s e)
run_inside d s e g n z k = sym (ap kept (der_run_lem s e d z g k) ∙ run-free (d - 1) s e.start e.stop e.tag n)

pub entered_is : (body tag d : ℕ) → entered body tag d ≡ true → (tag ≡ 49 → ⊥) × ((d ≡ 0 → ⊥) × (constructed tag ≡ true))
entered_is body tag d e =
    let one = (and-eq-true_iff (not (eqb body 0)) (not (eqb tag 49) && (not (eqb d 0) && constructed tag))).0 e in
    let two = (and-eq-true_iff (not (eqb tag 49)) (not (eqb d 0) && constructed tag)).0 one.1 in
    let three = (and-eq-true_iff (not (eqb d 0)) (constructed tag)).0 two.1 in
    (eqb-false tag 49 (not-true _ two.0), (eqb-false d 0 (not-true _ three.0), three.1))

-- a row of the table, as read

left-conforms : (kind : Kind) (at x y : ℕ) (d : ℕ → Bool) (f : ℕ → Fit)
    → d at && kept (then_after (left_out kind at x) f) ≡ then_conforms (left_out kind at y) (λ i. d i && kept (f i))
unfolding left_out then_after then_conforms
left-conforms Optional at x y d f = refl
left-conforms Required at x y d f = and_false (d at)
left-conforms One at x y d f = and_false (d at)
left-conforms AnyOptional at x y d f = refl

if_conforms : (ok : Bool) (stop : ℕ) (rest : ℕ → Bool) → then_conforms (after_if ok stop) rest ≡ ok && rest stop
unfolding then_conforms after_if
if_conforms true stop rest = refl
if_conforms false stop rest = refl

contents-kept : (x : Fit) (stop : ℕ) (f : ℕ → Fit) → kept (then_after (by_contents x stop) f) ≡ kept x && kept (f stop)
unfolding then_after by_contents
contents-kept (Ok _) stop f = refl
contents-kept (Err o) stop f = refl

-- a field, by its kind, and what stands next
module _ (tag : ℕ) (body next : Syntax) (s : List ℕ) (at stop d outer : ℕ) (kind : Kind) where
  abbrev answer : Bool
  answer = conforms_in d (field_syntax kind tag body next) s at stop outer

  abbrev run : ℕ → Bool
  run i = der_run d s i stop

  abbrev rest : ℕ → Fit
  rest i = fit next s i stop outer

  abbrev from : Result ℕ ℕ → Bool
  from g = then_conforms g (λ i. run i && kept (rest i))

  by_fit : {f : Fit} → fit (field_syntax kind tag body next) s at stop outer ≡ f → answer ≡ run at && kept f
  by_fit h = ap (λ (f : Fit). run at && kept f) h

  pub whole_none : {g : Result ℕ ℕ} → g ≡ left_out kind at at → stop ≤ at → answer ≡ from g
  whole_none v l = rw v (by_fit (field-none tag body next s at stop outer kind refl l) ∙ left-conforms kind at outer at run rest)

  pub whole_broken : {e : Element} → e ≡ element_at s at stop → at < stop → e.valid ≡ false → answer ≡ from (Err at)
  unfolding then_after then_conforms
  whole_broken q l bad = by_fit (field_broken tag body next s at stop outer kind q l bad) ∙ and_false (run at)

  module _ {e : Element} (m : Met s at stop e) where
    -- the element is der, and what its contents give
    by_element_lem : (x : Fit) → fit (field_syntax kind tag body next) s at stop outer ≡ then_after (by_contents x e.stop) rest
        → {ok : Bool} {g : Result ℕ ℕ} → ok ≡ kept (der d s e) && kept x → g ≡ after_if ok e.stop → answer ≡ from g
    by_element_lem x h p v =
        rw (v, p)
        (ap₂ ◌&&◌ (run_turn d s at stop m.is m.valid) (ap kept h ∙ contents-kept x e.stop rest)
        ∙ swap (kept (der d s e)) (run e.stop) (kept x) (kept (rest e.stop))
        ∙ sym (if_conforms (kept (der d s e) && kept x) e.stop (λ i. run i && kept (rest i))))

    pub whole_any : kind ≡ AnyOptional → {ok : Bool} {g : Result ℕ ℕ} → ok ≡ kept (der d s e) → g ≡ after_if ok e.stop → answer ≡ from g
    unfolding then_after by_contents
    whole_any k p v = by_element_lem (Ok tt) (field_any tag body next s at stop outer m k) (p ∙ sym (and_true (kept (der d s e)))) v

    pub whole_one : kind ≡ One → {ok : Bool} {g : Result ℕ ℕ} → ok ≡ conforms_in d body s at e.stop outer → g ≡ after_if ok e.stop → answer ≡ from g
    whole_one k p v =
        let x = fit body s at e.stop outer in
        by_element_lem x (field_one tag body next s at stop outer m k refl refl)
        (p ∙ ap (λ (y : Bool). y && kept x) (run_one d s at stop m.is m.valid))
        v

    module _ (k : (kind ≡ Optional) ⊎ (kind ≡ Required)) where
      pub whole_other : {g : Result ℕ ℕ} → g ≡ left_out kind at at → (e.tag ≡ tag → ⊥) → answer ≡ from g
      whole_other v h = rw v (by_fit (field-other tag body next s at stop outer m kind k refl h) ∙ left-conforms kind at at at run rest)

      pub whole_here : e.tag ≡ tag → {ok : Bool} {g : Result ℕ ℕ} → ok ≡ kept (der d s e) && kept (fit body s e.start e.stop e.at)
          → g ≡ after_if ok e.stop → answer ≡ from g
      whole_here t p v =
          by_element_lem (fit body s e.start e.stop at) (field-here tag body next s at stop outer m kind k refl refl t)
          (p ∙ ap (λ (i : ℕ). kept (der d s e) && kept (fit body s e.start e.stop i)) (valid_within s at stop m.is m.valid).here)
          v

-- what the contents give, of an element that is entered
pub by_run : (g : Syntax) (s : List ℕ) (d : ℕ) (e : Element) → e.valid ≡ true → (body : ℕ) → entered body e.tag d ≡ true
    → {ok : Bool} → ok ≡ conforms_in (d - 1) g s e.start e.stop e.at → ok ≡ kept (der d s e) && kept (fit g s e.start e.stop e.at)
by_run g s d e v body t p =
    let h = entered_is body e.tag d t in
    p ∙ ap (λ (x : Bool). x && kept (fit g s e.start e.stop e.at)) (run_inside d s e v h.0 h.1.0 h.1.1)

module _ (n : ℕ) (o s : List ℕ) (at stop d outer : ℕ) where
  abbrev whole : Bool
  whole = conforms_in d (grammar_of o n) s at stop outer

  by_row : {f : Fit} → fit (grammar_of o n) s at stop outer ≡ f → whole ≡ der_run d s at stop && kept f
  by_row h = ap (λ (f : Fit). der_run d s at stop && kept f) h

  pub whole_free : RowIs n Free → {x : Fit} → x ≡ each (member_fit d s 0) (elements s at stop) → whole ≡ kept x
  whole_free r v =
      let z : ◌≡◌ {A = ℕ} 0 49 → ⊥ = λ z. omega arith in
      by_row (row_free n o s at stop outer r) ∙ and_true (der_run d s at stop) ∙ sym (ap kept v ∙ run-free d s at stop 0 z)

  pub whole_end : RowIs n End → whole ≡ leb stop at
  whole_end r =
      by_test (leb stop at)
      (λ t.
      let l = leb-true stop at t in
      by_row (row_end n o s at stop outer r l) ∙ and_true (der_run d s at stop) ∙ run_end d s at stop l ∙ sym t)
      (λ t. by_row (row_end_breaks n o s at stop outer r (leb-false stop at t)) ∙ and_false (der_run d s at stop) ∙ sym t)

  pub whole_many : {body : ℕ} → RowIs n (Many body) → whole ≡ conforms_in d (many (grammar_of o body)) s at stop outer
  whole_many r = by_row (row_many n o s at stop outer r)

  pub whole_rule : {rule : the_data} {body : ℕ} → RowIs n (Obeys rule body)
      → whole ≡ conforms_in d (grammar_of o body) s at stop outer && obeyed (rule_of rule o) (slice s at stop)
  whole_rule {rule = rule} {body = body} r =
      let f = fit (grammar_of o body) s at stop outer in
      let ok = obeyed (rule_of rule o) (slice s at stop) in
      by_row (row_rule n o s at stop outer r)
      ∙ ap (λ (x : Bool). der_run d s at stop && x) (kept_then f (held outer ok) ∙ ap (λ (x : Bool). kept f && x) (kept-held outer ok))
      ∙ sym (assoc (der_run d s at stop) (kept f) ok)

  module _ {kind : Kind} {tag body next : ℕ} (r : RowIs n (Field kind tag body next)) {f : Result ℕ ℕ}
      (h : (g : Syntax) → conforms_in d (field_syntax kind tag (grammar_of o body) g) s at stop outer ≡ then_conforms f (λ i. conforms_in d g s i stop outer)) where
    pub conforms_on : {i : ℕ} → f ≡ Ok i → whole ≡ conforms_in d (grammar_of o next) s i stop outer
    unfolding then_conforms
    conforms_on e = by_row (row_field n o s at stop outer r) ∙ (rw e at h (grammar_of o next))

    pub conforms-not : {i : ℕ} → f ≡ Err i → whole ≡ false
    unfolding then_conforms
    conforms-not e = by_row (row_field n o s at stop outer r) ∙ (rw e at h (grammar_of o next))

-- the members of a run, of which each is read by itself

module _ (d : ℕ) (g : Syntax) (s : List ℕ) (outer : ℕ) where
  abbrev pub members_conform : List Element → Bool
  members_conform es = kept (each (λ former e. der d s e) es) && kept (members_fit g s outer es)

  pub conforms_many : (at stop : ℕ) → conforms_in d (many g) s at stop outer ≡ members_conform (elements s at stop)
  unfolding der_run fit
  conforms_many at stop = refl

  pub conform_end : {l : List Element} → l ≡ [] → members_conform l ≡ true
  unfolding each
  conform_end q = ap members_conform q

  module _ {e : Element} {m l : List Element} (q : l ≡ e ∷ m) where
    turn : members_conform l ≡ ((e.valid && kept (der d s e)) && kept (each (λ former x. der d s x) m)) && ((e.valid && kept (fit g s e.at e.stop outer)) && kept (members_fit g s outer m))
    unfolding each each_from
    turn =
        ap members_conform q
        ∙ ap₂ ◌&&◌
        (kept_turn (λ former x. der d s x) e e m ∙ ap (λ (b : Bool). (e.valid && kept (der d s e)) && b) (from_each m))
        (ap kept (members_turn g s outer e m)
        ∙ kept_then _ (members_fit g s outer m)
        ∙ ap (λ (b : Bool). b && kept (members_fit g s outer m)) (kept_then (held e.at e.valid) (fit g s e.at e.stop outer) ∙ ap (λ (b : Bool). b && kept (fit g s e.at e.stop outer)) (kept-held e.at e.valid)))
      where
        from_each : (es : List Element) → kept (each_from (λ former x. der d s x) e es) ≡ kept (each (λ former x. der d s x) es)
        from_each [] = refl
        from_each (x ∷ es) = refl

    pub conform_bad : e.valid ≡ false → members_conform l ≡ false
    conform_bad v = turn ∙ none_holds v (kept (der d s e)) (kept (each (λ former x. der d s x) m)) _

    pub conform_goes : e ≡ element_at s e.at e.stop → e.valid ≡ true → {b : Bool} → b ≡ conforms_in d g s e.at e.stop outer → members_conform l ≡ b && members_conform m
    conform_goes i v h =
        turn
        ∙ all_hold v (kept (der d s e)) (kept (each (λ former x. der d s x) m)) (kept (fit g s e.at e.stop outer)) (kept (members_fit g s outer m))
        ∙ ap (λ (b : Bool). b && members_conform m) (sym (h ∙ ap (λ (b : Bool). b && kept (fit g s e.at e.stop outer)) (run_one d s e.at e.stop i v)))
