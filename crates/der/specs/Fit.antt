-- Keeping a rule, or the first break of it. 02, E3: elements are read front to back; the first break counts.
-- The place in `Err` serves E3 alone: it is the offset of the element that is charged (protocol, specs/Offset, has the rule). 01 asks only whether a rule
-- breaks; who reads a definition with 01 alone beside it may pass over every place (`at`, `outer`, `charged`).
use Rattle.std.specs.Prelude.{ℕ, Bool, true, false, List, [], ◌∷◌, Ok, Err, Result}
use Rattle.der.specs.declared.Element.{Element}

-- whether a rule is kept: `Ok tt`, or `Err` and the offset of the element that breaks it
abbrev pub Fit : Type 0
Fit = Result (Unit {0}) ℕ

-- the first rule, and if it is kept the second
unfoldable pub and_then : Fit → Fit → Fit
and_then (Ok _) g = g
and_then (Err o) g = Err o

-- a test, whose break is charged to the element at `at`
unfoldable pub held : ℕ → Bool → Fit
held at true = Ok tt
held at false = Err at

abbrev pub kept : Fit → Bool
kept (Ok _) = true
kept (Err o) = false

-- the elements of a run in turn, each by its header and then by a judge that is given the element before it too
unfoldable pub each_from : (Element → Element → Fit) → Element → List Element → Fit
each_from judge former [] = Ok tt
each_from judge former (e ∷ es) = and_then (and_then (held e.at e.valid) (judge former e)) (each_from judge e es)

-- the first has itself before it
unfoldable pub each : (Element → Element → Fit) → List Element → Fit
each judge [] = Ok tt
each judge (e ∷ es) = each_from judge e (e ∷ es)

-- A row of 01's table of answers is a Fit: it applies where it breaks. This is a row whose condition is a test: it applies where the test is true, and E3
-- gives it no offset
unfoldable pub applies_if : Bool → Fit
applies_if true = Err 0
applies_if false = Ok tt

module _ {A : Type 0} where
  -- 01, Answers: "The first that applies is given": the answer of a row that applies, for the offset that it has; else what comes next
  unfoldable pub given_at : Fit → (ℕ → A) → A → A
  given_at (Ok _) answer next = next
  given_at (Err o) answer next = answer o
