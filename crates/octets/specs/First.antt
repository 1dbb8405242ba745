-- 01, Answers: "The first that applies is given".
use Rattle.std.specs.Prelude.{Bool, true, false}

module _ {A : Type 0} where
  -- the answer where its test applies, else what comes next
  unfoldable pub given_if : Bool → A → A → A
  given_if true answer next = answer
  given_if false answer next = next
