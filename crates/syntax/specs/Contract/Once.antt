-- What a path that only says yes promises of what it reads once. Where it says no, it promises nothing, and the plain code decides.
use Rattle.std.specs.Prelude.{ℕ, Bool, true, List, ◌≡◌}
use Rattle.der.specs.declared.Element.{Element}
use Rattle.der.specs.Element.{element_at, contents}
use Rattle.der.specs.Fit.{kept}
use Rattle.der.specs.Contents.{oid_ok}
use Rattle.syntax.specs.Grammar.{Syntax, fit}
use Rattle.syntax.specs.Contract.Whole.{der_run}

-- what is promised if the answer is yes
pub record IfYes (b : Bool) (P : Type 0) : Type 0 where
  pub holds : b ≡ true → P

-- an element with this tag stands at a place of a window
pub record Tagged (s : List ℕ) (at stop t : ℕ) (e : Element) : Type 0 where
  pub is : e ≡ element_at s at stop
  pub valid : e.valid ≡ true
  pub tag : e.tag ≡ t

-- an OBJECT IDENTIFIER
pub record TypeAt (s : List ℕ) (at stop : ℕ) (e : Element) : Type 0 where
  pub tagged : Tagged s at stop 0x06 e
  pub oid : oid_ok (contents s e) ≡ true

-- the elements of a window are DER, with d levels left for each, and as a syntax says, whichever element is charged
pub record Conforms (d : ℕ) (g : Syntax) (s : List ℕ) (at stop : ℕ) : Type 0 where
  pub run : der_run d s at stop ≡ true
  pub fits : (outer : ℕ) → kept (fit g s at stop outer) ≡ true
