-- DER and syntax at once: what one walk over a window decides of both.
use Rattle.std.specs.Prelude.{ℕ, Bool, true, false, not, ◌&&◌, List, eqb, Result, Ok, Err}
use Rattle.der.specs.Element.{elements, constructed}
use Rattle.der.specs.Fit.{kept, each}
use Rattle.der.specs.Check.{der}
use Rattle.syntax.specs.Grammar.{Syntax, fit}

-- the elements of a window fill it and are DER, each with d levels left for it
unfoldable pub der_run : ℕ → List ℕ → ℕ → ℕ → Bool
der_run d s at stop = kept (each (λ former e. der d s e) (elements s at stop))

-- they are, and the window is as the syntax says
abbrev pub conforms_in : ℕ → Syntax → List ℕ → ℕ → ℕ → ℕ → Bool
conforms_in d g s at stop outer = der_run d s at stop && kept (fit g s at stop outer)

-- the window goes on at a place where a test holds, and then the rest of it; a break of either is a no
unfoldable pub after_if : Bool → ℕ → Result ℕ ℕ
after_if true stop = Ok stop
after_if false stop = Err stop

unfoldable pub then_conforms : Result ℕ ℕ → (ℕ → Bool) → Bool
then_conforms (Ok i) rest = rest i
then_conforms (Err o) rest = false

-- an element that the walk enters: its contents are not free, and are a run that is not sorted, with a level left
abbrev pub entered : ℕ → ℕ → ℕ → Bool
entered body tag d = not (eqb body 0) && (not (eqb tag 49) && (not (eqb d 0) && constructed tag))
