-- Parts of a message are no longer than it.
use Prim.Native.Nat.{ℕ, ◌≤◌}
use native.Mathlib.Omega.{arith}
use mathlib.Core.List.{List}
use mathlib.Core.Path.{◌≡◌, ap}
use lib.ListN.{length, length-take, length-drop}
use Rattle.octets.specs.Limits.{max_message}
use Rattle.octets.specs.Octets.{slice}
use Rattle.der.specs.declared.Element.{Element}
use Rattle.der.specs.Element.{encoding, contents}

length-slice : (s : List ℕ) (a e : ℕ) → length (slice s a e) ≤ length s
length-slice s a e = simp (length-take, length-drop) (omega arith)

encoding_short : (s : List ℕ) (e : Element) → length (encoding s e) ≤ length s
encoding_short s e = length-slice s e.at e.stop

contents_short : (s : List ℕ) (e : Element) → length (contents s e) ≤ length s
contents_short s e = length-slice s e.start e.stop

-- parts of a short message are short
module _ (s : List ℕ) (e : Element) {m : List ℕ} (short : length s ≤ max_message) where
  pub encoding_fits : m ≡ encoding s e → length m ≤ max_message
  encoding_fits f = omega (arith, ap length f, encoding_short s e)

  pub contents_fits : m ≡ contents s e → length m ≤ max_message
  contents_fits f = omega (arith, ap length f, contents_short s e)
