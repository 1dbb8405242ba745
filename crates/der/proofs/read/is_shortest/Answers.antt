-- `der::is_shortest` meets its contract: a law for each form of the length. Assumes nothing.
use mathlib.Core.Path.{◌≡◌, sym, ap, ◌∙◌}
use lib.Dec.{leb}
use Rattle.der.specs.Element.{length_shortest}
use Rattle.der.proofs.Header.{short_form, indefinite_form, padded_form, long_form}
use Rattle.der.proofs.read.is_shortest.Reads as reads
use Rattle.der.proofs.read.is_shortest.Goals as goal

pub returns-then-first-lt128 : goal.returns-then-first-lt128
returns-then-first-lt128 c = sym (short_form _ _ c.if-first-lt128.true)

pub returns : goal.returns
returns c = ap (leb 128) c.requires.1 ∙ sym (long_form _ _ c.if-first-lt128.false c.if-s-at-eq0.false)

-- the contract, as 02, E5 is stated of it (specs/Contract/LengthOctets: `Read`)
promise : (κs : _) (a : _) (b : _) (e : _) → reads.Post κs a b e → b ≡ length_shortest a.0.now a.1.0
promise κs a b e p = p

pub returns-then-first : goal.returns-then-first
returns-then-first c = sym (indefinite_form _ _ c.if-first.true)

pub returns-then-s-at-eq0 : goal.returns-then-s-at-eq0
returns-then-s-at-eq0 c = sym (padded_form _ _ c.if-first-lt128.false c.if-s-at-eq0.true)
