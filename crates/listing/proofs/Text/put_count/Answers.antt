-- `listing::Text::put_count` meets its contract. Assumes nothing.
use native.Mathlib.Omega.{arith}
use mathlib.Core.Path.{refl}
use Rattle.store.specs.Listing.{count_line}
use Rattle.listing.specs.Contract.Texts.{decimal_line}
use Rattle.listing.proofs.Texts.{part, whole, count-length}
use Rattle.octets.proofs.Turns.{left_start, left_step, last_step}
use Rattle.listing.proofs.Text.put_count.Goals as goal

pub put_word-requires : goal.put_word-requires
put_word-requires c = let a = c.args in omega (arith, count-length a.word.now a.n)

pub put_decimal_line-requires : goal.put_decimal_line-requires
put_decimal_line-requires c = let a = c.args in omega (arith, count-length a.word.now a.n)

pub returns-clause-written : goal.returns-clause-written
unfolding count_line decimal_line
returns-clause-written c =
    let a = c.args in
    let h = c.requires in
    let all = count_line a.word.now a.n in
    let l = left_step a.self.now.buf.now a.self.now.at all h (left_start _ _ _) a.word.now (decimal_line a.n) refl (part c.put_word.ensures.written) in
    whole a.self.now.buf.now a.self.now.at _ h (last_step a.self.now.buf.now a.self.now.at all h l (part c.put_decimal_line.ensures.written))
