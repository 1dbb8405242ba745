-- What a read put behind the octets that stood there is what it took from the input.
use Rattle.std.proofs.Common.{◌≡◌, ℕ, ◌+◌, ◌≤◌, List, ◌++◌, length, take, rules, ap, sym, ◌∙◌, subst, length-take-le}
use Rattle.std.proofs.lemmas.List.{take-append-le}
use Rattle.std.proofs.Math.Seq.{take-append-add}
use Rattle.std.specs.Io.KnownBytes.{Consumes}
use Rattle.std.proofs.KnownBytes.{Consumes-trans}
use borrow.Rule.Slice.PartMut.{put_mid, post_of}
use Rattle.reader.proofs.read_full.Goals as goal

taken : (f n k : ℕ) (xs ys : List ℕ) → f ≤ length xs → n ≤ length ys → take (f + n) (put_mid f k xs ys) ≡ take f xs ++ take n ys
taken f n k xs ys room fits =
    let rest = ys ++ post_of f k xs in
    ap (λ m. take (m + n) (take f xs ++ rest)) (sym (length-take-le f xs room)) ∙ (take-append-add (take f xs) rest n ∙ ap (λ l. take f xs ++ l) (take-append-le n ys (post_of f k xs) fits))

pub loop-filled-preserved : goal.loop-filled-preserved
loop-filled-preserved g c =
    let joined = taken c.loop-filled.filled c.in_ok-n.n _ c.loop-filled.buffer c.read.new.buf c.loop-filled.invariant.1 c.in_ok-n.ensures.bound.0 in
    (search rules, search rules, subst (Consumes _ _) (sym joined) (Consumes-trans _ _ _ _ _ c.loop-filled.invariant.2 c.in_ok-n.ensures.bytes.0))
