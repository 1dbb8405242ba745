-- `store::find_anchor_from` meets its contract. Assumes nothing.
use Rattle.std.proofs.Common.{rules, ap, length, ◌∙◌}
use Rattle.octets.proofs.Views.{position_seen}
use Rattle.store.specs.Contract.Parts.{info_in, is_sought}
use Rattle.store.proofs.Walk.{length-records, first_of}
use Rattle.store.proofs.find_anchor_from.Goals as goal

pub position-requires-clause-fits : goal.position-requires-clause-fits
position-requires-clause-fits c =
    let n = ap length c.new.ensures ∙ length-records c.args.n _ in
    search (n, rules)

pub returns : goal.returns
returns c =
    position_seen (λ r. is_sought c.args.by c.args.wanted.now (info_in r)) c.position.ensures.ran c.new.ensures (λ x b q h. search (rules))
    ∙ first_of (is_sought c.args.by c.args.wanted.now) info_in 0 _
