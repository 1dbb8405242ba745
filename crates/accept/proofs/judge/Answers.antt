-- `accept::judge` meets its contract. Assumes nothing.
use Rattle.std.proofs.Common.{rules, sym, ◌∙◌}
use Rattle.accept.proofs.Unfolded.{table}
use Rattle.accept.proofs.Rows.{by_missed, found, found_record}
use Rattle.accept.proofs.judge.Goals as goal

pub returns-in_err-i : goal.returns-in_err-i
unfolding table
returns-in_err-i c = search (by_missed, rules)

pub returns : goal.returns
unfolding table
returns c =
    let at = found _ _ c.map_err.ensures.cases c.in_ok-i.was in
    let h = c.judge_at.ensures (found_record _ _ _ (sym c.find_signer.ensures ∙ at)) in
    search (h, at, rules)
