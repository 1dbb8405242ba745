-- `accept::judge_at` meets its contract. Assumes nothing.
use Rattle.std.proofs.Common.{rules}
use Rattle.accept.proofs.Unfolded.{rows}
use Rattle.accept.proofs.Rows.{row_11_at, row_21_at}
use Rattle.accept.proofs.judge_at.Goals as goal

pub returns-in_err-row-3 : goal.returns-in_err-row-3
unfolding rows
returns-in_err-row-3 c below =
    let r11 = row_11_at c.args.image.now c.args.i below c.signer_at-w.ensures c.args.s.now c.args.q in
    search (r11, rules)

pub returns-in_err-row-4 : goal.returns-in_err-row-4
unfolding rows
returns-in_err-row-4 c below =
    let r11 = row_11_at c.args.image.now c.args.i below c.signer_at-w.ensures c.args.s.now c.args.q in
    let r21 = row_21_at c.args.image.now c.args.i below c.signer_at-w.ensures c.args.s.now c.args.q in
    search (r11, r21, rules)

pub returns : goal.returns
unfolding rows
returns c below =
    let r11 = row_11_at c.args.image.now c.args.i below c.signer_at-w.ensures c.args.s.now c.args.q in
    let r21 = row_21_at c.args.image.now c.args.i below c.signer_at-w.ensures c.args.s.now c.args.q in
    search (r11, r21, rules)
