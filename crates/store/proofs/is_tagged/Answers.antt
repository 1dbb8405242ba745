-- `store::is_tagged` meets its contract. Assumes nothing.
use mathlib.Core.Path.{sym, ◌∙◌}
use Rattle.store.proofs.Walk.{untagged, tagged}
use Rattle.store.proofs.is_tagged.Goals as goal

pub returns-then-octet_at-ne48 : goal.returns-then-octet_at-ne48
returns-then-octet_at-ne48 c =
    let e = c.octet_at.ensures.0 in
    sym (untagged _ c.args.key.now (λ h. c.if-octet_at-ne48.true (e ∙ h)))

pub returns : goal.returns
returns c =
    let k = c.args.key.now in
    rw (
      tagged _ k (sym c.octet_at.ensures.0
          ∙ c.if-octet_at-ne48.false),
      c.equal.ensures,
      c.after-2.ensures,
      c.after.ensures,
    )
