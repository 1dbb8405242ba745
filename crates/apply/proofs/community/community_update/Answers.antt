-- `apply::community_update` meets its contract. Assumes nothing.
use native.Mathlib.Omega.{arith}
use mathlib.Core.Path.{sym, ap, ◌∙◌}
use Rattle.apply.specs.Contract.Entry.{applied_status}
use Rattle.apply.proofs.Signing.{written_scratch, community_effects}
use Rattle.apply.proofs.community.community_update.Goals as goal
use Rattle.apply.proofs.community.community_update.Goals.{in-Ok, in-Err}

pub community_scratch-requires : goal.community_scratch-requires
community_scratch-requires c =
    let p = c.requires in
    record { asked = p.1; update = p.2; scratch = written_scratch (c.renumber.ensures p.0.store p.0.decodes) (omega arith) }

pub returns : goal.returns
returns c =
    let m = c.args.m.now in
    let done = c.community_scratch.ensures in
    let copied = rw c.image.ensures at c.copy_to.ensures in
    elim c.match-community_scratch.branch [
      | in-Ok w ↦ community_effects m.message.now m.request m.signer m.image.now c.renumber.ensures (omega arith) done (w.status-is ∙ sym (ap applied_status w.in-Ok.is)) copied
      | in-Err w ↦ community_effects m.message.now m.request m.signer m.image.now c.renumber.ensures (omega arith) done (w.status-is ∙ sym (ap applied_status w.in-Err.is)) copied
    ]
