-- `store::name_at` meets its contract. Assumes nothing.
use Rattle.store.specs.Contract.Parts.{name_end}
use Rattle.store.proofs.Walk.{slice-drop}
use Rattle.store.proofs.name_at.Goals as goal

pub returns : goal.returns
returns c =
    let a = c.args in
    rw (c.after.ensures, c.slice.ensures, c.name_end.ensures) (slice-drop a.s.now a.p (name_end a.s.now a.p) 1)
