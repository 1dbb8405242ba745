use Rattle.apply.proofs.Entries.{step_add, step_certificate, step_remove, step_change}
use Rattle.apply.proofs.update.step.Goals as goal

pub returns-in-Add : goal.returns-in-Add
returns-in-Add c = step_add _ _ c.in-Add.is c.encoding.ensures c.add.ensures

pub returns-in-Remove : goal.returns-in-Remove
returns-in-Remove c = step_remove _ _ c.in-Remove.is c.encoding-in-Remove.ensures c.remove.ensures

pub returns-in-AddCertificate : goal.returns-in-AddCertificate
returns-in-AddCertificate c = step_certificate _ _ c.in-AddCertificate.is

pub returns-in-Change : goal.returns-in-Change
returns-in-Change c = step_change _ _ c.in-Change.is
