-- `apply::update` meets its contract. Assumes nothing.
use native.Mathlib.Omega.{arith}
use Prim.Native.Nat.{◌≤◌, ◌<◌}
use lib.ListN.{length}
use Rattle.octets.specs.Limits.{max_updates}
use Rattle.message.specs.Fields.{entries_in}
use Rattle.accept.specs.Contract.Signer.{signer_rights}
use Rattle.apply.proofs.Signing.{written_scratch, counted_entries, many_effects, many_codes, few_effects, few_codes}
use Rattle.apply.proofs.update.update.Goals as goal

pub returns-then-is_over : goal.returns-then-is_over
returns-then-is_over c =
    let m = c.args.m.now in
    let n = counted_entries m.message.now m.request c.entry_count-count.ensures in
    let many : max_updates < length (entries_in m.message.now m.request.updates) = omega (arith, c.if-is_over.true) in
    let rights = signer_rights m.image.now m.signer in
    let moved = c.move_number.ensures in (
      many_effects m.message.now m.request rights m.signer m.image.now many moved.0 moved.1,
      many_codes m.message.now m.request rights m.signer m.image.now many c.requires.2 _,
    )

pub update_scratch-requires : goal.update_scratch-requires
update_scratch-requires c =
    let p = c.requires in
    let m = c.args.m.now in
    let n = counted_entries m.message.now m.request c.entry_count-count.ensures in
    record {
      asked = p.1;
      update = p.2;
      scratch = written_scratch (c.renumber.ensures p.0.store p.0.decodes) (omega arith);
      few = omega (arith, c.if-is_over.false);
      space = p.3;
    }

pub returns : goal.returns
returns c =
    let m = c.args.m.now in
    let n = counted_entries m.message.now m.request c.entry_count-count.ensures in
    let few : length (entries_in m.message.now m.request.updates) ≤ max_updates = omega (arith, c.if-is_over.false) in
    let rights = signer_rights m.image.now m.signer in
    let done = c.update_scratch.ensures in (
      few_effects m.message.now m.request rights m.signer m.image.now few c.renumber.ensures (omega arith) done (rw c.image.ensures at c.copy_to.ensures),
      few_codes m.message.now m.request rights m.signer m.image.now few c.renumber.ensures (omega arith) done c.requires.2,
    )
