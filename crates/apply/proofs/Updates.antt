-- 01, After acceptance, Update: the entries, then tampSeqNumbers, are the effect of the rule book.
use Prim.Native.Nat.{ℕ}
use mathlib.Core.Bool.{false}
use mathlib.Core.List.{List, []}
use mathlib.Core.Path.{◌≡◌, ◌∙◌}
use lib.ListN.{length}
use lib.Dec.{ltb}
use borrow.Author.Tests.{le-ltb}
use Rattle.octets.specs.Limits.{max_updates}
use Rattle.rights.specs.Rights.{Rights}
use Rattle.message.specs.declared.Request.{Request}
use Rattle.message.specs.Fields.{entries_in, seq_numbers_in}
use Rattle.protocol.specs.Update.{steps, with_seq_numbers}
use Rattle.protocol.specs.Effect.{update_effect}
use Rattle.apply.specs.declared.scratch.ScratchImage.{ScratchImage}
use Rattle.apply.specs.Contract.Edits.{Renumbers}
use Rattle.apply.specs.Contract.Update.{Enterable, EntersAll, UpdatedAs}

module _ {s : List ℕ} {rights : Rights} {q : Request} {v m : ScratchImage} {codes codes' : List ℕ}
    (w : Enterable s q v.octets v.len codes) (a : EntersAll s rights q v codes m codes') where
  pub update_done : {d : List ℕ} → Renumbers (with_seq_numbers (seq_numbers_in s q.numbers)) m.octets m.len m.former d → UpdatedAs s rights q v.octets v.len codes m.len d codes'
  unfolding update_effect
  update_done r =
      let few : ltb max_updates (length (entries_in s q.updates)) ≡ false = le-ltb _ _ w.few in
      record {
        room = r.room ∙ a.room;
        store = λ σ h.
            let done = steps s rights σ.apex σ.others [] (entries_in s q.updates) in
            rw (few, update_effect) (r.does σ done.old done.new (a.does σ h).after).holds;
        statuses = λ σ h. (a.does σ h).written;
      }
