-- 01, After acceptance, Update: an entry by its cases.
use Rattle.std.specs.Prelude.{Result, Err}
use Prim.Native.Nat.{ℕ}
use mathlib.Core.List.{List}
use mathlib.Core.Path.{◌≡◌}
use Rattle.octets.specs.declared.Status.{Status}
use Rattle.octets.specs.Status.{unsupported_trust_anchor_format, improper_ta_change}
use Rattle.der.specs.declared.Element.{Element}
use Rattle.der.specs.Element.{encoding}
use Rattle.rights.specs.Rights.{Rights}
use Rattle.anchor.specs.Judge.{check_status as judgedStatus}
use Rattle.message.specs.declared.Entry.{Entry}
use Rattle.message.specs.declared.Entry.TheVariants as entry
use Rattle.anchor.specs.Info.{untagged}
use Rattle.protocol.specs.Update.{added, removed, step}
use Rattle.apply.specs.declared.scratch.ScratchImage.{ScratchImage}
use Rattle.apply.specs.Contract.Entry.{Applies}
use Rattle.apply.proofs.Adds.{unmoved}

module _ (s : List ℕ) where
  module _ (rights : Rights) {w : ScratchImage} {x : Entry} where
    pub step_add : {e : Element} {t : List ℕ} {r : Result (Unit {0}) Status} {w' : ScratchImage} → x ≡ entry.Add e → t ≡ encoding s e
        → Applies (λ apex old new. added rights apex old new t) w r w' → Applies (λ apex old new. step s rights apex old new x) w r w'
    unfolding step
    step_add q v h = rw q (rw v at h)

    pub step_certificate : x ≡ entry.AddCertificate → Applies (λ apex old new. step s rights apex old new x) w (Err unsupported_trust_anchor_format) w
    unfolding step judgedStatus
    step_certificate q = unmoved (λ apex old new. step s rights apex old new x) (λ σ old new h. rw q)

    pub step_remove : {e : Element} {t : List ℕ} {r : Result (Unit {0}) Status} {w' : ScratchImage} → x ≡ entry.Remove e → t ≡ encoding s e
        → Applies (λ apex old new. removed rights apex old new (untagged t)) w r w' → Applies (λ apex old new. step s rights apex old new x) w r w'
    unfolding step
    step_remove q v h = rw q (rw v at h)

    pub step_change : x ≡ entry.Change → Applies (λ apex old new. step s rights apex old new x) w (Err improper_ta_change) w
    unfolding step
    step_change q = unmoved (λ apex old new. step s rights apex old new x) (λ σ old new h. rw q)
