-- The example of specs/NotEmpty, by computing.
use Rattle.std.specs.Prelude.{Some}
use Prim.Native.Nat.{ℕ, zero, suc}
use native.Mathlib.Omega.{arith}
use mathlib.Core.Bool.{true, and-eq-true_iff}
use mathlib.Core.List.{List, [], ◌∷◌}
use mathlib.Core.Path.{◌≡◌, refl, sym, ◌∙◌, ap}
use lib.ListN.{length}
use lib.Dec.{ltb, lit<}
use borrow.Author.Tests.{ltb-true}
use Rattle.octets.specs.Lists.{all_of}
use Rattle.octets.specs.Octets.{Octets}
use Rattle.rights.specs.Rights.{authorises}
use Rattle.store.specs.Records.{records_from, anchor_section, records_of}
use Rattle.protocol.specs.Demand3.{after, store_after, signer_of, signer_in, accepted_signer, authorising}
use Rattle.protocol.specs.NotEmpty.{image, message, enrolment, content, manager, NotEmpty}
use Rattle.protocol.proofs.Computed.{computed}

octets_of : (s : List ℕ) → all_of (λ x. ltb x 256) s ≡ true → Octets s
unfolding all_of
octets_of [] e i = lit< tt
octets_of (x ∷ s) e zero = ltb-true x 256 ((and-eq-true_iff (ltb x 256) (all_of (λ x. ltb x 256) s)).0 e).0
octets_of (x ∷ s) e (suc i) = octets_of s ((and-eq-true_iff (ltb x 256) (all_of (λ x. ltb x 256) s)).0 e).1 i

pub image_octets : Octets image
unfolding computed
image_octets = octets_of image refl

pub message_octets : Octets message
unfolding computed
message_octets = octets_of message refl

-- the message is accepted, and its signer's rights authorise the content
pub accepted : accepted_signer image (enrolment message_octets) ≡ Some manager
unfolding computed signer_in signer_of
accepted = refl

authorised : authorises manager content ≡ true
unfolding computed
authorised = refl

-- two anchors authorise the content before it, three afterwards
before : length (authorising content (records_of image)) ≡ 2
unfolding computed records_from anchor_section records_of authorising
before = refl

afterwards : length (authorising content (records_of (after image (enrolment message_octets ∷ [])))) ≡ 3
unfolding computed after store_after records_from anchor_section records_of authorising
afterwards = refl

pub not_empty : NotEmpty
not_empty = (image_octets, (message_octets, accepted, authorised, λ e. omega (arith, sym afterwards ∙ ap length e ∙ before)))
