-- The replies as they are written are those of specs/Replies, and their sizes.
use Prim.Native.Nat.{ℕ, ◌+◌, ◌*◌}
use native.Mathlib.Omega.{arith}
use mathlib.Core.List.{List, [], ◌∷◌, ◌++◌, map, flat_map, append_assoc, append-nil}
use mathlib.Core.Path.{◌≡◌, refl, sym, ap, ap₂, ◌∙◌}
use lib.ListN.{length, length-append}
use Rattle.octets.specs.declared.Status.{Status}
use Rattle.octets.specs.Octets.{placed}
use Rattle.der.specs.Write.{header, element}
use Rattle.store.specs.Records.{records_of}
use Rattle.store.specs.Contract.Parts.{identifier_in, communities_of}
use Rattle.reply.specs.declared.Listed.TheVariants.{Identifiers, Communities}
use Rattle.reply.specs.Replies.{status_code, list_of, tamp_error, status_response, update_confirm}
use Rattle.reply.specs.Contract.Parts.{status_numbered, element_size, reply_size, status_codes, listed}
use Rattle.reply.specs.Contract.Parts.{identifier_parts, community_parts, terse_size, response_of}
use Rattle.reply.proofs.Elements.{length-element, element_is}
use Rattle.reply.proofs.Codes.{one_status, length_code, length_statuses, length_codes}
use Rattle.reply.proofs.Members.{listed-identifiers, listed-communities}

-- what is written is the reply, in other words
pub written_as : (d : List ℕ) {parts reply : List ℕ} → parts ≡ reply → {n : ℕ} {r : List ℕ} → (n ≡ length parts) × (r ≡ placed d 0 parts)
    → (n ≡ length reply) × (r ≡ placed d 0 reply)
written_as d e k = (k.0 ∙ ap length e, k.1 ∙ ap (placed d 0) e)

-- TAMPError: msgType, a code, msgRef
module _ (msgType : List ℕ) (status : Status) (msg_ref : List ℕ) where
  abbrev after : List ℕ
  after = status_code status ++ msg_ref

  inside : length (element 0x06 msgType ++ after) ≡ element_size (length msgType) + 3 + length msg_ref
  inside =
      omega (
        arith,
        length-append (element 0x06 msgType) after,
        length-element 0x06 msgType,
        length-append (status_code status) msg_ref,
        length_code status,
      )

  pub error_size : length (tamp_error msgType status msg_ref) ≡ reply_size 0 (length msgType) (3 + length msg_ref)
  unfolding tamp_error
  error_size = length-element 0x30 (element 0x06 msgType ++ after) ∙ ap element_size (omega (arith, inside))

  pub error_is : {n : ℕ} → n ≡ element_size (length msgType) + 3 + length msg_ref
      → header 0x30 n ++ (header 0x06 (length msgType) ++ (msgType ++ (status_codes (status.number ∷ []) ++ (msg_ref ++ [])))) ≡ tamp_error msgType status msg_ref
  unfolding tamp_error
  error_is {n} e =
      ap (λ (z : List ℕ). header 0x30 n ++ z)
      (sym (append_assoc (header 0x06 (length msgType)) msgType _)
      ∙ ap₂ (λ (x y : List ℕ). x ++ y) (sym (element_is 0x06 msgType refl))
      (ap₂ (λ (x y : List ℕ). x ++ y) (one_status status.number) (append-nil msg_ref)))
      ∙ sym (element_is 0x30 (element 0x06 msgType ++ after) (e ∙ sym inside))

-- the others: msgRef, and an element
module _ (msg_ref : List ℕ) where
  inside_answer : (tag : ℕ) (contents : List ℕ) → length (msg_ref ++ element tag contents) ≡ length msg_ref + element_size (length contents)
  inside_answer tag contents = omega (arith, length-append msg_ref (element tag contents), length-element tag contents)

  pub answer_size : (tag : ℕ) (contents : List ℕ) → length (element 0x30 (msg_ref ++ element tag contents)) ≡ reply_size (length msg_ref) (length contents) 0
  answer_size tag contents =
      length-element 0x30 (msg_ref ++ element tag contents) ∙ ap element_size (omega (arith, inside_answer tag contents))

  pub answer_is : (tag : ℕ) (contents : List ℕ) {n m : ℕ} {rest : List ℕ} → n ≡ length msg_ref + element_size m → m ≡ length contents → rest ≡ contents
      → header 0x30 n ++ (msg_ref ++ (header tag m ++ rest)) ≡ element 0x30 (msg_ref ++ element tag contents)
  answer_is tag contents {n} {m} d e f =
      ap (λ (z : List ℕ). header 0x30 n ++ (msg_ref ++ z)) (ap (λ (z : List ℕ). header tag m ++ z) f ∙ sym (element_is tag contents e))
      ∙ sym (element_is 0x30 (msg_ref ++ element tag contents) (d ∙ ap (λ (k : ℕ). length msg_ref + element_size k) e ∙ sym (inside_answer tag contents)))

  -- TAMPUpdateConfirm
  pub update_size : (l : List Status) {n : ℕ} → length l ≡ n → length (update_confirm msg_ref l) ≡ reply_size (length msg_ref) (3 * n) 0
  unfolding update_confirm
  update_size l e =
      answer_size 0xA0 (flat_map status_code l)
      ∙ ap (λ (k : ℕ). reply_size (length msg_ref) k 0) (length_statuses l ∙ ap (λ (k : ℕ). 3 * k) e)

  pub update_is : (codes : List ℕ) {n : ℕ} → n ≡ length msg_ref + element_size (3 * length codes)
      → header 0x30 n ++ (msg_ref ++ (header 0xA0 (3 * length codes) ++ (status_codes codes ++ []))) ≡ update_confirm msg_ref (map status_numbered codes)
  unfolding update_confirm status_codes
  update_is codes e = answer_is 0xA0 (status_codes codes) e (sym (length_codes codes)) (append-nil (status_codes codes))

  -- TAMPStatusResponse
  module _ (image : List ℕ) {m : ℕ} (e : m ≡ terse_size image) where
    both : m ≡ length (identifier_parts image ++ community_parts image)
    both = e ∙ sym (length-append (identifier_parts image) (community_parts image))

    pub response_is : {n : ℕ} → n ≡ length msg_ref + element_size m
        → header 0x30 n ++ (msg_ref ++ (header 0xA0 m ++ (list_of 0x04 (listed Identifiers image) ++ (list_of 0x06 (listed Communities image) ++ [])))) ≡ response_of msg_ref image
    unfolding status_response identifier_parts community_parts
    response_is d =
        answer_is 0xA0 (identifier_parts image ++ community_parts image) d both
        (ap₂ (λ (x y : List ℕ). x ++ (y ++ [])) (ap (list_of 0x04) (listed-identifiers image)) (ap (list_of 0x06) (listed-communities image))
        ∙ ap (λ (y : List ℕ). list_of 0x04 (map identifier_in (records_of image)) ++ y) (append-nil (list_of 0x06 (communities_of image))))

    pub response_size : length (response_of msg_ref image) ≡ reply_size (length msg_ref) m 0
    unfolding status_response identifier_parts community_parts
    response_size =
        answer_size 0xA0 (identifier_parts image ++ community_parts image) ∙ ap (λ (k : ℕ). reply_size (length msg_ref) k 0) (sym both)
