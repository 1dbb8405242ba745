-- What a message that passed the rows up to 127 is known to have.
use Rattle.std.specs.Prelude.{Result, Ok, Err}
use Prim.Native.Nat.{ℕ, ◌≤◌}
use mathlib.Core.Bool.{true}
use mathlib.Core.List.{List}
use mathlib.Core.Path.{◌≡◌, refl}
use Rattle.octets.specs.Limits.{max_number}
use Rattle.octets.specs.Octets.{Octets}
use Rattle.der.specs.declared.Element.{Element}
use Rattle.der.specs.Element.{contents}
use Rattle.der.specs.Contents.{oid_ok}
use Rattle.der.specs.Fit.{given_at, Fit}
use Rattle.der.proofs.Fits.{past_row}
use Rattle.syntax.specs.declared.TampType.{TampType}
use Rattle.syntax.specs.declared.TampType.TheVariants.{Update, CommunityUpdate}
use Rattle.syntax.proofs.Each.{Every}
use Rattle.syntax.proofs.Window.{Own}
use Rattle.envelope.specs.declared.Signed.{Signed}
use Rattle.envelope.specs.declared.Refusal.{Refusal}
use Rattle.envelope.specs.Rows.{envelope}
use Rattle.envelope.proofs.Opening.{opens, content_own}
use Rattle.message.specs.declared.Request.{Request}
use Rattle.message.specs.Fields.{body_in, entries_in, seq_numbers_in, additions_in}
use Rattle.message.specs.Rows.{row_36, in_message, request_in, unwrapped, received_of, received}
use Rattle.message.proofs.Entries.{Adding, entries_adding}
use Rattle.message.proofs.Parts.{Body, body_parts, msg_ref-number, seq_numbers_small, additions_ok}

-- a request is made of the message in some wrapper, whose eContent passed row 36
pub record Asked (s : List ℕ) (q : Request) : Type 0 where
  pub wrapper : Signed
  pub own : Own s wrapper.content
  pub passed : row_36 wrapper.kind (contents s wrapper.content) ≡ Ok tt
  pub is : q ≡ request_in s wrapper (body_in s wrapper.content)

-- a row that refuses does not ask
asks_past : (f : Fit) (answer : ℕ → Refusal) (next : Result Request Refusal) (q : Request) → given_at f (λ o. Err (answer o)) next ≡ Ok q → (f ≡ Ok tt) × (next ≡ Ok q)
asks_past f answer next q h = past_row f _ next (λ o c. cc) h

no_break : (s : List ℕ) (e : Element) (f : Fit) → in_message s e f ≡ Ok tt → f ≡ Ok tt
unfolding in_message
no_break s e (Ok _) h = refl
no_break s e (Err o) h = cc

of_unwrapped : (s : List ℕ) (w : Signed) (q : Request) → Own s w.content → unwrapped s w ≡ Ok q → Asked s q
unfolding unwrapped
of_unwrapped s w q o h =
    let two = asks_past _ _ _ q h in
    let one = asks_past _ _ _ q two.1 in
    let is = asks_past _ _ _ q one.1 in
    record { wrapper = w; own = o; passed = no_break s w.content _ two.0; is = cc }

of_received : (s : List ℕ) (v : Result Signed Refusal) (q : Request) → envelope s ≡ v → received_of s v ≡ Ok q → Asked s q
unfolding received_of
of_received s (Ok w) q e h = of_unwrapped s w q (content_own s w (opens s w e)) h
of_received s (Err r) q e h = cc

pub asked : (s : List ℕ) (q : Request) → received s ≡ Ok q → Asked s q
unfolding received
asked s q h = of_received s (envelope s) q refl h

module _ (s : List ℕ) (q : Request) (a : Asked s q) where
  abbrev body : Element
  body = body_in s a.wrapper.content

  parts : {kind : TampType} → q.kind ≡ kind → Body kind s body
  unfolding request_in
  parts k = rw (← k, a.is) (body_parts s a.wrapper.content a.own a.wrapper.kind a.passed)

  passed : {kind : TampType} → q.kind ≡ kind → row_36 kind (contents s a.wrapper.content) ≡ Ok tt
  unfolding request_in
  passed k = rw (← k, a.is) a.passed

  number_of : q.number ≤ max_number
  unfolding request_in
  number_of = rw a.is (msg_ref-number s _ _ _ (parts refl).msg_ref)

  seq_numbers_of : q.kind ≡ Update → Every (λ p. p.1 ≤ max_number) (seq_numbers_in s q.numbers)
  unfolding request_in
  seq_numbers_of k = rw a.is (seq_numbers_small s a.wrapper.content a.own (passed k))

  adds_of : q.kind ≡ Update → Every (Adding s) (entries_in s q.updates)
  unfolding request_in
  adds_of k = rw a.is (entries_adding s body (parts k))

  additions_of : q.kind ≡ CommunityUpdate → Every (λ o. oid_ok o ≡ true) (additions_in s q.updates)
  unfolding request_in
  additions_of k = rw a.is (additions_ok s body (parts k))

module _ (s : List ℕ) (q : Request) (h : received s ≡ Ok q) where
  -- RFC 5934: the number of every message is a SeqNumber
  pub asked_number : Octets s → q.number ≤ max_number
  asked_number o = number_of s q (asked s q h)

  -- and so is every number of tampSeqNumbers
  pub asked_seq_numbers : q.kind ≡ Update → Every (λ p. p.1 ≤ max_number) (seq_numbers_in s q.numbers)
  asked_seq_numbers = seq_numbers_of s q (asked s q h)

  -- what an entry adds is by itself DER of RFC 5914's syntax, as the store asks of an anchor
  pub asked_adds : q.kind ≡ Update → Every (Adding s) (entries_in s q.updates)
  asked_adds = adds_of s q (asked s q h)

  -- every added community is an OID
  pub asked_additions : q.kind ≡ CommunityUpdate → Every (λ o. oid_ok o ≡ true) (additions_in s q.updates)
  asked_additions = additions_of s q (asked s q h)
