-- What holds of every refusal, row by row: its status is below 128, so that it is one octet of an ENUMERATED, and its offset is as 02, E3, says.
use Rattle.std.specs.Prelude.{Option, Some, None, Result, Ok, Err}
use Rattle.store.specs.declared.NoSigner.TheVariants.{Unverified, Unknown}
use Rattle.envelope.specs.declared.Refusal.{Refusal}
use Rattle.store.specs.declared.NoSigner.{NoSigner}
use Prim.Native.Nat.{ℕ, ◌-◌, ◌≤◌, ◌<◌}
use native.Mathlib.Omega.{arith}
use mathlib.Core.Bool.{Bool, true, false, true≢false}
use mathlib.Core.List.{List}
use mathlib.Core.Path.{◌≡◌, refl, sym, subst, ◌∙◌}
use lib.ListN.{length}
use Rattle.octets.specs.declared.Status.{Status}
use Rattle.octets.specs.Lists.{any_of}
use Rattle.octets.specs.Status.{malformed, seq_num_failure}
use Rattle.octets.proofs.Parts.{length-slice}
use Rattle.der.specs.declared.Element.{Element}
use Rattle.der.specs.Element.{root, contents}
use Rattle.der.specs.Fit.{applies_if, given_at, Fit}
use Rattle.der.specs.Identifier.{IdentifierOctet}
use Rattle.der.proofs.Fits.{breaks≢fits}
use Rattle.syntax.proofs.Window.{Own, own_within}
use Rattle.store.specs.Store.{Store, identifiers}
use Rattle.store.specs.Signer.{signer}
use Rattle.envelope.specs.declared.Signed.{Signed}
use Rattle.envelope.specs.Parts.{e_content}
use Rattle.envelope.specs.Rows.{row_1, row_29, row_2, row_3, row_4, row_9, row_18, row_5, row_6, row_7, row_8, envelope}
use Rattle.envelope.proofs.Opening.{Opens, opens, content_own}
use Rattle.envelope.proofs.Charged.{row_1_charges, row_1_octet, row_2_charges, row_3_charges, row_4_charges, e_content-octet, row_6_charges, row_7_charges, row_8_charges}
use Rattle.message.specs.declared.Request.{Request}
use Rattle.message.specs.Rows.{row_36, in_message, content_fit, row_31, row_127, unwrapped, received_of, received}
use Rattle.message.proofs.Charged.{row_36_charges}
use Rattle.protocol.specs.Acceptance.{found_status, row_23, row_11, row_21, judged_at, by_signer, judgement_of, judgement}
use Rattle.protocol.specs.Offset.{carries_offset, content, Points, at_element, in_content, behind_message, behind_content, at_nothing, at_content, OffsetRule}

-- a row that is a test has no offset
test_charges : (b : Bool) {o : ℕ} → applies_if b ≡ Err o → o ≡ 0
unfolding applies_if
test_charges true h = cc
test_charges false h = absurd (breaks≢fits (sym h))

pub by_given_at : {A : Type 0} (P : A → Type 0) (f : Fit) {answer : ℕ → A} {next : A} → ((o : ℕ) → f ≡ Err o → P (answer o)) → (f ≡ Ok tt → P next) → P (given_at f answer next)
unfolding given_at
by_given_at P (Ok _) a n = n refl
by_given_at P (Err o) a n = a o refl

module _ (s : List ℕ) where
  pub record Told (status : Status) (o : ℕ) : Type 0 where
    pub small : status.number < 128
    pub offset : OffsetRule s status o

  pub none_told : (status : Status) {o : ℕ} → carries_offset status ≡ false → o ≡ 0 → OffsetRule s status o
  none_told status c z = record { within = omega arith; below = λ l. omega arith; otherwise = λ _. z; points = λ t. absurd (true≢false (sym t ∙ c)) }

  some_told : (status : Status) {o : ℕ} → carries_offset status ≡ true → o < length s → Points s status.number o → OffsetRule s status o
  some_told status c l p = record { within = omega arith; below = λ _. l; otherwise = λ t. absurd (true≢false (sym c ∙ t)); points = λ _. p }

  test_told : {n : ℕ} → n < 128 → carries_offset (record { number = n }) ≡ false → (b : Bool) (o : ℕ) → applies_if b ≡ Err o → Told (record { number = n }) o
  test_told l c b o h = record { small = l; offset = none_told _ c (test_charges b h) }

  element_told : {n o : ℕ} → n ≤ 8 → carries_offset (record { number = n }) ≡ true → o < length s → IdentifierOctet s o (root s) → Told (record { number = n }) o
  element_told l c h i = record { small = omega arith; offset = some_told _ c h (at_element l h i) }

  -- .. after row 1
  row_told : row_1 s ≡ Ok tt → {n o : ℕ} → n ≤ 8 → carries_offset (record { number = n }) ≡ true → IdentifierOctet s o (root s) → Told (record { number = n }) o
  row_told r1 l c i = element_told l c (row_1_octet s r1 i) i

  -- the rows up to 8
  abbrev InEnvelope : Result Signed Refusal → Type 0
  InEnvelope (Ok w) = Unit {0}
  InEnvelope (Err r) = Told r.status r.offset

  in_envelope : InEnvelope (envelope s)
  unfolding envelope row_29 row_9 row_18 row_5 carries_offset any_of
  in_envelope =
      let P : Result Signed Refusal → Type 0 = InEnvelope in
      by_given_at P (row_1 s)
      (λ o.
      row_1_charges s
      (λ z k.
      record {
        small = omega arith;
        offset = record { within = omega arith; below = λ l. absurd (omega arith); otherwise = λ _. k; points = λ _. at_nothing refl z k };
      })
      (element_told (omega arith) refl)
      (λ v l k. record { small = omega arith; offset = some_told _ refl l (behind_message refl v l k) }))
      (λ r1.
      by_given_at P (row_29 s) (test_told (omega arith) refl _) (λ _.
      by_given_at P (row_2 s) (λ o h. row_told r1 (omega arith) refl (row_2_charges s r1 h)) (λ r2.
      by_given_at P (row_3 s) (λ o h. row_told r1 (omega arith) refl (row_3_charges s r1 r2 h)) (λ r3.
      by_given_at P (row_4 s) (λ o h. row_told r1 (omega arith) refl (row_4_charges s r1 r2 h)) (λ _.
      by_given_at P (row_9 s) (test_told (omega arith) refl _) (λ _.
      by_given_at P (row_18 s) (test_told (omega arith) refl _) (λ _.
      by_given_at P (row_5 s) (test_told (omega arith) refl _) (λ _.
      by_given_at P (row_6 s) (λ o h. row_told r1 (omega arith) refl (row_6_charges s r1 r2 r3 h)) (λ _.
      by_given_at P (row_7 s) (λ o h. row_told r1 (omega arith) refl (row_7_charges s r1 r2 r3 h)) (λ _.
      by_given_at P (row_8 s) (λ o h. row_told r1 (omega arith) refl (row_8_charges s r1 r2 r3 h)) (λ _. tt)))))))))))

  -- 36
  content_told : (w : Signed) → Opens s w → (o : ℕ) → content_fit s w ≡ Err o → Told malformed o
  unfolding carries_offset any_of
  content_told w p o h =
      let e = e_content s in
      let b = own_within s e (subst (Own s) p.content (content_own s w p)) in
      let n : length (content s) ≡ e.stop - e.start = length-slice s e.start (e.stop - e.start) (omega (arith, b)) in
      row_36_charges s e w.kind
      (λ z k.
      let i = subst (λ (x : ℕ). IdentifierOctet s x (root s)) (sym k) (e_content-octet s p.wrapped.der p.wrapped.content_info) in
      let l = row_1_octet s p.wrapped.der i in
      record { small = omega arith; offset = some_told _ refl l (at_content refl z l i k) })
      (λ q l i k. record { small = omega arith; offset = some_told _ refl (omega (arith, b, n, k)) (in_content refl q l i k) })
      (λ v l k. record { small = omega arith; offset = some_told _ refl (omega (arith, b, n, k)) (behind_content refl v l k) })
      (subst (λ (x : Element). in_message s x (row_36 w.kind (contents s x)) ≡ Err o) p.content h)

  -- the rows up to 127
  abbrev InReceived : Result Request Refusal → Type 0
  InReceived (Ok q) = Unit {0}
  InReceived (Err r) = Told r.status r.offset

  in_received : InReceived (received s)
  unfolding received received_of unwrapped row_31 row_127 carries_offset any_of
  in_received = go (envelope s) refl in_envelope
    where
      go : (e : Result Signed Refusal) → envelope s ≡ e → InEnvelope e → InReceived (received_of s e)
      go (Err r) t h = h
      go (Ok w) t h =
          let P : Result Request Refusal → Type 0 = InReceived in
          by_given_at P (content_fit s w) (content_told w (opens s w t)) (λ _.
          by_given_at P _ (test_told (omega arith) refl _) (λ _.
          by_given_at P _ (test_told (omega arith) refl _) (λ _. tt)))

  -- all rows
  abbrev pub InJudgement : Result (Request × ℕ) Refusal → Type 0
  InJudgement (Err r) = Told r.status r.offset
  InJudgement (Ok (q, i)) = Unit {0}

  number_told : (n : Option ℕ) (q : Request) (o : ℕ) → row_21 n q ≡ Err o → Told seq_num_failure o
  unfolding row_21 carries_offset any_of
  number_told None q o h = absurd (breaks≢fits (sym h))
  number_told (Some stored) q o h = test_told (omega arith) refl _ o h

  in_weighed : (σ : Store) (q : Request) (i : ℕ) → InJudgement (judged_at σ s q i)
  unfolding judged_at row_23 row_11 carries_offset any_of
  in_weighed σ q i =
      let P : Result (Request × ℕ) Refusal → Type 0 = InJudgement in
      by_given_at P _ (test_told (omega arith) refl _) (λ _.
      by_given_at P _ (test_told (omega arith) refl _) (λ _.
      by_given_at P _ (test_told (omega arith) refl _) (λ _.
      by_given_at P _ (number_told _ q) (λ _. tt))))

  pub in_judgement : (σ : Store) (verdict : List ℕ) → InJudgement (judgement σ verdict s)
  unfolding judgement judgement_of by_signer found_status carries_offset any_of
  in_judgement σ verdict = go (received s) in_received
    where
      by : (q : Request) (f : Result ℕ NoSigner) → InJudgement (by_signer σ s q f)
      by q (Ok i) = in_weighed σ q i
      by q (Err Unverified) = record { small = omega arith; offset = none_told _ refl refl }
      by q (Err Unknown) = record { small = omega arith; offset = none_told _ refl refl }

      go : (r : Result Request Refusal) → InReceived r → InJudgement (judgement_of σ verdict s r)
      go (Err r) h = h
      go (Ok q) h = by q (signer (identifiers σ) verdict (contents s q.signer))
