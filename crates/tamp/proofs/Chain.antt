-- 01, Answers: the house refusals 201 to 204 in their order, and what comes after them.
use Rattle.std.specs.Prelude.{Option, Some, None, Result, Ok, Err, is_err}
use Prim.Native.Nat.{ℕ}
use mathlib.Core.Bool.{Bool, true, false, not, ◌&&◌, ◌||◌, true≢false}
use mathlib.Core.List.{List}
use mathlib.Core.Path.{◌≡◌, refl, sym, ap, ◌∙◌}
use lib.ListN.{length}
use lib.Dec.{leb, ltb, eqb}
use borrow.Author.Tests.{not-false, ltb-false}
use Rattle.octets.specs.declared.Status.{Status}
use Rattle.octets.specs.Status.{bad_image, bad_verdict, small_buffer, long_message}
use Rattle.octets.specs.Limits.{reply_room, image_room, max_message}
use Rattle.octets.specs.First.{given_if}
use Rattle.octets.specs.Lists.{all_of}
use Rattle.octets.proofs.Lists.{neither}
use Rattle.store.specs.Store.{Store}
use Rattle.store.specs.Image.{decode}
use Rattle.store.proofs.Parts.{count_of_anchors}
use Rattle.image.specs.Contract.Check.{is_given, is_image}
use Rattle.protocol.specs.Acceptance.{judgement}
use Rattle.protocol.specs.Call.{Outcome, refused, row_202, row_203, row_204, answer_of, guarded, call_on, call_of, call}
use Rattle.tamp.specs.declared.Answer.{Answer}
use Rattle.tamp.specs.Left.{result_of, result_for, Promise, house_refusal}
use Rattle.store.specs.Contract.Parts.{anchor_count}
use Rattle.tamp.specs.Contract.Given.{Rooms, Stored, is_verdict, admitted}
use Rattle.tamp.proofs.Answers.{refused_leaves}

-- 201
stored : (image : List ℕ) → is_image image ≡ true → Stored image
stored image e = go (decode image) refl e
  where
    go : (o : Option Store) → decode image ≡ o → is_image image ≡ true → Stored image
    go None d t = absurd (true≢false (sym t ∙ rw d))
    go (Some σ) d t = record { store = σ; decodes = d }

module _ (s image verdict reply next : List ℕ) where
  -- what comes after 204, by the store of the image
  pub after : Option Store → Outcome
  after None = refused bad_image
  after (Some σ) = guarded (answer_of s image σ (judgement σ verdict s))

  row_202_is : (σ : Store) → decode image ≡ Some σ → row_202 σ verdict ≡ not (is_verdict image verdict)
  unfolding row_202
  row_202_is σ d = ap (λ (n : ℕ). not (eqb (length verdict) n && all_of (λ v. leb v 1) verdict)) (sym (count_of_anchors image σ d))

  -- 201 to 204 as tests of what the call is given
  rows : call s image verdict (length reply) (length next)
      ≡ given_if (not (is_image image)) (refused bad_image)
      (given_if (not (is_verdict image verdict)) (refused bad_verdict)
      (given_if (ltb (length reply) reply_room || ltb (length next) image_room) (refused small_buffer)
      (given_if (ltb max_message (length s)) (refused long_message)
      (after (decode image)))))
  unfolding call call_of call_on row_203 row_204 given_if after
  rows = go (decode image) refl
    where
      go : (o : Option Store) → decode image ≡ o
          → call_of o s image verdict (length reply) (length next)
          ≡ given_if (not (is_given o)) (refused bad_image)
          (given_if (not (is_verdict image verdict)) (refused bad_verdict)
          (given_if (ltb (length reply) reply_room || ltb (length next) image_room) (refused small_buffer)
          (given_if (ltb max_message (length s)) (refused long_message)
          (after o))))
      go None d = refl
      go (Some σ) d = rw (row_202_is σ d)

  -- what the call is, by what the house refusals have given
  by_house : Result (Unit {0}) Status → Outcome
  by_house (Err status) = refused status
  by_house (Ok _) = after (decode image)

  by_row : (b : Bool) (status : Status) (rest : Result (Unit {0}) Status) → by_house (given_if b (Err status) rest) ≡ given_if b (refused status) (by_house rest)
  unfolding by_house given_if
  by_row true status rest = refl
  by_row false status rest = refl

  row_past : (b : Bool) (status : Status) (rest : Result (Unit {0}) Status) → given_if b (Err status) rest ≡ Ok tt → (b ≡ false) × (rest ≡ Ok tt)
  unfolding given_if
  row_past true status rest e = absurd (true≢false (ap is_err e))
  row_past false status rest e = (refl, e)

  decided : call s image verdict (length reply) (length next) ≡ by_house (admitted s image verdict (length reply) (length next))
  unfolding admitted by_house
  decided =
      rows
      ∙ sym
      (by_row _ _ _
      ∙ ap (given_if _ _)
      (by_row _ _ _ ∙ ap (given_if _ _) (by_row _ _ _ ∙ ap (given_if _ _) (by_row _ _ _))))

  module _ {r : Result (Unit {0}) Status} (is : r ≡ admitted s image verdict (length reply) (length next)) where
    pub admits : r ≡ Ok tt → Rooms s reply next × Stored image
    unfolding admitted
    admits e =
        let p1 = row_past _ _ _ (sym is ∙ e) in
        let p2 = row_past _ _ _ p1.1 in
        let p3 = row_past _ _ _ p2.1 in
        let p4 = row_past _ _ _ p3.1 in
        let t = neither (ltb (length reply) reply_room) (ltb (length next) image_room) p3.0 in (
          record {
            message = ltb-false max_message (length s) p4.0;
            reply = ltb-false (length reply) reply_room t.0;
            next = ltb-false (length next) image_room t.1;
          },
          stored image (not-false _ p1.0),
        )

    pub call_refused : {status : Status} {a : Answer} → r ≡ Err status → a ≡ house_refusal status → Promise s image verdict reply next a reply next
    unfolding by_house
    call_refused {status} e h =
        ap (λ (a : Answer). result_of a reply next) h
        ∙ refused_leaves status reply next
        ∙ ap (λ (o : Outcome). result_for o reply next) (sym (decided ∙ ap by_house (sym is ∙ e)))

    pub call-answer : {a : Answer} {reply' next' : List ℕ} → r ≡ Ok tt
        → ((σ : Store) → decode image ≡ Some σ → result_of a reply' next' ≡ result_for (guarded (answer_of s image σ (judgement σ verdict s))) reply next)
        → Promise s image verdict reply next a reply' next'
    unfolding by_house after
    call-answer e f =
        let g = (admits e).1 in
        f g.store g.decodes ∙ ap (λ (o : Outcome). result_for o reply next) (sym (decided ∙ ap by_house (sym is ∙ e) ∙ rw g.decodes))
