-- The reply as the code makes it is the reply of the rule book's answer.
use Rattle.std.specs.Prelude.{Some}
use Prim.Native.Nat.{ℕ, zero, suc, ◌+◌, ◌≤◌, ◌<◌}
use native.Mathlib.Omega.{arith}
use mathlib.Core.Bool.{true, false}
use mathlib.Core.List.{List, [], ◌∷◌, ◌++◌, map, map-map, map-id}
use mathlib.Core.Path.{◌≡◌, refl, sym, ap, ap₂, ◌∙◌}
use lib.ListN.{length, take, length-map, length-append}
use lib.Seq.{take_at, length-take-le}
use lib.Dec.{ltb}
use borrow.Author.Tests.{ltb-false, lt-ltb, le-ltb}
use Rattle.octets.specs.declared.Status.{Status}
use Rattle.octets.specs.Limits.{max_updates}
use Rattle.octets.specs.Octets.{placed}
use Rattle.octets.proofs.Lists.{by_test}
use Rattle.octets.proofs.Placed.{placed-nil, take-after-placed}
use Rattle.der.specs.Element.{encoding, contents, inside}
use Rattle.syntax.specs.declared.TampType.{TampType}
use Rattle.syntax.specs.declared.TampType.TheVariants.{StatusQuery, Update, CommunityUpdate, SeqNumAdjust}
use Rattle.rights.specs.Rights.{Rights}
use Rattle.store.specs.Store.{Anchor, Store, identifier_of, identifiers}
use Rattle.store.specs.Image.{encode, decode, well_formed}
use Rattle.store.proofs.RoundTrip.{decode-encode}
use Rattle.store.proofs.Parts.{parts, identifiers_of}
use Rattle.envelope.specs.declared.Refusal.{Refusal}
use Rattle.message.specs.declared.Request.{Request}
use Rattle.message.specs.Fields.{entry_of, entries_in}
use Rattle.reply.specs.Replies.{tamp_error, status_response, update_confirm, community_confirm, adjust_confirm}
use Rattle.reply.specs.Contract.Parts.{status_numbered, response_of}
use Rattle.protocol.specs.Acceptance.{rights_at}
use Rattle.protocol.specs.Call.{refusal_reply}
use Rattle.protocol.specs.Update.{steps}
use Rattle.protocol.specs.Effect.{number_set, with_number, query_effect, adjust_effect, community_effect, update_effect, effect_of, effect}
use Rattle.protocol.proofs.Demand2.{steps-count}
use Rattle.apply.specs.Contract.Update.{codes_of}
use Rattle.apply.specs.Contract.Effect.{statuses_of, statuses_in}
use Rattle.tamp.specs.Contract.Reply.{kind_reply, request_reply, Put}

-- what a Query's response lists does not depend on numbers
number_set-identifiers : (i n : ℕ) (l : List Anchor) → map identifier_of (number_set i n l) ≡ map identifier_of l
unfolding number_set
number_set-identifiers i n [] = refl
number_set-identifiers zero n (a ∷ l) = refl
number_set-identifiers (suc i) n (a ∷ l) = ap (λ (r : List (List ℕ)). identifier_of a ∷ r) (number_set-identifiers i n l)

listed-stays : {A : Type 0} (f : List (List ℕ) → List (List ℕ) → A) (i n : ℕ) (σ : Store)
    → f (identifiers σ) σ.communities ≡ f (identifiers (with_number i n σ)) (with_number i n σ).communities
unfolding with_number
listed-stays f zero n σ = refl
listed-stays f (suc i) n σ =
    ap (λ (l : List (List ℕ)). f (identifier_of σ.apex ∷ l) σ.communities) (sym (number_set-identifiers i n σ.others))

statuses_back : (l : List Status) → map status_numbered (codes_of l) ≡ l
statuses_back l = map-map _ _ l ∙ map-id l

module _ (s : List ℕ) (q : Request) (i : ℕ) (σ : Store) where
  abbrev after : Store
  after = with_number i q.number σ

  -- an image lists what a Query's response does
  abbrev Lists : List ℕ → Type 0
  Lists image =
      response_of (encoding s q.msgref) image ≡ status_response (encoding s q.msgref) (identifiers after) after.communities

  decoded_lists : (image : List ℕ) (τ : Store) → decode image ≡ Some τ
      → response_of (encoding s q.msgref) image ≡ status_response (encoding s q.msgref) (identifiers τ) τ.communities
  decoded_lists image τ d = ap₂ (status_response (encoding s q.msgref)) (identifiers_of image τ d) (parts image τ d).communities

  -- the image as given does, and so does the next store of a Query
  pub given_lists : (image : List ℕ) → decode image ≡ Some σ → Lists image
  given_lists image d = decoded_lists image σ d ∙ listed-stays (status_response (encoding s q.msgref)) i q.number σ

  pub left_lists : well_formed (effect s q i σ).store ≡ true → q.kind ≡ StatusQuery → Lists (encode (effect s q i σ).store)
  unfolding effect effect_of query_effect
  left_lists g e = of_kind q.kind e g
    where
      of_kind : (kind : TampType) → kind ≡ StatusQuery → well_formed (effect_of kind s q (rights_at σ i) after).store ≡ true
          → Lists (encode (effect_of kind s q (rights_at σ i) after).store)
      of_kind kind e = rw e (λ g. decoded_lists (encode after) after (decode-encode after g))

  entry-count : length (inside s q.updates) ≡ length (entries_in s q.updates)
  unfolding entries_in
  entry-count = sym (length-map (inside s q.updates) (entry_of s))

  kind_reply_lem : (kind : TampType) (rights : Rights) {status : Status} (image codes : List ℕ) → (kind ≡ StatusQuery → Lists image)
      → status ≡ (effect_of kind s q rights after).status
      → (let l = statuses_of kind s q rights after in take (length l) codes ≡ codes_of l)
      → kind_reply kind s q image status codes ≡ (effect_of kind s q rights after).reply
  unfolding kind_reply effect_of query_effect adjust_effect community_effect update_effect statuses_of
  kind_reply_lem StatusQuery rights image codes lists e c = lists refl
  kind_reply_lem SeqNumAdjust rights image codes lists e c = refl
  kind_reply_lem CommunityUpdate rights image codes lists e c = rw e
  kind_reply_lem Update rights {status} image codes lists e c =
      by_test (ltb max_updates (length (entries_in s q.updates)))
      (λ t.
      let v = rw (t, update_effect) at e in
      rw (entry-count, t, kind_reply, update_effect, v))
      (λ t.
      let done = steps s rights after.apex after.others [] (entries_in s q.updates) in
      let n = steps-count s rights after.apex after.others [] (entries_in s q.updates) in
      let k : take (length done.statuses) codes ≡ codes_of done.statuses = rw (t, statuses_of) at c in
      rw (entry-count, t, kind_reply, update_effect)
      (ap (λ (l : List Status). update_confirm (encoding s q.msgref) l) (ap (λ (m : ℕ). map status_numbered (take m codes)) (entry-count ∙ sym n) ∙ ap (map status_numbered) k ∙ statuses_back done.statuses)))

  pub request_reply_lem : {status : Status} (image codes : List ℕ) → (q.kind ≡ StatusQuery → Lists image) → status ≡ (effect s q i σ).status
      → (let l = statuses_in s q i σ in take (length l) codes ≡ codes_of l) → request_reply s q image status codes ≡ (effect s q i σ).reply
  unfolding effect
  request_reply_lem image codes lists e c = kind_reply_lem q.kind (rights_at σ i) image codes lists e c

-- codes that are the octets of statuses: those that were written, and, where none were, some
pub codes_written : (l : List Status) (codes : List ℕ) {codes' : List ℕ} → length l ≤ length codes → codes' ≡ placed codes 0 (codes_of l)
    → take (length l) codes' ≡ codes_of l
codes_written l codes h e =
    let n = length-map l (λ (v : Status). v.number) in
    let z : length l ≡ 0 + length (codes_of l) = omega arith in
    ap₂ take z e ∙ take-after-placed codes 0 (codes_of l) (omega arith)

pub some_codes : List Status → List ℕ
some_codes l = codes_of l ++ (0 ∷ 0 ∷ 0 ∷ 0 ∷ 0 ∷ 0 ∷ 0 ∷ 0 ∷ 0 ∷ 0 ∷ 0 ∷ 0 ∷ 0 ∷ 0 ∷ 0 ∷ 0 ∷ [])

pub some-long : (l : List Status) → max_updates ≤ length (some_codes l)
unfolding some_codes
some-long l = simp length-append (omega arith)

pub some_are : (l : List Status) → take (length l) (some_codes l) ≡ codes_of l
unfolding some_codes
some_are l = take_at (codes_of l) _ (length l) (length-map l (λ (v : Status). v.number))

-- an Update lists 16 statuses at most
pub statuses_few : (s : List ℕ) (q : Request) (i : ℕ) (σ : Store) → length (statuses_in s q i σ) ≤ max_updates
unfolding statuses_of
statuses_few s q i σ = of_kind q.kind
  where
    of_kind : (kind : TampType) → length (statuses_of kind s q (rights_at σ i) (with_number i q.number σ)) ≤ max_updates
    of_kind StatusQuery = omega arith
    of_kind CommunityUpdate = omega arith
    of_kind SeqNumAdjust = omega arith
    of_kind Update =
        by_test (ltb max_updates (length (entries_in s q.updates)))
        (λ t. rw (t, statuses_of) (omega arith))
        (λ t.
        let after = with_number i q.number σ in
        let n = steps-count s (rights_at σ i) after.apex after.others [] (entries_in s q.updates) in
        let h = ltb-false max_updates (length (entries_in s q.updates)) t in
        rw (t, statuses_of) (omega arith))

-- the reply of each kind, as the code comes upon it
module _ (s : List ℕ) (q : Request) (image : List ℕ) {m : List ℕ} (e : m ≡ encoding s q.msgref) (status : Status) (codes : List ℕ) where
  pub query_reply : q.kind ≡ StatusQuery → response_of m image ≡ request_reply s q image status codes
  unfolding kind_reply
  query_reply k = rw (k, e)

  pub adjust_reply : q.kind ≡ SeqNumAdjust → adjust_confirm m ≡ request_reply s q image status codes
  unfolding kind_reply
  adjust_reply k = rw (k, e)

  pub community_reply : q.kind ≡ CommunityUpdate → community_confirm m status ≡ request_reply s q image status codes
  unfolding kind_reply
  community_reply k = rw (k, e)

  module _ (k : q.kind ≡ Update) {n : ℕ} (c : n ≡ length (inside s q.updates)) where
    pub many_reply : max_updates < n → {o : List ℕ} → o ≡ contents s q.msgtype → tamp_error o status m ≡ request_reply s q image status codes
    unfolding kind_reply
    many_reply h f = let l : max_updates < length (inside s q.updates) = omega arith in rw (k, lt-ltb _ _ l, kind_reply, e, f)

    pub few_reply : n ≤ max_updates → update_confirm m (map status_numbered (take n codes)) ≡ request_reply s q image status codes
    unfolding kind_reply
    few_reply h = let l : length (inside s q.updates) ≤ max_updates = omega arith in rw (k, le-ltb _ _ l, kind_reply, e, c)

    pub few_size : n ≤ max_updates → max_updates ≤ length codes → length (map status_numbered (take n codes)) ≡ n
    few_size h l = length-map (take n codes) status_numbered ∙ length-take-le n codes (omega arith)

-- a refused message's reply
module _ (s : List ℕ) (r : Refusal) where
  pub refusal_silent : r.msgtype.valid ≡ false → refusal_reply s r ≡ []
  unfolding refusal_reply
  refusal_silent e = rw e

  pub refusal_told : r.msgtype.valid ≡ true → {m o : List ℕ} → o ≡ contents s r.msgtype → m ≡ encoding s r.msgref
      → tamp_error o r.status m ≡ refusal_reply s r
  unfolding refusal_reply
  refusal_told e f g = rw (e, f, g)

pub nothing_put : (reply : List ℕ) {content : List ℕ} → content ≡ [] → Put content reply 0 reply
nothing_put reply e = rw e (refl, sym (placed-nil reply 0))

pub put_as : {x y : List ℕ} (reply : List ℕ) {reply' : List ℕ} {n : ℕ} → x ≡ y → (n ≡ length x) × (reply' ≡ placed reply 0 x) → Put y reply n reply'
put_as reply e h = (h.0 ∙ ap length e, h.1 ∙ ap (placed reply 0) e)
