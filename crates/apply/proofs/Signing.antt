-- The signer's number in the next store, and the effects of the rule book after it.
use Rattle.std.specs.Prelude.{Some, Result}
use Prim.Native.Nat.{ℕ, suc, ◌+◌, ◌≤◌, ◌<◌}
use native.Mathlib.Omega.{arith}
use mathlib.Core.Bool.{true}
use mathlib.Core.List.{List, [], ◌∷◌}
use mathlib.Core.Path.{◌≡◌, sym, ap, ap₂, subst, ◌∙◌}
use lib.ListN.{length, take, drop, get_or, length-map}
use lib.Seq.{split_at, length-take-le}
use borrow.Author.Tests.{lt-ltb, le-ltb}
use Rattle.octets.specs.declared.Status.{Status}
use Rattle.octets.specs.Status.{success, insufficient_memory}
use Rattle.octets.specs.Limits.{image_room, max_updates}
use Rattle.octets.specs.Octets.{Octets, placed}
use Rattle.octets.proofs.Placed.{placed-nil, length-placed, take-after-placed}
use Rattle.der.specs.Element.{inside}
use Rattle.syntax.specs.declared.TampType.{TampType}
use Rattle.syntax.specs.declared.TampType.TheVariants.{StatusQuery, Update, SeqNumAdjust}
use Rattle.rights.specs.Rights.{Rights}
use Rattle.store.specs.Store.{Store, anchors}
use Rattle.store.specs.Image.{encode_number, encode, decode, well_formed}
use Rattle.store.specs.Records.{records_of}
use Rattle.store.specs.Contract.Parts.{place_of, anchor_in}
use Rattle.store.proofs.Parts.{parts}
use Rattle.store.proofs.RoundTrip.{encode-decode, decode-well_formed}
use Rattle.store.proofs.Sizes.{length-encode_number, encode-length}
use Rattle.store.proofs.Standing.{up_to, place_is, record_inside}
use Rattle.edit.proofs.Replaced.{placed_twice}
use Rattle.message.specs.declared.Request.{Request}
use Rattle.message.specs.Fields.{entry_of, entries_in}
use Rattle.protocol.specs.Acceptance.{rights_at}
use Rattle.protocol.specs.Effect.{Effect, query_effect, adjust_effect, update_effect, community_effect, effect_of, effect}
use Rattle.protocol.proofs.WellFormed.{valid_store, store_valid, valid_with_number}
use Rattle.accept.specs.declared.Signer.{Signer}
use Rattle.accept.specs.Contract.Signer.{signer_at, signer_rights}
use Rattle.accept.proofs.Anchors.{rights_at_lem}
use Rattle.accept.proofs.OfStore.{store_read}
use Rattle.apply.specs.declared.Done.{Done}
use Rattle.apply.specs.declared.scratch.ScratchImage.{ScratchImage}
use Rattle.apply.specs.Contract.Entry.{applied_status}
use Rattle.apply.specs.Contract.Scratch.{Holds, Scratch}
use Rattle.apply.specs.Contract.Update.{codes_of, UpdatedAs}
use Rattle.apply.specs.Contract.Community.{CommunityDone}
use Rattle.apply.specs.Contract.Effect.{Signing, number_moved, Writes, Renumbered, WritesEffect, Effects, statuses_of, Codes, Effected}
use Rattle.apply.proofs.Edits.{set-number_law}

-- "The largest image is 33,717 octets."
pub image_short : (image : List ℕ) (σ : Store) → Octets image → decode image ≡ Some σ → length image ≤ image_room
image_short image σ o d = rw (encode-decode image σ o d) at (encode-length σ (decode-well_formed image σ d))

some_same : {A : Type 0} {x y : A} → Some x ≡ Some y → x ≡ y
some_same e = cc

module _ {q : Request} {w : Signer} {image next : List ℕ} (oi : Octets image) (g : Signing q w image next) where
  pub copy_fits : 0 + length image ≤ length next
  copy_fits = omega (arith, image_short image g.store oi g.decodes, g.room)

  place_at : w.place ≡ place_of image w.position
  unfolding signer_at
  place_at = ap (λ (x : Signer). x.place) g.signer

  -- the store is the one that the image has
  module _ (σ : Store) (d : decode image ≡ Some σ) where
    abbrev i : ℕ
    i = w.position

    inside_of : i < length (anchors σ)
    inside_of = let e : g.store ≡ σ = some_same (sym g.decodes ∙ d) in rw e at g.inside

    held : encode σ ≡ image
    held = encode-decode image σ oi d

    number_in : placed image (place_of image i) (encode_number (Some q.number)) ≡ encode (number_moved q w σ)
    number_in =
        ap (λ (m : List ℕ). placed m (place_of m i) (encode_number (Some q.number))) (sym held)
        ∙ set-number_law σ (decode-well_formed image σ d) i q.number inside_of

    valid_after : well_formed (number_moved q w σ) ≡ true
    valid_after = store_valid (number_moved q w σ) (valid_with_number i q.number σ g.small (valid_store σ (decode-well_formed image σ d)))

    place_room : place_of image i + 9 ≤ length image
    place_room =
        let l = anchors σ in
        let f = decode-well_formed image σ d in
        let x = take i l in
        let h = inside_of in
        let e = split_at l i σ.apex inside_of in
        let n : length x ≡ i = length-take-le i l (omega arith) in
        let p : place_of image i ≡ up_to σ x = ap₂ place_of (sym held) (sym n) ∙ place_is σ f x (get_or l i σ.apex ∷ drop (suc i) l) e in
        omega (arith, record_inside σ f x (drop (suc i) l) (get_or l i σ.apex) e, ap length held)

  module _ {next' : List ℕ} (c : next' ≡ placed next 0 image) where
    pub number_fits : w.place + 9 ≤ length next'
    number_fits =
        let h = place_room g.store g.decodes in
        let k = place_at in
        omega (arith, ap length c, length-placed next 0 image copy_fits, copy_fits)

    pub renumbered : {next'' : List ℕ} → next'' ≡ placed next' w.place (encode_number (Some q.number)) → Renumbered q w image next (length image) next''
    renumbered {next''} x σ d =
        let p = place_of image w.position in
        let n = encode_number (Some q.number) in
        let l = length-encode_number (Some q.number) in
        let h = place_room σ d in
        let k = number_in σ d in
        record {
          valid = valid_after σ d;
          size = sym (ap length (sym k) ∙ length-placed image p n (omega arith));
          octets =
              x
              ∙ ap₂ (λ (b : List ℕ) (a : ℕ). placed b a n) c place_at
              ∙ placed_twice next image p n copy_fits (omega arith)
              ∙ ap (placed next 0) k;
        }

-- the buffer that was written is a scratch image
module _ {σ : Store} {d : List ℕ} {r : ℕ} {d' : List ℕ} (w : Writes σ d r d') (room : image_room ≤ length d) where
  written_room : length d' ≡ length d
  written_room = ap length w.octets ∙ length-placed d 0 (encode σ) (omega (arith, encode-length σ w.valid))

  pub written_holds : Holds σ d' r
  written_holds =
      let z : r ≡ 0 + length (encode σ) = omega (arith, w.size) in
      record {
        image = ap₂ take z w.octets ∙ take-after-placed d 0 (encode σ) (omega arith);
        inside = omega (arith, w.size, written_room, encode-length σ w.valid);
        valid = w.valid;
      }

  pub written_scratch : Scratch d' r
  written_scratch = record { room = omega (arith, written_room); store = σ; holds = written_holds }

-- a scratch image copied to the next store
module _ {σ : Store} {d : List ℕ} {len : ℕ} (h : Holds σ d len) where
  pub copied : {next next' : List ℕ} → next' ≡ placed next 0 (take len d) → Writes σ next len next'
  copied {next} e =
      record {
        valid = h.valid;
        size = sym (length-take-le len d h.inside) ∙ ap length h.image;
        octets = e ∙ ap (placed next 0) h.image;
      }

-- Community Update
module _ (s : List ℕ) (q : Request) (w : Signer) (image : List ℕ) {empty : List ℕ} {work : ScratchImage} (r : Renumbered q w image empty work.len work.octets)
    (room : image_room ≤ length empty) {done : Result (Unit {0}) Status} {work' : ScratchImage} (u : CommunityDone s q work done work') where
  pub community_effects : {status : Status} → status ≡ applied_status done → {next next' : List ℕ} → next' ≡ placed next 0 (take work'.len work'.octets)
      → Effects (community_effect s q) q w image next (record { status = status; len = work'.len }) next'
  community_effects e c σ d =
      let h = written_holds (r σ d) room in
      record { status = e ∙ u.status (number_moved q w σ) h; writes = copied (u.store (number_moved q w σ) h) c }

-- Update
module _ (s : List ℕ) (q : Request) {n : ℕ} (counts : n ≡ length (inside s q.updates)) where
  pub counted_entries : n ≡ length (entries_in s q.updates)
  unfolding entries_in
  counted_entries = counts ∙ sym (length-map (inside s q.updates) (entry_of s))

module _ (s : List ℕ) (q : Request) (rights : Rights) (w : Signer) (image : List ℕ) where
  -- 17 for the message as a whole
  module _ (many : max_updates < length (entries_in s q.updates)) where
    pub many_effects : {next next' : List ℕ} {r : Done} → r.status ≡ insufficient_memory → Renumbered q w image next r.len next'
        → Effects (update_effect s q rights) q w image next r next'
    unfolding update_effect
    many_effects e h σ d = rw (lt-ltb max_updates (length (entries_in s q.updates)) many, update_effect) (record { status = e; writes = h σ d })

    pub many_codes : q.kind ≡ Update → (codes : List ℕ) → Codes s q rights w image codes codes
    unfolding statuses_of
    many_codes k codes σ d = rw (k, lt-ltb max_updates (length (entries_in s q.updates)) many, statuses_of) (sym (placed-nil codes 0))

  module _ (few : length (entries_in s q.updates) ≤ max_updates) {empty work : List ℕ} {len : ℕ} (r : Renumbered q w image empty len work)
      (room : image_room ≤ length empty) {codes work' codes' : List ℕ} {end : ℕ} (u : UpdatedAs s rights q work len codes end work' codes') where
    pub few_effects : {next next' : List ℕ} → next' ≡ placed next 0 (take end work')
        → Effects (update_effect s q rights) q w image next (record { status = success; len = end }) next'
    unfolding update_effect
    few_effects c σ d =
        let h = written_holds (r σ d) room in
        record {
          status = rw (le-ltb max_updates (length (entries_in s q.updates)) few, update_effect);
          writes = copied (u.store (number_moved q w σ) h) c;
        }

    pub few_codes : q.kind ≡ Update → Codes s q rights w image codes codes'
    unfolding statuses_of
    few_codes k σ d =
        rw (k, le-ltb max_updates (length (entries_in s q.updates)) few, statuses_of) (u.statuses (number_moved q w σ) (written_holds (r σ d) room))

-- by the message's type
pub no_codes : (s : List ℕ) (q : Request) (rights : Rights) (w : Signer) (image : List ℕ) {kind : TampType} → q.kind ≡ kind
    → ((σ : Store) → statuses_of kind s q rights σ ≡ []) → (codes : List ℕ) → Codes s q rights w image codes codes
no_codes s q rights w image k e codes σ d =
    subst (λ (l : List Status). codes ≡ placed codes 0 (codes_of l))
    (sym (e (number_moved q w σ)) ∙ ap (λ (kind : TampType). statuses_of kind s q rights (number_moved q w σ)) (sym k))
    (sym (placed-nil codes 0))

module _ (s : List ℕ) (q : Request) (rights : Rights) (w : Signer) (image : List ℕ) {next next' : List ℕ} where
  pub query_effects : {r : Done} → q.kind ≡ StatusQuery → (r.status ≡ success) × Renumbered q w image next r.len next'
      → Effects (effect_of q.kind s q rights) q w image next r next'
  unfolding effect_of query_effect
  query_effects k h σ d = rw k (record { status = h.0; writes = h.1 σ d })

  pub adjust_effects : {r : Done} → q.kind ≡ SeqNumAdjust → (r.status ≡ success) × Renumbered q w image next r.len next'
      → Effects (effect_of q.kind s q rights) q w image next r next'
  unfolding effect_of adjust_effect
  adjust_effects k h σ d = rw k (record { status = h.0; writes = h.1 σ d })

  pub by_kind : {r : Done} {kind : TampType} (f : Store → Effect) → q.kind ≡ kind → ((σ : Store) → effect_of kind s q rights σ ≡ f σ)
      → Effects f q w image next r next' → Effects (effect_of q.kind s q rights) q w image next r next'
  by_kind {r} f k e h σ d =
      subst (λ (x : Effect). WritesEffect x next r next')
      (sym (e (number_moved q w σ)) ∙ ap (λ (kind : TampType). effect_of kind s q rights (number_moved q w σ)) (sym k))
      (h σ d)

-- by the rights that the code reads, which are the signer's at acceptance
rights_of_lem : {q : Request} {w : Signer} {image next : List ℕ} → Signing q w image next → (σ : Store) → decode image ≡ Some σ → signer_rights image w ≡ rights_at σ w.position
rights_of_lem {q} {w} {image} g σ d =
    let e : g.store ≡ σ = some_same (sym g.decodes ∙ d) in
    let inside : w.position < length (anchors σ) = rw e at g.inside in
    let n = ap length (parts image σ d).anchors_are in
    ap (signer_rights image) g.signer
    ∙ rights_at_lem image w.position (omega (arith, inside, n, length-map (records_of image) anchor_in))
    ∙ ap (λ (σ : Store). rights_at σ w.position) (store_read image σ d)

pub effected : {s : List ℕ} {q : Request} {w : Signer} {image next codes : List ℕ} → Signing q w image next → {r : Done} {next' codes' : List ℕ}
    → Effects (effect_of q.kind s q (signer_rights image w)) q w image next r next' → Codes s q (signer_rights image w) w image codes codes'
    → Effected s q w image next codes r next' codes'
unfolding effect
effected {s} {q} {w} {image} {next} {codes} g {r} {next'} {codes'} h c =
    record {
      does = λ σ d. subst (λ (x : Rights). WritesEffect (effect_of q.kind s q x (number_moved q w σ)) next r next') (rights_of_lem g σ d) (h σ d);
      statuses = λ σ d.
          subst (λ (x : Rights). codes' ≡ placed codes 0 (codes_of (statuses_of q.kind s q x (number_moved q w σ)))) (rights_of_lem g σ d) (c σ d);
    }
