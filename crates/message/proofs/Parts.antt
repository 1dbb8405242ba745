-- The fields of a message that passed row 36: what `Fields` finds are the fields of RFC 5934's syntax.
use Rattle.std.specs.Prelude.{Ok}
use Prim.Native.Nat.{ℕ, suc, ◌+◌, ◌-◌, ◌≤◌}
use native.Mathlib.Omega.{arith}
use mathlib.Core.Bool.{true, false}
use mathlib.Core.List.{List}
use mathlib.Core.Path.{◌≡◌, refl, sym, ap, ap₂, ◌∙◌}
use lib.ListN.{length}
use lib.Seq.{take_all}
use Rattle.octets.specs.Limits.{max_depth, max_number}
use Rattle.octets.proofs.Lists.{by_test}
use Rattle.octets.proofs.Parts.{length-slice}
use Rattle.der.specs.declared.Element.{Element}
use Rattle.der.specs.Element.{element_at, elements, inside, contents, with_tag, field, constructed}
use Rattle.der.specs.Contents.{oid_ok, contents_ok}
use Rattle.der.specs.Fit.{kept}
use Rattle.der.specs.Check.{der, spans}
use Rattle.der.proofs.Elements.{elements_end}
use Rattle.syntax.specs.Grammar.{Syntax, free, end, obeys, optional, many, required, tagged, not_empty, seq_number, fit}
use Rattle.syntax.specs.Asn.{TAMPMsgRef, TrustAnchorUpdate, TAMPSequenceNumber, TAMPSequenceNumbers, CommunityUpdates, CommunityIdentifierList}
use Rattle.syntax.specs.declared.TampType.{TampType}
use Rattle.syntax.specs.declared.TampType.TheVariants.{StatusQuery, Update, CommunityUpdate, SeqNumAdjust}
use Rattle.syntax.specs.Types.{syntax_of}
use Rattle.syntax.proofs.Each.{Every, every_weaken, every_both, every_map, then_both, kept_fits}
use Rattle.syntax.proofs.Match.{one_fits, obeys_fits}
use Rattle.syntax.proofs.Window.{Own, own_within, tagged-member, after-member}
use Rattle.syntax.proofs.Fields.{Place, lacks, only_field, field_in, Found, Placed, placed, chosen, each-found}
use Rattle.syntax.proofs.Depth.{inside-der, contents-der, spans_fits}
use Rattle.syntax.proofs.Moved.{element-moved, der-moved, fit-moved}
use Rattle.syntax.proofs.Rules.{seq_number_number}
use Rattle.message.specs.Fields.{body_in, msg_ref_in, seq_number_in, seq_num_in, updates_in, tamp_seq_numbers_in, seq_numbers_in, oids_in, additions_in}
use Rattle.message.specs.Rows.{row_36}

-- what stands after msgRef
abbrev pub after_msg_ref : TampType → Syntax
after_msg_ref StatusQuery = end
after_msg_ref Update = required 0x30 (obeys not_empty (many TrustAnchorUpdate)) (optional 0xA2 TAMPSequenceNumbers end)
after_msg_ref CommunityUpdate = required 0x30 CommunityUpdates end
after_msg_ref SeqNumAdjust = end

-- what stands in the message
pub record Body (kind : TampType) (s : List ℕ) (body : Element) : Type 0 where
  pub own : Own s body
  pub checked : der max_depth s body ≡ Ok tt
  pub sequence : constructed body.tag ≡ true
  pub msg_ref : Found 0x30 TAMPMsgRef s body.start body.stop (msg_ref_in s body)
  pub after : fit (after_msg_ref kind) s (msg_ref_in s body).stop body.stop body.at ≡ Ok tt

module _ (s : List ℕ) (content : Element) (own : Own s content) where
  -- what the octets of eContent have, the message has in it
  there : (g : Syntax) → fit g (contents s content) 0 (length (contents s content)) 0 ≡ Ok tt → fit g s content.start content.stop content.at ≡ Ok tt
  there g h =
      let w = own_within s content own in
      let n : length (contents s content) ≡ content.stop - content.start = length-slice s content.start (content.stop - content.start) (omega arith) in
      let start : content.start + 0 ≡ content.start = omega arith in
      let ends : content.start + (content.stop - content.start) ≡ content.stop = omega arith in
      kept_fits (fit g s content.start content.stop content.at)
      (ap₂ (λ (x y : ℕ). kept (fit g s x y content.at)) (sym start) (sym ends)
      ∙ fit-moved s content.start content.stop (omega arith) (omega arith) g 0 (content.stop - content.start) content.at 0 (omega arith)
      ∙ ap kept (rw n at h))

  checked_there : spans max_depth (contents s content) 0 (length (contents s content)) 0 ≡ Ok tt → der max_depth s (body_in s content) ≡ Ok tt
  unfolding body_in
  checked_there h =
      let w = own_within s content own in
      let n : length (contents s content) ≡ content.stop - content.start = length-slice s content.start (content.stop - content.start) (omega arith) in
      let start : content.start + 0 ≡ content.start = omega arith in
      let ends : content.start + (content.stop - content.start) ≡ content.stop = omega arith in
      let e = element_at (contents s content) 0 (content.stop - content.start) in
      let two = spans_fits max_depth (contents s content) 0 (content.stop - content.start) 0 (rw n at h) in
      kept_fits (der max_depth s (element_at s content.start content.stop))
      (ap (λ (x : Element). kept (der max_depth s x))
      (ap₂ (element_at s) (sym start) (sym ends)
      ∙ element-moved s content.start content.stop (omega arith) (omega arith) 0 (content.stop - content.start) (omega arith))
      ∙ der-moved s content.start content.stop (omega arith) (omega arith) max_depth e (omega (arith, two.1))
      ∙ ap kept two.0)

  body-found : (g : Syntax) → fit (required 0x30 g end) (contents s content) 0 (length (contents s content)) 0 ≡ Ok tt
      → Found 0x30 g s content.start content.stop (body_in s content)
  unfolding body_in
  body-found g h =
      let f = one_fits s content.start content.stop content.at refl (optional 0x30 g end) end (there (required 0x30 g end) h) in
      chosen s content.start content.stop content.at refl f.valid 0x30 g f.alone

  body_with : (kind : TampType) (g : Syntax) → spans max_depth (contents s content) 0 (length (contents s content)) 0 ≡ Ok tt
      → (f : Found 0x30 g s content.start content.stop (body_in s content))
      → Placed 0x30 s (body_in s content).start (body_in s content).stop (body_in s content).at (msg_ref_in s (body_in s content))
      (Place.must TAMPMsgRef (after_msg_ref kind))
      → Body kind s (body_in s content)
  body_with kind g d f p =
      record { own = f.own; checked = checked_there d; sequence = rw f.tag; msg_ref = p.0; after = p.1 }

  pub body_parts : (kind : TampType) → row_36 kind (contents s content) ≡ Ok tt → Body kind s (body_in s content)
  unfolding row_36 syntax_of msg_ref_in field_in lacks only_field
  body_parts StatusQuery h =
      let two = then_both _ _ h in
      let f = body-found _ two.1 in
      body_with StatusQuery _ two.0 f (placed 0x30 s _ _ _ _ f.fits)
  body_parts Update h =
      let two = then_both _ _ h in
      let f = body-found _ two.1 in
      body_with Update _ two.0 f (placed 0x30 s _ _ _ _ f.fits)
  body_parts CommunityUpdate h =
      let two = then_both _ _ h in
      let f = body-found _ two.1 in
      body_with CommunityUpdate _ two.0 f (placed 0x30 s _ _ _ _ f.fits)
  body_parts SeqNumAdjust h =
      let two = then_both _ _ h in
      let f = body-found _ two.1 in
      body_with SeqNumAdjust _ two.0 f (placed 0x30 s _ _ _ _ f.fits)

-- SeqNumber

number-found : (s : List ℕ) (at stop : ℕ) (e : Element) → Found 0x02 (obeys seq_number free) s at stop e → seq_number_in s e ≤ max_number
unfolding seq_number_in
number-found s at stop e f =
    let c = contents s e in
    let h = (obeys_fits s e.start e.stop e.at seq_number free f.fits).1 in
    let n = seq_number_number c h in
    rw (take_all 8 c n.0) n.1

pub msg_ref-number : (s : List ℕ) (at stop : ℕ) (msg_ref : Element) → Found 0x30 TAMPMsgRef s at stop msg_ref → seq_num_in s msg_ref ≤ max_number
unfolding seq_num_in field_in lacks only_field
msg_ref-number s at stop m f =
    number-found s m.start m.stop (field 0x02 s m) (placed 0x02 s TAMPMsgRef m.start m.stop m.at f.fits).0

-- tampSeqNumbers

pair-number : (s : List ℕ) (at stop : ℕ) (e : Element) → Found 0x30 TAMPSequenceNumber s at stop e → seq_number_in s (field 0x02 s e) ≤ max_number
unfolding field_in lacks only_field
pair-number s at stop e f =
    number-found s e.start e.stop (field 0x02 s e) (placed 0x02 s TAMPSequenceNumber e.start e.stop e.at f.fits).0

module _ (s : List ℕ) (content : Element) (own : Own s content) (h : row_36 Update (contents s content) ≡ Ok tt) where
  seq_numbers_placed : let body = body_in s content in
      Placed 0xA2 s body.start body.stop body.at (field 0xA2 s body) (Place.may TAMPSequenceNumbers)
  unfolding row_36 syntax_of field_in lacks only_field
  seq_numbers_placed =
      let two = then_both _ _ h in
      let f = body-found s content own _ two.1 in
      placed 0xA2 s _ _ _ _ f.fits

  pub seq_numbers_small : Every (λ p. p.1 ≤ max_number) (seq_numbers_in s (tamp_seq_numbers_in s (body_in s content)))
  unfolding seq_numbers_in tamp_seq_numbers_in
  seq_numbers_small =
      let body = body_in s content in
      let list = field 0xA2 s body in
      let pair : Element → List ℕ × ℕ = λ e. (contents s (field 0x04 s e), seq_number_in s (field 0x02 s e)) in
      every_map pair (λ p. p.1 ≤ max_number) (inside s list)
      (by_test list.valid
      (λ g.
      let f = seq_numbers_placed.0 g in
      let m = (obeys_fits s list.start list.stop list.at not_empty (many (tagged 0x30 TAMPSequenceNumber)) f.fits).0 in
      every_weaken (Found 0x30 TAMPSequenceNumber s list.start list.stop) (λ e. (pair e).1 ≤ max_number)
      (λ e k. pair-number s list.start list.stop e k)
      (inside s list)
      (each-found 0x30 TAMPSequenceNumber s list.start list.stop list.at m))
      (λ g. rw (seq_numbers_placed.1 g, elements_end s 0 0 (omega arith)) tt))

-- CommunityUpdates

-- the updates after msgRef
pub updates_found : (kind : TampType) (s : List ℕ) (body : Element) (g next : Syntax) → after_msg_ref kind ≡ required 0x30 g next → Body kind s body
    → Found 0x30 g s (msg_ref_in s body).stop body.stop (updates_in s body (msg_ref_in s body)) × (der 15 s (updates_in s body (msg_ref_in s body)) ≡ Ok tt)
unfolding updates_in msg_ref_in field_in lacks only_field
updates_found kind s body g next q b =
    let msg_ref = field 0x30 s body in
    let p : Placed 0x30 s msg_ref.stop body.stop body.at (with_tag 0x30 (elements s msg_ref.stop body.stop)) (Place.must g next) =
    placed 0x30 s (required 0x30 g next) msg_ref.stop body.stop body.at (rw q at b.after)
    in
    let P : Element → Type 0 = λ m. der 15 s m ≡ Ok tt in (
      p.0,
      tagged-member P 0x30 (elements s msg_ref.stop body.stop)
          (after-member P 0x30 s body.start body.stop (inside-der 15 s body b.checked b.sequence) b.msg_ref.own.valid)
          p.0.own.valid,
    )

-- an OID that passed status 1's rules
oid-found : (d : ℕ) (s : List ℕ) (at stop : ℕ) (e : Element) → Found 0x06 free s at stop e → der (suc d) s e ≡ Ok tt → oid_ok (contents s e) ≡ true
unfolding contents_ok
oid-found d s at stop e f h =
    let primitive : constructed e.tag ≡ false = rw f.tag in
    let ok : contents_ok e.tag (contents s e) ≡ true = contents-der d s e h primitive in
    rw f.tag at ok

-- a CommunityIdentifierList with a context tag
oids_found : (d : ℕ) (s : List ℕ) (at stop : ℕ) (t : ℕ) (e : Element) → constructed t ≡ true → Found t CommunityIdentifierList s at stop e
    → der (suc (suc d)) s e ≡ Ok tt → Every (λ o. oid_ok o ≡ true) (oids_in s e)
unfolding oids_in
oids_found d s at stop t e c f h =
    let P : Element → Type 0 = Found 0x06 free s e.start e.stop in
    let Q : Element → Type 0 = λ m. der (suc d) s m ≡ Ok tt in
    every_map (contents s) (λ o. oid_ok o ≡ true) (inside s e)
    (every_weaken (λ m. P m × Q m) (λ m. oid_ok (contents s m) ≡ true) (λ m k. oid-found d s e.start e.stop m k.0 k.1) (inside s e)
    (every_both P Q (inside s e)
    (each-found 0x06 free s e.start e.stop e.at f.fits)
    (inside-der (suc d) s e h (rw f.tag c))))

module _ (s : List ℕ) (body : Element) (b : Body CommunityUpdate s body) where
  pub additions_ok : Every (λ o. oid_ok o ≡ true) (additions_in s (updates_in s body (msg_ref_in s body)))
  unfolding additions_in oids_in field_in lacks only_field
  additions_ok =
      let updates = updates_in s body (msg_ref_in s body) in
      let u = updates_found CommunityUpdate s body CommunityUpdates end refl b in
      let list = field 0xA2 s updates in
      let p = placed 0xA2 s CommunityUpdates updates.start updates.stop updates.at u.0.fits in
      by_test list.valid
      (λ g.
      oids_found 12 s updates.start updates.stop 0xA2 list refl (p.0 g)
      (tagged-member (λ m. der 14 s m ≡ Ok tt) 0xA2 (inside s updates) (inside-der 14 s updates u.1 (rw u.0.tag)) g))
      (λ g. rw (p.1 g, elements_end s 0 0 (omega arith)) tt)
