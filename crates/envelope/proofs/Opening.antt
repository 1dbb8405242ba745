-- A wrapper that opens: what the rows 1 to 8 found of it, and the parts that it holds.
use Rattle.std.specs.Prelude.{Result, Ok, Err}
use Prim.Native.Nat.{ℕ}
use mathlib.Core.List.{List}
use mathlib.Core.Path.{◌≡◌}
use borrow.Author.Tests.{not-false}
use Rattle.der.specs.Fit.{given_at, Fit}
use Rattle.der.proofs.Fits.{applies_not, past_row}
use Rattle.syntax.specs.Grammar.{free, end, required}
use Rattle.syntax.specs.Asn.{EncapsulatedContentInfo}
use Rattle.syntax.proofs.Window.{Own}
use Rattle.syntax.proofs.Fields.{lacks, only_field, field_in, placed}
use Rattle.envelope.specs.declared.Signed.{Signed}
use Rattle.envelope.specs.declared.Refusal.{Refusal}
use Rattle.envelope.specs.Parts.{encap_content_info, e_content_type, e_content_tag, subject_key_identifier, e_content as content_of, signed_attrs as attributesOf}
use Rattle.envelope.specs.Rows.{row_4, row_9, envelope, Wrapped}

pub record Opens (s : List ℕ) (w : Signed) : Type 0 where
  pub wrapped : Wrapped s
  pub msgtype : w.msgtype ≡ e_content_type s
  pub content : w.content ≡ content_of s
  pub signer : w.signer ≡ subject_key_identifier s
  pub attributes : w.attributes ≡ attributesOf s

at_opened : (f : Fit) (answer : ℕ → Refusal) (next : Result Signed Refusal) {w : Signed} → given_at f (λ o. Err (answer o)) next ≡ Ok w
    → (f ≡ Ok tt) × (next ≡ Ok w)
at_opened f answer next e = past_row f _ next (λ o c. cc) e

pub opens : (s : List ℕ) (w : Signed) → envelope s ≡ Ok w → Opens s w
unfolding envelope
opens s w e =
    let r1 = at_opened _ _ _ e in
    let r29 = at_opened _ _ _ r1.1 in
    let r2 = at_opened _ _ _ r29.1 in
    let r3 = at_opened _ _ _ r2.1 in
    let r4 = at_opened _ _ _ r3.1 in
    let r9 = at_opened _ _ _ r4.1 in
    let r18 = at_opened _ _ _ r9.1 in
    let r5 = at_opened _ _ _ r18.1 in
    let r6 = at_opened _ _ _ r5.1 in
    let r7 = at_opened _ _ _ r6.1 in
    let r8 = at_opened _ _ _ r7.1 in
    let is = r8.1 in
    record {
      wrapped =
          record {
            der = r1.0;
            content_info = r2.0;
            signed_data = r3.0;
            encap_content = r4.0;
            e_content = r9.0;
            certificates = r5.0;
            signer_info = r6.0;
            signed_attrs = r7.0;
            unsigned_attrs = r8.0;
          };
      msgtype = cc;
      content = cc;
      signer = cc;
      attributes = cc;
    }

-- eContent is an element of the message
pub content_own : (s : List ℕ) (w : Signed) → Opens s w → Own s w.content
unfolding row_4 row_9 content_of e_content_tag field_in lacks only_field
content_own s w o =
    let encap = encap_content_info s in
    let tag = e_content_tag s in
    let p = placed 0xA0 s EncapsulatedContentInfo encap.start encap.stop encap.at o.wrapped.encap_content in
    let f = p.0 (not-false _ (applies_not _ o.wrapped.e_content)) in
    rw o.content (placed 0x04 s (required 0x04 free end) tag.start tag.stop tag.at f.fits).0.own
