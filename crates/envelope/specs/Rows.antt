-- 01, Answers: the rows 1, 29, 2, 3, 4, 9, 18, 5, 6, 7 and 8, each as its own definition, and their order.
-- Every row of the table of statuses (here, in message's specs/Rows, in protocol's specs/Acceptance) is a Fit that says whether the row applies: `Err o`
-- where it does, `Ok tt` where it does not. o is 02 E3's offset, 0 for a row that has none (`applies_if`). `given_at` gives the first that applies.
use Rattle.envelope.specs.declared.Signed.{Signed}
use Rattle.envelope.specs.declared.Refusal.{Refusal}
use Rattle.std.specs.Prelude.{ℕ, Bool, true, false, not, ◌&&◌, ◌||◌, List, ◌≡◌, length, Option, Some, None, Result, Ok, Err}
use Rattle.octets.specs.declared.Status.{Status}
use Rattle.octets.specs.Status.{decode_failure, missing_signature, bad_content_info, bad_signed_data, bad_encap_content, missing_content, unsupported_tamp_msg_type}
use Rattle.octets.specs.Status.{bad_certificate, bad_signer_info, bad_signed_attrs, bad_unsigned_attrs}
use Rattle.octets.specs.Limits.{max_depth}
use Rattle.der.specs.declared.Element.{Element}
use Rattle.der.specs.Element.{absent, contents}
use Rattle.der.specs.Fit.{held, kept, applies_if, given_at, Fit}
use Rattle.der.specs.Check.{spans}
use Rattle.syntax.specs.declared.TampType.{TampType}
use Rattle.syntax.specs.Grammar.{fit}
use Rattle.syntax.specs.Asn.{ContentInfo, ContentInfoSignedData, OneSignedData, EncapsulatedContentInfo, OneSignerInfo}
use Rattle.syntax.specs.Types.{recognised}
use Rattle.envelope.specs.Parts.{content_type, content, encap_content_info, certificates, crls, signer_infos, e_content_type, e_content_tag, e_content}
use Rattle.envelope.specs.Parts.{signer_info, subject_key_identifier, signed_attrs, unsigned_attrs}
use Rattle.envelope.specs.Attributes.{attributes_fit}
use Rattle.syntax.specs.declared.TampType.TheVariants.{StatusQuery}

-- a refusal: its status, what its reply repeats of the message (msgType where it has a reply: "Statuses 1, 2, 3 and 4 have no reply"; msgRef: "with msgRef
-- from 127 on, without it before"), and 02 E3's offset
abbrev pub refusal_with : Status → Element → Element → ℕ → Refusal
refusal_with status msgtype msgref offset = record { status = status; offset = offset; msgtype = msgtype; msgref = msgref }

-- .. without msgRef
abbrev pub refusal : Status → Element → ℕ → Refusal
refusal status msgtype offset = refusal_with status msgtype (absent 0) offset

abbrev pub is_tamp : Option TampType → Bool
is_tamp (Some t) = true
is_tamp None = false

-- 1: not DER (0 octets too)
unfoldable pub row_1 : List ℕ → Fit
row_1 s = spans max_depth s 0 (length s) 0

-- 29: ContentInfo's type is one of the four TAMP types
unfoldable pub row_29 : List ℕ → Fit
row_29 s = applies_if (kept (fit ContentInfo s 0 (length s) 0) && is_tamp (recognised (contents s (content_type s))))

-- 2: not a ContentInfo of type signedData
unfoldable pub row_2 : List ℕ → Fit
row_2 s = fit ContentInfoSignedData s 0 (length s) 0

-- 3: SignedData isn't version 3 with the fields of RFC 5652
unfoldable pub row_3 : List ℕ → Fit
row_3 s = let c = content s in fit OneSignedData s c.start c.stop c.at

-- 4: encapsulated content wrongly formed
unfoldable pub row_4 : List ℕ → Fit
row_4 s = let e = encap_content_info s in fit EncapsulatedContentInfo s e.start e.stop e.at

-- 9: eContent absent
unfoldable pub row_9 : List ℕ → Fit
row_9 s = applies_if (not (e_content_tag s).valid)

-- 18: eContentType isn't one of the four
unfoldable pub row_18 : List ℕ → Fit
row_18 s = applies_if (not (is_tamp (recognised (contents s (e_content_type s)))))

-- which of the four it is; what stands for the others is never handed on, as row 18 refuses them
abbrev pub kind_of : Option TampType → TampType
kind_of (Some t) = t
kind_of None = StatusQuery

unfoldable pub kind_in : List ℕ → TampType
kind_in s = kind_of (recognised (contents s (e_content_type s)))

-- 5: certificates or CRLs present
unfoldable pub row_5 : List ℕ → Fit
row_5 s = applies_if ((certificates s).valid || (crls s).valid)

-- 6: not exactly one SignerInfo, or it isn't version 3 with the fields of RFC 5652 and a subjectKeyIdentifier
unfoldable pub row_6 : List ℕ → Fit
row_6 s = let e = signer_infos s in fit OneSignerInfo s e.start e.stop e.at

-- 7: signed attributes
unfoldable pub row_7 : List ℕ → Fit
row_7 s = attributes_fit (contents s (e_content_type s)) s (signer_info s) (signed_attrs s)

-- 8: unsigned attributes present
unfoldable pub row_8 : List ℕ → Fit
row_8 s = let u = unsigned_attrs s in held u.at (not u.valid)

abbrev pub refuse_message : Status → Element → ℕ → Result Signed Refusal
refuse_message status msgtype offset = Err (refusal status msgtype offset)

-- the rows 2, 3, 4 and 9, and the rows 5, 6, 7 and 8: they ask nothing of the four types. Row 29 stands before them, row 18 between.
module _ {A : Type 0} (refusing : Status → Element → ℕ → A) (s : List ℕ) where
  abbrev pub content_rows : A → A
  content_rows next =
      given_at (row_2 s) (refusing bad_content_info (absent 0))
      (given_at (row_3 s) (refusing bad_signed_data (absent 0))
      (given_at (row_4 s) (refusing bad_encap_content (absent 0))
      (given_at (row_9 s) (refusing missing_content (e_content_type s)) next)))

  abbrev pub signer_rows : A → A
  signer_rows next =
      given_at (row_5 s) (refusing bad_certificate (e_content_type s))
      (given_at (row_6 s) (refusing bad_signer_info (e_content_type s))
      (given_at (row_7 s) (refusing bad_signed_attrs (e_content_type s))
      (given_at (row_8 s) (refusing bad_unsigned_attrs (e_content_type s)) next)))

-- what the rows up to 8 find
unfoldable pub envelope : List ℕ → Result Signed Refusal
envelope s =
    let about = e_content_type s in
    given_at (row_1 s) (refuse_message decode_failure (absent 0))
    (given_at (row_29 s) (refuse_message missing_signature (content_type s))
    (content_rows refuse_message s
    (given_at (row_18 s) (refuse_message unsupported_tamp_msg_type about)
    (signer_rows refuse_message s
    (Ok
    (record { kind = kind_in s; msgtype = about; content = e_content s; signer = subject_key_identifier s; attributes = signed_attrs s }))))))

-- the same rows for a content of any type, without 29 and 18: their refusal, or nothing
unfoldable pub wrapper : List ℕ → Result (Unit {0}) Refusal
wrapper s =
    let first : Status → Element → ℕ → Result (Unit {0}) Refusal = λ status msgtype offset. Err (refusal status msgtype offset) in
    given_at (row_1 s) (first decode_failure (absent 0)) (content_rows first s (signer_rows first s (Ok tt)))

module _ {A : Type 0} where
  -- the answer of the refusal, else what comes next
  unfoldable pub given_first : Result (Unit {0}) Refusal → (Refusal → A) → A → A
  given_first (Ok _) answer next = next
  given_first (Err r) answer next = answer r

-- none of them applies
pub record Wrapped (s : List ℕ) : Type 0 where
  pub der : row_1 s ≡ Ok tt
  pub content_info : row_2 s ≡ Ok tt
  pub signed_data : row_3 s ≡ Ok tt
  pub encap_content : row_4 s ≡ Ok tt
  pub e_content : row_9 s ≡ Ok tt
  pub certificates : row_5 s ≡ Ok tt
  pub signer_info : row_6 s ≡ Ok tt
  pub signed_attrs : row_7 s ≡ Ok tt
  pub unsigned_attrs : row_8 s ≡ Ok tt
