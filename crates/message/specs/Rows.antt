-- 01, Answers: the rows 36, 31 and 127, each a Fit as envelope's specs/Rows says, and all that depends on the message alone.
use Rattle.envelope.specs.declared.Refusal.{Refusal}
use Rattle.std.specs.Prelude.{ℕ, ◌+◌, Bool, true, false, not, ◌&&◌, List, length, ltb, Result, Ok, Err}
use Rattle.octets.specs.Status.{malformed, version_number_mismatch, other}
use Rattle.octets.specs.Limits.{max_depth}
use Rattle.der.specs.declared.Element.{Element}
use Rattle.der.specs.Element.{contents}
use Rattle.der.specs.Fit.{and_then, applies_if, given_at, Fit}
use Rattle.der.specs.Check.{spans}
use Rattle.syntax.specs.declared.TampType.{TampType}
use Rattle.syntax.specs.declared.TampType.TheVariants.{StatusQuery, Update, CommunityUpdate, SeqNumAdjust}
use Rattle.syntax.specs.Grammar.{fit}
use Rattle.syntax.specs.Types.{syntax_of}
use Rattle.envelope.specs.declared.Signed.{Signed}
use Rattle.envelope.specs.Rows.{refusal_with, refusal, envelope}
use Rattle.message.specs.declared.Request.{Request}
use Rattle.message.specs.Fields.{body_in, msg_ref_in, version_in, terse_in, target_in, seq_num_in, updates_in, tamp_seq_numbers_in}

-- 36: eContent is not DER (depth counted afresh), or isn't its message's syntax; status 1's rules come before any other (02, E3)
unfoldable pub row_36 : TampType → List ℕ → Fit
row_36 kind content = and_then (spans max_depth content 0 (length content) 0) (fit (syntax_of kind) content 0 (length content) 0)

-- .. with the offset in the message of the octet that breaks it; where eContent has no octet, eContent itself is charged
unfoldable pub in_message : List ℕ → Element → Fit → Fit
in_message s e (Ok _) = Ok tt
in_message s e (Err o) = Err (elim (ltb o (length (contents s e))) [ true ↦ e.start + o | false ↦ e.at ])

abbrev pub content_fit : List ℕ → Signed → Fit
content_fit s w = in_message s w.content (row_36 w.kind (contents s w.content))

-- 31: version other than 2. An explicit 2, the default, is row 36's, so a version that stands here is another one
unfoldable pub row_31 : List ℕ → Element → Fit
row_31 s body = applies_if (version_in s body).valid

-- 127: a verbose reply is wanted. An explicit verbose, the default, is row 36's, so it is wanted where terse is absent. An Adjust has no such field and is
-- never answered so
unfoldable pub has_terse : TampType → Bool
has_terse StatusQuery = true
has_terse Update = true
has_terse CommunityUpdate = true
has_terse SeqNumAdjust = false

unfoldable pub row_127 : TampType → List ℕ → Element → Fit
row_127 kind s body = applies_if (has_terse kind && not (terse_in s body).valid)

-- what the message asks whose SEQUENCE in eContent is body, as parts of it
unfoldable pub request_in : List ℕ → Signed → Element → Request
request_in s w body =
    let msg_ref = msg_ref_in s body in
    record {
      kind = w.kind;
      msgtype = w.msgtype;
      signer = w.signer;
      attributes = w.attributes;
      msgref = msg_ref;
      target = target_in s msg_ref;
      number = seq_num_in s msg_ref;
      updates = updates_in s body msg_ref;
      numbers = tamp_seq_numbers_in s body;
    }

-- what is in the wrapper, by the rows 36, 31 and 127; msgRef is sent from 127 on
unfoldable pub unwrapped : List ℕ → Signed → Result Request Refusal
unwrapped s w =
    let body = body_in s w.content in
    given_at (content_fit s w) (λ o. Err (refusal malformed w.msgtype o))
    (given_at (row_31 s body) (λ o. Err (refusal version_number_mismatch w.msgtype o))
    (given_at (row_127 w.kind s body) (λ o. Err (refusal_with other w.msgtype (msg_ref_in s body) o))
    (Ok (request_in s w body))))

unfoldable pub received_of : List ℕ → Result Signed Refusal → Result Request Refusal
received_of s (Ok w) = unwrapped s w
received_of s (Err r) = Err r

-- the rows up to 127: what depends on the message alone
unfoldable pub received : List ℕ → Result Request Refusal
received s = received_of s (envelope s)
