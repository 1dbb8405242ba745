-- 02, E3: where in the message did it break? The rule, clause by clause and with the definition that says it; then what holds of the offset of every call.
--
-- "report the offset, in the whole message, of the first octet of the element that breaks the rule"
--     der, specs/Fit: `held`; an element by its own contents: der, specs/Check: `der`, syntax, specs/Grammar: `fit` of `obeys`.
--     The rows up to 8 read the whole message (envelope, specs/Rows); of row 36 message, specs/Rows: `in_message` adds where eContent stands
-- "let every reader above pass it up"
--     der, specs/Fit: `given_at`; envelope, specs/Rows: `envelope`; message, specs/Rows: `unwrapped`, `received_of`; specs/Acceptance: `judgement_of`;
--     specs/Call: `answer_of`
-- "Elements are read front to back"
--     der, specs/Element: `elements`; der, specs/Fit: `each`; syntax, specs/Grammar: `fit`, which goes on from where an element stops
-- "each first by its header"
--     der, specs/Element: `headed`; tested first by der, specs/Check: `der`, der, specs/Fit: `each_from`, and syntax, specs/Grammar: `by_element`
-- "then its contents, then as a whole"
--     der, specs/Check: `der`; syntax, specs/Grammar: `fit` of `obeys`; envelope, specs/Attributes: `attributes_fit`
-- "the first break counts"
--     der, specs/Fit: `and_then`
-- "in 36 one of status 1's rules before any other"
--     message, specs/Rows: `row_36`
-- "An element that may not stand at its place is charged itself"
--     syntax, specs/Grammar: `fit` of `end`; unsignedAttrs: envelope, specs/Rows: `row_8`; what stands at depth 17: der, specs/Check: `der`
-- "a missing part (signed attributes too) is charged to the element that lacks it"
--     syntax, specs/Grammar: `fit` of `one` and, where a list must not be empty, of `obeys`; envelope, specs/Attributes: `attributes_fit`; where eContent has
--     no octet, message, specs/Rows: `in_message`
-- "an overrun to the element that overruns"
--     der, specs/Element: `headed`, by what it asks of `stop`; charged as every header is, above
-- "a repeat or a wrong order to the later member of its set or list, once that is read"
--     der, specs/Check: `der`, by `sorted_in`; envelope, specs/Attributes: `attributes_fit`, by `ordered` and `repeated`
-- "octets behind the message's or the eContent's element to the first of them"
--     der, specs/Check: `spans`
-- "An empty message gives 0."
--     der, specs/Check: `spans`, of envelope, specs/Rows: `row_1`
-- "carries the offset for 1, 2, 3, 4, 6, 7, 8 and 36, and 0 otherwise"
--     their rows are Fits of what is read; the others are tests, der, specs/Fit: `applies_if`, but 10 and 16: specs/Acceptance: `by_signer`; an accepted message
--     and a house refusal: specs/Call: `answer_of`, `outcome_offset`
-- "Replies don't change."
--     specs/Call: `refusal_reply`
-- "Refusals: none new."
--     octets, specs/Status: no number is new
use Rattle.std.specs.Prelude.{ℕ, ◌+◌, ◌≤◌, ◌<◌, Bool, true, false, List, [], ◌∷◌, ◌≡◌, length, eqb}
use Rattle.octets.specs.declared.Status.{Status}
use Rattle.octets.specs.Lists.{any_of}
use Rattle.der.specs.Element.{root, contents}
use Rattle.der.specs.Identifier.{IdentifierOctet}
use Rattle.envelope.specs.Parts.{e_content}
use Rattle.protocol.specs.Call.{call, outcome_number, outcome_offset}

-- "for 1, 2, 3, 4, 6, 7, 8 and 36"
unfoldable pub carries_offset : Status → Bool
carries_offset status = any_of (eqb status.number) (1 ∷ 2 ∷ 3 ∷ 4 ∷ 6 ∷ 7 ∷ 8 ∷ 36 ∷ [])

-- the octets of eContent
abbrev pub content : List ℕ → List ℕ
content s = contents s (e_content s)

-- What stands at the offset o in the message s, for the number of a status. (Which element is charged, the rule above says; 0 would do here for 1 to 8 in every
-- message that is not empty.)
pub data Points (s : List ℕ) (number o : ℕ) : Type 0 where
  -- up to 8: the identifier octet of the message's element, or of one in it
  at_element : number ≤ 8 → o < length s → IdentifierOctet s o (root s) → Points s number o
  -- .. the first octet behind it
  behind_message : number ≡ 1 → (root s).valid ≡ true → o < length s → o ≡ (root s).stop → Points s number o
  -- .. nothing: the message is empty
  at_nothing : number ≡ 1 → length s ≡ 0 → o ≡ 0 → Points s number o
  -- 36: the identifier octet of eContent's element, or of one in it
  in_content : number ≡ 36 → (p : ℕ) → p < length (content s) → IdentifierOctet (content s) p (root (content s)) → o ≡ (e_content s).start + p → Points s number o
  -- .. the first octet behind it
  behind_content : number ≡ 36 → (root (content s)).valid ≡ true → (root (content s)).stop < length (content s)
      → o ≡ (e_content s).start + (root (content s)).stop → Points s number o
  -- .. eContent's own identifier octet, where it has no contents
  at_content : number ≡ 36 → length (content s) ≡ 0 → o < length s → IdentifierOctet s o (root s) → o ≡ (e_content s).at → Points s number o

-- the offset that comes with a status: it is at most the message's length, and below it where there is a message; it is 0 where the status carries none, and
-- where it carries one it points
pub record OffsetRule (s : List ℕ) (status : Status) (o : ℕ) : Type 0 where
  pub within : o ≤ length s
  pub below : 0 < length s → o < length s
  pub otherwise : carries_offset status ≡ false → o ≡ 0
  pub points : carries_offset status ≡ true → Points s status.number o

-- of every call
abbrev pub Offsets : Type 0
Offsets =
    (message image verdict : List ℕ) (reply_lent next_lent : ℕ) →
    let outcome = call message image verdict reply_lent next_lent in
    OffsetRule message (outcome_number outcome) (outcome_offset outcome)
