-- 01, After acceptance, Update: "They apply in order, each to what the former left, by the signer's rights at acceptance; a failed one changes nothing and the next is tried."
use Rattle.std.specs.Prelude.{ℕ, Bool, true, false, not, ◌&&◌, List, [], ◌∷◌, ◌++◌, map, length, leb}
pub use Rattle.store.specs.Steps.{unnumbered, numbered}
use Rattle.octets.specs.declared.Status.{Status}
use Rattle.octets.specs.Status.{success, not_authorized, insufficient_memory, apex_tamp_anchor, improper_ta_addition, trust_anchor_not_found}
use Rattle.octets.specs.Status.{unsupported_trust_anchor_format, improper_ta_change}
use Rattle.octets.specs.Limits.{max_anchors}
use Rattle.octets.specs.First.{given_if}
use Rattle.octets.specs.Lists.{any_of, filter}
use Rattle.octets.specs.Octets.{same}
use Rattle.der.specs.Element.{encoding}
use Rattle.rights.specs.Rights.{Rights}
use Rattle.rights.specs.Decision.{within}
use Rattle.anchor.specs.Info.{public_key, untagged, rights_of}
use Rattle.anchor.specs.Judge.{judge, check_status, passes}
use Rattle.store.specs.Store.{Anchor, public_key_of, identifier_of}
use Rattle.message.specs.declared.Entry.{Entry}
use Rattle.message.specs.declared.Entry.TheVariants as entry

-- what an entry leaves: its status, the anchors that stood before this message, and those that this message appended. The apex stays.
pub record Step : Type 0 where
  pub status : Status
  pub old : List Anchor
  pub new : List Anchor

-- the anchor that an add of t by these rights stores: as sent, until 02's E2 cuts it down to the signer's rights
abbrev pub stored_as : Rights → List ℕ → List ℕ
stored_as rights t = t

-- a failed entry, or one that has nothing to do
abbrev pub unchanged : Status → List Anchor → List Anchor → Step
unchanged status old new = record { status = status; old = old; new = new }

-- add: 34, 17 for size, 11, 0 if the same octets are stored, 20 if the public key is stored otherwise, 17 at 32 anchors, else appended
unfoldable pub added : Rights → Anchor → List Anchor → List Anchor → List ℕ → Step
added rights apex old new t =
    let stored = apex ∷ (old ++ new) in
    let u = stored_as rights t in
    given_if (not (passes (judge t))) (unchanged (check_status (judge t)) old new)
    (given_if (not (within rights (rights_of t))) (unchanged not_authorized old new)
    (given_if (any_of (λ a. same a.info u) stored) (unchanged success old new)
    (given_if (any_of (λ a. same (public_key_of a) (public_key u)) stored) (unchanged improper_ta_addition old new)
    (given_if (leb max_anchors (length stored)) (unchanged insufficient_memory old new)
    (record { status = success; old = old; new = new ++ (unnumbered u ∷ []) })))))

abbrev pub has_key : List ℕ → Anchor → Bool
has_key key a = same (public_key_of a) key

-- "later anchors move up"
abbrev pub without : List ℕ → List Anchor → List Anchor
without key l = filter (λ a. not (has_key key a)) l

-- remove: 25 no such key; 19 the apex; 11 not within the signer; else 0
unfoldable pub removed : Rights → Anchor → List Anchor → List Anchor → List ℕ → Step
removed rights apex old new key =
    given_if (not (any_of (has_key key) (apex ∷ (old ++ new)))) (unchanged trust_anchor_not_found old new)
    (given_if (has_key key apex) (unchanged apex_tamp_anchor old new)
    (given_if (any_of (λ a. has_key key a && not (within rights (rights_of a.info))) (old ++ new)) (unchanged not_authorized old new)
    (record { status = success; old = without key old; new = without key new })))

-- an entry of message s: add (34 for the certificate forms), remove, or change (35)
unfoldable pub step : List ℕ → Rights → Anchor → List Anchor → List Anchor → Entry → Step
step s rights apex old new (entry.Add e) = added rights apex old new (encoding s e)
step s rights apex old new entry.AddCertificate = unchanged unsupported_trust_anchor_format old new
step s rights apex old new (entry.Remove e) = removed rights apex old new (untagged (encoding s e))
step s rights apex old new entry.Change = unchanged improper_ta_change old new

-- what all entries leave: "a status per entry"
pub record Steps : Type 0 where
  pub statuses : List Status
  pub old : List Anchor
  pub new : List Anchor

unfoldable pub steps : List ℕ → Rights → Anchor → List Anchor → List Anchor → List Entry → Steps
steps s rights apex old new [] = record { statuses = []; old = old; new = new }
steps s rights apex old new (e ∷ es) =
    let one = step s rights apex old new e in
    let rest = steps s rights apex one.old one.new es in
    record { statuses = one.status ∷ rest.statuses; old = rest.old; new = rest.new }

-- "tampSeqNumbers in order: each sets the number of every anchor with that identifier that this message appended and that still stands"
unfoldable pub with_seq_number : List ℕ × ℕ → Anchor → Anchor
with_seq_number p a = elim (same (identifier_of a) p.0) [ true ↦ numbered p.1 a | false ↦ a ]

unfoldable pub with_seq_numbers : List (List ℕ × ℕ) → List Anchor → List Anchor
with_seq_numbers [] new = new
with_seq_numbers (p ∷ ps) new = with_seq_numbers ps (map (with_seq_number p) new)
