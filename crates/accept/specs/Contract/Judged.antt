-- What the rows 10, 16, 38, 23, 11 and 21 decide on any octets as image, by protocol's rules over what is read of them.
-- Of an image that breaks no rule it is `judgement` on its store (proofs/OfStore); one that breaks a rule was refused with 201 before.
use Rattle.accept.specs.declared.Signer.{Signer}
use Rattle.envelope.specs.declared.Refusal.{Refusal}
use Rattle.std.specs.Prelude.{ℕ, ◌<◌, List, [], map, length, get_or, drop, Result, Ok, Err}
use Rattle.der.specs.Element.{contents}
use Rattle.store.specs.Store.{Store}
use Rattle.store.specs.Records.{records_of}
use Rattle.store.specs.Contract.Parts.{hw_type_in, serial_in, communities_of, identifier_in, anchor_in}
use Rattle.store.specs.Signer.{signer}
use Rattle.message.specs.declared.Request.{Request}
use Rattle.message.specs.Rows.{received}
use Rattle.protocol.specs.Acceptance.{by_signer}
use Rattle.accept.specs.Contract.Signer.{signer_at}

-- octets read as a store: the first record is the apex
unfoldable pub store_in : List ℕ → Store
store_in image =
    let records = records_of image in
    record {
      device = record { hw_type = hw_type_in image; serial = serial_in image };
      apex = anchor_in (get_or records 0 []);
      others = map anchor_in (drop 1 records);
      communities = communities_of image;
    }

-- the signer is sought among the records, as a store always has an apex, but octets need not have a record
unfoldable pub judged_of : (image verdict s : List ℕ) → Result Request Refusal → Result (Request × ℕ) Refusal
judged_of image verdict s (Err r) = Err r
judged_of image verdict s (Ok q) =
    by_signer (store_in image) s q (signer (map identifier_in (records_of image)) verdict (contents s q.signer))

unfoldable pub judged_in : (image verdict s : List ℕ) → Result (Request × ℕ) Refusal
judged_in image verdict s = judged_of image verdict s (received s)

-- a judgement as the code hands it on: with all of the signer
unfoldable pub located : List ℕ → Result (Request × ℕ) Refusal → Result (Request × Signer) Refusal
located image (Ok (q, i)) = Ok (q, signer_at image i)
located image (Err r) = Err r

-- what is promised of the position of a record, as the signer's is
abbrev pub AtRecord : List ℕ → ℕ → Type 0 → Type 0
AtRecord image i P = i < length (records_of image) → P
