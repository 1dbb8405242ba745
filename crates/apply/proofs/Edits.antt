-- The edits of a scratch image (crate edit) make the steps of the rule book (protocol, specs/Contract/Update and specs/Contract/Effect).
use Rattle.std.specs.Prelude.{Some}
use Prim.Native.Nat.{ℕ, zero, suc, ◌<◌}
use native.Mathlib.Omega.{arith}
use mathlib.Core.Bool.{true}
use mathlib.Core.List.{List, [], ◌∷◌, ◌++◌}
use mathlib.Core.Path.{◌≡◌, refl, sym, ap, ◌∙◌}
use lib.ListN.{length, get_or, take, drop}
use lib.Seq.{split_at, length-take-le}
use Rattle.octets.specs.Octets.{placed}
use Rattle.store.specs.Store.{Anchor, Store, anchors}
use Rattle.store.specs.Image.{encode_name, encode_number, encode_anchor, encode_section, encode, well_formed}
use Rattle.store.specs.Contract.Parts.{place_of}
use Rattle.store.proofs.Formats.{write_device}
use Rattle.store.proofs.Standing.{up_to, place_is}
use Rattle.edit.proofs.Stores.{number-placed}
use Rattle.protocol.specs.Update.{numbered}
use Rattle.protocol.specs.Effect.{number_set, with_number}

pub number_set_at : (n : ℕ) (x y : List Anchor) (a : Anchor) → number_set (length x) n (x ++ (a ∷ y)) ≡ x ++ (numbered n a ∷ y)
unfolding number_set
number_set_at n [] y a = refl
number_set_at n (b ∷ x) y a = ap (λ (r : List Anchor). b ∷ r) (number_set_at n x y a)

number_set_split : (i n : ℕ) (l : List Anchor) (o : Anchor) → i < length l → number_set i n l ≡ take i l ++ (numbered n (get_or l i o) ∷ drop (suc i) l)
number_set_split i n l o h =
    let t = take i l in
    ap (λ (k : ℕ). number_set k n l) (sym (length-take-le i l (omega arith)))
    ∙ ap (number_set (length t) n) (split_at l i o h)
    ∙ number_set_at n t (drop (suc i) l) (get_or l i o)

numbered-image : (σ : Store) (i n : ℕ)
    → write_device σ.device ++ (encode_section encode_anchor (number_set i n (anchors σ)) ++ encode_section encode_name σ.communities) ≡ encode (with_number i n σ)
unfolding encode with_number number_set
numbered-image σ zero n = refl
numbered-image σ (suc i) n = refl

-- "its number becomes the signer's"
pub set-number_law : (σ : Store) → well_formed σ ≡ true → (i n : ℕ) → i < length (anchors σ)
    → placed (encode σ) (place_of (encode σ) i) (encode_number (Some n)) ≡ encode (with_number i n σ)
unfolding encode
set-number_law σ g i n h =
    let l = anchors σ in
    let x = take i l in
    let y = drop (suc i) l in
    let a = get_or l i σ.apex in
    let dev = write_device σ.device in
    let rest = encode_section encode_name σ.communities in
    let e = split_at l i σ.apex h in
    let c : length x ≡ i = length-take-le i l (omega arith) in
    ap (λ (p : ℕ). placed (encode σ) p (encode_number (Some n))) (ap (place_of (encode σ)) (sym c) ∙ place_is σ g x (a ∷ y) e)
    ∙ ap (λ (r : List Anchor). placed (dev ++ (encode_section encode_anchor r ++ rest)) (up_to σ x) (encode_number (Some n))) e
    ∙ number-placed dev rest x y a n
    ∙ ap (λ (r : List Anchor). dev ++ (encode_section encode_anchor r ++ rest)) (sym (number_set_split i n l σ.apex h))
    ∙ numbered-image σ i n
