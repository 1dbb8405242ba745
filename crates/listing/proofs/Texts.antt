-- The texts that are written (specs/Contract/Texts): how each goes on at a turn, and that they are those of the rule book (01, Checked examples).
use Rattle.std.specs.Prelude.{Option, Some, None}
use Prim.Native.Nat.{ℕ, zero, suc, ◌+◌, ◌-◌, ◌/◌, ◌%◌, ◌≤◌, ◌<◌}
use native.Mathlib.Numerals.{add-one}
use native.Mathlib.Omega.{arith}
use mathlib.Core.Bool.{Bool, true, false, true≢false}
use mathlib.Core.List.{List, [], ◌∷◌, ◌++◌, map, flat_map, append_assoc, map-append}
use mathlib.Core.Path.{◌≡◌, refl, sym, ap, ◌∙◌}
use lib.ListN.{length, get_or, drop, length-append, drop_of_length-le}
use lib.Seq.{drop-cons}
use borrow.Author.Tests.{eq-eqb, ne_eqb, lt-ltb, le-ltb}
use Rattle.octets.specs.Ascii.{ascii, codes_from}
use Rattle.octets.specs.Number.{digits}
use Rattle.octets.proofs.Number.{digits-none, digits_turn}
use Rattle.octets.specs.Octets.{placed}
use Rattle.octets.proofs.Placed.{length-placed}
use Rattle.anchor.specs.declared.AnchorRole.{AnchorRole}
use Rattle.anchor.specs.declared.AnchorRole.TheVariants.{Apex, Management, Identity}
use Rattle.anchor.specs.Role.{role_of}
use Rattle.store.specs.Store.{Store}
use Rattle.store.specs.Image.{decode}
use Rattle.store.specs.Contract.Parts.{hw_type_in, serial_in, anchor_count, first_record, info_in, identifier_in, number_in, anchor_in}
use Rattle.store.specs.Contract.Parts.{community_count, community_octets, communities_of}
use Rattle.store.specs.Listing.{hex_digit, hex, decimal, blank, newline, role_text, anchor_line, anchor_lines, count_line, store_text, listing_of, listing}
use Rattle.store.proofs.Walk.{records_of_lem}
use Rattle.store.proofs.Parts.{parts, count_of_anchors, count_of_communities}
use Rattle.image.specs.Contract.Check.{is_given, is_image}
use Rattle.listing.specs.Contract.Texts.{hex_line, decimal_digits, decimal_line, number_line, role_field, key_line, record_line, record_lines, name_lines}
use Rattle.listing.specs.Contract.Texts.{device_line, anchors_text, communities_text, image_text}

-- what a call says of a part that it writes, but for the size; and what is said of a whole, with it
pub part : {A B C : Type 0} → A × B × C → B × C
part k = (k.1, k.2)

pub whole : (d : List ℕ) (at : ℕ) (s : List ℕ) {m : ℕ} {r : List ℕ} → at + length s ≤ length d → (m ≡ at + length s) × (r ≡ placed d at s)
    → (length r ≡ length d) × (m ≡ at + length s) × (r ≡ placed d at s)
whole d at s h k = (ap length k.1 ∙ length-placed d at s h, k.0, k.1)

-- hex

pub digit_low : (n : ℕ) → n < 10 → 48 + n ≡ hex_digit n
unfolding hex_digit
digit_low n h = rw (lt-ltb n 10 h, hex_digit)

pub digit_high : (n : ℕ) → 10 ≤ n → 55 + n ≡ hex_digit n
unfolding hex_digit
digit_high n h = rw (le-ltb n 10 h, hex_digit)

-- the octet at place i, and those after it
pub hex_turn : (s : List ℕ) (i : ℕ) {a b : ℕ} → i < length s → a ≡ hex_digit (get_or s i 0 / 16) → b ≡ hex_digit (get_or s i 0 % 16)
    → hex (drop i s) ≡ (a ∷ []) ++ ((b ∷ []) ++ hex (drop (i + 1) s))
unfolding hex
hex_turn s i h e f = rw (e, f, add-one i) (ap hex (drop-cons s i 0 h))

pub hex_end : (s : List ℕ) (i : ℕ) → length s ≤ i → hex (drop i s) ≡ []
unfolding hex
hex_end s i h = ap hex (drop_of_length-le s {i = i} h)

-- decimal

pub digits_stop : (k n : ℕ) → k ≡ 0 → decimal_digits k n ≡ []
unfolding decimal_digits digits
digits_stop k n e = rw e

pub digits-zero : (k n : ℕ) → n ≡ 0 → decimal_digits k n ≡ []
unfolding decimal_digits digits
digits-zero zero n e = refl
digits-zero (suc k) n e = ap (map (λ (d : ℕ). 48 + d)) (digits-none 10 k n e)

pub digits_on : (k n : ℕ) → (k ≡ 0 → ⊥) → (n ≡ 0 → ⊥) → decimal_digits k n ≡ decimal_digits (k - 1) (n / 10) ++ ((48 + n % 10) ∷ [])
unfolding decimal_digits
digits_on k n u v =
    let e : k ≡ suc (k - 1) = omega arith in
    ap (λ (j : ℕ). map (λ (d : ℕ). 48 + d) (digits 10 j n)) e
    ∙ ap (map (λ (d : ℕ). 48 + d)) (digits_turn 10 (k - 1) n v)
    ∙ map-append (λ (d : ℕ). 48 + d) (digits 10 (k - 1) (n / 10)) (n % 10 ∷ [])

pub decimal-zero : (n : ℕ) → n ≡ 0 → decimal n ≡ 48 ∷ []
unfolding decimal
decimal-zero n e = rw (eq-eqb n 0 e, decimal)

pub decimal_digits_lem : (n : ℕ) → (n ≡ 0 → ⊥) → decimal n ≡ decimal_digits 20 n
unfolding decimal decimal_digits
decimal_digits_lem n e = rw (ne_eqb n 0 e, decimal)

pub digits-length : (k n : ℕ) → (k ≡ 0 → ⊥) → (n ≡ 0 → ⊥) → length (decimal_digits k n) ≡ length (decimal_digits (k - 1) (n / 10)) + 1
digits-length k n u v = ap length (digits_on k n u v) ∙ length-append (decimal_digits (k - 1) (n / 10)) ((48 + n % 10) ∷ [])

-- lines: what stands in them as it is found, and how long they are

pub hex_line-length : (s : List ℕ) → length (hex_line s) ≡ length (hex s) + 1
unfolding hex_line
hex_line-length s = length-append (hex s) (newline ∷ [])

pub decimal_line-length : (n : ℕ) → length (decimal_line n) ≡ length (decimal n) + 1
unfolding decimal_line
decimal_line-length n = length-append (decimal n) (newline ∷ [])

pub count-length : (word : List ℕ) (n : ℕ) → length (count_line word n) ≡ length word + length (decimal_line n)
unfolding count_line decimal_line
count-length word n = length-append word (decimal_line n)

module _ (r : List ℕ) {id : List ℕ} {n : Option ℕ} (p : id ≡ identifier_in r) (q : n ≡ number_in r) where
  pub key_is : key_line r ≡ hex id ++ ((blank ∷ []) ++ number_line n)
  unfolding key_line
  key_is = rw (p, q)

  pub key-length : length (key_line r) ≡ length (hex id) + (1 + length (number_line n))
  key-length = ap length key_is ∙ length-append (hex id) (blank ∷ number_line n) ∙ omega arith

role_is : (role : AnchorRole) (rest : List ℕ) → role_text role ++ (blank ∷ rest) ≡ role_field role ++ rest
unfolding role_text role_field ascii codes_from
role_is Apex rest = refl
role_is Management rest = refl
role_is Identity rest = refl

module _ (i : ℕ) (r : List ℕ) {info : List ℕ} {role : AnchorRole} (p : info ≡ info_in r) (q : role ≡ role_of i info) where
  pub line_is : record_line i r ≡ decimal i ++ ((blank ∷ []) ++ (role_field role ++ key_line r))
  unfolding record_line anchor_line key_line number_line
  line_is = rw (q, p) (ap (λ (l : List ℕ). decimal i ++ (blank ∷ l)) (role_is (role_of i (info_in r)) (key_line r)))

  pub line_length : length (record_line i r) ≡ length (decimal i) + (1 + (length (role_field role) + length (key_line r)))
  line_length = ap length line_is ∙ simp length-append (omega arith)

-- the lines of the records left, of which the first has the position i, and of the names left
pub lines_turn : {l rest : List (List ℕ)} {r : List ℕ} (i : ℕ) {m k : ℕ} → l ≡ r ∷ rest → m ≡ i → k ≡ i + 1
    → anchor_lines i (map anchor_in l) ≡ record_line m r ++ anchor_lines k (map anchor_in rest)
unfolding record_line anchor_lines
lines_turn i e f g = ap (λ l. anchor_lines i (map anchor_in l)) e ∙ rw (f, g, add-one i)

pub lines_end : (i : ℕ) {l : List (List ℕ)} → l ≡ [] → anchor_lines i (map anchor_in l) ≡ []
unfolding anchor_lines
lines_end i e = rw e

pub names_turn : {l rest : List (List ℕ)} {x : List ℕ} → l ≡ x ∷ rest → flat_map hex_line l ≡ hex_line x ++ flat_map hex_line rest
unfolding flat_map
names_turn e = ap (flat_map hex_line) e

pub names_end : {l : List (List ℕ)} → l ≡ [] → flat_map hex_line l ≡ []
unfolding flat_map
names_end e = ap (flat_map hex_line) e

-- the sections

module _ (image : List ℕ) {hw_type serial : List ℕ} (p : hw_type ≡ hw_type_in image) (q : serial ≡ serial_in image) where
  pub device_is : device_line image ≡ ascii "device " ++ (hex hw_type ++ ((blank ∷ []) ++ hex_line serial))
  unfolding device_line
  device_is = rw (p, q)

  pub device_length : length (device_line image) ≡ 7 + (length (hex hw_type) + (1 + length (hex_line serial)))
  unfolding ascii codes_from
  device_length = ap length device_is ∙ simp length-append (omega arith)

module _ (image : List ℕ) {n p : ℕ} (u : n ≡ anchor_count image) (v : p ≡ first_record image) where
  pub anchors_are : anchors_text image ≡ count_line (ascii "anchors ") n ++ record_lines 0 n (drop p image)
  unfolding anchors_text
  anchors_are = rw (u, v)

  pub anchors-length : length (anchors_text image) ≡ length (count_line (ascii "anchors ") n) + length (record_lines 0 n (drop p image))
  anchors-length = ap length anchors_are ∙ length-append (count_line (ascii "anchors ") n) (record_lines 0 n (drop p image))

module _ (image : List ℕ) {n : ℕ} {names : List ℕ} (u : n ≡ community_count image) (v : names ≡ community_octets image) where
  pub communities_are : communities_text image ≡ count_line (ascii "communities ") n ++ name_lines n names
  unfolding communities_text
  communities_are = rw (u, v)

  pub communities-length : length (communities_text image) ≡ length (count_line (ascii "communities ") n) + length (name_lines n names)
  communities-length = ap length communities_are ∙ length-append (count_line (ascii "communities ") n) (name_lines n names)

pub image-length : (image : List ℕ) → length (image_text image) ≡ length (device_line image) + (length (anchors_text image) + length (communities_text image))
unfolding image_text
image-length image = simp length-append

-- an image that breaks no rule, and its store
text_is : (image : List ℕ) (σ : Store) → decode image ≡ Some σ → image_text image ≡ store_text σ
unfolding image_text device_line anchors_text communities_text store_text hex_line record_lines name_lines communities_of
text_is image σ e =
    let p = parts image σ e in
    rw (p.hw_type, p.serial, ← records_of_lem image, p.anchors_are, count_of_anchors image σ e, p.communities, count_of_communities image σ e)
    (simp append_assoc)

pub valid_listing : (image : List ℕ) {b : Bool} → b ≡ is_image image → b ≡ true → image_text image ≡ listing image
unfolding listing listing_of
valid_listing image {b} p h = go (decode image) refl
  where
    go : (o : Option Store) → decode image ≡ o → image_text image ≡ listing_of o
    go None e = absurd (true≢false (sym h ∙ p ∙ ap is_given e))
    go (Some σ) e = text_is image σ e

pub bad_listing : (image : List ℕ) {b : Bool} → b ≡ is_image image → b ≡ false → ascii "refused 201\n" ≡ listing image
unfolding listing listing_of
bad_listing image {b} p h = go (decode image) refl
  where
    go : (o : Option Store) → decode image ≡ o → ascii "refused 201\n" ≡ listing_of o
    go None e = refl
    go (Some σ) e = absurd (true≢false (sym (p ∙ ap is_given e) ∙ h))
