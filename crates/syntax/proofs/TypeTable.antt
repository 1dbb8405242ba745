-- 01, "eContentType isn't one of the four": the constant table of the TAMP types, and one rule that all of its rows keep, by one test over them.
use Rattle.std.specs.Prelude.{Option, Some, None}
use Rattle.std.specs.List.{find}
use Rattle.std.specs.Option.{option_map}
use Prim.Native.Nat.{ℕ, ◌<◌}
use native.Mathlib.Omega.{arith}
use mathlib.Core.Bool.{Bool, true, false, not, ◌&&◌, ◌||◌, and-eq-true_iff, true≢false}
use mathlib.Core.List.{List, [], ◌∷◌, map}
use mathlib.Core.Logic.{◌↔◌}
use mathlib.Core.Path.{◌≡◌, refl, sym, ap, ◌∙◌}
use lib.Dec.{eqb}
use borrow.Author.Tests.{eqb-true}
use Rattle.octets.specs.Octets.{same}
use Rattle.octets.specs.Number.{digits}
use Rattle.octets.proofs.Lists.{by_test, same→≡, same_refl}
use Rattle.der.specs.Oid.{arc, arcs, oid}
use Rattle.syntax.specs.declared.TampType.{TampType}
use Rattle.syntax.specs.declared.TampType.TheVariants.{StatusQuery, Update, CommunityUpdate, SeqNumAdjust}
use Rattle.syntax.specs.Types.{type_oid, syntax_of, tamp_types, row_of, recognised}
use Rattle.syntax.specs.Contract.TypeTable.{type_table, type_rows, type_octets, type_at, typed_rows}
use Rattle.syntax.specs.Contract.Table.{message_row}
use Rattle.syntax.specs.Contract.Rows.{grammar_of}
use Rattle.syntax.proofs.Rows.{every_below, every_below_lem}
use Rattle.syntax.proofs.Ties.{message_is}

tamp≢unknown : {t : TampType} → Some t ≡ None → ⊥
tamp≢unknown e = let z : ◌≡◌ {A = ℕ} 0 1 = cc in omega arith

tamp_same : {t u : TampType} → Some t ≡ Some u → t ≡ u
tamp_same e = cc

-- the test of a row: its octets are its type's, and no other row has them
alone : ℕ → ℕ → Bool
alone k j = eqb j k || not (same (type_octets j) (type_octets k))

row_right : ℕ → Bool
row_right k = same (type_octets k) (type_oid (type_at k)) && every_below (alone k) type_rows

right : (k : ℕ) → k < type_rows → (same (type_octets k) (type_oid (type_at k)) ≡ true) × (every_below (alone k) type_rows ≡ true)
unfolding every_below row_right alone same type_table type_oid oid arc arcs digits
right k l =
    (and-eq-true_iff (same (type_octets k) (type_oid (type_at k))) (every_below (alone k) type_rows)).0 (every_below_lem row_right type_rows refl k l)

pub type_octets_lem : (k : ℕ) → k < type_rows → type_octets k ≡ type_oid (type_at k)
type_octets_lem k l = same→≡ (type_octets k) (type_oid (type_at k)) (right k l).0

differ : (j k : ℕ) → j < type_rows → k < type_rows → type_octets j ≡ type_octets k → j ≡ k
unfolding alone
differ j k m l e =
    by_test (eqb j k)
    (λ h. eqb-true j k h)
    (λ h.
    let s : same (type_octets j) (type_octets k) ≡ true = rw e (same_refl (type_octets k)) in
    absurd (true≢false (sym (rw (h, s) at (every_below_lem (alone k) type_rows (right k l).1 j m)))))

-- recognising, row by row

module _ (o : List ℕ) (t : TampType) (ts : List TampType) where
  row_here : same o (type_oid t) ≡ true → row_of (t ∷ ts) o ≡ Some t
  unfolding row_of
  row_here e = rw (e, row_of)

  row_next : same o (type_oid t) ≡ false → row_of (t ∷ ts) o ≡ row_of ts o
  unfolding row_of
  row_next e = rw (e, row_of)

-- a search of the types with their octets
searched : List (List ℕ × TampType) → List ℕ → Option TampType
searched rows o = option_map (λ row. row.1) (find (λ row. same o row.0) rows)

searched_row : (ts : List TampType) (o : List ℕ) → searched (map (λ t. (type_oid t, t)) ts) o ≡ row_of ts o
unfolding searched row_of
searched_row [] o = refl
searched_row (t ∷ ts) o =
    by_test (same o (type_oid t))
    (λ h. rw (h, row_of))
    (λ h. rw (h, row_of) (searched_row ts o))

typed_rows_lem : typed_rows ≡ map (λ t. (type_oid t, t)) tamp_types
typed_rows_lem =
    rw (type_octets_lem 0 (omega arith), type_octets_lem 1 (omega arith), type_octets_lem 2 (omega arith), type_octets_lem 3 (omega arith))

-- what the search of the table gives
pub recognised_by : {rows : List (List ℕ × TampType)} {r : Option TampType} (o : List ℕ) → rows ≡ typed_rows → r ≡ option_map (λ row. row.1) (find (λ row. same o row.0) rows)
    → r ≡ recognised o
unfolding searched recognised
recognised_by o q e = e ∙ ap (λ x. searched x o) (q ∙ typed_rows_lem) ∙ searched_row tamp_types o

-- The rule.

-- a content type that is recognised has the octets of its type
found_octets : (ts : List TampType) (o : List ℕ) (t : TampType) → row_of ts o ≡ Some t → o ≡ type_oid t
unfolding row_of
found_octets [] o t e = absurd (tamp≢unknown (sym e))
found_octets (u ∷ ts) o t e =
    by_test (same o (type_oid u))
    (λ h.
    let q : u ≡ t = tamp_same (sym (row_here o u ts h) ∙ e) in
    rw (← q) (same→≡ o (type_oid u) h))
    (λ h. found_octets ts o t (sym (row_next o u ts h) ∙ e))

found_type : (t : TampType) → recognised (type_oid t) ≡ Some t
unfolding recognised row_of same type_oid oid arc arcs digits
found_type StatusQuery = refl
found_type Update = refl
found_type CommunityUpdate = refl
found_type SeqNumAdjust = refl

-- Row k of the table: its octets are the OID that RFC 5934 gives to its type; no other row has them; a content type is recognised as that type exactly when it
-- equals them; and the row of the grammar that the matcher takes for the type is the message's syntax.
pub record TypeRow (k : ℕ) : Type 0 where
  pub given : type_octets k ≡ type_oid (type_at k)
  pub alone : (j : ℕ) → j < type_rows → type_octets j ≡ type_octets k → j ≡ k
  pub found : (o : List ℕ) → (recognised o ≡ Some (type_at k)) ↔ (o ≡ type_octets k)
  pub syntax : (o : List ℕ) → grammar_of o (message_row (type_at k)) ≡ syntax_of (type_at k)

pub type_row : (k : ℕ) → k < type_rows → TypeRow k
unfolding recognised
type_row k l =
    let q = type_octets_lem k l in
    record {
      given = q;
      alone = λ j m e. differ j k m l e;
      found = λ o. (λ e. found_octets tamp_types o (type_at k) e ∙ sym q, λ e. rw (e, q) (found_type (type_at k)));
      syntax = λ o. message_is o (type_at k);
    }

-- the row of a type
row_of_type : TampType → ℕ
row_of_type StatusQuery = 0
row_of_type Update = 1
row_of_type CommunityUpdate = 2
row_of_type SeqNumAdjust = 3

type_has_row : (t : TampType) → (row_of_type t < type_rows) × (type_at (row_of_type t) ≡ t)
unfolding row_of_type
type_has_row StatusQuery = (omega arith, refl)
type_has_row Update = (omega arith, refl)
type_has_row CommunityUpdate = (omega arith, refl)
type_has_row SeqNumAdjust = (omega arith, refl)

-- a content type is one of the four exactly when it equals a row's octets
pub one_of_four : (o : List ℕ) → ((t : TampType) × (recognised o ≡ Some t)) ↔ ((k : ℕ) × (k < type_rows) × (o ≡ type_octets k))
one_of_four o = (
  λ h.
      let r = type_has_row h.0 in
      (row_of_type h.0, r.0, ((type_row (row_of_type h.0) r.0).found o).0 (h.1 ∙ ap Some (sym r.1))),
  λ h. (type_at h.0, ((type_row h.0 h.1).found o).1 h.2),
)
