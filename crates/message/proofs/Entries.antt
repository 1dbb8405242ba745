-- 01, After acceptance, Update, add: a TrustAnchorInfo of a message that passed row 36 is by itself DER of RFC 5914's syntax.
-- It stands at depth 5 of the message, so 12 levels are left to it there, and by itself it may have 16.
use Rattle.std.specs.Prelude.{Ok}
use Prim.Native.Nat.{ℕ}
use native.Mathlib.Omega.{arith}
use mathlib.Core.Bool.{true}
use mathlib.Core.List.{List, ◌∷◌}
use mathlib.Core.Path.{◌≡◌, refl, ap, ◌∙◌}
use lib.ListN.{length}
use lib.Dec.{eqb}
use borrow.Author.Tests.{eqb-true}
use Rattle.octets.specs.Limits.{max_depth}
use Rattle.octets.proofs.Lists.{by_test}
use Rattle.der.specs.declared.Element.{Element}
use Rattle.der.specs.Element.{element_at, elements, inside, encoding, field, constructed}
use Rattle.der.specs.Fit.{and_then, kept}
use Rattle.der.specs.Check.{der, spans}
use Rattle.der.proofs.Fits.{then_fits}
use Rattle.der.proofs.Elements.{valid_within, elements_turn}
use Rattle.syntax.specs.Grammar.{end, obeys, many, required, not_empty, fit}
use Rattle.syntax.specs.Asn.{TrustAnchorUpdate, TrustAnchorChoice, TrustAnchorInfo, StoredTrustAnchorInfo}
use Rattle.syntax.specs.declared.TampType.TheVariants.{Update}
use Rattle.syntax.proofs.Each.{Every, every_weaken, every_both, every_map}
use Rattle.syntax.proofs.Match.{one_fits, obeys_fits, many_fits}
use Rattle.syntax.proofs.Window.{Own, own, Member, members, tagged-member}
use Rattle.syntax.proofs.Fields.{lacks, only_field, field_in, alternative, Found, placed, as_only, choice_fits}
use Rattle.syntax.proofs.Depth.{inside-der, deeper_to}
use Rattle.syntax.proofs.Moved.{fits_alone, spans-alone}
use Rattle.message.specs.declared.Entry.{Entry}
use Rattle.message.specs.declared.Entry.TheVariants as entry
use Rattle.message.specs.Fields.{msg_ref_in, updates_in, entry_of, entries_in}
use Rattle.message.proofs.Parts.{Body, updates_found}

-- octets by themselves are DER and a TrustAnchorInfo: what the store asks of an anchor's octets
abbrev pub Conforming : List ℕ → Type 0
Conforming t = kept (and_then (spans max_depth t 0 (length t) 0) (fit StoredTrustAnchorInfo t 0 (length t) 0)) ≡ true

-- the TrustAnchorInfo that an entry adds, if it adds one
abbrev pub Adding : List ℕ → Entry → Type 0
Adding s (entry.Add e) = Conforming (encoding s e)
Adding s entry.AddCertificate = Unit {0}
Adding s (entry.Remove e) = Unit {0}
Adding s entry.Change = Unit {0}

conforming : (s : List ℕ) (at stop : ℕ) (e : Element) → Found 0x30 TrustAnchorInfo s at stop e → der 12 s e ≡ Ok tt → Conforming (encoding s e)
conforming s at stop e f h =
    ap kept
    (then_fits _ (spans-alone s e f.own max_depth (deeper_to 12 max_depth s e (omega arith) h))
    ∙ fits_alone s e f.own StoredTrustAnchorInfo 0 (as_only 0x30 TrustAnchorInfo s at stop 0 e f))

-- an entry, with 14 levels left: add has a TrustAnchorChoice in it, which has 13, and taInfo a TrustAnchorInfo
entry-adding : (s : List ℕ) (outer : ℕ) (e : Element) → Own s e → fit TrustAnchorUpdate s e.at e.stop outer ≡ Ok tt → der 14 s e ≡ Ok tt
    → Adding s (entry_of s e)
unfolding entry_of alternative field_in lacks only_field
entry-adding s outer e o h d =
    let choice = element_at s e.start e.stop in
    by_test (eqb e.tag 0xA1)
    (λ t.
    by_test (eqb choice.tag 0xA2)
    (λ u.
    let q = eqb-true e.tag 0xA1 t in
    let f = one_fits s e.start e.stop e.at refl TrustAnchorChoice end (choice_fits TrustAnchorUpdate s outer 0xA1 e o q h) in
    let w = valid_within s e.start e.stop refl f.valid in
    let own = own s e.start e.stop refl f.valid in
    let k = choice_fits TrustAnchorChoice s e.at 0xA2 choice own (eqb-true choice.tag 0xA2 u) (rw w.here f.alone) in
    let p = placed 0x30 s (required 0x30 TrustAnchorInfo end) choice.start choice.stop choice.at k in
    let members : Every (λ m. der 13 s m ≡ Ok tt) (choice ∷ elements s choice.stop e.stop) =
    rw (elements_turn s e.start e.stop refl f.valid) at (inside-der 13 s e d (rw q))
    in
    let c : constructed choice.tag ≡ true = rw (eqb-true choice.tag 0xA2 u) in
    rw (t, u, entry_of)
    (conforming s choice.start choice.stop (field 0x30 s choice) p.0
    (tagged-member (λ m. der 12 s m ≡ Ok tt) 0x30 (inside s choice) (inside-der 12 s choice members.0 c) p.0.own.valid)))
    (λ u. rw (t, u, entry_of) tt))
    (λ t. by_test (eqb e.tag 0xA2) (λ u. rw (t, u, entry_of) tt) (λ u. rw (t, u, entry_of) tt))

pub entries_adding : (s : List ℕ) (body : Element) → Body Update s body → Every (Adding s) (entries_in s (updates_in s body (msg_ref_in s body)))
unfolding entries_in
entries_adding s body b =
    let updates = updates_in s body (msg_ref_in s body) in
    let u = updates_found Update s body (obeys not_empty (many TrustAnchorUpdate)) _ refl b in
    let outer = updates.at in
    let P : Element → Type 0 = Member s updates.start updates.stop in
    let Q : Element → Type 0 = λ m. (m.valid ≡ true) × (fit TrustAnchorUpdate s m.at m.stop outer ≡ Ok tt) in
    let R : Element → Type 0 = λ m. der 14 s m ≡ Ok tt in
    let all = inside s updates in
    every_map (entry_of s) (Adding s) all
    (every_weaken (λ m. (P m × Q m) × R m) (λ m. Adding s (entry_of s m))
    (λ m k. entry-adding s outer m (k.0.0.own k.0.1.0) k.0.1.1 k.1)
    all
    (every_both (λ m. P m × Q m) R all
    (every_both P Q all (members s updates.start updates.stop)
    (many_fits s updates.start updates.stop outer TrustAnchorUpdate
    (obeys_fits s updates.start updates.stop outer not_empty (many TrustAnchorUpdate) u.0.fits).0))
    (inside-der 14 s updates u.1 (rw u.0.tag))))
