-- 02, E3: what row 36 charges: eContent, an identifier octet of its element, or the first octet behind that.
use Rattle.std.specs.Prelude.{Ok, Err}
use Rattle.der.specs.Fit.{Fit}
use Prim.Native.Nat.{ℕ, ◌+◌, ◌<◌}
use native.Mathlib.Omega.{arith}
use mathlib.Core.Bool.{true, false}
use mathlib.Core.List.{List}
use mathlib.Core.Path.{◌≡◌, refl, sym, ap, ◌∙◌}
use lib.ListN.{length}
use lib.Dec.{ltb}
use borrow.Author.Tests.{lt-ltb, le-ltb}
use Rattle.octets.specs.Limits.{max_depth}
use Rattle.der.specs.declared.Element.{Element}
use Rattle.der.specs.Element.{root, contents}
use Rattle.der.specs.Check.{spans}
use Rattle.der.specs.Identifier.{IdentifierOctet}
use Rattle.der.proofs.Bools.{on_true, on_false}
use Rattle.der.proofs.Fits.{breaks≢fits}
use Rattle.der.proofs.Charged.{then_charges}
use Rattle.syntax.specs.declared.TampType.{TampType}
use Rattle.syntax.specs.declared.TampType.TheVariants.{StatusQuery, Update, CommunityUpdate, SeqNumAdjust}
use Rattle.syntax.specs.Grammar.{fit}
use Rattle.syntax.specs.Types.{syntax_of}
use Rattle.syntax.proofs.Charged.{leaf, opens_constructed, one_charges, one_octet, syntax_charges}
use Rattle.message.specs.Rows.{row_36, in_message}

message_opens : (kind : TampType) → opens_constructed (syntax_of kind) ≡ true
unfolding syntax_of opens_constructed leaf
message_opens StatusQuery = refl
message_opens Update = refl
message_opens CommunityUpdate = refl
message_opens SeqNumAdjust = refl

-- in eContent by itself
content_charges : {X : Type 0} (kind : TampType) (c : List ℕ) {p : ℕ} → (length c ≡ 0 → p ≡ 0 → X) → (p < length c → IdentifierOctet c p (root c) → X)
    → ((root c).valid ≡ true → p < length c → p ≡ (root c).stop → X) → row_36 kind c ≡ Err p → X
unfolding row_36
content_charges kind c f g h =
    then_charges (spans max_depth c 0 (length c) 0) (fit (syntax_of kind) c 0 (length c) 0)
    (one_charges max_depth c f g h)
    (λ one k. let i = syntax_charges max_depth c one (syntax_of kind) (message_opens kind) k in g (one_octet max_depth c one i) i)

-- .. and in the message
module _ {X : Type 0} (s : List ℕ) (e : Element) {o : ℕ} where
  placed_in : (f : Fit) → ((p : ℕ) → f ≡ Err p → elim (ltb p (length (contents s e))) [ true ↦ e.start + p | false ↦ e.at ] ≡ o → X) → in_message s e f ≡ Err o → X
  unfolding in_message
  placed_in (Ok _) k h = absurd (breaks≢fits (sym h))
  placed_in (Err p) k h = k p refl (cc)

  pub row_36_charges : (kind : TampType) → let c = contents s e in
      (length c ≡ 0 → o ≡ e.at → X) → ((p : ℕ) → p < length c → IdentifierOctet c p (root c) → o ≡ e.start + p → X)
      → ((root c).valid ≡ true → (root c).stop < length c → o ≡ e.start + (root c).stop → X) → in_message s e (row_36 kind c) ≡ Err o → X
  row_36_charges kind f g h =
      let c = contents s e in
      let there : (p : ℕ) → p < length c → elim (ltb p (length c)) [ true ↦ e.start + p | false ↦ e.at ] ≡ o → o ≡ e.start + p =
      λ p l q. sym q ∙ on_true (ltb p (length c)) (e.start + p) e.at (lt-ltb p (length c) l)
      in
      placed_in (row_36 kind c)
      (λ p b q.
      content_charges kind c
      (λ n z. f n (sym q ∙ on_false (ltb p (length c)) (e.start + p) e.at (le-ltb p (length c) (omega arith))))
      (λ l i. g p l i (there p l q))
      (λ v l k. h v (omega arith) (there p l q ∙ ap (λ (x : ℕ). e.start + x) k))
      b)
