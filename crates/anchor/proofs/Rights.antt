-- An anchor's rights are those of its constraints value, which is empty where there is no extension.
use Rattle.std.specs.Prelude.{Option, Some, None, unwrap_or}
use Prim.Native.Nat.{ℕ, zero, suc, ◌-◌, ◌≤◌, ◌<◌}
use native.Mathlib.Omega.{arith}
use mathlib.Core.Bool.{false, true≢false}
use mathlib.Core.List.{List, [], ◌∷◌, map}
use mathlib.Core.Path.{◌≡◌, refl, sym, ap, ◌∙◌}
use lib.Dec.{ltb}
use borrow.Author.Tests.{ltb-true, ltb-false}
use Rattle.octets.specs.Octets.{same}
use Rattle.octets.proofs.Lists.{by_test}
use Rattle.octets.proofs.Parts.{slice-none}
use Rattle.der.specs.declared.Element.{Element}
use Rattle.octets.specs.Number.{digits}
use Rattle.der.specs.Oid.{oid, arc, arcs}
use Rattle.der.specs.Element.{absent, root, element_at, elements, contents, inside, field}
use Rattle.der.specs.Contract.Reading.{next_at}
use Rattle.der.proofs.Bools.{on_true, on_false}
use Rattle.der.proofs.Header.{header_or_not, element_is, element-absent}
use Rattle.der.proofs.Elements.{bounded, elements_end, with_tag_end}
use Rattle.rights.specs.Rights.{nothing}
use Rattle.rights.specs.Constraints.{content_type_constraint, constraints_rights}
use Rattle.anchor.specs.Info.{extensions, constraints_in, constraints_extension, has_constraints, constraints_value, rights_of}
use Rattle.syntax.specs.Types.{id_pe_cms_content_constraints}
use Rattle.der.specs.declared.Compared.TheVariants.{Types}
use Rattle.der.specs.Keys.{key_of, first_with, element_found}
use Rattle.der.proofs.Runs.{run_turn, run_on}
use Rattle.der.proofs.Keys.{first_hit, first_miss}

absent_empty : (s : List ℕ) (at stop : ℕ) {e : Element} → e ≡ element_at s at stop → e.valid ≡ false → e.start ≡ e.stop
absent_empty s at stop {e} q g =
    header_or_not s at stop
    (λ h. absurd (true≢false (ap (λ (x : Element). x.valid) (sym (q ∙ element_is s at stop h)) ∙ g)))
    (λ n. rw (q ∙ element-absent s at stop n))

found_empty : (n : ℕ) (s k : List ℕ) (at stop : ℕ) → stop - at ≤ n → {e : Element} → first_with Types s k (elements s at stop) ≡ Some e → e.valid ≡ false
    → e.start ≡ e.stop
unfolding first_with
found_empty zero s k at stop h f g = let z = rw (elements_end s at stop (omega arith)) at f in cc
found_empty (suc n) s k at stop h {e} f g =
    let m = element_at s at stop in
    let more : at < stop → stop - next_at m stop ≤ n = λ l. omega (arith, run_on s at stop {e = m} refl l refl) in
    by_test (ltb at stop)
    (λ b.
    let l = ltb-true at stop b in
    let f' = ap (first_with Types s k) (sym (run_turn s at stop {e = m} refl l refl)) ∙ f in
    by_test (same k (key_of Types s m))
    (λ t. let q : e ≡ m = cc (first_hit Types s k m (elements s (next_at m stop) stop) t) in absent_empty s at stop q g)
    (λ t. found_empty n s k (next_at m stop) stop (more l) (sym (first_miss Types s k m (elements s (next_at m stop) stop) t) ∙ f') g))
    (λ b. let z = rw (elements_end s at stop (ltb-false at stop b)) at f in cc)

-- the content constraints extension in a list, as a search finds it
pub constraints_found : (t : List ℕ) (list : Element) {f : Option Element}
    → f ≡ first_with Types t (0x2B ∷ 0x06 ∷ 0x01 ∷ 0x05 ∷ 0x05 ∷ 0x07 ∷ 0x01 ∷ 0x12 ∷ []) (inside t list)
    → unwrap_or f (absent 0) ≡ constraints_in t (inside t list)
unfolding constraints_in oid arc arcs digits
constraints_found t list {f} h = or_absent f ∙ ap element_found h
  where
    or_absent : (o : Option Element) → unwrap_or o (absent 0) ≡ element_found o
    or_absent None = refl
    or_absent (Some e) = refl

no_extension : (t : List ℕ) → has_constraints t ≡ false → (constraints_extension t).start ≡ (constraints_extension t).stop
unfolding constraints_extension constraints_in extensions
no_extension t g = go (first_with Types t id_pe_cms_content_constraints (inside t l)) refl g
  where
    l : Element
    l = field 0x30 t (field 0xA1 t (root t))

    go : (f : Option Element) → first_with Types t id_pe_cms_content_constraints (inside t l) ≡ f → (element_found f).valid ≡ false → (element_found f).start ≡ (element_found f).stop
    go (Some e) q h = found_empty (l.stop - l.start) t id_pe_cms_content_constraints l.start l.stop (omega arith) q h
    go None q h = refl

no_value : (t : List ℕ) → has_constraints t ≡ false → constraints_value t ≡ []
no_value t g =
    let e = constraints_extension t in
    let h : e.stop ≤ e.start = omega (arith, no_extension t g) in
    ap (contents t) (with_tag_end 0x04 t e.start e.stop h) ∙ slice-none t 0 0 (omega arith)

no_rights : constraints_rights [] ≡ []
unfolding constraints_rights
no_rights =
    let e = root [] in
    let b = bounded [] 0 0 {e = e} refl in
    let h : e.stop ≤ e.start = omega (arith, b.ends (omega arith)) in
    ap (map (content_type_constraint [])) (elements_end [] e.start e.stop h)

-- 01, Rights: "An anchor with no extension authorises nothing"
pub value_rights : (t : List ℕ) → constraints_rights (constraints_value t) ≡ rights_of t
unfolding rights_of nothing
value_rights t =
    by_test (has_constraints t)
    (λ g. sym (on_true (has_constraints t) (constraints_rights (constraints_value t)) [] g))
    (λ g. ap constraints_rights (no_value t g) ∙ no_rights ∙ sym (on_false (has_constraints t) (constraints_rights (constraints_value t)) [] g))
