-- 01, Answers, status 1: octets are DER.
use Rattle.std.specs.Prelude.{ℕ, zero, suc, Bool, true, false, List, ltb, eqb, Err}
use Rattle.octets.specs.Octets.{ordered}
use Rattle.der.specs.declared.Element.{Element}
use Rattle.der.specs.Element.{element_at, inside, encoding, contents, constructed}
use Rattle.der.specs.Fit.{and_then, held, each, Fit}
use Rattle.der.specs.Contents.{contents_ok}

-- 01, DER: "SET OF sorted"; "Status 1 sorts only sets with the universal tag": a member of an element with this tag stands in order after the one before it
unfoldable pub sorted_in : ℕ → List ℕ → Element → Element → Bool
sorted_in tag s former e = elim (eqb tag 49) [ true ↦ ordered (encoding s former) (encoding s e) | false ↦ true ]

-- An element, and all in it, with d levels left for it ("to depth 16 (the outermost is depth 1); depth 17 is a decode failure"). A constructed value holds a
-- run of elements that fills it; each member is read whole, then compared with the one before it (02, E3).
-- "Octet strings are not opened by this check": they are primitive.
unfoldable pub der : ℕ → List ℕ → Element → Fit
der zero s e = Err e.at
der (suc d) s e =
    elim e.valid [
      | false ↦ Err e.at
      | true ↦
          elim (constructed e.tag) [
            | true ↦ each (λ former m. and_then (der d s m) (held m.at (sorted_in e.tag s former m))) (inside s e)
            | false ↦ held e.at (contents_ok e.tag (contents s e))
          ]
    ]

-- "One element spans the message": the octets from at up to stop are one element with d levels. Octets after it are charged to the first of them,
-- and where there is no octet at all, the element `outer` is charged
unfoldable pub spans : ℕ → List ℕ → ℕ → ℕ → ℕ → Fit
spans d s at stop outer =
    let e = element_at s at stop in
    elim (ltb at stop) [ false ↦ Err outer | true ↦ and_then (der d s e) (held e.stop (eqb e.stop stop)) ]
