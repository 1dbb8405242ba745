-- 01, After acceptance, Community Update.
use Rattle.std.specs.Prelude.{ℕ, Bool, true, false, not, ◌&&◌, ◌||◌, List, [], ◌++◌, length, ltb, eqb}
use Rattle.octets.specs.declared.Status.{Status}
use Rattle.octets.specs.Status.{success, insufficient_memory, community_update_failed}
use Rattle.octets.specs.Limits.{max_name_octets, max_communities}
use Rattle.octets.specs.First.{given_if}
use Rattle.octets.specs.Lists.{any_of, filter}
use Rattle.octets.specs.Octets.{member, distinct}

-- "removals (absent ones pass)". RFC 5934, 4.7: "Where remove is present with an empty list, all community identifiers MUST be removed."
unfoldable pub after_removals : Bool → List (List ℕ) → List (List ℕ) → List (List ℕ)
after_removals present removals communities =
    elim (present && eqb (length removals) 0) [ true ↦ [] | false ↦ filter (λ c. not (member c removals)) communities ]

-- "additions at the end (present ones pass)"
unfoldable pub after_additions : List (List ℕ) → List (List ℕ) → List (List ℕ)
after_additions additions communities = communities ++ filter (λ c. not (member c communities)) additions

-- what the communities would become
abbrev pub updated : Bool → List (List ℕ) → List (List ℕ) → List (List ℕ) → List (List ℕ)
updated present removals additions communities = after_additions additions (after_removals present removals communities)

-- 24 if an OID occurs twice in its two lists; 17 if an OID is over 32 octets or over 16 would remain; else 0
unfoldable pub community_status : Bool → List (List ℕ) → List (List ℕ) → List (List ℕ) → Status
community_status present removals additions communities =
    given_if (not (distinct (removals ++ additions))) community_update_failed
    (given_if
    (any_of (λ c. ltb max_name_octets (length c)) (removals ++ additions) || ltb max_communities (length (updated present removals additions communities)))
    insufficient_memory
    success)

-- "On 24 or 17 no community changes"
unfoldable pub communities_after : Bool → List (List ℕ) → List (List ℕ) → List (List ℕ) → List (List ℕ)
communities_after present removals additions communities =
    elim (eqb (community_status present removals additions communities).number success.number)
    [ true ↦ updated present removals additions communities | false ↦ communities ]
