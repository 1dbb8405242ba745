-- `store::community_octets` meets its contract. Assumes nothing.
use Prim.Native.Nat.{ℕ}
use mathlib.Core.Path.{◌∙◌, ap}
use lib.ListN.{drop}
use Rattle.store.specs.Contract.Parts.{community_place, community_count, community_octets}
use Rattle.store.proofs.Walk.{names_slice}
use Rattle.store.proofs.community_octets.Goals as goal

pub returns : goal.returns
unfolding community_octets community_count
returns c =
    let s = c.args.image.now in
    let place = c.community_place.ensures in
    c.slice.ensures
    ∙ names_slice s (community_place s) (c.after-section.ensures ∙ ap (λ (p : ℕ). drop p s) place) c.after-names.ensures
    c.octet_at.ensures.0
    c.names_end.ensures
