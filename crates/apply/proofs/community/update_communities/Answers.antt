use lib.Dec.{lit≤}
use mathlib.Core.Path.{ap}
use mathlib.Core.List.{List}
use Prim.Native.Nat.{ℕ, ◌+◌}
use lib.ListN.{length}
use borrow.Author.Rules.{rules}
use Rattle.apply.proofs.TwoLists.{put_bounds, put_few, put_addable, put_full, put_done}
use Rattle.apply.proofs.community.update_communities.Goals as goal

pub after_removals-requires : goal.after_removals-requires
after_removals-requires c = (rw c.image.ensures (put_few c.requires.scratch), lit≤ tt)

pub add_names-requires : goal.add_names-requires
add_names-requires c = put_addable _ c.requires (rw c.image.ensures at c.after_removals.ensures)

pub returns-in_err-add_names : goal.returns-in_err-add_names
returns-in_err-add_names c =
    let e = put_full _ c.requires (rw c.image.ensures at c.after_removals.ensures) c.add_names.ensures {former = c.args.work.now.former} c.in_err-add_names.was in
    search (e, rules)

pub replace-work-requires : goal.replace-work-requires
replace-work-requires c =
    put_bounds _ c.requires (rw c.image.ensures at c.after_removals.ensures) c.add_names.ensures c.in_ok-add_names.was
    (rw c.image-2.ensures at c.community_place-place.ensures)
    (ap (λ (s : List ℕ). length s + 1) (rw c.image-3.ensures at c.community_octets.ensures))

pub returns : goal.returns
returns c =
    put_done _ c.requires (rw c.image.ensures at c.after_removals.ensures) c.add_names.ensures c.in_ok-add_names.was
    (rw c.image-2.ensures at c.community_place-place.ensures)
    (ap (λ (s : List ℕ). length s + 1) (rw c.image-3.ensures at c.community_octets.ensures))
    c.replace-work.ensures
