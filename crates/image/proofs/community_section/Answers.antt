-- `image::community_section` meets its contract. Assumes nothing.
use Prim.Native.Nat.{◌+◌}
use mathlib.Core.Path.{sym, ap, ◌∙◌}
use lib.ListN.{drop}
use borrow.Author.Tests.{not-true, not-false}
use Rattle.octets.specs.Limits.{max_communities}
use Rattle.octets.specs.Octets.{distinct}
use Rattle.store.specs.Image.{read_community, read_community_section}
use Rattle.store.proofs.Taken.{names_taken}
use Rattle.image.specs.Contract.Check.{rest_at}
use Rattle.image.proofs.Checks.{section_short, section_over, section_broken, section_fails, section_holds}
use Rattle.image.proofs.community_section.Goals as goal

pub returns-then-image-p : goal.returns-then-image-p
unfolding read_community_section
returns-then-image-p c =
    let a = c.args in
    let s = a.image.now in
    sym (section_short read_community max_communities distinct s a.p c.if-image-p.true)

pub returns-then-n-gt-MAX_COMMUNITIES : goal.returns-then-n-gt-MAX_COMMUNITIES
unfolding read_community_section
returns-then-n-gt-MAX_COMMUNITIES c =
    let a = c.args in
    let s = a.image.now in
    let n = c.octet_at-n.result in
    let count = c.octet_at-n.ensures.0 in
    let room = c.if-image-p.false in
    sym (section_over read_community max_communities distinct s a.p room n count c.if-n-gt-MAX_COMMUNITIES.true)

pub returns-in_err-e : goal.returns-in_err-e
unfolding read_community_section
returns-in_err-e c =
    let a = c.args in
    let s = a.image.now in
    let n = c.octet_at-n.result in
    let count = c.octet_at-n.ensures.0 in
    let room = c.if-image-p.false in
    ap (rest_at s) c.from_residual.ensures ∙ sym (section_broken read_community max_communities distinct s a.p room n count c.if-n-gt-MAX_COMMUNITIES.false
    (sym (ap (rest_at s) c.in_err-e.was) ∙ c.communities_stop.ensures))

pub returns-then-not-names_differ : goal.returns-then-not-names_differ
unfolding read_community_section
returns-then-not-names_differ c =
    let a = c.args in
    let s = a.image.now in
    let n = c.octet_at-n.result in
    let count = c.octet_at-n.ensures.0 in
    let room = c.if-image-p.false in
    sym
    (section_fails read_community max_communities distinct s a.p room n count c.if-n-gt-MAX_COMMUNITIES.false _
    (sym (ap (rest_at s) c.in_ok-e.was) ∙ c.communities_stop.ensures)
    (λ l r. ap distinct (names_taken n (drop (a.p + 1) s) l _ r) ∙ sym c.names_differ.ensures ∙ not-true _ c.if-not-names_differ.true-raw))

pub returns : goal.returns
unfolding read_community_section
returns c =
    let a = c.args in
    let s = a.image.now in
    let n = c.octet_at-n.result in
    let count = c.octet_at-n.ensures.0 in
    let room = c.if-image-p.false in
    sym
    (section_holds read_community max_communities distinct s a.p room n count c.if-n-gt-MAX_COMMUNITIES.false _
    (sym (ap (rest_at s) c.in_ok-e.was) ∙ c.communities_stop.ensures)
    (λ l r. ap distinct (names_taken n (drop (a.p + 1) s) l _ r) ∙ sym c.names_differ.ensures ∙ not-false _ c.if-not-names_differ.false-raw))
