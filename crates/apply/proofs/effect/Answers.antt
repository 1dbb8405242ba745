-- `apply::effect` meets its contract. Assumes nothing.
use mathlib.Core.Path.{refl}
use Rattle.protocol.specs.Effect.{update_effect, community_effect, effect_of}
use Rattle.accept.specs.Contract.Signer.{signer_rights}
use Rattle.apply.specs.Contract.Effect.{statuses_of}
use Rattle.apply.proofs.Signing.{query_effects, adjust_effects, by_kind, no_codes, effected}
use Rattle.apply.proofs.effect.Goals as goal

pub returns-in-StatusQuery : goal.returns-in-StatusQuery
unfolding statuses_of
returns-in-StatusQuery c =
    let a = c.args in
    let kind = c.in-StatusQuery.is in
    let rights = signer_rights a.image.now a.w in
    effected c.requires.0 (query_effects a.message.now a.q rights a.w a.image.now kind c.move_number.ensures) (no_codes a.message.now a.q rights a.w a.image.now kind (λ σ. refl) _)

pub returns-in-Update : goal.returns-in-Update
unfolding effect_of
returns-in-Update c =
    let a = c.args in
    let rights = signer_rights a.image.now a.w in
    let done = c.update.ensures in
    effected c.requires.0 (by_kind a.message.now a.q rights a.w a.image.now (update_effect a.message.now a.q rights) c.in-Update.is (λ σ. refl) done.0) done.1

pub returns-in-CommunityUpdate : goal.returns-in-CommunityUpdate
unfolding effect_of statuses_of
returns-in-CommunityUpdate c =
    let a = c.args in
    let kind = c.in-CommunityUpdate.is in
    let rights = signer_rights a.image.now a.w in
    effected c.requires.0 (by_kind a.message.now a.q rights a.w a.image.now (community_effect a.message.now a.q) kind (λ σ. refl) c.community_update.ensures) (no_codes a.message.now a.q rights a.w a.image.now kind (λ σ. refl) _)

pub returns-in-SeqNumAdjust : goal.returns-in-SeqNumAdjust
unfolding statuses_of
returns-in-SeqNumAdjust c =
    let a = c.args in
    let kind = c.in-SeqNumAdjust.is in
    let rights = signer_rights a.image.now a.w in
    effected c.requires.0 (adjust_effects a.message.now a.q rights a.w a.image.now kind c.move_number-in-SeqNumAdjust.ensures) (no_codes a.message.now a.q rights a.w a.image.now kind (λ σ. refl) _)
