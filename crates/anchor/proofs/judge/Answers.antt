-- The stages before a test do not apply, and that of the test does.
use mathlib.Core.Path.{refl, ◌∙◌}
use Rattle.anchor.proofs.Stages.{version_is, identifier_is, path_is, list_is, repeated_extension_is, critical_extension_is, constraints_is, value_is}
use Rattle.anchor.proofs.Stages.{bad_constraints_is, rights_is, start, passed, given, given_last, past_version, past_path, past_repeated, past_critical}
use Rattle.anchor.proofs.Entries.{not_bad, sizes_is}
use Rattle.anchor.proofs.judge.Goals as goal

pub returns-then-version : goal.returns-then-version
returns-then-version c = given (start _) (version_is _ c.root-info.ensures c.field-version.ensures ∙ c.if-version.true)

pub returns-then-path : goal.returns-then-path
returns-then-path c = given (past_version _ c.root-info.ensures c.field-version.ensures c.if-version.false) (path_is _ c.root-info.ensures c.field-id.ensures c.field_after-path.ensures ∙ c.if-path.true)

pub returns-then-not-is_distinct : goal.returns-then-not-is_distinct
returns-then-not-is_distinct c =
    given (past_path _ c.root-info.ensures c.field-version.ensures c.if-version.false c.field-id.ensures c.field_after-path.ensures c.if-path.false) (repeated_extension_is _ (list_is _ c.root-info.ensures c.field.ensures c.field-list.ensures) c.is_distinct.ensures ∙ c.if-not-is_distinct.true-raw)

pub returns-then-has_other_critical : goal.returns-then-has_other_critical
returns-then-has_other_critical c =
    let l = list_is _ c.root-info.ensures c.field.ensures c.field-list.ensures in
    given
    (past_repeated _ c.root-info.ensures c.field-version.ensures c.if-version.false c.field-id.ensures c.field_after-path.ensures c.if-path.false l c.is_distinct.ensures c.if-not-is_distinct.false-raw)
    (critical_extension_is _ l c.has_other_critical.ensures ∙ c.if-has_other_critical.true)

pub returns-then-are_constraints : goal.returns-then-are_constraints
returns-then-are_constraints c =
    let usual = c.are_constraints.ensures.holds c.if-are_constraints.true in
    let e = constraints_is _ (list_is _ c.root-info.ensures c.field.ensures c.field-list.ensures) c.constraints_in-constraints.ensures in
    let v = value_is _ e c.extn_value-value.ensures in
    let fine = bad_constraints_is _ e c.extn_value-value.ensures refl ∙ not_bad c.constraints_in-constraints.result.valid usual.syntax in
    sizes_is _ (identifier_is _ c.root-info.ensures c.field-id.ensures c.contents.ensures) v usual c.judge_sizes.ensures
    ∙ given_last (passed (past_critical _ c.root-info.ensures c.field-version.ensures c.if-version.false c.field-id.ensures c.field_after-path.ensures c.if-path.false (list_is _ c.root-info.ensures c.field.ensures c.field-list.ensures) c.is_distinct.ensures c.if-not-is_distinct.false-raw c.has_other_critical.ensures c.if-has_other_critical.false) fine)

pub returns-then-bad_constraints : goal.returns-then-bad_constraints
returns-then-bad_constraints c =
    let e = constraints_is _ (list_is _ c.root-info.ensures c.field.ensures c.field-list.ensures) c.constraints_in-constraints.ensures in
    given (past_critical _ c.root-info.ensures c.field-version.ensures c.if-version.false c.field-id.ensures c.field_after-path.ensures c.if-path.false (list_is _ c.root-info.ensures c.field.ensures c.field-list.ensures) c.is_distinct.ensures c.if-not-is_distinct.false-raw c.has_other_critical.ensures c.if-has_other_critical.false) (bad_constraints_is _ e c.extn_value-value.ensures c.bad_constraints.ensures ∙ c.if-bad_constraints.true)

pub returns : goal.returns
returns c =
    let e = constraints_is _ (list_is _ c.root-info.ensures c.field.ensures c.field-list.ensures) c.constraints_in-constraints.ensures in
    let v = value_is _ e c.extn_value-value.ensures in
    let fine = bad_constraints_is _ e c.extn_value-value.ensures c.bad_constraints.ensures ∙ c.if-bad_constraints.false in
    rights_is _ (identifier_is _ c.root-info.ensures c.field-id.ensures c.contents-2.ensures) v c.judge_rights.ensures
    ∙ given_last (passed (past_critical _ c.root-info.ensures c.field-version.ensures c.if-version.false c.field-id.ensures c.field_after-path.ensures c.if-path.false (list_is _ c.root-info.ensures c.field.ensures c.field-list.ensures) c.is_distinct.ensures c.if-not-is_distinct.false-raw c.has_other_critical.ensures c.if-has_other_critical.false) fine)
