-- The stages before a test do not apply, and that of the test does.
use Rattle.std.proofs.Common.{rules}
use mathlib.Core.Path.{◌∙◌}
use Rattle.rights.specs.Constraints.{constraints_rights}
use Rattle.anchor.proofs.Stages.{rights_start, passed, given, given_last, repeated_is, unlike_is, entries_is, attributes_is, values_is, octets_is}
use Rattle.anchor.proofs.Stages.{past_repeats, bad_size, past_sizes, past_entries, past_attributes, past_values}
use Rattle.anchor.proofs.judge_rights.Goals as goal

pub returns-then-faults : goal.returns-then-faults
returns-then-faults c = given (rights_start c.args.t.now c.args.k.now (constraints_rights c.args.v.now)) (repeated_is _ c.rights_faults-faults.ensures ∙ c.if-faults.true)

pub returns-then-faults-2 : goal.returns-then-faults-2
returns-then-faults-2 c = given (past_repeats _ _ _ c.rights_faults-faults.ensures c.if-faults.false) (unlike_is _ c.rights_faults-faults.ensures ∙ c.if-faults-2.true)

pub returns-in_err-judge_sizes : goal.returns-in_err-judge_sizes
returns-in_err-judge_sizes c =
    let e = bad_size _ _ _ c.rights_faults-faults.ensures c.if-faults.false c.if-faults-2.false c.judge_sizes.ensures c.in_err-judge_sizes.was in
    search (e, rules)

pub returns-then-faults-3 : goal.returns-then-faults-3
returns-then-faults-3 c = given (past_sizes _ _ _ c.rights_faults-faults.ensures c.if-faults.false c.if-faults-2.false c.judge_sizes.ensures c.in_ok-judge_sizes.was) (entries_is _ c.rights_faults-faults.ensures ∙ c.if-faults-3.true)

pub returns-then-faults-4 : goal.returns-then-faults-4
returns-then-faults-4 c = given (past_entries _ _ _ c.rights_faults-faults.ensures c.if-faults.false c.if-faults-2.false c.judge_sizes.ensures c.in_ok-judge_sizes.was c.if-faults-3.false) (attributes_is _ c.rights_faults-faults.ensures ∙ c.if-faults-4.true)

pub returns-then-faults-5 : goal.returns-then-faults-5
returns-then-faults-5 c = given (past_attributes _ _ _ c.rights_faults-faults.ensures c.if-faults.false c.if-faults-2.false c.judge_sizes.ensures c.in_ok-judge_sizes.was c.if-faults-3.false c.if-faults-4.false) (values_is _ c.rights_faults-faults.ensures ∙ c.if-faults-5.true)

pub returns-then-faults-6 : goal.returns-then-faults-6
returns-then-faults-6 c = given (past_values _ _ _ c.rights_faults-faults.ensures c.if-faults.false c.if-faults-2.false c.judge_sizes.ensures c.in_ok-judge_sizes.was c.if-faults-3.false c.if-faults-4.false c.if-faults-5.false) (octets_is _ c.rights_faults-faults.ensures ∙ c.if-faults-6.true)

pub returns : goal.returns
returns c = given_last (passed (past_values _ _ _ c.rights_faults-faults.ensures c.if-faults.false c.if-faults-2.false c.judge_sizes.ensures c.in_ok-judge_sizes.was c.if-faults-3.false c.if-faults-4.false c.if-faults-5.false) (octets_is _ c.rights_faults-faults.ensures ∙ c.if-faults-6.false))
