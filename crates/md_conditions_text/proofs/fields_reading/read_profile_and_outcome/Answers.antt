use Rattle.std.proofs.Common.{pos}
use Rattle.std.proofs.lemmas.Result.{err_from_is_err_and}
use Rattle.md_conditions_text.specs.ConditionFields.{outcome_field, profile_field}
use Rattle.md_conditions_text.proofs.FieldLaws.{both-read, first-fails, second-fails}
use Rattle.md_conditions_text.proofs.fields_reading.read_profile_and_outcome.Goals as goal

pub returns-in_err-rank-clause-read : goal.returns-in_err-rank-clause-read
returns-in_err-rank-clause-read c =
    let p = err_from_is_err_and c.from_residual.result c.from_residual.ensures.1 in
    rw (p.1, p.2) (λ ne. first-fails (profile_field c.args.setting.now) (outcome_field c.args.setting.now) c.args.fields.now _ (c.in_err-rank.ensures.read ne))

pub returns-in_err-outcome-clause-read : goal.returns-in_err-outcome-clause-read
returns-in_err-outcome-clause-read c =
    let p = err_from_is_err_and c.from_residual-in_err-outcome.result c.from_residual-in_err-outcome.ensures.1 in
    rw (p.1, p.2) (λ ne. second-fails (profile_field c.args.setting.now) (outcome_field c.args.setting.now) c.args.fields.now c.read_profile.new.fields (pos c.in_ok-rank.rank) _ c.in_ok-rank.ensures.read (c.in_err-outcome.ensures.read ne))

pub returns-clause-read : goal.returns-clause-read
returns-clause-read c =
    both-read (profile_field c.args.setting.now) (outcome_field c.args.setting.now) c.args.fields.now c.read_profile.new.fields c.read_outcome.new.fields (pos c.in_ok-rank.rank) (pos c.in_ok-outcome.outcome) c.in_ok-rank.ensures.read c.in_ok-outcome.ensures.read
