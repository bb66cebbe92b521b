use Rattle.std.proofs.Common.{◌+◌, ◌∙◌}
use Rattle.md_mech.specs.Rows.{conditions_of}
use Rattle.md_setting.specs.Rows.{column_count}
use Rattle.md_forms.proofs.BuiltLaws.{extends-both, program-of, same_columns}
use Rattle.md_rows.specs.ProgramOf.{forms_of}
use Rattle.md_fair.specs.FairProgram.{IsFairProgram, agent_forms, fair_forms, level_in}
use Rattle.md_fair.proofs.PointLaws.{admits-fair, admits-levels}
use Rattle.md_fair.proofs.Sizes.{agents-room, fair-count, own-room}
use Rattle.md_fair.proofs.program.fair_program.Goals as goal

pub push_rows-requires : goal.push_rows-requires
push_rows-requires c = own-room c.args.setting.now c.in_ok-lp.lp c.in_ok-lp.ensures.shaped c.in_ok-lp.ensures.columns c.in_ok-lp.ensures.no_row

pub push_agents-requires-clause-columns : goal.push_agents-requires-clause-columns
push_agents-requires-clause-columns c =
    let s = c.args.setting.now in
    same_columns (forms_of s (conditions_of s)) c.in_ok-lp.lp c.push_rows.new.lp c.in_ok-push_rows.ensures.ok ∙ c.in_ok-lp.ensures.columns

pub push_agents-requires-clause-room : goal.push_agents-requires-clause-room
push_agents-requires-clause-room c = agents-room c.args.setting.now c.in_ok-lp.lp c.push_rows.new.lp c.in_ok-lp.ensures.shaped c.in_ok-lp.ensures.no_row c.in_ok-push_rows.ensures.ok

pub returns : goal.returns
returns c =
    let s = c.args.setting.now in
    let lp = c.push_agents.new.lp in
    let is : IsFairProgram s lp =
    program-of (column_count s + 2) (fair_forms s) (level_in s) c.in_ok-lp.lp lp c.in_ok-lp.ensures.columns c.in_ok-lp.ensures.cost c.in_ok-lp.ensures.no_row
    (extends-both (forms_of s (conditions_of s)) (agent_forms s) c.in_ok-lp.lp c.push_rows.new.lp lp c.in_ok-push_rows.ensures.ok c.in_ok-push_agents.ensures) in
    record {
      program = is;
      count = fair-count s lp is;
      admits_mechanisms = admits-fair s lp is;
      admits_levels = admits-levels s lp is;
    }
