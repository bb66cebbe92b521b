use Rattle.std.proofs.Common.{◌≡◌}
use Rattle.md_setting.proofs.MarginalLaws.{total-positive}
use Rattle.md_rows.proofs.RowForms.{if_ok}
use Rattle.md_tree.specs.Verdicts.{ClaimHolds, ClaimsNothing, IsVerdict}
use Rattle.md_tree.specs.declared.verdict.DetVerdict.TheVariants.{Valid}
use Rattle.md_determ.specs.Way.{IsTold}
use Rattle.md_determ.proofs.Answered.{told-claim}
use Rattle.md_determ.proofs.OneSearch.{one-searched}
use Rattle.md_determ.proofs.SoundLaws.{searched-valid}
use Rattle.md_determ.proofs.solving.solve_determ.Goals as goal

pub returns-clause-only : goal.returns-clause-only
returns-clause-only c other searched =
    let s = c.args.setting.now in
    if_ok c.search_from_root.result (IsTold s c.args.width) (λ answer. answer ≡ other)
    (λ answer told. one-searched s c.args.width answer other (total-positive s c.space-shaped.ensures.shaped) told.searched searched) c.search_from_root.ensures

pub returns-clause-claim : goal.returns-clause-claim
returns-clause-claim c =
    let s = c.args.setting.now in
    if_ok c.search_from_root.result (IsTold s c.args.width) (λ answer. (¬ ClaimsNothing answer) → ClaimHolds s answer)
    (λ answer told. told-claim s c.args.width answer told) c.search_from_root.ensures

pub returns-clause-valid : goal.returns-clause-valid
returns-clause-valid c =
    let s = c.args.setting.now in
    if_ok c.search_from_root.result (IsTold s c.args.width) (λ answer. (¬ ClaimsNothing answer) → IsVerdict s answer Valid)
    (λ answer told. searched-valid s c.args.width answer told.searched) c.search_from_root.ensures
