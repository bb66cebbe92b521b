use Rattle.std.proofs.Common.{pos, ◌≤ℤ◌, arith}
use Rattle.std.proofs.lemmas.Int.{ints}
use Rattle.md_setting.specs.Meaning.{total_of}
use Rattle.md_setting.proofs.MarginalLaws.{total-positive}
use Rattle.md_require_text.specs.Told.{IsRequiredAnswer}
use Rattle.md_cli_best.specs.Requiring.{with_conditions}
use Rattle.md_cli_best.proofs.Found.{find-status}
use Rattle.md_cli_best.proofs.Required.{said-required}
use Rattle.md_cli_best.proofs.require.found.Goals as goal

pub write_required-requires : goal.write_required-requires
write_required-requires c =
    let fits : IsRequiredAnswer c.args.setting.now (with_conditions c.args.conditions.now c.args.finding c.in_ok-shadows.shadows.items) =
    record { conditions = c.requires.conditions; finding = c.requires.certified.writable; shadows = c.in_ok-shadows.ensures.fits } in
    rw c.in_ok-answer.ensures fits

pub returns-clause-require : goal.returns-clause-require
returns-clause-require c =
    let text = rw c.in_ok-answer.ensures at c.in_ok-write_required.ensures.text in
    let reads = rw c.in_ok-answer.ensures at c.in_ok-write_required.ensures.reads_back in
    let total : pos 1 ≤ℤ total_of c.args.setting.now = omega (arith, ints, total-positive c.args.setting.now c.space-shaped.ensures.shaped) in
    said-required c.args.setting.now c.args.conditions.now record { status = c.status-status.result; text = c.in_ok-write_required.field-0.items } c.args.finding c.in_ok-shadows.shadows.items
    total c.requires.conditions c.requires.certified c.in_ok-shadows.ensures.told c.status-status.ensures.value text reads

pub returns-clause-status : goal.returns-clause-status
returns-clause-status c = find-status c.status-status.result c.args.finding c.status-status.ensures.value
