use Rattle.std.proofs.Common.{refl}
use Rattle.md_cli_best.proofs.Fairest.{IsShownFair, of_answer, of_wide}
use Rattle.md_cli_best.proofs.fair.fairest.Goals as goal

pub returns-in_ok-write_fair-in-Ok-clause-fair : goal.returns-in_ok-write_fair-in-Ok-clause-fair
returns-in_ok-write_fair-in-Ok-clause-fair c =
    let s = c.args.setting.now in
    let h = c.in-Ok.ensures in
    let shown : IsShownFair s c.args.width c.in-Ok.finding = record {
      solved = h.solved;
      only = h.only;
      optimal = h.optimal;
      value = h.value;
      infeasible = h.infeasible;
      unbounded = h.unbounded;
      admissible = h.admissible;
      narrow = h.narrow;
      certified = h.certified;
      wide = h.wide;
      taken = h.taken;
      none = h.none;
      no_bound = h.no_bound;
    } in
    of_answer s c.args.width record { status = c.status.result; text = c.in_ok-write_fair-in-Ok.field-0.items } c.in-Ok.finding shown c.status.ensures.value c.in_ok-write_fair-in-Ok.ensures.text c.in_ok-write_fair-in-Ok.ensures.reads_back

pub returns-in_ok-write_fair-in-Err-TooWide-clause-fair : goal.returns-in_ok-write_fair-in-Err-TooWide-clause-fair
returns-in_ok-write_fair-in-Err-TooWide-clause-fair c =
    let h = rw c.in-Err-TooWide.field-0-is at c.in-Err-TooWide.ensures in
    of_wide c.args.setting.now c.args.width record { status = 12; text = c.in_ok-write_fair-in-Err-TooWide.field-0.items } c.in-Err-TooWide.first c.in-Err-TooWide.second
    h.left h.every_left h.taken refl c.in_ok-write_fair-in-Err-TooWide.ensures.text c.in_ok-write_fair-in-Err-TooWide.ensures.reads_back
