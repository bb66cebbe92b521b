use Rattle.std.proofs.Common.{refl}
use Rattle.md_setting.proofs.MarginalLaws.{total-positive}
use Rattle.md_cli_sell.proofs.Sold.{IsShownSale, of_answer, of_wide, wide-writable}
use Rattle.md_cli_sell.proofs.asym.sold.Goals as goal

pub write_asym-requires-in-Err-TooWide-clause-answer : goal.write_asym-requires-in-Err-TooWide-clause-answer
write_asym-requires-in-Err-TooWide-clause-answer c =
    let h = rw c.in-Err-TooWide.field-0-is at c.in-Err-TooWide.ensures in
    wide-writable c.args.setting.now c.in-Err-TooWide.cuts c.in-Err-TooWide.first c.in-Err-TooWide.second h.small h.distinct

pub returns-in_ok-write_asym-in-Ok-clause-selling : goal.returns-in_ok-write_asym-in-Ok-clause-selling
returns-in_ok-write_asym-in-Ok-clause-selling c =
    let h = c.in-Ok.ensures in
    let shown : IsShownSale c.args.setting.now c.args.width c.in-Ok.answer = record {
      solved = h.solved;
      fits = h.fits;
      implements = h.implements;
      best = h.best;
      value = h.value;
      valid = h.valid;
      settled = h.settled;
      none = h.wide;
    } in
    of_answer c.args.setting.now c.args.width record { status = 0; text = c.in_ok-write_asym-in-Ok.field-0.items } c.in-Ok.answer (total-positive c.args.setting.now c.total-shaped.ensures.shaped) shown refl c.in_ok-write_asym-in-Ok.ensures.text c.in_ok-write_asym-in-Ok.ensures.reads_back

pub returns-in_ok-write_asym-in-Err-TooWide-clause-selling : goal.returns-in_ok-write_asym-in-Err-TooWide-clause-selling
returns-in_ok-write_asym-in-Err-TooWide-clause-selling c =
    let h = rw c.in-Err-TooWide.field-0-is at c.in-Err-TooWide.ensures in
    of_wide c.args.setting.now c.args.width record { status = 12; text = c.in_ok-write_asym-in-Err-TooWide.field-0.items } c.in-Err-TooWide.cuts c.in-Err-TooWide.first c.in-Err-TooWide.second
    h.left h.wide h.settled refl c.in_ok-write_asym-in-Err-TooWide.ensures.text c.in_ok-write_asym-in-Err-TooWide.ensures.reads_back
