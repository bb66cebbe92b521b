use Rattle.std.proofs.Common.{sym, ◌∙◌, subst, lit<}
use Rattle.md_math.specs.Sizes.{IsWithin}
use Rattle.md_math.proofs.Bits.{read_short_within}
use Rattle.md_setting.specs.Shaped.{IsShaped}
use Rattle.md_setting.specs.Setting.{written}
use Rattle.md_setting.proofs.Accepted.{listed, small}
use Rattle.md_setting.proofs.FirstRefusal.{none, totals_shaped}
use Rattle.md_setting.proofs.setting.Setting.new.Goals as goal

pub weights_by_rank-requires-clause-listed : goal.weights_by_rank-requires-clause-listed
weights_by_rank-requires-clause-listed c =
    listed (written c.args.raw) c.in_ok-totals.ensures.ok.lists.first.sizes c.in_ok-totals.ensures.ok.lists.shape

pub weights_by_rank-requires-clause-small : goal.weights_by_rank-requires-clause-small
weights_by_rank-requires-clause-small c = small (written c.args.raw) c.in_ok-totals.ensures.ok.lists.lists

pub invariant_of-result : goal.invariant_of-result
invariant_of-result c =
    let shaped : IsShaped (written c.args.raw) = totals_shaped (written c.args.raw) c.in_ok-totals.ensures.ok in
    let small : IsWithin 1000000 c.in_ok-totals.totals.total = subst (IsWithin 1000000) (sym c.in_ok-totals.ensures.total) shaped.total.within in
    record {
      accepted = none (written c.args.raw) c.in_ok-totals.ensures.ok;
      shaped = shaped;
      sizes_are = c.in_ok-space.ensures.ok;
      numbered = c.in-Ok-number_names.ensures;
      weights_are = c.in-Ok-weights_by_rank.ensures;
      total_is = read_short_within 1000000 c.in_ok-totals.totals.total small (lit< tt) ∙ c.in_ok-totals.ensures.total;
      rows_are = c.in_ok-totals.ensures.rows;
    }
