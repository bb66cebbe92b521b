use Rattle.std.proofs.Common.{sym, eq-eqb, length}
use Rattle.std.proofs.lemmas.Int.{to_z-of_z}
use mir.Syntax.{w64}
use Rattle.md_setting.specs.Auction.{written_auction}
use Rattle.md_setting.proofs.Auctions.{out_of_range}
use Rattle.md_setting.proofs.auction_check.check_numbers.Goals as goal

pub returns-then-not-are_in_range-clause-refused : goal.returns-then-not-are_in_range-clause-refused
returns-then-not-are_in_range-clause-refused c =
    let a = c.args in
    out_of_range (written_auction a.bidders a.values.now a.weights.now a.revenue a.welfare a.keep)
    (sym (rw (to_z-of_z w64 a.bidders c.ranges.bidders) at c.if-not-has_good_numbers.ensures))
    (eq-eqb (length a.weights.now) (length a.values.now) c.if-weights-values.false)
    (sym (rw (to_z-of_z w64 a.revenue c.ranges.revenue, to_z-of_z w64 a.welfare c.ranges.welfare, to_z-of_z w64 a.keep c.ranges.keep) at (c.if-not-are_in_range.ensures a.bidders)))

pub returns-clause-ok : goal.returns-clause-ok
returns-clause-ok c =
    let a = c.args in
    record {
      sizes = sym (rw (to_z-of_z w64 a.bidders c.ranges.bidders) at c.if-not-has_good_numbers.ensures);
      shape = eq-eqb (length a.weights.now) (length a.values.now) c.if-weights-values.false;
      range = sym (rw (to_z-of_z w64 a.revenue c.ranges.revenue, to_z-of_z w64 a.welfare c.ranges.welfare, to_z-of_z w64 a.keep c.ranges.keep) at (c.if-not-are_in_range.ensures a.bidders));
    }
