use Rattle.std.proofs.Common.{◌≡◌, ◌+◌, ◌*◌, ◌^◌, pos, ◌*ℤ◌, [], if◌then◌else◌, arith, le_refl}
use Rattle.md_math.specs.Sets.{member}
use Rattle.md_math.specs.Sums.{sum_to}
use Rattle.md_setting.specs.Auction.{value_count}
use Rattle.md_border.specs.Odds.{weight_given}
use Rattle.md_forms.proofs.TermLaws.{adds-next, adds-all, below-wider}
use Rattle.md_reduced.specs.ProgramOf.{column_count}
use Rattle.md_reduced.proofs.terms.cut_terms.Goals as goal

pub loop-kind-preserved : goal.loop-kind-preserved
loop-kind-preserved c =
    let k = c.loop-kind.kind in
    adds-next (2 ^ 44) 0 k k (k + 1) k (λ x v. if member c.args.set v then pos (c.args.auction.now.bidders * weight_given c.args.auction.now v) *ℤ x v else pos 0)
    [] c.loop-kind.terms.items c.push_demand.new.terms.items c.loop-kind.invariant c.in_ok-push_demand.ensures (le_refl k)

pub returns-clause-placed : goal.returns-clause-placed
returns-clause-placed c =
    let a = c.args.auction.now in
    let k = c.loop-kind.kind in
    let end : k ≡ value_count a = omega (arith, c.loop-kind-test.false, c.loop-kind.auto.kind-end, c.kinds-kind-end.ensures.count) in
    below-wider (2 ^ 44) k (column_count a) c.loop-kind.terms.items (omega (arith, end))
    (adds-all (2 ^ 44) 0 k (λ x. sum_to k (λ v. if member c.args.set v then pos (a.bidders * weight_given a v) *ℤ x v else pos 0)) c.loop-kind.terms.items c.loop-kind.invariant)
