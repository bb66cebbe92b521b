use Rattle.std.proofs.Common.{◌≡◌, length, sym, ◌∙◌, subst}
use Rattle.std.proofs.lemmas.List.{length-map}
use Rattle.md_math.specs.FirstFailure.{HoldsBelow}
use Rattle.md_list.specs.Lists.{rank_of, ranks_of}
use Rattle.md_list_check.specs.Verdicts.{IsPoolAt, IsLeftOut, IsInOrder}
use Rattle.md_list_check.proofs.CheckLaws.{best-valid}
use Rattle.md_list_check.proofs.OrderLaws.{whole-valid}
use Rattle.md_list_check.proofs.check.list_fault.Goals as goal

pub returns-clause-best : goal.returns-clause-best
returns-clause-best c = λ _.
    let a = c.args.auction.now in
    let ranks = ranks_of c.args.ranks.now in
    let levels = c.args.levels.now in
    let same : length c.args.ranks.now ≡ length ranks = sym (length-map c.args.ranks.now rank_of) in
    let pools : HoldsBelow (length c.args.ranks.now) (IsPoolAt a ranks levels) = rw c.in_default.is at c.in_ok-fault.ensures in
    let left : HoldsBelow (length a.groups) (IsLeftOut a ranks) = rw c.in_default-2.is at c.in_ok-fault-2.ensures.fault in
    let order : HoldsBelow (length c.args.ranks.now) (IsInOrder a ranks levels) = rw c.in_default-3.is at c.in_ok-place.ensures in
    best-valid a ranks levels c.in_ok-fault-2.ensures.shaped c.requires.form
    (whole-valid a ranks levels c.requires.form (c.requires.one_each ∙ same) (subst (λ n. HoldsBelow n (IsPoolAt a ranks levels)) same pools) left
    (subst (λ n. HoldsBelow n (IsInOrder a ranks levels)) same order))
