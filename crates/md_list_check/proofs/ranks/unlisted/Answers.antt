use Rattle.std.proofs.Common.{ℕ, ◌<◌, take, length, sym, ap, ◌∙◌, arith}
use Rattle.std.proofs.lemmas.List.{length-map}
use Rattle.md_setting.specs.Grouped.{group_at}
use Rattle.md_list.specs.Lists.{rank_of, ranks_of}
use Rattle.md_list.specs.Ranks.{left_after}
use Rattle.md_list.specs.Valid.{left_behind}
use Rattle.md_list_check.proofs.LeftOutLaws.{behind-next}
use Rattle.md_list_check.proofs.ranks.unlisted.Goals as goal

pub loop-place-preserved : goal.loop-place-preserved
loop-place-preserved c =
    let ranks = ranks_of c.args.ranks.now in
    let left : ℕ → ℕ = λ k. length (group_at c.args.auction.now k).values in
    let n = c.loop-place.place in
    let inside : n < length ranks = omega (arith, c.loop-place-test.true, length-map c.args.ranks.now rank_of) in
    c.left_after-left.ensures (left_behind left (take n ranks)) (sym c.loop-place.invariant)
    ∙ ap (λ r. left_after (left_behind left (take n ranks)) r c.args.group) c.rank_at.ensures
    ∙ sym (behind-next left ranks n c.args.group inside)
