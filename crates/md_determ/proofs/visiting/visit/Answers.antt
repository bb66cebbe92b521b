use Rattle.std.proofs.Common.{◌≡◌, ℕ, List, Option, sym, ◌∙◌, subst}
use Rattle.md_simplex.specs.declared.simplex_error.SimplexError.TheVariants.{TooWide}
use Rattle.md_question_solve.specs.Readings.{HasFractions}
use Rattle.md_determ.specs.Readings.{IsLeftAt}
use Rattle.md_determ.specs.Pairs.{ArePairsOf}
use Rattle.md_determ.proofs.WayLaws.{visited-node, wide-told}
use Rattle.md_determ.proofs.visiting.visit.Goals as goal

pub returns-in_ok-fixed-in-Err-TooWide : goal.returns-in_ok-fixed-in-Err-TooWide
returns-in_ok-fixed-in-Err-TooWide c =
    let s = c.args.setting.now in
    let search = c.args.search.now in
    let node = c.fixed.result.now in
    let first = c.in-Err-TooWide.first in
    let second = c.in-Err-TooWide.second in
    let wide : IsLeftAt s search.width node (TooWide first second) = subst (IsLeftAt s search.width node) c.in-Err-TooWide.field-0-is c.in-Err-TooWide.ensures.left in
    let small : HasFractions (TooWide first second) = subst HasFractions c.in-Err-TooWide.field-0-is c.in-Err-TooWide.ensures.wide_writable in
    let same : c.fixed-in-Err-TooWide.result.now ≡ node = c.fixed-in-Err-TooWide.ensures.current ∙ sym c.fixed.ensures.current in
    let are : ArePairsOf node c.in_ok-fixed-in-Err-TooWide.fixed = subst (λ (fixed : List (Option ℕ)). ArePairsOf fixed c.in_ok-fixed-in-Err-TooWide.fixed) same c.in_ok-fixed-in-Err-TooWide.ensures in
    wide-told s search.width search node c.in_ok-fixed-in-Err-TooWide.fixed first second c.requires.way c.requires.some_open c.fixed.ensures.current
    (visited-node s search.width search node c.requires.way c.fixed.ensures.ranks c.fixed.ensures.outcomes) are wide small.0 small.1
