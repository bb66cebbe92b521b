use Rattle.std.proofs.Common.{rules, ◌≡◌, ◌≤◌, bit_or, unsigned_abs, to_z, of_z, ap, ◌∙◌, below_more, arith}
use Rattle.std.proofs.lemmas.Nat.{le_or_l, le_or_r}
use mir.Syntax.{w64}
use Rattle.md_math.specs.Lists.{number_at}
use Rattle.md_dict.proofs.sizes.are_surely_within.Goals as goal

pub loop-x-preserved : goal.loop-x-preserved
loop-x-preserved c =
    let whole : to_z w64 (of_z w64 (number_at c.args.numbers.now c.loop-x.x-index)) ≡ number_at c.args.numbers.now c.loop-x.x-index = search rules in
    let size : c.unsigned_abs-joined.result ≡ unsigned_abs (number_at c.args.numbers.now c.loop-x.x-index) = c.unsigned_abs-joined.ensures.value ∙ ap unsigned_abs whole in
    below_more (λ k. unsigned_abs (number_at c.args.numbers.now k) ≤ bit_or c.loop-x.joined c.unsigned_abs-joined.result) c.loop-x.x-index
    (λ k b. let p : unsigned_abs (number_at c.args.numbers.now k) ≤ c.loop-x.joined = c.loop-x.invariant k b in omega (arith, le_or_l c.loop-x.joined c.unsigned_abs-joined.result))
    (omega (arith, size, le_or_r c.loop-x.joined c.unsigned_abs-joined.result))
