use Rattle.std.proofs.Common.{◌≡◌, sym, arith, append-nil, rules, to_z, of_z, SFits}
use Rattle.std.proofs.lemmas.Result.{err_from_is_err_and}
use Rattle.std.proofs.lemmas.Int.{to_z-of_z}
use mir.Syntax.{w128}
use Rattle.md_parts.proofs.AmountSteps.{amounts-none, amounts-more, amounts-fail}
use Rattle.md_parts.proofs.fields.Fields.amounts.Goals as goal

pub loop-most-init : goal.loop-most-init
loop-most-init c = record { room = let some = c.requires.some in omega (arith, some); read = amounts-none c.args.limit c.args.self.now c.args.to.now (sym (append-nil c.args.to.now)) }

pub returns-in_err-number : goal.returns-in_err-number
returns-in_err-number c =
    let p = err_from_is_err_and c.from_residual.result c.from_residual.ensures.1 in
    rw (p.1, p.2) (λ _. amounts-fail c.args.mosts.now c.loop-most.most-index 0 c.args.limit c.args.self.now c.loop-most.self c.args.to.now c.loop-most.to c.loop-most.sum _ c.loop-most-test.true c.loop-most.invariant.read c.in_err-number.ensures.read)

pub loop-most-preserved : goal.loop-most-preserved
loop-most-preserved c =
    let one = c.in_ok-number.ensures.read in
    let left = one.left in
    let room = c.loop-most.invariant.room in
    let number_fits : SFits w128 c.in_ok-number.number = search rules in
    let number_is : to_z w128 (of_z w128 c.in_ok-number.number) ≡ c.in_ok-number.number = to_z-of_z w128 c.in_ok-number.number number_fits in
    let size = rw (number_is) at c.unsigned_abs.ensures.value in
    let pushed = rw (number_is) at c.in_ok-push.ensures.ok in
    record {
      room = omega (arith, left, room);
      read = amounts-more c.args.mosts.now c.loop-most.most-index 0 c.args.limit c.args.self.now c.loop-most.self c.amount.new.self c.args.to.now c.loop-most.to _ c.loop-most.sum _ c.in_ok-number.number c.loop-most-test.true c.loop-most.invariant.read one
          c.in_ok-number.ensures.range pushed (rw (← size) c.capped-sum.ensures);
    }
