use Rattle.std.proofs.Common.{◌≡◌, unsigned_abs, ap, ◌∙◌, subst, ◌<◌, ◌^◌, ◌-◌, arith}
use Rattle.std.proofs.lemmas.Bool.{leb-true, ltb-true}
use Rattle.md_dict_division.proofs.Reading.{read_short}
use Rattle.md_dict_rows.proofs.Reducing.{AreHalves-from_sizes, AreShort-from_sizes}
use Rattle.md_dict_rows.proofs.reach.Reach.of.Goals as goal

pub returns-then-joined-le-GREATEST_HALF : goal.returns-then-joined-le-GREATEST_HALF
returns-then-joined-le-GREATEST_HALF c = λ own taken h k.
    let multiplier : c.unsigned_abs.result ≡ unsigned_abs c.args.combination.now.multiplier = c.unsigned_abs.ensures.value ∙ ap unsigned_abs (read_short c.args.combination.now.multiplier c.requires.multiplier) in
    let factor : c.unsigned_abs-2.result ≡ unsigned_abs c.args.combination.now.factor = c.unsigned_abs-2.ensures.value ∙ ap unsigned_abs (read_short c.args.combination.now.factor c.requires.factor) in
    let joined = rw (multiplier, factor) at c.if-joined-le-GREATEST_HALF.true in
    record {
      short = λ l. AreShort-from_sizes c.args.combination.now own taken c.args.own_size c.args.taken_size h k (subst (λ n. n < 2 ^ 63) c.bound.ensures l);
      half = λ t. AreHalves-from_sizes c.args.combination.now own taken c.args.own_size c.args.taken_size c.args.limit h k joined (ltb-true (2 ^ 31 - 1) c.args.limit t);
    }

pub returns-else-joined-le-GREATEST_HALF : goal.returns-else-joined-le-GREATEST_HALF
returns-else-joined-le-GREATEST_HALF c = λ own taken h k. record {
  short = λ l. AreShort-from_sizes c.args.combination.now own taken c.args.own_size c.args.taken_size h k (subst (λ n. n < 2 ^ 63) c.bound.ensures l);
  half = λ t. absurd (let le = leb-true _ _ t in omega (arith, le, c.if-joined-le-GREATEST_HALF.false));
}
