use Rattle.std.proofs.Common.{◌≡◌, ◌≤◌, ◌^◌, unsigned_abs, ◌∙◌, ap, inl, inr, below_more, arith}
use Rattle.std.proofs.lemmas.Bool.{cases_lt}
use Rattle.md_math.specs.Lists.{number_at}
use Rattle.md_math.specs.Sizes.{IsWithin}
use Rattle.md_dict_division.proofs.Reading.{read_short}
use Rattle.md_dict_rows.proofs.sizes.greatest_size.Goals as goal

pub loop-x-preserved : goal.loop-x-preserved
loop-x-preserved c =
    let small : IsWithin (2 ^ 62) (number_at c.args.numbers.now c.loop-x.x-index) = c.requires.at c.loop-x.x-index c.loop-x-test.true in
    let size : c.unsigned_abs.result ≡ unsigned_abs (number_at c.args.numbers.now c.loop-x.x-index) = c.unsigned_abs.ensures.value ∙ ap unsigned_abs (read_short (number_at c.args.numbers.now c.loop-x.x-index) small) in
    let limit : unsigned_abs (number_at c.args.numbers.now c.loop-x.x-index) ≤ 2 ^ 62 = small.within in
    let most = c.loop-x.invariant.2 in (
      below_more (λ k. unsigned_abs (number_at c.args.numbers.now k) ≤ c.max-greatest.result) c.loop-x.x-index
          (λ k b. let p : unsigned_abs (number_at c.args.numbers.now k) ≤ c.loop-x.greatest = c.loop-x.invariant.0 k b in omega arith) (omega arith),
      elim (cases_lt c.loop-x.greatest (unsigned_abs (number_at c.args.numbers.now c.loop-x.x-index))) [
        | inl l ↦ inr (c.loop-x.x-index, c.loop-x-test.true, omega arith)
        | inr l ↦ elim c.loop-x.invariant.1 [ inl a ↦ inl (omega arith) | inr (k, b, a) ↦ inr (k, b, omega arith) ]
      ],
      omega arith,
    )

pub returns-clause-greatest : goal.returns-clause-greatest
returns-clause-greatest c = record { bound = λ s l. record { within = c.loop-x.invariant.0 s (omega (arith, l, c.loop-x-test.false)) }; reached = c.loop-x.invariant.1 }
