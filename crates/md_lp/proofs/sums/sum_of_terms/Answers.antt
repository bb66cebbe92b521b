use Rattle.std.proofs.Common.{◌-◌, ◌^◌, ◌<◌, ◌*ℤ◌, length, sym, ◌∙◌, arith}
use Rattle.md_math.specs.Lists.{number_at}
use Rattle.md_math.proofs.SizeLaws.{AllWithin-number_at}
use Rattle.md_math.proofs.TotalLaws.{total_by-take}
use Rattle.md_math.proofs.Bits.{read_short_result, read_result}
use Rattle.md_lp.specs.declared.term.Term.{Term}
use Rattle.md_lp.specs.Stored.{shown_terms}
use Rattle.md_lp.proofs.SparseRows.{no_term}
use Rattle.md_lp.proofs.StoredTerms.{at_shown, column_in-shown, length-shown, value_size}
use Rattle.md_lp.proofs.SumSizes.{term_room}
use Rattle.md_lp.proofs.sums.sum_of_terms.Goals as goal

pub add_step-sum-requires : goal.add_step-sum-requires
add_step-sum-requires c =
    let i = c.loop-term.term-index in
    let terms = shown_terms c.args.terms.now in
    let inside : i < length terms = omega (arith, length-shown c.args.terms.now, c.loop-term-test.true) in
    let room = rw (at_shown c.args.terms.now i) at (term_room _ terms c.args.numbers.now i c.requires.few c.requires.places c.requires.values c.requires.sizes inside) in
    rw (c.loop-term.invariant, read_short_result c.value.result c.value.type_inv, c.value.ensures, read_result c.get.result c.get.type_inv, c.get.ensures, c.column.ensures) (record {
      value = value_size (2 ^ 44) c.args.terms.now i c.requires.values c.loop-term-test.true;
      number = AllWithin-number_at (2 ^ 62 - 1) c.args.numbers.now _ c.requires.sizes;
      room = room;
    })

pub loop-term-preserved : goal.loop-term-preserved
loop-term-preserved c =
    let i = c.loop-term.term-index in
    let terms = shown_terms c.args.terms.now in
    let inside : i < length terms = omega (arith, length-shown c.args.terms.now, c.loop-term-test.true) in
    let value = rw (c.loop-term.invariant, read_short_result c.value.result c.value.type_inv, c.value.ensures, read_result c.get.result c.get.type_inv, c.get.ensures, c.column.ensures) at c.add_step-sum.ensures in
    let more = rw (at_shown c.args.terms.now i) at (total_by-take (λ (t : Term). t.value *ℤ number_at c.args.numbers.now t.column) terms i no_term inside) in
    rw (read_result c.add_step-sum.result c.add_step-sum.type_inv) (value ∙ sym more)

pub get-requires : goal.get-requires
get-requires c =
    let i = c.loop-term.term-index in
    let inside : i < length (shown_terms c.args.terms.now) = omega (arith, length-shown c.args.terms.now, c.loop-term-test.true) in
    rw (c.column.ensures, ← column_in-shown c.args.terms.now i) (c.requires.places.below i inside)
