use Rattle.std.proofs.Common.{◌≡◌, ◌^◌, get_or, to_z, of_z, lit<, sym, refl, arith}
use mir.Syntax.{w128}
use Rattle.std.proofs.lemmas.Int.{to_z-of_z}
use Rattle.md_math.specs.Sizes.{IsWithin}
use Rattle.md_math.proofs.Bits.{read_within, read_result}
use Rattle.md_lp.specs.declared.term.Term.{Term}
use Rattle.md_lp.specs.Stored.{shown_term, shown_terms}
use Rattle.md_lp.proofs.StoredTerms.{shown-push}
use Rattle.md_lp.proofs.SparseRows.{no_term}
use Rattle.md_lp.proofs.Dividing.{IsDividedTerms-more}
use Rattle.md_lp.proofs.divide.divided_terms.Goals as goal

pub exact_quotient-requires-clause-exact : goal.exact_quotient-requires-clause-exact
exact_quotient-requires-clause-exact c =
    let i = c.loop-term.term-index in
    let item = get_or c.args.terms.now i no_term in
    rw (to_z-of_z w128 c.args.by c.ranges.by, read_within (2 ^ 44) item.value (c.requires.sizes i no_term c.loop-term-test.true) (lit< tt)) (c.requires.exact i no_term c.loop-term-test.true)

pub loop-term-preserved : goal.loop-term-preserved
loop-term-preserved c =
    let i = c.loop-term.term-index in
    let item = get_or c.args.terms.now i no_term in
    let back : to_z w128 (of_z w128 item.value) ≡ item.value = read_within (2 ^ 44) item.value (c.requires.sizes i no_term c.loop-term-test.true) (lit< tt) in
    let by : to_z w128 (of_z w128 c.args.by) ≡ c.args.by = to_z-of_z w128 c.args.by c.ranges.by in
    let quotient = rw (by, back) at c.exact_quotient.ensures.value in
    let before = rw by at c.loop-term.invariant in
    let pushed : Term = record { column = item.column; value = c.exact_quotient.result } in
    let shown : shown_term c.stored_term.result ≡ pushed = rw (read_result c.exact_quotient.result c.exact_quotient.type_inv) at c.stored_term.ensures in
    rw (c.in_ok-push.ensures.items, by, shown-push c.loop-term.divided.items c.stored_term.result, shown)
    (IsDividedTerms-more c.args.by c.args.terms.now (shown_terms c.loop-term.divided.items) i pushed c.loop-term-test.true before refl (sym quotient))

pub stored_term-requires-clause-value : goal.stored_term-requires-clause-value
stored_term-requires-clause-value c =
    let i = c.loop-term.term-index in
    let item = get_or c.args.terms.now i no_term in
    let small : IsWithin (2 ^ 44) item.value = c.requires.sizes i no_term c.loop-term-test.true in
    let back : to_z w128 (of_z w128 item.value) ≡ item.value = read_within (2 ^ 44) item.value small (lit< tt) in
    let size = rw back at c.exact_quotient.ensures.size in
    rw (read_result c.exact_quotient.result c.exact_quotient.type_inv) (record { within = omega (arith, size, small.within) })
