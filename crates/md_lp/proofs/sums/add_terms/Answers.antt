use Rattle.std.proofs.Common.{◌≡◌, ◌-◌, ◌*◌, ◌+◌, ◌^◌, ◌<◌, ◌≤◌, ◌+ℤ◌, ◌*ℤ◌, get_or, to_z, of_z, length, unsigned_abs, lit<, arith}
use mir.Syntax.{w64, w128}
use Rattle.md_math.specs.Lists.{number_at}
use Rattle.md_math.proofs.Bits.{read_within, read_short_result, read_result}
use Rattle.md_lp.specs.Shape.{column_in}
use Rattle.md_lp.specs.Stored.{kept_column, kept_value, shown_terms}
use Rattle.md_lp.proofs.SparseRows.{no_term}
use Rattle.md_lp.proofs.StoredTerms.{no_stored, at_shown, column_in-shown, value-shown, length-shown, value_size}
use Rattle.md_lp.proofs.RowRuns.{AddsSoFar-more, AddsRow-past, run_room}
use Rattle.md_lp.proofs.sums.add_terms.Goals as goal

pub add_step-requires : goal.add_step-requires
add_step-requires c =
    let i = c.loop-term.term-index in
    let terms = shown_terms c.args.terms.now in
    let item = get_or c.args.terms.now i no_stored in
    let at = number_at c.loop-term.sums (kept_column item - c.args.first) in
    let inside : i < length terms = omega (arith, length-shown c.args.terms.now, c.loop-term-test.true) in
    let here_in = rw c.column.ensures at c.if-place-sums.false in
    let value : to_z w64 (of_z w64 c.value.result) ≡ c.value.result = read_short_result c.value.result c.value.type_inv in
    let weight : to_z w128 (of_z w128 (number_at c.args.weights.now c.args.row)) ≡ (number_at c.args.weights.now c.args.row) = read_within (2 ^ 62 - 1) (number_at c.args.weights.now c.args.row) c.requires.weight (lit< tt) in
    let before = c.loop-term.invariant in
    let room : unsigned_abs at + unsigned_abs (kept_value item) * unsigned_abs (number_at c.args.weights.now c.args.row) < 2 ^ 126 =
    rw (at_shown c.args.terms.now i) at (run_room terms i c.args.first (number_at c.args.weights.now c.args.row) c.args.sums.now c.loop-term.sums (kept_column item - c.args.first) c.requires.ascending c.requires.values c.requires.weight c.requires.room before inside here_in) in
    let sum : to_z w128 (of_z w128 at) ≡ at = read_within (2 ^ 126) at (record { within = omega (arith, room) }) (lit< tt) in
    rw (c.column.ensures, sum, value, c.value.ensures, weight) (record { value = value_size (2 ^ 44) c.args.terms.now i c.requires.values c.loop-term-test.true; number = c.requires.weight; room = room })

pub loop-term-preserved : goal.loop-term-preserved
loop-term-preserved c =
    let i = c.loop-term.term-index in
    let terms = shown_terms c.args.terms.now in
    let item = get_or c.args.terms.now i no_stored in
    let at = number_at c.loop-term.sums (kept_column item - c.args.first) in
    let inside : i < length terms = omega (arith, length-shown c.args.terms.now, c.loop-term-test.true) in
    let here_in = rw c.column.ensures at c.if-place-sums.false in
    let value : to_z w64 (of_z w64 c.value.result) ≡ c.value.result = read_short_result c.value.result c.value.type_inv in
    let weight : to_z w128 (of_z w128 (number_at c.args.weights.now c.args.row)) ≡ (number_at c.args.weights.now c.args.row) = read_within (2 ^ 62 - 1) (number_at c.args.weights.now c.args.row) c.requires.weight (lit< tt) in
    let before = c.loop-term.invariant in
    let room : unsigned_abs at + unsigned_abs (kept_value item) * unsigned_abs (number_at c.args.weights.now c.args.row) < 2 ^ 126 =
    rw (at_shown c.args.terms.now i) at (run_room terms i c.args.first (number_at c.args.weights.now c.args.row) c.args.sums.now c.loop-term.sums (kept_column item - c.args.first) c.requires.ascending c.requires.values c.requires.weight c.requires.room before inside here_in) in
    let sum : to_z w128 (of_z w128 at) ≡ at = read_within (2 ^ 126) at (record { within = omega (arith, room) }) (lit< tt) in
    let added = rw (c.column.ensures, sum, value, c.value.ensures, weight) at c.add_step.ensures in
    let from : c.args.first ≤ column_in terms i = c.requires.from i c.loop-term-test.true in
    let here : column_in terms i ≡ kept_column item = column_in-shown c.args.terms.now i in
    let sum_is : c.add_step.result ≡ number_at c.loop-term.sums (column_in terms i - c.args.first) +ℤ (get_or terms i no_term).value *ℤ (number_at c.args.weights.now c.args.row) =
    rw (here, value-shown c.args.terms.now i) added in
    rw (read_result c.add_step.result c.add_step.type_inv, c.column.ensures, ← here)
    (AddsSoFar-more terms i c.args.first (number_at c.args.weights.now c.args.row) c.add_step.result c.args.sums.now c.loop-term.sums inside from before sum_is)

pub returns-then-place-sums : goal.returns-then-place-sums
returns-then-place-sums c =
    let i = c.loop-term.term-index in
    let terms = shown_terms c.args.terms.now in
    let inside : i < length terms = omega (arith, length-shown c.args.terms.now, c.loop-term-test.true) in
    let before = c.loop-term.invariant in
    let past : length c.loop-term.sums ≤ column_in terms i - c.args.first = rw (column_in-shown c.args.terms.now i, ← c.column.ensures) c.if-place-sums.true in
    AddsRow-past terms i c.args.first (number_at c.args.weights.now c.args.row) c.args.sums.now c.loop-term.sums c.requires.ascending inside (c.requires.from i c.loop-term-test.true) past before

pub overflow_sub-place : goal.overflow_sub-place
overflow_sub-place c = rw (c.column.ensures, ← column_in-shown c.args.terms.now c.loop-term.term-index) (c.requires.from c.loop-term.term-index c.loop-term-test.true)
