use Rattle.std.proofs.Common.{◌≡◌, ◌*◌, ◌+◌, ◌∙◌, ap, sym, arith, length, pos, ◌*ℤ◌, Err}
use Rattle.std.proofs.lemmas.Result.{err_from_is_err_and, MatchResult-weaker}
use Rattle.md_setting.specs.Auction.{value_count}
use Rattle.md_parts.proofs.RecordSteps.{taken-length}
use Rattle.md_answer.specs.MassReading.{count_fields, most_masses}
use Rattle.md_answer.specs.Supplies.{units_in}
use Rattle.md_answer.proofs.MassSteps.{rank-missing, rank-counts-fail, rank-masses-fail, rank-read, rank-within, rank-over, counts-long, mosts-long}
use Rattle.md_answer.proofs.mass_reading.read_rank.Goals as goal

pub returns-in_err-fields : goal.returns-in_err-fields
returns-in_err-fields c =
    let p = err_from_is_err_and c.from_residual-in_err-fields.result c.from_residual-in_err-fields.ensures.1 in
    let count : 2 * c.kinds.result ≡ 2 * value_count c.args.auction.now = ap (λ n. 2 * n) c.kinds.ensures.count in
    rw (p.1, p.2) (λ ne. rank-missing c.args.supply.now c.args.auction.now (pos c.args.den) c.args.rank (2 * c.kinds.result) c.args.reader.now _ count (c.in_err-fields.ensures ne))

pub returns-in_err-read_counts : goal.returns-in_err-read_counts
returns-in_err-read_counts c =
    let p = err_from_is_err_and c.from_residual-in_err-read_counts.result c.from_residual-in_err-read_counts.ensures.1 in
    let count : 2 * c.kinds.result ≡ 2 * value_count c.args.auction.now = ap (λ n. 2 * n) c.kinds.ensures.count in
    rw (p.1, p.2) (λ _. rank-counts-fail c.args.supply.now c.args.auction.now (pos c.args.den) c.args.rank (2 * c.kinds.result) c.args.reader.now c.next.new.self c.in_ok-fields.fields _ count c.in_ok-fields.ensures c.in_err-read_counts.ensures)

pub returns-in_err-sum : goal.returns-in_err-sum
returns-in_err-sum c =
    let p = err_from_is_err_and c.from_residual-in_err-sum.result c.from_residual-in_err-sum.ensures.1 in
    let count : 2 * c.kinds.result ≡ 2 * value_count c.args.auction.now = ap (λ n. 2 * n) c.kinds.ensures.count in
    rw (p.1, p.2) (λ ne. rank-masses-fail c.args.supply.now c.args.auction.now (pos c.args.den) c.args.rank (2 * c.kinds.result) c.args.reader.now c.next.new.self c.in_ok-fields.fields c.read_counts.new.fields c.deref.result.now _ count (c.deref.ensures.value ∙ c.in_ok-mosts.ensures) c.in_ok-fields.ensures c.in_ok-read_counts.ensures (c.in_err-sum.ensures ne))

pub read_counts-requires-clause-some : goal.read_counts-requires-clause-some
read_counts-requires-clause-some c =
    let long = taken-length _ (2 * c.kinds.result) c.args.reader.now c.next.new.self c.in_ok-fields.fields c.in_ok-fields.ensures in
    omega (arith, long, c.kinds.ensures.count)

pub amounts-requires-clause-some : goal.amounts-requires-clause-some
amounts-requires-clause-some c =
    let long = taken-length _ (2 * c.kinds.result) c.args.reader.now c.next.new.self c.in_ok-fields.fields c.in_ok-fields.ensures in
    let left = c.in_ok-read_counts.ensures.left in
    let mosts = ap length (c.deref.ensures.value ∙ c.in_ok-mosts.ensures) in
    omega (arith, long, left, mosts, c.kinds.ensures.count, counts-long c.args.auction.now c.args.rank, mosts-long c.args.supply.now c.args.auction.now (pos c.args.den) c.args.rank)

pub returns : goal.returns
returns c =
    let a = c.args.auction.now in
    let (numbers, reads, items, adds) = c.in_ok-sum.ensures in
    let count : 2 * c.kinds.result ≡ 2 * value_count a = ap (λ n. 2 * n) c.kinds.ensures.count in
    let read = rank-read c.args.supply.now a (pos c.args.den) c.args.rank (2 * c.kinds.result) c.args.reader.now c.next.new.self c.in_ok-fields.fields c.read_counts.new.fields c.amounts.new.self c.deref.result.now numbers count (c.deref.ensures.value ∙ c.in_ok-mosts.ensures) c.in_ok-fields.ensures c.in_ok-read_counts.ensures reads in
    let given = c.whole-whole.ensures.value ∙ ap (λ z. pos (units_in c.args.supply.now) *ℤ z) c.weight_at.ensures.value in
    MatchResult-weaker c.adds_at_most.result c.adds_at_most.ensures
    (λ _ l. (numbers, rank-within c.args.supply.now a (pos c.args.den) c.args.rank c.whole-whole.result c.in_ok-sum.sum c.args.reader.now c.next.new.self numbers read given adds l, items))
    (λ refusal (l, is) ne. rank-over c.args.supply.now a (pos c.args.den) c.args.rank c.whole-whole.result c.in_ok-sum.sum c.args.reader.now c.next.new.self numbers read given adds l ∙ ap Err (sym is))
