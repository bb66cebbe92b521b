use Rattle.std.proofs.Common.{◌*◌, ◌∙◌, ap, sym, arith, length, pos, Err}
use Rattle.std.proofs.lemmas.List.{length-replicate}
use Rattle.std.proofs.lemmas.Result.{err_from_is_err_and, MatchResult-weaker}
use Rattle.md_setting.specs.Meaning.{agent_count}
use Rattle.md_parts.specs.Fields.{any_number}
use Rattle.md_parts.proofs.RecordSteps.{taken-length}
use Rattle.md_parts.proofs.TableSteps.{field-count}
use Rattle.md_asym.proofs.ReadingSteps.{most_mass, rank-masses_fail, rank-missing, rank-names_fail, rank-over, rank-read, rank-within}
use Rattle.md_asym.proofs.mass_records.read_rank.Goals as goal

pub returns-in_err-fields : goal.returns-in_err-fields
returns-in_err-fields c =
    let p = err_from_is_err_and c.from_residual.result c.from_residual.ensures.1 in
    rw (p.1, p.2) (λ ne. rank-missing c.args.setting.now (pos c.args.den) c.args.rank c.requires.rank_in c.bidders.result c.args.reader.now _ c.bidders.ensures.count (c.in_err-fields.ensures ne))

pub returns-in_err-read_names : goal.returns-in_err-read_names
returns-in_err-read_names c =
    let p = err_from_is_err_and c.from_residual-in_err-read_names.result c.from_residual-in_err-read_names.ensures.1 in
    rw (p.1, p.2) (λ _. rank-names_fail c.args.setting.now (pos c.args.den) c.args.rank c.requires.rank_in c.bidders.result c.args.reader.now c.next.new.self c.in_ok-fields.fields _ c.bidders.ensures.count c.in_ok-fields.ensures c.in_err-read_names.ensures)

pub returns-in_err-sum : goal.returns-in_err-sum
returns-in_err-sum c =
    let p = err_from_is_err_and c.from_residual-in_err-sum.result c.from_residual-in_err-sum.ensures.1 in
    rw (p.1, p.2) (λ ne. rank-masses_fail c.args.setting.now (pos c.args.den) c.args.rank c.requires.rank_in c.bidders.result c.args.reader.now c.next.new.self c.in_ok-fields.fields c.read_names.new.fields c.args.mosts.now _ c.bidders.ensures.count c.requires.mosts c.in_ok-fields.ensures c.in_ok-read_names.ensures (c.in_err-sum.ensures ne))

pub read_names-requires-clause-some : goal.read_names-requires-clause-some
read_names-requires-clause-some c =
    let long = taken-length _ (2 * c.bidders.result) c.args.reader.now c.next.new.self c.in_ok-fields.fields c.in_ok-fields.ensures in
    omega (arith, long, c.bidders.ensures.count)

pub amounts-requires-clause-some : goal.amounts-requires-clause-some
amounts-requires-clause-some c =
    let long = taken-length _ (2 * c.bidders.result) c.args.reader.now c.next.new.self c.in_ok-fields.fields c.in_ok-fields.ensures in
    let left = c.in_ok-read_names.ensures.left in
    let mosts = ap length c.requires.mosts ∙ length-replicate (agent_count c.args.setting.now) most_mass in
    let fields = field-count c.args.setting.now c.args.rank 0 any_number c.requires.rank_in in
    omega (arith, long, left, mosts, fields, c.bidders.ensures.count)

pub returns : goal.returns
returns c =
    let s = c.args.setting.now in
    let den = pos c.args.den in
    let rank = c.args.rank in
    let (numbers, reads, items, adds) = c.in_ok-sum.ensures in
    let read = rank-read s den rank c.requires.rank_in c.bidders.result c.args.reader.now c.next.new.self c.in_ok-fields.fields c.read_names.new.fields c.amounts.new.self c.args.mosts.now numbers c.bidders.ensures.count c.requires.mosts c.in_ok-fields.ensures c.in_ok-read_names.ensures reads in
    MatchResult-weaker c.adds_at_most.result c.adds_at_most.ensures
    (λ _ l. (numbers, rank-within s den rank c.requires.rank_in c.whole_at-whole.result c.in_ok-sum.sum c.args.reader.now c.next.new.self numbers read c.whole_at-whole.ensures.value adds l, items))
    (λ refusal (l, is) ne. rank-over s den rank c.requires.rank_in c.whole_at-whole.result c.in_ok-sum.sum c.args.reader.now c.next.new.self numbers read c.whole_at-whole.ensures.value adds l ∙ ap Err (sym is))
