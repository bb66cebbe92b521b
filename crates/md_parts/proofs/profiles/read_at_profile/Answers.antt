use Rattle.std.proofs.Common.{◌≡◌, ◌+◌, ◌∙◌, ap, sym, arith, length, replicate}
use Rattle.std.proofs.lemmas.Result.{err_from_is_err_and, MatchResult-weaker}
use Rattle.md_space.specs.Profiles.{profile_at}
use Rattle.md_setting.specs.Meaning.{sizes_of}
use Rattle.md_parts.specs.Ranges.{ranged_field}
use Rattle.md_parts.specs.Table.{profile_fields}
use Rattle.md_parts.proofs.RecordSteps.{named-read, names-fail, numbers-fail, named-missing, taken-length}
use Rattle.md_parts.proofs.TableSteps.{field-count, name-count, profile-long}
use Rattle.md_parts.proofs.profiles.read_at_profile.Goals as goal

pub returns-in_err-fields : goal.returns-in_err-fields
returns-in_err-fields c =
    let p = err_from_is_err_and c.from_residual.result c.from_residual.ensures.1 in
    let names = profile_fields c.args.setting.now (profile_at (sizes_of c.args.setting.now) c.args.rank) in
    let fields = replicate c.args.count (ranged_field 62 c.args.range) in
    let count : length names + length fields ≡ c.agents_of.result + c.args.count = field-count c.args.setting.now c.args.rank c.args.count (ranged_field 62 c.args.range) c.requires.rank_in ∙ ap (λ n. n + c.args.count) (sym c.agents_of.ensures.value) in
    rw (p.1, p.2) (λ ne. named-missing c.args.word.now names fields (c.agents_of.result + c.args.count) c.args.reader.now _ count (c.in_err-fields.ensures ne))

pub returns-in_err-read_names : goal.returns-in_err-read_names
returns-in_err-read_names c =
    let p = err_from_is_err_and c.from_residual-in_err-read_names.result c.from_residual-in_err-read_names.ensures.1 in
    let names = profile_fields c.args.setting.now (profile_at (sizes_of c.args.setting.now) c.args.rank) in
    let fields = replicate c.args.count (ranged_field 62 c.args.range) in
    let count : length names + length fields ≡ c.agents_of.result + c.args.count = field-count c.args.setting.now c.args.rank c.args.count (ranged_field 62 c.args.range) c.requires.rank_in ∙ ap (λ n. n + c.args.count) (sym c.agents_of.ensures.value) in
    rw (p.1, p.2) (λ _. names-fail c.args.word.now names fields (c.agents_of.result + c.args.count) c.args.reader.now c.next.new.self c.in_ok-fields.fields _ count c.in_ok-fields.ensures c.in_err-read_names.ensures)

pub numbers-requires-clause-some : goal.numbers-requires-clause-some
numbers-requires-clause-some c =
    let names = name-count c.args.setting.now (profile_at (sizes_of c.args.setting.now) c.args.rank) (profile-long c.args.setting.now c.args.rank c.requires.rank_in) in
    let long = taken-length c.args.word.now (c.agents_of.result + c.args.count) c.args.reader.now c.next.new.self c.in_ok-fields.fields c.in_ok-fields.ensures in
    let left = c.in_ok-read_names.ensures.left in
    omega (arith, names, long, left, c.agents_of.ensures.value)

pub returns : goal.returns
returns c =
    let names = profile_fields c.args.setting.now (profile_at (sizes_of c.args.setting.now) c.args.rank) in
    let fields = replicate c.args.count (ranged_field 62 c.args.range) in
    let count : length names + length fields ≡ c.agents_of.result + c.args.count = field-count c.args.setting.now c.args.rank c.args.count (ranged_field 62 c.args.range) c.requires.rank_in ∙ ap (λ n. n + c.args.count) (sym c.agents_of.ensures.value) in
    MatchResult-weaker c.numbers.result c.numbers.ensures
    (λ sum (numbers, reads, items, adds). (numbers, named-read c.args.word.now names fields (c.agents_of.result + c.args.count) c.args.reader.now c.next.new.self c.in_ok-fields.fields c.read_names.new.fields _ _ numbers count c.in_ok-fields.ensures c.in_ok-read_names.ensures reads, items, adds))
    (λ refusal fails ne. numbers-fail c.args.word.now names fields (c.agents_of.result + c.args.count) c.args.reader.now c.next.new.self c.in_ok-fields.fields c.read_names.new.fields _ refusal count c.in_ok-fields.ensures c.in_ok-read_names.ensures (fails ne))
