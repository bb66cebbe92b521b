use Rattle.std.proofs.Common.{◌≡◌, ◌<◌, ◌≤◌, ◌+◌, ◌*◌, ◌^◌, ℕ, ◌∙◌, sym, ap, subst}
use Rattle.md_num.specs.Limits.{limit_of}
use Rattle.md_math.specs.Lists.{number_at}
use Rattle.md_math.specs.Sizes.{IsWithin}
use Rattle.md_math.proofs.SizeLaws.{AllWithin-wider}
use Rattle.md_lp.specs.Program.{row_count}
use Rattle.md_dict.specs.FirstTable.{column_count}
use Rattle.md_dict.specs.Condensed.{entry_at, IsShapedDictionary}
use Rattle.md_dict.specs.Wide.{IsNarrow}
use Rattle.md_dict.specs.Rows.{kept_of}
use Rattle.md_dict.specs.Start.{IsStart, first_value}
use Rattle.md_dict.proofs.Exchange.{limit_le}
use Rattle.md_dict.proofs.Values.{read_limit, IsNarrow-shaped}
use Rattle.md_dict.proofs.FirstLaws.{IsWhole, IsStart-first_value, IsShaped-first_value, IsWideBasis-first}
use Rattle.md_dict.proofs.Tables.{first_value_by}
use Rattle.md_dict.proofs.dict.Dict.start.Goals as goal

pub returns-in-Some-clause-refused : goal.returns-in-Some-clause-refused
returns-in-Some-clause-refused c =
    let limit : c.unsigned_abs-limit.result ≡ limit_of c.args.width = read_limit c.args.width c.unsigned_abs-limit.result c.limit.result c.limit.ensures.range.1 c.limit.ensures.value c.unsigned_abs-limit.ensures.value in
    let whole : IsWhole c.args.lp.now c.in-Ok.numbers.items = record { built = c.in-Ok.ensures.built; long = c.in-Ok.ensures.length ∙ ap (λ n. (row_count c.args.lp.now + 2) * (n + 1)) c.first_columns-columns.ensures.value } in
    IsWideBasis-first c.args.lp.now c.args.width c.in-Ok.numbers.items c.in-Some.entry c.limit.ensures.range.0 whole
    (rw (c.as_slice.ensures.value, c.rows-rows.ensures.value, c.first_columns-columns.ensures.value, limit) at c.in-Some.ensures)

pub whole-requires-clause-size : goal.whole-requires-clause-size
whole-requires-clause-size c =
    let limit : c.unsigned_abs-limit.result ≡ limit_of c.args.width = read_limit c.args.width c.unsigned_abs-limit.result c.limit.result c.limit.ensures.range.1 c.limit.ensures.value c.unsigned_abs-limit.ensures.value in
    let whole : IsWhole c.args.lp.now c.in-Ok.numbers.items = record { built = c.in-Ok.ensures.built; long = c.in-Ok.ensures.length ∙ ap (λ n. (row_count c.args.lp.now + 2) * (n + 1)) c.first_columns-columns.ensures.value } in
    let narrow : (r s : ℕ) → r < row_count c.args.lp.now + 2 → s < column_count c.args.lp.now + 1 → IsWithin (limit_of c.args.width) (number_at c.in-Ok.numbers.items (r * (column_count c.args.lp.now + 1) + s)) =
    rw (c.as_slice.ensures.value, c.rows-rows.ensures.value, c.first_columns-columns.ensures.value, limit) at c.in_default-wide_first.ensures in
    let columns : column_count c.args.lp.now ≤ 73728 = subst (λ n. n ≤ 73728) c.first_columns-columns.ensures.value c.first_columns-columns.ensures.size in
    let shaped : IsShapedDictionary (first_value c.args.lp.now c.args.width c.in-Ok.numbers.items) =
    IsShaped-first_value c.args.lp.now c.args.width c.in-Ok.numbers.items c.rows-rows.ensures.shaped.count columns c.limit.ensures.range.0 c.limit.ensures.range.1 whole narrow in
    AllWithin-wider (limit_of c.args.width) (2 ^ 62) c.in-Ok.numbers.items (limit_le c.args.width c.limit.ensures.range.1) shaped.kept_size

pub invariant_of-result : goal.invariant_of-result
invariant_of-result c =
    let limit : c.unsigned_abs-limit.result ≡ limit_of c.args.width = read_limit c.args.width c.unsigned_abs-limit.result c.limit.result c.limit.ensures.range.1 c.limit.ensures.value c.unsigned_abs-limit.ensures.value in
    let whole : IsWhole c.args.lp.now c.in-Ok.numbers.items = record { built = c.in-Ok.ensures.built; long = c.in-Ok.ensures.length ∙ ap (λ n. (row_count c.args.lp.now + 2) * (n + 1)) c.first_columns-columns.ensures.value } in
    let narrow : (r s : ℕ) → r < row_count c.args.lp.now + 2 → s < column_count c.args.lp.now + 1 → IsWithin (limit_of c.args.width) (number_at c.in-Ok.numbers.items (r * (column_count c.args.lp.now + 1) + s)) =
    rw (c.as_slice.ensures.value, c.rows-rows.ensures.value, c.first_columns-columns.ensures.value, limit) at c.in_default-wide_first.ensures in
    let columns : column_count c.args.lp.now ≤ 73728 = subst (λ n. n ≤ 73728) c.first_columns-columns.ensures.value c.first_columns-columns.ensures.size in (
      subst IsShapedDictionary
          (sym (first_value_by c.args.lp.now c.args.width c.rows-rows.result c.first_columns-columns.result c.in-Ok-numbers_to.order.items c.in-Ok-numbers_to-2.seat.items (kept_of (c.rows-rows.result + 2) c.in-Ok-whole.table) c.in-Ok.numbers.items c.in-Ok-whole.ensures.kept c.rows-rows.ensures.value c.first_columns-columns.ensures.value c.in-Ok-numbers_to.ensures c.in-Ok-numbers_to-2.ensures))
          (IsShaped-first_value c.args.lp.now c.args.width c.in-Ok.numbers.items c.rows-rows.ensures.shaped.count columns c.limit.ensures.range.0 c.limit.ensures.range.1 whole narrow),
      record { width = c.in-Ok-whole.ensures.width; table = c.in-Ok-whole.ensures.rows },
      c.in-Ok-new.ensures,
    )

pub returns-clause-ok : goal.returns-clause-ok
returns-clause-ok c =
    let whole : IsWhole c.args.lp.now c.in-Ok.numbers.items = record { built = c.in-Ok.ensures.built; long = c.in-Ok.ensures.length ∙ ap (λ n. (row_count c.args.lp.now + 2) * (n + 1)) c.first_columns-columns.ensures.value } in
    subst (IsStart c.args.lp.now c.args.width)
    (sym (first_value_by c.args.lp.now c.args.width c.rows-rows.result c.first_columns-columns.result c.in-Ok-numbers_to.order.items c.in-Ok-numbers_to-2.seat.items (kept_of (c.rows-rows.result + 2) c.in-Ok-whole.table) c.in-Ok.numbers.items c.in-Ok-whole.ensures.kept c.rows-rows.ensures.value c.first_columns-columns.ensures.value c.in-Ok-numbers_to.ensures c.in-Ok-numbers_to-2.ensures))
    (IsStart-first_value c.args.lp.now c.args.width c.in-Ok.numbers.items whole)

pub returns-clause-narrow : goal.returns-clause-narrow
returns-clause-narrow c =
    let limit : c.unsigned_abs-limit.result ≡ limit_of c.args.width = read_limit c.args.width c.unsigned_abs-limit.result c.limit.result c.limit.ensures.range.1 c.limit.ensures.value c.unsigned_abs-limit.ensures.value in
    let whole : IsWhole c.args.lp.now c.in-Ok.numbers.items = record { built = c.in-Ok.ensures.built; long = c.in-Ok.ensures.length ∙ ap (λ n. (row_count c.args.lp.now + 2) * (n + 1)) c.first_columns-columns.ensures.value } in
    let narrow : (r s : ℕ) → r < row_count c.args.lp.now + 2 → s < column_count c.args.lp.now + 1 → IsWithin (limit_of c.args.width) (number_at c.in-Ok.numbers.items (r * (column_count c.args.lp.now + 1) + s)) =
    rw (c.as_slice.ensures.value, c.rows-rows.ensures.value, c.first_columns-columns.ensures.value, limit) at c.in_default-wide_first.ensures in
    let columns : column_count c.args.lp.now ≤ 73728 = subst (λ n. n ≤ 73728) c.first_columns-columns.ensures.value c.first_columns-columns.ensures.size in
    let first = first_value c.args.lp.now c.args.width c.in-Ok.numbers.items in
    subst (λ d. IsNarrow d.rows d.columns (limit_of c.args.width) (entry_at d))
    (sym (first_value_by c.args.lp.now c.args.width c.rows-rows.result c.first_columns-columns.result c.in-Ok-numbers_to.order.items c.in-Ok-numbers_to-2.seat.items (kept_of (c.rows-rows.result + 2) c.in-Ok-whole.table) c.in-Ok.numbers.items c.in-Ok-whole.ensures.kept c.rows-rows.ensures.value c.first_columns-columns.ensures.value c.in-Ok-numbers_to.ensures c.in-Ok-numbers_to-2.ensures))
    (IsNarrow-shaped first (IsShaped-first_value c.args.lp.now c.args.width c.in-Ok.numbers.items c.rows-rows.ensures.shaped.count columns c.limit.ensures.range.0 c.limit.ensures.range.1 whole narrow))
