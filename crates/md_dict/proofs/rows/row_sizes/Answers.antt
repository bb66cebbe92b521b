use Rattle.std.proofs.Common.{◌≡◌, ◌+◌, ◌*◌, [], ◌∷◌, ◌++◌, arith}
use Rattle.std.proofs.lemmas.List.{length_push}
use Rattle.md_math.specs.Lists.{number_at}
use Rattle.md_dict_division.proofs.Reading.{read_short}
use Rattle.md_dict.proofs.RowLaws.{sizes_pushed}
use Rattle.md_dict.proofs.rows.row_sizes.Goals as goal

pub loop-row-preserved : goal.loop-row-preserved
loop-row-preserved c =
    let items : c.push.new.self.items ≡ c.loop-row.sizes.items ++ c.row_size.result ∷ [] = rw (read_short c.row_size.result c.row_size.ensures.small) at c.in_ok-push.ensures.items in
    rw items (
      omega (arith, length_push c.loop-row.sizes.items c.row_size.result, c.loop-row.invariant.0),
      sizes_pushed c.loop-row.row c.args.width (λ i s. number_at c.args.numbers.now (i * c.args.width + s)) c.loop-row.sizes.items c.row_size.result c.loop-row.invariant.0 c.loop-row.invariant.1 c.row_size.ensures,
    )
