use Rattle.std.proofs.Common.{◌^◌}
use Rattle.std.proofs.lemmas.Result.{IfOk-weaker}
use Rattle.md_simplex.proofs.ReadSteps.{entry_small, entry_back, AllWithin-put}
use Rattle.md_simplex.proofs.ReadDictionary.{ray_read}
use Rattle.md_simplex.proofs.reading.ray_of.Goals as goal

pub reduced-requires : goal.reduced-requires
reduced-requires c =
    let d = c.args.dict.now in
    let put = rw (entry_back d c.den.result c.basic_numbers.ensures.shape c.den.ensures.size) at c.put.ensures in
    rw c.as_slice.ensures.value
    (AllWithin-put (2 ^ 62) c.args.column c.den.result c.in_ok-numbers.numbers.items c.put.new.numbers.items c.in_ok-numbers.ensures.size (entry_small d c.den.result c.basic_numbers.ensures.shape c.den.ensures.size) put)

pub returns : goal.returns
returns c =
    let p = c.args.lp.now in
    let d = c.args.dict.now in
    let before = c.in_ok-numbers.numbers.items in
    let numbers = c.put.new.numbers.items in
    let put = rw (entry_back d c.den.result c.basic_numbers.ensures.shape c.den.ensures.size, c.den.ensures.value) at c.put.ensures in
    let value = rw c.columns.ensures.value at c.in_ok-numbers.ensures.value in
    let long = rw c.columns.ensures.value at c.in_ok-numbers.ensures.length in
    let given = rw c.as_slice.ensures.value at c.reduced.ensures in
    IfOk-weaker c.reduced.result _ _
    (λ ray h. ray_read p d c.requires.holds c.args.column before numbers ray c.requires.column c.requires.no_row long value put h) given
