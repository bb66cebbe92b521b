use Rattle.std.proofs.Common.{◌≡◌, length}
use Rattle.std.proofs.lemmas.Result.{IfOk-weaker}
use Rattle.md_lp.specs.Program.{row_count}
use Rattle.md_dict.specs.Condensed.{entry_at}
use Rattle.md_math.specs.Lists.{number_at}
use Rattle.md_simplex.specs.Reading.{IsReadList, face_multiplier}
use Rattle.md_simplex.proofs.ReadDictionary.{face_read}
use Rattle.md_simplex.proofs.reading.face_of.Goals as goal

pub returns-clause-face : goal.returns-clause-face
returns-clause-face c =
    let p = c.args.lp.now in
    let d = c.args.dict.now in
    let numbers = c.in_ok-numbers.numbers.items in
    let value = rw c.rows.ensures.value at c.in_ok-numbers.ensures.value in
    let slice : c.as_slice.result.now ≡ numbers = c.as_slice.ensures.value in
    let given = rw slice at c.reduced.ensures in
    IfOk-weaker c.reduced.result (IsReadList (length numbers) (number_at numbers)) (IsReadList (row_count p) (face_multiplier p (entry_at d)))
    (λ face h. face_read p d c.requires numbers face value h) given
