use Rattle.std.proofs.Common.{◌≡◌, ◌⊎◌, ◌≤◌, ◌∷◌, [], ◌++◌, length, take, inl, inr, sym, ap, ◌∙◌, arith}
use Rattle.std.proofs.lemmas.Bool.{cases_lt}
use Rattle.md_math.specs.Lists.{number_at}
use Rattle.md_math.proofs.Bits.{read_result}
use Rattle.md_records.specs.Written.{text_of_records}
use Rattle.md_replay.specs.Records.{basis_record, basis_records}
use Rattle.md_replay.proofs.RecordLaws.{basis_records-all, basis_records-more, text_of_records-more}
use Rattle.md_replay.proofs.text.bases_text.Goals as goal

pub loop-place-preserved : goal.loop-place-preserved
loop-place-preserved c =
    let dens = c.args.dens.now in
    let greatest = c.args.greatest.now in
    let place = c.loop-place.place in
    let row_is : c.in_ok-row.row ≡ basis_record place (number_at dens place) (number_at greatest place) =
    rw (read_result c.get.result c.get.type_inv, read_result c.get-in-loop-place.result c.get-in-loop-place.type_inv, c.get.ensures, c.get-in-loop-place.ensures) at c.in_ok-row.ensures in
    c.in_ok-add_records.ensures
    ∙ ap (λ xs. xs ++ text_of_records (c.in_ok-row.row ∷ [])) c.loop-place.invariant
    ∙ ap (λ row. text_of_records (basis_records 0 (take place dens) (take place greatest)) ++ text_of_records (row ∷ [])) row_is
    ∙ sym (text_of_records-more (basis_records 0 (take place dens) (take place greatest)) (basis_record place (number_at dens place) (number_at greatest place) ∷ []))
    ∙ sym (ap text_of_records (basis_records-more dens greatest place (omega arith) (omega arith)))

pub returns : goal.returns
returns c =
    let dens = c.args.dens.now in
    let greatest = c.args.greatest.now in
    let place = c.loop-place.place in
    let past : (length dens ≤ place) ⊎ (length greatest ≤ place) = elim (cases_lt place (length dens)) [
      | inl l ↦ inr (omega arith)
      | inr l ↦ inl l
    ] in
    c.loop-place.invariant ∙ ap text_of_records (basis_records-all 0 dens greatest place past)
