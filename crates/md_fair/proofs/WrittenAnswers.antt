-- An answer about the fairest mechanism that is written is read as the same answer.
use Rattle.std.proofs.Common.{◌≡◌, ℕ, ◌≤◌, ◌^◌, pos, List, [], ◌∷◌, ◌++◌, codes, Some, Ok, refl, sym, ap, ◌∙◌, arith, All, append-nil}
use Rattle.std.proofs.lemmas.List.Elements.{All-nil, All-cons, All-append}
use Rattle.md_math.specs.Lists.{up_to}
use Rattle.md_setting.specs.Setting.{GeneralSetting}
use Rattle.md_records.specs.Written.{IsReadBack}
use Rattle.md_records.proofs.RecordTexts.{records_of-text}
use Rattle.md_parts.specs.declared.first_record.Head.{Head}
use Rattle.md_parts.specs.declared.version.Version.TheVariants.{One}
use Rattle.md_parts.specs.FirstRecord.{word_among, first_of}
use Rattle.md_parts.specs.LastRecord.{read_end}
use Rattle.md_parts.specs.Written.{IsWrittenBefore}
use Rattle.md_parts.specs.Reading.{◌>>=◌, nothing_more, answered, read_record}
use Rattle.md_parts.specs.Table.{mechanism_of, ray_of, value_of}
use Rattle.md_parts.specs.Multipliers.{bound_of, face_of}
use Rattle.md_parts.specs.Path.{wide_of}
use Rattle.md_parts.specs.Rows.{number_row, first_row, end_row, mechanism_rows, ray_rows, value_row, row_unless_zero, face_rows, bound_rows, wide_rows, again_row}
use Rattle.md_parts.proofs.WrittenRecords.{holds-none}
use Rattle.md_parts.proofs.WrittenTables.{written-then, written-as, written-record}
use Rattle.md_parts.proofs.WrittenParts.{first-written, end-written, mechanism-written, ray-written, value-written, face-written, bound-written, wide-written, face_row, both_row, IsSome, rows-some, mechanism-some, payments-some, wide-some}
use Rattle.md_question.specs.declared.finding.Finding.TheVariants.{Optimal, Infeasible, Unbounded}
use Rattle.md_fair.specs.declared.answer.FairAnswer.{FairAnswer}
use Rattle.md_fair.specs.declared.answer.FairAnswer.TheVariants.{Found, TooWide}
use Rattle.md_fair.specs.FairQuestion.{fair_rows}
use Rattle.md_fair.specs.FairRows.{HasPlaces, IsFairAnswer, answer_rows, inner_rows, text_of_fair, word_of}
use Rattle.md_fair.specs.FairText.{answer_by, answer_words, fair_answer_of, whole_answer}

abbrev Rows : Type 0
Rows = List (List (List ℕ))

abbrev the_end : Rows
the_end = end_row ∷ []

-- the place of an answer's word
abbrev place_of : FairAnswer → ℕ
place_of (Found (Optimal value m bound)) = 0
place_of (Found (Infeasible face)) = 1
place_of (Found (Unbounded m ray)) = 2
place_of (TooWide first second) = 3

word-among : (a : FairAnswer) → word_among answer_words (word_of a) ≡ Some (pos (place_of a))
word-among (Found (Optimal value m bound)) = refl
word-among (Found (Infeasible face)) = refl
word-among (Found (Unbounded m ray)) = refl
word-among (TooWide first second) = refl

inner-written : (s : GeneralSetting) (a : FairAnswer) → fair_rows s ≤ 2 ^ 32 → IsFairAnswer s a → HasPlaces a → IsWrittenBefore the_end (answer_by s (place_of a)) (inner_rows s a) a
inner-written s (Found (Optimal value m bound)) few h p =
    let rest = mechanism_rows s m ++ bound_rows (fair_rows s) bound in
    written-then the_end value_of (λ v. mechanism_of s >>= (λ k. bound_of (fair_rows s) >>= (λ b. nothing_more (Found (Optimal v k b))))) (value_row value ∷ []) rest value (Found (Optimal value m bound))
    (value-written value (rest ++ the_end) h.0)
    (written-then the_end (mechanism_of s) (λ k. bound_of (fair_rows s) >>= (λ b. nothing_more (Found (Optimal value k b)))) (mechanism_rows s m) (bound_rows (fair_rows s) bound) m (Found (Optimal value m bound))
    (mechanism-written s m (bound_rows (fair_rows s) bound ++ the_end) h.1)
    (written-as the_end (bound_of (fair_rows s)) (λ b. Found (Optimal value m b)) (bound_rows (fair_rows s) bound) bound (bound-written (fair_rows s) bound the_end h.2 few refl)))
inner-written s (Found (Infeasible face)) few h p =
    written-as the_end (face_of (fair_rows s)) (λ f. Found (Infeasible f)) (face_rows (fair_rows s) face) face (face-written (fair_rows s) face the_end h few refl)
inner-written s (Found (Unbounded m ray)) few h p =
    written-then the_end (mechanism_of s) (λ k. ray_of s >>= (λ r. nothing_more (Found (Unbounded k r)))) (mechanism_rows s m) (ray_rows s ray) m (Found (Unbounded m ray))
    (mechanism-written s m (ray_rows s ray ++ the_end) h.0)
    (written-as the_end (ray_of s) (λ r. Found (Unbounded m r)) (ray_rows s ray) ray (ray-written s ray the_end h.1))
inner-written s (TooWide first second) few h p =
    let last = again_row ∷ wide_rows second in
    written-then the_end wide_of (λ one. read_record (codes "again") [] >>= (λ _. wide_of >>= (λ two. nothing_more (TooWide one two)))) (wide_rows first) last first (TooWide first second)
    (wide-written first (last ++ the_end) h.0 p.0)
    (written-then the_end (read_record (codes "again") []) (λ _. wide_of >>= (λ two. nothing_more (TooWide first two))) (again_row ∷ []) (wide_rows second) [] (TooWide first second)
    (written-record (wide_rows second ++ the_end) (codes "again") [] [] [] holds-none)
    (written-as the_end wide_of (λ two. TooWide first two) (wide_rows second) second (wide-written second the_end h.1 p.1)))

whole-written : (s : GeneralSetting) (a : FairAnswer) → fair_rows s ≤ 2 ^ 32 → IsFairAnswer s a → HasPlaces a → IsWrittenBefore [] (whole_answer s) (answer_rows s a) a
whole-written s a few h p =
    let head : Head = record { version = One; word = place_of a } in
    written-then [] (first_of (codes "fair") answer_words) (λ found. answer_by s found.word >>= (λ answer. read_end >>= (λ _. nothing_more answer)))
    (first_row One (codes "fair") (word_of a) ∷ []) (inner_rows s a ++ the_end) head a
    (first-written One (codes "fair") (word_of a) answer_words (place_of a) ((inner_rows s a ++ the_end) ++ []) (word-among a) refl)
    (written-then [] (answer_by s (place_of a)) (λ found. read_end >>= (λ _. nothing_more found)) (inner_rows s a) the_end a a
    (inner-written s a few h p) (written-as [] read_end (λ _. a) the_end tt end-written))

-- ---- the text

inner-some : (s : GeneralSetting) (a : FairAnswer) → All IsSome (inner_rows s a)
inner-some s (Found (Optimal value m bound)) =
    let rest = mechanism_rows s m ++ bound_rows (fair_rows s) bound in
    let rows = up_to (fair_rows s) (λ r. row_unless_zero r (both_row bound r)) in
    All-cons IsSome (value_row value) rest (omega arith) (All-append IsSome (mechanism_rows s m) (bound_rows (fair_rows s) bound) (mechanism-some s m)
    (All-cons IsSome (number_row (codes "bound") (bound.den ∷ [])) rows (omega arith) (rows-some (fair_rows s) (both_row bound))))
inner-some s (Found (Infeasible face)) = rows-some (fair_rows s) (face_row face)
inner-some s (Found (Unbounded m ray)) = All-append IsSome (mechanism_rows s m) (ray_rows s ray) (mechanism-some s m) (payments-some (codes "ray") s ray s.payments)
inner-some s (TooWide first second) = All-append IsSome (wide_rows first) (again_row ∷ wide_rows second) (wide-some first) (All-cons IsSome again_row (wide_rows second) (omega arith) (wide-some second))

answer-read_back : (s : GeneralSetting) (a : FairAnswer) → IsReadBack (answer_rows s a)
answer-read_back s a = record {
  fields = All-cons IsSome (first_row One (codes "fair") (word_of a)) (inner_rows s a ++ the_end) (omega arith)
      (All-append IsSome (inner_rows s a) the_end (inner-some s a) (All-cons IsSome end_row [] (omega arith) (All-nil IsSome)));
  no_mark = λ e. first_byte e;
}
  where
    first_byte : ◌≡◌ {A = ℕ} 97 239 → ⊥
    first_byte e = omega arith

pub fair-reads_back : (s : GeneralSetting) (a : FairAnswer) → fair_rows s ≤ 2 ^ 32 → IsFairAnswer s a → HasPlaces a → fair_answer_of s (text_of_fair s a) ≡ Ok a
fair-reads_back s a few h p =
    ap (λ (l : Rows). answered (whole_answer s record { read = 0; left = l })) (records_of-text (answer_rows s a) (answer-read_back s a) ∙ sym (append-nil (answer_rows s a)))
    ∙ ap answered ((whole-written s a few h p).read 0)
