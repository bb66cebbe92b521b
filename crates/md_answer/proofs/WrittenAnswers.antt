-- An answer that is written is read as the same answer.
use Rattle.std.proofs.Common.{◌≡◌, ℕ, ◌≤◌, ◌^◌, pos, true, List, [], ◌∷◌, ◌++◌, codes, Option, None, Some, Ok, refl, sym, ap, subst, ◌∙◌, arith, All, append-nil}
use Rattle.std.proofs.lemmas.List.Elements.{All-nil, All-cons, All-append}
use Rattle.md_math.specs.Lists.{up_to}
use Rattle.md_setting.specs.Setting.{GeneralSetting}
use Rattle.md_setting.specs.Rows.{row_count}
use Rattle.md_lp.specs.declared.wide.Wide.{Wide}
use Rattle.md_records.specs.Written.{IsReadBack}
use Rattle.md_records.proofs.RecordTexts.{records_of-text}
use Rattle.md_answer.specs.declared.answer.Answer.{Answer}
use Rattle.md_answer.specs.declared.answer.Answer.TheVariants.{Table, Optimal, Infeasible, Unbounded, AuctionOptimal, TooWide}
use Rattle.md_parts.specs.declared.first_record.Head.{Head}
use Rattle.md_answer.specs.declared.kind.Kind.{Kind}
use Rattle.md_answer.specs.declared.kind.Kind.TheVariants as kind
use Rattle.md_answer.specs.Kinds.{answer_words, place_of, word_of, kind_of}
use Rattle.md_parts.specs.FirstRecord.{word_among, stands_in, first_of}
use Rattle.md_parts.specs.LastRecord.{read_end}
use Rattle.md_parts.specs.Written.{IsWrittenBefore}
use Rattle.md_parts.specs.Reading.{◌>>=◌, nothing_more, answered}
use Rattle.md_parts.specs.Table.{mechanism_of, ray_of, value_of}
use Rattle.md_parts.specs.Multipliers.{bound_of, face_of}
use Rattle.md_parts.specs.Path.{wide_of, second_of, version_with}
use Rattle.md_answer.specs.Answers.{answer_by, whole_answer, answer_of}
use Rattle.md_answer.specs.AnswerTo.{IsAnswerTo, HasPlaces}
use Rattle.md_parts.specs.Rows.{number_row, first_row, end_row, mechanism_rows, ray_rows, value_row, row_unless_zero, face_rows, bound_rows, wide_rows, second_rows}
use Rattle.md_answer.specs.Rows.{inner_rows, version_in, kind_in, answer_rows, text_of_answer}
use Rattle.md_parts.proofs.WrittenTables.{written-then, written-as}
use Rattle.md_parts.proofs.WrittenParts.{first-written, end-written, mechanism-written, ray-written, value-written, face-written, bound-written, wide-written, second-written, face_row, both_row, IsSome, rows-some, mechanism-some, payments-some, wide-some, second-some}

abbrev Rows : Type 0
Rows = List (List (List ℕ))

pub version-with : (cuts : List ℕ) (first : Wide) (second : Option Wide) → version_in (TooWide cuts first second) ≡ version_with second
version-with cuts first None = refl
version-with cuts first (Some second) = refl

abbrev the_end : Rows
the_end = end_row ∷ []

inner-written : (s : GeneralSetting) (a : Answer) → row_count s ≤ 2 ^ 32 → IsAnswerTo s a → HasPlaces a → IsWrittenBefore the_end (answer_by s (version_in a) (kind_in a)) (inner_rows s a) a
inner-written s (Table mechanism) few h p =
    written-as the_end (mechanism_of s) (λ m. Table m) (mechanism_rows s mechanism) mechanism (mechanism-written s mechanism the_end h)
inner-written s (Optimal value mechanism bound) few h p =
    let rest = mechanism_rows s mechanism ++ bound_rows (row_count s) bound in
    written-then the_end value_of (λ v. mechanism_of s >>= (λ m. bound_of (row_count s) >>= (λ b. nothing_more (Optimal v m b)))) (value_row value ∷ []) rest value (Optimal value mechanism bound)
    (value-written value (rest ++ the_end) h.0)
    (written-then the_end (mechanism_of s) (λ m. bound_of (row_count s) >>= (λ b. nothing_more (Optimal value m b))) (mechanism_rows s mechanism) (bound_rows (row_count s) bound) mechanism (Optimal value mechanism bound)
    (mechanism-written s mechanism (bound_rows (row_count s) bound ++ the_end) h.1)
    (written-as the_end (bound_of (row_count s)) (λ b. Optimal value mechanism b) (bound_rows (row_count s) bound) bound (bound-written (row_count s) bound the_end h.2 few refl)))
inner-written s (Infeasible face) few h p = written-as the_end (face_of (row_count s)) (λ f. Infeasible f) (face_rows (row_count s) face) face (face-written (row_count s) face the_end h few refl)
inner-written s (Unbounded mechanism ray) few h p =
    written-then the_end (mechanism_of s) (λ m. ray_of s >>= (λ r. nothing_more (Unbounded m r))) (mechanism_rows s mechanism) (ray_rows s ray) mechanism (Unbounded mechanism ray)
    (mechanism-written s mechanism (ray_rows s ray ++ the_end) h.0)
    (written-as the_end (ray_of s) (λ r. Unbounded mechanism r) (ray_rows s ray) ray (ray-written s ray the_end h.1))
inner-written s (AuctionOptimal value interim masses cuts bound) few h p = absurd h
inner-written s (TooWide cuts first second) few h p =
    let version = version_with second in
    rw (version-with cuts first second)
    (subst (λ (c : List ℕ). IsWrittenBefore the_end (answer_by s version kind.TooWide) (inner_rows s (TooWide cuts first second)) (TooWide c first second)) (sym h.0)
    (written-then the_end wide_of (λ w. second_of version >>= (λ o. nothing_more (TooWide [] w o))) (wide_rows first) (second_rows second) first (TooWide [] first second)
    (wide-written first (second_rows second ++ the_end) h.1 p.0)
    (written-as the_end (second_of version) (λ o. TooWide [] first o) (second_rows second) second (second-written second the_end h.2 p.1))))

-- each answer stands in its version, and its word is among the words of answers
answer-stands : (a : Answer) → stands_in (version_in a) (word_of (kind_in a)) ≡ true
answer-stands (Table mechanism) = refl
answer-stands (Optimal value mechanism bound) = refl
answer-stands (Infeasible face) = refl
answer-stands (Unbounded mechanism ray) = refl
answer-stands (AuctionOptimal value interim masses cuts bound) = refl
answer-stands (TooWide cuts first None) = refl
answer-stands (TooWide cuts first (Some second)) = refl

word-among : (k : Kind) → word_among answer_words (word_of k) ≡ Some (pos (place_of k))
word-among kind.Table = refl
word-among kind.Optimal = refl
word-among kind.Infeasible = refl
word-among kind.Unbounded = refl
word-among kind.TooWide = refl

kind-placed : (k : Kind) → kind_of (place_of k) ≡ k
kind-placed kind.Table = refl
kind-placed kind.Optimal = refl
kind-placed kind.Infeasible = refl
kind-placed kind.Unbounded = refl
kind-placed kind.TooWide = refl

whole-written : (s : GeneralSetting) (a : Answer) → row_count s ≤ 2 ^ 32 → IsAnswerTo s a → HasPlaces a → IsWrittenBefore [] (whole_answer s) (answer_rows s a) a
whole-written s a few h p =
    let place = place_of (kind_in a) in
    let head : Head = record { version = version_in a; word = place } in
    written-then [] (first_of (codes "general") answer_words) (λ found. answer_by s found.version (kind_of found.word) >>= (λ answer. read_end >>= (λ _. nothing_more answer)))
    (first_row (version_in a) (codes "general") (word_of (kind_in a)) ∷ []) (inner_rows s a ++ the_end) head a
    (first-written (version_in a) (codes "general") (word_of (kind_in a)) answer_words place ((inner_rows s a ++ the_end) ++ []) (word-among (kind_in a)) (answer-stands a))
    (written-then [] (answer_by s (version_in a) (kind_of place)) (λ found. read_end >>= (λ _. nothing_more found)) (inner_rows s a) the_end a a
    (subst (λ (k : Kind). IsWrittenBefore the_end (answer_by s (version_in a) k) (inner_rows s a) a) (sym (kind-placed (kind_in a))) (inner-written s a few h p))
    (written-as [] read_end (λ _. a) the_end tt end-written))

-- ---- the text

inner-some : (s : GeneralSetting) (a : Answer) → All IsSome (inner_rows s a)
inner-some s (Table mechanism) = mechanism-some s mechanism
inner-some s (Optimal value mechanism bound) =
    let rest = mechanism_rows s mechanism ++ bound_rows (row_count s) bound in
    let rows = up_to (row_count s) (λ r. row_unless_zero r (both_row bound r)) in
    All-cons IsSome (value_row value) rest (omega arith) (All-append IsSome (mechanism_rows s mechanism) (bound_rows (row_count s) bound) (mechanism-some s mechanism)
    (All-cons IsSome (number_row (codes "bound") (bound.den ∷ [])) rows (omega arith) (rows-some (row_count s) (both_row bound))))
inner-some s (Infeasible face) = rows-some (row_count s) (face_row face)
inner-some s (Unbounded mechanism ray) = All-append IsSome (mechanism_rows s mechanism) (ray_rows s ray) (mechanism-some s mechanism) (payments-some (codes "ray") s ray s.payments)
inner-some s (AuctionOptimal value interim masses cuts bound) = All-nil IsSome
inner-some s (TooWide cuts first second) = All-append IsSome (wide_rows first) (second_rows second) (wide-some first) (second-some second)

answer-read_back : (s : GeneralSetting) (a : Answer) → IsReadBack (answer_rows s a)
answer-read_back s a = record {
  fields = All-cons IsSome (first_row (version_in a) (codes "general") (word_of (kind_in a))) (inner_rows s a ++ the_end) (omega arith)
      (All-append IsSome (inner_rows s a) the_end (inner-some s a) (All-cons IsSome end_row [] (omega arith) (All-nil IsSome)));
  no_mark = λ e. first_byte e;
}
  where
    first_byte : ◌≡◌ {A = ℕ} 97 239 → ⊥
    first_byte e = omega arith

pub answer-reads_back : (s : GeneralSetting) (a : Answer) → row_count s ≤ 2 ^ 32 → IsAnswerTo s a → HasPlaces a → answer_of s (text_of_answer s a) ≡ Ok a
answer-reads_back s a few h p =
    let whole = (whole-written s a few h p).read 0 in
    ap (λ (l : Rows). answered (whole_answer s record { read = 0; left = l })) (records_of-text (answer_rows s a) (answer-read_back s a) ∙ sym (append-nil (answer_rows s a)))
    ∙ ap answered whole
