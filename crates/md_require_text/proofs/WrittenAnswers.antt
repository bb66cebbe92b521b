-- An answer about the best mechanism under conditions that is written is read as the same answer.
use Rattle.std.proofs.Common.{◌≡◌, ℕ, ◌≤◌, ◌^◌, ℤ, pos, Bool, true, false, List, [], ◌∷◌, ◌++◌, length, codes, Option, None, Some, Ok, if◌then◌else◌, refl, sym, ap, subst, ◌∙◌, arith, All, append-nil, append_assoc}
use Rattle.std.specs.List.{list_all}
use Rattle.std.specs.Ordering.{int_eq}
use Rattle.std.proofs.lemmas.List.Elements.{All-nil, All-cons, All-head, All-append}
use Rattle.md_math.specs.Lists.{up_to}
use Rattle.md_math.proofs.Builders.{All-up_to}
use Rattle.md_num.specs.declared.frac.Frac.{Frac}
use Rattle.md_setting.specs.Setting.{GeneralSetting}
use Rattle.md_setting.specs.Refusals.{refusal_of}
use Rattle.md_records.specs.Written.{IsReadBack}
use Rattle.md_records.proofs.RecordTexts.{records_of-text}
use Rattle.md_parts.specs.declared.first_record.Head.{Head}
use Rattle.md_parts.specs.declared.version.Version.TheVariants.{One}
use Rattle.md_parts.specs.FirstRecord.{first_of, word_among}
use Rattle.md_parts.specs.LastRecord.{read_end}
use Rattle.md_parts.specs.Multipliers.{bound_of, face_of}
use Rattle.md_parts.specs.Reading.{◌>>=◌, answered, nothing_more}
use Rattle.md_parts.specs.Repeated.{comes_next}
use Rattle.md_parts.specs.Rows.{bound_rows, end_row, face_rows, first_row, mechanism_rows, number_row, ray_rows, row_unless_zero, value_row}
use Rattle.md_parts.specs.Table.{mechanism_of, ray_of, value_of}
use Rattle.md_parts.specs.Written.{IsWrittenBefore}
use Rattle.md_parts.proofs.WrittenParts.{IsSome, both_row, bound-written, end-written, face-written, face_row, first-written, mechanism-some, mechanism-written, payments-some, ray-written, rows-some, value-written}
use Rattle.md_parts.proofs.WrittenTables.{written-as, written-then}
use Rattle.md_question.specs.declared.finding.Finding.{Finding}
use Rattle.md_question.specs.declared.finding.Finding.TheVariants.{Optimal, Infeasible, Unbounded}
use Rattle.md_question.specs.Shown.{IsFindingTo}
use Rattle.md_require.specs.declared.condition.Condition.{Condition}
use Rattle.md_require.specs.RequireQuestion.{require_question, require_rows}
use Rattle.md_conditions_text.specs.ConditionRows.{condition_rows}
use Rattle.md_conditions_text.specs.ConditionsText.{conditions_read}
use Rattle.md_conditions_text.specs.Kinds.{kind_ahead}
use Rattle.md_require_text.specs.RequiredRows.{answer_rows, finding_rows, finding_word, inner_rows, shadow_rows, text_of_required}
use Rattle.md_require_text.specs.RequiredText.{answer_words, finding_by, required_answer_of, shadows_of, whole_answer}
use Rattle.md_require_text.specs.Told.{IsFindingOver, IsRequiredAnswer, Told, shadow_count}
use Rattle.md_require_text.proofs.WrittenShadows.{IsNoRow, IsOther, shadows-no_row, shadows-other, shadows-some, shadows-written}
use Rattle.md_conditions_text.proofs.WrittenConditions.{conditions-written, rows-some as conditions-some}

abbrev Rows : Type 0
Rows = List (List (List ℕ))

abbrev the_end : Rows
the_end = end_row ∷ []

-- ---- what was found

pub finding-over : (s : GeneralSetting) (cs : List Condition) (f : Finding) → IsFindingTo (require_question s cs) f → IsFindingOver s (require_rows s cs) f
finding-over s cs (Optimal value m bound) h = h
finding-over s cs (Infeasible face) h = h
finding-over s cs (Unbounded m ray) h = h

pub finding-to : (s : GeneralSetting) (cs : List Condition) (f : Finding) → IsFindingOver s (require_rows s cs) f → IsFindingTo (require_question s cs) f
finding-to s cs (Optimal value m bound) h = h
finding-to s cs (Infeasible face) h = h
finding-to s cs (Unbounded m ray) h = h

-- the place of its word
abbrev place_of : Finding → ℕ
place_of (Optimal value m bound) = 0
place_of (Infeasible face) = 1
place_of (Unbounded m ray) = 2

word-there : (f : Finding) → word_among answer_words (finding_word f) ≡ Some (pos (place_of f))
word-there (Optimal value m bound) = refl
word-there (Infeasible face) = refl
word-there (Unbounded m ray) = refl

finding-written : (s : GeneralSetting) (rows : ℕ) (f : Finding) (others : Rows) → rows ≤ 2 ^ 32 → IsFindingOver s rows f → comes_next (codes "row") others ≡ false → IsWrittenBefore others (finding_by s rows (place_of f)) (finding_rows s rows f) f
finding-written s rows (Optimal value m bound) others few h ends =
    let rest = mechanism_rows s m ++ bound_rows rows bound in
    written-then others value_of (λ v. mechanism_of s >>= (λ k. bound_of rows >>= (λ b. nothing_more (Optimal v k b)))) (value_row value ∷ []) rest value (Optimal value m bound)
    (value-written value (rest ++ others) h.0)
    (written-then others (mechanism_of s) (λ k. bound_of rows >>= (λ b. nothing_more (Optimal value k b))) (mechanism_rows s m) (bound_rows rows bound) m (Optimal value m bound)
    (mechanism-written s m (bound_rows rows bound ++ others) h.1)
    (written-as others (bound_of rows) (λ b. Optimal value m b) (bound_rows rows bound) bound (bound-written rows bound others h.2 few ends)))
finding-written s rows (Infeasible face) others few h ends =
    written-as others (face_of rows) (λ f. Infeasible f) (face_rows rows face) face (face-written rows face others h few ends)
finding-written s rows (Unbounded m ray) others few h ends =
    written-then others (mechanism_of s) (λ k. ray_of s >>= (λ r. nothing_more (Unbounded k r))) (mechanism_rows s m) (ray_rows s ray) m (Unbounded m ray)
    (mechanism-written s m (ray_rows s ray ++ others) h.0)
    (written-as others (ray_of s) (λ r. Unbounded m r) (ray_rows s ray) ray (ray-written s ray others h.1))

-- ---- which records come behind which

-- no row comes behind the rows
no-row : (rows others : Rows) → All IsNoRow rows → comes_next (codes "row") others ≡ false → comes_next (codes "row") (rows ++ others) ≡ false
no-row [] others all ends = ends
no-row (row ∷ rows) others all ends = All-head IsNoRow row rows all

no-kind : (rows others : Rows) → All IsOther rows → kind_ahead others ≡ None → kind_ahead (rows ++ others) ≡ None
no-kind [] others all ends = ends
no-kind (row ∷ rows) others all ends = All-head IsOther row rows all

other-row : (b : Bool) (numbers : List ℤ) → All IsOther (if b then [] else number_row (codes "row") numbers ∷ [])
other-row true numbers = All-nil IsOther
other-row false numbers = All-cons IsOther (number_row (codes "row") numbers) [] refl (All-nil IsOther)

face-other : (rows : ℕ) (face : List ℤ) → All IsOther (face_rows rows face)
face-other rows face =
    All-up_to IsOther rows (λ r. row_unless_zero r (face_row face r)) (λ k l. other-row (list_all (int_eq (pos 0)) (face_row face k)) (pos k ∷ face_row face k))

-- no condition comes behind the conditions
behind-conditions : (s : GeneralSetting) (rows : ℕ) (f : Finding) (shadows : List (Option Frac)) (others : Rows) → kind_ahead others ≡ None → kind_ahead ((finding_rows s rows f ++ shadow_rows shadows) ++ others) ≡ None
behind-conditions s rows (Optimal value m bound) shadows others ends = refl
behind-conditions s rows (Infeasible face) shadows others ends =
    no-kind (face_rows rows face ++ shadow_rows shadows) others (All-append IsOther (face_rows rows face) (shadow_rows shadows) (face-other rows face) (shadows-other shadows)) ends
behind-conditions s rows (Unbounded m ray) shadows others ends = refl

-- ---- the whole

count-few : (f : Finding) (count : ℕ) → count ≤ 1000 → shadow_count f count ≤ 1000
count-few (Optimal value m bound) count l = l
count-few (Infeasible face) count l = omega arith
count-few (Unbounded m ray) count l = omega arith

whole-written : (s : GeneralSetting) (a : Told) → refusal_of s ≡ None → IsRequiredAnswer s a → IsWrittenBefore [] (whole_answer s) (answer_rows s a) a
whole-written s a accepted h =
    let cs = a.conditions in
    let f = a.finding in
    let rows = require_rows s cs in
    let found = finding_rows s rows f in
    let told = shadow_rows a.shadows in
    let count = shadow_count f (length cs) in
    let head : Head = record { version = One; word = place_of f } in
    let few : rows ≤ 2 ^ 32 = let l = h.conditions.few_rows in omega (arith, l) in
    let regrouped : (condition_rows s cs ++ (found ++ told)) ++ the_end ≡ condition_rows s cs ++ (found ++ (told ++ the_end)) =
    append_assoc (condition_rows s cs) (found ++ told) the_end ∙ ap (λ (l : Rows). condition_rows s cs ++ l) (append_assoc found told the_end) in
    let back : (found ++ (told ++ the_end)) ++ [] ≡ (found ++ told) ++ the_end = append-nil (found ++ (told ++ the_end)) ∙ sym (append_assoc found told the_end) in
    let ends : kind_ahead ((found ++ (told ++ the_end)) ++ []) ≡ None = ap kind_ahead back ∙ behind-conditions s rows f a.shadows the_end refl in
    let no_row : comes_next (codes "row") ((told ++ the_end) ++ []) ≡ false =
    ap (λ (l : Rows). comes_next (codes "row") l) (append-nil (told ++ the_end)) ∙ no-row told the_end (shadows-no_row a.shadows) refl in
    subst (λ (l : Rows). IsWrittenBefore [] (whole_answer s) (first_row One (codes "required") (finding_word f) ∷ l) a) (sym regrouped)
    (written-then [] (first_of (codes "required") answer_words)
    (λ top. conditions_read s >>= (λ c. finding_by s (require_rows s c) top.word >>= (λ g. shadows_of (shadow_count g (length c)) >>= (λ x. read_end >>= (λ _. nothing_more (record { conditions = c; finding = g; shadows = x }))))))
    (first_row One (codes "required") (finding_word f) ∷ []) (condition_rows s cs ++ (found ++ (told ++ the_end))) head a
    (first-written One (codes "required") (finding_word f) answer_words (place_of f) ((condition_rows s cs ++ (found ++ (told ++ the_end))) ++ []) (word-there f) refl)
    (written-then [] (conditions_read s)
    (λ c. finding_by s (require_rows s c) (place_of f) >>= (λ g. shadows_of (shadow_count g (length c)) >>= (λ x. read_end >>= (λ _. nothing_more (record { conditions = c; finding = g; shadows = x })))))
    (condition_rows s cs) (found ++ (told ++ the_end)) cs a
    (conditions-written s cs ((found ++ (told ++ the_end)) ++ []) accepted h.conditions ends)
    (written-then [] (finding_by s rows (place_of f))
    (λ g. shadows_of (shadow_count g (length cs)) >>= (λ x. read_end >>= (λ _. nothing_more (record { conditions = cs; finding = g; shadows = x }))))
    found (told ++ the_end) f a
    (finding-written s rows f ((told ++ the_end) ++ []) few (finding-over s cs f h.finding) no_row)
    (written-then [] (shadows_of count) (λ x. read_end >>= (λ _. nothing_more (record { conditions = cs; finding = f; shadows = x }))) told the_end a.shadows a
    (shadows-written a.shadows count (the_end ++ []) h.shadows (count-few f (length cs) h.conditions.few) refl)
    (written-as [] read_end (λ _. a) the_end tt end-written)))))

-- ---- the text

finding-some : (s : GeneralSetting) (rows : ℕ) (f : Finding) → All IsSome (finding_rows s rows f)
finding-some s rows (Optimal value m bound) =
    let rest = mechanism_rows s m ++ bound_rows rows bound in
    let inner = up_to rows (λ r. row_unless_zero r (both_row bound r)) in
    All-cons IsSome (value_row value) rest (omega arith) (All-append IsSome (mechanism_rows s m) (bound_rows rows bound) (mechanism-some s m)
    (All-cons IsSome (number_row (codes "bound") (bound.den ∷ [])) inner (omega arith) (rows-some rows (both_row bound))))
finding-some s rows (Infeasible face) = rows-some rows (face_row face)
finding-some s rows (Unbounded m ray) = All-append IsSome (mechanism_rows s m) (ray_rows s ray) (mechanism-some s m) (payments-some (codes "ray") s ray s.payments)

answer-read_back : (s : GeneralSetting) (a : Told) → IsReadBack (answer_rows s a)
answer-read_back s a =
    let found = finding_rows s (require_rows s a.conditions) a.finding in
    record {
      fields = All-cons IsSome (first_row One (codes "required") (finding_word a.finding)) (inner_rows s a ++ the_end) (omega arith)
          (All-append IsSome (inner_rows s a) the_end
          (All-append IsSome (condition_rows s a.conditions) (found ++ shadow_rows a.shadows) (conditions-some s a.conditions)
          (All-append IsSome found (shadow_rows a.shadows) (finding-some s (require_rows s a.conditions) a.finding) (shadows-some a.shadows)))
          (All-cons IsSome end_row [] (omega arith) (All-nil IsSome)));
      no_mark = λ e. first_byte e;
    }
  where
    first_byte : ◌≡◌ {A = ℕ} 97 239 → ⊥
    first_byte e = omega arith

pub required-reads_back : (s : GeneralSetting) (a : Told) → refusal_of s ≡ None → IsRequiredAnswer s a → required_answer_of s (text_of_required s a) ≡ Ok a
required-reads_back s a accepted h =
    ap (λ (l : Rows). answered (whole_answer s record { read = 0; left = l })) (records_of-text (answer_rows s a) (answer-read_back s a) ∙ sym (append-nil (answer_rows s a)))
    ∙ ap answered ((whole-written s a accepted h).read 0)
