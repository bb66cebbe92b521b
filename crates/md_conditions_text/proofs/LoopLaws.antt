-- Conditions that are read one after another.
use Rattle.std.proofs.Common.{◌≡◌, ℕ, ◌+◌, ℤ, Bool, true, false, List, [], ◌∷◌, ◌++◌, drop, length, Option, None, Some, Result, Ok, Err, if◌then◌else◌, refl, sym, ap, ap₂, subst, ◌∙◌, arith}
use Rattle.std.proofs.lemmas.List.{append-nil, length-map}
use Rattle.std.proofs.lemmas.List.Elements.{All-nil}
use Rattle.md_setting.specs.Setting.{GeneralSetting}
use Rattle.md_setting.specs.Rows.{row_count}
use Rattle.md_setting.specs.Shaped.{IsShaped}
use Rattle.md_mech.specs.Rows.{conditions_of as setting_conditions}
use Rattle.md_mech.proofs.CountLaws.{conditions-length}
use Rattle.md_parts.specs.declared.refusal.AnswerRefusal.{AnswerRefusal}
use Rattle.md_parts.specs.declared.refusal.AnswerRefusal.TheVariants.{Line, Cell}
use Rattle.md_parts.specs.Fields.{Field}
use Rattle.md_parts.specs.Reading.{Rest, Reading, then_read, read_record}
use Rattle.md_parts.proofs.Repeats.{WasFirst, was_first}
use Rattle.md_rows.specs.ProgramOf.{forms_of, form_of}
use Rattle.md_require.specs.declared.condition.Condition.{Condition}
use Rattle.md_require.specs.Limits.{AreConditionsFor, IsConditionFor}
use Rattle.md_require.specs.RequireQuestion.{require_rows}
use Rattle.md_conditions_text.specs.declared.kind.Kind.{Kind}
use Rattle.md_conditions_text.specs.ConditionFields.{bound_fields, condition_from, condition_of, measure_fields, next_texts}
use Rattle.md_conditions_text.specs.ConditionsText.{behind, conditions_in, conditions_read, narrow, next_condition, small_condition}
use Rattle.md_conditions_text.specs.Kinds.{kind_ahead, word_of}
use Rattle.md_conditions_text.specs.Narrow.{are_few, has_narrow_rows, wide_place}

-- ---- what was read in two steps

not_both : {T : Type 0} → (refusal : AnswerRefusal) (value : T) → ◌≡◌ {A = Result T AnswerRefusal} (Err refusal) (Ok value) → ⊥
not_both {T} refusal value e = cc

pub record InSteps {A B : Type 0} (first : Result (A × Rest) AnswerRefusal) (next : A → Reading B) (value : B) (after : Rest) : Type 0 where
  pub one : A
  pub mid : Rest
  pub first_is : first ≡ Ok (one, mid)
  pub next_is : next one mid ≡ Ok (value, after)

pub in-steps : {A B : Type 0} → (first : Result (A × Rest) AnswerRefusal) (next : A → Reading B) (value : B) (after : Rest) → then_read first next ≡ Ok (value, after) → InSteps first next value after
in-steps {A} {B} (Ok read) next value after h = record { one = read.0; mid = read.1; first_is = refl; next_is = h }
in-steps {A} {B} (Err refusal) next value after h = absurd (not_both refusal (value, after) h)

-- a test that reads nothing
passed : (b : Bool) (c value : Condition) (rest after : Rest) (refusal : AnswerRefusal) → if◌then◌else◌ {A = Result (Condition × Rest) AnswerRefusal} b (Ok (c, rest)) (Err refusal) ≡ Ok (value, after) → rest ≡ after
passed true c value rest after refusal h = let same : (c, rest) ≡ (value, after) = cc in ap (λ (p : Condition × Rest). p.1) same
passed false c value rest after refusal h = absurd (not_both refusal (value, after) h)

-- the record of the condition was the first of those that are left
condition-first : (s : GeneralSetting) (kind : Kind) (rest after : Rest) (c : Condition) → condition_of s kind rest ≡ Ok (c, after) → WasFirst rest after
condition-first s kind rest after c h =
    let fields : List Field = measure_fields s (next_texts rest.left) kind ++ bound_fields in
    let steps = in-steps (read_record (word_of kind) fields rest) (λ numbers r. Ok (condition_from kind numbers, r)) c after h in
    let pair : (condition_from kind steps.one, steps.mid) ≡ (c, after) = let e = steps.next_is in cc in
    let same : steps.mid ≡ after = ap (λ (p : Condition × Rest). p.1) pair in
    subst (λ (r : Rest). WasFirst rest r) same (was_first (word_of kind) fields rest steps.mid steps.one steps.first_is)

next-first : (s : GeneralSetting) (found : List Condition) (kind : Kind) (rest after : Rest) (c : Condition) → next_condition s found kind rest ≡ Ok (c, after) → WasFirst rest after
next-first s found kind rest after c h =
    let outer = in-steps (small_condition s kind rest) (λ small. behind s found small) c after h in
    let inner = in-steps (condition_of s kind rest) (λ told. narrow s kind told) outer.one outer.mid outer.first_is in
    let last : outer.mid ≡ after = passed (are_few s (found ++ outer.one ∷ [])) outer.one c outer.mid after (Line outer.mid.read) outer.next_is in
    let first : inner.mid ≡ outer.mid = passed (has_narrow_rows s inner.one) inner.one outer.one inner.mid outer.mid (Cell inner.mid.read (wide_place s kind inner.one)) inner.next_is in
    subst (λ (r : Rest). WasFirst rest r) (first ∙ last) (condition-first s kind rest inner.mid inner.one inner.first_is)

-- ---- one record

none_some : {T : Type 0} → (x : T) → ◌≡◌ {A = Option T} None (Some x) → ⊥
none_some {T} x e = cc

ends-left : (s : GeneralSetting) (found : List Condition) (read : ℕ) (left : List (List (List ℕ))) → kind_ahead left ≡ None → conditions_in s found read left ≡ Ok (found, record { read = read; left = left })
ends-left s found read [] h = refl
ends-left s found read (next ∷ others) h = rw (h, conditions_in) refl

pub found-ends : (s : GeneralSetting) (found : List Condition) (now : Rest) → kind_ahead now.left ≡ None → conditions_in s found now.read now.left ≡ Ok (found, now)
found-ends s found now h = ends-left s found now.read now.left h

fails-left : (s : GeneralSetting) (found : List Condition) (kind : Kind) (read : ℕ) (left : List (List (List ℕ))) (refusal : AnswerRefusal) → kind_ahead left ≡ Some kind → next_condition s found kind record { read = read; left = left } ≡ Err refusal
    → conditions_in s found read left ≡ Err refusal
fails-left s found kind read [] refusal h one = absurd (none_some kind h)
fails-left s found kind read (next ∷ others) refusal h one = rw (h, conditions_in) (ap (λ (r : Result (Condition × Rest) AnswerRefusal). then_read r (λ c _. conditions_in s (found ++ c ∷ []) (read + 1) others)) one)

pub found-fails : (s : GeneralSetting) (found : List Condition) (kind : Kind) (now : Rest) (refusal : AnswerRefusal) → kind_ahead now.left ≡ Some kind → next_condition s found kind now ≡ Err refusal → conditions_in s found now.read now.left ≡ Err refusal
found-fails s found kind now refusal h one = fails-left s found kind now.read now.left refusal h one

abbrev list-tail : List (List (List ℕ)) → List (List (List ℕ))
list-tail [] = []
list-tail (x ∷ xs) = xs

more-left : (s : GeneralSetting) (found : List Condition) (kind : Kind) (read : ℕ) (left : List (List (List ℕ))) (c : Condition) (after : Rest) → kind_ahead left ≡ Some kind → next_condition s found kind record { read = read; left = left } ≡ Ok (c, after)
    → conditions_in s found read left ≡ conditions_in s (found ++ c ∷ []) after.read after.left
more-left s found kind read [] c after h one = absurd (none_some kind h)
more-left s found kind read (next ∷ others) c after h one =
    let first = next-first s found kind record { read = read; left = next ∷ others } after c one in
    let rest : others ≡ after.left = ap list-tail first.left in
    rw (h, conditions_in) (ap (λ (r : Result (Condition × Rest) AnswerRefusal). then_read r (λ x _. conditions_in s (found ++ x ∷ []) (read + 1) others)) one)
    ∙ ap₂ (λ (k : ℕ) (l : List (List (List ℕ))). conditions_in s (found ++ c ∷ []) k l) (sym first.read) rest

pub found-more : (s : GeneralSetting) (found : List Condition) (kind : Kind) (now after : Rest) (c : Condition) → kind_ahead now.left ≡ Some kind → next_condition s found kind now ≡ Ok (c, after)
    → conditions_in s found now.read now.left ≡ conditions_in s (found ++ c ∷ []) after.read after.left
found-more s found kind now after c h one = more-left s found kind now.read now.left c after h one

pub left-after : (s : GeneralSetting) (found : List Condition) (kind : Kind) (now after : Rest) (c : Condition) → next_condition s found kind now ≡ Ok (c, after) → drop 1 now.left ≡ after.left
left-after s found kind now after c one = ap (λ (l : List (List (List ℕ))). drop 1 l) (next-first s found kind now after c one).left

-- a record of any kind was the first too
pub record-left : (word : List ℕ) (fields : List Field) (rest after : Rest) (numbers : List ℤ) → read_record word fields rest ≡ Ok (numbers, after) → drop 1 rest.left ≡ after.left
record-left word fields rest after numbers h = ap (λ (l : List (List (List ℕ))). drop 1 l) (was_first word fields rest after numbers h).left

-- ---- the loop

pub no-rows : (s : GeneralSetting) → require_rows s [] ≡ row_count s
no-rows s = ap length (append-nil (forms_of s (setting_conditions s))) ∙ length-map (setting_conditions s) (form_of s) ∙ conditions-length s

pub none-fit : (s : GeneralSetting) → IsShaped s → AreConditionsFor s []
none-fit s shaped = record { each = All-nil (IsConditionFor s); few = omega arith; few_rows = omega (arith, no-rows s, shaped.few_rows) }

-- these were found up to here, with so many rows
pub record AreFound (s : GeneralSetting) (start now : Rest) (found : List Condition) (rows : ℕ) : Type 0 where
  pub so_far : conditions_read s start ≡ conditions_in s found now.read now.left
  pub fit : AreConditionsFor s found
  pub rows_are : rows ≡ require_rows s found

pub found-none : (s : GeneralSetting) (start : Rest) (rows : ℕ) → IsShaped s → rows ≡ row_count s → AreFound s start start [] rows
found-none s start rows shaped count = record { so_far = refl; fit = none-fit s shaped; rows_are = count ∙ sym (no-rows s) }

pub found-next : (s : GeneralSetting) (start now after : Rest) (found all : List Condition) (rows count : ℕ) (kind : Kind) (c : Condition) → AreFound s start now found rows → kind_ahead now.left ≡ Some kind → next_condition s found kind now ≡ Ok (c, after)
    → all ≡ found ++ c ∷ [] → AreConditionsFor s all → count ≡ require_rows s all → AreFound s start after all count
found-next s start now after found all rows count kind c h comes one all_is fit counted = record {
  so_far = h.so_far ∙ found-more s found kind now after c comes one ∙ ap (λ (l : List Condition). conditions_in s l after.read after.left) (sym all_is);
  fit = fit;
  rows_are = counted;
}

pub found-wrong : (s : GeneralSetting) (start now : Rest) (found : List Condition) (rows : ℕ) (kind : Kind) (refusal : AnswerRefusal) → AreFound s start now found rows → kind_ahead now.left ≡ Some kind → next_condition s found kind now ≡ Err refusal
    → conditions_read s start ≡ Err refusal
found-wrong s start now found rows kind refusal h comes one = h.so_far ∙ found-fails s found kind now refusal comes one

pub found-all : (s : GeneralSetting) (start now : Rest) (found : List Condition) (rows : ℕ) → AreFound s start now found rows → kind_ahead now.left ≡ None → conditions_read s start ≡ Ok (found, now)
found-all s start now found rows h ends = h.so_far ∙ found-ends s found now ends
