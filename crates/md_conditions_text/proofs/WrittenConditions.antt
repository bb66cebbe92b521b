-- Conditions that are written are read as the same conditions.
use Rattle.std.proofs.Common.{◌≡◌, ℕ, ◌+◌, ◌<◌, ◌≤◌, ◌-◌, ℤ, pos, ◌<ℤ◌, int_le, true, List, [], ◌∷◌, ◌++◌, length, Option, None, Some, Result, Ok, refl, sym, ap, ap₂, subst, ◌∙◌, arith, All, append_assoc, append-nil, length-append, add-zero, lit≤}
use Rattle.std.specs.Prelude.{slice_index}
use Rattle.std.proofs.lemmas.Int.{ints}
use Rattle.std.proofs.lemmas.List.Elements.{All-nil, All-cons, All-head}
use Rattle.md_math.proofs.Builders.{All-right}
use Rattle.md_num.specs.WholeText.{text_of}
use Rattle.md_setting.specs.Setting.{GeneralSetting}
use Rattle.md_setting.specs.Meaning.{agent_count, outcome_count, sizes_of}
use Rattle.md_setting.specs.Refusals.{refusal_of}
use Rattle.md_mech.specs.RowName.{agent_name, type_name}
use Rattle.md_parts.specs.declared.refusal.AnswerRefusal.{AnswerRefusal}
use Rattle.md_parts.specs.Fields.{Field, any_number, denominator_field}
use Rattle.md_parts.specs.FirstRecord.{word_among}
use Rattle.md_parts.specs.Reading.{Rest, then_read}
use Rattle.md_parts.specs.Written.{Holds, IsWrittenBefore}
use Rattle.md_parts.proofs.WrittenParts.{IsSome}
use Rattle.md_parts.proofs.WrittenRecords.{holds-cons, holds-none, number_field-holds, record-written}
use Rattle.md_require.specs.declared.condition.Condition.{Condition}
use Rattle.md_require.specs.declared.condition.Measured.{Measured}
use Rattle.md_require.specs.declared.condition.Measured.TheVariants as measured
use Rattle.md_require.specs.declared.condition.Side.{Side}
use Rattle.md_require.specs.declared.condition.Side.TheVariants.{Least, Most}
use Rattle.md_require.specs.Limits.{AreConditionsFor, IsConditionFor}
use Rattle.md_require.specs.Places.{IsIn}
use Rattle.md_require.specs.RequireQuestion.{require_rows}
use Rattle.md_conditions_text.specs.ConditionFields.{agent_field, bound_fields, condition_of, measure_fields, outcome_field, profile_field, side_place, side_words, type_field, place_or_zero}
use Rattle.md_conditions_text.specs.ConditionRows.{bound_texts, condition_row, condition_rows, measure_texts, side_text}
use Rattle.md_conditions_text.specs.ConditionsText.{behind, conditions_in, conditions_read, narrow, next_condition}
use Rattle.md_conditions_text.specs.Kinds.{kind_ahead, kind_in, kind_of, places_of, word_of}
use Rattle.md_conditions_text.specs.Names.{name_at, outcome_name, type_names}
use Rattle.md_conditions_text.specs.Narrow.{are_few}
use Rattle.md_conditions_text.proofs.FieldLaws.{bound-numbers, from-numbers}
use Rattle.md_conditions_text.proofs.NameLaws.{name-found}
use Rattle.md_conditions_text.proofs.NarrowLaws.{condition-test, few-test, front-rows}
use Rattle.md_conditions_text.proofs.LoopLaws.{found-ends}
use Rattle.md_conditions_text.proofs.SettingNames.{agents-apart, outcomes-apart, profiles-apart, types-apart}

abbrev Rows : Type 0
Rows = List (List (List ℕ))

-- ---- the fields of a record

module _ (s : GeneralSetting) (accepted : refusal_of s ≡ None) where
  agent-held : (i : ℕ) → i < agent_count s → agent_field s (agent_name s i) ≡ Some (pos i)
  agent-held i l = name-found (agent_count s) (agent_name s) i l (agents-apart s accepted)

  outcome-held : (o : ℕ) → o < outcome_count s → outcome_field s (outcome_name s o) ≡ Some (pos o)
  outcome-held o l = name-found (outcome_count s) (outcome_name s) o l (outcomes-apart s accepted)

  type-held : (i a : ℕ) (texts : List (List ℕ)) → i < agent_count s → a < slice_index (sizes_of s) i → type_field s (agent_name s i ∷ texts) (type_name s i a) ≡ Some (pos a)
  type-held i a texts l m =
      ap (λ (o : Option ℤ). word_among (type_names s (place_or_zero o)) (type_name s i a)) (agent-held i l) ∙ name-found (slice_index (sizes_of s) i) (type_name s i) a m (types-apart s accepted i l)

  measure-holds : (m : Measured) (fields : List Field) (texts : List (List ℕ)) (numbers : List ℤ) → IsIn s m → Holds fields texts numbers
      → Holds (measure_fields s (measure_texts s m ++ texts) (kind_in m) ++ fields) (measure_texts s m ++ texts) (places_of m ++ numbers)
  measure-holds measured.Revenue fields texts numbers h more = more
  measure-holds measured.Welfare fields texts numbers h more = more
  measure-holds (measured.Utility i) fields texts numbers h more = holds-cons (agent_field s) fields (agent_name s i) texts (pos i) numbers (agent-held i h) more
  measure-holds (measured.Chance o) fields texts numbers h more = holds-cons (outcome_field s) fields (outcome_name s o) texts (pos o) numbers (outcome-held o h) more
  measure-holds (measured.ChanceAt r o) fields texts numbers h more =
      holds-cons (profile_field s) (outcome_field s ∷ fields) (name_at s r) (outcome_name s o ∷ texts) (pos r) (pos o ∷ numbers) (name-found _ (name_at s) r h.0 (profiles-apart s accepted))
      (holds-cons (outcome_field s) fields (outcome_name s o) texts (pos o) numbers (outcome-held o h.1) more)
  measure-holds (measured.Payment i) fields texts numbers h more = holds-cons (agent_field s) fields (agent_name s i) texts (pos i) numbers (agent-held i h) more
  measure-holds (measured.PaymentAs i a) fields texts numbers h more =
      holds-cons (agent_field s) (type_field s (agent_name s i ∷ type_name s i a ∷ texts) ∷ fields) (agent_name s i) (type_name s i a ∷ texts) (pos i) (pos a ∷ numbers) (agent-held i h.0)
      (holds-cons (type_field s (agent_name s i ∷ type_name s i a ∷ texts)) fields (type_name s i a) texts (pos a) numbers (type-held i a (type_name s i a ∷ texts) h.0 h.1) more)

side-held : (side : Side) → word_among side_words (side_text side) ≡ Some (pos (side_place side))
side-held Least = refl
side-held Most = refl

one-up : (z : ℤ) → pos 0 <ℤ z → int_le (pos 1) z ≡ true
one-up z h = grind (arith, ints)

bound-holds : (s : GeneralSetting) (c : Condition) → IsConditionFor s c → Holds bound_fields (bound_texts c) (bound-numbers c)
bound-holds s c h =
    holds-cons (word_among side_words) (any_number ∷ denominator_field ∷ []) (side_text c.side) (text_of c.num ∷ text_of c.den ∷ []) (pos (side_place c.side)) (c.num ∷ c.den ∷ []) (side-held c.side)
    (holds-cons any_number (denominator_field ∷ []) (text_of c.num) (text_of c.den ∷ []) c.num (c.den ∷ []) (number_field-holds 62 (λ _. true) c.num (lit≤ tt) (record { passes = refl; small = h.num_size }))
    (holds-cons denominator_field [] (text_of c.den) [] c.den [] (number_field-holds 62 (int_le (pos 1)) c.den (lit≤ tt) (record { passes = one-up c.den h.positive; small = h.den_size })) holds-none))

-- ---- one condition

pub row-kind : (s : GeneralSetting) (c : Condition) → kind_of (condition_row s c) ≡ Some (kind_in c.measured)
row-kind s c = by_measure c.measured
  where
    by_measure : (m : Measured) → kind_of (word_of (kind_in m) ∷ (measure_texts s m ++ bound_texts c)) ≡ Some (kind_in m)
    by_measure measured.Revenue = refl
    by_measure measured.Welfare = refl
    by_measure (measured.Utility i) = refl
    by_measure (measured.Chance o) = refl
    by_measure (measured.ChanceAt r o) = refl
    by_measure (measured.Payment i) = refl
    by_measure (measured.PaymentAs i a) = refl

told-written : (s : GeneralSetting) (c : Condition) (n : ℕ) (others : Rows) → refusal_of s ≡ None → IsConditionFor s c
    → condition_of s (kind_in c.measured) record { read = n; left = condition_row s c ∷ others } ≡ Ok (c, record { read = n + 1; left = others })
told-written s c n others accepted h =
    let m = c.measured in
    let texts = measure_texts s m ++ bound_texts c in
    let fields : List Field = measure_fields s texts (kind_in m) ++ bound_fields in
    let holds = measure-holds s accepted m bound_fields (bound_texts c) (bound-numbers c) h.place (bound-holds s c h) in
    rw (record-written (word_of (kind_in m)) fields texts (places_of m ++ bound-numbers c) n others holds)
    (ap (λ (x : Condition). Ok (x, record { read = n + 1; left = others })) (from-numbers c))

next-written : (s : GeneralSetting) (found : List Condition) (c : Condition) (n : ℕ) (others : Rows) → refusal_of s ≡ None → IsConditionFor s c → are_few s (found ++ c ∷ []) ≡ true
    → next_condition s found (kind_in c.measured) record { read = n; left = condition_row s c ∷ others } ≡ Ok (c, record { read = n + 1; left = others })
next-written s found c n others accepted h few =
    ap (λ (r : Result (Condition × Rest) AnswerRefusal). then_read (then_read r (λ told. narrow s (kind_in c.measured) told)) (λ small. behind s found small)) (told-written s c n others accepted h)
    ∙ rw (condition-test s c h, few) refl

-- ---- all of them

front-few : (s : GeneralSetting) (xs ys : List Condition) → AreConditionsFor s (xs ++ ys) → are_few s xs ≡ true
front-few s xs ys h =
    let count : length xs ≤ 1000 = let few = h.few in omega (arith, few, length-append xs ys) in
    let rows : require_rows s xs ≤ 4096 = let few = h.few_rows in omega (arith, few, front-rows s xs ys) in
    few-test s xs count rows

all-written : (s : GeneralSetting) (found cs : List Condition) (n : ℕ) (others : Rows) → refusal_of s ≡ None → AreConditionsFor s (found ++ cs) → kind_ahead others ≡ None
    → conditions_in s found n (condition_rows s cs ++ others) ≡ Ok (found ++ cs, record { read = n + length (condition_rows s cs); left = others })
all-written s found [] n others accepted h ends =
    found-ends s found (record { read = n; left = others }) ends ∙ ap₂ (λ (l : List Condition) (k : ℕ). Ok (l, record { read = k; left = others })) (sym (append-nil found)) (sym (add-zero n))
all-written s found (c ∷ cs) n others accepted h ends =
    let regrouped : found ++ c ∷ cs ≡ (found ++ c ∷ []) ++ cs = sym (append_assoc found (c ∷ []) cs) in
    let same : AreConditionsFor s ((found ++ c ∷ []) ++ cs) = subst (λ (l : List Condition). AreConditionsFor s l) regrouped h in
    let one : IsConditionFor s c = All-head (IsConditionFor s) c cs (All-right (IsConditionFor s) found (c ∷ cs) h.each) in
    let rest = condition_rows s cs ++ others in
    let count : n + 1 + length (condition_rows s cs) ≡ n + length (condition_rows s (c ∷ cs)) = omega arith in
    rw (row-kind s c, conditions_in)
    (ap (λ (r : Result (Condition × Rest) AnswerRefusal). then_read r (λ x _. conditions_in s (found ++ x ∷ []) (n + 1) rest)) (next-written s found c n rest accepted one (front-few s (found ++ c ∷ []) cs same)))
    ∙ all-written s (found ++ c ∷ []) cs (n + 1) others accepted same ends
    ∙ ap₂ (λ (l : List Condition) (k : ℕ). Ok (l, record { read = k; left = others })) (sym regrouped) count

pub conditions-written : (s : GeneralSetting) (cs : List Condition) (others : Rows) → refusal_of s ≡ None → AreConditionsFor s cs → kind_ahead others ≡ None → IsWrittenBefore others (conditions_read s) (condition_rows s cs) cs
conditions-written s cs others accepted h ends = record { read = λ n. all-written s [] cs n others accepted h ends }

-- no record is empty
pub rows-some : (s : GeneralSetting) (cs : List Condition) → All IsSome (condition_rows s cs)
rows-some s [] = All-nil IsSome
rows-some s (c ∷ cs) = All-cons IsSome (condition_row s c) (condition_rows s cs) (omega arith) (rows-some s cs)
