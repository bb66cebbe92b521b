-- The record of a condition, by the steps over its fields.
use Rattle.std.proofs.Common.{◌≡◌, ℕ, ◌+◌, ℤ, pos, List, [], ◌∷◌, ◌++◌, length, Option, Some, Result, Ok, Err, refl, sym, ap, ap₂, subst, ◌∙◌}
use Rattle.std.specs.Prelude.{slice_index_or}
use Rattle.md_math.specs.Lists.{number_at}
use Rattle.md_setting.specs.Setting.{GeneralSetting}
use Rattle.md_parts.specs.declared.refusal.AnswerRefusal.{AnswerRefusal}
use Rattle.md_parts.specs.Fields.{Field, numbers_of}
use Rattle.md_parts.specs.FieldsRead.{FailsIn, Reads}
use Rattle.md_parts.specs.FirstRecord.{word_among}
use Rattle.md_parts.specs.Left.{Left}
use Rattle.md_parts.specs.Reading.{Rest}
use Rattle.md_parts.specs.Records.{record_with}
use Rattle.md_parts.proofs.FieldSteps.{fails-before, fails-then, reads-then}
use Rattle.md_parts.proofs.NumbersRead.{numbers-first}
use Rattle.md_parts.proofs.RecordSteps.{named-missing, named-read, names-fail, numbers-fail, taken}
use Rattle.md_require.specs.declared.condition.Condition.{Condition}
use Rattle.md_require.specs.declared.condition.Measured.{Measured}
use Rattle.md_require.specs.declared.condition.Measured.TheVariants as measured
use Rattle.md_require.specs.declared.condition.Side.{Side}
use Rattle.md_require.specs.declared.condition.Side.TheVariants.{Least, Most}
use Rattle.md_conditions_text.specs.declared.kind.Kind.{Kind}
use Rattle.md_conditions_text.specs.declared.kind.Kind.TheVariants.{Revenue, Welfare, Utility, Chance, ChanceAt, Payment, PaymentAs}
use Rattle.md_conditions_text.specs.ConditionFields.{agent_field, bound_fields, bounded, condition_from, condition_of, measure_fields, next_texts, place_or_zero, side_at, side_place, type_field}
use Rattle.md_conditions_text.specs.Kinds.{kind_in, measure_count, places_of, word_of}
use Rattle.md_conditions_text.specs.Names.{type_names}

-- ---- two names

not_none : (n : ℤ) → ◌≡◌ {A = Result (List ℤ) ℕ} (Ok []) (Ok (n ∷ [])) → ⊥
not_none n e = cc

first-place : (field : Field) (place : ℕ) (n : ℤ) (texts : List (List ℕ)) → numbers_of place (field ∷ []) texts ≡ Ok (n ∷ []) → field (slice_index_or texts 0 []) ≡ Some n
first-place field place n [] h = absurd (not_none n h)
first-place field place n (text ∷ texts) h =
    let f = numbers-first place field [] text texts (n ∷ []) h in
    let same : n ≡ f.number = ap (λ (ns : List ℤ). number_at ns 0) f.all in
    f.holds ∙ ap Some (sym same)

-- the field of a type is one of the agent that was read before it
pub type-of_agent : (s : GeneralSetting) (left mid : Left) (agent : ℕ) → Reads (agent_field s ∷ []) left mid (pos agent ∷ []) → type_field s left.texts ≡ word_among (type_names s agent)
type-of_agent s left mid agent reads =
    let one : agent_field s (slice_index_or left.texts 0 []) ≡ Some (pos agent) = first-place (agent_field s) left.place (pos agent) left.texts (reads.step []) in
    ap (λ (o : Option ℤ). word_among (type_names s (place_or_zero o))) one

pub agent-fails : (s : GeneralSetting) (left : Left) (refusal : AnswerRefusal) → FailsIn (agent_field s ∷ []) left refusal → FailsIn (agent_field s ∷ type_field s left.texts ∷ []) left refusal
agent-fails s left refusal fails = fails-before (agent_field s ∷ []) (type_field s left.texts ∷ []) left refusal fails

pub type-fails : (s : GeneralSetting) (left mid : Left) (agent : ℕ) (refusal : AnswerRefusal) → Reads (agent_field s ∷ []) left mid (pos agent ∷ []) → FailsIn (word_among (type_names s agent) ∷ []) mid refusal
    → FailsIn (agent_field s ∷ type_field s left.texts ∷ []) left refusal
type-fails s left mid agent refusal reads fails =
    rw (type-of_agent s left mid agent reads) (fails-then (agent_field s ∷ []) (word_among (type_names s agent) ∷ []) left mid (pos agent ∷ []) refusal reads fails)

pub type-read : (s : GeneralSetting) (left mid end : Left) (agent type : ℕ) → Reads (agent_field s ∷ []) left mid (pos agent ∷ []) → Reads (word_among (type_names s agent) ∷ []) mid end (pos type ∷ [])
    → Reads (agent_field s ∷ type_field s left.texts ∷ []) left end (pos agent ∷ pos type ∷ [])
type-read s left mid end agent type reads next =
    rw (type-of_agent s left mid agent reads) (reads-then (agent_field s ∷ []) (word_among (type_names s agent) ∷ []) left mid end (pos agent ∷ []) (pos type ∷ []) reads next)

pub both-read : (first second : Field) (left mid end : Left) (a b : ℤ) → Reads (first ∷ []) left mid (a ∷ []) → Reads (second ∷ []) mid end (b ∷ []) → Reads (first ∷ second ∷ []) left end (a ∷ b ∷ [])
both-read first second left mid end a b reads next = reads-then (first ∷ []) (second ∷ []) left mid end (a ∷ []) (b ∷ []) reads next

pub first-fails : (first second : Field) (left : Left) (refusal : AnswerRefusal) → FailsIn (first ∷ []) left refusal → FailsIn (first ∷ second ∷ []) left refusal
first-fails first second left refusal fails = fails-before (first ∷ []) (second ∷ []) left refusal fails

pub second-fails : (first second : Field) (left mid : Left) (a : ℤ) (refusal : AnswerRefusal) → Reads (first ∷ []) left mid (a ∷ []) → FailsIn (second ∷ []) mid refusal → FailsIn (first ∷ second ∷ []) left refusal
second-fails first second left mid a refusal reads fails = fails-then (first ∷ []) (second ∷ []) left mid (a ∷ []) refusal reads fails

-- ---- three numbers

pub three-read : (f g h : Field) (a b c d : Left) (x y z : ℤ) → Reads (f ∷ []) a b (x ∷ []) → Reads (g ∷ []) b c (y ∷ []) → Reads (h ∷ []) c d (z ∷ []) → Reads (f ∷ g ∷ h ∷ []) a d (x ∷ y ∷ z ∷ [])
three-read f g h a b c d x y z one two three = reads-then (f ∷ []) (g ∷ h ∷ []) a b d (x ∷ []) (y ∷ z ∷ []) one (both-read g h b c d y z two three)

pub one-fails : (f g h : Field) (a : Left) (refusal : AnswerRefusal) → FailsIn (f ∷ []) a refusal → FailsIn (f ∷ g ∷ h ∷ []) a refusal
one-fails f g h a refusal fails = fails-before (f ∷ []) (g ∷ h ∷ []) a refusal fails

pub two-fails : (f g h : Field) (a b : Left) (x : ℤ) (refusal : AnswerRefusal) → Reads (f ∷ []) a b (x ∷ []) → FailsIn (g ∷ []) b refusal → FailsIn (f ∷ g ∷ h ∷ []) a refusal
two-fails f g h a b x refusal one fails = fails-then (f ∷ []) (g ∷ h ∷ []) a b (x ∷ []) refusal one (first-fails g h b refusal fails)

pub three-fails : (f g h : Field) (a b c : Left) (x y : ℤ) (refusal : AnswerRefusal) → Reads (f ∷ []) a b (x ∷ []) → Reads (g ∷ []) b c (y ∷ []) → FailsIn (h ∷ []) c refusal → FailsIn (f ∷ g ∷ h ∷ []) a refusal
three-fails f g h a b c x y refusal one two fails = fails-then (f ∷ []) (g ∷ h ∷ []) a b (x ∷ []) refusal one (second-fails g h b c y refusal two fails)

-- ---- a record

pub measure-long : (s : GeneralSetting) (texts : List (List ℕ)) (kind : Kind) → length (measure_fields s texts kind) ≡ measure_count kind
measure-long s texts Revenue = refl
measure-long s texts Welfare = refl
measure-long s texts Utility = refl
measure-long s texts Chance = refl
measure-long s texts ChanceAt = refl
measure-long s texts Payment = refl
measure-long s texts PaymentAs = refl

long : (s : GeneralSetting) (texts : List (List ℕ)) (kind : Kind) → length (measure_fields s texts kind) + length bound_fields ≡ measure_count kind + 3
long s texts kind = ap (λ (n : ℕ). n + 3) (measure-long s texts kind)

texts-ahead : (word : List ℕ) (count : ℕ) (rest after : Rest) (left : Left) → record_with word count rest ≡ Ok (left, after) → left.texts ≡ next_texts rest.left
texts-ahead word count rest after left h =
    let t = taken word count rest left after h in
    ap (λ (l : Left). l.texts) t.fields_are ∙ sym (ap next_texts t.left)

-- the condition by the places of its measure
pub from-places : (m : Measured) (numbers : List ℤ) → condition_from (kind_in m) (places_of m ++ numbers) ≡ bounded m numbers
from-places measured.Revenue numbers = refl
from-places measured.Welfare numbers = refl
from-places (measured.Utility agent) numbers = refl
from-places (measured.Chance outcome) numbers = refl
from-places (measured.ChanceAt rank outcome) numbers = refl
from-places (measured.Payment agent) numbers = refl
from-places (measured.PaymentAs agent type) numbers = refl

pub side-again : (side : Side) → side_at (side_place side) ≡ side
side-again Least = refl
side-again Most = refl

abbrev pub bound-numbers : Condition → List ℤ
bound-numbers c = pos (side_place c.side) ∷ c.num ∷ c.den ∷ []

pub from-numbers : (c : Condition) → condition_from (kind_in c.measured) (places_of c.measured ++ bound-numbers c) ≡ c
from-numbers c = from-places c.measured (bound-numbers c) ∙ ap (λ (side : Side). record { measured = c.measured; side = side; num = c.num; den = c.den }) (side-again c.side)

-- a record that was taken by its word and the number of its fields
pub taken-by : (word w : List ℕ) (n m : ℕ) (rest after : Rest) (left : Left) → word ≡ w → n ≡ m → record_with word (n + 3) rest ≡ Ok (left, after) → record_with w (m + 3) rest ≡ Ok (left, after)
taken-by word w n m rest after left e f h = sym (ap₂ (λ (x : List ℕ) (k : ℕ). record_with x (k + 3) rest) e f) ∙ h

pub condition-missing : (s : GeneralSetting) (kind : Kind) (rest : Rest) (refusal : AnswerRefusal) → record_with (word_of kind) (measure_count kind + 3) rest ≡ Err refusal → condition_of s kind rest ≡ Err refusal
condition-missing s kind rest refusal h =
    rw (named-missing (word_of kind) (measure_fields s (next_texts rest.left) kind) bound_fields (measure_count kind + 3) rest refusal (long s (next_texts rest.left) kind) h) refl

pub condition-measure : (s : GeneralSetting) (kind : Kind) (rest after : Rest) (left : Left) (refusal : AnswerRefusal) → record_with (word_of kind) (measure_count kind + 3) rest ≡ Ok (left, after)
    → FailsIn (measure_fields s left.texts kind) left refusal → condition_of s kind rest ≡ Err refusal
condition-measure s kind rest after left refusal h fails =
    let same = texts-ahead (word_of kind) (measure_count kind + 3) rest after left h in
    let there = subst (λ (texts : List (List ℕ)). FailsIn (measure_fields s texts kind) left refusal) same fails in
    rw (names-fail (word_of kind) (measure_fields s (next_texts rest.left) kind) bound_fields (measure_count kind + 3) rest after left refusal (long s (next_texts rest.left) kind) h there) refl

pub condition-bound : (s : GeneralSetting) (kind : Kind) (rest after : Rest) (left mid : Left) (m : Measured) (refusal : AnswerRefusal) → record_with (word_of kind) (measure_count kind + 3) rest ≡ Ok (left, after)
    → Reads (measure_fields s left.texts kind) left mid (places_of m) → FailsIn bound_fields mid refusal → condition_of s kind rest ≡ Err refusal
condition-bound s kind rest after left mid m refusal h reads fails =
    let same = texts-ahead (word_of kind) (measure_count kind + 3) rest after left h in
    let there = subst (λ (texts : List (List ℕ)). Reads (measure_fields s texts kind) left mid (places_of m)) same reads in
    rw (numbers-fail (word_of kind) (measure_fields s (next_texts rest.left) kind) bound_fields (measure_count kind + 3) rest after left mid (places_of m) refusal (long s (next_texts rest.left) kind) h there fails) refl

pub condition-read : (s : GeneralSetting) (kind : Kind) (rest after : Rest) (left mid end : Left) (c : Condition) → record_with (word_of kind) (measure_count kind + 3) rest ≡ Ok (left, after) → kind_in c.measured ≡ kind
    → Reads (measure_fields s left.texts kind) left mid (places_of c.measured) → Reads bound_fields mid end (pos (side_place c.side) ∷ c.num ∷ c.den ∷ []) → condition_of s kind rest ≡ Ok (c, after)
condition-read s kind rest after left mid end c h kind_is reads more =
    let same = texts-ahead (word_of kind) (measure_count kind + 3) rest after left h in
    let there = subst (λ (texts : List (List ℕ)). Reads (measure_fields s texts kind) left mid (places_of c.measured)) same reads in
    let made : condition_from kind (places_of c.measured ++ bound-numbers c) ≡ c = subst (λ (k : Kind). condition_from k (places_of c.measured ++ bound-numbers c) ≡ c) kind_is (from-numbers c) in
    rw (named-read (word_of kind) (measure_fields s (next_texts rest.left) kind) bound_fields (measure_count kind + 3) rest after left mid end (places_of c.measured) (bound-numbers c) (long s (next_texts rest.left) kind) h there more)
    (ap (λ (x : Condition). Ok (x, after)) made)
