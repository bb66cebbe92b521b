-- The records of a mechanism, by the steps over their fields.
use Rattle.std.proofs.Common.{◌≡◌, ℕ, zero, suc, ◌+◌, ◌<◌, ◌≤◌, add-one, subst, take, take_all, ℤ, pos, true, false, List, [], ◌∷◌, ◌++◌, map, drop, get_or, length, replicate, codes, Ok, Err, refl, sym, ap, ◌∙◌, arith}
use Rattle.std.proofs.lemmas.List.{length-map, length-replicate}
use Rattle.md_space.specs.Profiles.{profile_count, profile_at}
use Rattle.md_space.proofs.Ranks.{length-IsProfile, profile_at-IsProfile}
use Rattle.std.specs.Ordering.{int_eq}
use Rattle.md_math.specs.Sums.{total}
use Rattle.md_setting.specs.Setting.{Agent, GeneralSetting}
use Rattle.md_setting.specs.Meaning.{nobody, agent_at, agent_count, outcome_count, sizes_of}
use Rattle.md_mech.specs.RowName.{type_names}
use Rattle.md_parts.specs.declared.refusal.AnswerRefusal.{AnswerRefusal}
use Rattle.md_parts.specs.declared.refusal.AnswerRefusal.TheVariants.{Sum}
use Rattle.md_parts.specs.Fields.{Field, word_field, any_number, chance_field, denominator_field, wide_number, wide_denominator}
use Rattle.md_parts.specs.Left.{Left}
use Rattle.md_parts.specs.Reading.{Rest, read_record}
use Rattle.md_parts.specs.Records.{record_with}
use Rattle.md_parts.specs.FieldsRead.{Reads, FailsIn}
use Rattle.md_parts.specs.Table.{profile_fields, denominator_of, lottery_of, payments_of, value_of}
use Rattle.md_parts.proofs.FieldSteps.{reads-taken, fails-taken}
use Rattle.md_parts.proofs.RecordSteps.{record-read, record-fails, record-missing}

-- the field of an agent's type
pub names-at : (agents : List Agent) (t : List ℕ) (i : ℕ) (d : Field) → length t ≡ length agents → i < length agents
    → get_or (map word_field (type_names agents t)) i d ≡ word_field (get_or (get_or agents i nobody).types (get_or t i 0) [])
names-at [] t i d long l = absurd (omega arith)
names-at (agent ∷ others) [] i d long l = absurd (omega arith)
names-at (agent ∷ others) (a ∷ t) zero d long l = refl
names-at (agent ∷ others) (a ∷ t) (suc i) d long l = names-at others t i d (omega arith) (omega arith)

pub length-names : (agents : List Agent) (t : List ℕ) → length t ≡ length agents → length (map word_field (type_names agents t)) ≡ length agents
length-names [] [] long = refl
length-names [] (a ∷ t) long = refl
length-names (agent ∷ others) [] long = absurd (omega arith)
length-names (agent ∷ others) (a ∷ t) long = let e : length t ≡ length others = omega arith in ap suc (length-names others t e)

-- the names of a profile of a setting
pub name-field : (s : GeneralSetting) (t : List ℕ) (i : ℕ) (d : Field) → length t ≡ agent_count s → i < agent_count s
    → get_or (profile_fields s t) i d ≡ word_field (get_or (agent_at s i).types (get_or t i 0) [])
name-field s t i d long l = names-at s.agents t i d long l

pub name-count : (s : GeneralSetting) (t : List ℕ) → length t ≡ agent_count s → length (profile_fields s t) ≡ agent_count s
name-count s t long = length-names s.agents t long

-- zeros in front are dropped
drop-zeros : (n : ℕ) (ns : List ℤ) → drop n (replicate n (pos 0) ++ ns) ≡ ns
drop-zeros zero ns = refl
drop-zeros (suc n) ns = drop-zeros n ns

-- the denominator
pub denominator-read : (rest after : Rest) (left end : Left) (den : ℤ) → record_with (codes "table") 1 rest ≡ Ok (left, after) → Reads (denominator_field ∷ []) left end (den ∷ []) → denominator_of rest ≡ Ok (den, after)
denominator-read rest after left end den h reads =
    rw (record-read (codes "table") (denominator_field ∷ []) 1 rest after left end (den ∷ []) refl h reads) refl

pub denominator-fails : (rest after : Rest) (left : Left) (refusal : AnswerRefusal) → record_with (codes "table") 1 rest ≡ Ok (left, after) → FailsIn (denominator_field ∷ []) left refusal → denominator_of rest ≡ Err refusal
denominator-fails rest after left refusal h fails =
    rw (record-fails (codes "table") (denominator_field ∷ []) 1 rest after left refusal refl h fails) refl

pub denominator-missing : (rest : Rest) (refusal : AnswerRefusal) → record_with (codes "table") 1 rest ≡ Err refusal → denominator_of rest ≡ Err refusal
denominator-missing rest refusal h = rw (record-missing (codes "table") (denominator_field ∷ []) 1 rest refusal refl h) refl

-- the value
abbrev value_fields : List Field
value_fields = wide_number ∷ wide_denominator ∷ []

pub value-read : (rest after : Rest) (left end : Left) (num den : ℤ) → record_with (codes "value") 2 rest ≡ Ok (left, after) → Reads value_fields left end (num ∷ den ∷ []) → value_of rest ≡ Ok (record { num = num; den = den }, after)
value-read rest after left end num den h reads = rw (record-read (codes "value") value_fields 2 rest after left end (num ∷ den ∷ []) refl h reads) refl

pub value-fails : (rest after : Rest) (left : Left) (refusal : AnswerRefusal) → record_with (codes "value") 2 rest ≡ Ok (left, after) → FailsIn value_fields left refusal → value_of rest ≡ Err refusal
value-fails rest after left refusal h fails = rw (record-fails (codes "value") value_fields 2 rest after left refusal refl h fails) refl

pub value-missing : (rest : Rest) (refusal : AnswerRefusal) → record_with (codes "value") 2 rest ≡ Err refusal → value_of rest ≡ Err refusal
value-missing rest refusal h = rw (record-missing (codes "value") value_fields 2 rest refusal refl h) refl

-- a profile has a type for each agent
pub profile-long : (s : GeneralSetting) (rank : ℕ) → rank < profile_count (sizes_of s) → length (profile_at (sizes_of s) rank) ≡ agent_count s
profile-long s rank l =
    length-IsProfile (sizes_of s) (profile_at (sizes_of s) rank) (profile_at-IsProfile (sizes_of s) rank l) ∙ length-map s.agents (λ (a : Agent). length a.types)

pub agent_count-sizes : (s : GeneralSetting) → length (sizes_of s) ≡ agent_count s
agent_count-sizes s = length-map s.agents (λ (a : Agent). length a.types)

zeros-more : (i : ℕ) → replicate (i + 1) (pos 0) ≡ replicate i (pos 0) ++ pos 0 ∷ []
zeros-more i = rw add-one (one_more i)
  where
    one_more : (i : ℕ) → replicate (suc i) (pos 0) ≡ replicate i (pos 0) ++ pos 0 ∷ []
    one_more zero = refl
    one_more (suc i) = ap (λ (zs : List ℤ). pos 0 ∷ zs) (one_more i)

-- the step of a loop over the names
pub names-more : (s : GeneralSetting) (rank i : ℕ) (name : List ℕ) (a b c : Left) → rank < profile_count (sizes_of s) → i < agent_count s
    → name ≡ get_or (agent_at s i).types (get_or (profile_at (sizes_of s) rank) i 0) []
    → Reads (take i (profile_fields s (profile_at (sizes_of s) rank))) a b (replicate i (pos 0)) → Reads (word_field name ∷ []) b c (pos 0 ∷ [])
    → Reads (take (i + 1) (profile_fields s (profile_at (sizes_of s) rank))) a c (replicate (i + 1) (pos 0))
names-more s rank i name a b c l m is first next =
    let t = profile_at (sizes_of s) rank in
    let long = profile-long s rank l in
    let at : get_or (profile_fields s t) i any_number ≡ word_field name = name-field s t i any_number long m ∙ ap word_field (sym is) in
    let count = name-count s t long in
    rw (zeros-more i) (reads-taken (profile_fields s t) i (word_field name) any_number a b c (replicate i (pos 0)) (pos 0) (omega arith) at first next)

pub names-fail_at : (s : GeneralSetting) (rank i : ℕ) (name : List ℕ) (a b : Left) (refusal : AnswerRefusal) → rank < profile_count (sizes_of s) → i < agent_count s
    → name ≡ get_or (agent_at s i).types (get_or (profile_at (sizes_of s) rank) i 0) []
    → Reads (take i (profile_fields s (profile_at (sizes_of s) rank))) a b (replicate i (pos 0)) → FailsIn (word_field name ∷ []) b refusal
    → FailsIn (profile_fields s (profile_at (sizes_of s) rank)) a refusal
names-fail_at s rank i name a b refusal l m is first next =
    let t = profile_at (sizes_of s) rank in
    let long = profile-long s rank l in
    let at : get_or (profile_fields s t) i any_number ≡ word_field name = name-field s t i any_number long m ∙ ap word_field (sym is) in
    let count = name-count s t long in
    fails-taken (profile_fields s t) i (word_field name) any_number a b (replicate i (pos 0)) refusal (omega arith) at first next

pub names-all : (s : GeneralSetting) (rank i : ℕ) (a b : Left) → rank < profile_count (sizes_of s) → i ≡ agent_count s
    → Reads (take i (profile_fields s (profile_at (sizes_of s) rank))) a b (replicate i (pos 0))
    → Reads (profile_fields s (profile_at (sizes_of s) rank)) a b (replicate (agent_count s) (pos 0))
names-all s rank i a b l e first =
    let t = profile_at (sizes_of s) rank in
    let count = name-count s t (profile-long s rank l) in
    rw (← e) (subst (λ (fs : List Field). Reads fs a b (replicate i (pos 0))) (take_all i (profile_fields s t) (omega arith)) first)

-- a rank below the number of profiles that a space tells, and one past it
pub rank-count : (s : GeneralSetting) (space : List ℕ) (rank n : ℕ) → space ≡ sizes_of s → n ≡ profile_count space → rank < n → rank < profile_count (sizes_of s)
rank-count s space rank n e count l = let same = ap profile_count e in omega (arith, same, count, l)

pub rank-end : (s : GeneralSetting) (space : List ℕ) (rank n : ℕ) → space ≡ sizes_of s → n ≡ profile_count space → n ≤ rank → profile_count (sizes_of s) ≤ rank
rank-end s space rank n e count l = let same = ap profile_count e in omega (arith, same, count, l)

pub ruleset counts = (agent_count-sizes)

-- the fields of a record that stands for a profile
pub field-count : (s : GeneralSetting) (rank n : ℕ) (field : Field) → rank < profile_count (sizes_of s) → length (profile_fields s (profile_at (sizes_of s) rank)) + length (replicate n field) ≡ agent_count s + n
field-count s rank n field l = rw (name-count s (profile_at (sizes_of s) rank) (profile-long s rank l)) (ap (λ k. agent_count s + k) (length-replicate n field))

-- a lottery, by the numbers of its record
pub lottery-by : (s : GeneralSetting) (den : ℤ) (t : List ℕ) (rest after : Rest) (ns : List ℤ) (sum : ℤ)
    → read_record (codes "lottery") (profile_fields s t ++ replicate (outcome_count s) chance_field) rest ≡ Ok (replicate (agent_count s) (pos 0) ++ ns, after) → sum ≡ total ns
    → int_eq sum den ≡ true → lottery_of s den t rest ≡ Ok (ns, after)
lottery-by s den t rest after ns sum h adds same =
    let same_total : int_eq (total ns) den ≡ true = rw (← adds) same in rw (h, drop-zeros (agent_count s) ns, same_total) refl

pub lottery-sum : (s : GeneralSetting) (den : ℤ) (t : List ℕ) (rest after : Rest) (ns : List ℤ) (sum : ℤ)
    → read_record (codes "lottery") (profile_fields s t ++ replicate (outcome_count s) chance_field) rest ≡ Ok (replicate (agent_count s) (pos 0) ++ ns, after) → sum ≡ total ns
    → int_eq sum den ≡ false → lottery_of s den t rest ≡ Err (Sum after.read)
lottery-sum s den t rest after ns sum h adds same =
    let same_total : int_eq (total ns) den ≡ false = rw (← adds) same in rw (h, drop-zeros (agent_count s) ns, same_total) refl

pub lottery-fails : (s : GeneralSetting) (den : ℤ) (t : List ℕ) (rest : Rest) (refusal : AnswerRefusal)
    → read_record (codes "lottery") (profile_fields s t ++ replicate (outcome_count s) chance_field) rest ≡ Err refusal → lottery_of s den t rest ≡ Err refusal
lottery-fails s den t rest refusal h = rw h refl

-- payments, by the numbers of their record
pub payments-by : (word : List ℕ) (s : GeneralSetting) (t : List ℕ) (rest after : Rest) (ns : List ℤ)
    → read_record word (profile_fields s t ++ replicate (agent_count s) any_number) rest ≡ Ok (replicate (agent_count s) (pos 0) ++ ns, after) → payments_of word s t rest ≡ Ok (ns, after)
payments-by word s t rest after ns h = rw (h, drop-zeros (agent_count s) ns) refl

pub payments-fails : (word : List ℕ) (s : GeneralSetting) (t : List ℕ) (rest : Rest) (refusal : AnswerRefusal)
    → read_record word (profile_fields s t ++ replicate (agent_count s) any_number) rest ≡ Err refusal → payments_of word s t rest ≡ Err refusal
payments-fails word s t rest refusal h = rw h refl
