-- The records of odds, payments and masses of a sale, by the steps over their fields and over the places.
use Rattle.std.proofs.Common.{◌≡◌, ℕ, zero, suc, ◌+◌, ◌-◌, ◌*◌, ◌<◌, ◌≤◌, ◌^◌, ℤ, pos, ◌≤ℤ◌, min, Bool, true, false, ◌&&◌, int_le, nat_le, List, [], ◌∷◌, ◌++◌, map, drop, length, replicate, codes, Ok, Err, add-one, refl, sym, ap, subst, ◌∙◌, arith, All, length-append, length-drop, mul-le-mul, inl, inr, lit≤}
use Rattle.std.specs.Prelude.{slice_index, unsigned_abs}
use Rattle.std.proofs.lemmas.Bool.{cases_lt}
use Rattle.std.proofs.lemmas.Int.{ints}
use Rattle.std.proofs.lemmas.List.{length-replicate}
use Rattle.std.proofs.lemmas.List.Elements.{All-get_or}
use Rattle.md_math.specs.Lists.{number_at}
use Rattle.md_math.specs.Sums.{total}
use Rattle.md_math.proofs.SumLaws.{sum_to-nonneg}
use Rattle.md_math.proofs.TotalLaws.{total_by-places}
use Rattle.md_space.specs.Profiles.{profile_at, profile_count}
use Rattle.md_setting.specs.Setting.{GeneralSetting}
use Rattle.md_setting.specs.Meaning.{agent_count, sizes_of}
use Rattle.md_mech.specs.RowName.{agent_name}
use Rattle.md_parts.specs.declared.refusal.AnswerRefusal.{AnswerRefusal}
use Rattle.md_parts.specs.declared.refusal.AnswerRefusal.TheVariants.{Sum}
use Rattle.md_parts.specs.Fields.{Field, amount_field, is_amount, word_field}
use Rattle.md_parts.specs.FieldsRead.{FailsIn, Reads}
use Rattle.md_parts.specs.Left.{Left}
use Rattle.md_parts.specs.Reading.{Reading, Rest, read_record}
use Rattle.md_parts.specs.Records.{record_with}
use Rattle.md_parts.specs.Table.{profile_fields}
use Rattle.md_parts.proofs.NumbersRead.{IsInField, number_field-is, numbers-after, record-was_read}
use Rattle.md_parts.proofs.RecordSteps.{named-missing, named-read, names-fail, numbers-fail}
use Rattle.md_parts.proofs.TableSteps.{field-count, name-count, profile-long}
use Rattle.md_asym_tables.specs.PairNets.{cap_at}
use Rattle.md_asym.specs.SaleReading.{agent_numbers, each_of, mass_field, masses_at}

-- ---- one place after another

module _ (read : ℕ → Reading (List ℤ)) where
  pub each-more : (k : ℕ) (start now next : Rest) (numbers more : List ℤ) → each_of k read start ≡ Ok (numbers, now) → read k now ≡ Ok (more, next) → each_of (k + 1) read start ≡ Ok (numbers ++ more, next)
  each-more k start now next numbers more h one = ap (λ (n : ℕ). each_of n read start) (add-one k) ∙ rw (h, one) refl

  pub each-fail : (n k : ℕ) (start now : Rest) (numbers : List ℤ) (refusal : AnswerRefusal) → k < n → each_of k read start ≡ Ok (numbers, now) → read k now ≡ Err refusal → each_of n read start ≡ Err refusal
  each-fail zero k start now numbers refusal l h one = absurd (omega arith)
  each-fail (suc n) k start now numbers refusal l h one = elim (cases_lt k n) [
    | inl below ↦ rw (each-fail n k start now numbers refusal below h one) refl
    | inr past ↦ (let e : k ≡ n = omega arith in let first = rw e at h in let second = rw e at one in rw (first, second) refl)
  ]

  pub each-end : (n k : ℕ) (start now : Rest) (numbers : List ℤ) → k ≡ n → each_of k read start ≡ Ok (numbers, now) → each_of n read start ≡ Ok (numbers, now)
  each-end n k start now numbers e h = subst (λ (m : ℕ). each_of m read start ≡ Ok (numbers, now)) e h

-- ---- the record of a bidder

abbrev agent_fields : GeneralSetting → Field → ℕ → List Field
agent_fields s field i = replicate (slice_index (sizes_of s) i) field

agent-long : (s : GeneralSetting) (field : Field) (i types : ℕ) (name : List ℕ) → types ≡ slice_index (sizes_of s) i → length (word_field name ∷ []) + length (agent_fields s field i) ≡ 1 + types
agent-long s field i types name e = omega (arith, e, length-replicate (slice_index (sizes_of s) i) field)

module _ (word : List ℕ) (s : GeneralSetting) (field : Field) (i types : ℕ) (same : types ≡ slice_index (sizes_of s) i) where
  plain-read : (rest after : Rest) (numbers : List ℤ) → read_record word (word_field (agent_name s i) ∷ agent_fields s field i) rest ≡ Ok (pos 0 ∷ numbers, after) → agent_numbers word s field i rest ≡ Ok (numbers, after)
  plain-read rest after numbers h = rw h refl

  plain-fails : (rest : Rest) (refusal : AnswerRefusal) → read_record word (word_field (agent_name s i) ∷ agent_fields s field i) rest ≡ Err refusal → agent_numbers word s field i rest ≡ Err refusal
  plain-fails rest refusal h = rw h refl

  pub agent-read : (rest after : Rest) (left mid end : Left) (name : List ℕ) (numbers : List ℤ) → name ≡ agent_name s i → record_with word (1 + types) rest ≡ Ok (left, after)
      → Reads (word_field name ∷ []) left mid (pos 0 ∷ []) → Reads (replicate types field) mid end numbers → agent_numbers word s field i rest ≡ Ok (numbers, after)
  agent-read rest after left mid end name numbers e h first second =
      let one : Reads (word_field (agent_name s i) ∷ []) left mid (pos 0 ∷ []) = subst (λ (n : List ℕ). Reads (word_field n ∷ []) left mid (pos 0 ∷ [])) e first in
      let more : Reads (agent_fields s field i) mid end numbers = subst (λ (n : ℕ). Reads (replicate n field) mid end numbers) same second in
      plain-read rest after numbers
      (named-read word (word_field (agent_name s i) ∷ []) (agent_fields s field i) (1 + types) rest after left mid end (pos 0 ∷ []) numbers (agent-long s field i types (agent_name s i) same) h one more)

  pub agent-missing : (rest : Rest) (refusal : AnswerRefusal) → record_with word (1 + types) rest ≡ Err refusal → agent_numbers word s field i rest ≡ Err refusal
  agent-missing rest refusal h =
      plain-fails rest refusal
      (named-missing word (word_field (agent_name s i) ∷ []) (agent_fields s field i) (1 + types) rest refusal (agent-long s field i types (agent_name s i) same) h)

  pub agent-name_fails : (rest after : Rest) (left : Left) (name : List ℕ) (refusal : AnswerRefusal) → name ≡ agent_name s i → record_with word (1 + types) rest ≡ Ok (left, after)
      → FailsIn (word_field name ∷ []) left refusal → agent_numbers word s field i rest ≡ Err refusal
  agent-name_fails rest after left name refusal e h fails =
      plain-fails rest refusal
      (names-fail word (word_field (agent_name s i) ∷ []) (agent_fields s field i) (1 + types) rest after left refusal (agent-long s field i types (agent_name s i) same) h
      (subst (λ (n : List ℕ). FailsIn (word_field n ∷ []) left refusal) e fails))

  pub agent-numbers_fail : (rest after : Rest) (left mid : Left) (name : List ℕ) (refusal : AnswerRefusal) → name ≡ agent_name s i → record_with word (1 + types) rest ≡ Ok (left, after)
      → Reads (word_field name ∷ []) left mid (pos 0 ∷ []) → FailsIn (replicate types field) mid refusal → agent_numbers word s field i rest ≡ Err refusal
  agent-numbers_fail rest after left mid name refusal e h first fails =
      plain-fails rest refusal
      (numbers-fail word (word_field (agent_name s i) ∷ []) (agent_fields s field i) (1 + types) rest after left mid (pos 0 ∷ []) refusal (agent-long s field i types (agent_name s i) same) h
      (subst (λ (n : List ℕ). Reads (word_field n ∷ []) left mid (pos 0 ∷ [])) e first) (subst (λ (n : ℕ). FailsIn (replicate n field) mid refusal) same fails))

-- ---- the record of a profile

abbrev pub most_mass : ℕ
most_mass = 2 ^ 126 - 1

abbrev pub IsMass : ℤ → Type 0
IsMass z = IsInField 126 (is_amount most_mass) z

abbrev names : GeneralSetting → ℕ → List Field
names s rank = profile_fields s (profile_at (sizes_of s) rank)

abbrev mass_fields : GeneralSetting → List Field
mass_fields s = replicate (agent_count s) mass_field

-- the numbers of the record of a profile, behind the names
pub record AreMassesRead (s : GeneralSetting) (numbers : List ℤ) : Type 0 where
  pub long : length (drop (agent_count s) numbers) ≡ agent_count s
  pub each : All IsMass (drop (agent_count s) numbers)

pub rank-numbers : (s : GeneralSetting) (rank : ℕ) (rest after : Rest) (numbers : List ℤ) → rank < profile_count (sizes_of s)
    → read_record (codes "mass") (names s rank ++ mass_fields s) rest ≡ Ok (numbers, after) → AreMassesRead s numbers
rank-numbers s rank rest after numbers b h =
    let fields = names s rank ++ mass_fields s in
    let r = record-was_read (codes "mass") fields rest numbers after h in
    let count = name-count s (profile_at (sizes_of s) rank) (profile-long s rank b) in
    let long : length r.texts ≡ length (names s rank) + agent_count s = r.long ∙ length-append (names s rank) (mass_fields s) ∙ ap (λ n. length (names s rank) + n) (length-replicate (agent_count s) mass_field) in
    let e = numbers-after IsMass mass_field (λ text n holds. number_field-is 126 (is_amount most_mass) text n (lit≤ tt) holds) (names s rank) (agent_count s) 2 r.texts numbers long r.read in
    record {
      long = let l = e.long in length-drop (agent_count s) numbers ∙ omega (arith, count, l);
      each = subst (λ (n : ℕ). All IsMass (drop n numbers)) count e.each;
    }

both-tests : (a b : Bool) → (a && b) ≡ true → a ≡ true
both-tests true b h = refl
both-tests false b h = h

pub mass-nonneg : (z : ℤ) → IsMass z → pos 0 ≤ℤ z
mass-nonneg z h = from_zero (both-tests (int_le (pos 0) z) (nat_le (unsigned_abs z) most_mass) h.passes)
  where
    from_zero : int_le (pos 0) z ≡ true → pos 0 ≤ℤ z
    from_zero e = grind (arith, ints)

masses-nonneg : (numbers : List ℤ) → All IsMass numbers → pos 0 ≤ℤ total numbers
masses-nonneg numbers all =
    subst (λ (z : ℤ). pos 0 ≤ℤ z) (sym (total_by-places (λ x. x) numbers (pos 0)))
    (sum_to-nonneg (length numbers) (λ k. number_at numbers k) (λ k l. mass-nonneg (number_at numbers k) (All-get_or IsMass numbers k (pos 0) l all)))

-- zeros in front are dropped
drop-zeros : (n : ℕ) (ns : List ℤ) → drop n (replicate n (pos 0) ++ ns) ≡ ns
drop-zeros zero ns = refl
drop-zeros (suc n) ns = drop-zeros n ns

pub map-amounts : (n : ℕ) (most : ℕ) → map amount_field (replicate n most) ≡ replicate n (amount_field most)
map-amounts zero most = refl
map-amounts (suc n) most = ap (λ (fs : List Field). amount_field most ∷ fs) (map-amounts n most)

rank-long : (s : GeneralSetting) (rank count : ℕ) → rank < profile_count (sizes_of s) → count ≡ agent_count s → length (names s rank) + length (mass_fields s) ≡ 2 * count
rank-long s rank count b e = omega (arith, e, field-count s rank (agent_count s) mass_field b)

within-test : (z c : ℤ) (most sum : ℕ) → pos most ≡ c → sum ≡ min (unsigned_abs z) (most + 1) → sum ≤ most → int_le z c ≡ true
within-test z c most sum e s l = rw (← e) (test (below e s l))
  where
    below : pos most ≡ c → sum ≡ min (unsigned_abs z) (most + 1) → sum ≤ most → z ≤ℤ pos most
    below e s l = omega (arith, ints)

    test : z ≤ℤ pos most → int_le z (pos most) ≡ true
    test l = grind (arith, ints)

over-test : (z c : ℤ) (most sum : ℕ) → pos most ≡ c → sum ≡ min (unsigned_abs z) (most + 1) → pos 0 ≤ℤ z → most < sum → int_le z c ≡ false
over-test z c most sum e s n l = rw (← e) (test (above s n l))
  where
    above : sum ≡ min (unsigned_abs z) (most + 1) → pos 0 ≤ℤ z → most < sum → most < unsigned_abs z
    above s n l = omega (arith, ints)

    test : most < unsigned_abs z → int_le z (pos most) ≡ false
    test l = grind (arith, ints)

module _ (s : GeneralSetting) (den : ℤ) (rank : ℕ) (b : rank < profile_count (sizes_of s)) where
  rank-fails : (rest : Rest) (refusal : AnswerRefusal) → read_record (codes "mass") (names s rank ++ mass_fields s) rest ≡ Err refusal → masses_at s den rank rest ≡ Err refusal
  rank-fails rest refusal h = rw h refl

  pub rank-missing : (count : ℕ) (rest : Rest) (refusal : AnswerRefusal) → count ≡ agent_count s → record_with (codes "mass") (2 * count) rest ≡ Err refusal → masses_at s den rank rest ≡ Err refusal
  rank-missing count rest refusal e h = rank-fails rest refusal (named-missing (codes "mass") (names s rank) (mass_fields s) (2 * count) rest refusal (rank-long s rank count b e) h)

  pub rank-names_fail : (count : ℕ) (rest after : Rest) (left : Left) (refusal : AnswerRefusal) → count ≡ agent_count s → record_with (codes "mass") (2 * count) rest ≡ Ok (left, after)
      → FailsIn (names s rank) left refusal → masses_at s den rank rest ≡ Err refusal
  rank-names_fail count rest after left refusal e h fails = rank-fails rest refusal (names-fail (codes "mass") (names s rank) (mass_fields s) (2 * count) rest after left refusal (rank-long s rank count b e) h fails)

  pub rank-masses_fail : (count : ℕ) (rest after : Rest) (left mid : Left) (mosts : List ℕ) (refusal : AnswerRefusal) → count ≡ agent_count s → mosts ≡ replicate (agent_count s) most_mass
      → record_with (codes "mass") (2 * count) rest ≡ Ok (left, after) → Reads (names s rank) left mid (replicate (agent_count s) (pos 0)) → FailsIn (map amount_field mosts) mid refusal → masses_at s den rank rest ≡ Err refusal
  rank-masses_fail count rest after left mid mosts refusal e are h first fails =
      let masses : FailsIn (mass_fields s) mid refusal = subst (λ (fs : List Field). FailsIn fs mid refusal) (ap (map amount_field) are ∙ map-amounts (agent_count s) most_mass) fails in
      rank-fails rest refusal (numbers-fail (codes "mass") (names s rank) (mass_fields s) (2 * count) rest after left mid (replicate (agent_count s) (pos 0)) refusal (rank-long s rank count b e) h first masses)

  -- a record that was read so far: its names, and then amounts
  pub record IsRankRead (rest after : Rest) (numbers : List ℤ) : Type 0 where
    pub read : read_record (codes "mass") (names s rank ++ mass_fields s) rest ≡ Ok (replicate (agent_count s) (pos 0) ++ numbers, after)
    pub nonneg : pos 0 ≤ℤ total numbers

  pub rank-read : (count : ℕ) (rest after : Rest) (left mid end : Left) (mosts : List ℕ) (numbers : List ℤ) → count ≡ agent_count s → mosts ≡ replicate (agent_count s) most_mass
      → record_with (codes "mass") (2 * count) rest ≡ Ok (left, after) → Reads (names s rank) left mid (replicate (agent_count s) (pos 0)) → Reads (map amount_field mosts) mid end numbers → IsRankRead rest after numbers
  rank-read count rest after left mid end mosts numbers e are h first second =
      let masses : Reads (mass_fields s) mid end numbers = subst (λ (fs : List Field). Reads fs mid end numbers) (ap (map amount_field) are ∙ map-amounts (agent_count s) most_mass) second in
      let whole = named-read (codes "mass") (names s rank) (mass_fields s) (2 * count) rest after left mid end (replicate (agent_count s) (pos 0)) numbers (rank-long s rank count b e) h first masses in
      let known = rank-numbers s rank rest after (replicate (agent_count s) (pos 0) ++ numbers) b whole in
      record { read = whole; nonneg = masses-nonneg numbers (subst (λ (ns : List ℤ). All IsMass ns) (drop-zeros (agent_count s) numbers) known.each) }

  pub rank-within : (whole sum : ℕ) (rest after : Rest) (numbers : List ℤ) → IsRankRead rest after numbers → pos whole ≡ cap_at s den rank → sum ≡ min (unsigned_abs (total numbers)) (whole + 1)
      → sum ≤ whole → masses_at s den rank rest ≡ Ok (numbers, after)
  rank-within whole sum rest after numbers h e adds l =
      let inside = within-test (total numbers) (cap_at s den rank) whole sum e adds l in
      rw (h.read, drop-zeros (agent_count s) numbers, inside) refl

  pub rank-over : (whole sum : ℕ) (rest after : Rest) (numbers : List ℤ) → IsRankRead rest after numbers → pos whole ≡ cap_at s den rank → sum ≡ min (unsigned_abs (total numbers)) (whole + 1)
      → whole < sum → masses_at s den rank rest ≡ Err (Sum after.read)
  rank-over whole sum rest after numbers h e adds l =
      let outside = over-test (total numbers) (cap_at s den rank) whole sum e adds h.nonneg l in
      rw (h.read, drop-zeros (agent_count s) numbers, outside) refl

-- ---- what there is to give

pub whole-most : (den weight : ℕ) → den < 2 ^ 62 → weight ≤ 1000000 → den * weight < 2 ^ 126
whole-most den weight l m =
    let most : den * weight ≤ 2 ^ 62 * 1000000 = mul-le-mul (let k : den ≤ 2 ^ 62 = omega arith in k) m in
    omega (arith, most)
