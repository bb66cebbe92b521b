-- What is known of odds, payments and masses of a sale that were read.
use Rattle.std.proofs.Common.{◌≡◌, ℕ, zero, suc, ◌+◌, ◌*◌, ◌<◌, ◌≤◌, ℤ, pos, ◌≤ℤ◌, Bool, true, false, int_le, List, [], ◌∷◌, ◌++◌, drop, length, replicate, codes, Result, Ok, Err, if◌then◌else◌, refl, sym, ap, subst, ◌∙◌, arith, All, length-append, length-drop, lit≤, inl, inr}
use Rattle.std.specs.Prelude.{slice_index, unsigned_abs}
use Rattle.std.proofs.lemmas.Bool.{cases_lt}
use Rattle.std.proofs.lemmas.Int.{ints}
use Rattle.std.proofs.lemmas.List.{get_or_append_left, length-replicate}
use Rattle.std.proofs.lemmas.List.Elements.{All-append, All-get_or, All-nil}
use Rattle.std.proofs.lemmas.Nat.{mul-add-lt}
use Rattle.md_math.specs.Lists.{number_at}
use Rattle.md_math.specs.Sums.{total, sum_to}
use Rattle.md_math.proofs.Builders.{number_at-behind}
use Rattle.md_math.proofs.SumLaws.{sum_to-same}
use Rattle.md_math.proofs.TotalLaws.{total_by-places}
use Rattle.md_space.specs.Profiles.{profile_count}
use Rattle.md_setting.specs.Setting.{GeneralSetting}
use Rattle.md_setting.specs.Meaning.{agent_count, sizes_of}
use Rattle.md_mech.specs.RowName.{agent_name}
use Rattle.md_mech.specs.Accepted.{number_limit}
use Rattle.md_border.specs.declared.interim.Interim.{Interim}
use Rattle.md_parts.specs.declared.refusal.AnswerRefusal.{AnswerRefusal}
use Rattle.md_parts.specs.declared.refusal.AnswerRefusal.TheVariants.{Sum}
use Rattle.md_parts.specs.Fields.{Field, any_number, denominator_field, is_place, number_field, word_field}
use Rattle.md_parts.specs.Reading.{Rest, read_record}
use Rattle.md_parts.proofs.Blocks.{IsBlockAt, in_two}
use Rattle.md_parts.proofs.NumbersRead.{IsInField, number_field-is, numbers-after, record-was_read}
use Rattle.md_parts.proofs.Repeats.{not_both}
use Rattle.md_parts.proofs.TableSteps.{agent_count-sizes}
use Rattle.md_answer.specs.MassReading.{adding_at_most}
use Rattle.md_answer.specs.Odds.{interim_den, odds_field}
use Rattle.md_asym_sale.specs.Pairs.{pairs_before}
use Rattle.md_asym_sale.specs.Values.{pairs_of}
use Rattle.md_asym_sale.proofs.PairLaws.{before-all, before-more}
use Rattle.md_asym_tables.specs.PairNets.{cap_at}
use Rattle.md_asym_tables.specs.Tables.{IsProfileTable, mass_at}
use Rattle.md_cut_check.specs.Interims.{IsInterimOver}
use Rattle.md_asym.specs.SaleReading.{agent_numbers, each_of, interim_of, masses_at, masses_of, pair_numbers}
use Rattle.md_asym.proofs.ReadingSteps.{IsMass, mass-nonneg, rank-numbers}

int_le-true : (a z : ℤ) → int_le a z ≡ true → a ≤ℤ z
int_le-true a z h = grind (arith, ints)

-- ---- odds and payments

den-known : (rest after : Rest) (den : ℤ) → interim_den rest ≡ Ok (den, after) → IsInField 62 (int_le (pos 1)) den
den-known rest after den h =
    let two = in_two (read_record (codes "interim") (denominator_field ∷ []) rest) _ den after h in
    let r = record-was_read (codes "interim") (denominator_field ∷ []) rest two.one two.mid two.first_is in
    let long : length r.texts ≡ 1 = r.long in
    let e = numbers-after (IsInField 62 (int_le (pos 1))) denominator_field (λ text n holds. number_field-is 62 (int_le (pos 1)) text n (lit≤ tt) holds) [] 1 2 r.texts two.one long r.read in
    let some : 0 < length two.one = let l = e.long in omega (arith, l) in
    let pair : (number_at two.one 0, two.mid) ≡ (den, after) = cc in
    let same : number_at two.one 0 ≡ den = ap (λ (p : ℤ × Rest). p.0) pair in
    subst (λ (z : ℤ). IsInField 62 (int_le (pos 1)) z) same (All-get_or (IsInField 62 (int_le (pos 1))) two.one 0 (pos 0) some e.each)

-- so many numbers, each of which passes the test
record AreMany (test : ℤ → Bool) (count : ℕ) (numbers : List ℤ) : Type 0 where
  pub long : length numbers ≡ count
  pub each : All (IsInField 62 test) numbers

agent-known : (word : List ℕ) (s : GeneralSetting) (test : ℤ → Bool) (i : ℕ) (rest after : Rest) (numbers : List ℤ) → agent_numbers word s (number_field 62 test) i rest ≡ Ok (numbers, after)
    → AreMany test (slice_index (sizes_of s) i) numbers
agent-known word s test i rest after numbers h =
    let n = slice_index (sizes_of s) i in
    let field : Field = number_field 62 test in
    let fields : List Field = word_field (agent_name s i) ∷ replicate n field in
    let two = in_two (read_record word fields rest) _ numbers after h in
    let r = record-was_read word fields rest two.one two.mid two.first_is in
    let long : length r.texts ≡ 1 + n = let l = r.long in omega (arith, l, length-replicate n field) in
    let e = numbers-after (IsInField 62 test) field (λ text z holds. number_field-is 62 test text z (lit≤ tt) holds) (word_field (agent_name s i) ∷ []) n 2 r.texts two.one long r.read in
    let pair : (drop 1 two.one, two.mid) ≡ (numbers, after) = cc in
    subst (AreMany test n) (ap (λ (p : List ℤ × Rest). p.0) pair) (record { long = let l = e.long in length-drop 1 two.one ∙ omega (arith, l); each = e.each })

agents-known : (word : List ℕ) (s : GeneralSetting) (test : ℤ → Bool) (n : ℕ) (rest after : Rest) (numbers : List ℤ) → n ≤ agent_count s
    → each_of n (agent_numbers word s (number_field 62 test)) rest ≡ Ok (numbers, after) → AreMany test (pairs_before (sizes_of s) n) numbers
agents-known word s test zero rest after numbers l h =
    let same : ([], rest) ≡ (numbers, after) = cc in
    subst (AreMany test 0) (ap (λ (p : List ℤ × Rest). p.0) same) (record { long = refl; each = All-nil (IsInField 62 test) })
agents-known word s test (suc n) rest after numbers l h =
    let read = agent_numbers word s (number_field 62 test) in
    let before = in_two (each_of n read rest) _ numbers after h in
    let last = in_two (read n before.mid) _ numbers after before.next_is in
    let same : (before.one ++ last.one, last.mid) ≡ (numbers, after) = cc in
    let first = agents-known word s test n rest before.mid before.one (omega (arith, l)) before.first_is in
    let one = agent-known word s test n before.mid last.mid last.one last.first_is in
    let more = before-more (sizes_of s) n (omega (arith, l, agent_count-sizes s)) in
    let next : n + 1 ≡ suc n = omega arith in
    subst (AreMany test (pairs_before (sizes_of s) (suc n))) (ap (λ (p : List ℤ × Rest). p.0) same)
    (record {
      long = let a = first.long in let b = one.long in length-append before.one last.one ∙ omega (arith, a, b, more, ap (pairs_before (sizes_of s)) next);
      each = All-append (IsInField 62 test) before.one last.one first.each one.each;
    })

pairs-known : (word : List ℕ) (s : GeneralSetting) (test : ℤ → Bool) (rest after : Rest) (numbers : List ℤ) → pair_numbers word s (number_field 62 test) rest ≡ Ok (numbers, after) → AreMany test (pairs_of s) numbers
pairs-known word s test rest after numbers h =
    subst (λ (n : ℕ). AreMany test n numbers) (before-all (sizes_of s) (agent_count s) (sym (agent_count-sizes s)))
    (agents-known word s test (agent_count s) rest after numbers (omega arith) h)

den-small : (den : ℤ) (n : ℕ) → pos 1 ≤ℤ den → unsigned_abs den ≤ n → den ≤ℤ pos n
den-small den n one small = grind (arith, ints)

place-inside : (den z : ℤ) → pos 1 ≤ℤ den → is_place 0 (unsigned_abs den + 1) z ≡ true → (pos 0 ≤ℤ z) × (z ≤ℤ den)
place-inside den z one h = (grind (arith, ints), grind (arith, ints))

interim-over : (s : GeneralSetting) (den : ℤ) (odds pays : List ℤ) → IsInField 62 (int_le (pos 1)) den → AreMany (is_place 0 (unsigned_abs den + 1)) (pairs_of s) odds → AreMany (λ _. true) (pairs_of s) pays
    → IsInterimOver (pairs_of s) (record { den = den; odds = odds; pays = pays })
interim-over s den odds pays d o p =
    let one = int_le-true (pos 1) den d.passes in
    record {
      den_positive = one;
      den_size = den-small den number_limit one d.small.within;
      one_odds = o.long;
      one_pay = p.long;
      odds = λ v l. let long = o.long in place-inside den (number_at odds v) one (All-get_or (IsInField 62 (is_place 0 (unsigned_abs den + 1))) odds v (pos 0) (omega (arith, long, l)) o.each).passes;
      pay_size = record { at = λ k l. (All-get_or (IsInField 62 (λ _. true)) pays k (pos 0) l p.each).small };
    }

pub interim-known : (s : GeneralSetting) (rest after : Rest) (interim : Interim) → interim_of s rest ≡ Ok (interim, after) → IsInterimOver (pairs_of s) interim
interim-known s rest after interim h =
    let den = in_two (interim_den rest) _ interim after h in
    let odds = in_two (pair_numbers (codes "odds") s (odds_field den.one) den.mid) _ interim after den.next_is in
    let pays = in_two (pair_numbers (codes "pays") s any_number odds.mid) _ interim after odds.next_is in
    let made : Interim = record { den = den.one; odds = odds.one; pays = pays.one } in
    let pair : (made, pays.mid) ≡ (interim, after) = cc in
    subst (IsInterimOver (pairs_of s)) (ap (λ (p : Interim × Rest). p.0) pair)
    (interim-over s den.one odds.one pays.one (den-known rest den.mid den.one den.first_is) (pairs-known (codes "odds") s (is_place 0 (unsigned_abs den.one + 1)) den.mid odds.mid odds.one odds.first_is)
    (pairs-known (codes "pays") s (λ _. true) odds.mid pays.mid pays.one pays.first_is))

-- ---- masses

-- the masses at a profile that were read
record AreMassesAt (s : GeneralSetting) (den : ℤ) (rank : ℕ) (numbers : List ℤ) : Type 0 where
  pub long : length numbers ≡ agent_count s
  pub nonneg : (i : ℕ) → i < agent_count s → pos 0 ≤ℤ number_at numbers i
  pub inside : total numbers ≤ℤ cap_at s den rank

adding-if : (b : Bool) (numbers more : List ℤ) (rest after : Rest) → if◌then◌else◌ {A = Result (List ℤ × Rest) AnswerRefusal} b (Ok (numbers, rest)) (Err (Sum rest.read)) ≡ Ok (more, after) → (b ≡ true) × (numbers ≡ more)
adding-if true numbers more rest after h =
    let same : (numbers, rest) ≡ (more, after) = cc in (refl, ap (λ (p : List ℤ × Rest). p.0) same)
adding-if false numbers more rest after h = absurd (not_both (Sum rest.read) (more, after) h)

adding-known : (most : ℤ) (numbers more : List ℤ) (rest after : Rest) → adding_at_most most numbers rest ≡ Ok (more, after) → (total numbers ≤ℤ most) × (numbers ≡ more)
adding-known most numbers more rest after h =
    let p = adding-if (int_le (total numbers) most) numbers more rest after h in
    (int_le-true (total numbers) most p.0, p.1)

rank-known : (s : GeneralSetting) (den : ℤ) (rank : ℕ) (rest after : Rest) (numbers : List ℤ) → rank < profile_count (sizes_of s) → masses_at s den rank rest ≡ Ok (numbers, after) → AreMassesAt s den rank numbers
rank-known s den rank rest after numbers b h =
    let two = in_two (read_record (codes "mass") _ rest) _ numbers after h in
    let known = rank-numbers s rank rest two.mid two.one b two.first_is in
    let added = adding-known (cap_at s den rank) (drop (agent_count s) two.one) numbers two.mid after two.next_is in
    subst (AreMassesAt s den rank) added.1 (record {
      long = known.long;
      nonneg = λ i l. let long = known.long in mass-nonneg (number_at (drop (agent_count s) two.one) i) (All-get_or IsMass (drop (agent_count s) two.one) i (pos 0) (omega (arith, long, l)) known.each);
      inside = added.0;
    })

record AreRanked (s : GeneralSetting) (den : ℤ) (n : ℕ) (y : List ℤ) : Type 0 where
  pub long : length y ≡ n * agent_count s
  pub at : (rank : ℕ) → rank < n → IsBlockAt y (agent_count s) rank (AreMassesAt s den rank)

no-row : (w : ℕ) → 0 ≡ 0 * w
no-row w = grind arith

next-row : (n w : ℕ) → n * w + w ≡ suc n * w
next-row n w = grind arith

last-block : (s : GeneralSetting) (den : ℤ) (n : ℕ) (before last : List ℤ) → length before ≡ n * agent_count s → AreMassesAt s den n last → IsBlockAt (before ++ last) (agent_count s) n (AreMassesAt s den n)
last-block s den n before last long h = record { block = last; long = h.long; has = h; at = λ o l. number_at-behind before last (n * agent_count s) o long }

ranked-push : (s : GeneralSetting) (den : ℤ) (n : ℕ) (before last : List ℤ) → AreRanked s den n before → AreMassesAt s den n last → AreRanked s den (suc n) (before ++ last)
ranked-push s den n before last h one = record {
  long = let l = h.long in let m = one.long in let e = next-row n (agent_count s) in omega (arith, l, m, e, length-append before last);
  at = λ rank l. block_at rank l;
}
  where
    block_at : (rank : ℕ) → rank < suc n → IsBlockAt (before ++ last) (agent_count s) rank (AreMassesAt s den rank)
    block_at rank l = elim (cases_lt rank n) [
      | inl below ↦ (
          let b = h.at rank below in
          let long = h.long in
          record {
            block = b.block;
            long = b.long;
            has = b.has;
            at = λ o m. get_or_append_left before last (pos 0) (rank * agent_count s + o) (omega (arith, long, mul-add-lt rank (agent_count s) o n below m)) ∙ b.at o m;
          }
          )
      | inr past ↦ (
          let e : n ≡ rank = omega arith in
          subst (λ (r : ℕ). IsBlockAt (before ++ last) (agent_count s) r (AreMassesAt s den r)) e (last-block s den n before last h.long one)
          )
    ]

ranked-known : (s : GeneralSetting) (den : ℤ) (n : ℕ) (rest after : Rest) (y : List ℤ) → n ≤ profile_count (sizes_of s) → each_of n (masses_at s den) rest ≡ Ok (y, after) → AreRanked s den n y
ranked-known s den zero rest after y l h =
    let same : ([], rest) ≡ (y, after) = cc in
    subst (AreRanked s den zero) (ap (λ (p : List ℤ × Rest). p.0) same) (record { long = no-row (agent_count s); at = λ rank l. absurd (omega arith) })
ranked-known s den (suc n) rest after y l h =
    let before = in_two (each_of n (masses_at s den) rest) _ y after h in
    let last = in_two (masses_at s den n before.mid) _ y after before.next_is in
    let same : (before.one ++ last.one, last.mid) ≡ (y, after) = cc in
    subst (AreRanked s den (suc n)) (ap (λ (p : List ℤ × Rest). p.0) same)
    (ranked-push s den n before.one last.one (ranked-known s den n rest before.mid before.one (omega (arith, l)) before.first_is)
    (rank-known s den n before.mid last.mid last.one (omega (arith, l)) last.first_is))

-- masses that were read are a profile table
pub masses-known : (s : GeneralSetting) (den : ℤ) (rest after : Rest) (y : List ℤ) → masses_of s den rest ≡ Ok (y, after) → IsProfileTable s den y
masses-known s den rest after y h =
    let ranked = ranked-known s den (profile_count (sizes_of s)) rest after y (omega arith) h in
    record {
      one_each = ranked.long;
      nonneg = λ r i b l. let block = ranked.at r b in rw (block.at i l) (block.has.nonneg i l);
      inside = λ r b. let block = ranked.at r b in whole_at r block.block block.long block.at block.has.inside;
    }
  where
    whole_at : (r : ℕ) (block : List ℤ) → length block ≡ agent_count s → ((i : ℕ) → i < agent_count s → mass_at s y r i ≡ number_at block i) → total block ≤ℤ cap_at s den r
        → sum_to (agent_count s) (mass_at s y r) ≤ℤ cap_at s den r
    whole_at r block long at inside =
        let same : sum_to (agent_count s) (mass_at s y r) ≡ total block =
        sum_to-same (agent_count s) (mass_at s y r) (λ i. number_at block i) at ∙ ap (λ (n : ℕ). sum_to n (λ i. number_at block i)) (sym long) ∙ sym (total_by-places (λ x. x) block (pos 0)) in
        rw same inside
