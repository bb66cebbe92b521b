-- The records of a mechanism that is written are read as the mechanism.
use Rattle.std.proofs.Common.{◌≡◌, ℕ, zero, suc, ◌+◌, ◌*◌, ◌<◌, ◌≤◌, ◌-◌, ◌^◌, ℤ, pos, ◌≤ℤ◌, int_le, Bool, true, false, List, [], ◌∷◌, ◌++◌, map, take, take_all, length, replicate, codes, Result, Ok, refl, sym, ap, ap₂, subst, ◌∙◌, arith, All, add-zero, append-nil, append_assoc, length-append, lit≤}
use Rattle.std.proofs.lemmas.Bool.Decides.{Decides-int_eq}
use Rattle.std.proofs.lemmas.Int.{ints}
use Rattle.std.proofs.lemmas.List.{length-map, take_more}
use Rattle.std.proofs.lemmas.List.Elements.{All-head, All-tail}
use Rattle.md_math.specs.Lists.{number_at, list_to, up_to}
use Rattle.md_math.specs.Sizes.{AllWithin}
use Rattle.md_math.specs.Sums.{total}
use Rattle.md_math.proofs.SizeLaws.{AllWithin-number_at}
use Rattle.md_math.proofs.Builders.{length-list_to, map-list_to, up_to-same, All-list_to}
use Rattle.md_math.proofs.TotalLaws.{total_by-list_to}
use Rattle.md_num.specs.WholeText.{text_of}
use Rattle.md_space.specs.Profiles.{IsProfile, profile_count, profile_at, rank_of}
use Rattle.md_space.specs.AllProfiles.{profiles_of}
use Rattle.md_space.proofs.InOrder.{profiles_of-by_rank, All-profiles_of}
use Rattle.md_space.proofs.Ranks.{rank_of-profile_at, length-IsProfile}
use Rattle.md_setting.specs.Setting.{GeneralSetting}
use Rattle.md_setting.specs.Meaning.{agent_count, outcome_count, sizes_of}
use Rattle.md_mech.specs.declared.mechanism.Mechanism.{Mechanism}
use Rattle.md_mech.specs.Mechanism.{chance_of}
use Rattle.md_mech.specs.Accepted.{IsAccepted, number_limit}
use Rattle.md_mech.specs.RowName.{type_names}
use Rattle.md_parts.specs.declared.refusal.AnswerRefusal.{AnswerRefusal}
use Rattle.md_parts.specs.Fields.{Field, word_field, number_field, any_number, chance_field}
use Rattle.md_parts.specs.Reading.{Rest, Reading, then_read, ◌>>=◌, nothing_more, read_record}
use Rattle.md_parts.specs.Table.{profile_fields, lottery_of, payments_of, each_profile, all_payments_of}
use Rattle.md_parts.specs.Rows.{profile_row, profile_rows, payment_rows}
use Rattle.md_parts.specs.Written.{Holds, IsWrittenBefore}
use Rattle.md_parts.proofs.NumbersRead.{IsInField}
use Rattle.md_parts.proofs.TableSteps.{length-names, agent_count-sizes, lottery-by, payments-by}
use Rattle.md_parts.proofs.WrittenRecords.{holds-names, holds-numbers, record-written}

-- one reading after another
pub written-then : {A B : Type 0} (others : List (List (List ℕ))) (first : Reading A) (next : A → Reading B) (rows more : List (List (List ℕ))) (value : A) (result : B)
    → IsWrittenBefore (more ++ others) first rows value → IsWrittenBefore others (next value) more result → IsWrittenBefore others (first >>= next) (rows ++ more) result
written-then {A} {B} others first next rows more value result one other = record {
  read = λ n.
      let count : n + length rows + length more ≡ n + length (rows ++ more) = omega (arith, length-append rows more) in
      ap (λ (l : List (List (List ℕ))). then_read (first record { read = n; left = l }) next) (append_assoc rows more others)
      ∙ ap (λ (r : Result (A × Rest) AnswerRefusal). then_read r next) (one.read n) ∙ other.read (n + length rows)
      ∙ ap (λ (k : ℕ). Ok (result, record { read = k; left = others })) count;
}

-- a reading whose value is only changed after it
pub written-as : {A B : Type 0} (others : List (List (List ℕ))) (first : Reading A) (f : A → B) (rows : List (List (List ℕ))) (value : A)
    → IsWrittenBefore others first rows value → IsWrittenBefore others (first >>= (λ x. nothing_more (f x))) rows (f value)
written-as {A} {B} others first f rows value one = record {
  read = λ n. ap (λ (r : Result (A × Rest) AnswerRefusal). then_read r (λ x. nothing_more (f x))) (one.read n);
}

pub written-record : (others : List (List (List ℕ))) (word : List ℕ) (fields : List Field) (texts : List (List ℕ)) (numbers : List ℤ) → Holds fields texts numbers
    → IsWrittenBefore others (read_record word fields) ((word ∷ texts) ∷ []) numbers
written-record others word fields texts numbers h = record { read = λ n. record-written word fields texts numbers n others h }

-- ---- a record for each profile

abbrev joined : (List ℕ → List ℤ) → List (List ℕ) → List ℤ
joined numbers [] = []
joined numbers (t ∷ ts) = numbers t ++ joined numbers ts

joined-push : (numbers : List ℕ → List ℤ) (ts : List (List ℕ)) (t : List ℕ) → joined numbers (ts ++ t ∷ []) ≡ joined numbers ts ++ numbers t
joined-push numbers [] t = append-nil (numbers t)
joined-push numbers (first ∷ ts) t = ap (λ (l : List ℤ). numbers first ++ l) (joined-push numbers ts t) ∙ sym (append_assoc (numbers first) (joined numbers ts) (numbers t))

joined-list_to : (numbers : List ℕ → List ℤ) (n : ℕ) (f : ℕ → List ℕ) → joined numbers (list_to n f) ≡ up_to n (λ r. numbers (f r))
joined-list_to numbers zero f = refl
joined-list_to numbers (suc n) f = joined-push numbers (list_to n f) (f n) ∙ ap (λ (l : List ℤ). l ++ numbers (f n)) (joined-list_to numbers n f)

each-written : (sizes : List ℕ) (read : List ℕ → Reading (List ℤ)) (row : List ℕ → List (List ℕ)) (numbers : List ℕ → List ℤ) (others : List (List (List ℕ)))
    → ((t : List ℕ) (more : List (List (List ℕ))) → IsProfile sizes t → IsWrittenBefore more (read t) (row t ∷ []) (numbers t))
    → (ts : List (List ℕ)) → All (IsProfile sizes) ts → IsWrittenBefore others (each_profile read ts) (map row ts) (joined numbers ts)
each-written sizes read row numbers others one [] all = record { read = λ n. rw (add-zero n) refl }
each-written sizes read row numbers others one (t ∷ ts) all =
    written-then others (read t) (λ first. each_profile read ts >>= (λ rest. nothing_more (first ++ rest))) (row t ∷ []) (map row ts) (numbers t) (numbers t ++ joined numbers ts)
    (one t (map row ts ++ others) (All-head (IsProfile sizes) t ts all))
    (written-as others (each_profile read ts) (λ rest. numbers t ++ rest) (map row ts) (joined numbers ts) (each-written sizes read row numbers others one ts (All-tail (IsProfile sizes) t ts all)))

-- ---- numbers that are listed by rank

-- a list up to the end of a block
block-taken : (xs : List ℤ) (i w : ℕ) → i + w ≤ length xs → take i xs ++ list_to w (λ o. number_at xs (i + o)) ≡ take (i + w) xs
block-taken xs i zero l = append-nil (take i xs) ∙ ap (λ (k : ℕ). take k xs) (sym (add-zero i))
block-taken xs i (suc w) l =
    sym (append_assoc (take i xs) (list_to w (λ o. number_at xs (i + o))) (number_at xs (i + w) ∷ []))
    ∙ ap (λ (ys : List ℤ). ys ++ number_at xs (i + w) ∷ []) (block-taken xs i w (omega arith))
    ∙ sym (take_more xs (i + w) (pos 0) (omega arith)) ∙ ap (λ (k : ℕ). take k xs) (omega arith)

next-block : (n w : ℕ) → suc n * w ≡ n * w + w
next-block n w = grind arith

blocks-taken : (xs : List ℤ) (n w : ℕ) → n * w ≤ length xs → up_to n (λ r. list_to w (λ o. number_at xs (r * w + o))) ≡ take (n * w) xs
blocks-taken xs zero w l = ap (λ (k : ℕ). take k xs) (sym (zero-block w))
  where
    zero-block : (w : ℕ) → zero * w ≡ 0
    zero-block w = grind arith
blocks-taken xs (suc n) w l =
    let e = next-block n w in
    ap (λ (ys : List ℤ). ys ++ list_to w (λ o. number_at xs (n * w + o))) (blocks-taken xs n w (omega (arith, e, l)))
    ∙ block-taken xs (n * w) w (omega (arith, e, l)) ∙ ap (λ (k : ℕ). take k xs) (sym e)

-- the numbers at a profile, and at all profiles
abbrev pub block_at : List ℕ → List ℤ → ℕ → List ℕ → List ℤ
block_at sizes xs w t = list_to w (λ o. number_at xs (rank_of sizes t * w + o))

joined-blocks : (sizes : List ℕ) (xs : List ℤ) (w : ℕ) → length xs ≡ profile_count sizes * w → joined (block_at sizes xs w) (profiles_of sizes) ≡ xs
joined-blocks sizes xs w long =
    ap (joined (block_at sizes xs w)) (profiles_of-by_rank sizes) ∙ joined-list_to (block_at sizes xs w) (profile_count sizes) (profile_at sizes)
    ∙ up_to-same (profile_count sizes) (λ r. block_at sizes xs w (profile_at sizes r)) (λ r. list_to w (λ o. number_at xs (r * w + o)))
    (λ r l. ap (λ (k : ℕ). list_to w (λ o. number_at xs (k * w + o))) (rank_of-profile_at sizes r l))
    ∙ blocks-taken xs (profile_count sizes) w (omega (arith, long)) ∙ take_all (profile_count sizes * w) xs (omega (arith, long))

-- ---- the records of a profile

-- the texts of a list that is built place by place
holds-list_to : (test : ℤ → Bool) (n : ℕ) (f : ℕ → ℤ) → ((k : ℕ) → k < n → IsInField 62 test (f k))
    → Holds (replicate n (number_field 62 test)) (list_to n (λ o. text_of (f o))) (list_to n f)
holds-list_to test n f each =
    let h = holds-numbers 62 test (list_to n f) (lit≤ tt) (All-list_to (IsInField 62 test) n f each) in
    let fields : List Field = replicate (length (list_to n f)) (number_field 62 test) in
    let texts = subst (λ (ts : List (List ℕ)). Holds fields ts (list_to n f)) (map-list_to text_of n f) h in
    subst (λ (k : ℕ). Holds (replicate k (number_field 62 test)) (list_to n (λ o. text_of (f o))) (list_to n f)) (length-list_to n f) texts

-- names before numbers
holds-profile : (s : GeneralSetting) (t : List ℕ) (fields : List Field) (texts : List (List ℕ)) (numbers : List ℤ) → IsProfile (sizes_of s) t → Holds fields texts numbers
    → Holds (profile_fields s t ++ fields) (type_names s.agents t ++ texts) (replicate (agent_count s) (pos 0) ++ numbers)
holds-profile s t fields texts numbers p h =
    let long : length t ≡ agent_count s = length-IsProfile (sizes_of s) t p ∙ agent_count-sizes s in
    let names : length (type_names s.agents t) ≡ agent_count s = sym (length-map (type_names s.agents t) word_field) ∙ length-names s.agents t long in
    subst (λ (k : ℕ). Holds (profile_fields s t ++ fields) (type_names s.agents t ++ texts) (replicate k (pos 0) ++ numbers)) names (holds-names (type_names s.agents t) fields texts numbers h)

true-int_le : (a z : ℤ) → a ≤ℤ z → int_le a z ≡ true
true-int_le a z h = grind (arith, ints)

lottery-written : (s : GeneralSetting) (m : Mechanism) (t : List ℕ) (others : List (List (List ℕ))) → IsAccepted s m → IsProfile (sizes_of s) t
    → IsWrittenBefore others (lottery_of s m.den t) (profile_row (codes "lottery") s m.chances (outcome_count s) t ∷ []) (list_to (outcome_count s) (chance_of s m t))
lottery-written s m t others accepted p =
    let numbers = list_to (outcome_count s) (chance_of s m t) in
    let each : (k : ℕ) → k < outcome_count s → IsInField 62 (int_le (pos 0)) (chance_of s m t k) =
    λ k l. record { passes = true-int_le (pos 0) (chance_of s m t k) (accepted.mechanism.not_negative t k p l); small = AllWithin-number_at number_limit m.chances (rank_of (sizes_of s) t * outcome_count s + k) accepted.chance_size } in
    let h = holds-profile s t (replicate (outcome_count s) chance_field) (list_to (outcome_count s) (λ o. text_of (chance_of s m t o))) numbers p (holds-list_to (int_le (pos 0)) (outcome_count s) (chance_of s m t) each) in
    let whole : total numbers ≡ m.den = total_by-list_to (λ x. x) (outcome_count s) (chance_of s m t) ∙ accepted.mechanism.whole t p in
    record {
      read = λ n. lottery-by s m.den t record { read = n; left = profile_row (codes "lottery") s m.chances (outcome_count s) t ∷ others } record { read = n + 1; left = others } numbers (total numbers)
          (record-written (codes "lottery") (profile_fields s t ++ replicate (outcome_count s) chance_field) (type_names s.agents t ++ list_to (outcome_count s) (λ o. text_of (chance_of s m t o))) (replicate (agent_count s) (pos 0) ++ numbers) n others h)
          refl ((Decides-int_eq (total numbers) m.den).1 whole);
    }

payment-written : (word : List ℕ) (s : GeneralSetting) (pays : List ℤ) (t : List ℕ) (others : List (List (List ℕ))) → AllWithin (2 ^ 62 - 1) pays → IsProfile (sizes_of s) t
    → IsWrittenBefore others (payments_of word s t) (profile_row word s pays (agent_count s) t ∷ []) (block_at (sizes_of s) pays (agent_count s) t)
payment-written word s pays t others small p =
    let numbers = block_at (sizes_of s) pays (agent_count s) t in
    let each : (k : ℕ) → k < agent_count s → IsInField 62 (λ _. true) (number_at pays (rank_of (sizes_of s) t * agent_count s + k)) =
    λ k l. record { passes = refl; small = AllWithin-number_at (2 ^ 62 - 1) pays (rank_of (sizes_of s) t * agent_count s + k) small } in
    let h = holds-profile s t (replicate (agent_count s) any_number) (list_to (agent_count s) (λ i. text_of (number_at pays (rank_of (sizes_of s) t * agent_count s + i)))) numbers p (holds-list_to (λ _. true) (agent_count s) (λ k. number_at pays (rank_of (sizes_of s) t * agent_count s + k)) each) in
    record {
      read = λ n. payments-by word s t record { read = n; left = profile_row word s pays (agent_count s) t ∷ others } record { read = n + 1; left = others } numbers
          (record-written word (profile_fields s t ++ replicate (agent_count s) any_number) (type_names s.agents t ++ list_to (agent_count s) (λ i. text_of (number_at pays (rank_of (sizes_of s) t * agent_count s + i)))) (replicate (agent_count s) (pos 0) ++ numbers) n others h);
    }

-- ---- all records

pub lotteries-written : (s : GeneralSetting) (m : Mechanism) (others : List (List (List ℕ))) → IsAccepted s m
    → IsWrittenBefore others (each_profile (lottery_of s m.den) (profiles_of (sizes_of s))) (profile_rows (codes "lottery") s m.chances (outcome_count s)) m.chances
lotteries-written s m others accepted =
    subst (λ (xs : List ℤ). IsWrittenBefore others (each_profile (lottery_of s m.den) (profiles_of (sizes_of s))) (profile_rows (codes "lottery") s m.chances (outcome_count s)) xs)
    (joined-blocks (sizes_of s) m.chances (outcome_count s) accepted.mechanism.chance_count)
    (each-written (sizes_of s) (lottery_of s m.den) (profile_row (codes "lottery") s m.chances (outcome_count s)) (block_at (sizes_of s) m.chances (outcome_count s)) others
    (λ t more p. lottery-written s m t more accepted p) (profiles_of (sizes_of s)) (All-profiles_of (sizes_of s)))

-- a list of zeros
zeros-all : (xs : List ℤ) → ((k : ℕ) → k < length xs → number_at xs k ≡ pos 0) → replicate (length xs) (pos 0) ≡ xs
zeros-all [] h = refl
zeros-all (x ∷ xs) h = ap₂ (λ (y : ℤ) (ys : List ℤ). y ∷ ys) (sym (h 0 (omega arith))) (zeros-all xs (λ k l. h (suc k) (omega arith)))

pub payments-written : (word : List ℕ) (s : GeneralSetting) (pays : List ℤ) (b : Bool) (others : List (List (List ℕ))) → s.payments ≡ b → length pays ≡ profile_count (sizes_of s) * agent_count s → AllWithin (2 ^ 62 - 1) pays
    → (s.payments ≡ false → (k : ℕ) → k < length pays → number_at pays k ≡ pos 0) → IsWrittenBefore others (all_payments_of word s b) (payment_rows word s pays b) pays
payments-written word s pays true others on long small off =
    subst (λ (xs : List ℤ). IsWrittenBefore others (each_profile (payments_of word s) (profiles_of (sizes_of s))) (profile_rows word s pays (agent_count s)) xs)
    (joined-blocks (sizes_of s) pays (agent_count s) long)
    (each-written (sizes_of s) (payments_of word s) (profile_row word s pays (agent_count s)) (block_at (sizes_of s) pays (agent_count s)) others
    (λ t more p. payment-written word s pays t more small p) (profiles_of (sizes_of s)) (All-profiles_of (sizes_of s)))
payments-written word s pays false others on long small off = record {
  read = λ n.
      let zeros : replicate (profile_count (sizes_of s) * agent_count s) (pos 0) ≡ pays = ap (λ (k : ℕ). replicate k (pos 0)) (sym long) ∙ zeros-all pays (off on) in
      ap₂ (λ (xs : List ℤ) (k : ℕ). Ok (xs, record { read = k; left = others })) zeros (sym (add-zero n));
}
