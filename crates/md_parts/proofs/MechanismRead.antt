-- What is read as a mechanism is one that the calls on mechanisms take.
use Rattle.std.proofs.Common.{◌≡◌, ℕ, zero, suc, ◌+◌, ◌*◌, ◌<◌, ℤ, pos, ◌≤ℤ◌, Bool, true, false, List, [], ◌∷◌, ◌++◌, drop, length, replicate, codes, Ok, refl, sym, ap, subst, ◌∙◌, arith, All, length-append, length-drop, lit≤}
use Rattle.std.proofs.lemmas.List.{length-replicate}
use Rattle.std.proofs.lemmas.List.Elements.{All-get_or}
use Rattle.std.proofs.lemmas.Int.{ints}
use Rattle.std.specs.Prelude.{int_le}
use Rattle.md_math.specs.Lists.{number_at}
use Rattle.md_math.specs.Sizes.{AllWithin}
use Rattle.md_math.specs.Sums.{total, sum_to}
use Rattle.md_math.proofs.TotalLaws.{total_by-places}
use Rattle.md_math.proofs.SumLaws.{sum_to-same}
use Rattle.md_space.specs.Profiles.{IsProfile, profile_count, rank_of}
use Rattle.md_space.specs.AllProfiles.{profiles_of}
use Rattle.md_space.proofs.InOrder.{All-profiles_of}
use Rattle.md_space.proofs.Ranks.{rank_of-below, length-IsProfile}
use Rattle.md_setting.specs.Setting.{GeneralSetting}
use Rattle.md_setting.specs.Meaning.{agent_count, outcome_count, sizes_of}
use Rattle.md_mech.specs.declared.mechanism.Mechanism.{Mechanism}
use Rattle.md_mech.specs.Mechanism.{chance_of}
use Rattle.md_mech.specs.Accepted.{IsAccepted, number_limit}
use Rattle.md_parts.specs.Fields.{Field, number_field, any_number, chance_field, denominator_field}
use Rattle.md_parts.specs.Reading.{Rest, read_record}
use Rattle.md_parts.specs.Table.{profile_fields, denominator_of, lottery_of, payments_of, each_profile, all_payments_of, mechanism_of}
use Rattle.md_parts.proofs.NumbersRead.{IsInField, number_field-is, numbers-after, record-was_read, adding-read}
use Rattle.md_parts.proofs.Blocks.{AreBlocks, in_two, each-blocks}
use Rattle.md_parts.proofs.EachProfile.{length-profiles_of}
use Rattle.md_parts.proofs.TableSteps.{name-count, agent_count-sizes}

-- the numbers of a record that stands for a profile
pub record AtProfile (s : GeneralSetting) (count : ℕ) (test : ℤ → Bool) (numbers : List ℤ) : Type 0 where
  pub long : length (drop (agent_count s) numbers) ≡ count
  pub each : All (IsInField 62 test) (drop (agent_count s) numbers)

at_profile : (s : GeneralSetting) (t : List ℕ) (word : List ℕ) (count : ℕ) (test : ℤ → Bool) (rest after : Rest) (numbers : List ℤ) → length t ≡ agent_count s
    → read_record word (profile_fields s t ++ replicate count (number_field 62 test)) rest ≡ Ok (numbers, after) → AtProfile s count test numbers
at_profile s t word count test rest after numbers long h =
    let field : Field = number_field 62 test in
    let r = record-was_read word (profile_fields s t ++ replicate count field) rest numbers after h in
    let names = name-count s t long in
    let fields : length r.texts ≡ length (profile_fields s t) + count = r.long ∙ length-append (profile_fields s t) (replicate count field) ∙ ap (λ n. length (profile_fields s t) + n) (length-replicate count field) in
    let e = numbers-after (IsInField 62 test) field (λ text n holds. number_field-is 62 test text n (lit≤ tt) holds) (profile_fields s t) count 2 r.texts numbers fields r.read in
    record {
      long = let l = e.long in length-drop (agent_count s) numbers ∙ omega (arith, names, l);
      each = subst (λ (n : ℕ). All (IsInField 62 test) (drop n numbers)) names e.each;
    }

-- a lottery that was read
pub record IsLottery (den : ℤ) (chances : List ℤ) : Type 0 where
  pub each : All (IsInField 62 (int_le (pos 0))) chances
  pub whole : total chances ≡ den

lottery-known : (s : GeneralSetting) (den : ℤ) (t : List ℕ) (rest after : Rest) (ns : List ℤ) → length t ≡ agent_count s → lottery_of s den t rest ≡ Ok (ns, after)
    → (length ns ≡ outcome_count s) × IsLottery den ns × All (IsInField 62 (int_le (pos 0))) ns
lottery-known s den t rest after ns long h =
    let two = in_two (read_record (codes "lottery") (profile_fields s t ++ replicate (outcome_count s) chance_field) rest) _ ns after h in
    let known = at_profile s t (codes "lottery") (outcome_count s) (int_le (pos 0)) rest two.mid two.one long two.first_is in
    let (same, whole) = adding-read den (drop (agent_count s) two.one) ns two.mid after two.next_is in
    let each = subst (λ (xs : List ℤ). All (IsInField 62 (int_le (pos 0))) xs) (sym same) known.each in
    (ap length same ∙ known.long, record { each = each; whole = ap total same ∙ whole }, each)

payments-known : (word : List ℕ) (s : GeneralSetting) (t : List ℕ) (rest after : Rest) (ns : List ℤ) → length t ≡ agent_count s → payments_of word s t rest ≡ Ok (ns, after)
    → (length ns ≡ agent_count s) × (Unit {0}) × All (IsInField 62 (λ _. true)) ns
payments-known word s t rest after ns long h =
    let two = in_two (read_record word (profile_fields s t ++ replicate (agent_count s) any_number) rest) _ ns after h in
    let known = at_profile s t word (agent_count s) (λ _. true) rest two.mid two.one long two.first_is in
    let pair : (drop (agent_count s) two.one, two.mid) ≡ (ns, after) = cc in
    let same : drop (agent_count s) two.one ≡ ns = ap (λ (p : List ℤ × Rest). p.0) pair in
    (sym (ap length same) ∙ known.long, tt, subst (λ (xs : List ℤ). All (IsInField 62 (λ _. true)) xs) same known.each)

-- the denominator
den-known : (rest after : Rest) (den : ℤ) → denominator_of rest ≡ Ok (den, after) → IsInField 62 (int_le (pos 1)) den
den-known rest after den h =
    let two = in_two (read_record (codes "table") (denominator_field ∷ []) rest) _ den after h in
    let r = record-was_read (codes "table") (denominator_field ∷ []) rest two.one two.mid two.first_is in
    let long : length r.texts ≡ 1 = r.long in
    let e = numbers-after (IsInField 62 (int_le (pos 1))) denominator_field (λ text n holds. number_field-is 62 (int_le (pos 1)) text n (lit≤ tt) holds) [] 1 2 r.texts two.one long r.read in
    let pair : (number_at two.one 0, two.mid) ≡ (den, after) = cc in
    let same : number_at two.one 0 ≡ den = ap (λ (p : ℤ × Rest). p.0) pair in
    let l = e.long in
    subst (λ (z : ℤ). IsInField 62 (int_le (pos 1)) z) same (All-get_or (IsInField 62 (int_le (pos 1))) two.one 0 (pos 0) (omega (arith, l)) e.each)

-- numbers in fields are small
AllWithin-fields : (test : ℤ → Bool) (numbers : List ℤ) → All (IsInField 62 test) numbers → AllWithin number_limit numbers
AllWithin-fields test numbers all = record { at = λ k l. (All-get_or (IsInField 62 test) numbers k (pos 0) l all).small }

int_le-true : (a z : ℤ) → int_le a z ≡ true → a ≤ℤ z
int_le-true a z h = grind (arith, ints)

-- the payments
pub record ArePays (s : GeneralSetting) (pays : List ℤ) : Type 0 where
  pub long : length pays ≡ profile_count (sizes_of s) * agent_count s
  pub small : AllWithin number_limit pays
  pub off : s.payments ≡ false → (k : ℕ) → number_at pays k ≡ pos 0

zeros-at : (n k : ℕ) → number_at (replicate n (pos 0)) k ≡ pos 0
zeros-at zero k = refl
zeros-at (suc n) zero = refl
zeros-at (suc n) (suc k) = zeros-at n k

pub pays-known : (word : List ℕ) (s : GeneralSetting) (b : Bool) (rest after : Rest) (pays : List ℤ) → s.payments ≡ b → all_payments_of word s b rest ≡ Ok (pays, after) → ArePays s pays
pays-known word s true rest after pays on h =
    let one : (t : List ℕ) → IsProfile (sizes_of s) t → length t ≡ agent_count s = λ t p. length-IsProfile (sizes_of s) t p ∙ agent_count-sizes s in
    let blocks = each-blocks (agent_count s) (λ _. Unit {0}) (IsInField 62 (λ _. true)) (IsProfile (sizes_of s)) (payments_of word s)
    (λ t r a ns p e. payments-known word s t r a ns (one t p) e) (profiles_of (sizes_of s)) rest after pays (All-profiles_of (sizes_of s)) h in
    record {
      long = blocks.long ∙ ap (λ n. n * agent_count s) (length-profiles_of (sizes_of s));
      small = AllWithin-fields (λ _. true) pays blocks.each;
      off = λ off. absurd (true_is_not_false (sym on ∙ off));
    }
  where
    true_is_not_false : true ≡ false → ⊥
    true_is_not_false e = cc
pays-known word s false rest after pays off h =
    let pair : (replicate (profile_count (sizes_of s) * agent_count s) (pos 0), rest) ≡ (pays, after) = cc in
    let same : replicate (profile_count (sizes_of s) * agent_count s) (pos 0) ≡ pays = ap (λ (p : List ℤ × Rest). p.0) pair in
    subst (ArePays s) same (record {
      long = length-replicate _ _;
      small = record { at = λ k l. rw (zeros-at (profile_count (sizes_of s) * agent_count s) k) (record { within = omega arith }) };
      off = λ _ k. zeros-at (profile_count (sizes_of s) * agent_count s) k;
    })

-- the chances
chances-known : (s : GeneralSetting) (den : ℤ) (rest after : Rest) (chances : List ℤ) → each_profile (lottery_of s den) (profiles_of (sizes_of s)) rest ≡ Ok (chances, after)
    → AreBlocks chances (profile_count (sizes_of s)) (outcome_count s) (IsLottery den) (IsInField 62 (int_le (pos 0)))
chances-known s den rest after chances h =
    let one : (t : List ℕ) → IsProfile (sizes_of s) t → length t ≡ agent_count s = λ t p. length-IsProfile (sizes_of s) t p ∙ agent_count-sizes s in
    subst (λ (n : ℕ). AreBlocks chances n (outcome_count s) (IsLottery den) (IsInField 62 (int_le (pos 0)))) (length-profiles_of (sizes_of s))
    (each-blocks (outcome_count s) (IsLottery den) (IsInField 62 (int_le (pos 0))) (IsProfile (sizes_of s)) (lottery_of s den)
    (λ t r a ns p e. lottery-known s den t r a ns (one t p) e) (profiles_of (sizes_of s)) rest after chances (All-profiles_of (sizes_of s)) h)

chance-nonneg : (s : GeneralSetting) (m : Mechanism) (t : List ℕ) (o : ℕ) → AreBlocks m.chances (profile_count (sizes_of s)) (outcome_count s) (IsLottery m.den) (IsInField 62 (int_le (pos 0)))
    → IsProfile (sizes_of s) t → o < outcome_count s → pos 0 ≤ℤ chance_of s m t o
chance-nonneg s m t o blocks p l =
    let b = blocks.block (rank_of (sizes_of s) t) (rank_of-below (sizes_of s) t p) in
    let long = b.long in
    rw (b.at o l) (int_le-true (pos 0) (number_at b.block o) (All-get_or (IsInField 62 (int_le (pos 0))) b.block o (pos 0) (omega (arith, long)) b.has.each).passes)

chance-whole : (s : GeneralSetting) (m : Mechanism) (t : List ℕ) → AreBlocks m.chances (profile_count (sizes_of s)) (outcome_count s) (IsLottery m.den) (IsInField 62 (int_le (pos 0)))
    → IsProfile (sizes_of s) t → sum_to (outcome_count s) (chance_of s m t) ≡ m.den
chance-whole s m t blocks p =
    let b = blocks.block (rank_of (sizes_of s) t) (rank_of-below (sizes_of s) t p) in
    sum_to-same (outcome_count s) (chance_of s m t) (λ o. number_at b.block o) (λ o l. b.at o l)
    ∙ ap (λ n. sum_to n (λ o. number_at b.block o)) (sym b.long)
    ∙ sym (total_by-places (λ x. x) b.block (pos 0)) ∙ b.has.whole

made-accepted : (s : GeneralSetting) (m : Mechanism) → IsInField 62 (int_le (pos 1)) m.den
    → AreBlocks m.chances (profile_count (sizes_of s)) (outcome_count s) (IsLottery m.den) (IsInField 62 (int_le (pos 0))) → ArePays s m.pays → IsAccepted s m
made-accepted s m den chances pays = record {
  mechanism = record {
    den = int_le-true (pos 1) m.den den.passes;
    chance_count = chances.long;
    pay_count = pays.long;
    not_negative = λ t o p l. chance-nonneg s m t o chances p l;
    whole = λ t p. chance-whole s m t chances p;
    no_payment = λ off t i p l. pays.off off _;
  };
  den_size = den.small;
  chance_size = AllWithin-fields (int_le (pos 0)) m.chances chances.each;
  pay_size = pays.small;
}

pub mechanism-accepted : (s : GeneralSetting) (m : Mechanism) (rest after : Rest) → mechanism_of s rest ≡ Ok (m, after) → IsAccepted s m
mechanism-accepted s m rest after h =
    let den = in_two (denominator_of rest) _ m after h in
    let chances = in_two (each_profile (lottery_of s den.one) (profiles_of (sizes_of s)) den.mid) _ m after den.next_is in
    let pays = in_two (all_payments_of (codes "pay") s s.payments chances.mid) _ m after chances.next_is in
    let made : Mechanism = record { den = den.one; chances = chances.one; pays = pays.one } in
    let pair : (made, pays.mid) ≡ (m, after) = cc in
    let same : made ≡ m = ap (λ (p : Mechanism × Rest). p.0) pair in
    subst (IsAccepted s) same (made-accepted s made (den-known rest den.mid den.one den.first_is) (chances-known s den.one den.mid chances.mid chances.one chances.first_is)
    (pays-known (codes "pay") s s.payments chances.mid pays.mid pays.one refl pays.first_is))
