-- Odds, payments and masses of a sale that are written are read as the same ones.
use Rattle.std.proofs.Common.{◌≡◌, ℕ, zero, suc, ◌+◌, ◌*◌, ◌<◌, ◌≤◌, ℤ, pos, ◌≤ℤ◌, Bool, true, int_le, nat_le, List, [], ◌∷◌, ◌++◌, map, take, take_all, drop, length, replicate, codes, refl, sym, ap, subst, ◌∙◌, arith, All, add-zero, append-nil, append_assoc, lit≤}
use Rattle.std.specs.Prelude.{slice_index, unsigned_abs}
use Rattle.std.proofs.lemmas.Int.{ints}
use Rattle.std.proofs.lemmas.List.{length-map, take_more}
use Rattle.md_math.specs.Lists.{number_at, list_to, up_to}
use Rattle.md_math.specs.Sizes.{IsWithin}
use Rattle.md_math.specs.Sums.{total}
use Rattle.md_math.proofs.Builders.{All-list_to, length-list_to, map-list_to, up_to-same}
use Rattle.md_math.proofs.SumLaws.{sum_to-same}
use Rattle.md_math.proofs.TotalLaws.{total_by-list_to}
use Rattle.md_num.specs.WholeText.{text_of}
use Rattle.md_space.specs.Profiles.{profile_at, profile_count, rank_of}
use Rattle.md_space.proofs.InOrder.{profiles_of-by_rank}
use Rattle.md_space.proofs.Ranks.{rank_of-profile_at}
use Rattle.md_setting.specs.Setting.{GeneralSetting}
use Rattle.md_setting.specs.Meaning.{agent_count, sizes_of}
use Rattle.md_mech.specs.Accepted.{number_limit}
use Rattle.md_mech.specs.RowName.{agent_name, type_names}
use Rattle.md_border.specs.declared.interim.Interim.{Interim}
use Rattle.md_parts.specs.Fields.{Field, any_number, denominator_field, is_amount, is_place, number_field, word_field}
use Rattle.md_parts.specs.Reading.{Reading, ◌>>=◌, nothing_more, read_record}
use Rattle.md_parts.specs.Rows.{number_row, profile_row, profile_rows}
use Rattle.md_parts.specs.Table.{profile_fields}
use Rattle.md_parts.specs.Written.{Holds, IsWrittenBefore}
use Rattle.md_parts.proofs.NumbersRead.{IsInField}
use Rattle.md_parts.proofs.TableSteps.{agent_count-sizes, length-names, profile-long}
use Rattle.md_parts.proofs.WrittenParts.{IsSome}
use Rattle.md_parts.proofs.WrittenRecords.{holds-cons, holds-names, holds-none, holds-numbers, number_field-holds}
use Rattle.md_parts.proofs.WrittenTables.{written-as, written-record, written-then}
use Rattle.md_answer.specs.MassReading.{adding_at_most}
use Rattle.md_answer.specs.Odds.{interim_den, odds_field}
use Rattle.md_asym_sale.specs.Pairs.{pair_number, pairs_before}
use Rattle.md_asym_sale.specs.Values.{pairs_of}
use Rattle.md_asym_sale.proofs.PairLaws.{before-all, before-more, number-below}
use Rattle.md_asym_tables.specs.PairNets.{cap_at}
use Rattle.md_asym_tables.specs.Tables.{IsProfileTable, mass_at}
use Rattle.md_cut_check.specs.Interims.{IsInterimOver}
use Rattle.md_asym.specs.SaleReading.{agent_numbers, each_of, interim_of, mass_field, masses_at, masses_of, pair_numbers}
use Rattle.md_asym.specs.SaleRows.{agent_row, agent_rows, interim_rows, type_texts}
use Rattle.md_asym.proofs.ReadingSteps.{IsMass, most_mass}

abbrev Rows : Type 0
Rows = List (List (List ℕ))

-- ---- one place after another

each-written : (n : ℕ) (read : ℕ → Reading (List ℤ)) (row : ℕ → List (List ℕ)) (numbers : ℕ → List ℤ) (others : Rows) → ((k : ℕ) (more : Rows) → k < n → IsWrittenBefore more (read k) (row k ∷ []) (numbers k))
    → IsWrittenBefore others (each_of n read) (list_to n row) (up_to n numbers)
each-written zero read row numbers others one = record { read = λ n. rw (add-zero n) refl }
each-written (suc n) read row numbers others one =
    written-then others (each_of n read) (λ before. read n >>= (λ last. nothing_more (before ++ last))) (list_to n row) (row n ∷ []) (up_to n numbers) (up_to (suc n) numbers)
    (each-written n read row numbers (row n ∷ others) (λ k more l. one k more (omega (arith, l))))
    (written-as others (read n) (λ last. up_to n numbers ++ last) (row n ∷ []) (numbers n) (one n others (omega arith)))

-- a list up to the end of a block
block-taken : (xs : List ℤ) (i w : ℕ) → i + w ≤ length xs → take i xs ++ list_to w (λ o. number_at xs (i + o)) ≡ take (i + w) xs
block-taken xs i zero l = append-nil (take i xs) ∙ ap (λ (k : ℕ). take k xs) (sym (add-zero i))
block-taken xs i (suc w) l =
    sym (append_assoc (take i xs) (list_to w (λ o. number_at xs (i + o))) (number_at xs (i + w) ∷ []))
    ∙ ap (λ (ys : List ℤ). ys ++ number_at xs (i + w) ∷ []) (block-taken xs i w (omega arith))
    ∙ sym (take_more xs (i + w) (pos 0) (omega arith)) ∙ ap (λ (k : ℕ). take k xs) (omega arith)

-- numbers that are listed place by place in their fields
listed-hold : (bits : ℕ) (test : ℤ → Bool) (n : ℕ) (f : ℕ → ℤ) → bits ≤ 126 → ((k : ℕ) → k < n → IsInField bits test (f k)) → Holds (replicate n (number_field bits test)) (list_to n (λ k. text_of (f k))) (list_to n f)
listed-hold bits test n f few each =
    let h = holds-numbers bits test (list_to n f) few (All-list_to (IsInField bits test) n f each) in
    let texts = subst (λ (ts : List (List ℕ)). Holds (replicate (length (list_to n f)) (number_field bits test)) ts (list_to n f)) (map-list_to text_of n f) h in
    subst (λ (k : ℕ). Holds (replicate k (number_field bits test)) (list_to n (λ o. text_of (f o))) (list_to n f)) (length-list_to n f) texts

-- ---- odds and payments

true-int_le : (a z : ℤ) → a ≤ℤ z → int_le a z ≡ true
true-int_le a z h = grind (arith, ints)

den-within : (den : ℤ) (n : ℕ) → pos 1 ≤ℤ den → den ≤ℤ pos n → IsWithin n den
den-within den n one small = record { within = omega (arith, ints, one, small) }

den-written : (den : ℤ) (others : Rows) → pos 1 ≤ℤ den → den ≤ℤ pos number_limit → IsWrittenBefore others interim_den (number_row (codes "interim") (den ∷ []) ∷ []) den
den-written den others one small =
    written-as others (read_record (codes "interim") (denominator_field ∷ [])) (λ numbers. number_at numbers 0) (number_row (codes "interim") (den ∷ []) ∷ []) (den ∷ [])
    (written-record others (codes "interim") (denominator_field ∷ []) (text_of den ∷ []) (den ∷ [])
    (holds-cons denominator_field [] (text_of den) [] den [] (number_field-holds 62 (int_le (pos 1)) den (lit≤ tt) (record { passes = true-int_le (pos 1) den one; small = den-within den number_limit one small })) holds-none))

-- the numbers of the types of a bidder
abbrev of_types : GeneralSetting → List ℤ → ℕ → List ℤ
of_types s numbers i = list_to (slice_index (sizes_of s) i) (λ a. number_at numbers (pair_number (sizes_of s) i a))

agent-written : (word : List ℕ) (s : GeneralSetting) (test : ℤ → Bool) (numbers : List ℤ) (i : ℕ) (others : Rows) → i < agent_count s → ((p : ℕ) → p < pairs_of s → IsInField 62 test (number_at numbers p))
    → IsWrittenBefore others (agent_numbers word s (number_field 62 test) i) (agent_row word s numbers i ∷ []) (of_types s numbers i)
agent-written word s test numbers i others b each =
    let n = slice_index (sizes_of s) i in
    let field : Field = number_field 62 test in
    let inside : (a : ℕ) → a < n → IsInField 62 test (number_at numbers (pair_number (sizes_of s) i a)) = λ a l. each (pair_number (sizes_of s) i a) (number-below (sizes_of s) i a (omega (arith, b, agent_count-sizes s)) l) in
    let h = listed-hold 62 test n (λ a. number_at numbers (pair_number (sizes_of s) i a)) (lit≤ tt) inside in
    written-as others (read_record word (word_field (agent_name s i) ∷ replicate n field)) (λ found. drop 1 found) (agent_row word s numbers i ∷ []) (pos 0 ∷ of_types s numbers i)
    (written-record others word (word_field (agent_name s i) ∷ replicate n field) (agent_name s i ∷ type_texts s numbers i) (pos 0 ∷ of_types s numbers i)
    (holds-names (agent_name s i ∷ []) (replicate n field) (type_texts s numbers i) (of_types s numbers i) h))

-- the pairs of the first bidders are no more than all
before-most : (s : GeneralSetting) (n : ℕ) → n ≤ agent_count s → pairs_before (sizes_of s) n ≤ pairs_of s
before-most s zero l = (let none : pairs_before (sizes_of s) zero ≡ 0 = refl in omega (arith, none))
before-most s (suc n) l = by_size (before-most s n (omega (arith, l))) (slice_index (sizes_of s) n) refl
  where
    inside : n < length (sizes_of s)
    inside = omega (arith, l, agent_count-sizes s)

    more : pairs_before (sizes_of s) (suc n) ≡ pairs_before (sizes_of s) n + slice_index (sizes_of s) n
    more = (let next : n + 1 ≡ suc n = omega arith in ap (pairs_before (sizes_of s)) (sym next) ∙ before-more (sizes_of s) n inside)

    by_size : pairs_before (sizes_of s) n ≤ pairs_of s → (m : ℕ) → slice_index (sizes_of s) n ≡ m → pairs_before (sizes_of s) (suc n) ≤ pairs_of s
    by_size most zero e = omega (arith, more, e, most)
    by_size most (suc m) e = (let below = number-below (sizes_of s) n m inside (omega (arith, e)) in omega (arith, more, e, below))

types-taken : (s : GeneralSetting) (numbers : List ℤ) (n : ℕ) → length numbers ≡ pairs_of s → n ≤ agent_count s → up_to n (of_types s numbers) ≡ take (pairs_before (sizes_of s) n) numbers
types-taken s numbers zero long l = refl
types-taken s numbers (suc n) long l =
    let sizes = sizes_of s in
    let inside : n < length sizes = omega (arith, l, agent_count-sizes s) in
    let next : n + 1 ≡ suc n = omega arith in
    let more : pairs_before sizes (suc n) ≡ pairs_before sizes n + slice_index sizes n = ap (pairs_before sizes) (sym next) ∙ before-more sizes n inside in
    let most = before-most s (suc n) l in
    ap (λ (xs : List ℤ). xs ++ of_types s numbers n) (types-taken s numbers n long (omega (arith, l)))
    ∙ block-taken numbers (pairs_before sizes n) (slice_index sizes n) (omega (arith, long, more, most))
    ∙ ap (λ (k : ℕ). take k numbers) (sym more)

pairs-written : (word : List ℕ) (s : GeneralSetting) (test : ℤ → Bool) (numbers : List ℤ) (others : Rows) → length numbers ≡ pairs_of s → ((p : ℕ) → p < pairs_of s → IsInField 62 test (number_at numbers p))
    → IsWrittenBefore others (pair_numbers word s (number_field 62 test)) (agent_rows word s numbers) numbers
pairs-written word s test numbers others long each =
    let whole : up_to (agent_count s) (of_types s numbers) ≡ numbers =
    types-taken s numbers (agent_count s) long (omega arith) ∙ ap (λ (k : ℕ). take k numbers) (before-all (sizes_of s) (agent_count s) (sym (agent_count-sizes s))) ∙ take_all (pairs_of s) numbers (omega (arith, long)) in
    subst (λ (xs : List ℤ). IsWrittenBefore others (pair_numbers word s (number_field 62 test)) (agent_rows word s numbers) xs) whole
    (each-written (agent_count s) (agent_numbers word s (number_field 62 test)) (agent_row word s numbers) (of_types s numbers) others (λ i more l. agent-written word s test numbers i more l each))

odds-pass : (den z : ℤ) → pos 0 ≤ℤ z → z ≤ℤ den → is_place 0 (unsigned_abs den + 1) z ≡ true
odds-pass den z n l = grind (arith, ints)

odds-within : (den z : ℤ) (n : ℕ) → pos 0 ≤ℤ z → z ≤ℤ den → den ≤ℤ pos n → IsWithin n z
odds-within den z n l m small = record { within = omega (arith, ints, l, m, small) }

pub interim-written : (s : GeneralSetting) (interim : Interim) (others : Rows) → IsInterimOver (pairs_of s) interim → IsWrittenBefore others (interim_of s) (interim_rows s interim) interim
interim-written s interim others h =
    let den = interim.den in
    let odds_rows = agent_rows (codes "odds") s interim.odds in
    let pays_rows = agent_rows (codes "pays") s interim.pays in
    written-then others interim_den (λ d. pair_numbers (codes "odds") s (odds_field d) >>= (λ o. pair_numbers (codes "pays") s any_number >>= (λ p. nothing_more (record { den = d; odds = o; pays = p })))) (number_row (codes "interim") (den ∷ []) ∷ []) (odds_rows ++ pays_rows) den interim
    (den-written den ((odds_rows ++ pays_rows) ++ others) h.den_positive h.den_size)
    (written-then others (pair_numbers (codes "odds") s (odds_field den)) (λ o. pair_numbers (codes "pays") s any_number >>= (λ p. nothing_more (record { den = den; odds = o; pays = p }))) odds_rows pays_rows interim.odds interim
    (pairs-written (codes "odds") s (is_place 0 (unsigned_abs den + 1)) interim.odds (pays_rows ++ others) h.one_odds
    (λ v l. let (n, m) = h.odds v l in record { passes = odds-pass den (number_at interim.odds v) n m; small = odds-within den (number_at interim.odds v) number_limit n m h.den_size }))
    (written-as others (pair_numbers (codes "pays") s any_number) (λ p. record { den = den; odds = interim.odds; pays = p }) pays_rows interim.pays
    (pairs-written (codes "pays") s (λ _. true) interim.pays others h.one_pay (λ v l. let long = h.one_pay in record { passes = refl; small = h.pay_size.at v (omega (arith, long, l)) }))))

-- ---- masses

abbrev at_rank : GeneralSetting → List ℤ → ℕ → List ℤ
at_rank s y r = list_to (agent_count s) (λ k. number_at y (rank_of (sizes_of s) (profile_at (sizes_of s) r) * agent_count s + k))

mass-passes : (z : ℤ) → pos 0 ≤ℤ z → IsWithin most_mass z → IsMass z
mass-passes z n small = record { passes = both (first n) (second small.within); small = small }
  where
    first : pos 0 ≤ℤ z → int_le (pos 0) z ≡ true
    first n = grind (arith, ints)

    second : unsigned_abs z ≤ most_mass → nat_le (unsigned_abs z) most_mass ≡ true
    second l = grind (arith, ints)

    both : int_le (pos 0) z ≡ true → nat_le (unsigned_abs z) most_mass ≡ true → is_amount most_mass z ≡ true
    both e f = rw (e, f) refl

names-hold : (s : GeneralSetting) (rank : ℕ) (fields : List Field) (texts : List (List ℕ)) (numbers : List ℤ) → rank < profile_count (sizes_of s) → Holds fields texts numbers
    → Holds (profile_fields s (profile_at (sizes_of s) rank) ++ fields) (type_names s.agents (profile_at (sizes_of s) rank) ++ texts) (replicate (agent_count s) (pos 0) ++ numbers)
names-hold s rank fields texts numbers b h =
    let t = profile_at (sizes_of s) rank in
    let names : length (type_names s.agents t) ≡ agent_count s = sym (length-map (type_names s.agents t) word_field) ∙ length-names s.agents t (profile-long s rank b) in
    subst (λ (k : ℕ). Holds (profile_fields s t ++ fields) (type_names s.agents t ++ texts) (replicate k (pos 0) ++ numbers)) names (holds-names (type_names s.agents t) fields texts numbers h)

adding-written : (others : Rows) (most : ℤ) (numbers : List ℤ) → total numbers ≤ℤ most → IsWrittenBefore others (adding_at_most most numbers) [] numbers
adding-written others most numbers l = record { read = λ n. rw (true-int_le (total numbers) most l, add-zero n) refl }

drop-zeros : (n : ℕ) (ns : List ℤ) → drop n (replicate n (pos 0) ++ ns) ≡ ns
drop-zeros zero ns = refl
drop-zeros (suc n) ns = drop-zeros n ns

-- what is known of the masses that are written
pub record AreWritable (s : GeneralSetting) (den : ℤ) (y : List ℤ) : Type 0 where
  pub table : IsProfileTable s den y
  pub small : (r i : ℕ) → r < profile_count (sizes_of s) → i < agent_count s → IsWithin most_mass (mass_at s y r i)

rank-written : (s : GeneralSetting) (den : ℤ) (y : List ℤ) (rank : ℕ) (others : Rows) → AreWritable s den y → rank < profile_count (sizes_of s)
    → IsWrittenBefore others (masses_at s den rank) (profile_row (codes "mass") s y (agent_count s) (profile_at (sizes_of s) rank) ∷ []) (at_rank s y rank)
rank-written s den y rank others h b =
    let n = agent_count s in
    let t = profile_at (sizes_of s) rank in
    let row = profile_row (codes "mass") s y n t in
    let place : rank_of (sizes_of s) t ≡ rank = rank_of-profile_at (sizes_of s) rank b in
    let f : ℕ → ℤ = λ k. number_at y (rank_of (sizes_of s) t * n + k) in
    let same : (k : ℕ) → f k ≡ mass_at s y rank k = λ k. ap (λ r. number_at y (r * n + k)) place in
    let each : (k : ℕ) → k < n → IsMass (f k) = λ k l. mass-passes (f k) (subst (λ z. pos 0 ≤ℤ z) (sym (same k)) (h.table.nonneg rank k b l)) (subst (IsWithin most_mass) (sym (same k)) (h.small rank k b l)) in
    let hold = names-hold s rank (replicate n mass_field) (list_to n (λ k. text_of (f k))) (at_rank s y rank) b (listed-hold 126 (is_amount most_mass) n f (lit≤ tt) each) in
    let adds : total (at_rank s y rank) ≤ℤ cap_at s den rank =
    subst (λ (z : ℤ). z ≤ℤ cap_at s den rank) (sym (total_by-list_to (λ x. x) n f ∙ sum_to-same n f (mass_at s y rank) (λ k l. same k))) (h.table.inside rank b) in
    let behind = drop-zeros n (at_rank s y rank) in
    written-then others (read_record (codes "mass") (profile_fields s t ++ replicate n mass_field)) (λ found. adding_at_most (cap_at s den rank) (drop n found)) (row ∷ []) [] (replicate n (pos 0) ++ at_rank s y rank) (at_rank s y rank)
    (written-record others (codes "mass") (profile_fields s t ++ replicate n mass_field) (type_names s.agents t ++ list_to n (λ k. text_of (f k))) (replicate n (pos 0) ++ at_rank s y rank) hold)
    (rw behind (adding-written others (cap_at s den rank) (at_rank s y rank) adds))

next-block : (n w : ℕ) → suc n * w ≡ n * w + w
next-block n w = grind arith

zero-block : (w : ℕ) → zero * w ≡ 0
zero-block w = grind arith

blocks-taken : (xs : List ℤ) (n w : ℕ) → n * w ≤ length xs → up_to n (λ r. list_to w (λ o. number_at xs (r * w + o))) ≡ take (n * w) xs
blocks-taken xs zero w l = ap (λ (k : ℕ). take k xs) (sym (zero-block w))
blocks-taken xs (suc n) w l =
    let e = next-block n w in
    ap (λ (ys : List ℤ). ys ++ list_to w (λ o. number_at xs (n * w + o))) (blocks-taken xs n w (omega (arith, e, l)))
    ∙ block-taken xs (n * w) w (omega (arith, e, l)) ∙ ap (λ (k : ℕ). take k xs) (sym e)

all-masses : (s : GeneralSetting) (y : List ℤ) → length y ≡ profile_count (sizes_of s) * agent_count s → up_to (profile_count (sizes_of s)) (at_rank s y) ≡ y
all-masses s y long =
    let m = profile_count (sizes_of s) in
    let n = agent_count s in
    up_to-same m (at_rank s y) (λ r. list_to n (λ o. number_at y (r * n + o))) (λ r l. ap (λ (k : ℕ). list_to n (λ o. number_at y (k * n + o))) (rank_of-profile_at (sizes_of s) r l))
    ∙ blocks-taken y m n (omega (arith, long)) ∙ take_all (m * n) y (omega (arith, long))

mass_rows-listed : (s : GeneralSetting) (y : List ℤ) → list_to (profile_count (sizes_of s)) (λ r. profile_row (codes "mass") s y (agent_count s) (profile_at (sizes_of s) r)) ≡ profile_rows (codes "mass") s y (agent_count s)
mass_rows-listed s y =
    sym (map-list_to (profile_row (codes "mass") s y (agent_count s)) (profile_count (sizes_of s)) (profile_at (sizes_of s)))
    ∙ ap (map (profile_row (codes "mass") s y (agent_count s))) (sym (profiles_of-by_rank (sizes_of s)))

pub masses-written : (s : GeneralSetting) (den : ℤ) (y : List ℤ) (others : Rows) → AreWritable s den y → IsWrittenBefore others (masses_of s den) (profile_rows (codes "mass") s y (agent_count s)) y
masses-written s den y others h =
    subst (λ (rows : Rows). IsWrittenBefore others (masses_of s den) rows y) (mass_rows-listed s y)
    (subst (λ (xs : List ℤ). IsWrittenBefore others (masses_of s den) (list_to (profile_count (sizes_of s)) (λ r. profile_row (codes "mass") s y (agent_count s) (profile_at (sizes_of s) r))) xs) (all-masses s y h.table.one_each)
    (each-written (profile_count (sizes_of s)) (masses_at s den) (λ r. profile_row (codes "mass") s y (agent_count s) (profile_at (sizes_of s) r)) (at_rank s y) others (λ r more l. rank-written s den y r more h l)))

-- no record is empty
pub agents-some : (word : List ℕ) (s : GeneralSetting) (numbers : List ℤ) → All IsSome (agent_rows word s numbers)
agents-some word s numbers = All-list_to IsSome (agent_count s) (agent_row word s numbers) (λ i l. omega arith)

pub masses-some : (s : GeneralSetting) (y : List ℤ) → All IsSome (profile_rows (codes "mass") s y (agent_count s))
masses-some s y =
    subst (All IsSome) (mass_rows-listed s y)
    (All-list_to IsSome (profile_count (sizes_of s)) (λ r. profile_row (codes "mass") s y (agent_count s) (profile_at (sizes_of s) r)) (λ r l. omega arith))
