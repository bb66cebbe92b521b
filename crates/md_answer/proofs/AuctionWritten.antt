-- An answer about an auction, or about several units, that is written is read as the same answer.
use Rattle.std.proofs.Common.{◌≡◌, ℕ, zero, suc, ◌+◌, ◌<◌, ◌≤◌, ◌^◌, ℤ, pos, ◌≤ℤ◌, int_le, Bool, true, false, List, [], ◌∷◌, ◌++◌, map, length, replicate, codes, Option, None, Some, Ok, refl, sym, ap, subst, ◌∙◌, arith, All, append-nil, append_assoc, lit≤}
use Rattle.std.specs.Prelude.{unsigned_abs, IfSome}
use Rattle.std.proofs.lemmas.Int.{ints}
use Rattle.std.proofs.lemmas.List.Elements.{All-nil, All-cons, All-append, All-head, All-tail}
use Rattle.md_math.specs.Lists.{number_at, up_to}
use Rattle.md_math.specs.Sizes.{IsWithin, AllWithin}
use Rattle.md_math.proofs.Builders.{list_to-get_or, All-list_to}
use Rattle.md_num.specs.WholeText.{text_of}
use Rattle.md_setting.specs.Auction.{SymmetricAuction, value_count}
use Rattle.md_setting.specs.AuctionShaped.{IsAuction}
use Rattle.md_mech.specs.Accepted.{number_limit}
use Rattle.md_lp.specs.Cuts.{AreCuts}
use Rattle.md_lp.specs.declared.pivot.Pivot.{Pivot}
use Rattle.md_lp.specs.declared.wide.Wide.{Wide}
use Rattle.md_border.specs.declared.interim.Interim.{Interim}
use Rattle.md_border.specs.Odds.{IsInterim}
use Rattle.md_reduced.proofs.ConditionLaws.{conditions-few}
use Rattle.md_cert.specs.declared.bound.Bound.{Bound}
use Rattle.md_records.specs.Written.{IsReadBack}
use Rattle.md_records.proofs.RecordTexts.{records_of-text}
use Rattle.md_parts.specs.declared.first_record.Head.{Head}
use Rattle.md_parts.specs.Cuts.{cuts_of}
use Rattle.md_parts.specs.Fitting.{HasFraction}
use Rattle.md_parts.specs.Fields.{Field, number_field, any_number, denominator_field, is_place}
use Rattle.md_parts.specs.FirstRecord.{word_among, stands_in, first_of}
use Rattle.md_parts.specs.Repeated.{comes_next}
use Rattle.md_parts.specs.LastRecord.{read_end}
use Rattle.md_parts.specs.Written.{Holds, IsWrittenBefore}
use Rattle.md_parts.specs.Reading.{◌>>=◌, nothing_more, answered, read_record}
use Rattle.md_parts.specs.Table.{value_of}
use Rattle.md_parts.specs.Multipliers.{bound_of}
use Rattle.md_parts.specs.Path.{wide_of, second_of, version_with}
use Rattle.md_parts.specs.Rows.{number_row, first_row, end_row, value_row, row_unless_zero, bound_rows, cut_rows, pivot_row, entry_row, wide_rows, second_rows}
use Rattle.md_parts.proofs.NumbersRead.{IsInField}
use Rattle.md_parts.proofs.CutsWritten.{cuts-written, cuts-some}
use Rattle.md_parts.proofs.WrittenRecords.{holds-none, holds-cons, holds-numbers, number_field-holds}
use Rattle.md_parts.proofs.WrittenTables.{written-then, written-as, written-record}
use Rattle.md_parts.proofs.WrittenParts.{first-written, end-written, value-written, bound-written, wide-written, second-written, both_row, IsSome, rows-some, wide-some, second-some}
use Rattle.md_answer.specs.declared.answer.Answer.{Answer}
use Rattle.md_answer.specs.declared.answer.Answer.TheVariants.{Table, Optimal, Infeasible, Unbounded, AuctionOptimal, TooWide}
use Rattle.md_answer.specs.declared.auction_kind.AuctionKind.{AuctionKind}
use Rattle.md_answer.specs.declared.auction_kind.AuctionKind.TheVariants as kind
use Rattle.md_answer.specs.AnswerTo.{HasPlaces}
use Rattle.md_answer.specs.AuctionAnswerTo.{HasSecond, IsAnswerFor}
use Rattle.md_answer.specs.AuctionAnswers.{answer_by, whole_answer, answer_for, version_for}
use Rattle.md_answer.specs.AuctionKinds.{auction_words, place_of, word_of, kind_of}
use Rattle.md_answer.specs.AuctionRows.{inner_rows, kind_in, rows_for, text_for, written_version}
use Rattle.md_answer.specs.InterimRecords.{pays_in, interim_in, interim_rows}
use Rattle.md_answer.specs.MassReading.{masses_over}
use Rattle.md_answer.specs.MassRecords.{mass_rows}
use Rattle.md_answer.specs.Odds.{interim_den, odds_field, odds_in}
use Rattle.md_answer.specs.ReducedRows.{reduced_rows}
use Rattle.md_answer.specs.Supplies.{word_for}
use Rattle.md_answer.specs.declared.supply.Supply.{Supply}
use Rattle.md_answer.specs.declared.supply.Supply.TheVariants.{Item, Units}
use Rattle.md_answer.proofs.MassesWritten.{masses-written, masses-some}
use Rattle.md_answer.proofs.WrittenAnswers.{version-with}

abbrev Rows : Type 0
Rows = List (List (List ℕ))

-- ---- odds and payments

-- numbers that pass a test at each place
all-in : (test : ℤ → Bool) (numbers : List ℤ) → ((k : ℕ) → k < length numbers → IsInField 62 test (number_at numbers k)) → All (IsInField 62 test) numbers
all-in test numbers each = subst (λ (xs : List ℤ). All (IsInField 62 test) xs) (list_to-get_or numbers (pos 0)) (All-list_to (IsInField 62 test) (length numbers) (λ k. number_at numbers k) each)

-- a record of so many numbers
list-written : (word : List ℕ) (count : ℕ) (test : ℤ → Bool) (numbers : List ℤ) (others : Rows) → length numbers ≡ count → ((k : ℕ) → k < count → IsInField 62 test (number_at numbers k))
    → IsWrittenBefore others (read_record word (replicate count (number_field 62 test))) (number_row word numbers ∷ []) numbers
list-written word count test numbers others long each =
    let all = all-in test numbers (λ k l. each k (omega (arith, long, l))) in
    written-record others word (replicate count (number_field 62 test)) (map text_of numbers) numbers
    (subst (λ (n : ℕ). Holds (replicate n (number_field 62 test)) (map text_of numbers) numbers) long (holds-numbers 62 test numbers (lit≤ tt) all))

true-int_le : (a z : ℤ) → a ≤ℤ z → int_le a z ≡ true
true-int_le a z h = grind (arith, ints)

den-within : (den : ℤ) (n : ℕ) → pos 1 ≤ℤ den → den ≤ℤ pos n → IsWithin n den
den-within den n one small = record { within = omega (arith, ints) }

den-written : (den : ℤ) (others : Rows) → pos 1 ≤ℤ den → den ≤ℤ pos number_limit → IsWrittenBefore others interim_den (number_row (codes "interim") (den ∷ []) ∷ []) den
den-written den others one small =
    written-as others (read_record (codes "interim") (denominator_field ∷ [])) (λ numbers. number_at numbers 0) (number_row (codes "interim") (den ∷ []) ∷ []) (den ∷ [])
    (written-record others (codes "interim") (denominator_field ∷ []) (text_of den ∷ []) (den ∷ [])
    (holds-cons denominator_field [] (text_of den) [] den [] (number_field-holds 62 (int_le (pos 1)) den (lit≤ tt) (record { passes = true-int_le (pos 1) den one; small = den-within den number_limit one small })) holds-none))

odds-pass : (den z : ℤ) → pos 0 ≤ℤ z → z ≤ℤ den → is_place 0 (unsigned_abs den + 1) z ≡ true
odds-pass den z n l = grind (arith, ints)

odds-within : (den z : ℤ) (n : ℕ) → pos 0 ≤ℤ z → z ≤ℤ den → den ≤ℤ pos n → IsWithin n z
odds-within den z n l m small = record { within = omega (arith, ints) }

interim-written : (a : SymmetricAuction) (interim : Interim) (others : Rows) → IsInterim a interim → IsWrittenBefore others (interim_in a) (interim_rows interim) interim
interim-written a interim others h =
    let den = interim.den in
    let odds_row : Rows = number_row (codes "odds") interim.odds ∷ [] in
    let pays_row : Rows = number_row (codes "pays") interim.pays ∷ [] in
    written-then others interim_den (λ d. odds_in a d >>= (λ o. pays_in a >>= (λ p. nothing_more (record { den = d; odds = o; pays = p })))) (number_row (codes "interim") (den ∷ []) ∷ []) (odds_row ++ pays_row) den interim
    (den-written den ((odds_row ++ pays_row) ++ others) h.den_positive h.den_size)
    (written-then others (odds_in a den) (λ o. pays_in a >>= (λ p. nothing_more (record { den = den; odds = o; pays = p }))) odds_row pays_row interim.odds interim
    (list-written (codes "odds") (value_count a) (is_place 0 (unsigned_abs den + 1)) interim.odds (pays_row ++ others) h.one_odds
    (λ v l. let (n, m) = h.odds v l in record { passes = odds-pass den (number_at interim.odds v) n m; small = odds-within den (number_at interim.odds v) number_limit n m h.den_size }))
    (written-as others (pays_in a) (λ p. record { den = den; odds = interim.odds; pays = p }) pays_row interim.pays
    (list-written (codes "pays") (value_count a) (λ _. true) interim.pays others h.one_pay (λ v l. let long = h.one_pay in record { passes = refl; small = h.pay_size.at v (omega (arith, long, l)) }))))

-- ---- what stands between the first record and the last

pub rows-few : (a : SymmetricAuction) (cuts : List ℕ) → IsAuction a → AreCuts (value_count a) cuts → reduced_rows a cuts ≤ 2 ^ 32
rows-few a cuts h are = let few = conditions-few (value_count a) cuts h.few_values are in omega (arith, few)

abbrev the_end : Rows
the_end = end_row ∷ []

-- a path begins with a pivot or an entry, and not with a cut
no-cut : (wide : Wide) (others : Rows) → comes_next (codes "cut") (wide_rows wide ++ others) ≡ false
no-cut wide others = by_path wide.path
  where
    by_path : (path : List Pivot) → comes_next (codes "cut") ((map pivot_row path ++ entry_row wide.entry ∷ []) ++ others) ≡ false
    by_path [] = refl
    by_path (p ∷ path) = refl

-- the version by which a second part is read is the one with which it was written
version-read : (supply : Supply) (cuts : List ℕ) (first : Wide) (second : Option Wide) → HasSecond supply second → version_for supply (written_version supply (TooWide cuts first second)) ≡ version_with second
version-read Item cuts first second h = version-with cuts first second
version-read (Units units) cuts first None h = absurd h
version-read (Units units) cuts first (Some second) h = refl

second-fits : (supply : Supply) (second : Option Wide) → HasSecond supply second → IfSome second HasFraction
second-fits Item second h = h
second-fits (Units units) None h = absurd h
second-fits (Units units) (Some second) h = h

inner-written : (supply : Supply) (a : SymmetricAuction) (told : Answer) → IsAuction a → IsAnswerFor supply a told → HasPlaces told → IsWrittenBefore the_end (answer_by supply a (written_version supply told) (kind_in told)) (inner_rows a told) told
inner-written supply a (Table mechanism) shaped h p = absurd h
inner-written supply a (Optimal value mechanism bound) shaped h p = absurd h
inner-written supply a (Infeasible face) shaped h p = absurd h
inner-written supply a (Unbounded mechanism ray) shaped h p = absurd h
inner-written supply a (AuctionOptimal value interim masses cuts bound) shaped h p =
    let (fraction, odds, are, same, sets, multipliers) = h in
    let rows = reduced_rows a cuts in
    let last = bound_rows rows bound in
    let from_cuts = cut_rows cuts ++ last in
    let from_masses = mass_rows a masses ++ from_cuts in
    let from_odds = interim_rows interim ++ from_masses in
    let told : Answer = AuctionOptimal value interim masses cuts bound in
    written-then the_end value_of (λ v. interim_in a >>= (λ i. masses_over supply a i.den >>= (λ m. cuts_of (value_count a) >>= (λ c. bound_of (reduced_rows a c) >>= (λ b. nothing_more (AuctionOptimal v i m c b)))))) (value_row value ∷ []) from_odds value told
    (value-written value (from_odds ++ the_end) fraction)
    (written-then the_end (interim_in a) (λ i. masses_over supply a i.den >>= (λ m. cuts_of (value_count a) >>= (λ c. bound_of (reduced_rows a c) >>= (λ b. nothing_more (AuctionOptimal value i m c b))))) (interim_rows interim) from_masses interim told
    (interim-written a interim (from_masses ++ the_end) odds)
    (written-then the_end (masses_over supply a interim.den) (λ m. cuts_of (value_count a) >>= (λ c. bound_of (reduced_rows a c) >>= (λ b. nothing_more (AuctionOptimal value interim m c b)))) (mass_rows a masses) from_cuts masses told
    (subst (λ (den : ℤ). IsWrittenBefore (from_cuts ++ the_end) (masses_over supply a den) (mass_rows a masses) masses) same (masses-written supply a masses shaped are (subst (λ (den : ℤ). den ≤ℤ pos number_limit) (sym same) odds.den_size) (from_cuts ++ the_end)))
    (written-then the_end (cuts_of (value_count a)) (λ c. bound_of (reduced_rows a c) >>= (λ b. nothing_more (AuctionOptimal value interim masses c b))) (cut_rows cuts) last cuts told
    (cuts-written cuts (value_count a) (last ++ the_end) shaped.few_values sets refl)
    (written-as the_end (bound_of rows) (λ b. AuctionOptimal value interim masses cuts b) last bound (bound-written rows bound the_end multipliers (rows-few a cuts shaped sets) refl)))))
inner-written supply a (TooWide cuts first second) shaped h p =
    let (sets, one, other) = h in
    let version = version_with second in
    let paths = wide_rows first ++ second_rows second in
    let told : Answer = TooWide cuts first second in
    rw (version-read supply cuts first second other)
    (written-then the_end (cuts_of (value_count a)) (λ c. wide_of >>= (λ w. second_of version >>= (λ o. nothing_more (TooWide c w o)))) (cut_rows cuts) paths cuts told
    (cuts-written cuts (value_count a) (paths ++ the_end) shaped.few_values sets (ap (comes_next (codes "cut")) (append_assoc (wide_rows first) (second_rows second) the_end) ∙ no-cut first (second_rows second ++ the_end)))
    (written-then the_end wide_of (λ w. second_of version >>= (λ o. nothing_more (TooWide cuts w o))) (wide_rows first) (second_rows second) first told
    (wide-written first (second_rows second ++ the_end) one p.0)
    (written-as the_end (second_of version) (λ o. TooWide cuts first o) (second_rows second) second (second-written second the_end (second-fits supply second other) p.1))))

-- ---- the whole

-- each answer about an auction stands in its version, and its word is among the words of such answers
answer-stands : (supply : Supply) (a : SymmetricAuction) (told : Answer) → IsAnswerFor supply a told → stands_in (written_version supply told) (word_of (kind_in told)) ≡ true
answer-stands supply a (Table mechanism) h = absurd h
answer-stands supply a (Optimal value mechanism bound) h = absurd h
answer-stands supply a (Infeasible face) h = absurd h
answer-stands supply a (Unbounded mechanism ray) h = absurd h
answer-stands Item a (AuctionOptimal value interim masses cuts bound) h = refl
answer-stands Item a (TooWide cuts first None) h = refl
answer-stands Item a (TooWide cuts first (Some second)) h = refl
answer-stands (Units units) a (AuctionOptimal value interim masses cuts bound) h = refl
answer-stands (Units units) a (TooWide cuts first second) h = refl

word-among : (k : AuctionKind) → word_among auction_words (word_of k) ≡ Some (pos (place_of k))
word-among kind.Optimal = refl
word-among kind.TooWide = refl

kind-placed : (k : AuctionKind) → kind_of (place_of k) ≡ k
kind-placed kind.Optimal = refl
kind-placed kind.TooWide = refl

whole-written : (supply : Supply) (a : SymmetricAuction) (told : Answer) → IsAuction a → IsAnswerFor supply a told → HasPlaces told → IsWrittenBefore [] (whole_answer supply a) (rows_for supply a told) told
whole-written supply a told shaped h p =
    let place = place_of (kind_in told) in
    let head : Head = record { version = written_version supply told; word = place } in
    written-then [] (first_of (word_for supply) auction_words) (λ found. answer_by supply a found.version (kind_of found.word) >>= (λ answer. read_end >>= (λ _. nothing_more answer)))
    (first_row (written_version supply told) (word_for supply) (word_of (kind_in told)) ∷ []) (inner_rows a told ++ the_end) head told
    (first-written (written_version supply told) (word_for supply) (word_of (kind_in told)) auction_words place ((inner_rows a told ++ the_end) ++ []) (word-among (kind_in told)) (answer-stands supply a told h))
    (written-then [] (answer_by supply a (written_version supply told) (kind_of place)) (λ found. read_end >>= (λ _. nothing_more found)) (inner_rows a told) the_end told told
    (subst (λ (k : AuctionKind). IsWrittenBefore the_end (answer_by supply a (written_version supply told) k) (inner_rows a told) told) (sym (kind-placed (kind_in told))) (inner-written supply a told shaped h p))
    (written-as [] read_end (λ _. told) the_end tt end-written))

-- ---- the text

bound-some : (rows : ℕ) (bound : Bound) → All IsSome (bound_rows rows bound)
bound-some rows bound = All-cons IsSome (number_row (codes "bound") (bound.den ∷ [])) (up_to rows (λ r. row_unless_zero r (both_row bound r))) (omega arith) (rows-some rows (both_row bound))

interim-some : (interim : Interim) (others : Rows) → All IsSome others → All IsSome (interim_rows interim ++ others)
interim-some interim others h =
    All-cons IsSome (number_row (codes "interim") (interim.den ∷ [])) (number_row (codes "odds") interim.odds ∷ number_row (codes "pays") interim.pays ∷ others) (omega arith)
    (All-cons IsSome (number_row (codes "odds") interim.odds) (number_row (codes "pays") interim.pays ∷ others) (omega arith) (All-cons IsSome (number_row (codes "pays") interim.pays) others (omega arith) h))

inner-some : (a : SymmetricAuction) (told : Answer) → All IsSome (inner_rows a told)
inner-some a (Table mechanism) = All-nil IsSome
inner-some a (Optimal value mechanism bound) = All-nil IsSome
inner-some a (Infeasible face) = All-nil IsSome
inner-some a (Unbounded mechanism ray) = All-nil IsSome
inner-some a (AuctionOptimal value interim masses cuts bound) =
    let last = bound_rows (reduced_rows a cuts) bound in
    let from_masses = mass_rows a masses ++ (cut_rows cuts ++ last) in
    All-cons IsSome (value_row value) (interim_rows interim ++ from_masses) (omega arith)
    (interim-some interim from_masses (All-append IsSome (mass_rows a masses) (cut_rows cuts ++ last) (masses-some a masses) (All-append IsSome (cut_rows cuts) last (cuts-some cuts) (bound-some (reduced_rows a cuts) bound))))
inner-some a (TooWide cuts first second) =
    All-append IsSome (cut_rows cuts) (wide_rows first ++ second_rows second) (cuts-some cuts) (All-append IsSome (wide_rows first) (second_rows second) (wide-some first) (second-some second))

answer-read_back : (supply : Supply) (a : SymmetricAuction) (told : Answer) → IsReadBack (rows_for supply a told)
answer-read_back supply a told = record {
  fields = All-cons IsSome (first_row (written_version supply told) (word_for supply) (word_of (kind_in told))) (inner_rows a told ++ the_end) (omega arith)
      (All-append IsSome (inner_rows a told) the_end (inner-some a told) (All-cons IsSome end_row [] (omega arith) (All-nil IsSome)));
  no_mark = λ e. first_byte e;
}
  where
    first_byte : ◌≡◌ {A = ℕ} 97 239 → ⊥
    first_byte e = omega arith

pub auction-reads_back : (supply : Supply) (a : SymmetricAuction) (told : Answer) → IsAuction a → IsAnswerFor supply a told → HasPlaces told → answer_for supply a (text_for supply a told) ≡ Ok told
auction-reads_back supply a told shaped h p =
    let whole = (whole-written supply a told shaped h p).read 0 in
    ap (λ (l : Rows). answered (whole_answer supply a record { read = 0; left = l })) (records_of-text (rows_for supply a told) (answer-read_back supply a told) ∙ sym (append-nil (rows_for supply a told)))
    ∙ ap answered whole
