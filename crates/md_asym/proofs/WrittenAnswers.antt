-- An answer about a sale that is written is read as the same answer.
use Rattle.std.proofs.Common.{◌≡◌, ℕ, ◌*◌, ◌<◌, ◌≤◌, ◌^◌, ℤ, pos, ◌≤ℤ◌, false, List, [], ◌∷◌, ◌++◌, map, codes, Some, Ok, refl, sym, ap, ◌∙◌, arith, All, append-nil, append_assoc}
use Rattle.std.proofs.lemmas.Int.{ints}
use Rattle.std.proofs.lemmas.List.Elements.{All-nil, All-cons, All-append}
use Rattle.md_math.specs.Lists.{up_to}
use Rattle.md_math.specs.Sizes.{IsWithin}
use Rattle.md_math.proofs.SizeLaws.{IsWithin-wider}
use Rattle.md_math.proofs.SumLaws.{sum_to-at_least}
use Rattle.md_space.specs.Profiles.{profile_count}
use Rattle.md_setting.specs.Setting.{GeneralSetting}
use Rattle.md_setting.specs.Meaning.{agent_count, sizes_of}
use Rattle.md_setting.specs.Shaped.{IsShaped}
use Rattle.md_mech.specs.Accepted.{number_limit}
use Rattle.md_lp.specs.Cuts.{AreCuts}
use Rattle.md_lp.specs.declared.pivot.Pivot.{Pivot}
use Rattle.md_lp.specs.declared.wide.Wide.{Wide}
use Rattle.md_cert.specs.declared.bound.Bound.{Bound}
use Rattle.md_records.specs.Written.{IsReadBack}
use Rattle.md_records.proofs.RecordTexts.{records_of-text}
use Rattle.md_parts.specs.declared.first_record.Head.{Head}
use Rattle.md_parts.specs.declared.version.Version.TheVariants.{One}
use Rattle.md_parts.specs.Cuts.{cuts_of}
use Rattle.md_parts.specs.FirstRecord.{word_among, first_of}
use Rattle.md_parts.specs.LastRecord.{read_end}
use Rattle.md_parts.specs.Multipliers.{bound_of}
use Rattle.md_parts.specs.Path.{wide_of}
use Rattle.md_parts.specs.Reading.{◌>>=◌, nothing_more, answered, read_record}
use Rattle.md_parts.specs.Repeated.{comes_next}
use Rattle.md_parts.specs.Rows.{number_row, first_row, end_row, value_row, row_unless_zero, bound_rows, cut_rows, profile_rows, pivot_row, entry_row, wide_rows, again_row}
use Rattle.md_parts.specs.Table.{value_of}
use Rattle.md_parts.specs.Written.{IsWrittenBefore}
use Rattle.md_parts.proofs.CutsWritten.{cuts-written, cuts-some}
use Rattle.md_parts.proofs.WrittenRecords.{holds-none}
use Rattle.md_parts.proofs.WrittenTables.{written-then, written-as, written-record}
use Rattle.md_parts.proofs.WrittenParts.{first-written, end-written, value-written, bound-written, wide-written, both_row, IsSome, rows-some, wide-some}
use Rattle.md_asym_sale.specs.Sale.{IsSale}
use Rattle.md_asym_sale.specs.Values.{pairs_of}
use Rattle.md_asym_sale.proofs.ConditionLaws.{conditions-few}
use Rattle.md_asym_tables.specs.PairNets.{cap_at}
use Rattle.md_asym_tables.specs.Tables.{mass_at}
use Rattle.md_asym_tables.proofs.NetLaws.{cap-within}
use Rattle.md_asym.specs.AnswerTo.{HasPlaces, IsAnswerTo, IsSaleAnswer, sale_rows}
use Rattle.md_asym.specs.SaleReading.{interim_of, masses_of}
use Rattle.md_asym.specs.SaleRows.{agent_rows, answer_rows, best_rows, inner_rows, interim_rows, text_of_sale, word_of}
use Rattle.md_asym.specs.SaleText.{answer_by, answer_words, best_of, sale_answer_of, whole_answer}
use Rattle.md_asym.specs.declared.asym_answer.AsymAnswer.{AsymAnswer}
use Rattle.md_asym.specs.declared.sale_answer.SaleAnswer.{SaleAnswer}
use Rattle.md_asym.specs.declared.sale_answer.SaleAnswer.TheVariants.{Optimal, TooWide}
use Rattle.md_asym.proofs.ReadingSteps.{most_mass}
use Rattle.md_asym.proofs.SaleClaims.{interim-over}
use Rattle.md_asym.proofs.SaleWritten.{AreWritable, agents-some, interim-written, masses-some, masses-written}

abbrev Rows : Type 0
Rows = List (List (List ℕ))

abbrev the_end : Rows
the_end = end_row ∷ []

-- ---- sizes

-- a mass is no more than what there is to give
smaller : (limit : ℕ) (x s c : ℤ) → pos 0 ≤ℤ x → x ≤ℤ s → s ≤ℤ c → IsWithin limit c → IsWithin limit x
smaller limit x s c n p q w = record { within = omega (arith, ints, n, p, q, w.within) }

module _ (s : GeneralSetting) (sale : IsSale s) (shaped : IsShaped s) where
  pub mass-within : (answer : AsymAnswer) (r i : ℕ) → IsAnswerTo s answer → r < profile_count (sizes_of s) → i < agent_count s → IsWithin (number_limit * 1000000) (mass_at s answer.masses r i)
  mass-within answer r i h b l =
      smaller (number_limit * 1000000) (mass_at s answer.masses r i) _ (cap_at s answer.interim.den r) (h.table.nonneg r i b l)
      (sum_to-at_least (agent_count s) i (mass_at s answer.masses r) l (λ j m. h.table.nonneg r j b m)) (h.table.inside r b)
      (cap-within s answer.interim.den r shaped h.odds.fits.den_positive h.odds.fits.den_size b)

  writable : (answer : AsymAnswer) → IsAnswerTo s answer → AreWritable s answer.interim.den answer.masses
  writable answer h = record { table = h.table; small = λ r i b l. IsWithin-wider (number_limit * 1000000) most_mass (mass_at s answer.masses r i) (omega arith) (mass-within answer r i h b l) }

  rows-few : (cuts : List ℕ) → AreCuts (pairs_of s) cuts → sale_rows s cuts ≤ 2 ^ 32
  rows-few cuts are = (let few = conditions-few s cuts sale shaped are in omega (arith, few))

  -- ---- what stands between the first record and the last

  best-written : (answer : AsymAnswer) → IsAnswerTo s answer → IsWrittenBefore the_end (best_of s) (best_rows s answer) answer
  best-written answer h =
      let value = answer.value in
      let interim = answer.interim in
      let masses = answer.masses in
      let cuts = answer.cuts in
      let bound = answer.bound in
      let last = bound_rows (sale_rows s cuts) bound in
      let from_cuts = cut_rows cuts ++ last in
      let from_masses = profile_rows (codes "mass") s masses (agent_count s) ++ from_cuts in
      let from_odds = interim_rows s interim ++ from_masses in
      written-then the_end value_of (λ v. interim_of s >>= (λ i. masses_of s i.den >>= (λ m. cuts_of (pairs_of s) >>= (λ c. bound_of (sale_rows s c) >>= (λ b. nothing_more (record { value = v; interim = i; masses = m; cuts = c; bound = b })))))) (value_row value ∷ []) from_odds value answer
      (value-written value (from_odds ++ the_end) h.fraction)
      (written-then the_end (interim_of s) (λ i. masses_of s i.den >>= (λ m. cuts_of (pairs_of s) >>= (λ c. bound_of (sale_rows s c) >>= (λ b. nothing_more (record { value = value; interim = i; masses = m; cuts = c; bound = b }))))) (interim_rows s interim) from_masses interim answer
      (interim-written s interim (from_masses ++ the_end) (interim-over s answer sale shaped h))
      (written-then the_end (masses_of s interim.den) (λ m. cuts_of (pairs_of s) >>= (λ c. bound_of (sale_rows s c) >>= (λ b. nothing_more (record { value = value; interim = interim; masses = m; cuts = c; bound = b })))) (profile_rows (codes "mass") s masses (agent_count s)) from_cuts masses answer
      (masses-written s interim.den masses (from_cuts ++ the_end) (writable answer h))
      (written-then the_end (cuts_of (pairs_of s)) (λ c. bound_of (sale_rows s c) >>= (λ b. nothing_more (record { value = value; interim = interim; masses = masses; cuts = c; bound = b }))) (cut_rows cuts) last cuts answer
      (cuts-written cuts (pairs_of s) (last ++ the_end) sale.few_types h.cuts refl)
      (written-as the_end (bound_of (sale_rows s cuts)) (λ b. record { value = value; interim = interim; masses = masses; cuts = cuts; bound = b }) last bound (bound-written (sale_rows s cuts) bound the_end h.bound (rows-few cuts h.cuts) refl)))))

  -- a path begins with a pivot or an entry, and not with a cut
  no-cut : (wide : Wide) (others : Rows) → comes_next (codes "cut") (wide_rows wide ++ others) ≡ false
  no-cut wide others = by_path wide.path
    where
      by_path : (path : List Pivot) → comes_next (codes "cut") ((map pivot_row path ++ entry_row wide.entry ∷ []) ++ others) ≡ false
      by_path [] = refl
      by_path (p ∷ path) = refl

  -- the place of an answer's word
  abbrev place_of : SaleAnswer → ℕ
  place_of (Optimal answer) = 0
  place_of (TooWide cuts first second) = 1

  word-among : (a : SaleAnswer) → word_among answer_words (word_of a) ≡ Some (pos (place_of a))
  word-among (Optimal answer) = refl
  word-among (TooWide cuts first second) = refl

  inner-written : (a : SaleAnswer) → IsSaleAnswer s a → HasPlaces a → IsWrittenBefore the_end (answer_by s (place_of a)) (inner_rows s a) a
  inner-written (Optimal answer) h p = written-as the_end (best_of s) (λ b. Optimal b) (best_rows s answer) answer (best-written answer h)
  inner-written (TooWide cuts first second) h p =
      let last = again_row ∷ wide_rows second in
      let paths = wide_rows first ++ last in
      written-then the_end (cuts_of (pairs_of s)) (λ c. wide_of >>= (λ one. read_record (codes "again") [] >>= (λ _. wide_of >>= (λ two. nothing_more (TooWide c one two))))) (cut_rows cuts) paths cuts (TooWide cuts first second)
      (cuts-written cuts (pairs_of s) (paths ++ the_end) sale.few_types h.0 (ap (comes_next (codes "cut")) (append_assoc (wide_rows first) last the_end) ∙ no-cut first (last ++ the_end)))
      (written-then the_end wide_of (λ one. read_record (codes "again") [] >>= (λ _. wide_of >>= (λ two. nothing_more (TooWide cuts one two)))) (wide_rows first) last first (TooWide cuts first second)
      (wide-written first (last ++ the_end) h.1 p.0)
      (written-then the_end (read_record (codes "again") []) (λ _. wide_of >>= (λ two. nothing_more (TooWide cuts first two))) (again_row ∷ []) (wide_rows second) [] (TooWide cuts first second)
      (written-record (wide_rows second ++ the_end) (codes "again") [] [] [] holds-none)
      (written-as the_end wide_of (λ two. TooWide cuts first two) (wide_rows second) second (wide-written second the_end h.2 p.1))))

  whole-written : (a : SaleAnswer) → IsSaleAnswer s a → HasPlaces a → IsWrittenBefore [] (whole_answer s) (answer_rows s a) a
  whole-written a h p =
      let head : Head = record { version = One; word = place_of a } in
      written-then [] (first_of (codes "asym") answer_words) (λ found. answer_by s found.word >>= (λ answer. read_end >>= (λ _. nothing_more answer)))
      (first_row One (codes "asym") (word_of a) ∷ []) (inner_rows s a ++ the_end) head a
      (first-written One (codes "asym") (word_of a) answer_words (place_of a) ((inner_rows s a ++ the_end) ++ []) (word-among a) refl)
      (written-then [] (answer_by s (place_of a)) (λ found. read_end >>= (λ _. nothing_more found)) (inner_rows s a) the_end a a
      (inner-written a h p) (written-as [] read_end (λ _. a) the_end tt end-written))

  -- ---- the text

  bound-some : (rows : ℕ) (bound : Bound) → All IsSome (bound_rows rows bound)
  bound-some rows bound = All-cons IsSome (number_row (codes "bound") (bound.den ∷ [])) (up_to rows (λ r. row_unless_zero r (both_row bound r))) (omega arith) (rows-some rows (both_row bound))

  best-some : (answer : AsymAnswer) → All IsSome (best_rows s answer)
  best-some answer =
      let last = bound_rows (sale_rows s answer.cuts) answer.bound in
      let from_cuts = cut_rows answer.cuts ++ last in
      let masses = profile_rows (codes "mass") s answer.masses (agent_count s) in
      let odds = agent_rows (codes "odds") s answer.interim.odds in
      let pays = agent_rows (codes "pays") s answer.interim.pays in
      All-cons IsSome (value_row answer.value) (interim_rows s answer.interim ++ (masses ++ from_cuts)) (omega arith)
      (All-append IsSome (interim_rows s answer.interim) (masses ++ from_cuts)
      (All-cons IsSome (number_row (codes "interim") (answer.interim.den ∷ [])) (odds ++ pays) (omega arith) (All-append IsSome odds pays (agents-some (codes "odds") s answer.interim.odds) (agents-some (codes "pays") s answer.interim.pays)))
      (All-append IsSome masses from_cuts (masses-some s answer.masses) (All-append IsSome (cut_rows answer.cuts) last (cuts-some answer.cuts) (bound-some (sale_rows s answer.cuts) answer.bound))))

  inner-some : (a : SaleAnswer) → All IsSome (inner_rows s a)
  inner-some (Optimal answer) = best-some answer
  inner-some (TooWide cuts first second) =
      All-append IsSome (cut_rows cuts) (wide_rows first ++ again_row ∷ wide_rows second) (cuts-some cuts)
      (All-append IsSome (wide_rows first) (again_row ∷ wide_rows second) (wide-some first) (All-cons IsSome again_row (wide_rows second) (omega arith) (wide-some second)))

  answer-read_back : (a : SaleAnswer) → IsReadBack (answer_rows s a)
  answer-read_back a = record {
    fields = All-cons IsSome (first_row One (codes "asym") (word_of a)) (inner_rows s a ++ the_end) (omega arith)
        (All-append IsSome (inner_rows s a) the_end (inner-some a) (All-cons IsSome end_row [] (omega arith) (All-nil IsSome)));
    no_mark = λ e. first_byte e;
  }
    where
      first_byte : ◌≡◌ {A = ℕ} 97 239 → ⊥
      first_byte e = omega arith

  pub sale-reads_back : (a : SaleAnswer) → IsSaleAnswer s a → HasPlaces a → sale_answer_of s (text_of_sale s a) ≡ Ok a
  sale-reads_back a h p =
      ap (λ (l : Rows). answered (whole_answer s record { read = 0; left = l })) (records_of-text (answer_rows s a) (answer-read_back a) ∙ sym (append-nil (answer_rows s a)))
      ∙ ap answered ((whole-written a h p).read 0)
