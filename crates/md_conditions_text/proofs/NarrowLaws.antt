-- The tests of conditions say what their program demands.
use Rattle.std.proofs.Common.{◌≡◌, ℕ, zero, suc, ◌+◌, ◌*◌, ◌<◌, ◌≤◌, ◌^◌, ℤ, ◌*ℤ◌, unsigned_abs, nat_le, Bool, true, false, ◌&&◌, List, [], ◌∷◌, ◌++◌, length, get_or, take, drop, All, refl, sym, ap, ap₂, ◌∙◌, arith, length-append}
use Rattle.std.specs.Prelude.{flat_map}
use Rattle.std.specs.List.{list_all}
use Rattle.std.proofs.lemmas.Bool.Decides.{nat_tests}
use Rattle.std.proofs.lemmas.List.{append-nil, length-map, take-append-drop, take_more}
use Rattle.std.proofs.lemmas.List.Concat.{flat_map-append}
use Rattle.std.proofs.lemmas.List.Elements.{All-nil, All-cons, All-head, All-tail, All-append}
use Rattle.std.proofs.lemmas.List.Folds.{list_all-append}
use Rattle.md_math.specs.Lists.{up_to}
use Rattle.md_math.specs.Sizes.{IsWithin}
use Rattle.md_math.proofs.Builders.{up_to-more}
use Rattle.md_space.specs.Profiles.{profile_count}
use Rattle.md_setting.specs.Setting.{GeneralSetting}
use Rattle.md_setting.specs.Meaning.{agent_count, outcome_count, sizes_of}
use Rattle.md_setting.proofs.TestLaws.{all_below-all, all_below-at, and_both, and_left, and_right, le_of_test}
use Rattle.md_mech.specs.Rows.{conditions_of as setting_conditions}
use Rattle.md_rows.specs.ProgramOf.{forms_of}
use Rattle.md_require.specs.declared.condition.Condition.{Condition}
use Rattle.md_require.specs.declared.condition.Measured.{Measured}
use Rattle.md_require.specs.Amounts.{Amount, amounts_of, whole_of}
use Rattle.md_require.specs.Limits.{AreConditionsFor, IsConditionFor, IsNarrowFor}
use Rattle.md_require.specs.Named.{amounts_at}
use Rattle.md_require.specs.Parts.{IsNarrow, chance_part, pay_part}
use Rattle.md_require.specs.RequireProgram.{amount_form, condition_forms}
use Rattle.md_require.specs.RequireQuestion.{require_rows}
use Rattle.md_require.proofs.ConditionRows.{amounts-by_rank}
use Rattle.md_conditions_text.specs.Known.{IsTold}
use Rattle.md_conditions_text.specs.Narrow.{are_few, has_narrow_chances, has_narrow_parts, has_narrow_pays, has_narrow_row, has_narrow_rows, is_narrow}

-- ---- numbers

within-known : (z : ℤ) → is_narrow z ≡ true → IsWithin (2 ^ 44) z
within-known z h = record { within = le_of_test (unsigned_abs z) (2 ^ 44) h }

test_of_le : (m n : ℕ) → m ≤ n → nat_le m n ≡ true
test_of_le m n l = grind (arith, nat_tests)

within-test : (z : ℤ) → IsWithin (2 ^ 44) z → is_narrow z ≡ true
within-test z h = test_of_le (unsigned_abs z) (2 ^ 44) h.within

-- the test of a product, as the code makes it
pub narrow-as : (D P Z d p z : ℤ) (b v : Bool) → D ≡ d → P ≡ p → z ≡ D *ℤ P → Z ≡ z → b ≡ is_narrow Z → b ≡ v → is_narrow (d *ℤ p) ≡ v
narrow-as D P Z d p z b v eD eP ez eZ eb ev = sym (ap is_narrow (eZ ∙ ez ∙ ap₂ (λ (x y : ℤ). x *ℤ y) eD eP)) ∙ sym eb ∙ ev

-- ---- the row of an amount

module _ (s : GeneralSetting) (c : Condition) (amount : Amount) where
  abbrev chances : ℕ → Bool
  chances r = has_narrow_chances s c.den amount r

  abbrev pays : ℕ → Bool
  pays r = has_narrow_pays s c.den amount r

  abbrev both : ℕ → Bool
  both r = chances r && pays r

  parts-known : has_narrow_parts s c.den amount ≡ true → IsNarrow s c.den amount
  parts-known h = record {
    chances = λ r o b l.
        within-known (c.den *ℤ chance_part s amount r o)
        (all_below-at (outcome_count s) o (λ k. is_narrow (c.den *ℤ chance_part s amount r k)) (and_left (chances r) (pays r) (all_below-at (profile_count (sizes_of s)) r both h b)) l);
    pays = λ r i b l.
        within-known (c.den *ℤ pay_part s amount r i)
        (all_below-at (agent_count s) i (λ k. is_narrow (c.den *ℤ pay_part s amount r k)) (and_right (chances r) (pays r) (all_below-at (profile_count (sizes_of s)) r both h b)) l);
  }

  parts-test : IsNarrow s c.den amount → has_narrow_parts s c.den amount ≡ true
  parts-test h =
      all_below-all (profile_count (sizes_of s)) both
      (λ r b. and_both (chances r) (pays r)
      (all_below-all (outcome_count s) (λ k. is_narrow (c.den *ℤ chance_part s amount r k)) (λ o l. within-test (c.den *ℤ chance_part s amount r o) (h.chances r o b l)))
      (all_below-all (agent_count s) (λ k. is_narrow (c.den *ℤ pay_part s amount r k)) (λ i l. within-test (c.den *ℤ pay_part s amount r i) (h.pays r i b l))))

  row-known : has_narrow_row s c amount ≡ true → IsNarrowFor s c amount
  row-known h = record {
    parts = parts-known (and_left (has_narrow_parts s c.den amount) (is_narrow (c.num *ℤ whole_of s amount)) h);
    bound = within-known (c.num *ℤ whole_of s amount) (and_right (has_narrow_parts s c.den amount) (is_narrow (c.num *ℤ whole_of s amount)) h);
  }

  row-test : IsNarrowFor s c amount → has_narrow_row s c amount ≡ true
  row-test h = and_both (has_narrow_parts s c.den amount) (is_narrow (c.num *ℤ whole_of s amount)) (parts-test h.parts) (within-test (c.num *ℤ whole_of s amount) h.bound)

-- ---- all of them

rows-known : (s : GeneralSetting) (c : Condition) (amounts : List Amount) → list_all (has_narrow_row s c) amounts ≡ true → All (IsNarrowFor s c) amounts
rows-known s c [] h = All-nil (IsNarrowFor s c)
rows-known s c (amount ∷ amounts) h =
    All-cons (IsNarrowFor s c) amount amounts (row-known s c amount (and_left (has_narrow_row s c amount) (list_all (has_narrow_row s c) amounts) h))
    (rows-known s c amounts (and_right (has_narrow_row s c amount) (list_all (has_narrow_row s c) amounts) h))

rows-test : (s : GeneralSetting) (c : Condition) (amounts : List Amount) → All (IsNarrowFor s c) amounts → list_all (has_narrow_row s c) amounts ≡ true
rows-test s c [] h = refl
rows-test s c (amount ∷ amounts) h =
    and_both (has_narrow_row s c amount) (list_all (has_narrow_row s c) amounts) (row-test s c amount (All-head (IsNarrowFor s c) amount amounts h)) (rows-test s c amounts (All-tail (IsNarrowFor s c) amount amounts h))

pub condition-known : (s : GeneralSetting) (c : Condition) → IsTold s c → has_narrow_rows s c ≡ true → IsConditionFor s c
condition-known s c told h = record {
  place = told.place;
  positive = told.positive;
  num_size = told.num_size;
  den_size = told.den_size;
  narrow = rows-known s c (amounts_of s c.measured) h;
}

pub condition-test : (s : GeneralSetting) (c : Condition) → IsConditionFor s c → has_narrow_rows s c ≡ true
condition-test s c h = rows-test s c (amounts_of s c.measured) h.narrow

-- ---- rank by rank

all-more : {X : Type 0} → (p : X → Bool) (n : ℕ) (f : ℕ → List X) → list_all p (up_to (n + 1) f) ≡ (list_all p (up_to n f) && list_all p (f n))
all-more {X} p n f = ap (list_all p) (up_to-more n f) ∙ list_all-append p (up_to n f) (f n)

pub ranks-none : {X : Type 0} → (p : X → Bool) (f : ℕ → List X) → list_all p (up_to 0 f) ≡ true
ranks-none {X} p f = refl

pub ranks-more : {X : Type 0} → (p : X → Bool) (n : ℕ) (f : ℕ → List X) → list_all p (up_to n f) ≡ true → list_all p (f n) ≡ true → list_all p (up_to (n + 1) f) ≡ true
ranks-more {X} p n f before here = all-more p n f ∙ and_both (list_all p (up_to n f)) (list_all p (f n)) before here

-- where one fails, all do
kept-false : {X : Type 0} → (p : X → Bool) (n : ℕ) (f : ℕ → List X) (more : ℕ) → list_all p (up_to n f) ≡ false → list_all p (up_to (n + more) f) ≡ false
kept-false {X} p n f zero h = let e : n + 0 ≡ n = omega arith in ap (λ k. list_all p (up_to k f)) e ∙ h
kept-false {X} p n f (suc more) h =
    let e : n + suc more ≡ n + more + 1 = omega arith in
    ap (λ k. list_all p (up_to k f)) e ∙ all-more p (n + more) f ∙ left (list_all p (up_to (n + more) f)) (list_all p (f (n + more))) (kept-false p n f more h)
  where
    left : (a b : Bool) → a ≡ false → (a && b) ≡ false
    left a b e = rw e refl

pub ranks-fail : {X : Type 0} → (p : X → Bool) (k n : ℕ) (f : ℕ → List X) → k < n → list_all p (f k) ≡ false → list_all p (up_to n f) ≡ false
ranks-fail {X} p k n f l h =
    let (more, e) = rest k n l in
    ap (λ m. list_all p (up_to m f)) e ∙ kept-false p (k + 1) f more (all-more p k f ∙ right (list_all p (up_to k f)) (list_all p (f k)) h)
  where
    right : (a b : Bool) → b ≡ false → (a && b) ≡ false
    right true b e = e
    right false b e = refl

    rest : (k n : ℕ) → k < n → (more : ℕ) × (n ≡ k + 1 + more)
    rest k zero l = absurd (omega arith)
    rest zero (suc n) l = (n, omega arith)
    rest (suc k) (suc n) l = let (more, e) = rest k n (omega arith) in (more, omega (arith, e))

pub rows-by_rank : (s : GeneralSetting) (c : Condition) → 0 < profile_count (sizes_of s) → has_narrow_rows s c ≡ list_all (has_narrow_row s c) (up_to (profile_count (sizes_of s)) (amounts_at s c.measured))
rows-by_rank s c some = ap (list_all (has_narrow_row s c)) (amounts-by_rank s c.measured some)

-- ---- how many rows there are

pub count-more : {X : Type 0} → (n : ℕ) (f : ℕ → List X) → length (up_to (n + 1) f) ≡ length (up_to n f) + length (f n)
count-more {X} n f = ap length (up_to-more n f) ∙ length-append (up_to n f) (f n)

pub count-by_rank : (s : GeneralSetting) (m : Measured) → 0 < profile_count (sizes_of s) → length (amounts_of s m) ≡ length (up_to (profile_count (sizes_of s)) (amounts_at s m))
count-by_rank s m some = ap length (amounts-by_rank s m some)

pub rows-more : (s : GeneralSetting) (cs : List Condition) (c : Condition) → require_rows s (cs ++ c ∷ []) ≡ require_rows s cs + length (amounts_of s c.measured)
rows-more s cs c =
    let own = forms_of s (setting_conditions s) in
    let front = flat_map (condition_forms s) cs in
    let one : flat_map (condition_forms s) (c ∷ []) ≡ condition_forms s c = append-nil (condition_forms s c) in
    let all : flat_map (condition_forms s) (cs ++ c ∷ []) ≡ front ++ condition_forms s c = flat_map-append (condition_forms s) cs (c ∷ []) ∙ ap (λ fs. front ++ fs) one in
    let count : length (condition_forms s c) ≡ length (amounts_of s c.measured) = length-map (amounts_of s c.measured) (amount_form s c) in
    let whole : require_rows s (cs ++ c ∷ []) ≡ length (own ++ (front ++ condition_forms s c)) = ap (λ fs. length (own ++ fs)) all in
    omega (arith, whole, length-append own (front ++ condition_forms s c), length-append front (condition_forms s c), length-append own front, count)

pub front-rows : (s : GeneralSetting) (xs ys : List Condition) → require_rows s (xs ++ ys) ≡ require_rows s xs + length (flat_map (condition_forms s) ys)
front-rows s xs ys =
    let own = forms_of s (setting_conditions s) in
    let front = flat_map (condition_forms s) xs in
    let back = flat_map (condition_forms s) ys in
    let whole : require_rows s (xs ++ ys) ≡ length (own ++ (front ++ back)) = ap (λ fs. length (own ++ fs)) (flat_map-append (condition_forms s) xs ys) in
    omega (arith, whole, length-append own (front ++ back), length-append front back, length-append own front)

pub taken-few : (s : GeneralSetting) (cs : List Condition) (i : ℕ) → require_rows s cs ≤ 4096 → require_rows s (take i cs) ≤ 4096
taken-few s cs i few = omega (arith, few, ap (λ (l : List Condition). require_rows s l) (take-append-drop i cs), front-rows s (take i cs) (drop i cs))

pub taken-more : (s : GeneralSetting) (cs : List Condition) (i : ℕ) (d : Condition) (rows count : ℕ) → i < length cs → rows ≡ require_rows s (take i cs) → count ≡ length (amounts_of s (get_or cs i d).measured) → rows + count ≡ require_rows s (take (i + 1) cs)
taken-more s cs i d rows count l before one =
    let c = get_or cs i d in
    let whole : require_rows s (take (i + 1) cs) ≡ require_rows s (take i cs ++ c ∷ []) = ap (λ (l : List Condition). require_rows s l) (take_more cs i d l) in
    omega (arith, whole, rows-more s (take i cs) c, before, one)

-- ---- all conditions

pub few-known : (s : GeneralSetting) (cs : List Condition) → are_few s cs ≡ true → (length cs ≤ 1000) × (require_rows s cs ≤ 4096)
few-known s cs h =
    (le_of_test (length cs) 1000 (and_left (nat_le (length cs) 1000) (nat_le (require_rows s cs) 4096) h), le_of_test (require_rows s cs) 4096 (and_right (nat_le (length cs) 1000) (nat_le (require_rows s cs) 4096) h))

pub few-test : (s : GeneralSetting) (cs : List Condition) → length cs ≤ 1000 → require_rows s cs ≤ 4096 → are_few s cs ≡ true
few-test s cs l m = and_both (nat_le (length cs) 1000) (nat_le (require_rows s cs) 4096) (test_of_le (length cs) 1000 l) (test_of_le (require_rows s cs) 4096 m)

pub added-few : (s : GeneralSetting) (cs : List Condition) (c : Condition) (count rows : ℕ) → count ≡ length cs + 1 → rows ≡ require_rows s (cs ++ c ∷ []) → (nat_le count 1000 && nat_le rows 4096) ≡ true → are_few s (cs ++ c ∷ []) ≡ true
added-few s cs c count rows counted summed h =
    let long : length (cs ++ c ∷ []) ≡ count = length-append cs (c ∷ []) ∙ sym counted in
    ap₂ (λ (a b : ℕ). nat_le a 1000 && nat_le b 4096) long (sym summed) ∙ h

pub conditions-more : (s : GeneralSetting) (cs : List Condition) (c : Condition) → AreConditionsFor s cs → IsConditionFor s c → are_few s (cs ++ c ∷ []) ≡ true → AreConditionsFor s (cs ++ c ∷ [])
conditions-more s cs c before one few =
    let known = few-known s (cs ++ c ∷ []) few in
    record { each = All-append (IsConditionFor s) cs (c ∷ []) before.each (All-cons (IsConditionFor s) c [] one (All-nil (IsConditionFor s))); few = known.0; few_rows = known.1 }
