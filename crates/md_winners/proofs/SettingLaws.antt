-- The general setting of an auction of several units: its sizes, weights, utilities and values. Nothing above opens the setting.
use Rattle.std.proofs.Common.{◌≡◌, ℕ, zero, suc, ◌+◌, ◌-◌, ◌<◌, ◌≤◌, ℤ, pos, ◌+ℤ◌, ◌-ℤ◌, ◌*ℤ◌, Bool, true, false, if◌then◌else◌, List, [], ◌∷◌, map, length, get_or, sym, ap, ap₂, ◌∙◌, refl, arith}
use Rattle.std.specs.Prelude.{slice_index, replicate}
use Rattle.std.proofs.lemmas.Int.{ints}
use lib.IntN.{*ℤ_comm}
use Rattle.std.proofs.lemmas.List.{length-map, get_or-map}
use Rattle.md_math.specs.Lists.{number_at}
use Rattle.md_math.specs.Sums.{sum_to}
use Rattle.md_math.proofs.Ring.{linear, ring, *ℤ-zero}
use Rattle.md_math.proofs.SumLaws.{sum_to-same, sum_to-sub, sum_to-*ℤ}
use Rattle.md_space.specs.Profiles.{rank_of}
use Rattle.md_setting.specs.declared.kinds.Truth.TheVariants.{Bayes}
use Rattle.md_setting.specs.declared.kinds.Rational.TheVariants.{Interim}
use Rattle.md_setting.specs.Setting.{Agent}
use Rattle.md_setting.specs.Meaning.{nobody, agent_at, agent_count, outcome_count, sizes_of, type_weights, weight_of, utilities_by, utility_of, outside_of, value_of}
use Rattle.md_setting.specs.Auction.{SymmetricAuction, value_count}
use Rattle.md_setting.specs.General.{bidders_from, general_of}
use Rattle.md_setting.proofs.GeneralLaws.{HasValues, sizes_of-general, agent_at-general, outside_of-general}
use Rattle.md_setting.proofs.IndependentLaws.{types_of}
use Rattle.md_border.specs.Worth.{surplus_of}
use Rattle.md_winners.specs.Sets.{holds, size, sets_of, set_count, set_at}
use Rattle.md_winners.proofs.SetLaws.{length-set_at, size-set_at, size-sum_to}
use Rattle.md_winners.specs.Setting.{winner_utilities, winner_of, winners_from, set_name, kept_value, units_of}

-- ---- what the setting asks for

pub units-truth : (a : SymmetricAuction) (units : ℕ) → (units_of a units).truth ≡ Bayes
unfolding units_of
units-truth a units = refl

pub units-rational : (a : SymmetricAuction) (units : ℕ) → (units_of a units).rational ≡ Interim
unfolding units_of
units-rational a units = refl

pub units-payments : (a : SymmetricAuction) (units : ℕ) → (units_of a units).payments ≡ true
unfolding units_of
units-payments a units = refl

pub units-no_deficit : (a : SymmetricAuction) (units : ℕ) → (units_of a units).no_deficit ≡ false
unfolding units_of
units-no_deficit a units = refl

pub units-revenue : (a : SymmetricAuction) (units : ℕ) → (units_of a units).revenue ≡ a.revenue
unfolding units_of
units-revenue a units = refl

pub units-welfare : (a : SymmetricAuction) (units : ℕ) → (units_of a units).welfare ≡ a.welfare
unfolding units_of
units-welfare a units = refl

-- ---- sizes

length-winners_from : (a : SymmetricAuction) (units i n : ℕ) → length (winners_from a units i n) ≡ n
length-winners_from a units i zero = refl
length-winners_from a units i (suc n) = ap suc (length-winners_from a units (suc i) n)

get_or-winners_from : (a : SymmetricAuction) (units i n k : ℕ) → k < n → get_or (winners_from a units i n) k nobody ≡ winner_of a units (i + k)
get_or-winners_from a units i zero k h = absurd (omega (arith, h))
get_or-winners_from a units i (suc n) zero h = ap (winner_of a units) (let e : i ≡ i + zero = omega arith in e)
get_or-winners_from a units i (suc n) (suc k) h =
    get_or-winners_from a units (suc i) n k (omega (arith, h)) ∙ ap (winner_of a units) (let e : suc i + k ≡ i + suc k = omega arith in e)

types_of-winners_from : (a : SymmetricAuction) (units i n : ℕ) → types_of (winners_from a units i n) ≡ replicate n (value_count a)
types_of-winners_from a units i zero = refl
types_of-winners_from a units i (suc n) = ap₂ (λ x xs. x ∷ xs) (length-map a.values _) (types_of-winners_from a units (suc i) n)

pub agent_count-units : (a : SymmetricAuction) (units : ℕ) → agent_count (units_of a units) ≡ a.bidders
unfolding units_of
agent_count-units a units = length-winners_from a units 0 a.bidders

pub outcome_count-units : (a : SymmetricAuction) (units : ℕ) → outcome_count (units_of a units) ≡ set_count a.bidders units
unfolding units_of
outcome_count-units a units = length-map (sets_of a.bidders units) set_name

sizes-replicate : (a : SymmetricAuction) (units : ℕ) → sizes_of (units_of a units) ≡ replicate a.bidders (value_count a)
unfolding units_of
sizes-replicate a units = types_of-winners_from a units 0 a.bidders

pub sizes_of-units : (a : SymmetricAuction) (units : ℕ) → sizes_of (units_of a units) ≡ sizes_of (general_of a)
sizes_of-units a units = sizes-replicate a units ∙ sym (sizes_of-general a)

agent_at-units : (a : SymmetricAuction) (units i : ℕ) → i < a.bidders → agent_at (units_of a units) i ≡ winner_of a units i
unfolding units_of
agent_at-units a units i h = get_or-winners_from a units 0 a.bidders i h ∙ ap (winner_of a units) (let e : 0 + i ≡ i = omega arith in e)

-- ---- weights

-- a bidder's values weigh what they weigh in the sale of one item
type_weights-winners : (a : SymmetricAuction) (units i n : ℕ) (t : List ℕ) → type_weights (winners_from a units i n) t ≡ type_weights (bidders_from a i n) t
type_weights-winners a units i zero t = refl
type_weights-winners a units i (suc n) [] = refl
type_weights-winners a units i (suc n) (v ∷ t) = ap (λ z. number_at (map pos a.weights) v *ℤ z) (type_weights-winners a units (suc i) n t)

pub weight_of-units : (a : SymmetricAuction) (units : ℕ) (t : List ℕ) → weight_of (units_of a units) t ≡ weight_of (general_of a) t
unfolding units_of general_of
weight_of-units a units t = type_weights-winners a units 0 a.bidders t

-- ---- utilities

-- a bidder has its value of a set that holds it, and nothing of the others
pub utility_of-units : (a : SymmetricAuction) (units i : ℕ) (t : List ℕ) (o : ℕ) → i < a.bidders → slice_index t i < value_count a → o < set_count a.bidders units
    → utility_of (units_of a units) i t o ≡ (if holds (set_at a.bidders units o) i then number_at a.values (slice_index t i) else pos 0)
utility_of-units a units i t o h k l =
    ap (λ (b : Agent). number_at (utilities_by b.at b.utility (rank_of (sizes_of (units_of a units)) t) (slice_index t i)) o) (agent_at-units a units i h)
    ∙ ap (λ row. number_at row o) (get_or-map (winner_utilities (sets_of a.bidders units) i) a.values (slice_index t i) (pos 0) [] k)
    ∙ get_or-map (λ set. if holds set i then number_at a.values (slice_index t i) else pos 0) (sets_of a.bidders units) o [] (pos 0) l

pub outside_of-units : (a : SymmetricAuction) (units i v : ℕ) → i < a.bidders → outside_of (units_of a units) i v ≡ pos 0
outside_of-units a units i v h =
    ap (λ (b : Agent). number_at b.outside v) (agent_at-units a units i h)
    ∙ sym (ap (λ (b : Agent). number_at b.outside v) (agent_at-general a i h))
    ∙ outside_of-general a i v h

-- ---- what outcomes are worth to the designer

values-units : (a : SymmetricAuction) (units o : ℕ) → o < set_count a.bidders units → number_at (units_of a units).values o ≡ kept_value a units (set_at a.bidders units o)
unfolding units_of
values-units a units o l = get_or-map (kept_value a units) (sets_of a.bidders units) o [] (pos 0) l

-- the units that are left are kept, and each winner has its value
pub value_of-units : (a : SymmetricAuction) (units : ℕ) (t : List ℕ) (o : ℕ) → HasValues a t → o < set_count a.bidders units
    → value_of (units_of a units) t o
    ≡ a.keep *ℤ pos (units - size (set_at a.bidders units o))
    +ℤ a.welfare *ℤ sum_to a.bidders (λ i. if holds (set_at a.bidders units o) i then number_at a.values (slice_index t i) else pos 0)
value_of-units a units t o h l =
    let s = units_of a units in
    ap₂ (λ w n. number_at s.values o +ℤ w *ℤ sum_to n (λ i. utility_of s i t o)) (units-welfare a units) (agent_count-units a units)
    ∙ ap₂ (λ x y. x +ℤ a.welfare *ℤ y) (values-units a units o l) (sum_to-same a.bidders _ _ (λ i b. utility_of-units a units i t o b (h.value i b) l))

-- all units kept, and what each winner adds to that
pub value-by_surplus : (a : SymmetricAuction) (units : ℕ) (t : List ℕ) (o : ℕ) → HasValues a t → o < set_count a.bidders units
    → value_of (units_of a units) t o ≡ a.keep *ℤ pos units +ℤ sum_to a.bidders (λ i. if holds (set_at a.bidders units o) i then surplus_of a (slice_index t i) else pos 0)
value-by_surplus a units t o values l =
    let n = a.bidders in
    let set = set_at n units o in
    let have = sum_to n (λ i. if holds set i then number_at a.values (slice_index t i) else pos 0) in
    let given = sum_to n (λ i. if holds set i then pos 1 else pos 0) in
    let left : pos (units - size set) ≡ pos units -ℤ given =
    less units (size set) (size-set_at n units o l) ∙ ap (λ z. pos units -ℤ z) (size-sum_to n set (length-set_at n units o l)) in
    let more : sum_to n (λ i. if holds set i then surplus_of a (slice_index t i) else pos 0) ≡ a.welfare *ℤ have -ℤ a.keep *ℤ given =
    sum_to-same n _ (λ i. a.welfare *ℤ (if holds set i then number_at a.values (slice_index t i) else pos 0) -ℤ a.keep *ℤ (if holds set i then pos 1 else pos 0))
    (λ i b. one (holds set i) a.welfare (number_at a.values (slice_index t i)) a.keep)
    ∙ sum_to-sub n (λ i. a.welfare *ℤ (if holds set i then number_at a.values (slice_index t i) else pos 0)) (λ i. a.keep *ℤ (if holds set i then pos 1 else pos 0))
    ∙ ap₂ (λ x y. x -ℤ y) (sum_to-*ℤ n a.welfare (λ i. if holds set i then number_at a.values (slice_index t i) else pos 0)) (sum_to-*ℤ n a.keep (λ i. if holds set i then pos 1 else pos 0)) in
    value_of-units a units t o values l
    ∙ ap (λ z. a.keep *ℤ z +ℤ a.welfare *ℤ have) left
    ∙ parts a.keep (pos units) given (a.welfare *ℤ have)
    ∙ ap (λ z. a.keep *ℤ pos units +ℤ z) (sym more)
  where
    less : (m k : ℕ) → k ≤ m → pos (m - k) ≡ pos m -ℤ pos k
    less m k h = omega (arith, ints, h)

    one : (h : Bool) (w v k : ℤ) → (if h then w *ℤ v -ℤ k else pos 0) ≡ w *ℤ (if h then v else pos 0) -ℤ k *ℤ (if h then pos 1 else pos 0)
    one true w v k = (let e : k *ℤ pos 1 ≡ k = *ℤ_comm k (pos 1) ∙ simp ring in omega (arith, linear, e))
    one false w v k = omega (arith, linear, *ℤ-zero w, *ℤ-zero k)

    parts : (k u g w : ℤ) → k *ℤ (u -ℤ g) +ℤ w ≡ k *ℤ u +ℤ (w -ℤ k *ℤ g)
    parts k u g w = simp ring (omega (arith, linear))
