-- The rows of the program of a sale, one by one: what a point that meets them keeps, and what has to be shown of each.
use Rattle.std.proofs.Common.{◌≡◌, ◌≢◌, ℕ, ◌<◌, ℤ, pos, ◌-ℤ◌, ◌*ℤ◌, ◌≤ℤ◌, neg_ℤ, List, [], ◌∷◌, ◌++◌, map, All, ap, inl, inr, ne_eqb, arith}
use Rattle.std.specs.Prelude.{slice_index}
use Rattle.std.proofs.lemmas.Bool.{cases_eq}
use Rattle.std.proofs.lemmas.List.Elements.{All-append, All-map}
use Rattle.md_math.proofs.Builders.{All-left, All-right, All-up_to, All-up_to_at}
use Rattle.md_math.proofs.Ring.{linear, *ℤ-zero}
use Rattle.md_setting.specs.Setting.{GeneralSetting}
use Rattle.md_setting.specs.Meaning.{agent_count, sizes_of}
use Rattle.md_mech.specs.Rows.{by_agent, by_type, by_report}
use Rattle.md_mech.proofs.RowLaws.{all-one, one-all, all-by_report, by_report-at}
use Rattle.md_lp.specs.Program.{Program}
use Rattle.md_lp.specs.Point.{IsPoint, Meets}
use Rattle.md_forms.specs.Forms.{Holds}
use Rattle.md_asym_sale.specs.Forms.{utility_in}
use Rattle.md_asym_sale.specs.ProgramOf.{form_of, IsSaleProgram}
use Rattle.md_asym_sale.specs.Sides.{demands_in, right_of}
use Rattle.md_asym_sale.proofs.BuiltLaws.{all-of, meets-conditions}

-- ---- conditions of any kind, in the order of the program's

abbrev truths_by : {X : Type 0} → GeneralSetting → (ℕ → ℕ → ℕ → X) → List X
truths_by s truth = by_agent s (λ i. by_type s i (λ a. by_report (slice_index (sizes_of s) i) a (truth i a)))

abbrev rationals_by : {X : Type 0} → GeneralSetting → (ℕ → ℕ → X) → List X
rationals_by s rational = by_agent s (λ i. by_type s i (λ a. rational i a ∷ []))

-- what holds of each condition holds of all
all-listed : {X : Type 0} (P : X → Type 0) (s : GeneralSetting) (truth : ℕ → ℕ → ℕ → X) (rational : ℕ → ℕ → X) (cut : ℕ → X) (cuts : List ℕ)
    → ((i a b : ℕ) → i < agent_count s → a < slice_index (sizes_of s) i → b < slice_index (sizes_of s) i → P (truth i a b))
    → ((i a : ℕ) → i < agent_count s → a < slice_index (sizes_of s) i → P (rational i a)) → All (λ set. P (cut set)) cuts
    → All P ((truths_by s truth ++ rationals_by s rational) ++ map cut cuts)
all-listed P s truth rational cut cuts truths rationals each =
    All-append P (truths_by s truth ++ rationals_by s rational) (map cut cuts)
    (All-append P (truths_by s truth) (rationals_by s rational)
    (All-up_to P (agent_count s) (λ i. by_type s i (λ a. by_report (slice_index (sizes_of s) i) a (truth i a)))
    (λ i h. All-up_to P (slice_index (sizes_of s) i) (λ a. by_report (slice_index (sizes_of s) i) a (truth i a))
    (λ a l. all-by_report P (slice_index (sizes_of s) i) a (truth i a) (λ b k. truths i a b h l k))))
    (All-up_to P (agent_count s) (λ i. by_type s i (λ a. rational i a ∷ []))
    (λ i h. All-up_to P (slice_index (sizes_of s) i) (λ a. rational i a ∷ []) (λ a l. all-one P (rational i a) (rationals i a h l)))))
    (All-map P cut cuts each)

-- what holds of all holds of each
record EachHolds {X : Type 0} (P : X → Type 0) (s : GeneralSetting) (truth : ℕ → ℕ → ℕ → X) (rational : ℕ → ℕ → X) (cut : ℕ → X) (cuts : List ℕ) : Type 0 where
  truths : (i a b : ℕ) → i < agent_count s → a < slice_index (sizes_of s) i → b < slice_index (sizes_of s) i → b ≢ a → P (truth i a b)
  rationals : (i a : ℕ) → i < agent_count s → a < slice_index (sizes_of s) i → P (rational i a)
  each : All (λ set. P (cut set)) cuts

each-listed : {X : Type 0} (P : X → Type 0) (s : GeneralSetting) (truth : ℕ → ℕ → ℕ → X) (rational : ℕ → ℕ → X) (cut : ℕ → X) (cuts : List ℕ)
    → All P ((truths_by s truth ++ rationals_by s rational) ++ map cut cuts) → EachHolds P s truth rational cut cuts
each-listed P s truth rational cut cuts all =
    let own = All-left P (truths_by s truth ++ rationals_by s rational) (map cut cuts) all in
    record {
      truths = λ i a b h l k d.
          by_report-at P (slice_index (sizes_of s) i) a (truth i a) b k (ne_eqb b a d)
          (All-up_to_at P (slice_index (sizes_of s) i) a (λ c. by_report (slice_index (sizes_of s) i) c (truth i c)) l
          (All-up_to_at P (agent_count s) i (λ j. by_type s j (λ c. by_report (slice_index (sizes_of s) j) c (truth j c))) h (All-left P (truths_by s truth) (rationals_by s rational) own)));
      rationals = λ i a h l.
          one-all P (rational i a)
          (All-up_to_at P (slice_index (sizes_of s) i) a (λ c. rational i c ∷ []) l
          (All-up_to_at P (agent_count s) i (λ j. by_type s j (λ c. rational j c ∷ [])) h (All-right P (truths_by s truth) (rationals_by s rational) own)));
      each = all-of P cut cuts (All-right P (truths_by s truth ++ rationals_by s rational) (map cut cuts) all);
    }

-- ---- the rows of the program

-- the conditions on truth and on taking part that a point keeps
pub record KeepsRows (s : GeneralSetting) (x : ℕ → ℤ) : Type 0 where
  pub truth : (i a b : ℕ) → i < agent_count s → a < slice_index (sizes_of s) i → b < slice_index (sizes_of s) i → utility_in s x i a b ≤ℤ utility_in s x i a a
  pub rational : (i a : ℕ) → i < agent_count s → a < slice_index (sizes_of s) i → pos 0 ≤ℤ utility_in s x i a a

same-le : (y z : ℤ) → y ≡ z → y ≤ℤ z
same-le y z e = omega (arith, linear)

less-from : (y z o : ℤ) → o ≡ pos 0 → (y -ℤ z) ≤ℤ o → y ≤ℤ z
less-from y z o e l = omega (arith, linear)

nonneg-from : (y o : ℤ) → o ≡ pos 0 → neg_ℤ y ≤ℤ o → pos 0 ≤ℤ y
nonneg-from y o e l = omega (arith, linear)

pub keeps-rows : (s : GeneralSetting) (cuts : List ℕ) (p : Program) (den : ℤ) (x : ℕ → ℤ) → IsSaleProgram s cuts p → Meets p den x → KeepsRows s x
keeps-rows s cuts p den x is meets =
    let holds = each-listed (λ c. Holds den x (form_of s c)) s _ _ _ cuts ((meets-conditions s cuts p is den x meets.point).0 meets) in
    record {
      truth = λ i a b h l k. elim (cases_eq b a) [
        | inl e ↦ same-le (utility_in s x i a b) (utility_in s x i a a) (ap (utility_in s x i a) e)
        | inr d ↦ less-from (utility_in s x i a b) (utility_in s x i a a) (den *ℤ pos 0) (*ℤ-zero den) (holds.truths i a b h l k d)
      ];
      rational = λ i a h l. nonneg-from (utility_in s x i a a) (den *ℤ pos 0) (*ℤ-zero den) (holds.rationals i a h l);
    }

-- and the cuts that it keeps
pub keeps-cuts : (s : GeneralSetting) (cuts : List ℕ) (p : Program) (den : ℤ) (x : ℕ → ℤ) → IsSaleProgram s cuts p → Meets p den x → All (λ set. demands_in s x set ≤ℤ (den *ℤ right_of s set)) cuts
keeps-cuts s cuts p den x is meets =
    let holds = each-listed (λ c. Holds den x (form_of s c)) s _ _ _ cuts ((meets-conditions s cuts p is den x meets.point).0 meets) in holds.each

to-less : (y z o : ℤ) → o ≡ pos 0 → y ≤ℤ z → (y -ℤ z) ≤ℤ o
to-less y z o e l = omega (arith, linear)

to-nonneg : (y o : ℤ) → o ≡ pos 0 → pos 0 ≤ℤ y → neg_ℤ y ≤ℤ o
to-nonneg y o e l = omega (arith, linear)

-- a point that keeps each condition and each cut meets the program
pub rows-meet : (s : GeneralSetting) (cuts : List ℕ) (p : Program) (den : ℤ) (x : ℕ → ℤ) → IsSaleProgram s cuts p → IsPoint p den x → KeepsRows s x → All (λ set. demands_in s x set ≤ℤ (den *ℤ right_of s set)) cuts → Meets p den x
rows-meet s cuts p den x is point rows cut =
    (meets-conditions s cuts p is den x point).1
    (all-listed (λ c. Holds den x (form_of s c)) s _ _ _ cuts
    (λ i a b h l k. to-less (utility_in s x i a b) (utility_in s x i a a) (den *ℤ pos 0) (*ℤ-zero den) (rows.truth i a b h l k))
    (λ i a h l. to-nonneg (utility_in s x i a a) (den *ℤ pos 0) (*ℤ-zero den) (rows.rational i a h l)) cut)
