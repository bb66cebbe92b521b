-- A mechanism is admissible exactly where no gain, no loss and no deficit shows it not to be.
use Rattle.std.proofs.Common.{◌↔◌, ℕ, ◌<◌, pos, ◌≤ℤ◌, ◌<ℤ◌, List, All, sym, ◌∙◌, subst, arith, Option, None, Some}
use Rattle.std.specs.Prelude.{slice_index_or}
use Rattle.std.proofs.lemmas.Bool.{true≢false}
use Rattle.std.proofs.lemmas.List.Elements.{All-nil, All-from_get_or}
use Rattle.md_math.proofs.Builders.{All-up_to, All-up_to_at}
use Rattle.md_math.proofs.Order.{≤ℤ_trans}
use Rattle.md_space.specs.Profiles.{profile_at, rank_of}
use Rattle.md_space.proofs.Ranks.{profile_at-IsProfile, profile_at-rank_of, rank_of-below}
use Rattle.md_setting.specs.Setting.{GeneralSetting}
use Rattle.md_setting.specs.Meaning.{agent_count, sizes_of}
use Rattle.md_setting.specs.Shaped.{IsShaped}
use Rattle.md_mech.specs.Admissible.{IsAdmissible}
use Rattle.md_mech.specs.declared.mechanism.Mechanism.{Mechanism}
use Rattle.md_mech.specs.Mechanism.{IsMechanism}
use Rattle.md_mech.specs.Rationality.{HasNoDeficit}
use Rattle.md_mech.specs.Rows.{Condition, IsKept}
use Rattle.md_mech.proofs.RowLaws.{truth-kept, kept-truth, rational-kept, kept-rational}
use Rattle.md_report.specs.declared.deficit.Deficit.{Deficit}
use Rattle.md_report.specs.declared.demand.Demand.{Demand}
use Rattle.md_report.specs.declared.demand.Demand.TheVariants.{Truthful, Willing}
use Rattle.md_report.specs.declared.report.Report.{Report}
use Rattle.md_report.specs.declared.worst.Worst.{Worst}
use Rattle.md_report.specs.Admissible.{IsNoneMissed, IsNoDeficit, MissesNothing}
use Rattle.md_report.specs.Blocks.{rows_of, all_rows}
use Rattle.md_report.specs.Deficits.{paid_at, IsDeficitOf}
use Rattle.md_report.specs.Regret.{payments_at}
use Rattle.md_report.specs.ReportOf.{AreFigures}
use Rattle.md_report.specs.Worst.{IsWorstOf, AreWorstOf}
use Rattle.md_report.proofs.BlockLaws.{all-truth, all-rational}
use Rattle.md_report.proofs.MissedLaws.{den-positive}
use Rattle.md_report.proofs.RatioLaws.{not_negative}
use Rattle.md_report.proofs.SoundLaws.{IsSound, AllSound, sound-truth, sound-rational, worst-kept}

all-sound : (s : GeneralSetting) (m : Mechanism) (demand : Demand) → pos 0 <ℤ m.den → IsShaped s → All (IsSound s m) (all_rows s demand)
all-sound s m Truthful positive shaped = subst (All (IsSound s m)) (sym (all-truth s.truth s)) (sound-truth s.truth s m positive shaped)
all-sound s m Willing positive shaped = subst (All (IsSound s m)) (sym (all-rational s.rational s)) (sound-rational s.rational s m positive shaped)

sound-of : (s : GeneralSetting) (m : Mechanism) (demand : Demand) (i : ℕ) → pos 0 <ℤ m.den → IsShaped s → i < agent_count s → AllSound s m (rows_of s demand i)
sound-of s m demand i positive shaped h = record { each = All-up_to_at (IsSound s m) (agent_count s) i (rows_of s demand) h (all-sound s m demand positive shaped) }

-- of one agent
one-kept : (s : GeneralSetting) (m : Mechanism) (rows : List Condition) (told : Option Worst) → AllSound s m rows → IsWorstOf s m rows told → IsNoneMissed told ↔ All (IsKept s m) rows
one-kept s m rows None sound none = ((λ _. subst (All (IsKept s m)) (sym none) (All-nil (IsKept s m))), (λ _. tt))
one-kept s m rows (Some worst) sound is = worst-kept s m rows worst sound is

-- of all agents
all-kept : (s : GeneralSetting) (m : Mechanism) (demand : Demand) (told : List (Option Worst)) → pos 0 <ℤ m.den → IsShaped s → AreWorstOf s m demand told
    → All IsNoneMissed told ↔ All (IsKept s m) (all_rows s demand)
all-kept s m demand told positive shaped are = (to, from)
  where
    each : (i : ℕ) → i < agent_count s → IsNoneMissed (slice_index_or told i None) ↔ All (IsKept s m) (rows_of s demand i)
    each i h = one-kept s m (rows_of s demand i) (slice_index_or told i None) (sound-of s m demand i positive shaped h) (are.each i h)

    to : All IsNoneMissed told → All (IsKept s m) (all_rows s demand)
    to none = All-up_to (IsKept s m) (agent_count s) (rows_of s demand) (λ i h. (each i h).0 (none i None (omega (arith, h, are.count))))

    from : All (IsKept s m) (all_rows s demand) → All IsNoneMissed told
    from kept = All-from_get_or IsNoneMissed told None
        (λ i h. (let b : i < agent_count s = omega (arith, h, are.count) in (each i b).1 (All-up_to_at (IsKept s m) (agent_count s) i (rows_of s demand) b kept)))

-- of the profiles
deficit-shown : (s : GeneralSetting) (m : Mechanism) (told : Option Deficit) → pos 0 <ℤ m.den → IsDeficitOf s m told → IsNoDeficit told ↔ HasNoDeficit s m
deficit-shown s m None positive off = ((λ _ on. absurd (true≢false (sym on ∙ off))), (λ _. tt))
deficit-shown s m (Some deficit) positive (on, is) =
    let sign = not_negative (paid_at s m deficit.rank) m.den deficit.payments positive is.payments in (
      λ h asked t profile.
          subst (λ u. pos 0 ≤ℤ payments_at s m u) (profile_at-rank_of (sizes_of s) t profile)
          (≤ℤ_trans (pos 0) (paid_at s m deficit.rank) (paid_at s m (rank_of (sizes_of s) t)) (sign.0 h) (is.rank.least (rank_of (sizes_of s) t) (rank_of-below (sizes_of s) t profile))),
      λ h. sign.1 (h on (profile_at (sizes_of s) deficit.rank) (profile_at-IsProfile (sizes_of s) deficit.rank is.rank.inside)),
    )

-- of any mechanism, with numbers of any size
pub admissible-shown : (s : GeneralSetting) (m : Mechanism) (report : Report) → IsMechanism s m → IsShaped s → AreFigures s m report → IsAdmissible s m ↔ MissesNothing report
admissible-shown s m report mechanism shaped is =
    let positive = den-positive m mechanism.den in
    let gains = all-kept s m Truthful report.gains.items positive shaped is.gains in
    let losses = all-kept s m Willing report.losses.items positive shaped is.losses in
    let deficit = deficit-shown s m report.deficit positive is.deficit in (
      λ admissible. record {
        gains = gains.1 (subst (All (IsKept s m)) (sym (all-truth s.truth s)) (truth-kept s.truth s m admissible.truthful));
        losses = losses.1 (subst (All (IsKept s m)) (sym (all-rational s.rational s)) (rational-kept s.rational s m admissible.rational));
        deficit = deficit.1 admissible.no_deficit;
      },
      λ none. record {
        mechanism = mechanism;
        truthful = kept-truth s.truth s m (subst (All (IsKept s m)) (all-truth s.truth s) (gains.0 none.gains));
        rational = kept-rational s.rational s m (subst (All (IsKept s m)) (all-rational s.rational s) (losses.0 none.losses));
        no_deficit = deficit.0 none.deficit;
      },
    )
