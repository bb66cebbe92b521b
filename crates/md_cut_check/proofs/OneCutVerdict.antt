-- Interim odds and payments have one verdict.
use Rattle.std.proofs.Common.{◌≡◌, ℕ, ℤ, ◌*ℤ◌, ap}
use Rattle.md_math.specs.Lists.{number_at}
use Rattle.md_math.proofs.FirstFailures.{HoldsBelow-no_failure}
use Rattle.md_lp.specs.Program.{row_count, right_at}
use Rattle.md_lp.specs.Point.{Meets, MeetsRow, row_sum}
use Rattle.md_cert.specs.Fault.{BreaksRow}
use Rattle.md_claims.specs.AuctionCertificates.{point_of}
use Rattle.md_question_check.specs.declared.verdict.Reject.TheVariants.{Value, Masses, Reduced}
use Rattle.md_question_check.specs.declared.verdict.Verdict.{Verdict}
use Rattle.md_question_check.specs.declared.verdict.Verdict.TheVariants.{Rejected}
use Rattle.md_question_check.proofs.OneVerdict.{one-place, both-of, one-judged}
use Rattle.md_cut_check.specs.CutClaims.{AddUp, BreaksCuts, CutClaim, HasMass, IsCutVerdict, IsOtherMass, MeetsCuts, certificate_of}
use Rattle.md_cut_check.proofs.CutLaws.{IsCutClaim}

module _ (q : CutClaim) (laws : IsCutClaim q) where
  -- ---- the conditions by themselves

  mass-one : (j k : ℕ) (f g x y : ℤ) → IsOtherMass q j f x → IsOtherMass q k g y → Masses j f x ≡ Masses k g y
  mass-one j k f g x y h t = one-place q.places (HasMass q) q.mass q.demand Masses j k f g x y h.first t.first h.sum_is t.sum_is h.demand_is t.demand_is

  mass-none : (k : ℕ) (f x : ℤ) → IsOtherMass q k f x → AddUp q → ⊥
  mass-none k f x h all = HoldsBelow-no_failure (HasMass q) q.places k all h.first

  row-one : (j k : ℕ) (f g x y : ℤ) → BreaksCuts q j f x → BreaksCuts q k g y → Reduced j f x ≡ Reduced k g y
  row-one j k f g x y h t =
      let den = q.interim.den in
      let z = number_at (point_of q.interim) in
      both-of q.is_program (λ p. BreaksRow p den z j f x) (λ p. BreaksRow p den z k g y) (Reduced j f x ≡ Reduced k g y) h t
      (λ p b c. one-place (row_count p) (MeetsRow p den z) (row_sum p z) (λ r. den *ℤ right_at p r) Reduced j k f g x y b.first c.first b.left_is c.left_is b.right_is c.right_is)

  row-none : (k : ℕ) (f x : ℤ) → BreaksCuts q k f x → MeetsCuts q → ⊥
  row-none k f x h all =
      let den = q.interim.den in
      let z = number_at (point_of q.interim) in
      both-of q.is_program (λ p. BreaksRow p den z k f x) (λ p. Meets p den z) ⊥ h all (λ p b m. HoldsBelow-no_failure (MeetsRow p den z) (row_count p) k m.rows b.first)

  -- ---- in their order

  pub one-cut_verdict : (v w : Verdict) → IsCutVerdict q v → IsCutVerdict q w → v ≡ w
  one-cut_verdict (Rejected (Masses j f x)) (Rejected (Masses k g y)) h t = ap Rejected (mass-one j k f g x y h t)
  one-cut_verdict (Rejected (Masses j f x)) (Rejected (Reduced k g y)) h t = absurd (mass-none j f x h t.0)
  one-cut_verdict (Rejected (Masses j f x)) (Rejected (Value other)) h t = absurd (mass-none j f x h t.0)
  one-cut_verdict (Rejected (Masses j f x)) w h t = absurd (mass-none j f x h t.0.add_up)
  one-cut_verdict (Rejected (Reduced j f x)) (Rejected (Masses k g y)) h t = absurd (mass-none k g y t h.0)
  one-cut_verdict (Rejected (Reduced j f x)) (Rejected (Reduced k g y)) h t = ap Rejected (row-one j k f g x y h.1 t.1)
  one-cut_verdict (Rejected (Reduced j f x)) (Rejected (Value other)) h t = absurd (row-none j f x h.1 t.1)
  one-cut_verdict (Rejected (Reduced j f x)) w h t = absurd (row-none j f x h.1 t.0.meets)
  one-cut_verdict (Rejected (Value right)) (Rejected (Masses k g y)) h t = absurd (mass-none k g y t h.0)
  one-cut_verdict (Rejected (Value right)) (Rejected (Reduced k g y)) h t = absurd (row-none k g y t.1 h.1)
  one-cut_verdict (Rejected (Value right)) (Rejected (Value other)) h t = ap (λ z. Rejected (Value z)) (laws.one_value right other h.2.right t.2.right)
  one-cut_verdict (Rejected (Value right)) w h t = absurd (h.2.other t.0.worth)
  one-cut_verdict v (Rejected (Masses k g y)) h t = absurd (mass-none k g y t h.0.add_up)
  one-cut_verdict v (Rejected (Reduced k g y)) h t = absurd (row-none k g y t.1 h.0.meets)
  one-cut_verdict v (Rejected (Value other)) h t = absurd (t.2.other h.0.worth)
  one-cut_verdict v w h t =
      let fits = laws.fits h.1.program h.1.is_program in
      one-judged q.is_program (certificate_of q) v w (fits.0.positive, fits.2.den.positive) h.1 t.1
