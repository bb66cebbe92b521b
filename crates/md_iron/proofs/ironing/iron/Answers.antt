use Rattle.std.proofs.Common.{◌≡◌, ◌⊎◌, inl, inr}
use Rattle.md_question_check.specs.declared.verdict.Reject.{Reject}
use Rattle.md_question_check.specs.declared.verdict.Verdict.{Verdict}
use Rattle.md_question_check.specs.declared.verdict.Verdict.TheVariants.{Valid, Undecided, Rejected}
use Rattle.md_iron.proofs.ShareLaws.{where-some}
use Rattle.md_iron.proofs.SoundLaws.{closed-sound}
use Rattle.md_iron.proofs.ironing.iron.Goals as goal

not-valid : (verdict : Verdict) → verdict ≡ Valid → (verdict ≡ Undecided) ⊎ ((reject : Reject) × (verdict ≡ Rejected reject)) → ⊥
not-valid verdict e (inl f) = cc
not-valid verdict e (inr (reject, f)) = cc

pub unreachable-requires-in-Undecided : goal.unreachable-requires-in-Undecided
unreachable-requires-in-Undecided c =
    let closed = where-some c.in_ok-answer.field-0 c.in-Some.answer _ _ c.in-Some.is c.in_ok-answer.ensures.closed in
    let (p, sound) = closed-sound c.in-Auction.auction c.in-Some.answer c.in_ok-answer.ensures.shaped closed in
    let told = rw c.in-Auction.is at c.in_ok-check.ensures.auction_sound in
    not-valid c.in_ok-check.field-0 (told p sound) c.in-Undecided.is
