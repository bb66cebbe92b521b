-- In the threshold rule only winners pay, and at most their values; and its pools alone say what bidders win and pay.
use Rattle.std.proofs.Common.{◌≡◌, ℕ, ◌<◌, pos, ◌*ℤ◌, ◌≤ℤ◌, List, sym, ◌∙◌, ap, subst, arith}
use Rattle.std.specs.Prelude.{slice_index}
use Rattle.std.proofs.lemmas.Int.{ints}
use Rattle.md_math.specs.Lists.{number_at}
use Rattle.md_space.specs.Profiles.{IsProfile}
use Rattle.md_setting.specs.Auction.{SymmetricAuction}
use Rattle.md_setting.specs.AuctionShaped.{IsAuction}
use Rattle.md_setting.specs.General.{general_of}
use Rattle.md_setting.specs.Meaning.{sizes_of}
use Rattle.md_iron_values.specs.Odds.{pay_by}
use Rattle.md_iron_values.specs.Pools.{Pools}
use Rattle.md_iron_values.specs.VirtualValues.{IsPooledAuction}
use Rattle.md_threshold_laws.specs.Rule.{chance, chance_with, payment}
use Rattle.md_threshold_laws.proofs.MechanismLaws.{IsReport, enough, is-report, pays-are, wins-are}
use Rattle.md_threshold_laws.proofs.TruthLaws.{loser-pays, payment-bounds}
use Rattle.md_threshold.specs.Awards.{won_by_rule, paid_by_rule}
use Rattle.md_cli_sell.specs.Thresholding.{IsRuleOfPools, PayWhereTheyWin}

pub winners-pay : (a : SymmetricAuction) (units : ℕ) (pools : Pools) → IsAuction a → IsPooledAuction a pools → (t : List ℕ) → IsProfile (sizes_of (general_of a)) t → PayWhereTheyWin a units pools t
winners-pay a units pools shaped pooled t profile = record {
  losers = λ i b never. paid i b ∙ loser-pays a units pools shaped pooled t is i b (none (chance units pools t (slice_index t i)) (sym (won i b) ∙ never));
  from = λ i b. subst (λ z. pos 0 ≤ℤ z) (sym (paid i b)) (payment-bounds a units pools shaped pooled t is i b).0;
  most = λ i b.
      subst (λ z. z ≤ℤ (number_at a.values (slice_index t i) *ℤ won_by_rule a units pools t i)) (sym (paid i b))
      (subst (λ w. payment a units pools i t ≤ℤ (number_at a.values (slice_index t i) *ℤ w)) (sym (won i b)) (payment-bounds a units pools shaped pooled t is i b).1);
  enough = enough a units pools shaped pooled t is;
}
  where
    is : IsReport a t
    is = is-report a t profile

    won : (i : ℕ) → i < a.bidders → won_by_rule a units pools t i ≡ pos (chance units pools t (slice_index t i))
    won i b = wins-are a units pools shaped pooled i t b profile

    paid : (i : ℕ) → i < a.bidders → paid_by_rule a units pools t i ≡ payment a units pools i t
    paid i b = pays-are a units pools shaped pooled i t b profile

    none : (n : ℕ) → pos n ≡ pos 0 → n ≡ 0
    none n e = omega (arith, ints, e)

pub rule-of-pools : (a : SymmetricAuction) (pools : Pools) → IsAuction a → IsPooledAuction a pools → IsRuleOfPools a pools
rule-of-pools a pools shaped pooled = record {
  same = λ other units t i shaped' by_rule values bidders profile profile' b.
      let b' = subst (λ n. i < n) (sym bidders) b in (
        wins-are other units pools shaped' by_rule.pooled i t b' profile' ∙ sym (wins-are a units pools shaped pooled i t b profile),
        pays-are other units pools shaped' by_rule.pooled i t b' profile'
            ∙ ap (λ list. pay_by (number_at list) (λ v. pos (chance_with units pools t i v)) (slice_index t i)) values
            ∙ sym (pays-are a units pools shaped pooled i t b profile),
      );
}
