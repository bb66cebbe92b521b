-- What is known of interim odds that were read.
use Rattle.std.proofs.Common.{◌≡◌, ℕ, zero, suc, ◌+◌, ◌<◌, ◌≤◌, ℤ, pos, ◌≤ℤ◌, true, List, [], ◌∷◌, length, replicate, codes, Ok, refl, ap, subst, ◌∙◌, arith, All, lit≤}
use Rattle.std.proofs.lemmas.List.{length-replicate}
use Rattle.std.proofs.lemmas.List.Elements.{All-get_or}
use Rattle.std.proofs.lemmas.Int.{ints}
use Rattle.std.specs.Prelude.{int_le, unsigned_abs}
use Rattle.md_math.specs.Lists.{number_at}
use Rattle.md_setting.specs.Auction.{SymmetricAuction, value_count}
use Rattle.md_math.specs.Sizes.{AllWithin}
use Rattle.md_mech.specs.Accepted.{number_limit}
use Rattle.md_border.specs.declared.interim.Interim.{Interim}
use Rattle.md_border.specs.Odds.{IsInterim}
use Rattle.md_parts.specs.Fields.{any_number, is_place, denominator_field}
use Rattle.md_parts.specs.Reading.{Rest, read_record}
use Rattle.md_parts.proofs.NumbersRead.{IsInField, number_field-is, numbers-after, record-was_read}
use Rattle.md_parts.proofs.Blocks.{in_two}
use Rattle.md_answer.specs.Odds.{interim_den, odds_field, odds_in}
use Rattle.md_answer.specs.InterimRecords.{pays_in, interim_in}

den-known : (rest after : Rest) (den : ℤ) → interim_den rest ≡ Ok (den, after) → IsInField 62 (int_le (pos 1)) den
den-known rest after den h =
    let two = in_two (read_record (codes "interim") (denominator_field ∷ []) rest) _ den after h in
    let r = record-was_read (codes "interim") (denominator_field ∷ []) rest two.one two.mid two.first_is in
    let long : length r.texts ≡ 1 = r.long in
    let e = numbers-after (IsInField 62 (int_le (pos 1))) denominator_field (λ text n holds. number_field-is 62 (int_le (pos 1)) text n (lit≤ tt) holds) [] 1 2 r.texts two.one long r.read in
    let some : 0 < length two.one = let l = e.long in omega (arith, l) in
    let pair : (number_at two.one 0, two.mid) ≡ (den, after) = cc in
    let same : number_at two.one 0 ≡ den = ap (λ (p : ℤ × Rest). p.0) pair in
    subst (λ (z : ℤ). IsInField 62 (int_le (pos 1)) z) same (All-get_or (IsInField 62 (int_le (pos 1))) two.one 0 (pos 0) some e.each)

-- odds that are in their range, one for each value
record AreOdds (a : SymmetricAuction) (den : ℤ) (odds : List ℤ) : Type 0 where
  pub long : length odds ≡ value_count a
  pub each : All (IsInField 62 (is_place 0 (unsigned_abs den + 1))) odds

odds-known : (a : SymmetricAuction) (den : ℤ) (rest after : Rest) (odds : List ℤ) → odds_in a den rest ≡ Ok (odds, after) → AreOdds a den odds
odds-known a den rest after odds h =
    let test = is_place 0 (unsigned_abs den + 1) in
    let fields = replicate (value_count a) (odds_field den) in
    let r = record-was_read (codes "odds") fields rest odds after h in
    let long : length r.texts ≡ value_count a = r.long ∙ length-replicate (value_count a) (odds_field den) in
    let e = numbers-after (IsInField 62 test) (odds_field den) (λ text n holds. number_field-is 62 test text n (lit≤ tt) holds) [] (value_count a) 2 r.texts odds (omega (arith, long)) r.read in
    record { long = let l = e.long in omega (arith, l); each = e.each }

int_le-true : (a z : ℤ) → int_le a z ≡ true → a ≤ℤ z
int_le-true a z h = grind (arith, ints)

den-small : (den : ℤ) (n : ℕ) → pos 1 ≤ℤ den → unsigned_abs den ≤ n → den ≤ℤ pos n
den-small den n one small = grind (arith, ints)

place-inside : (den z : ℤ) → pos 1 ≤ℤ den → is_place 0 (unsigned_abs den + 1) z ≡ true → (pos 0 ≤ℤ z) × (z ≤ℤ den)
place-inside den z one h = (grind (arith, ints), grind (arith, ints))

zeros-at : (n k : ℕ) → number_at (replicate n (pos 0)) k ≡ pos 0
zeros-at zero k = refl
zeros-at (suc n) zero = refl
zeros-at (suc n) (suc k) = zeros-at n k

-- payments that are in their range, one for each value
record ArePays (a : SymmetricAuction) (pays : List ℤ) : Type 0 where
  pub long : length pays ≡ value_count a
  pub small : AllWithin number_limit pays

interim-of : (a : SymmetricAuction) (den : ℤ) (odds pays : List ℤ) → IsInField 62 (int_le (pos 1)) den → AreOdds a den odds → ArePays a pays → IsInterim a (record { den = den; odds = odds; pays = pays })
interim-of a den odds pays d o p =
    let one = int_le-true (pos 1) den d.passes in
    record {
      den_positive = one;
      den_size = den-small den number_limit one d.small.within;
      one_odds = o.long;
      one_pay = p.long;
      odds = λ v l. let long = o.long in place-inside den (number_at odds v) one (All-get_or (IsInField 62 (is_place 0 (unsigned_abs den + 1))) odds v (pos 0) (omega (arith, long, l)) o.each).passes;
      pay_size = p.small;
    }

-- odds that were read, without payments
pub interim-known : (a : SymmetricAuction) (den : ℤ) (odds pays : List ℤ) (rest mid after : Rest) → interim_den rest ≡ Ok (den, mid) → odds_in a den mid ≡ Ok (odds, after) → pays ≡ replicate (value_count a) (pos 0)
    → IsInterim a (record { den = den; odds = odds; pays = pays })
interim-known a den odds pays rest mid after hd ho hp =
    let none : (k : ℕ) → number_at pays k ≡ pos 0 = λ k. ap (λ (xs : List ℤ). number_at xs k) hp ∙ zeros-at (value_count a) k in
    interim-of a den odds pays (den-known rest mid den hd) (odds-known a den mid after odds ho)
    (record { long = ap length hp ∙ length-replicate (value_count a) (pos 0); small = record { at = λ k l. rw (none k) (record { within = omega arith }) } })

-- payments that were read
pays-known : (a : SymmetricAuction) (rest after : Rest) (pays : List ℤ) → pays_in a rest ≡ Ok (pays, after) → ArePays a pays
pays-known a rest after pays h =
    let fields = replicate (value_count a) any_number in
    let r = record-was_read (codes "pays") fields rest pays after h in
    let long : length r.texts ≡ value_count a = r.long ∙ length-replicate (value_count a) any_number in
    let e = numbers-after (IsInField 62 (λ _. true)) any_number (λ text n holds. number_field-is 62 (λ _. true) text n (lit≤ tt) holds) [] (value_count a) 2 r.texts pays (omega (arith, long)) r.read in
    record { long = let l = e.long in omega (arith, l); small = record { at = λ k l. (All-get_or (IsInField 62 (λ _. true)) pays k (pos 0) l e.each).small } }

-- odds and payments that were read
pub interim-read : (a : SymmetricAuction) (rest after : Rest) (interim : Interim) → interim_in a rest ≡ Ok (interim, after) → IsInterim a interim
interim-read a rest after interim h =
    let den = in_two (interim_den rest) _ interim after h in
    let odds = in_two (odds_in a den.one den.mid) _ interim after den.next_is in
    let pays = in_two (pays_in a odds.mid) _ interim after odds.next_is in
    let made : Interim = record { den = den.one; odds = odds.one; pays = pays.one } in
    let pair : (made, pays.mid) ≡ (interim, after) = cc in
    subst (IsInterim a) (ap (λ (p : Interim × Rest). p.0) pair)
    (interim-of a den.one odds.one pays.one (den-known rest den.mid den.one den.first_is) (odds-known a den.one den.mid odds.mid odds.one odds.first_is) (pays-known a odds.mid pays.mid pays.one pays.first_is))
