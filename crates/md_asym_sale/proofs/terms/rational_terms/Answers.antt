use Rattle.std.proofs.Common.{◌≡◌, ◌+◌, ◌^◌, ◌<◌, pos, ◌-ℤ◌, neg_ℤ, to_z, of_z, [], ◌∙◌, subst, arith, lit<}
use mir.Syntax.{w128}
use Rattle.md_math.specs.Sizes.{IsWithin}
use Rattle.md_math.proofs.Bits.{read_result, read_within}
use Rattle.md_math.proofs.SizeLaws.{IsWithin-sub, IsWithin-zero, IsWithin-wider}
use Rattle.md_setting.specs.Meaning.{sizes_of}
use Rattle.md_forms.proofs.TermLaws.{adds-all, adds-sum}
use Rattle.md_asym_sale.specs.Forms.{utility_in}
use Rattle.md_asym_sale.specs.Pairs.{pair_number}
use Rattle.md_asym_sale.specs.ProgramOf.{column_count}
use Rattle.md_asym_sale.specs.Values.{own_value, pairs_of}
use Rattle.md_asym_sale.proofs.PairLaws.{number-below}
use Rattle.md_asym_sale.proofs.SaleLaws.{in-sizes}
use Rattle.md_asym_sale.proofs.TermForms.{adds-rational}
use Rattle.md_asym_sale.proofs.terms.rational_terms.Goals as goal

pub returns : goal.returns
returns c =
    let s = c.args.setting.now in
    let k = pairs_of s in
    let i = c.args.agent in
    let own = pair_number (sizes_of s) i c.args.kind in
    let v = own_value s i c.args.kind in
    let h : own < k = number-below (sizes_of s) i c.args.kind (in-sizes s i c.requires.agent_in) c.requires.kind_in in
    let small : IsWithin 1000000 v = subst (IsWithin 1000000) c.own_value.ensures.value c.own_value.ensures.size in
    let less : IsWithin (0 + 1000000) (pos 0 -ℤ v) = IsWithin-sub 0 1000000 (pos 0) v (IsWithin-zero 0) small in
    let value : to_z w128 (of_z w128 c.own_value.result) ≡ v = read_result c.own_value.result c.own_value.type_inv ∙ c.own_value.ensures.value in
    let p = rw (value, read_within (0 + 1000000) (pos 0 -ℤ v) less (lit< tt), c.pair_number-own.ensures.value, c.new-terms.ensures.items) at c.in_ok-push_term.ensures.ok in
    let q = rw (c.pair_count-pairs.ensures.value, c.pair_number-own.ensures.value) at c.in_ok-push_term-2.ensures.ok in
    let r = rw (c.pair_count-pairs.ensures.value, c.pair_number-own.ensures.value) at c.in_ok-push_term-3.ensures.ok in
    let t = c.push_term-3.new.terms.items in
    let added = adds-rational (2 ^ 44) k own v [] c.push_term.new.terms.items c.push_term-2.new.terms.items t
    (p (2 ^ 44) (IsWithin-wider (0 + 1000000) (2 ^ 44) (pos 0 -ℤ v) (omega arith) less)) (q (2 ^ 44) (record { within = omega arith })) (r (2 ^ 44) (record { within = omega arith })) h in
    record {
      placed = adds-all (2 ^ 44) 0 (column_count s) (λ x. neg_ℤ (utility_in s x i c.args.kind c.args.kind)) t added;
      sum = λ x. adds-sum (2 ^ 44) 0 (column_count s) (λ x. neg_ℤ (utility_in s x i c.args.kind c.args.kind)) t added x;
    }
