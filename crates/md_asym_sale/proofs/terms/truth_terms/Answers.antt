use Rattle.std.proofs.Common.{◌≡◌, ◌*◌, ◌^◌, ◌<◌, ◌-ℤ◌, to_z, of_z, [], ◌∙◌, arith}
use mir.Syntax.{w128}
use Rattle.md_math.proofs.Bits.{read_result}
use Rattle.md_setting.specs.Meaning.{sizes_of}
use Rattle.md_forms.proofs.TermLaws.{adds-all, adds-sum}
use Rattle.md_asym_sale.specs.Forms.{utility_in}
use Rattle.md_asym_sale.specs.Pairs.{pair_number}
use Rattle.md_asym_sale.specs.ProgramOf.{column_count}
use Rattle.md_asym_sale.specs.Values.{own_value, pairs_of}
use Rattle.md_asym_sale.proofs.PairLaws.{number-apart, number-below}
use Rattle.md_asym_sale.proofs.SaleLaws.{in-sizes}
use Rattle.md_asym_sale.proofs.TermForms.{adds-truth}
use Rattle.md_asym_sale.proofs.terms.truth_terms.Goals as goal

pub push_difference-requires-clause-apart : goal.push_difference-requires-clause-apart
push_difference-requires-clause-apart c = λ e.
    number-apart (sizes_of c.args.setting.now) c.args.agent c.args.other c.args.kind c.pair_number-told.result c.pair_number-own.result
    c.pair_number-told.ensures.value c.pair_number-own.ensures.value c.requires.apart e

pub push_difference-requires-2-clause-apart : goal.push_difference-requires-2-clause-apart
push_difference-requires-2-clause-apart c = λ e.
    number-apart (sizes_of c.args.setting.now) c.args.agent c.args.other c.args.kind c.pair_number-told.result c.pair_number-own.result
    c.pair_number-told.ensures.value c.pair_number-own.ensures.value c.requires.apart (let same : c.pair_number-told.result ≡ c.pair_number-own.result = omega (arith, e) in same)

pub push_difference-requires-3-clause-apart : goal.push_difference-requires-3-clause-apart
push_difference-requires-3-clause-apart c = λ e.
    number-apart (sizes_of c.args.setting.now) c.args.agent c.args.other c.args.kind c.pair_number-told.result c.pair_number-own.result
    c.pair_number-told.ensures.value c.pair_number-own.ensures.value c.requires.apart (let same : c.pair_number-told.result ≡ c.pair_number-own.result = omega (arith, e) in same)

pub returns : goal.returns
returns c =
    let s = c.args.setting.now in
    let k = pairs_of s in
    let i = c.args.agent in
    let own = pair_number (sizes_of s) i c.args.kind in
    let told = pair_number (sizes_of s) i c.args.other in
    let v = own_value s i c.args.kind in
    let h : own < k = number-below (sizes_of s) i c.args.kind (in-sizes s i c.requires.agent_in) c.requires.kind_in in
    let l : told < k = number-below (sizes_of s) i c.args.other (in-sizes s i c.requires.agent_in) c.requires.other_in in
    let value : to_z w128 (of_z w128 c.own_value-value.result) ≡ v = read_result c.own_value-value.result c.own_value-value.type_inv ∙ c.own_value-value.ensures.value in
    let p = rw (value, c.pair_number-told.ensures.value, c.pair_number-own.ensures.value, c.new-terms.ensures.items) at c.in_ok-push_difference.ensures in
    let q = rw (c.pair_count-pairs.ensures.value, c.pair_number-told.ensures.value, c.pair_number-own.ensures.value) at c.in_ok-push_difference-2.ensures in
    let r = rw (c.pair_count-pairs.ensures.value, c.pair_number-told.ensures.value, c.pair_number-own.ensures.value) at c.in_ok-push_difference-3.ensures in
    let t = c.push_difference-3.new.terms.items in
    let added = adds-truth (2 ^ 44) k own told v [] c.push_difference.new.terms.items c.push_difference-2.new.terms.items t
    (p 0 k (omega arith) (omega arith) l h)
    (q k (2 * k) (omega arith) (omega arith) (omega (arith, h)) (omega (arith, l)))
    (r (2 * k) (3 * k) (omega arith) (omega arith) (omega (arith, l)) (omega (arith, h))) in
    record {
      placed = adds-all (2 ^ 44) 0 (column_count s) (λ x. utility_in s x i c.args.kind c.args.other -ℤ utility_in s x i c.args.kind c.args.kind) t added;
      sum = λ x. adds-sum (2 ^ 44) 0 (column_count s) (λ x. utility_in s x i c.args.kind c.args.other -ℤ utility_in s x i c.args.kind c.args.kind) t added x;
    }
