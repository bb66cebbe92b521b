use Rattle.std.proofs.Common.{◌+◌, ◌^◌, pos, ◌-ℤ◌, arith, lit<}
use Rattle.md_math.specs.Sizes.{IsWithin}
use Rattle.md_math.proofs.Bits.{read_within}
use Rattle.md_math.proofs.SizeLaws.{IsWithin-sub, IsWithin-zero, IsWithin-wider}
use Rattle.md_asym_sale.proofs.TermForms.{difference-up, difference-down}
use Rattle.md_asym_sale.proofs.terms.push_difference.Goals as goal

pub returns-in_ok-push_term-2 : goal.returns-in_ok-push_term-2
returns-in_ok-push_term-2 c =
    let v = c.args.value in
    let less : IsWithin (0 + 1000000) (pos 0 -ℤ v) = IsWithin-sub 0 1000000 (pos 0) v (IsWithin-zero 0) c.requires.size in
    let value = read_within 1000000 v c.requires.size (lit< tt) in
    let p = rw value at c.in_ok-push_term.ensures.ok in
    let q = rw (value, read_within (0 + 1000000) (pos 0 -ℤ v) less (lit< tt)) at c.in_ok-push_term-2.ensures.ok in
    (λ first next a b d e. difference-up (2 ^ 44) first next c.args.more c.args.less v c.args.terms.now.items c.push_term.new.terms.items c.push_term-then-more-less.new.terms.items
    (p (2 ^ 44) (IsWithin-wider 1000000 (2 ^ 44) v (omega arith) c.requires.size)) (q (2 ^ 44) (IsWithin-wider (0 + 1000000) (2 ^ 44) (pos 0 -ℤ v) (omega arith) less)) c.if-more-less.true a e)

pub returns-in_ok-push_term-4 : goal.returns-in_ok-push_term-4
returns-in_ok-push_term-4 c =
    let v = c.args.value in
    let less : IsWithin (0 + 1000000) (pos 0 -ℤ v) = IsWithin-sub 0 1000000 (pos 0) v (IsWithin-zero 0) c.requires.size in
    let value = read_within 1000000 v c.requires.size (lit< tt) in
    let p = rw (value, read_within (0 + 1000000) (pos 0 -ℤ v) less (lit< tt)) at c.in_ok-push_term-3.ensures.ok in
    let q = rw value at c.in_ok-push_term-4.ensures.ok in
    (λ first next a b d e. difference-down (2 ^ 44) first next c.args.more c.args.less v c.args.terms.now.items c.push_term-else-more-less.new.terms.items c.push_term-else-more-less-2.new.terms.items
    (p (2 ^ 44) (IsWithin-wider (0 + 1000000) (2 ^ 44) (pos 0 -ℤ v) (omega arith) less)) (q (2 ^ 44) (IsWithin-wider 1000000 (2 ^ 44) v (omega arith) c.requires.size)) (omega (arith, c.if-more-less.false, c.requires.apart)) b d)
