use Rattle.std.proofs.Common.{◌≡◌, slice_index}
use Rattle.md_space.specs.Profiles.{profile_at}
use Rattle.md_setting.specs.Meaning.{sizes_of, marginal_of}
use Rattle.md_asym_sale.specs.Products.{product_below}
use Rattle.md_asym_sale.proofs.products.type_weights.Given as goal

abbrev pub invariant-loop-agent : goal.invariant-loop-agent
invariant-loop-agent l = l.weights ≡ product_below l.agent (λ i. marginal_of l.setting i (slice_index (profile_at (sizes_of l.setting) l.rank) i))
