use Rattle.std.proofs.Common.{◌≡◌, map, take, string_bytes}
use Rattle.md_embed.proofs.words.owned.Given as goal

abbrev pub invariant-loop-piece : goal.invariant-loop-piece
invariant-loop-piece l = map string_bytes l.words.items ≡ map (λ piece. piece.now) (take l.piece-index l.pieces)
