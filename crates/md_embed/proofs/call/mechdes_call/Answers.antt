use Rattle.std.proofs.Common.{◌++◌, List, ℕ, [], length, inl, inr, refl, sym, ap}
use Rattle.std.proofs.Math.Seq.{take-nil}
use Rattle.md_embed.specs.Called.{IsLaid}
use Rattle.md_embed.specs.Texts.{held}
use Rattle.md_embed.proofs.call.mechdes_call.Goals as goal

-- nothing is laid into a room
nothing-laid : (room : List ℕ) → IsLaid [] room room 0
nothing-laid room = record { laid = sym (ap (λ xs. xs ++ room) (take-nil (length room))); counted = refl }

pub returns-in-Ok : goal.returns-in-Ok
returns-in-Ok c = record {
  out = held c.in-Ok.reply.out;
  err = held c.in-Ok.reply.err;
  answered = inl c.in-Ok.ensures.replied;
  out_laid = record { laid = c.lay_into-counts.ensures.laid; counted = c.lay_into-counts.ensures.length };
  err_laid = record { laid = c.lay_into-counts-in-Ok.ensures.laid; counted = c.lay_into-counts-in-Ok.ensures.length };
}

pub returns-in-Err : goal.returns-in-Err
returns-in-Err c = record {
  out = [];
  err = [];
  answered = inr (c.in-Err.ensures.silent, (refl, refl));
  out_laid = nothing-laid c.args.out.now;
  err_laid = nothing-laid c.args.err.now;
}
