-- Bytes, and the byte after them; the position past it. Each answer is given by `put_last`.
use mathlib.Core.Path.{ap₂, ◌∙◌}
use mathlib.Core.List.{List}
use Prim.Native.Nat.{ℕ}
use native.Mathlib.Omega.{arith}
use lib.ListN.{set}
use Rattle.runs.proofs.comparing.Parts.{put_last}
use Rattle.runs.proofs.comparing.put_bytes.Goals as goal

pub returns : goal.returns
returns c =
    record {
      value = omega (arith, c.append-end.ensures.value);
      out_after = ap₂ (λ (l : List ℕ) (k : ℕ). set l k c.args.last) c.append-end.ensures.out_after c.append-end.ensures.value
          ∙ put_last c.args.out.now c.args.at c.args.bytes.now c.args.last c.requires;
    }
