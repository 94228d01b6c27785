-- The mark, then the number.
use native.Mathlib.Omega.{arith}
use Rattle.plan.specs.Cards.{mark_bytes, word_bytes}
use Rattle.cards.proofs.put.Putting.{two-parts}
use Rattle.cards.proofs.put.put_card.Goals as goal

pub returns : goal.returns
returns c =
    let a = c.args in
    record {
      value = omega (arith, c.put_word.ensures.value, c.put_mark-number.ensures.value);
      out_after = two-parts a.out.now _ _ (mark_bytes a.letter) (word_bytes a.word) a.at _ c.put_mark-number.ensures.out_after c.put_mark-number.ensures.value c.put_word.ensures.out_after
          c.requires;
    }
