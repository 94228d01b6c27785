-- Five numbers of four bytes.
use native.Mathlib.Omega.{arith}
use Rattle.cards.proofs.head.counts_at.Goals as goal

pub returns : goal.returns
returns c =
    record { value = λ i. record { M = c.word_at.ensures i; I = c.word_at-2.ensures i; L = c.word_at-3.ensures i; O = c.word_at-4.ensures i; A = c.word_at-5.ensures i; B = 0; C = 0 }; within = record { small-M = omega arith; small-I = omega arith; small-L = omega arith; small-O = omega arith; small-A = omega arith } }
