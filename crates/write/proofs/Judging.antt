-- Stages one after another: the first refusal wins.
use Prim.Native.Nat.{ℕ}
use mathlib.Core.Path.{◌≡◌, sym, ap, ◌∙◌}
use mathlib.Core.Bool.{Bool}
use mathlib.Core.List.{List, [], ◌∷◌, ◌++◌}
use Rattle.std.specs.Prelude.{Result, Ok, Err, Option, Some}
use native.Mathlib.Omega.{arith}
use lib.ListN.{length, get_or, length-replicate}
use Rattle.plan.specs.declared.Refusal.{Refusal}
use Rattle.plan.specs.Refusals.{first_of}
use Rattle.plan.specs.Circuit.{cleared}
use Rattle.plan.specs.Given.{Given}
use Rattle.plan.specs.Outcome.{checked_by}
use Rattle.laws.proofs.Marks.{zeros}
use Rattle.laws.proofs.Writing.Nothing.{some_first, one-stage, first-both, both_first}
use Rattle.lines.specs.tail.Marks.{Holds, Blank}
use Rattle.judge.proofs.Sound.{Good, good_none, refused-some, good-alone}
use Rattle.write.specs.Judged.{table_stages, writer_stages}

-- an answer, and the stages with one more
module _ (xs : List (Option Refusal)) (o : Option Refusal) {answer : Result Unit Refusal} (says : answer ≡ checked_by (first_of xs)) where
  pub refused-before : (r : Refusal) → answer ≡ Err r → first_of (xs ++ (o ∷ [])) ≡ Some r
  refused-before r e = some_first r xs (o ∷ []) (refused-some r (first_of xs) (sym e ∙ says))

  pub good-before : answer ≡ Ok tt → first_of (xs ++ (o ∷ [])) ≡ o
  good-before e = both_first xs (o ∷ []) (good_none (first_of xs) (sym e ∙ says)) ∙ one-stage o

-- tables that are good, and those that are good before a tail that is
pub good-tables : (ordered : Bool) (g : Given) {answer : Result Unit Refusal} → answer ≡ checked_by (first_of (table_stages ordered g))
    → answer ≡ Ok tt → Good ordered g
good-tables ordered g says e = good-alone ordered g (good_none (first_of (table_stages ordered g)) (sym e ∙ says))

pub good-judged : (ordered : Bool) (g : Given) (tail : List ℕ) {answer : Result Unit Refusal}
    → answer ≡ checked_by (first_of (writer_stages ordered g tail)) → answer ≡ Ok tt → Good ordered g
good-judged ordered g tail says e =
    good-alone ordered g
    (first-both (table_stages ordered g) _ (good_none (first_of (writer_stages ordered g tail)) (sym e ∙ says))).0

-- marks in scratch that is zero
module _ (ordered : Bool) (g : Given) (good : Good ordered g) (marks : List ℕ) (blank : marks ≡ cleared g.scratch) where
  pub marks-hold : Holds g.counts marks
  marks-hold =
      let f = good.fits in
      let long : length marks ≡ length g.scratch = ap length blank ∙ length-replicate (length g.scratch) 0 in
      let wide = good.scratch in
      record {
        most-I = omega (arith, f.most-M, f.sum);
        most-L = omega (arith, f.most-M, f.sum);
        most-O = f.most-O;
        most-B = f.most-B;
        most-C = f.most-C;
        words = omega (arith, f.sum);
      }

  pub marks-blank : Blank g.counts marks
  marks-blank i h = ap (λ (l : List ℕ). get_or l i 0) blank ∙ zeros (length g.scratch) i
