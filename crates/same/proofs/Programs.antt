-- Two text files of one plan: the converter writes the same bytes for both, and so does the reducer. Room is this: each file is no longer
-- than an input may be, and the reader accepts it with the words that the programs lend. Where the bytes to write have no room, both are
-- refused by 11 at the same length.
use Prim.Native.Nat.{ℕ, ◌≤◌}
use mathlib.Core.Path.{◌≡◌, sym, ap, ◌∙◌}
use mathlib.Core.List.{List, ◌++◌}
use Rattle.std.specs.Prelude.{Some}
use borrow.Author.Tests.{le-leb}
use lib.ListN.{length}
use Rattle.plan.specs.Circuit.{Circuit}
use Rattle.plan.specs.Binary.{binary_of}
use Rattle.plan.specs.Convert.{convert}
use Rattle.plan.specs.Reduce.{reduce}
use Rattle.plan.specs.Programs.{lent_words, printed, fitting, converter, reducer}
use Rattle.laws.proofs.Reading.Differences.{Bytes}
use Rattle.same.specs.Agreement.{Agree, AcceptedText, SamePlan}
use Rattle.same.proofs.Circuits.{same-conversion}
use Rattle.same.proofs.Accepted.{accepted-same-conversion}
use Rattle.same.proofs.Files.{text-header, text-room, text-formed}

-- on one accepted text file
module _ (file : List ℕ) (small : length file ≤ 65536) (c : Circuit) (tail : List ℕ) (t : AcceptedText file lent_words c tail) where
  pub converter-on-text : converter (Some file) ≡ printed (fitting (binary_of (convert c) ++ tail))
  converter-on-text =
      rw (le-leb (length file) 65536 small, t.accepted, text-room t, (text-header t).2)
      (ap (λ (x : List ℕ). printed (fitting (binary_of (convert c) ++ x))) t.rest)

  pub reducer-on-text : reducer (Some file) ≡ printed (fitting (binary_of (reduce (convert c)) ++ tail))
  reducer-on-text =
      rw (le-leb (length file) 65536 small, t.accepted, text-room t)
      (ap (λ (x : List ℕ). printed (fitting (binary_of (reduce (convert c)) ++ x))) t.rest)

module _ (file other : List ℕ) (small : length file ≤ 65536) (small' : length other ≤ 65536) where
  -- on two, whose circuits convert to the same
  module _ (c d : Circuit) (tail : List ℕ) (t : AcceptedText file lent_words c tail) (u : AcceptedText other lent_words d tail)
      (same : convert c ≡ convert d) where
    converter-alike : converter (Some file) ≡ converter (Some other)
    converter-alike =
        converter-on-text file small c tail t
        ∙ (ap (λ (x : Circuit). printed (fitting (binary_of x ++ tail))) same ∙ sym (converter-on-text other small' d tail u))

    reducer-alike : reducer (Some file) ≡ reducer (Some other)
    reducer-alike =
        reducer-on-text file small c tail t
        ∙ (ap (λ (x : Circuit). printed (fitting (binary_of (reduce x) ++ tail))) same ∙ sym (reducer-on-text other small' d tail u))

  module _ (plan : SamePlan lent_words file other) where
    same : convert plan.c ≡ convert plan.d
    same = same-conversion plan.rename plan.one-to-one plan.c plan.d plan.agree

    pub same-converter : converter (Some file) ≡ converter (Some other)
    same-converter = converter-alike plan.c plan.d plan.tail plan.first plan.second same

    pub same-reducer : reducer (Some file) ≡ reducer (Some other)
    same-reducer = reducer-alike plan.c plan.d plan.tail plan.first plan.second same

  -- nothing need be said of the renaming but that it fixes the constants
  module _ (bytes : Bytes file) (bytes' : Bytes other) (rename : ℕ → ℕ) (fixed : rename 0 ≡ 0) (c d : Circuit) (agree : Agree rename c d)
      (tail : List ℕ) (t : AcceptedText file lent_words c tail) (u : AcceptedText other lent_words d tail) where
    formed-same : convert c ≡ convert d
    formed-same = accepted-same-conversion rename fixed c d agree (text-formed bytes t) (text-formed bytes' u)

    pub any-converter : converter (Some file) ≡ converter (Some other)
    any-converter = converter-alike c d tail t u formed-same

    pub any-reducer : reducer (Some file) ≡ reducer (Some other)
    any-reducer = reducer-alike c d tail t u formed-same
