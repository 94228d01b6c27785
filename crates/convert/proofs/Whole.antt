-- Gates of a well-formed circuit can be placed by their new numbers, and the converted circuit's gates are the table that results.
use Prim.Native.Nat.{ℕ, ◌+◌, ◌*◌, ◌<◌, ◌≤◌}
use mathlib.Core.Path.{◌≡◌, sym, ap, ◌∙◌}
use mathlib.Core.List.{List, ◌++◌, map}
use native.Mathlib.Omega.{arith}
use lib.ListN.{length, get_or, take, drop}
use Rattle.plan.specs.Literals.{var_of}
use Rattle.plan.specs.Circuit.{Gate, Circuit, gate_line, flat, left_vars, leaves}
use Rattle.plan.specs.Convert.{sorted, numbered, renumber, gate_for, convert}
use Rattle.plan.specs.Outcome.{put}
use Rattle.laws.proofs.Put.{put-length}
use Rattle.laws.proofs.Tables.{gate_at, gates_at}
use Rattle.laws.proofs.Reading.Cycles.{length-lefts}
use Rattle.laws.proofs.Running.Lists.{has_right}
use Rattle.laws.proofs.Running.Accepted.{Accepted}
use Rattle.laws.proofs.Running.Binary.{inner}
use Rattle.laws.proofs.Running.Converted.{length-leaves, length-renumber_gates}
use Rattle.laws.proofs.Running.Found.{Sides, sides-in}
use Rattle.laws.proofs.Writing.Holding.{length-gate-words}
use Rattle.judge.specs.order.Numbers.{NumTable, InRange}
use Rattle.convert.specs.renumber.Renumbered.{number_in, literal_by, gate_by, row_of, Placeable, Whole}
use Rattle.convert.proofs.Known.{known, number_by, literal-by}
use Rattle.convert.proofs.Places.{place_at, sorted-count, at_each, left-has, number_is, place-below, gate-there, every-place}
use Rattle.convert.proofs.Made.{gate-at, gate-renumbered, past-put}

module _ (c : Circuit) (ok : Accepted c) (m : ℕ) (few : inner c + length c.gates < 2147483648) (t : List ℕ) (long : m < length t)
    (tab : NumTable (numbered c) (take (m + 1) t)) (gates : List ℕ) (a : ℕ) (its : c.gates ≡ gates_at gates a)
    (range : InRange (m + 1) gates a) where
  abbrev place : ℕ → ℕ
  place i = place_at c ok (gate_at gates) a its i

  -- a gate's number and its row
  number_at : (i : ℕ) → i < a → number_in t (gate_at gates i).lhs ≡ inner c + place i
  number_at i h =
      let v = var_of (gate_at gates i).lhs in
      number_by c ok m few t long tab v (omega (arith, (range i h).0))
      (has_right v (leaves c) (left_vars c.gates) (left-has c ok (gate_at gates) a its i h))
      ∙ (number_is c ok (gate_at gates) a its i h ∙ ap (λ (k : ℕ). k + place i) (length-leaves c))

  row_at : (i : ℕ) → i < a → row_of t (inner c) (gate_at gates i) ≡ place i
  unfolding row_of
  row_at i h = omega (arith, number_at i h)

  pub placeable : (i : ℕ) → i < a → Placeable t (inner c) a (gate_at gates i)
  placeable i h =
      let within = range i h in
      let number = number_at i h in
      let below = place-below c ok (gate_at gates) a its i h in
      let g = gate_at gates i in
      record {
        lhs = known c ok m few t long tab g.lhs (omega (arith, within.0));
        rhs0 = known c ok m few t long tab g.rhs0 (omega (arith, within.1));
        rhs1 = known c ok m few t long tab g.rhs1 (omega (arith, within.2));
        from = omega (arith, number);
        below = omega (arith, number, below);
      }

  -- a gate under its number is the one that conversion gives
  gate-by : (i : ℕ) → i < a → (d : Gate) → gate_by t (gate_at gates i) ≡ get_or (convert c).gates (place i) d
  unfolding gate_by
  gate-by i h d =
      let g = gate_at gates i in
      let within = range i h in
      let sides = at_each c ok (gate_at gates) a its (Sides (leaves c ++ left_vars c.gates))
      (sides-in (leaves c ++ left_vars c.gates) c.gates ok.used-gate) i h in
      let there = gate-there c ok (gate_at gates) a its i h d in
      let first = literal-by c ok m few t long tab g.rhs0 (omega (arith, within.1)) sides.0 in
      let second = literal-by c ok m few t long tab g.rhs1 (omega (arith, within.2)) sides.1 in
      let number = number_at i h in
      let given : gate_for (number_in t g.lhs) (literal_by t g.rhs0) (literal_by t g.rhs1)
      ≡ gate_for (inner c + place i) (renumber (numbered c) g.rhs0) (renumber (numbered c) g.rhs1)
      = λ j. gate_for (number j) (first j) (second j) in
      given
      ∙ (ap (λ (x : Gate). gate_for (inner c + place i) (renumber (numbered c) x.rhs0) (renumber (numbered c) x.rhs1)) (sym there)
      ∙ sym (gate-renumbered (numbered c) (inner c) (sorted c) (place i) d
      (omega (arith, place-below c ok (gate_at gates) a its i h, sorted-count c ok (gate_at gates) a its))))

  module _ (to : List ℕ) (room : 3 * a ≤ length to) where
    abbrev words : List ℕ
    words = flat (map gate_line (convert c).gates)

    count : length (convert c).gates ≡ a
    count =
        length-renumber_gates (numbered c) (inner c) (sorted c)
        ∙ (length-lefts (sorted c) ∙ sorted-count c ok (gate_at gates) a its)

    size : length words ≡ 3 * a
    size = length-gate-words (convert c).gates ∙ ap (λ (k : ℕ). 3 * k) count

    pub whole : Whole gates t (inner c) a to (put to 0 words)
    whole = record {
      size = put-length to 0 words (omega (arith, size));
      rows = λ i h. ap (gate_at (put to 0 words)) (row_at i h)
          ∙ (gate-at (convert c).gates (drop (0 + length words) to) (place i) (gate_at gates i)
          (omega (arith, place-below c ok (gate_at gates) a its i h, count)) ∙ sym (gate-by i h (gate_at gates i)));
      every = λ j h. let e = every-place c ok (gate_at gates) a its j h in (e.0, e.1, row_at e.0 e.1 ∙ e.2);
      rest = λ q h. past-put to words q (omega (arith, size));
    }
