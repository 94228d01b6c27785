-- The outcome of a rewiring, from what was told on the way.
use Prim.Native.Nat.{ℕ, ◌+◌, ◌*◌, ◌≤◌, ◌<◌, min, max}
use mathlib.Core.Path.{◌≡◌, refl, sym, ap, ap₂, ◌∙◌, subst}
use mathlib.Core.Bool.{true}
use mathlib.Core.List.{List, [], ◌∷◌, ◌++◌}
use Rattle.std.specs.Prelude.{Result, Ok, Err, Option, Some, None}
use native.Mathlib.Omega.{arith}
use borrow.Author.Tests.{eqb-true}
use lib.Dec.{eqb}
use lib.ListN.{length}
use Rattle.plan.specs.declared.Counts.{Counts}
use Rattle.plan.specs.declared.Refusal.{Refusal}
use Rattle.plan.specs.declared.Refusal.TheVariants.{BadVector, WrongValue}
use Rattle.plan.specs.Refusals.{stage, first_of}
use Rattle.plan.specs.Circuit.{Gate, Circuit, cleared}
use Rattle.plan.specs.Given.{Given, given_circuit, lent_alone, failing_at}
use Rattle.plan.specs.Step.{Value}
use Rattle.plan.specs.Outcome.{put, CheckExit, checked_by, check_in_order}
use Rattle.laws.proofs.Reading.Runs.{order-exactly}
use Rattle.laws.proofs.Put.{put-length}
use Rattle.laws.proofs.Tables.{gates_at, gates-rows}
use Rattle.laws.proofs.Running.Binary.{Binary, inner}
use Rattle.laws.proofs.Running.InOrder.{order-binary}
use Rattle.laws.proofs.Writing.Nothing.{at_none, stage-none, first-all, some_first, both_first, one-stage}
use Rattle.judge.specs.Judged.{all_stages}
use Rattle.judge.proofs.Sound.{Good, good_none, refused-some, good-alone}
use Rattle.plan.specs.Rewire.{rewired_gates, rewired_screen, wrong_from, wrong_on, edit_stages, RewireEntry, RewireExit, rewired_by, rewiring}
use Rattle.laws.proofs.Rewiring.Rows.{table-rewired, two-stores}
use Rattle.laws.proofs.Rewiring.Call.{Edits, found_nothing}
use Rattle.rewire.specs.Shown.{Shows, Follows, Ordered, Counted}
use Rattle.rewire.proofs.Wrong.{judged}
use Rattle.rewire.proofs.Anew.{binary-again, shown-below, gates-follow, screen-anew}

module _ (e : RewireEntry) where
  abbrev g : Given
  g = e.circuit

  abbrev n : Counts
  n = g.counts

  abbrev c : Circuit
  c = given_circuit g

  abbrev base : ℕ
  base = 1 + n.I + n.L

  abbrev table : List ℕ
  table = g.tables.gates

  abbrev edits : List (Option Refusal)
  edits = edit_stages n e.gate e.rhs0 e.rhs1 (length e.values)

  abbrev last : Option Refusal
  last = stage WrongValue (wrong_on c e.values)

  abbrev tables : List (Option Refusal)
  tables = all_stages true g (lent_alone g)

  abbrev edited-table : List ℕ
  edited-table = put table (3 * e.gate + 1) (max e.rhs0 e.rhs1 ∷ min e.rhs0 e.rhs1 ∷ [])

  module _ (a : Result Unit Refusal) (t : List ℕ) (said : ◌≡◌ {A = CheckExit} (record { answer = a; scratch = t }) (check_in_order g)) where
    blank : t ≡ cleared g.scratch
    blank = ap (λ (x : CheckExit). x.scratch) said

    told : a ≡ checked_by (first_of tables)
    told = ap (λ (x : CheckExit). x.answer) said

    refused : (r : Refusal) → first_of (tables ++ (edits ++ (last ∷ []))) ≡ Some r
        → ◌≡◌ {A = RewireExit} (record { answer = Err r; gates = table; scratch = t; values = e.values }) (rewiring e)
    refused r q =
        (λ j. record { answer = Err r; gates = table; scratch = blank j; values = e.values })
        ∙ sym (ap (λ (o : Option Refusal). rewired_by o e) q)

    pub refused-tables : (r : Refusal) → a ≡ Err r
        → ◌≡◌ {A = RewireExit} (record { answer = Err r; gates = table; scratch = t; values = e.values }) (rewiring e)
    refused-tables r q = refused r (some_first r tables (edits ++ (last ∷ [])) (refused-some r (first_of tables) (sym q ∙ told)))

    -- the tables are good
    module _ (q : a ≡ Ok tt) where
      none-tables : first_of tables ≡ None
      none-tables = good_none (first_of tables) (sym q ∙ told)

      good : Good true g
      good = good-alone true g none-tables

      past-tables : first_of (tables ++ (edits ++ (last ∷ []))) ≡ first_of (edits ++ (last ∷ []))
      past-tables = both_first tables (edits ++ (last ∷ [])) none-tables

      pub counted : Counted n
      counted = record { sum = good.fits.sum; most-M = good.fits.most-M }

      leaves-are : inner c ≡ base
      leaves-are = ap (λ (x : Counts). 1 + x.I + x.L) good.counts

      gates-are : length c.gates ≡ n.A
      gates-are = ap (λ (x : Counts). x.A) good.counts

      variables-are : base + n.A ≡ n.M + 1
      variables-are = omega (arith, ((order-exactly c).0 (good.order refl)).sum, leaves-are, gates-are)

      binary : Binary base (gates_at table n.A)
      binary =
          subst (λ (x : ℕ). Binary x (gates_at table n.A)) leaves-are (subst (λ (gs : List Gate). Binary (inner c) gs) (gates-rows table n.A)
          (order-binary (inner c) c.gates ((order-exactly c).0 (good.order refl)).gates))

      module _ (s : Result Unit Refusal) (sides-told : s ≡ checked_by (first_of edits)) where
        pub refused-sides : (r : Refusal) → s ≡ Err r
            → ◌≡◌ {A = RewireExit} (record { answer = Err r; gates = table; scratch = t; values = e.values }) (rewiring e)
        refused-sides r p = refused r (past-tables ∙ some_first r edits (last ∷ []) (refused-some r (first_of edits) (sym p ∙ sides-told)))

        -- the edit is good
        module _ (p : s ≡ Ok tt) where
          none-edits : first_of edits ≡ None
          none-edits = good_none (first_of edits) (sym p ∙ sides-told)

          size : length e.values ≡ n.M + 1
          size =
              eqb-true _ _ (at_none 4 (eqb (length e.values) (n.M + 1))
              (stage-none BadVector (failing_at 4 (eqb (length e.values) (n.M + 1))) (first-all edits none-edits).1.1.1.0))

          pub ordered : Ordered table n.A base e.values
          ordered = record { gates-long = good.fits.gates-long; values-long = omega (arith, size, variables-are); binary = binary }

          module _ (v : Result Unit Refusal) (value-told : v ≡ judged (wrong_from (gates_at table n.A) e.values 0 (base + n.A))) where
            value-is : v ≡ checked_by last
            value-is =
                value-told ∙ ap₂ (λ (gs : List Gate) (m : ℕ). judged (wrong_from gs e.values 0 m)) (sym (gates-rows table n.A)) variables-are

            pub refused-value : (r : Refusal) → v ≡ Err r
                → ◌≡◌ {A = RewireExit} (record { answer = Err r; gates = table; scratch = t; values = e.values }) (rewiring e)
            refused-value r m =
                refused r (past-tables ∙ both_first edits (last ∷ []) none-edits ∙ one-stage last ∙ refused-some r last (sym m ∙ value-is))

            -- the values are good
            module _ (m : v ≡ Ok tt) where
              nothing : first_of (tables ++ (edits ++ (last ∷ []))) ≡ None
              nothing = past-tables ∙ both_first edits (last ∷ []) none-edits ∙ one-stage last ∙ good_none last (sym m ∙ value-is)

              ok : Edits e
              ok = found_nothing e nothing

              pub row_fits : 3 * e.gate + 3 ≤ length table
              row_fits = omega (arith, ok.room, ok.there)

              pub gate-there : e.gate < n.A
              gate-there = ok.there

              module _ (gates' : List ℕ) (stored : gates' ≡ edited-table) where
                edited-gates : gates_at gates' n.A ≡ rewired_gates e.gate e.rhs0 e.rhs1 c.gates
                edited-gates =
                    ap (λ (l : List ℕ). gates_at l n.A)
                    (stored ∙ sym (two-stores table e.gate (max e.rhs0 e.rhs1) (min e.rhs0 e.rhs1) row_fits))
                    ∙ table-rewired table e.gate e.rhs0 e.rhs1 n.A row_fits ok.there
                    ∙ ap (rewired_gates e.gate e.rhs0 e.rhs1) (sym (gates-rows table n.A))

                pub ordered-again : Ordered gates' n.A base e.values
                ordered-again = record {
                  gates-long = omega (
                    arith,
                    ok.room,
                    ap length stored,
                    put-length table (3 * e.gate + 1) (max e.rhs0 e.rhs1 ∷ min e.rhs0 e.rhs1 ∷ []) (omega (arith, row_fits)),
                  );
                  values-long = ordered.values-long;
                  binary = binary-again c ok.formed ok.order e.gate e.rhs0 e.rhs1 ok.below0 ok.below1 e.values ok.size ok.right
                      gates' base n.A leaves-are gates-are ok.there edited-gates;
                }

                pub done : (values' : List ℕ) → length values' ≡ length e.values
                    → ((w : ℕ → Value) → Shows w (base + e.gate) e.values → Follows w gates' base e.gate n.A → Shows w (base + n.A) values')
                    → ◌≡◌ {A = RewireExit} (record { answer = Ok tt; gates = gates'; scratch = t; values = values' }) (rewiring e)
                done values' same passes =
                    let k = e.gate in
                    let x = e.rhs0 in
                    let y = e.rhs1 in
                    let below = shown-below c ok.formed ok.order k x y ok.below0 ok.below1 e.values ok.size ok.right
                    gates' base n.A leaves-are gates-are ok.there edited-gates in
                    let follow = gates-follow c ok.formed ok.order k x y ok.below0 ok.below1 e.values ok.size ok.right
                    gates' base n.A leaves-are gates-are ok.there edited-gates in
                    let anew : values' ≡ rewired_screen c k x y e.values
                    = screen-anew c ok.formed ok.order k x y ok.below0 ok.below1 e.values ok.size ok.right
                    gates' base n.A leaves-are gates-are ok.there edited-gates
                    values' (same ∙ ok.size) (passes _ below follow) in
                    (λ j. record { answer = Ok tt; gates = stored j; scratch = blank j; values = anew j })
                    ∙ sym (ap (λ (o : Option Refusal). rewired_by o e) nothing)
