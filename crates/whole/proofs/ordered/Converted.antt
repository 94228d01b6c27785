-- What was opened, converted, and the tables it was read into zero.
use Prim.Native.Nat.{ℕ}
use mathlib.Core.Path.{◌≡◌, refl, sym, ap, ◌∙◌}
use mathlib.Core.Bool.{Bool}
use mathlib.Core.List.{List, []}
use lib.ListN.{length}
use Rattle.std.specs.Prelude.{Ok, Err, Option, Some, None}
use Rattle.plan.specs.declared.Refusal.{Refusal}
use Rattle.plan.specs.Refusals.{Parse, got, refused, first_of}
use Rattle.plan.specs.Circuit.{Circuit, Tables, counts_of, holding, all_cleared, cleared}
use Rattle.plan.specs.Given.{Given, given_circuit, lent_with, stages}
use Rattle.plan.specs.Convert.{convert}
use Rattle.plan.specs.Outcome.{MakeEntry, MakeExit, made_by, conversion}
use Rattle.plan.specs.Programs.{input}
use Rattle.plan.specs.Whole.{WholeEntry, OpenExit, input_of, file_circuit, open_by, open_whole}
use Rattle.tables.specs.Lengths.{sizes_of}
use Rattle.read.proofs.Loads.{same-cleared}
use Rattle.whole.specs.Opening.{OpenEntry, opened, Ready}
use Rattle.whole.proofs.Writes.{converts, not-refused}
use Rattle.whole.specs.ordered.Leaving.{left_by}

-- a conversion that does not refuse
accepts : (o : Option Refusal) (e : MakeEntry) (c : Circuit) → ((r : Refusal) → (made_by o e c).answer ≡ Err r → ⊥)
    → made_by o e c ≡ made_by None e c
accepts None e c h = refl
accepts (Some r) e c h = absurd (h r refl)

module _ (readable : Bool) (file : List ℕ) (read lent : Tables) (scratch : List ℕ) where
  abbrev e : OpenEntry
  e = record { readable = readable; file = file; tables = read; scratch = scratch; made = sizes_of lent }

  abbrev w : WholeEntry
  w = record { plan = input_of readable file; read = read; made = lent; scratch = scratch; out = [] }

  open_is : open_whole w ≡ open_by w (opened e)
  open_is = refl

  -- a refusal: the tables to make a circuit in, and scratch, are cleared
  pub not_opened : (r : Refusal) → opened e ≡ refused r → (t : Tables) (s : List ℕ) → t ≡ all_cleared lent → s ≡ cleared scratch
      → record { answer = Err r; written = t; scratch = s } ≡ left_by (open_whole w)
  not_opened r q t s t-is s-is =
      (λ i. record { answer = Err r; written = t-is i; scratch = s-is i })
      ∙ sym (ap left_by (open_is ∙ ap (open_by w) q))

  -- tables that stand ready are converted
  pub opened-made : (g : Given) (start : ℕ) → opened e ≡ got (given_circuit g) start → (tail : List ℕ) → Ready g tail (sizes_of lent)
      → length g.scratch ≡ length scratch → (x : MakeExit) → x ≡ conversion (record { circuit = g; written = lent })
      → x ≡ left_by (open_whole w)
  opened-made g start q tail ready same x said =
      let m : MakeEntry = record { circuit = g; written = lent } in
      let c = convert (given_circuit g) in
      said
      ∙ (accepts (first_of (stages g (lent_with g lent))) m c (not-refused _ _ tail (converts g lent tail ready) (conversion m) refl)
      ∙ ((λ i. record { answer = Ok (counts_of c); written = holding lent c; scratch = same-cleared g.scratch scratch same i })
      ∙ sym (ap left_by (open_is ∙ ap (open_by w) q))))

-- the tables it was read into are zero
pub closed : (w : WholeEntry) (x : MakeExit) → x ≡ left_by (open_whole w) → (read : Tables) → read ≡ all_cleared w.read
    → ◌≡◌ {A = OpenExit} (record { answer = x.answer; read = read; made = x.written; scratch = x.scratch }) (open_whole w)
closed w x said read r =
    (λ i. record { answer = (said i).answer; read = r i; made = (said i).written; scratch = (said i).scratch }) ∙ go (input w.plan (file_circuit w))
  where
    go : (p : Parse Circuit) → ◌≡◌ {A = OpenExit} (record {
      answer = (open_by w p).answer;
      read = all_cleared w.read;
      made = (open_by w p).made;
      scratch = (open_by w p).scratch;
    }) (open_by w p)
    go (got c start) = refl
    go (refused r) = refl
