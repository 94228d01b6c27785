-- Calls in a row, computed: the paper's toggle from cards to binary AIGER and back, and from binary AIGER to cards and back. Tables, scratch and
-- buffers have spare words and hold something else when they are lent.
use Prim.Native.Nat.{ℕ}
use mathlib.Core.Path.{◌≡◌, refl}
use mathlib.Core.List.{List, []}
use lib.ListN.{take, replicate}
use Rattle.std.specs.Prelude.{Ok}
use Rattle.plan.specs.Circuit.{seven}
use Rattle.plan.specs.Outcome.{ReadEntry, LoadExit, load, FileEntry, FileExit, write_binary}
use Rattle.plan.specs.Cards.{load_cards, write_cards}
use Rattle.plan.proofs.Carding.{toggle_cards, toggle_binary}

abbrev junk : ℕ → List ℕ
junk n = replicate n 9

abbrev to_read : List ℕ → ReadEntry
to_read file = record {
  file = file;
  tables = seven (junk 3) (junk 3) (junk 3) (junk 13) (junk 2) (junk 1) (junk 1);
  scratch = junk 35;
}

-- counts and tables that a reader left, for a writer
abbrev to_write : LoadExit → FileEntry
to_write x = record {
  circuit = record { counts = record { M = 7; I = 2; L = 1; O = 2; A = 4; B = 0; C = 0 }; tables = x.tables; scratch = junk 35 };
  tail = [];
  out = junk 90;
}

-- from cards, and back
abbrev filed : FileExit
filed = write_binary (to_write (load_cards (to_read toggle_cards)))

pub toggle-filed : (filed.answer ≡ Ok 29) × (take 29 filed.out ≡ toggle_binary)
toggle-filed = (refl, refl)

abbrev filed-back : FileExit
filed-back = write_cards (to_write (load (to_read (take 29 filed.out))))

pub toggle-filed-back : (filed-back.answer ≡ Ok 80) × (take 80 filed-back.out ≡ toggle_cards)
toggle-filed-back = (refl, refl)

-- from binary, and back
abbrev carded : FileExit
carded = write_cards (to_write (load (to_read toggle_binary)))

pub toggle-carded : (carded.answer ≡ Ok 80) × (take 80 carded.out ≡ toggle_cards)
toggle-carded = (refl, refl)

abbrev carded-back : FileExit
carded-back = write_binary (to_write (load_cards (to_read (take 80 carded.out))))

pub toggle-carded-back : (carded-back.answer ≡ Ok 29) × (take 29 carded-back.out ≡ toggle_binary)
toggle-carded-back = (refl, refl)
