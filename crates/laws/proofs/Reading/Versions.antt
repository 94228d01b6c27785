-- The reader of 2007, given a file that 1.9 states, refuses it or gives the circuit and the tail that 1.9 states.
use Prim.Native.Nat.{ℕ, ◌+◌, ◌≤◌}
use mathlib.Core.Path.{◌≡◌, refl, ◌∙◌}
use mathlib.Core.Bool.{Bool, true, false, ◌||◌, false≢true}
use mathlib.Core.Logic.{◌⊎◌, inl, inr}
use mathlib.Core.List.{List, [], ◌∷◌}
use native.Mathlib.Omega.{arith}
use lib.Dec.{eqb}
use lib.ListN.{drop}
use Rattle.plan.specs.declared.Counts.{Counts}
use Rattle.plan.specs.declared.Refusal.{Refusal}
use Rattle.plan.specs.declared.Version.{Version}
use Rattle.plan.specs.declared.Version.TheVariants.{V2007, V19}
use Rattle.plan.specs.Refusals.{Parse, got, refused}
use Rattle.plan.specs.Circuit.{Circuit, counts_of}
use Rattle.plan.specs.Bytes.{Spells, AllSpell}
use Rattle.plan.specs.Header.{all_counts}
use Rattle.plan.specs.Tail.{Symbol, is_kind, is_name, fits, symbols_ok, TailOk}
use Rattle.plan.specs.Reading.{read_file, Spelled, States, as_text, as_binary}
use Rattle.laws.proofs.Reading.Common.{and_left, and_right, and_intro}
use Rattle.laws.proofs.Reading.Differences.{Bytes}
use Rattle.laws.proofs.Reading.Exactly.{Accepts, sound, unique}

-- what 2007 states, 1.9 states
spells-more : (must may most : ℕ) (full row : List ℕ) → may ≤ most → Spells must may full row → Spells must most full row
spells-more must may most full row h s = (s.0, omega (arith, s.1), s.2)

all-spell-more : (must may most : ℕ) (full rows : List (List ℕ)) → may ≤ most → AllSpell must may full rows → AllSpell must most full rows
all-spell-more must may most [] [] h s = tt
all-spell-more must may most [] (row ∷ rows) h s = absurd s
all-spell-more must may most (x ∷ full) [] h s = absurd s
all-spell-more must may most (x ∷ full) (row ∷ rows) h s = (spells-more must may most x row h s.0, all-spell-more must may most full rows h s.1)

abbrev spelled-more : (c : Circuit) (k : ℕ) (full : List (List ℕ)) → Spelled V2007 c k full → Spelled V19 c k full
spelled-more c k full s = record {
  counts = s.counts;
  latches = s.latches;
  all-counts = spells-more 5 5 9 (all_counts (counts_of c)) s.counts (omega arith) s.all-counts;
  all-latches = all-spell-more k (k + 0) (k + 1) full s.latches (omega arith) s.all-latches;
}

kind-more : (b : ℕ) → is_kind V2007 b ≡ true → is_kind V19 b ≡ true
kind-more b h = go (eqb b 105) (eqb b 108) (eqb b 111) (eqb b 98 || eqb b 99) h
  where
    go : (p q r t : Bool) → (p || (q || r)) ≡ true → (p || (q || (r || t))) ≡ true
    go true q r t h = refl
    go false true r t h = refl
    go false false true t h = refl
    go false false false t h = absurd (false≢true h)

symbols-more : (n : Counts) (seen ss : List Symbol) → symbols_ok V2007 n seen ss ≡ true → symbols_ok V19 n seen ss ≡ true
symbols-more n seen [] h = refl
symbols-more n seen (s ∷ ss) h =
    let h1 = and_right (is_kind V2007 s.kind) _ h in
    let h2 = and_right (is_name s.name) _ h1 in
    and_intro (is_kind V19 s.kind) _ (kind-more s.kind (and_left (is_kind V2007 s.kind) _ h))
    (and_intro (is_name s.name) _ (and_left (is_name s.name) _ h1)
    (and_intro (fits n seen s) _ (and_left (fits n seen s) _ h2) (symbols-more n (s ∷ seen) ss (and_right (fits n seen s) _ h2))))

tail_more : (n : Counts) (tail : List ℕ) → TailOk V2007 n tail → TailOk V19 n tail
tail_more n tail t =
    record { symbols = t.symbols; rest = t.rest; parts = t.parts; good = symbols-more n [] t.symbols t.good; remark = t.remark }

pub states-more : (file : List ℕ) (c : Circuit) (tail : List ℕ) → States V2007 file c tail → States V19 file c tail
states-more file c tail (as_text s e w t) = as_text (spelled-more c 2 _ s) e w (tail_more (counts_of c) tail t)
states-more file c tail (as_binary s e o w t) = as_binary (spelled-more c 1 _ s) e o w (tail_more (counts_of c) tail t)

-- so whatever a version states, 1.9 states
pub states-by : (v : Version) (file : List ℕ) (c : Circuit) (tail : List ℕ) → States v file c tail → States V19 file c tail
states-by V2007 file c tail s = states-more file c tail s
states-by V19 file c tail s = s

-- what the reader of 2007 accepts is what 1.9 states
pub old-same : (file lengths : List ℕ) → Bytes file → (c d : Circuit) (tail : List ℕ) (start : ℕ) → States V19 file c tail
    → read_file V2007 file lengths ≡ got d start
    → (d ≡ c) × (drop start file ≡ tail)
old-same file lengths bytes c d tail start s q =
    unique V19 file d c (drop start file) tail
    (states-more file d (drop start file) (sound V2007 file lengths bytes d start q).0) s

-- so it refuses the file or gives the same circuit and tail
pub old-reader : (file lengths : List ℕ) → Bytes file → (c : Circuit) (tail : List ℕ) → States V19 file c tail
    → ((r : Refusal) × (read_file V2007 file lengths ≡ refused r)) ⊎ Accepts V2007 file lengths c tail
old-reader file lengths bytes c tail s = go (read_file V2007 file lengths) refl
  where
    go : (p : Parse Circuit) → read_file V2007 file lengths ≡ p
        → ((r : Refusal) × (read_file V2007 file lengths ≡ refused r)) ⊎ Accepts V2007 file lengths c tail
    go (refused r) e = inl (r, e)
    go (got d start) e =
        let h = old-same file lengths bytes c d tail start s e in
        inr (start, e ∙ (λ i. got (h.0 i) start), h.1)
