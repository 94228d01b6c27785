-- A turn of the search over tables.
use Prim.Native.Nat.{ℕ, suc, ◌+◌, ◌*◌, ◌/◌, ◌%◌, ◌^◌, ◌≤◌, ◌<◌}
use mathlib.Core.Path.{◌≡◌, refl, sym, ap, ap₂, ◌∙◌, subst}
use mathlib.Core.Bool.{Bool, true, false, cond}
use mathlib.Core.List.{List, [], ◌∷◌, ◌++◌, map}
use native.Mathlib.Nat.{mod-lt, pow-le-pow_right}
use native.Mathlib.Numerals.{add-one}
use native.Mathlib.Omega.{arith}
use lib.ListN.{length, get_or}
use Rattle.tables.specs.bitmap.Bitmap.{is_on, raised}
use Rattle.plan.specs.declared.Counts.{Counts}
use Rattle.plan.specs.Circuit.{Tables, circuit_of, has}
use Rattle.plan.specs.Step.{first_state}
use Rattle.laws.proofs.Reading.Members.{distinct}
use Rattle.laws.proofs.Running.Accepted.{Accepted, accepted}
use Rattle.laws.proofs.Running.Resets.{first-length}
use Rattle.step.specs.sweep.Running.{Runs}
use Rattle.plan.specs.Search.{System, Reached, Way, state_of, onward, left, try_at, system_of}
use Rattle.search.specs.Rows.{at, Met}
use Rattle.search.proofs.Breadth.{length_more}
use Rattle.search.proofs.Trying.{Keeps, try-keeps}
use Rattle.search.proofs.Answers.{length-states, met-reached}
use Rattle.search.proofs.Deciding.{few}
use Rattle.search.proofs.Circuits.{some-move, starts-once, reached-below}
use Rattle.search.specs.Rows.{Rows, Marked, new_row}
use Rattle.search.proofs.Tabled.{turn-barred, turn-again, turn-new, tried-barred, tried-again, tried-new, rows_new, marks-new, room-new, next-reached}
use Rattle.search.specs.declared.Attempt.{Attempt}
use Rattle.search.specs.declared.Attempt.TheVariants.{Barred, Seen, To}
use Rattle.search.specs.Trying.{attempt}
use Rattle.search.specs.Exploring.{Meets, MeetBy, Searched, LeftBy}

-- what an attempt says
module _ (y : System) (s m : ℕ) where
  pub barred-says : Barred ≡ attempt y s m → y.allows s m ≡ false
  barred-says e = go (y.allows s m) (y.shows s m) e
    where
      go : (b d : Bool) → Barred ≡ cond b (cond d Seen (To (y.next s m))) Barred → b ≡ false
      go true true q = let z : ◌≡◌ {A = ℕ} 0 1 = cc in absurd (omega arith)
      go true false q = let z : ◌≡◌ {A = ℕ} 0 1 = cc in absurd (omega arith)
      go false d q = refl

  pub seen-says : Seen ≡ attempt y s m → (y.allows s m ≡ true) × (y.shows s m ≡ true)
  seen-says e = go (y.allows s m) (y.shows s m) e
    where
      go : (b d : Bool) → Seen ≡ cond b (cond d Seen (To (y.next s m))) Barred → (b ≡ true) × (d ≡ true)
      go true true q = (refl, refl)
      go true false q = let z : ◌≡◌ {A = ℕ} 0 1 = cc in absurd (omega arith)
      go false d q = let z : ◌≡◌ {A = ℕ} 0 1 = cc in absurd (omega arith)

  pub to-says : (t : ℕ) → To t ≡ attempt y s m → (y.allows s m ≡ true) × (y.shows s m ≡ false) × (t ≡ y.next s m)
  to-says t e = go (y.allows s m) (y.shows s m) e
    where
      go : (b d : Bool) → To t ≡ cond b (cond d Seen (To (y.next s m))) Barred → (b ≡ true) × (d ≡ false) × (t ≡ y.next s m)
      go true true q = let z : ◌≡◌ {A = ℕ} 0 1 = cc in absurd (omega arith)
      go true false q = let k : t ≡ y.next s m = cc in (refl, refl, k)
      go false d q = let z : ◌≡◌ {A = ℕ} 0 1 = cc in absurd (omega arith)

module _ {split : ℕ} {n : Counts} {x : Tables} (r : Runs n x) (p : ℕ) (ways : List Way) (met marks : List ℕ) (sd : Searched split n x p ways met marks) where
  abbrev y : System
  y = system_of split (circuit_of n x)

  ok : Accepted (circuit_of n x)
  ok = accepted (circuit_of n x) r.formed

  sized : length (first_state (circuit_of n x)) ≡ length (circuit_of n x).latches
  sized = first-length (circuit_of n x) r.formed

  pos : 0 < (system_of split (circuit_of n x)).moves
  pos = some-move split (circuit_of n x) ok sized

  once : distinct (system_of split (circuit_of n x)).starts ≡ true
  once = starts-once split (circuit_of n x) ok sized

  small : (s : ℕ) → Reached (system_of split (circuit_of n x)) s → s < 2 ^ n.L
  small s k = subst (λ (l : ℕ). s < 2 ^ l) (ap (λ (c : Counts). c.L) r.counts) (reached-below split (circuit_of n x) ok sized s k)

  known-left : (later : List Way) → try_at y p ways ≡ left later → Met y (p + 1) later
  known-left later e = (subst (Keeps y pos p ways) e (try-keeps y pos p ways sd.known)).1

  pub row-state : p / y.moves < length ways → get_or met (3 * (p / y.moves)) 0 ≡ (at ways (p / y.moves)).state
  row-state h = sd.rows.state (p / y.moves) h

  -- the states met are few
  pub ways-few : length ways ≤ 2 ^ n.L
  ways-few =
      omega (
        arith,
        few y pos once (2 ^ n.L) small (map state_of ways) sd.known.different (met-reached y p ways sd.known),
        length-states y ways,
      )

  -- an attempt by the row's word is that of the state
  pub tells : (reached place move : ℕ) → length ways ≡ reached → p / y.moves ≡ place → p % y.moves ≡ move → place < reached → (v : Attempt)
      → v ≡ attempt y (get_or met (3 * place) 0) move → v ≡ attempt y (at ways (p / y.moves)).state (p % y.moves)
  tells reached place move er ep em h v e =
      e ∙ ap₂ (attempt y) (ap (λ (k : ℕ). get_or met (3 * k) 0) (sym ep) ∙ row-state (omega arith)) (sym em)

  pub found-seen : Seen ≡ attempt y (at ways (p / y.moves)).state (p % y.moves)
      → (y.allows (at ways (p / y.moves)).state (p % y.moves) ≡ true) × (y.shows (at ways (p / y.moves)).state (p % y.moves) ≡ true)
      × Rows y ways met
  found-seen e = let r = seen-says y (at ways (p / y.moves)).state (p % y.moves) e in (r.0, r.1, sd.rows)

  module _ (h : p / y.moves < length ways) where
    abbrev s : ℕ
    s = (at ways (p / y.moves)).state

    abbrev m : ℕ
    m = p % y.moves

    pub left-barred : Barred ≡ attempt y (at ways (p / y.moves)).state (p % y.moves) → LeftBy split n x p ways (length ways) met marks
    left-barred e =
        let b = barred-says y s m e in
        record {
          later = ways;
          count = refl;
          searched = record { known = known-left ways (tried-barred y 0 p ways h b); rows = sd.rows; marked = sd.marked };
          follows = λ a. turn-barred y a p ways h b;
        }

    module _ (t : ℕ) (e : To t ≡ attempt y (at ways (p / y.moves)).state (p % y.moves)) where
      allowed : y.allows (at ways (p / y.moves)).state (p % y.moves) ≡ true
      allowed = (to-says y s m t e).0

      dark : y.shows (at ways (p / y.moves)).state (p % y.moves) ≡ false
      dark = (to-says y s m t e).1

      is-next : t ≡ y.next (at ways (p / y.moves)).state (p % y.moves)
      is-next = (to-says y s m t e).2

      reached-t : Reached y t
      reached-t = subst (Reached y) (sym is-next) (next-reached y p ways sd.known (p / y.moves) (p % y.moves) h (mod-lt p pos) allowed)

      marked-t : is_on marks 0 t ≡ has t (map state_of ways)
      marked-t = sd.marked t (small t reached-t)

      pub meets-to : (reached place : ℕ) → length ways ≡ reached → p / y.moves ≡ place → n.L ≤ 20 → 3 * 2 ^ n.L ≤ length met
          → 2 ^ n.L ≤ 32 * length marks → (move : ℕ) → Meets met marks reached t place move
      meets-to reached place er ep fl lm lk move = record {
        marks-long = low (2 ^ n.L) (small t reached-t) lk;
        room = λ q. omega (arith, room-new y pos once (2 ^ n.L) small p ways sd.known t reached-t (sym marked-t ∙ q));
        few = omega (
          arith,
          few y pos once (2 ^ n.L) small (map state_of ways) sd.known.different (met-reached y p ways sd.known),
          length-states y ways,
          pow-le-pow_right {n = 2} (omega arith) {i = n.L} {j = 20} fl,
        );
        near = omega arith;
      }
        where
          low : (k : ℕ) → t < k → k ≤ 32 * length marks → t / 32 < length marks
          low k a b = omega arith

      pub left-to : (reached place move k : ℕ) (met' marks' : List ℕ) → length ways ≡ reached → p / y.moves ≡ place → p % y.moves ≡ move
          → 3 * 2 ^ n.L ≤ length met → 2 ^ n.L ≤ 32 * length marks → (b : Bool) → is_on marks 0 t ≡ b
          → MeetBy b met marks reached t place move k met' marks' → LeftBy split n x p ways k met' marks'
      left-to reached place move k met' marks' er ep em lm lk true on w =
          let again : has (y.next (at ways (p / y.moves)).state (p % y.moves)) (map state_of ways) ≡ true =
          ap (λ (u : ℕ). has u (map state_of ways)) (sym is-next) ∙ sym marked-t ∙ on in
          record {
            later = ways;
            count = er ∙ sym w.0;
            searched = record {
              known = known-left ways (tried-again y 0 p ways h allowed dark again);
              rows = subst (Rows y ways) (sym w.1) sd.rows;
              marked = subst (Marked (2 ^ n.L) ways) (sym w.2) sd.marked;
            };
            follows = λ a. turn-again y a p ways h allowed dark again;
          }
      left-to reached place move k met' marks' er ep em lm lk false off w =
          let out : has t (map state_of ways) ≡ false = sym marked-t ∙ off in
          let fresh : has (y.next (at ways (p / y.moves)).state (p % y.moves)) (map state_of ways) ≡ false =
          ap (λ (u : ℕ). has u (map state_of ways)) (sym is-next) ∙ out in
          let v : Way = onward y (at ways (p / y.moves)) (p % y.moves) in
          let table : met' ≡ new_row met (length ways) (y.next (at ways (p / y.moves)).state (p % y.moves)) (suc (p / y.moves)) (p % y.moves) =
          w.1
          ∙ ap₂ (λ (i f : ℕ). new_row met i t f move) (sym er) (add-one place ∙ ap suc (sym ep))
          ∙ ap₂ (λ (u q : ℕ). new_row met (length ways) u (suc (p / y.moves)) q) is-next (sym em) in
          record {
            later = ways ++ (onward y (at ways (p / y.moves)) (p % y.moves) ∷ []);
            count = length_more ways (onward y (at ways (p / y.moves)) (p % y.moves)) ∙ ap suc er ∙ sym (add-one reached) ∙ sym w.0;
            searched = record {
              known = known-left (ways ++ (onward y (at ways (p / y.moves)) (p % y.moves) ∷ [])) (tried-new y 0 p ways h allowed dark fresh);
              rows = subst (Rows y (ways ++ (onward y (at ways (p / y.moves)) (p % y.moves) ∷ []))) (sym table)
                  (rows_new y ways met (p / y.moves) (p % y.moves) sd.rows h
                  (omega (arith, room-new y pos once (2 ^ n.L) small p ways sd.known t reached-t out)));
              marked = subst (Marked (2 ^ n.L) (ways ++ (onward y (at ways (p / y.moves)) (p % y.moves) ∷ [])))
                  (sym (w.2 ∙ ap (raised marks 0) is-next))
                  (marks-new y ways (2 ^ n.L) (onward y (at ways (p / y.moves)) (p % y.moves)) marks sd.marked
                  (subst (λ (u : ℕ). u / 32 < length marks) is-next (low (2 ^ n.L) (small t reached-t) lk)));
            };
            follows = λ a. turn-new y a p ways h allowed dark fresh;
          }
        where
          low : (q : ℕ) → t < q → q ≤ 32 * length marks → t / 32 < length marks
          low q i j = omega arith
