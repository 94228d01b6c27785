-- A try keeps what holds of the states met.
use Prim.Native.Nat.{ℕ, suc, ◌+◌, ◌*◌, ◌/◌, ◌%◌, ◌≤◌, ◌<◌}
use mathlib.Core.Path.{◌≡◌, refl, sym, ap, ap₂, ◌∙◌, subst}
use mathlib.Core.Bool.{Bool, true, false, cond, false≢true}
use mathlib.Core.List.{List, [], ◌∷◌, ◌++◌, map}
use native.Mathlib.Nat.{mod-lt, mul-le-mul_right, div-lt_iff_lt-mul}
use native.Mathlib.Decide.{dec_le}
use native.Mathlib.Omega.{arith}
use borrow.Author.Tests.{ltb-true, ltb-false}
use lib.Dec.{ltb}
use lib.ListN.{length, length-append}
use Rattle.plan.specs.Circuit.{has}
use Rattle.laws.proofs.Reading.Members.{distinct}
use Rattle.plan.specs.Search.{System, Way, state_of, onward, meet, Tried, past, shown, left, try_move, try_at}
use Rattle.search.specs.Rows.{at, depth, Sits, Sound, Met}
use Rattle.search.proofs.Breadth.{length_more, at_old, at_new, sits-more, all_more, place_of, map_snoc, distinct_snoc, leads-snoc, pair_place, pair-move, place-later}

module _ (y : System) (pos : 0 < y.moves) (p : ℕ) where
  -- the state and the move of this try
  abbrev here : List Way → Way
  here met = at met (p / y.moves)

  abbrev move : ℕ
  move = p % y.moves

  -- nothing new: the next try
  same_met : (met : List Way) → Met y p met → p / y.moves < length met
      → (y.allows (here met).state move ≡ true → (y.shows (here met).state move ≡ false)
      × Sits met (y.next (here met).state move) (suc (depth met (p / y.moves))))
      → Met y (p + 1) met
  same_met met inv h new = record {
    sound = inv.sound;
    begun = inv.begun;
    unseen = λ i m hi hm l a. unseen i m hi hm l a (dec_le (suc (i * y.moves + m)) p);
    onwards = λ i m hi hm l a. onwards i m hi hm l a (dec_le (suc (i * y.moves + m)) p);
    rising = inv.rising;
    level = λ k j hj. omega (arith, inv.level h j hj, inv.rising (p / y.moves) ((p + 1) / y.moves) (place-later y.moves pos p) k);
    different = inv.different;
    within = omega (arith, (div-lt_iff_lt-mul pos).0 h);
  }
    where
      unseen : (i m : ℕ) → i < length met → m < y.moves → i * y.moves + m < p + 1 → y.allows (at met i).state m ≡ true
          → Dec (suc (i * y.moves + m) ≤ p) → y.shows (at met i).state m ≡ false
      unseen i m hi hm l a (yes k) = inv.unseen i m hi hm k a
      unseen i m hi hm l a (no k) =
          let e : i * y.moves + m ≡ p = omega arith in
          let e0 : p / y.moves ≡ i = pair_place y.moves pos i m p hm e in
          let e1 : p % y.moves ≡ m = pair-move y.moves pos i m p hm e in
          ap₂ (λ (j n : ℕ). y.shows (at met j).state n) (sym e0) (sym e1)
          ∙ (new (ap₂ (λ (j n : ℕ). y.allows (at met j).state n) e0 e1 ∙ a)).0

      onwards : (i m : ℕ) → i < length met → m < y.moves → i * y.moves + m < p + 1 → y.allows (at met i).state m ≡ true
          → Dec (suc (i * y.moves + m) ≤ p) → Sits met (y.next (at met i).state m) (suc (depth met i))
      onwards i m hi hm l a (yes k) = inv.onwards i m hi hm k a
      onwards i m hi hm l a (no k) =
          let e : i * y.moves + m ≡ p = omega arith in
          let e0 : p / y.moves ≡ i = pair_place y.moves pos i m p hm e in
          let e1 : p % y.moves ≡ m = pair-move y.moves pos i m p hm e in
          subst (λ (j : ℕ). Sits met (y.next (at met j).state m) (suc (depth met j))) e0
          (subst (λ (n : ℕ). Sits met (y.next (here met).state n) (suc (depth met (p / y.moves)))) e1
          (new (ap₂ (λ (j n : ℕ). y.allows (at met j).state n) e0 e1 ∙ a)).1)

  -- a new state at the end
  one_more : (met : List Way) (w : Way) → Met y p met → (h : p / y.moves < length met) → Sound y w
      → length w.list ≡ suc (depth met (p / y.moves)) → has w.state (map state_of met) ≡ false → Met y p (met ++ (w ∷ []))
  one_more met w inv h sw lw out = record {
    sound = all_more met w (Sound y) inv.sound sw;
    begun = λ s k. sits-more met w s 0 (inv.begun s k);
    unseen = λ i m hi hm l. unseen i m hm l (dec_le (suc i) (length met));
    onwards = λ i m hi hm l. onwards i m hm l (dec_le (suc i) (length met));
    rising = λ i j k hj. rising i j k hj (dec_le (suc j) (length met));
    level = λ k. all_more met w (λ (v : Way). length v.list ≤ suc (depth (met ++ (w ∷ [])) (p / y.moves))) low last;
    different = ap distinct (map_snoc met w) ∙ distinct_snoc w.state (map state_of met) inv.different out;
    within = omega (arith, inv.within, mul-le-mul_right {m = length met} {n = length (met ++ (w ∷ []))} y.moves (omega (arith, length_more met w)));
  }
    where
      unseen : (i m : ℕ) → m < y.moves → i * y.moves + m < p → Dec (suc i ≤ length met)
          → y.allows (at (met ++ (w ∷ [])) i).state m ≡ true → y.shows (at (met ++ (w ∷ [])) i).state m ≡ false
      unseen i m hm l (yes q) =
          subst (λ (v : Way). y.allows v.state m ≡ true → y.shows v.state m ≡ false) (sym (at_old met w i q)) (inv.unseen i m q hm l)
      unseen i m hm l (no q) =
          absurd (omega (arith, inv.within, mul-le-mul_right {m = length met} {n = i} y.moves (omega arith)))

      onwards : (i m : ℕ) → m < y.moves → i * y.moves + m < p → Dec (suc i ≤ length met)
          → y.allows (at (met ++ (w ∷ [])) i).state m ≡ true
          → Sits (met ++ (w ∷ [])) (y.next (at (met ++ (w ∷ [])) i).state m) (suc (depth (met ++ (w ∷ [])) i))
      onwards i m hm l (yes q) =
          subst (λ (v : Way). y.allows v.state m ≡ true → Sits (met ++ (w ∷ [])) (y.next v.state m) (suc (length v.list)))
          (sym (at_old met w i q)) (λ a. sits-more met w _ _ (inv.onwards i m q hm l a))
      onwards i m hm l (no q) =
          absurd (omega (arith, inv.within, mul-le-mul_right {m = length met} {n = i} y.moves (omega arith)))

      all-low : (i : ℕ) → i < length met → depth met i ≤ length w.list
      all-low i hi = omega (arith, inv.level h i hi, lw)

      rising : (i j : ℕ) → i ≤ j → j < length (met ++ (w ∷ [])) → Dec (suc j ≤ length met)
          → depth (met ++ (w ∷ [])) i ≤ depth (met ++ (w ∷ [])) j
      rising i j k hj (yes q) =
          subst (λ (v : Way). length v.list ≤ depth (met ++ (w ∷ [])) j) (sym (at_old met w i (omega arith)))
          (subst (λ (v : Way). depth met i ≤ length v.list) (sym (at_old met w j q)) (inv.rising i j k q))
      rising i j k hj (no q) =
          let e : length met ≡ j = omega (arith, length_more met w) in
          let f : at (met ++ (w ∷ [])) j ≡ w = ap (at (met ++ (w ∷ []))) (sym e) ∙ at_new met w in
          subst (λ (v : Way). depth (met ++ (w ∷ [])) i ≤ length v.list) (sym f)
          (all_more met w (λ (v : Way). length v.list ≤ length w.list) all-low (omega arith) i (omega arith))

      low : (i : ℕ) → i < length met → depth met i ≤ suc (depth (met ++ (w ∷ [])) (p / y.moves))
      low i hi = subst (λ (v : Way). depth met i ≤ suc (length v.list)) (sym (at_old met w (p / y.moves) h)) (inv.level h i hi)

      last : length w.list ≤ suc (depth (met ++ (w ∷ [])) (p / y.moves))
      last = subst (λ (v : Way). length w.list ≤ suc (length v.list)) (sym (at_old met w (p / y.moves) h)) (omega arith)

  -- what a try that shows it says
  pub record Shown (met : List Way) (w : Way) : Type 0 where
    pub there : p / y.moves < length met
    pub allowed : y.allows (at met (p / y.moves)).state (p % y.moves) ≡ true
    pub seen : y.shows (at met (p / y.moves)).state (p % y.moves) ≡ true
    pub is-it : w ≡ onward y (at met (p / y.moves)) (p % y.moves)

  abbrev pub Keeps : List Way → Tried → Type 0
  Keeps met past = length met ≤ p / y.moves
  Keeps met (shown w) = Shown met w
  Keeps met (left met') = (p / y.moves < length met) × Met y (p + 1) met'

  pub try-keeps : (met : List Way) → Met y p met → Keeps met (try_at y p met)
  try-keeps met inv = at_place (ltb (p / y.moves) (length met)) refl
    where
      w : Way
      w = onward y (here met) move

      met-again : p / y.moves < length met → y.allows (here met).state move ≡ true → y.shows (here met).state move ≡ false → (t : Bool)
          → has (y.next (here met).state move) (map state_of met) ≡ t → Met y (p + 1) (cond t met (met ++ (onward y (here met) move ∷ [])))
      met-again h a s true e =
          same_met met inv h (λ b. (
            s,
            (let r = place_of met (y.next (here met).state move) e in
                record { place = r.0; within = r.1; is-it = r.2; near = inv.level h r.0 r.1 }),
          ))
      met-again h a s false e =
          let u : Way = onward y (here met) move in
          let v = here met in
          let m : ℕ = length met in
          let old : at (met ++ (onward y (here met) move ∷ [])) (p / y.moves) ≡ at met (p / y.moves) = at_old met (onward y (here met) move) (p / y.moves) h in
          same_met (met ++ (onward y (here met) move ∷ []))
          (one_more met (onward y (here met) move) inv h
          (record {
            from = (inv.sound (p / y.moves) h).from;
            leads = leads-snoc y v.start v.list v.state move (inv.sound (p / y.moves) h).leads (mod-lt p pos) a;
          })
          (omega (arith, length-append v.list (move ∷ []))) e)
          (omega (arith, length_more met (onward y (here met) move)))
          (λ b. (
            ap (λ (x : Way). y.shows x.state move) old ∙ s,
            record {
              place = length met;
              within = omega (arith, length_more met (onward y (here met) move));
              is-it = ap state_of (at_new met (onward y (here met) move)) ∙ ap (λ (x : Way). y.next x.state move) (sym old);
              near = deep old;
            },
          ))
        where
          deep : at (met ++ (onward y (here met) move ∷ [])) (p / y.moves) ≡ at met (p / y.moves)
              → depth (met ++ (onward y (here met) move ∷ [])) (length met) ≤ suc (depth (met ++ (onward y (here met) move ∷ [])) (p / y.moves))
          deep old =
              subst (λ (x : Way). length x.list ≤ suc (depth (met ++ (onward y (here met) move ∷ [])) (p / y.moves)))
              (sym (at_new met (onward y (here met) move)))
              (subst (λ (x : Way). length ((here met).list ++ (move ∷ [])) ≤ suc (length x.list)) (sym old)
              (omega (arith, length-append (here met).list (move ∷ []))))

      showing : p / y.moves < length met → y.allows (here met).state move ≡ true → (t : Bool) → y.shows (here met).state move ≡ t
          → Keeps met (cond t (shown (onward y (here met) move)) (left (meet met (onward y (here met) move))))
      showing h a true e = record { there = h; allowed = a; seen = e; is-it = refl }
      showing h a false e = (h, met-again h a e (has (y.next (here met).state move) (map state_of met)) refl)

      allowing : p / y.moves < length met → (t : Bool) → y.allows (here met).state move ≡ t
          → Keeps met (cond t (cond (y.shows (here met).state move) (shown (onward y (here met) move)) (left (meet met (onward y (here met) move))))
          (left met))
      allowing h true e = showing h e (y.shows (here met).state move) refl
      allowing h false e = (h, same_met met inv h (λ b. absurd (false≢true (sym e ∙ b))))

      at_place : (t : Bool) → ltb (p / y.moves) (length met) ≡ t → Keeps met (cond t (try_move y met (here met) move) past)
      at_place true e = allowing (ltb-true _ _ e) (y.allows (here met).state move) refl
      at_place false e = ltb-false _ _ e
