-- For the code: the states met as rows of three words, their marks as bits, and the search turn by turn.
use Prim.Native.Nat.{ℕ, zero, suc, ◌+◌, ◌*◌, ◌/◌, ◌%◌, ◌≤◌, ◌<◌}
use mathlib.Core.Path.{◌≡◌, refl, sym, ap, ap₂, ◌∙◌, subst}
use mathlib.Core.Bool.{Bool, true, false, cond, ◌||◌, false≢true}
use mathlib.Core.List.{List, [], ◌∷◌, ◌++◌, map}
use native.Mathlib.Decide.{dec_le}
use native.Mathlib.Omega.{arith}
use borrow.Author.Tests.{eqb-true, eq-eqb, ne_eqb, lt-ltb, le-ltb}
use lib.Dec.{eqb}
use lib.ListN.{length, get_or, set, length-append, length-set}
use lib.Seq.{get_or-set_same, get_or-set_other}
use Rattle.tables.specs.bitmap.Bitmap.{is_on, raised}
use Rattle.tables.proofs.bitmap.Telling.{raised-on, raised-others}
use Rattle.plan.specs.Circuit.{has}
use Rattle.laws.proofs.Reading.Members.{distinct}
use Rattle.plan.specs.Search.{System, Reached, Way, begin, state_of, onward, meet, Tried, past, shown, left, try_move, try_at, never, happens, undecided, at_end, go_on, search_from}
use Rattle.search.specs.Rows.{at, Met}
use Rattle.search.proofs.Breadth.{length_more, at_old, at_new, map_snoc, has-snoc, distinct_snoc, leads-snoc}
use Rattle.search.proofs.Answers.{length-states, met-reached}
use Rattle.search.proofs.Deciding.{few}
use Rattle.search.specs.Rows.{From, Rows, Marked, new_row}

-- the search, turn by turn: the tests in the order of the code
module _ (y : System) (a p : ℕ) (met : List Way) where
  abbrev here : Way
  here = at met (p / y.moves)

  abbrev move : ℕ
  move = p % y.moves

  pub turn-past : length met ≤ p / y.moves → search_from y a p met ≡ never (length met) p
  turn-past h = go a (ap (λ (t : Bool). cond t (try_move y met here move) past) (le-ltb (p / y.moves) (length met) h))
    where
      go : (b : ℕ) → try_at y p met ≡ past → search_from y b p met ≡ never (length met) p
      go zero e = ap (λ (r : Tried). at_end r p met) e
      go (suc b) e = ap (λ (r : Tried). go_on (λ (later : List Way). search_from y b (p + 1) later) r p met) e

  module _ (h : p / y.moves < length met) where
    there : try_at y p met ≡ try_move y met here move
    there = ap (λ (t : Bool). cond t (try_move y met here move) past) (lt-ltb (p / y.moves) (length met) h)

    pub tried-barred : y.allows here.state move ≡ false → try_at y p met ≡ left met
    tried-barred e =
        there ∙ ap (λ (b : Bool). cond b (cond (y.shows here.state move) (shown (onward y here move)) (left (meet met (onward y here move)))) (left met)) e

    tried-left : y.allows here.state move ≡ true → y.shows here.state move ≡ false → try_at y p met ≡ left (meet met (onward y here move))
    tried-left e f =
        there ∙ ap₂ (λ (b d : Bool). cond b (cond d (shown (onward y here move)) (left (meet met (onward y here move)))) (left met)) e f

    pub tried-again : y.allows here.state move ≡ true → y.shows here.state move ≡ false
        → has (y.next here.state move) (map state_of met) ≡ true → try_at y p met ≡ left met
    tried-again e f g = tried-left e f ∙ ap (λ (t : Bool). left (cond t met (met ++ (onward y here move ∷ [])))) g

    pub tried-new : y.allows here.state move ≡ true → y.shows here.state move ≡ false
        → has (y.next here.state move) (map state_of met) ≡ false → try_at y p met ≡ left (met ++ (onward y here move ∷ []))
    tried-new e f g = tried-left e f ∙ ap (λ (t : Bool). left (cond t met (met ++ (onward y here move ∷ [])))) g

    pub turn-out : search_from y zero p met ≡ undecided p
    turn-out = ap (λ (r : Tried). at_end r p met) there ∙ go (y.allows here.state move) (y.shows here.state move)
      where
        go : (b d : Bool) → at_end (cond b (cond d (shown (onward y here move)) (left (meet met (onward y here move)))) (left met)) p met ≡ undecided p
        go true true = refl
        go true false = refl
        go false d = refl

    next-turn : search_from y (suc a) p met ≡ go_on (λ (later : List Way). search_from y a (p + 1) later) (try_move y met here move) p met
    next-turn = ap (λ (r : Tried). go_on (λ (later : List Way). search_from y a (p + 1) later) r p met) there

    pub turn-barred : y.allows here.state move ≡ false → search_from y (suc a) p met ≡ search_from y a (p + 1) met
    turn-barred e =
        next-turn ∙ ap (λ (b : Bool). go_on (λ (later : List Way). search_from y a (p + 1) later)
        (cond b (cond (y.shows here.state move) (shown (onward y here move)) (left (meet met (onward y here move)))) (left met)) p met) e

    pub turn-shown : y.allows here.state move ≡ true → y.shows here.state move ≡ true
        → search_from y (suc a) p met ≡ happens (onward y here move) (p + 1)
    turn-shown e f =
        next-turn ∙ ap₂ (λ (b d : Bool). go_on (λ (later : List Way). search_from y a (p + 1) later)
        (cond b (cond d (shown (onward y here move)) (left (meet met (onward y here move)))) (left met)) p met) e f

    pub turn-left : y.allows here.state move ≡ true → y.shows here.state move ≡ false
        → search_from y (suc a) p met ≡ search_from y a (p + 1) (meet met (onward y here move))
    turn-left e f =
        next-turn ∙ ap₂ (λ (b d : Bool). go_on (λ (later : List Way). search_from y a (p + 1) later)
        (cond b (cond d (shown (onward y here move)) (left (meet met (onward y here move)))) (left met)) p met) e f

    pub turn-again : y.allows here.state move ≡ true → y.shows here.state move ≡ false
        → has (y.next here.state move) (map state_of met) ≡ true → search_from y (suc a) p met ≡ search_from y a (p + 1) met
    turn-again e f g =
        turn-left e f ∙ ap (λ (t : Bool). search_from y a (p + 1) (cond t met (met ++ (onward y here move ∷ [])))) g

    pub turn-new : y.allows here.state move ≡ true → y.shows here.state move ≡ false
        → has (y.next here.state move) (map state_of met) ≡ false
        → search_from y (suc a) p met ≡ search_from y a (p + 1) (met ++ (onward y here move ∷ []))
    turn-new e f g =
        turn-left e f ∙ ap (λ (t : Bool). search_from y a (p + 1) (cond t met (met ++ (onward y here move ∷ [])))) g

module _ (table : List ℕ) (r s f m : ℕ) (room : 3 * r + 3 ≤ length table) where
  pub new0 : get_or (new_row table r s f m) (3 * r) 0 ≡ s
  new0 =
      get_or-set_other (set (set table (3 * r) s) (3 * r + 1) f) (3 * r + 2) (3 * r) m 0 (λ e. omega arith)
      ∙ get_or-set_other (set table (3 * r) s) (3 * r + 1) (3 * r) f 0 (λ e. omega arith)
      ∙ get_or-set_same table (3 * r) s 0 (omega arith)

  pub new1 : get_or (new_row table r s f m) (3 * r + 1) 0 ≡ f
  new1 =
      get_or-set_other (set (set table (3 * r) s) (3 * r + 1) f) (3 * r + 2) (3 * r + 1) m 0 (λ e. omega arith)
      ∙ get_or-set_same (set table (3 * r) s) (3 * r + 1) f 0 (omega (arith, length-set table (3 * r) s))

  new2 : get_or (new_row table r s f m) (3 * r + 2) 0 ≡ m
  new2 =
      get_or-set_same (set (set table (3 * r) s) (3 * r + 1) f) (3 * r + 2) m 0
      (omega (arith, length-set (set table (3 * r) s) (3 * r + 1) f, length-set table (3 * r) s))

  pub old-word : (k : ℕ) → k < 3 * r → get_or (new_row table r s f m) k 0 ≡ get_or table k 0
  old-word k h =
      get_or-set_other (set (set table (3 * r) s) (3 * r + 1) f) (3 * r + 2) k m 0 (λ e. omega arith)
      ∙ get_or-set_other (set table (3 * r) s) (3 * r + 1) k f 0 (λ e. omega arith)
      ∙ get_or-set_other table (3 * r) k s 0 (λ e. omega arith)

module _ (y : System) (met : List Way) where
  from_old : (w : Way) (i f m : ℕ) → i < length met → From y met i f m → From y (met ++ (w ∷ [])) i f m
  from_old w i zero m h k = at_old met w i h ∙ k ∙ ap (λ (v : Way). begin v.state) (sym (at_old met w i h))
  from_old w i (suc p) m h k =
      (k.0, at_old met w i h ∙ k.1 ∙ ap (λ (v : Way). onward y v m) (sym (at_old met w p (omega (arith, k.0)))))

  -- a new state's row
  pub rows_new : (table : List ℕ) (p m : ℕ) → Rows y met table → p < length met → 3 * length met + 3 ≤ length table
      → Rows y (met ++ (onward y (at met p) m ∷ [])) (new_row table (length met) (y.next (at met p).state m) (suc p) m)
  rows_new table p m rows hp room = record {
    state = λ i hi. state i hi (dec_le (suc i) (length met));
    from = λ i hi. from i hi (dec_le (suc i) (length met));
  }
    where
      w : Way
      w = onward y (at met p) m

      state : (i : ℕ) → i < length (met ++ (onward y (at met p) m ∷ [])) → Dec (suc i ≤ length met)
          → get_or (new_row table (length met) (y.next (at met p).state m) (suc p) m) (3 * i) 0 ≡ (at (met ++ (onward y (at met p) m ∷ [])) i).state
      state i hi (yes k) =
          old-word table (length met) (y.next (at met p).state m) (suc p) m room (3 * i) (omega arith) ∙ rows.state i k
          ∙ ap state_of (sym (at_old met (onward y (at met p) m) i k))
      state i hi (no k) =
          let e : i ≡ length met = omega (arith, length_more met (onward y (at met p) m)) in
          ap (λ (j : ℕ). get_or (new_row table (length met) (y.next (at met p).state m) (suc p) m) (3 * j) 0) e
          ∙ new0 table (length met) (y.next (at met p).state m) (suc p) m room
          ∙ ap state_of (sym (ap (at (met ++ (onward y (at met p) m ∷ []))) e ∙ at_new met (onward y (at met p) m)))

      from : (i : ℕ) → i < length (met ++ (onward y (at met p) m ∷ [])) → Dec (suc i ≤ length met)
          → From y (met ++ (onward y (at met p) m ∷ [])) i (get_or (new_row table (length met) (y.next (at met p).state m) (suc p) m) (3 * i + 1) 0)
          (get_or (new_row table (length met) (y.next (at met p).state m) (suc p) m) (3 * i + 2) 0)
      from i hi (yes k) =
          subst (λ (f : ℕ). From y (met ++ (onward y (at met p) m ∷ [])) i f
          (get_or (new_row table (length met) (y.next (at met p).state m) (suc p) m) (3 * i + 2) 0))
          (sym (old-word table (length met) (y.next (at met p).state m) (suc p) m room (3 * i + 1) (omega arith)))
          (subst (λ (n : ℕ). From y (met ++ (onward y (at met p) m ∷ [])) i (get_or table (3 * i + 1) 0) n)
          (sym (old-word table (length met) (y.next (at met p).state m) (suc p) m room (3 * i + 2) (omega arith)))
          (from_old (onward y (at met p) m) i (get_or table (3 * i + 1) 0) (get_or table (3 * i + 2) 0) k (rows.from i k)))
      from i hi (no k) =
          let e : length met ≡ i = omega (arith, length_more met (onward y (at met p) m)) in
          subst (λ (j : ℕ). From y (met ++ (onward y (at met p) m ∷ [])) j
          (get_or (new_row table (length met) (y.next (at met p).state m) (suc p) m) (3 * j + 1) 0)
          (get_or (new_row table (length met) (y.next (at met p).state m) (suc p) m) (3 * j + 2) 0)) e
          (subst (λ (f : ℕ). From y (met ++ (onward y (at met p) m ∷ [])) (length met) f
          (get_or (new_row table (length met) (y.next (at met p).state m) (suc p) m) (3 * length met + 2) 0))
          (sym (new1 table (length met) (y.next (at met p).state m) (suc p) m room))
          (subst (λ (n : ℕ). From y (met ++ (onward y (at met p) m ∷ [])) (length met) (suc p) n)
          (sym (new2 table (length met) (y.next (at met p).state m) (suc p) m room))
          (hp, at_new met (onward y (at met p) m) ∙ ap (λ (v : Way). onward y v m) (sym (at_old met (onward y (at met p) m) p hp)))))

  -- and its mark
  pub marks-new : (n : ℕ) (w : Way) (marks : List ℕ) → Marked n met marks → w.state / 32 < length marks
      → Marked n (met ++ (w ∷ [])) (raised marks 0 w.state)
  marks-new n w marks marked room s h =
      go (dec_eq s w.state) ∙ sym (has-snoc s w.state (map state_of met)) ∙ ap (has s) (sym (map_snoc met w))
    where
      dec_eq : (i j : ℕ) → Dec (i ≡ j)
      dec_eq i j = by (eqb i j) refl
        where
          by : (t : Bool) → eqb i j ≡ t → Dec (i ≡ j)
          by true e = yes (eqb-true i j e)
          by false e = no (borrow.Author.Tests.eqb-false i j e)

      or-true : (b d : Bool) → d ≡ true → true ≡ (b || d)
      or-true true d e = refl
      or-true false d e = sym e

      or-false : (b d : Bool) → d ≡ false → b ≡ (b || d)
      or-false true d e = refl
      or-false false d e = sym e

      go : Dec (s ≡ w.state) → is_on (raised marks 0 w.state) 0 s ≡ (has s (map state_of met) || eqb w.state s)
      go (yes e) =
          subst (λ (k : ℕ). is_on (raised marks 0 w.state) 0 k ≡ true) (sym e) (raised-on marks 0 w.state (omega arith))
          ∙ or-true (has s (map state_of met)) (eqb w.state s) (eq-eqb w.state s (sym e))
      go (no e) =
          raised-others marks 0 w.state (omega arith) s e ∙ marked s h
          ∙ or-false (has s (map state_of met)) (eqb w.state s) (ne_eqb w.state s (λ q. e (sym q)))

-- there is room for a new state
pub room-new : (y : System) (pos : 0 < y.moves) (once : distinct y.starts ≡ true) (n : ℕ) (small : (s : ℕ) → Reached y s → s < n) (p : ℕ)
    (met : List Way) → Met y p met → (t : ℕ) → Reached y t → has t (map state_of met) ≡ false → length met < n
room-new y pos once n small p met inv t r out =
    omega (
      arith,
      few y pos once n small (map state_of met ++ (t ∷ [])) (distinct_snoc t (map state_of met) inv.different out)
          (λ s h. reached s (has s (map state_of met)) (eqb t s) refl refl (sym (has-snoc s t (map state_of met)) ∙ h)),
      length-append (map state_of met) (t ∷ []),
      length-states y met,
    )
  where
    reached : (s : ℕ) (b d : Bool) → has s (map state_of met) ≡ b → eqb t s ≡ d → (has s (map state_of met) || eqb t s) ≡ true → Reached y s
    reached s true d e f h = met-reached y p met inv s e
    reached s false true e f h = subst (Reached y) (eqb-true t s f) r
    reached s false false e f h = absurd (false≢true (sym (ap₂ (λ (x z : Bool). x || z) e f) ∙ h))

-- back from a place to its start, by the rows: the moves, and the start
abbrev pub moves_by : (ℕ → List ℕ) → ℕ → ℕ → List ℕ
moves_by f zero m = []
moves_by f (suc p) m = f p ++ (m ∷ [])

abbrev pub moves_back : List ℕ → ℕ → ℕ → List ℕ
moves_back table zero i = []
moves_back table (suc k) i = moves_by (λ p. moves_back table k p) (get_or table (3 * i + 1) 0) (get_or table (3 * i + 2) 0)

abbrev pub start_by : (ℕ → ℕ) → ℕ → ℕ → ℕ
start_by f zero s = s
start_by f (suc p) s = f p

abbrev pub start_back : List ℕ → ℕ → ℕ → ℕ
start_back table zero i = 0
start_back table (suc k) i = start_by (λ p. start_back table k p) (get_or table (3 * i + 1) 0) (get_or table (3 * i) 0)

module _ (y : System) (met : List Way) (table : List ℕ) (rows : Rows y met table) where
  pub moves-back : (k i : ℕ) → i < k → i < length met → moves_back table k i ≡ (at met i).list
  moves-back zero i h q = absurd (omega arith)
  moves-back (suc k) i h q =
      go (get_or table (3 * i + 1) 0) (get_or table (3 * i + 2) 0) (rows.from i q) (λ p hp. moves-back k p (omega arith) (omega arith))
    where
      go : (f m : ℕ) → From y met i f m → ((p : ℕ) → p < i → moves_back table k p ≡ (at met p).list)
          → moves_by (λ p. moves_back table k p) f m ≡ (at met i).list
      go zero m e again = sym (ap (λ (w : Way). w.list) e)
      go (suc p) m e again = ap (λ (l : List ℕ). l ++ (m ∷ [])) (again p e.0) ∙ sym (ap (λ (w : Way). w.list) e.1)

  pub start_back_lem : (k i : ℕ) → i < k → i < length met → start_back table k i ≡ (at met i).start
  start_back_lem zero i h q = absurd (omega arith)
  start_back_lem (suc k) i h q =
      go (get_or table (3 * i + 1) 0) (get_or table (3 * i + 2) 0) (rows.from i q) (λ p hp. start_back_lem k p (omega arith) (omega arith))
    where
      go : (f m : ℕ) → From y met i f m → ((p : ℕ) → p < i → start_back table k p ≡ (at met p).start)
          → start_by (λ p. start_back table k p) f (get_or table (3 * i) 0) ≡ (at met i).start
      go zero m e again = rows.state i q ∙ sym (ap (λ (w : Way). w.start) e)
      go (suc p) m e again = again p e.0 ∙ sym (ap (λ (w : Way). w.start) e.1)

-- a state to which an allowed move leads is reached
pub next-reached : (y : System) (p : ℕ) (met : List Way) → Met y p met → (i m : ℕ) → i < length met → m < y.moves
    → y.allows (at met i).state m ≡ true → Reached y (y.next (at met i).state m)
next-reached y p met inv i m hi hm a =
    let w = at met i in
    let k = inv.sound i hi in
    (w.start, w.list ++ (m ∷ []), k.from, leads-snoc y w.start w.list w.state m k.leads hm a)
