-- Of the shortest lists of moves that show it, the one found stands first: by the number of its start, then move by move.
use Prim.Native.Nat.{ℕ, zero, suc, ◌+◌, ◌*◌, ◌/◌, ◌%◌, ◌≤◌, ◌<◌}
use mathlib.Core.Path.{◌≡◌, refl, sym, ap, ap₂, ◌∙◌, subst}
use mathlib.Core.Bool.{Bool, true, false, cond, ◌&&◌, ◌||◌, false≢true}
use mathlib.Core.Logic.{◌⊎◌, inl, inr}
use mathlib.Core.List.{List, [], ◌∷◌, ◌++◌, map, append-nil}
use native.Mathlib.Nat.{mod-lt, mul-le-mul_right, suc-mul, div-add-mod'}
use native.Mathlib.Decide.{dec_le}
use native.Mathlib.Omega.{arith}
use borrow.Author.Tests.{ltb-true, eqb-true}
use lib.Dec.{eqb, ltb}
use lib.ListN.{length, get_or, length-append}
use Rattle.plan.specs.Circuit.{has, index}
use Rattle.laws.proofs.Reading.Members.{distinct}
use Rattle.laws.proofs.Running.Lists.{index_at, absent}
use Rattle.plan.specs.Search.{System, shows_by, Leads, AllMoves, Before, ranked, Best, Way, begin, state_of, onward, meet, Tried, past, shown, left, try_move, try_at, Found, never, happens, undecided, at_end, go_on, search_from, search_all}
use Rattle.search.specs.Rows.{at, depth, Sits, Met}
use Rattle.search.proofs.Breadth.{length_more, at_old, at_new, has-place, before-tried}
use Rattle.search.proofs.Trying.{Keeps, try-keeps}
use Rattle.search.proofs.Answers.{Happens, Means, last-shows, all-means, met_start, at-begin, depth-begin, begin-length}

-- the order of lists
before-not : (k : List ℕ) → Before k k → ⊥
before-not [] h = h
before-not (a ∷ k) (inl h) = omega arith
before-not (a ∷ k) (inr h) = before-not k h.1

before-trans : (k l m : List ℕ) → Before k l → Before l m → Before k m
before-trans [] l m h q = absurd h
before-trans (a ∷ k) [] m h q = absurd h
before-trans (a ∷ k) (b ∷ l) [] h q = absurd q
before-trans (a ∷ k) (b ∷ l) (c ∷ m) (inl h) (inl q) = inl (omega arith)
before-trans (a ∷ k) (b ∷ l) (c ∷ m) (inl h) (inr q) = inl (omega (arith, q.0))
before-trans (a ∷ k) (b ∷ l) (c ∷ m) (inr h) (inl q) = inl (omega (arith, h.0))
before-trans (a ∷ k) (b ∷ l) (c ∷ m) (inr h) (inr q) = inr (h.0 ∙ q.0, before-trans k l m h.1 q.1)

snoc-before : (k l : List ℕ) (m n : ℕ) → length k ≡ length l → Before (k ++ (m ∷ [])) (l ++ (n ∷ [])) → Before k l ⊎ ((k ≡ l) × (m < n))
snoc-before [] [] m n e (inl h) = inr (refl, h)
snoc-before [] [] m n e (inr h) = absurd h.1
snoc-before [] (b ∷ l) m n e h = absurd (omega arith)
snoc-before (a ∷ k) [] m n e h = absurd (omega arith)
snoc-before (a ∷ k) (b ∷ l) m n e (inl h) = inl (inl h)
snoc-before (a ∷ k) (b ∷ l) m n e (inr h) = go (snoc-before k l m n (omega arith) h.1)
  where
    go : Before k l ⊎ ((k ≡ l) × (m < n)) → Before (a ∷ k) (b ∷ l) ⊎ ((a ∷ k ≡ b ∷ l) × (m < n))
    go (inl q) = inl (inr (h.0, q))
    go (inr q) = inr (ap₂ (λ (x : ℕ) (t : List ℕ). x ∷ t) h.0 q.0, q.1)

before-snoc : (k l : List ℕ) (m n : ℕ) → length k ≡ length l → Before k l → Before (k ++ (m ∷ [])) (l ++ (n ∷ []))
before-snoc [] l m n e h = absurd h
before-snoc (a ∷ k) [] m n e h = absurd h
before-snoc (a ∷ k) (b ∷ l) m n e (inl h) = inl h
before-snoc (a ∷ k) (b ∷ l) m n e (inr h) = inr (h.0, before-snoc k l m n (omega arith) h.1)

last-before : (k : List ℕ) (m n : ℕ) → m < n → Before (k ++ (m ∷ [])) (k ++ (n ∷ []))
last-before [] m n h = inl h
last-before (a ∷ k) m n h = inr (refl, last-before k m n h)

module _ (y : System) where
  abbrev key : Way → List ℕ
  key w = ranked y w.start w.list

  -- the last of some moves
  record Last (s : ℕ) (list : List ℕ) (t : ℕ) : Type 0 where
    front : List ℕ
    last : ℕ
    mid : ℕ
    whole : list ≡ front ++ (last ∷ [])
    leads : Leads y s front mid
    small : last < y.moves
    allowed : y.allows mid last ≡ true
    to : y.next mid last ≡ t

  leads-last : (list : List ℕ) (s t m : ℕ) → Leads y s (m ∷ list) t → Last s (m ∷ list) t
  leads-last [] s t m l = record { front = []; last = m; mid = s; whole = refl; leads = refl; small = l.0; allowed = l.1; to = l.2 }
  leads-last (n ∷ list) s t m l =
      let r = leads-last list (y.next s m) t n l.2 in
      record {
        front = m ∷ r.front;
        last = r.last;
        mid = r.mid;
        whole = ap (λ (x : List ℕ). m ∷ x) r.whole;
        leads = (l.0, l.1, r.leads);
        small = r.small;
        allowed = r.allowed;
        to = r.to;
      }

  some-last : (list : List ℕ) (s t d : ℕ) → length list ≡ suc d → Leads y s list t → Last s list t
  some-last [] s t d e l = absurd (omega arith)
  some-last (m ∷ list) s t d e l = leads-last list s t m l

  -- where moves show it first
  record Showing (s : ℕ) (list : List ℕ) : Type 0 where
    front : List ℕ
    last : ℕ
    mid : ℕ
    rest : List ℕ
    whole : list ≡ (front ++ (last ∷ [])) ++ rest
    leads : Leads y s front mid
    small : last < y.moves
    moves : AllMoves y (front ++ (last ∷ []))
    allowed : y.allows mid last ≡ true
    seen : y.shows mid last ≡ true

  showing : (list : List ℕ) (s : ℕ) → AllMoves y list → shows_by y s list ≡ true → Showing s list
  showing [] s a e = absurd (false≢true e)
  showing (m ∷ list) s a e = go (y.allows s m) refl (y.shows s m) refl e (λ q. showing list (y.next s m) a.1 q)
    where
      go : (b : Bool) → y.allows s m ≡ b → (d : Bool) → y.shows s m ≡ d → (b && (d || shows_by y (y.next s m) list)) ≡ true
          → (shows_by y (y.next s m) list ≡ true → Showing (y.next s m) list) → Showing s (m ∷ list)
      go false p d q h f = absurd (false≢true h)
      go true p true q h f = record {
        front = [];
        last = m;
        mid = s;
        rest = list;
        whole = refl;
        leads = refl;
        small = a.0;
        moves = (a.0, tt);
        allowed = p;
        seen = q;
      }
      go true p false q h f =
          let r = f h in
          record {
            front = m ∷ r.front;
            last = r.last;
            mid = r.mid;
            rest = r.rest;
            whole = ap (λ (x : List ℕ). m ∷ x) r.whole;
            leads = (a.0, p, r.leads);
            small = r.small;
            moves = (a.0, r.moves);
            allowed = r.allowed;
            seen = r.seen;
          }

  -- where a state that was met came from
  record Came (p : ℕ) (met : List Way) (i : ℕ) : Type 0 where
    place : ℕ
    move : ℕ
    within : place < length met
    small : move < y.moves
    tried : place * y.moves + move < p
    is-it : at met i ≡ onward y (at met place) move

  -- what holds besides, after p tries: among states met by as many moves the earlier stands before, and no other way of that length to it does
  record First (p : ℕ) (met : List Way) : Type 0 where
    sorted : (i j : ℕ) → i < j → j < length met → depth met i ≡ depth met j → Before (key (at met i)) (key (at met j))
    least : (i : ℕ) → i < length met → (s : ℕ) (list : List ℕ) → has s y.starts ≡ true → Leads y s list (at met i).state
        → length list ≡ depth met i → Before (ranked y s list) (key (at met i)) → ⊥
    came : (i : ℕ) → i < length met → (depth met i ≡ 0) ⊎ Came p met i

  module _ (pos : 0 < y.moves) (p : ℕ) (met : List Way) (inv : Met y p met) (fst : First p met) (h : p / y.moves < length met) where
    abbrev e : ℕ
    e = p / y.moves

    abbrev m : ℕ
    m = p % y.moves

    -- all states by fewer moves than here are behind
    behind : (i n : ℕ) → i < length met → depth met i < depth met (p / y.moves) → n < y.moves → i * y.moves + n < p
    behind i n hi q hn = before-tried y.moves pos i n p hn (go (dec_le (p / y.moves) i))
      where
        go : Dec (p / y.moves ≤ i) → i < p / y.moves
        go (yes k) = absurd (omega (arith, inv.rising (p / y.moves) i k hi))
        go (no k) = omega arith

    -- what as many moves lead to is met
    near-met : (list : List ℕ) (s d t : ℕ) → Sits met s d → Leads y s list t → d + length list ≤ depth met (p / y.moves)
        → Sits met t (d + length list)
    near-met [] s d t k l q = subst (λ (u : ℕ). Sits met u (d + 0)) l (Rattle.search.proofs.Breadth.sits-weak met s d (d + 0) (omega arith) k)
    near-met (n ∷ list) s d t k l q =
        Rattle.search.proofs.Breadth.sits-weak met t (suc (depth met k.place) + length list) (d + suc (length list)) (omega (arith, k.near))
        (near-met list (y.next s n) (suc (depth met k.place)) t
        (subst (λ (u : ℕ). Sits met (y.next u n) (suc (depth met k.place))) k.is-it
        (inv.onwards k.place n k.within l.0 (behind k.place n k.within (omega (arith, k.near)) l.0)
        (ap (λ (u : ℕ). y.allows u n) k.is-it ∙ l.1)))
        l.2 (omega (arith, k.near)))

    -- a try that is not behind stands not before this one
    not-before : (i n s : ℕ) (list : List ℕ) → i < length met → n < y.moves → (i * y.moves + n < p → ⊥) → has s y.starts ≡ true
        → Leads y s list (at met i).state → length list ≡ depth met (p / y.moves) → depth met i ≤ depth met (p / y.moves)
        → Before (ranked y s list ++ (n ∷ [])) (key (at met (p / y.moves)) ++ (p % y.moves ∷ [])) → ⊥
    not-before i n s list hi hn open' hs l e1 e2 b =
        go (dec_le (suc i) (p / y.moves)) (dec_le (suc (p / y.moves)) i)
        (snoc-before (ranked y s list) (key (at met (p / y.moves))) n (p % y.moves) (ap suc e1) b)
      where
        deep : p / y.moves ≤ i → depth met i ≡ depth met (p / y.moves)
        deep q = omega (arith, inv.rising (p / y.moves) i q hi)

        here : i ≡ p / y.moves → n < p % y.moves → ⊥
        here q r = open' (subst (λ (k : ℕ). k * y.moves + n < p) (sym q) (omega (arith, div-add-mod' p y.moves)))

        go : Dec (suc i ≤ p / y.moves) → Dec (suc (p / y.moves) ≤ i)
            → Before (ranked y s list) (key (at met (p / y.moves))) ⊎ ((ranked y s list ≡ key (at met (p / y.moves))) × (n < p % y.moves)) → ⊥
        go (yes q) r c = open' (before-tried y.moves pos i n p hn q)
        go (no q) (no r) (inl c) =
            let same : p / y.moves ≡ i = omega arith in
            fst.least i hi s list hs l (e1 ∙ sym (deep (omega arith))) (subst (λ (k : ℕ). Before (ranked y s list) (key (at met k))) same c)
        go (no q) (no r) (inr c) = here (omega arith) c.1
        go (no q) (yes r) (inl c) =
            fst.least i hi s list hs l (e1 ∙ sym (deep (omega arith)))
            (before-trans (ranked y s list) (key (at met (p / y.moves))) (key (at met i)) c
            (fst.sorted (p / y.moves) i r hi (sym (deep (omega arith)))))
        go (no q) (yes r) (inr c) =
            fst.least i hi s list hs l (e1 ∙ sym (deep (omega arith)))
            (subst (λ (k : List ℕ). Before k (key (at met i))) (sym c.0) (fst.sorted (p / y.moves) i r hi (sym (deep (omega arith)))))

    -- the next try
    came-next : (i : ℕ) → (depth met i ≡ 0) ⊎ Came p met i → (depth met i ≡ 0) ⊎ Came (p + 1) met i
    came-next i (inl q) = inl q
    came-next i (inr c) = inr (record {
      place = c.place;
      move = c.move;
      within = c.within;
      small = c.small;
      tried = omega (arith, c.tried);
      is-it = c.is-it;
    })

    first-same : First (p + 1) met
    first-same = record { sorted = fst.sorted; least = fst.least; came = λ i hi. came-next i (fst.came i hi) }

    -- a new state
    abbrev w : Way
    w = onward y (at met (p / y.moves)) (p % y.moves)

    abbrev met' : List Way
    met' = met ++ (onward y (at met (p / y.moves)) (p % y.moves) ∷ [])

    depth-new : length (onward y (at met (p / y.moves)) (p % y.moves)).list ≡ suc (depth met (p / y.moves))
    depth-new = omega (arith, length-append (at met (p / y.moves)).list (p % y.moves ∷ []))

    -- states met by one move more than here stand before the new one
    sorted-new : (i : ℕ) → i < length met → depth met i ≡ suc (depth met (p / y.moves)) → Before (key (at met i)) (key w)
    sorted-new i hi q = go (fst.came i hi)
      where
        go : (depth met i ≡ 0) ⊎ Came p met i → Before (key (at met i)) (key (onward y (at met (p / y.moves)) (p % y.moves)))
        go (inl z) = absurd (omega arith)
        go (inr c) =
            subst (λ (v : Way). Before (key v) (key (onward y (at met (p / y.moves)) (p % y.moves)))) (sym c.is-it) (by (dec_le (suc c.place)
            (p / y.moves)))
          where
            same-depth : depth met c.place ≡ depth met (p / y.moves)
            same-depth =
                omega (arith, ap (λ (v : Way). length v.list) c.is-it, length-append (at met c.place).list (c.move ∷ []), q)

            by : Dec (suc c.place ≤ p / y.moves) → Before (key (onward y (at met c.place) c.move)) (key (onward y (at met (p / y.moves))
                (p % y.moves)))
            by (yes r) =
                before-snoc (key (at met c.place)) (key (at met (p / y.moves))) c.move (p % y.moves) (ap suc same-depth)
                (fst.sorted c.place (p / y.moves) r h same-depth)
            by (no r) = same (dec_le (suc (p / y.moves)) c.place)
              where
                same : Dec (suc (p / y.moves) ≤ c.place) → Before (key (onward y (at met c.place) c.move)) (key (onward y (at met (p / y.moves)) (p % y.moves)))
                same (yes k) =
                    absurd (omega (
                      arith,
                      c.tried,
                      suc-mul (p / y.moves) y.moves,
                      mul-le-mul_right {m = suc (p / y.moves)} {n = c.place} y.moves k,
                      div-add-mod' p y.moves,
                      mod-lt p pos,
                    ))
                same (no k) =
                    let f : p / y.moves ≡ c.place = omega arith in
                    subst (λ (j : ℕ). Before (key (onward y (at met j) c.move)) (key (onward y (at met (p / y.moves)) (p % y.moves)))) f
                    (last-before (key (at met (p / y.moves))) c.move (p % y.moves) (small f c.tried))
                  where
                    small : p / y.moves ≡ c.place → c.place * y.moves + c.move < p → c.move < p % y.moves
                    small f t =
                        let t' : p / y.moves * y.moves + c.move < p = subst (λ (j : ℕ). j * y.moves + c.move < p) (sym f) t in
                        omega (arith, div-add-mod' p y.moves)

    -- no other way of that length to a state not yet met
    least-new : has (y.next (at met (p / y.moves)).state (p % y.moves)) (map state_of met) ≡ false → (s : ℕ) (list : List ℕ)
        → has s y.starts ≡ true → Leads y s list (y.next (at met (p / y.moves)).state (p % y.moves))
        → length list ≡ suc (depth met (p / y.moves)) → Before (ranked y s list) (key w) → ⊥
    least-new out s list hs l q b =
        let r = some-last list s (y.next (at met (p / y.moves)).state (p % y.moves)) (depth met (p / y.moves)) q l in
        let long : length r.front ≡ depth met (p / y.moves) = omega (arith, ap length r.whole, length-append r.front (r.last ∷ [])) in
        let k = near-met r.front s 0 r.mid (inv.begun s hs) r.leads (omega arith) in
        not-before k.place r.last s r.front k.within r.small
        (λ t. false≢true (sym out ∙ known r k t)) hs
        (subst (Leads y s r.front) (sym k.is-it) r.leads) long (omega (arith, k.near))
        (subst (λ (x : List ℕ). Before (ranked y s x) (key w)) r.whole b)
      where
        known : (r : Last s list (y.next (at met (p / y.moves)).state (p % y.moves))) (k : Sits met r.mid (0 + length r.front))
            → k.place * y.moves + r.last < p
            → has (y.next (at met (p / y.moves)).state (p % y.moves)) (map state_of met) ≡ true
        known r k t =
            let u = inv.onwards k.place r.last k.within r.small t (ap (λ (x : ℕ). y.allows x r.last) k.is-it ∙ r.allowed) in
            subst (λ (x : ℕ). has x (map state_of met) ≡ true)
            (u.is-it ∙ ap (λ (x : ℕ). y.next x r.last) k.is-it ∙ r.to) (has-place met u.place u.within)

    first_more : has (y.next (at met (p / y.moves)).state (p % y.moves)) (map state_of met) ≡ false → First (p + 1) met'
    first_more out = record {
      sorted = λ i j k hj q. sorted i j k hj q (dec_le (suc j) (length met));
      least = λ i hi. least i hi (dec_le (suc i) (length met));
      came = λ i hi. came i hi (dec_le (suc i) (length met));
    }
      where
        old : (i : ℕ) → i < length met → at met' i ≡ at met i
        old i hi = at_old met w i hi

        new : (i : ℕ) → i < length met' → (suc i ≤ length met → ⊥) → at met' i ≡ w
        new i hi k =
            let f : length met ≡ i = omega (arith, length_more met w) in
            ap (at met') (sym f) ∙ at_new met w

        sorted : (i j : ℕ) → i < j → j < length met' → depth met' i ≡ depth met' j → Dec (suc j ≤ length met)
            → Before (key (at met' i)) (key (at met' j))
        sorted i j k hj q (yes r) =
            subst (λ (v : Way). Before (key v) (key (at met' j))) (sym (old i (omega arith)))
            (subst (λ (v : Way). Before (key (at met i)) (key v)) (sym (old j r))
            (fst.sorted i j k r
            (ap (λ (v : Way). length v.list) (sym (old i (omega arith))) ∙ q ∙ ap (λ (v : Way). length v.list) (old j r))))
        sorted i j k hj q (no r) =
            let hi : i < length met = omega (arith, length_more met w) in
            subst (λ (v : Way). Before (key v) (key (at met' j))) (sym (old i hi))
            (subst (λ (v : Way). Before (key (at met i)) (key v)) (sym (new j hj r))
            (sorted-new i hi
            (ap (λ (v : Way). length v.list) (sym (old i hi)) ∙ q ∙ ap (λ (v : Way). length v.list) (new j hj r) ∙ depth-new)))

        least : (i : ℕ) → i < length met' → Dec (suc i ≤ length met) → (s : ℕ) (list : List ℕ) → has s y.starts ≡ true
            → Leads y s list (at met' i).state → length list ≡ depth met' i → Before (ranked y s list) (key (at met' i)) → ⊥
        least i hi (yes r) =
            subst (λ (v : Way). (s : ℕ) (list : List ℕ) → has s y.starts ≡ true → Leads y s list v.state → length list ≡ length v.list
            → Before (ranked y s list) (key v) → ⊥)
            (sym (old i r)) (fst.least i r)
        least i hi (no r) =
            subst (λ (v : Way). (s : ℕ) (list : List ℕ) → has s y.starts ≡ true → Leads y s list v.state → length list ≡ length v.list
            → Before (ranked y s list) (key v) → ⊥)
            (sym (new i hi r)) (λ s list hs l q b. least-new out s list hs l (q ∙ depth-new) b)

        came : (i : ℕ) → i < length met' → Dec (suc i ≤ length met) → (depth met' i ≡ 0) ⊎ Came (p + 1) met' i
        came i hi (yes r) = go (fst.came i r)
          where
            go : (depth met i ≡ 0) ⊎ Came p met i → (depth met' i ≡ 0) ⊎ Came (p + 1) met' i
            go (inl z) = inl (ap (λ (v : Way). length v.list) (old i r) ∙ z)
            go (inr c) = inr (record {
              place = c.place;
              move = c.move;
              within = omega (arith, c.within, length_more met w);
              small = c.small;
              tried = omega (arith, c.tried);
              is-it = old i r ∙ c.is-it ∙ ap (λ (v : Way). onward y v c.move) (sym (old c.place c.within));
            })
        came i hi (no r) = inr (record {
          place = p / y.moves;
          move = p % y.moves;
          within = omega (arith, length_more met w);
          small = mod-lt p pos;
          tried = omega (arith, div-add-mod' p y.moves);
          is-it = new i hi r ∙ ap (λ (v : Way). onward y v (p % y.moves)) (sym (old (p / y.moves) h));
        })

    -- shown here: no list of that length which shows it stands before
    shown-first : y.allows (at met (p / y.moves)).state (p % y.moves) ≡ true → y.shows (at met (p / y.moves)).state (p % y.moves) ≡ true
        → (s : ℕ) (front : List ℕ) (last mid : ℕ) → has s y.starts ≡ true → Leads y s front mid → last < y.moves → y.allows mid last ≡ true
        → y.shows mid last ≡ true → length front ≡ depth met (p / y.moves)
        → Before (ranked y s (front ++ (last ∷ []))) (key w) → ⊥
    shown-first a0 s0 s front last mid hs l hn a se q b =
        let k = near-met front s 0 mid (inv.begun s hs) l (omega arith) in
        not-before k.place last s front k.within hn
        (λ t. false≢true
        (sym (inv.unseen k.place last k.within hn t (ap (λ (x : ℕ). y.allows x last) k.is-it ∙ a))
        ∙ ap (λ (x : ℕ). y.shows x last) k.is-it ∙ se))
        hs (subst (Leads y s front) (sym k.is-it) l) q (omega (arith, k.near)) b

  -- a try keeps it
  module _ (pos : 0 < y.moves) where
    abbrev FirstKeeps : ℕ → Tried → Type 0
    FirstKeeps p past = Unit {0}
    FirstKeeps p (shown v) = Unit {0}
    FirstKeeps p (left later) = First (p + 1) later

    try-first : (p : ℕ) (met : List Way) → Met y p met → First p met → FirstKeeps p (try_at y p met)
    try-first p met inv fst = at_place (ltb (p / y.moves) (length met)) refl
      where
        again : p / y.moves < length met → (t : Bool) → has (y.next (at met (p / y.moves)).state (p % y.moves)) (map state_of met) ≡ t
            → First (p + 1) (cond t met (met ++ (onward y (at met (p / y.moves)) (p % y.moves) ∷ [])))
        again h true q = first-same pos p met inv fst h
        again h false q = first_more pos p met inv fst h q

        seeing : p / y.moves < length met → (t : Bool)
            → FirstKeeps p (cond t (shown (onward y (at met (p / y.moves)) (p % y.moves))) (left (meet met (onward y (at met (p / y.moves)) (p % y.moves)))))
        seeing h true = tt
        seeing h false = again h (has (y.next (at met (p / y.moves)).state (p % y.moves)) (map state_of met)) refl

        allowing : p / y.moves < length met → (t : Bool)
            → FirstKeeps p (cond t (cond (y.shows (at met (p / y.moves)).state (p % y.moves)) (shown (onward y (at met (p / y.moves)) (p % y.moves)))
            (left (meet met (onward y (at met (p / y.moves)) (p % y.moves))))) (left met))
        allowing h true = seeing h (y.shows (at met (p / y.moves)).state (p % y.moves))
        allowing h false = first-same pos p met inv fst h

        at_place : (t : Bool) → ltb (p / y.moves) (length met) ≡ t → FirstKeeps p (cond t (try_move y met (at met (p / y.moves)) (p % y.moves)) past)
        at_place true q = allowing (ltb-true _ _ q) (y.allows (at met (p / y.moves)).state (p % y.moves))
        at_place false q = tt

    -- what was found: of the lists that are as short and show it, none stands before
    abbrev pub Foremost : Found → Type 0
    Foremost (never n t) = Unit {0}
    Foremost (happens v t) = (s : ℕ) (front : List ℕ) (last mid : ℕ) → has s y.starts ≡ true → Leads y s front mid → last < y.moves
        → y.allows mid last ≡ true → y.shows mid last ≡ true → suc (length front) ≡ length v.list
        → Before (ranked y s (front ++ (last ∷ []))) (ranked y v.start v.list) → ⊥
    Foremost (undecided t) = Unit {0}

    search-foremost : (a p : ℕ) (met : List Way) → Met y p met → First p met → Foremost (search_from y a p met)
    search-foremost zero p met inv fst = go (try_at y p met)
      where
        go : (r : Tried) → Foremost (at_end r p met)
        go past = tt
        go (shown v) = tt
        go (left later) = tt
    search-foremost (suc a) p met inv fst =
        go (λ later i f. search-foremost a (p + 1) later i f) (try_at y p met) (try-keeps y pos p met inv) (try-first p met inv fst)
      where
        go : ((later : List Way) → Met y (p + 1) later → First (p + 1) later → Foremost (search_from y a (p + 1) later)) → (r : Tried)
            → Keeps y pos p met r → FirstKeeps p r → Foremost (go_on (λ (later : List Way). search_from y a (p + 1) later) r p met)
        go more past k f = tt
        go more (shown v) k f = λ s front last mid hs l hn al se q b.
            let i = k.is-it in
            shown-first pos p met inv fst k.there k.allowed k.seen s front last mid hs l hn al se
            (omega (arith, ap (λ (x : Way). length x.list) i, length-append (at met (p / y.moves)).list (p % y.moves ∷ [])))
            (subst (λ (x : Way). Before (ranked y s (front ++ (last ∷ []))) (ranked y x.start x.list)) i b)
        go more (left later) k f = more later k.1 f

    module _ (once : distinct y.starts ≡ true) where
      first-start : First 0 (map begin y.starts)
      first-start = record {
        sorted = λ i j k hj q. sorted i j k hj;
        least = λ i hi s list hs l q b. least i hi s list l (q ∙ depth-begin y pos once i) b;
        came = λ i hi. inl (depth-begin y pos once i);
      }
        where
          rank : (i : ℕ) → i < length (map begin y.starts) → index (get_or y.starts i 0) y.starts ≡ i
          rank i hi = index_at y.starts once i (omega (arith, begin-length y pos once y.starts))

          sorted : (i j : ℕ) → i < j → j < length (map begin y.starts) → Before (key (at (map begin y.starts) i)) (key (at (map begin y.starts) j))
          sorted i j k hj =
              subst (λ (v : Way). Before (key v) (key (at (map begin y.starts) j))) (sym (at-begin y pos once i))
              (subst (λ (v : Way). Before (key (begin (get_or y.starts i 0))) (key v)) (sym (at-begin y pos once j))
              (inl (omega (arith, rank i (omega arith), rank j hj))))

          least : (i : ℕ) → i < length (map begin y.starts) → (s : ℕ) (list : List ℕ) → Leads y s list (at (map begin y.starts) i).state
              → length list ≡ 0 → Before (ranked y s list) (key (at (map begin y.starts) i)) → ⊥
          least i hi s [] l q b =
              before-not (ranked y s [])
              (subst (λ (v : Way). Before (ranked y s []) (key v)) (at-begin y pos once i ∙ ap begin (sym (l ∙ ap state_of (at-begin y pos once i)))) b)
          least i hi s (x ∷ list) l q b = absurd (omega arith)

      pub all-foremost : (allowance : ℕ) → Foremost (search_all y allowance)
      all-foremost a = search-foremost a 0 (map begin y.starts) (met_start y pos once) first-start

      -- the same of any list of moves that shows it
      pub found_first : (allowance t : ℕ) (v : Way) → search_all y allowance ≡ happens v t → (s : ℕ) (list : List ℕ) → has s y.starts ≡ true
          → AllMoves y list → length list ≡ length v.list → shows_by y s list ≡ true → Before (ranked y s list) (ranked y v.start v.list) → ⊥
      found_first a t v f s list hs al q sh b =
          let r = showing list s al sh in
          let hap : Happens y v t a = subst (Means y a) f (all-means y pos once a) in
          let fore : Foremost (happens v t) = subst Foremost f (all-foremost a) in
          let long : length v.list ≤ length (r.front ++ (r.last ∷ [])) = enough hap r (dec_le (length v.list) (length (r.front ++ (r.last ∷ [])))) in
          let none : r.rest ≡ [] =
          empty r.rest (omega (arith, ap length r.whole, length-append (r.front ++ (r.last ∷ [])) r.rest)) in
          let whole : list ≡ r.front ++ (r.last ∷ []) =
          r.whole ∙ ap (λ (x : List ℕ). (r.front ++ (r.last ∷ [])) ++ x) none ∙ append-nil (r.front ++ (r.last ∷ [])) in
          fore s r.front r.last r.mid hs r.leads r.small r.allowed r.seen
          (omega (arith, ap length whole, length-append r.front (r.last ∷ [])))
          (subst (λ (x : List ℕ). Before (ranked y s x) (ranked y v.start v.list)) whole b)
        where
          empty : (l : List ℕ) → length l ≡ 0 → l ≡ []
          empty [] k = refl
          empty (x ∷ l) k = absurd (omega arith)

          enough : Happens y v t a → (r : Showing s list) → Dec (length v.list ≤ length (r.front ++ (r.last ∷ [])))
              → length v.list ≤ length (r.front ++ (r.last ∷ []))
          enough hap r (yes k) = k
          enough hap r (no k) =
              absurd (false≢true
              (sym (hap.shortest s (r.front ++ (r.last ∷ [])) hs r.moves (omega arith))
              ∙ last-shows y s r.front r.mid r.last r.leads r.allowed r.seen))

      -- what is found is the best
      pub found-best : (allowance t : ℕ) (v : Way) → search_all y allowance ≡ happens v t → Best y v.start v.list
      found-best a t v f =
          let hap : Happens y v t a = subst (Means y a) f (all-means y pos once a) in
          record {
            from = hap.from;
            moves = hap.moves;
            shows = hap.shows;
            shortest = hap.shortest;
            foremost = λ r other hr am q b. absent (shows_by y r other) (λ sh. found_first a t v f r other hr am q sh b);
          }

-- of which there is one
before-either : (k l : List ℕ) → length k ≡ length l → Before k l ⊎ ((k ≡ l) ⊎ Before l k)
before-either [] [] e = inr (inl refl)
before-either [] (b ∷ l) e = absurd (omega arith)
before-either (a ∷ k) [] e = absurd (omega arith)
before-either (a ∷ k) (b ∷ l) e = go (dec_le (suc a) b) (dec_le (suc b) a) (before-either k l (omega arith))
  where
    go : Dec (suc a ≤ b) → Dec (suc b ≤ a) → Before k l ⊎ ((k ≡ l) ⊎ Before l k)
        → Before (a ∷ k) (b ∷ l) ⊎ ((a ∷ k ≡ b ∷ l) ⊎ Before (b ∷ l) (a ∷ k))
    go (yes h) d r = inl (inl h)
    go (no h) (yes q) r = inr (inr (inl q))
    go (no h) (no q) (inl r) = inl (inr (omega arith, r))
    go (no h) (no q) (inr (inl r)) = let f : a ≡ b = omega arith in inr (inl (ap₂ (λ (x : ℕ) (t : List ℕ). x ∷ t) f r))
    go (no h) (no q) (inr (inr r)) = inr (inr (inr (omega arith, r)))

index_back : (s : ℕ) (xs : List ℕ) → has s xs ≡ true → get_or xs (index s xs) 0 ≡ s
index_back s [] h = absurd (false≢true h)
index_back s (x ∷ xs) h = go (eqb x s) refl h (index_back s xs)
  where
    go : (t : Bool) → eqb x s ≡ t → (t || has s xs) ≡ true → (has s xs ≡ true → get_or xs (index s xs) 0 ≡ s)
        → get_or (x ∷ xs) (cond t zero (suc (index s xs))) 0 ≡ s
    go true e q f = eqb-true x s e
    go false e q f = f q

head_of : (a b : ℕ) (k l : List ℕ) → a ∷ k ≡ b ∷ l → a ≡ b
head_of a b k l e = cc

tail_of : (a b : ℕ) (k l : List ℕ) → a ∷ k ≡ b ∷ l → k ≡ l
tail_of a b k l e = cc

pub best-once : (y : System) (s r : ℕ) (list other : List ℕ) → Best y s list → Best y r other → (s ≡ r) × (list ≡ other)
best-once y s r list other p q =
    go (before-either (ranked y s list) (ranked y r other) (ap suc same_length))
  where
    same_length : length list ≡ length other
    same_length = by (dec_le (suc (length list)) (length other)) (dec_le (suc (length other)) (length list))
      where
        by : Dec (suc (length list) ≤ length other) → Dec (suc (length other) ≤ length list) → length list ≡ length other
        by (yes h) d = absurd (false≢true (sym (q.shortest s list p.from p.moves h) ∙ p.shows))
        by (no h) (yes d) = absurd (false≢true (sym (p.shortest r other q.from q.moves d) ∙ q.shows))
        by (no h) (no d) = omega arith

    go : Before (ranked y s list) (ranked y r other) ⊎ ((ranked y s list ≡ ranked y r other) ⊎ Before (ranked y r other) (ranked y s list))
        → (s ≡ r) × (list ≡ other)
    go (inl b) = absurd (false≢true (sym (q.foremost s list p.from p.moves same_length b) ∙ p.shows))
    go (inr (inl e)) = (
      sym (index_back s y.starts p.from) ∙ ap (λ (n : ℕ). get_or y.starts n 0) (head_of _ _ list other e)
          ∙ index_back r y.starts q.from,
      tail_of (index s y.starts) (index r y.starts) list other e,
    )
    go (inr (inr b)) = absurd (false≢true (sym (p.foremost r other q.from q.moves (sym same_length) b) ∙ q.shows))
