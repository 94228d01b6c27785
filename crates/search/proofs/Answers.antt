-- What each answer of the search says, that an allowance for all tries decides, and that a larger one changes no answer.
use Prim.Native.Nat.{ℕ, zero, suc, ◌+◌, ◌*◌, ◌/◌, ◌%◌, ◌≤◌, ◌<◌}
use mathlib.Core.Path.{◌≡◌, refl, sym, ap, ap₂, ◌∙◌, subst}
use mathlib.Core.Bool.{Bool, true, false, ◌&&◌, ◌||◌}
use mathlib.Core.List.{List, [], ◌∷◌, ◌++◌, map}
use native.Mathlib.Nat.{mod-lt, div-lt_iff_lt-mul, le-div_iff_mul-le}
use native.Mathlib.Decide.{dec_le}
use native.Mathlib.Omega.{arith}
use lib.ListN.{length, get_or, length-append, get_or-map}
use Rattle.plan.specs.Circuit.{has}
use Rattle.laws.proofs.Reading.Members.{distinct}
use Rattle.laws.proofs.Running.Lists.{has-at}
use Rattle.plan.specs.Search.{System, shows_by, Leads, AllMoves, Reached, Way, begin, state_of, onward, Tried, past, shown, left, try_at, Found, never, happens, undecided, at_end, go_on, search_from, search_all}
use Rattle.search.specs.Rows.{at, depth, Sits, Sound, Met}
use Rattle.search.proofs.Breadth.{place_of, has-place, before-tried}
use Rattle.search.proofs.Trying.{Shown, Keeps, try-keeps}

module _ (y : System) where
  -- it never happens: no list of moves from any start shows it, and the states reached are so many
  pub record Never (number tries : ℕ) : Type 0 where
    pub nothing : (s : ℕ) (list : List ℕ) → has s y.starts ≡ true → AllMoves y list → shows_by y s list ≡ false
    pub states : List ℕ
    pub many : length states ≡ number
    pub different : distinct states ≡ true
    pub reached : (s : ℕ) → has s states ≡ true → Reached y s
    pub every : (s : ℕ) → Reached y s → has s states ≡ true
    pub tried : tries ≡ number * y.moves

  -- it happens: the moves given show it, and no shorter list of moves does
  pub record Happens (w : Way) (tries allowance : ℕ) : Type 0 where
    pub from : has w.start y.starts ≡ true
    pub moves : AllMoves y w.list
    pub shows : shows_by y w.start w.list ≡ true
    pub leads : Leads y w.start w.list w.state
    pub shortest : (s : ℕ) (list : List ℕ) → has s y.starts ≡ true → AllMoves y list → length list < length w.list
        → shows_by y s list ≡ false
    pub tried : tries ≤ allowance

  -- undecided: the allowance is used up before the moves of all states met
  pub record Undecided (tries allowance : ℕ) : Type 0 where
    pub used : tries ≡ allowance
    pub states : List ℕ
    pub different : distinct states ≡ true
    pub reached : (s : ℕ) → has s states ≡ true → Reached y s
    pub more : tries < length states * y.moves

  abbrev pub Means : ℕ → Found → Type 0
  Means allowance (never n t) = Never n t
  Means allowance (happens w t) = Happens w t allowance
  Means allowance (undecided t) = Undecided t allowance

  pub leads-moves : (s : ℕ) (list : List ℕ) (t : ℕ) → Leads y s list t → AllMoves y list
  leads-moves s [] t l = tt
  leads-moves s (m ∷ list) t l = (l.0, leads-moves (y.next s m) list t l.2)

  pub last-shows : (s : ℕ) (list : List ℕ) (t m : ℕ) → Leads y s list t → y.allows t m ≡ true → y.shows t m ≡ true
      → shows_by y s (list ++ (m ∷ [])) ≡ true
  last-shows s [] t m e a h = ap₂ (λ (b d : Bool). b && (d || false)) (ap (λ (u : ℕ). y.allows u m) e ∙ a) (ap (λ (u : ℕ). y.shows u m) e ∙ h)
  last-shows s (n ∷ list) t m l a h =
      ap (λ (b : Bool). b && (y.shows s n || shows_by y (y.next s n) (list ++ (m ∷ [])))) l.1
      ∙ or_right (y.shows s n) (shows_by y (y.next s n) (list ++ (m ∷ []))) (last-shows (y.next s n) list t m l.2 a h)
    where
      or_right : (a b : Bool) → b ≡ true → (true && (a || b)) ≡ true
      or_right true b k = refl
      or_right false b k = k

  -- the states met whose moves are all tried
  module _ (p : ℕ) (met : List Way) (inv : Met y p met) where
    module _ (far : ℕ) (tried : (i m : ℕ) → i < length met → depth met i < far → m < y.moves → i * y.moves + m < p) where
      pub none-near : (list : List ℕ) (s d : ℕ) → Sits met s d → d + length list ≤ far → AllMoves y list → shows_by y s list ≡ false
      none-near [] s d k h a = refl
      none-near (m ∷ list) s d k h a =
          ap (λ (u : ℕ). shows_by y u (m ∷ list)) (sym k.is-it)
          ∙ go (y.allows (at met k.place).state m) refl (λ r. none-near list (y.next (at met k.place).state m) (suc (depth met k.place))
          r (omega (arith, k.near)) a.1)
        where
          t : k.place * y.moves + m < p
          t = tried k.place m k.within (omega (arith, k.near)) a.0

          go : (b : Bool) → y.allows (at met k.place).state m ≡ b
              → (Sits met (y.next (at met k.place).state m) (suc (depth met k.place))
              → shows_by y (y.next (at met k.place).state m) list ≡ false)
              → (b && (y.shows (at met k.place).state m || shows_by y (y.next (at met k.place).state m) list)) ≡ false
          go false e f = refl
          go true e f =
              ap (λ (b : Bool). b || shows_by y (y.next (at met k.place).state m) list)
              (inv.unseen k.place m k.within a.0 t e)
              ∙ f (inv.onwards k.place m k.within a.0 t e)

    pub met-reached : (s : ℕ) → has s (map state_of met) ≡ true → Reached y s
    met-reached s h =
        let r = place_of met s h in
        let w = at met r.0 in
        let k = inv.sound r.0 r.1 in
        (w.start, w.list, k.from, subst (Leads y w.start w.list) r.2 k.leads)

    module _ (all : (i m : ℕ) → i < length met → m < y.moves → i * y.moves + m < p) where
      led : (list : List ℕ) (s d t : ℕ) → Sits met s d → Leads y s list t → has t (map state_of met) ≡ true
      led [] s d t k l = subst (λ (u : ℕ). has u (map state_of met) ≡ true) (k.is-it ∙ l) (has-place met k.place k.within)
      led (m ∷ list) s d t k l =
          led list (y.next s m) (suc (depth met k.place)) t
          (subst (λ (u : ℕ). Sits met (y.next u m) (suc (depth met k.place))) k.is-it
          (inv.onwards k.place m k.within l.0 (all k.place m k.within l.0)
          (ap (λ (u : ℕ). y.allows u m) k.is-it ∙ l.1)))
          l.2

      pub all-met : (t : ℕ) → Reached y t → has t (map state_of met) ≡ true
      all-met t r = led r.1 r.0 0 t (inv.begun r.0 r.2) r.3

  pub length-states : (met : List Way) → length (map state_of met) ≡ length met
  length-states [] = refl
  length-states (w ∷ met) = ap suc (length-states met)

  module _ (pos : 0 < y.moves) where
    past-never : (p : ℕ) (met : List Way) → Met y p met → length met ≤ p / y.moves → Never (length met) p
    past-never p met inv h = record {
      nothing = λ s list k a. none-near p met inv (length list) (λ i m hi q hm. all i m hi hm) list s 0 (inv.begun s k) (omega arith) a;
      states = map state_of met;
      many = length-states met;
      different = inv.different;
      reached = met-reached p met inv;
      every = all-met p met inv all;
      tried = omega (arith, inv.within, (le-div_iff_mul-le pos).0 h);
    }
      where
        all : (i m : ℕ) → i < length met → m < y.moves → i * y.moves + m < p
        all i m hi hm = before-tried y.moves pos i m p hm (omega arith)

    shown-happens : (p total : ℕ) (met : List Way) (w : Way) → Met y p met → Shown y pos p met w → p < total → Happens w (p + 1) total
    shown-happens p total met w inv sh h = subst (λ (v : Way). Happens v (p + 1) total) (sym sh.is-it) this
      where
        v : Way
        v = at met (p / y.moves)

        this : Happens (onward y (at met (p / y.moves)) (p % y.moves)) (p + 1) total
        this =
            let i : ℕ = p / y.moves in
            let k = inv.sound (p / y.moves) sh.there in
            let u = at met (p / y.moves) in
            record {
              from = k.from;
              moves = leads-moves u.start (u.list ++ (p % y.moves ∷ [])) _ (more k);
              shows = last-shows u.start u.list u.state (p % y.moves) k.leads sh.allowed sh.seen;
              leads = more k;
              shortest = λ s list f a q. none-near p met inv (depth met (p / y.moves)) tried list s 0 (inv.begun s f)
                  (omega (arith, length-append u.list (p % y.moves ∷ []))) a;
              tried = omega arith;
            }
          where
            more : Sound y (at met (p / y.moves)) → Leads y (at met (p / y.moves)).start ((at met (p / y.moves)).list ++ (p % y.moves ∷ []))
                (y.next (at met (p / y.moves)).state (p % y.moves))
            more k =
                Rattle.search.proofs.Breadth.leads-snoc y (at met (p / y.moves)).start (at met (p / y.moves)).list
                (at met (p / y.moves)).state (p % y.moves) k.leads (mod-lt p pos) sh.allowed

            tried : (i m : ℕ) → i < length met → depth met i < depth met (p / y.moves) → m < y.moves → i * y.moves + m < p
            tried i m hi q hm = before-tried y.moves pos i m p hm (before (dec_le (p / y.moves) i))
              where
                before : Dec (p / y.moves ≤ i) → i < p / y.moves
                before (yes k) = absurd (omega (arith, inv.rising (p / y.moves) i k hi))
                before (no k) = omega arith

    stops : (p : ℕ) (met : List Way) → Met y p met → p / y.moves < length met → Undecided p p
    stops p met inv h = record {
      used = refl;
      states = map state_of met;
      different = inv.different;
      reached = met-reached p met inv;
      more = subst (λ (n : ℕ). p < n * y.moves) (sym (length-states met)) ((div-lt_iff_lt-mul pos).0 h);
    }

    pub search-means : (a p total : ℕ) (met : List Way) → p + a ≡ total → Met y p met → Means total (search_from y a p met)
    search-means zero p total met e inv = subst (λ (n : ℕ). Means n (search_from y zero p met)) (sum e) (go (try_at y p met) (try-keeps y pos p met inv))
      where
        sum : p + zero ≡ total → p ≡ total
        sum f = omega arith

        go : (r : Tried) → Keeps y pos p met r → Means p (at_end r p met)
        go past k = past-never p met inv k
        go (shown w) k = stops p met inv k.there
        go (left met') k = stops p met inv k.0
    search-means (suc a) p total met e inv =
        go (λ met' inv'. search-means a (p + 1) total met' (omega arith) inv') (try_at y p met) (try-keeps y pos p met inv)
      where
        go : ((met' : List Way) → Met y (p + 1) met' → Means total (search_from y a (p + 1) met')) → (r : Tried) → Keeps y pos p met r
            → Means total (go_on (λ (later : List Way). search_from y a (p + 1) later) r p met)
        go again past k = past-never p met inv k
        go again (shown w) k = shown-happens p total met w inv k (omega arith)
        go again (left met') k = again met' k.1

    -- at the start
    module _ (once : distinct y.starts ≡ true) where
      pub map-begin : (xs : List ℕ) → map state_of (map begin xs) ≡ xs
      map-begin [] = refl
      map-begin (x ∷ xs) = ap (λ (t : List ℕ). x ∷ t) (map-begin xs)

      pub begin-length : (xs : List ℕ) → length (map begin xs) ≡ length xs
      begin-length [] = refl
      begin-length (x ∷ xs) = ap suc (begin-length xs)

      pub at-begin : (i : ℕ) → at (map begin y.starts) i ≡ begin (get_or y.starts i 0)
      at-begin i = get_or-map begin y.starts i 0

      pub depth-begin : (i : ℕ) → depth (map begin y.starts) i ≡ 0
      depth-begin i = ap (λ (w : Way). length w.list) (at-begin i)

      pub met_start : Met y 0 (map begin y.starts)
      met_start = record {
        sound = λ i h. subst (Sound y) (sym (at-begin i)) (record { from = has-at y.starts i (omega (arith, begin-length y.starts)); leads = refl });
        begun = λ s h. begun s h;
        unseen = λ i m hi hm l. absurd (omega arith);
        onwards = λ i m hi hm l. absurd (omega arith);
        rising = λ i j k hj. omega (arith, depth-begin i, depth-begin j);
        level = λ h j hj. omega (arith, depth-begin j);
        different = ap distinct (map-begin y.starts) ∙ once;
        within = omega arith;
      }
        where
          begun : (s : ℕ) → has s y.starts ≡ true → Sits (map begin y.starts) s 0
          begun s h =
              let r = place_of (map begin y.starts) s (ap (has s) (map-begin y.starts) ∙ h) in
              record { place = r.0; within = r.1; is-it = r.2; near = omega (arith, depth-begin r.0) }

      pub all-means : (allowance : ℕ) → Means allowance (search_all y allowance)
      all-means a = search-means a 0 a (map begin y.starts) (omega arith) met_start

  -- a larger allowance changes no answer but undecided
  abbrev pub Decided : Found → Type 0
  Decided (never n t) = Unit {0}
  Decided (happens w t) = Unit {0}
  Decided (undecided t) = ⊥

  pub stays : (a b p : ℕ) (met : List Way) → a ≤ b → Decided (search_from y a p met) → search_from y b p met ≡ search_from y a p met
  stays zero zero p met h d = refl
  stays zero (suc b) p met h d = go (try_at y p met) d
    where
      go : (r : Tried) → Decided (at_end r p met) → go_on (λ (later : List Way). search_from y b (p + 1) later) r p met ≡ at_end r p met
      go past e = refl
      go (shown w) e = absurd e
      go (left met') e = absurd e
  stays (suc a) zero p met h d = absurd (omega arith)
  stays (suc a) (suc b) p met h d = go (λ met'. stays a b (p + 1) met' (omega arith)) (try_at y p met) d
    where
      go : ((met' : List Way) → Decided (search_from y a (p + 1) met') → search_from y b (p + 1) met' ≡ search_from y a (p + 1) met') → (r : Tried)
          → Decided (go_on (λ (later : List Way). search_from y a (p + 1) later) r p met)
          → go_on (λ (later : List Way). search_from y b (p + 1) later) r p met ≡ go_on (λ (later : List Way). search_from y a (p + 1) later) r p met
      go again past e = refl
      go again (shown w) e = refl
      go again (left met') e = again met' e

  pub all-stays : (a b : ℕ) → a ≤ b → Decided (search_all y a) → search_all y b ≡ search_all y a
  all-stays a b = stays a b 0 (map begin y.starts)
