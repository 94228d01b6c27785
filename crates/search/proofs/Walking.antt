-- Walking back over the rows: the steps are counted, and the bytes put from the last vector back.
use Prim.Native.Nat.{ℕ, zero, suc, ◌+◌, ◌-◌, ◌*◌, ◌≤◌, ◌<◌}
use mathlib.Core.Path.{◌≡◌, refl, sym, ap, ap₂, ◌∙◌, subst}
use mathlib.Core.Bool.{Bool, true, false, cond}
use mathlib.Core.List.{List, [], ◌∷◌, ◌++◌, map, append_assoc, append-nil}
use Rattle.std.specs.Prelude.{Ok, Err}
use native.Mathlib.Nat.{suc-mul, mul-le-mul_right}
use native.Mathlib.Decide.{dec_le}
use native.Mathlib.Omega.{arith}
use borrow.Author.Tests.{le-leb, lt-leb}
use lib.Dec.{leb}
use lib.ListN.{length, get_or, take, drop, length-append, length-map, length-take}
use lib.Seq.{take-append-le, take-take, drop_at}
use Rattle.plan.specs.declared.Counts.{Counts}
use Rattle.plan.specs.Circuit.{flat}
use Rattle.plan.specs.Step.{code_of}
use Rattle.plan.specs.Outcome.{put}
use Rattle.plan.specs.Search.{System, Way, begin, onward, bit_value, bits}
use Rattle.search.specs.Rows.{at, From, Rows}
use Rattle.plan.specs.declared.Refusal.TheVariants.{ShortBuffer}
use Rattle.plan.specs.declared.Happening.TheVariants.{Can}
use Rattle.search.specs.Walking.{way_codes, StepsTo, StoresWay, Tells}
use Rattle.search.proofs.Vectors.{bits-length}

-- bytes put before others
pub put_front : (l : List ℕ) (i : ℕ) (x y : List ℕ) → i + length x + length y ≤ length l → put (put l (i + length x) y) i x ≡ put l i (x ++ y)
put_front l i x y h =
    let j = i + length x in
    let rest = y ++ drop (i + length x + length y) l in
    let wide : length (take (i + length x) l) ≡ i + length x = length-take (i + length x) l ∙ omega arith in
    let both : i + length x + length y ≡ i + length (x ++ y) = omega (arith, length-append x y) in
    ap₂ (λ (a b : List ℕ). a ++ (x ++ b))
    (take-append-le i (take (i + length x) l) rest (omega arith) ∙ take-take i (i + length x) l (omega arith))
    (drop_at (take (i + length x) l) rest (i + length x) wide)
    ∙ ap (λ (b : List ℕ). take i l ++ b) (sym (append_assoc x y (drop (i + length x + length y) l)))
    ∙ ap (λ (n : ℕ). take i l ++ ((x ++ y) ++ drop n l)) both

-- "0" and "1"
pub code_one : (w : ℕ) → w ≡ 1 → 49 ≡ code_of (bit_value w)
code_one w e = sym (ap (λ (v : ℕ). code_of (bit_value v)) e)

pub code-zero : (w : ℕ) → w < 2 → (w ≡ 1 → ⊥) → 48 ≡ code_of (bit_value w)
code-zero zero h q = refl
code-zero (suc zero) h q = absurd (q refl)
code-zero (suc (suc w)) h q = absurd (omega arith)

-- what a row says of the way to it
module _ (y : System) (ways : List Way) where
  from-later : (p f m : ℕ) → From y ways p f m → 0 < f → (f - 1 < p) × (at ways p ≡ onward y (at ways (f - 1)) m)
  from-later p zero m k h = absurd (omega arith)
  from-later p (suc q) m k h =
      let e : q ≡ suc q - 1 = omega arith in
      (omega (arith, k.0), k.1 ∙ ap (λ (i : ℕ). onward y (at ways i) m) e)

  from_start : (p f m : ℕ) → From y ways p f m → f ≡ 0 → at ways p ≡ begin (at ways p).state
  from_start p zero m k h = k
  from_start p (suc q) m k h = absurd (omega arith)

-- a way has no more moves than there are rows before its own
pub list-low : (y : System) (ways : List Way) (met : List ℕ) → Rows y ways met → (k i : ℕ) → i < k → i < length ways → length (at ways i).list ≤ i
list-low y ways met rows zero i h q = absurd (omega arith)
list-low y ways met rows (suc k) i h q =
    go (get_or met (3 * i + 1) 0) (get_or met (3 * i + 2) 0) (rows.from i q) (λ p hp. list-low y ways met rows k p (omega arith) (omega arith))
  where
    go : (f m : ℕ) → From y ways i f m → ((p : ℕ) → p < i → length (at ways p).list ≤ p) → length (at ways i).list ≤ i
    go zero m e again = omega (arith, ap (λ (w : Way). length w.list) e)
    go (suc p) m e again =
        omega (arith, ap (λ (w : Way). length w.list) e.1, length-append (at ways p).list (m ∷ []), again p e.0, e.0)

-- steps counted so far, and the row from which the row of the last one was met
pub record Counting (y : System) (ways : List Way) (met : List ℕ) (place steps from : ℕ) : Type 0 where
  pub p : ℕ
  pub there : p < length ways
  pub row : from ≡ get_or met (3 * p + 1) 0
  pub sum : steps + length (at ways p).list ≡ suc (length (at ways place).list)
  pub falls : steps + p ≤ suc place

module _ {y : System} {ways : List Way} {met : List ℕ} (rows : Rows y ways met) (place : ℕ) where
  pub counting-first : place < length ways → (from : ℕ) → from ≡ get_or met (3 * place + 1) 0 → Counting y ways met place 1 from
  counting-first h from e = record { p = place; there = h; row = e; sum = omega arith; falls = omega arith }

  module _ (steps from : ℕ) (k : Counting y ways met place steps from) where
    before : 0 < from → (from - 1 < k.p) × (at ways k.p ≡ onward y (at ways (from - 1)) (get_or met (3 * k.p + 2) 0))
    before h =
        from-later y ways k.p from (get_or met (3 * k.p + 2) 0)
        (subst (λ (f : ℕ). From y ways k.p f (get_or met (3 * k.p + 2) 0)) (sym k.row) (rows.from k.p k.there)) h

    pub back-there : 0 < from → from - 1 < length ways
    back-there h = omega (arith, (before h).0, k.there)

    pub from-falls : 0 < from → from ≤ k.p
    from-falls h = omega (arith, (before h).0)

    pub counting_more : 0 < from → (from' : ℕ) → from' ≡ get_or met (3 * (from - 1) + 1) 0 → Counting y ways met place (steps + 1) from'
    counting_more h from' e = record {
      p = from - 1;
      there = back-there h;
      row = e;
      sum = omega (
        arith,
        k.sum,
        ap (λ (w : Way). length w.list) (before h).1,
        length-append (at ways (from - 1)).list (get_or met (3 * k.p + 2) 0 ∷ []),
      );
      falls = omega (arith, k.falls, (before h).0);
    }

    pub counting-less : 0 < from → (from' : ℕ) → from' ≡ get_or met (3 * (from - 1) + 1) 0 → from' < from
    counting-less h from' e = go (dec_le 1 from')
      where
        go : Dec (1 ≤ from') → from' < from
        go (yes q) =
            let b = from-later y ways (from - 1) from' (get_or met (3 * (from - 1) + 2) 0)
            (subst (λ (f : ℕ). From y ways (from - 1) f (get_or met (3 * (from - 1) + 2) 0)) (sym e) (rows.from (from - 1) (back-there h))) q in
            omega (arith, b.0)
        go (no q) = omega arith

    pub counting-done : from ≡ 0 → (steps ≡ suc (length (at ways place).list)) × (steps ≤ suc place)
    counting-done h =
        let e = from_start y ways k.p from (get_or met (3 * k.p + 2) 0)
        (subst (λ (f : ℕ). From y ways k.p f (get_or met (3 * k.p + 2) 0)) (sym k.row) (rows.from k.p k.there)) h in
        (omega (arith, k.sum, ap (λ (w : Way). length w.list) e), omega (arith, k.falls))

-- bytes of vectors end to end
abbrev vector_codes : ℕ → List ℕ → List ℕ
vector_codes i list = flat (map (map code_of) (map (bits i) list))

codes-long : (n k : ℕ) → length (map code_of (bits n k)) ≡ n
codes-long n k = length-map (bits n k) code_of ∙ bits-length n k

vectors-long : (i : ℕ) (list : List ℕ) → length (vector_codes i list) ≡ length list * i
vectors-long i [] = omega arith
vectors-long i (m ∷ list) =
    length-append (map code_of (bits i m)) (vector_codes i list)
    ∙ (ap₂ (λ (a b : ℕ). a + b) (codes-long i m) (vectors-long i list) ∙ omega (arith, suc-mul (length list) i))

-- how many bytes a way needs
pub way_long : (n : Counts) (w : Way) → length (way_codes n w) ≡ n.L + length w.list * n.I
way_long n w =
    length-append (map code_of (bits n.L w.start)) (vector_codes n.I w.list)
    ∙ ap₂ (λ (a b : ℕ). a + b) (codes-long n.L w.start) (vectors-long n.I w.list)

-- one vector less
pub one_less : (n : Counts) (steps : ℕ) → 0 < steps → n.L + (steps - 1) * n.I + n.I ≡ n.L + steps * n.I
one_less n (suc k) h =
    let e : suc k - 1 ≡ k = omega arith in
    ap (λ (m : ℕ). n.L + m * n.I + n.I) e ∙ omega (arith, suc-mul k n.I)
one_less n zero h = absurd (omega arith)

-- the vectors stored so far, from a place of the buffer on, and the row before them
pub record Storing (y : System) (ways : List Way) (n : Counts) (met : List ℕ) (place m : ℕ) (out₀ out : List ℕ) (pos p from : ℕ) : Type 0 where
  pub there : p < length ways
  pub row : from ≡ get_or met (3 * p + 1) 0
  pub later : List ℕ
  pub whole : (at ways place).list ++ (m ∷ []) ≡ (at ways p).list ++ later
  pub start : (at ways place).start ≡ (at ways p).start
  pub where-at : pos ≡ n.L + length (at ways p).list * n.I
  pub stored : out ≡ put out₀ pos (vector_codes n.I later)

module _ {y : System} {ways : List Way} {met : List ℕ} (rows : Rows y ways met) (n : Counts) (place m steps : ℕ) (out₀ : List ℕ)
    (many : steps ≡ suc (length (at ways place).list)) (room : n.L + steps * n.I ≤ length out₀) where
  pub storing-first : place < length ways → (from : ℕ) → from ≡ get_or met (3 * place + 1) 0 → (out : List ℕ) (pos : ℕ)
      → pos ≡ n.L + (steps - 1) * n.I → out ≡ put out₀ pos (map code_of (bits n.I m))
      → Storing y ways n met place m out₀ out pos place from
  storing-first h from e out pos ep eo =
      let q : steps - 1 ≡ length (at ways place).list = omega (arith, many) in
      record {
        there = h;
        row = e;
        later = m ∷ [];
        whole = refl;
        start = refl;
        where-at = ep ∙ ap (λ (k : ℕ). n.L + k * n.I) q;
        stored = eo ∙ ap (put out₀ pos) (sym (append-nil (map code_of (bits n.I m))));
      }

  module _ (out : List ℕ) (pos p from : ℕ) (k : Storing y ways n met place m out₀ out pos p from) where
    -- the bytes stored reach to the end of those needed
    used : pos + length (vector_codes n.I k.later) ≡ n.L + steps * n.I
    used =
        let l = vectors-long n.I k.later in
        let w : length (at ways p).list + length k.later ≡ steps =
        omega (arith, many, ap length k.whole, length-append (at ways place).list (m ∷ []), length-append (at ways p).list k.later) in
        omega (
          arith,
          l,
          k.where-at,
          sym (native.Mathlib.Nat.add-mul (length (at ways p).list) (length k.later) n.I) ∙ ap (λ (a : ℕ). a * n.I) w,
        )

    met-from : 0 < from → (from - 1 < p) × (at ways p ≡ onward y (at ways (from - 1)) (get_or met (3 * p + 2) 0))
    met-from h =
        from-later y ways p from (get_or met (3 * p + 2) 0)
        (subst (λ (f : ℕ). From y ways p f (get_or met (3 * p + 2) 0)) (sym k.row) (rows.from p k.there)) h

    one_more : 0 < from → pos ≡ n.L + length (at ways (from - 1)).list * n.I + n.I
    one_more h =
        let l : length (at ways p).list ≡ suc (length (at ways (from - 1)).list) =
        ap (λ (w : Way). length w.list) (met-from h).1 ∙ omega (arith, length-append (at ways (from - 1)).list (get_or met (3 * p + 2) 0 ∷ [])) in
        k.where-at ∙ ap (λ (a : ℕ). n.L + a * n.I) l ∙ omega (arith, suc-mul (length (at ways (from - 1)).list) n.I)

    pub room_back : 0 < from → n.I ≤ pos
    room_back h = omega (arith, one_more h)

    pub room-here : pos ≤ length out₀
    room-here = omega (arith, used)

    pub row-there : 0 < from → from - 1 < length ways
    row-there h = omega (arith, (met-from h).0, k.there)

    pub row-falls : 0 < from → from - 1 < p
    row-falls h = (met-from h).0

    pub storing-more : 0 < from → (from' : ℕ) → from' ≡ get_or met (3 * (from - 1) + 1) 0 → (out' : List ℕ)
        → out' ≡ put out (pos - n.I) (map code_of (bits n.I (get_or met (3 * p + 2) 0)))
        → Storing y ways n met place m out₀ out' (pos - n.I) (from - 1) from'
    storing-more h from' e out' eo =
        let mv = get_or met (3 * p + 2) 0 in
        let x = map code_of (bits n.I mv) in
        let s = vector_codes n.I k.later in
        let back : pos - n.I + length x ≡ pos = omega (arith, codes-long n.I mv, room_back h) in
        let list : (at ways p).list ≡ (at ways (from - 1)).list ++ (mv ∷ []) = ap (λ (w : Way). w.list) (met-from h).1 in
        record {
          there = row-there h;
          row = e;
          later = mv ∷ k.later;
          whole = k.whole ∙ ap (λ (l : List ℕ). l ++ k.later) list ∙ append_assoc (at ways (from - 1)).list (mv ∷ []) k.later;
          start = k.start ∙ ap (λ (w : Way). w.start) (met-from h).1;
          where-at = omega (arith, one_more h);
          stored = eo ∙ ap (λ (l : List ℕ). put l (pos - n.I) x) (k.stored ∙ ap (λ (a : ℕ). put out₀ a s) (sym back))
              ∙ put_front out₀ (pos - n.I) x s (omega (arith, used, back));
        }

    pub storing-done : from ≡ 0 → (out' : List ℕ) → out' ≡ put out 0 (map code_of (bits n.L (get_or met (3 * p) 0)))
        → out' ≡ put out₀ 0 (way_codes n (onward y (at ways place) m))
    storing-done h out' eo =
        let b = from_start y ways p from (get_or met (3 * p + 2) 0)
        (subst (λ (f : ℕ). From y ways p f (get_or met (3 * p + 2) 0)) (sym k.row) (rows.from p k.there)) h in
        let x = map code_of (bits n.L (get_or met (3 * p) 0)) in
        let s = vector_codes n.I k.later in
        let none : (at ways p).list ≡ [] = ap (λ (w : Way). w.list) b in
        let here : pos ≡ 0 + length x =
        k.where-at ∙ ap (λ (l : List ℕ). n.L + length l * n.I) none ∙ omega (arith, codes-long n.L (get_or met (3 * p) 0)) in
        let from-it : get_or met (3 * p) 0 ≡ (at ways place).start =
        rows.state p k.there ∙ sym (ap (λ (w : Way). w.start) b) ∙ sym k.start in
        let rest : k.later ≡ (at ways place).list ++ (m ∷ []) = sym (k.whole ∙ ap (λ (l : List ℕ). l ++ k.later) none) in
        eo ∙ ap (λ (l : List ℕ). put l 0 x) (k.stored ∙ ap (λ (a : ℕ). put out₀ a s) here)
        ∙ put_front out₀ 0 x s (omega (arith, used, here))
        ∙ ap₂ (λ (a : ℕ) (l : List ℕ). put out₀ 0 (map code_of (bits n.L a) ++ vector_codes n.I l)) from-it rest

-- the bytes needed are few
pub few_bytes : (steps i : ℕ) → steps ≤ 1048577 → i ≤ 20 → steps * i ≤ 20971540
few_bytes steps i h q = omega (arith, mul-le-mul_right {m = steps} {n = 1048577} i h)

-- what is told where it is shown
module _ (n : Counts) (met : List ℕ) (place m tries steps needed : ℕ) (out : List ℕ) (many : StepsTo met place steps)
    (e : needed ≡ n.L + steps * n.I) where
  long : (y : System) (ways : List Way) → Rows y ways met → place < length ways → length (way_codes n (onward y (at ways place) m)) ≡ needed
  long y ways r h =
      let w = (many y ways r h).0 in
      let l : length ((at ways place).list ++ (m ∷ [])) ≡ steps = omega (arith, length-append (at ways place).list (m ∷ []), w) in
      way_long n (onward y (at ways place) m) ∙ ap (λ (k : ℕ). n.L + k * n.I) l ∙ sym e

  pub told-short : length out < needed → Tells n met place m tries out (Err (ShortBuffer needed)) out
  told-short q y ways r h =
      let l = long y ways r h in
      let c : leb (length (way_codes n (onward y (at ways place) m))) (length out) ≡ false =
      lt-leb (length (way_codes n (onward y (at ways place) m))) (length out) (omega (arith, l)) in (
        ap (λ (k : ℕ). Err (ShortBuffer k)) (sym l)
            ∙ sym (ap (λ (b : Bool). cond b (Ok (Can (length (onward y (at ways place) m).list) tries))
            (Err (ShortBuffer (length (way_codes n (onward y (at ways place) m)))))) c),
        sym (ap (λ (b : Bool). cond b (put out 0 (way_codes n (onward y (at ways place) m))) out) c),
      )

  pub told-long : needed ≤ length out → (out' : List ℕ) → StoresWay n met place m steps out out' → Tells n met place m tries out (Ok (Can steps tries)) out'
  told-long q out' s y ways r h =
      let l = long y ways r h in
      let w : steps ≡ length ((at ways place).list ++ (m ∷ [])) =
      (many y ways r h).0 ∙ omega (arith, length-append (at ways place).list (m ∷ [])) in
      let c : leb (length (way_codes n (onward y (at ways place) m))) (length out) ≡ true =
      le-leb (length (way_codes n (onward y (at ways place) m))) (length out) (omega (arith, l)) in (
        ap (λ (k : ℕ). Ok (Can k tries)) w
            ∙ sym (ap (λ (b : Bool). cond b (Ok (Can (length (onward y (at ways place) m).list) tries))
            (Err (ShortBuffer (length (way_codes n (onward y (at ways place) m)))))) c),
        s y ways r h ∙ sym (ap (λ (b : Bool). cond b (put out 0 (way_codes n (onward y (at ways place) m))) out) c),
      )
