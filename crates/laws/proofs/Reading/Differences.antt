-- Differences and the gates of the binary form are read from their bytes, and from nothing else.
use Prim.Native.Nat.{ℕ, suc, zero, ◌+◌, ◌-◌, ◌*◌, ◌/◌, ◌%◌, ◌^◌, ◌<◌, ◌≤◌}
use mathlib.Core.Path.{◌≡◌, refl, sym, ap, ap₂, ◌∙◌, subst}
use mathlib.Core.Bool.{Bool, true, false, cond, ◌&&◌, ◌||◌, false≢true}
use mathlib.Core.List.{List, [], ◌∷◌, ◌++◌, append_assoc}
use Rattle.std.specs.Prelude.{Result, Ok, Err}
use Rattle.plan.specs.declared.Refusal.TheVariants.{WrongByte, LongDifference}
use native.Mathlib.Omega.{arith}
use native.Mathlib.Numerals.{add-one}
use borrow.Author.Tests.{lt-ltb, le-ltb, ne_eqb, ltb-true, ltb-false, eqb-true, eqb-false, leb-true, leb-false, le-leb, lt-leb}
use lib.Dec.{eqb, leb, ltb}
use lib.ListN.{length, get_or, drop, length-drop}
use lib.Seq.{drop-cons}
use Rattle.plan.specs.declared.Refusal.{Refusal}
use Rattle.plan.specs.Refusals.{Parse, got, refused}
use Rattle.plan.specs.Circuit.{Gate}
use Rattle.plan.specs.Difference.{low_then, groups, difference_at, difference_says, difference, groups_in, groups_of}
use Rattle.plan.specs.Binary.{gate, gates_from, gate_bytes}
use Rattle.laws.proofs.Reading.Common.{not-got, got-value, got-next, then-got, Reads, byte-is, byte_past, past}
use Rattle.laws.proofs.Reading.Order.{InOrder}
use Rattle.laws.proofs.Pairs.{ok-pair}

-- a list of bytes
abbrev pub Bytes : List ℕ → Type 0
Bytes s = (k : ℕ) → get_or s k 0 < 256

-- the groups of a number, by its size
in_small : (k d : ℕ) → d < 128 → groups_in k d ≡ d ∷ []
in_small zero d h = refl
in_small (suc k) d h = rw (lt-ltb d 128 h, groups_in)

in_step : (k d : ℕ) → 128 ≤ d → groups_in (suc k) d ≡ (d % 128 + 128) ∷ groups_in k (d / 128)
in_step k d h = rw (le-ltb d 128 h, groups_in)

in-fuel : (k j d : ℕ) → d ≤ k → d ≤ j → groups_in k d ≡ groups_in j d
in-fuel zero j d hk hj = sym (in_small j d (omega arith))
in-fuel (suc k) zero d hk hj = in_small (suc k) d (omega arith)
in-fuel (suc k) (suc j) d hk hj = go (ltb d 128) refl (λ a b. in-fuel k j (d / 128) a b)
  where
    go : (t : Bool) → ltb d 128 ≡ t → (d / 128 ≤ k → d / 128 ≤ j → groups_in k (d / 128) ≡ groups_in j (d / 128)) → groups_in (suc k) d ≡ groups_in (suc j) d
    go true e ih = in_small (suc k) d (ltb-true _ _ e) ∙ sym (in_small (suc j) d (ltb-true _ _ e))
    go false e ih =
        let h : 128 ≤ d = ltb-false _ _ e in
        in_step k d h ∙ (ap (λ (l : List ℕ). (d % 128 + 128) ∷ l) (ih (omega arith) (omega arith)) ∙ sym (in_step j d h))

pub groups-small : (d : ℕ) → d < 128 → groups_of d ≡ d ∷ []
groups-small d h = in_small d d h

pub groups-step : (d : ℕ) → 128 ≤ d → groups_of d ≡ (d % 128 + 128) ∷ groups_of (d / 128)
groups-step d h =
    in-fuel d (suc d) d (omega arith) (omega arith)
    ∙ (in_step d d h ∙ ap (λ (l : List ℕ). (d % 128 + 128) ∷ l) (in-fuel d (d / 128) (d / 128) (omega arith) (omega arith)))

pub groups-some : (d : ℕ) → 0 < length (groups_of d)
groups-some d = go (ltb d 128) refl
  where
    go : (t : Bool) → ltb d 128 ≡ t → 0 < length (groups_of d)
    go true e = omega (arith, ap length (groups-small d (ltb-true _ _ e)))
    go false e = omega (arith, ap length (groups-step d (ltb-false _ _ e)))

-- a group and the groups above it
low_value : (low : ℕ) (r : Result (ℕ × ℕ) Refusal) (d n : ℕ) → low_then low r ≡ Ok (d, n) → (h : ℕ) × (r ≡ Ok (h, n)) × (low + 128 * h ≡ d)
low_value low (Ok (h, m)) d n q =
    let same = ok-pair (low + 128 * h) d m n q in
    let d-is = same.0 in
    let n-is = same.1 in
    (h, ap (λ (k : ℕ). Ok (h, k)) n-is, d-is)
low_value low (Err r) d n q = let z : ◌≡◌ {A = ℕ} 0 1 = cc in absurd (omega arith)

not-err : (r : Refusal) (d n : ℕ) → ◌≡◌ {A = Result (ℕ × ℕ) Refusal} (Err r) (Ok (d, n)) → ⊥
not-err r d n q = let z : ◌≡◌ {A = ℕ} 0 1 = cc in omega arith

module _ (file : List ℕ) where
  in-file : (at b : ℕ) (s : List ℕ) → drop at file ≡ b ∷ s → at < length file
  in-file at b s e = omega (arith, length-drop at file, ap length e)

  -- what groups took: the value, whose last group is not 0 if there is one before it, and its bytes
  abbrev pub Took : ℕ → ℕ → ℕ → ℕ → Type 0
  Took first at d n = (first < at → 0 < d) × (drop at file ≡ groups_of d ++ drop n file) × (n ≡ at + length (groups_of d))

  last-took : (first at d n : ℕ) → at < length file → get_or file at 0 < 128
      → cond {A = Result (ℕ × ℕ) Refusal} (eqb (get_or file at 0) 0 && ltb first at) (Err (LongDifference first)) (Ok (get_or file at 0, at + 1)) ≡ Ok (d, n) → Took first at d n
  last-took first at d n h b q = go (eqb (get_or file at 0) 0) (ltb first at) refl refl q
    where
      done : (first < at → 0 < get_or file at 0) → ◌≡◌ {A = Result (ℕ × ℕ) Refusal} (Ok (get_or file at 0, at + 1)) (Ok (d, n)) → Took first at d n
      done f q =
          let same = ok-pair (get_or file at 0) d (at + 1) n q in
          let d-is = same.0 in
          let n-is = same.1 in
          let n-is' : suc at ≡ n = omega arith in
          let small : groups_of d ≡ d ∷ [] = groups-small d (omega arith) in (
            λ l. omega (arith, f l),
            drop-cons file at 0 h ∙ (ap₂ (λ (x y : ℕ). x ∷ drop y file) d-is n-is' ∙ ap (λ (l : List ℕ). l ++ drop n file) (sym small)),
            sym n-is ∙ ap (λ (l : List ℕ). at + length l) (sym small),
          )

      go : (z f : Bool) → eqb (get_or file at 0) 0 ≡ z → ltb first at ≡ f
          → cond {A = Result (ℕ × ℕ) Refusal} (z && f) (Err (LongDifference first)) (Ok (get_or file at 0, at + 1)) ≡ Ok (d, n) → Took first at d n
      go true true z f q = absurd (not-err _ _ _ q)
      go true false z f q = done (λ l. absurd (omega (arith, ltb-false first at f))) q
      go false f z f' q = let nz : (get_or file at 0 ≡ 0 → ⊥) = eqb-false _ _ z in done (λ l. omega arith) q

  high-took : (first at d n h : ℕ) → at < length file → 128 ≤ get_or file at 0 → get_or file at 0 < 256 → first ≤ at
      → get_or file at 0 % 128 + 128 * h ≡ d → Took first (at + 1) h n → Took first at d n
  high-took first at d n h i b b' f d-is t =
      let h-pos : 0 < h = t.0 (omega arith) in
      let a0 : d % 128 + 128 ≡ get_or file at 0 = omega arith in
      let a1 : d / 128 ≡ h = omega arith in
      let large : 128 ≤ d = omega arith in
      let w : groups_of d ≡ get_or file at 0 ∷ groups_of h
      = groups-step d large ∙ ap₂ (λ (x y : ℕ). x ∷ groups_of y) a0 a1 in (
        λ l. omega arith,
        drop-cons file at 0 i
            ∙ (ap (λ (x : ℕ). get_or file at 0 ∷ drop x file) (sym (add-one at))
            ∙ (ap (λ (l : List ℕ). get_or file at 0 ∷ l) t.1 ∙ ap (λ (l : List ℕ). l ++ drop n file) (sym w))),
        omega (arith, t.2, ap length w),
      )

  pub groups-took : Bytes file → (k first at d n : ℕ) → first ≤ at → groups file first k at ≡ Ok (d, n) → Took first at d n
  groups-took bytes zero first at d n f q = absurd (not-err _ _ _ q)
  groups-took bytes (suc k) first at d n f q =
      go (λ d' n' q'. groups-took bytes k first (at + 1) d' n' (omega arith) q') (leb (length file) at) (leb 128 (get_or file at 0)) refl refl q
    where
      go : ((d' n' : ℕ) → groups file first k (at + 1) ≡ Ok (d', n') → Took first (at + 1) d' n')
          → (t u : Bool) → leb (length file) at ≡ t → leb 128 (get_or file at 0) ≡ u
          → cond t (Err (WrongByte (length file))) (cond u (low_then (get_or file at 0 % 128) (groups file first k (at + 1)))
          (cond (eqb (get_or file at 0) 0 && ltb first at) (Err (LongDifference first)) (Ok (get_or file at 0, at + 1)))) ≡ Ok (d, n) → Took first at d n
      go ih true u e e' q = absurd (not-err _ _ _ q)
      go ih false true e e' q =
          let t = low_value _ (groups file first k (at + 1)) d n q in
          high-took first at d n t.0 (leb-false _ _ e) (leb-true _ _ e') (bytes at) f t.2 (ih t.0 n t.1)
      go ih false false e e' q = last-took first at d n (leb-false _ _ e) (leb-false _ _ e') q

  last-reads : (k first at d : ℕ) (s : List ℕ) → d < 128 → (first < at → 0 < d) → drop at file ≡ d ∷ s
      → groups file first (suc k) at ≡ Ok (d, at + 1)
  last-reads k first at d s h f e =
      let i : at < length file = in-file at d s e in
      let b : get_or file at 0 ≡ d = byte-is file at d s e in
      rw (lt-leb (length file) at i, b, lt-leb 128 d h, groups)
      (ap (λ (t : Bool). cond t (Err (LongDifference first)) (Ok (d, at + 1))) (low (eqb d 0) (ltb first at) refl refl))
    where
      low : (z t : Bool) → eqb d 0 ≡ z → ltb first at ≡ t → (z && t) ≡ false
      low true true z t = absurd (omega (arith, eqb-true d 0 z, f (ltb-true first at t)))
      low true false z t = refl
      low false t z t' = refl

  small-reads : (k first at d : ℕ) (s : List ℕ) → d < 128 → (first < at → 0 < d) → drop at file ≡ groups_of d ++ s
      → groups file first (suc k) at ≡ Ok (d, at + length (groups_of d))
  small-reads k first at d s h f e =
      let w : groups_of d ≡ d ∷ [] = groups-small d h in
      last-reads k first at d s h f (e ∙ ap (λ (x : List ℕ). x ++ s) w) ∙ ap (λ (x : List ℕ). Ok (d, at + length x)) (sym w)

  high-reads : (k first at d m : ℕ) → at < length file → get_or file at 0 ≡ d % 128 + 128 → groups file first k (at + 1) ≡ Ok (d / 128, m)
      → groups file first (suc k) at ≡ Ok (d, m)
  high-reads k first at d m i b r =
      let high : 128 ≤ d % 128 + 128 = omega arith in
      let d-is : (d % 128 + 128) % 128 + 128 * (d / 128) ≡ d = omega arith in
      rw (lt-leb (length file) at i, b, le-leb 128 (d % 128 + 128) high, r) (ap (λ (x : ℕ). Ok (x, m)) d-is)

  -- k + 1 groups are enough for a number below 128 ^ (k + 1)
  pub groups-reads : (k first at d : ℕ) (s : List ℕ) → d < 128 ^ suc k → first ≤ at → (first < at → 0 < d) → drop at file ≡ groups_of d ++ s
      → groups file first (suc k) at ≡ Ok (d, at + length (groups_of d))
  groups-reads zero first at d s h l f e = small-reads zero first at d s h f e
  groups-reads (suc k) first at d s h l f e =
      go (λ h' f' e'. groups-reads k first (at + 1) (d / 128) s h' (omega arith) f' e') (ltb d 128) refl
    where
      go : (d / 128 < 128 ^ suc k → (first < at + 1 → 0 < d / 128) → drop (at + 1) file ≡ groups_of (d / 128) ++ s
          → groups file first (suc k) (at + 1) ≡ Ok (d / 128, at + 1 + length (groups_of (d / 128))))
          → (t : Bool) → ltb d 128 ≡ t → groups file first (suc (suc k)) at ≡ Ok (d, at + length (groups_of d))
      go ih true t = small-reads (suc k) first at d s (ltb-true _ _ t) f e
      go ih false t =
          let g : 128 ≤ d = ltb-false _ _ t in
          let w : groups_of d ≡ (d % 128 + 128) ∷ groups_of (d / 128) = groups-step d g in
          let e0 : drop at file ≡ (d % 128 + 128) ∷ (groups_of (d / 128) ++ s) = e ∙ ap (λ (x : List ℕ). x ++ s) w in
          let n-is : at + 1 + length (groups_of (d / 128)) ≡ at + length (groups_of d) = omega (arith, ap length w) in
          high-reads (suc k) first at d _ (in-file at _ _ e0) (byte-is file at _ _ e0)
          (ih (omega arith) (λ _. omega arith) (byte_past file at _ _ e0) ∙ ap (λ (k : ℕ). Ok (d / 128, k)) n-is)

-- a difference and what it is taken from
abbrev pub Fine : Bool → ℕ → ℕ → Type 0
Fine true from d = (0 < d) × (d ≤ from)
Fine false from d = d ≤ from

fine-test : (first : Bool) (from d : ℕ) → ((first && eqb d 0) || ltb from d) ≡ false → Fine first from d
fine-test true from d e = go (eqb d 0) refl e
  where
    go : (t : Bool) → eqb d 0 ≡ t → (t || ltb from d) ≡ false → (0 < d) × (d ≤ from)
    go true q e = absurd (false≢true (sym e))
    go false q e = let z : (d ≡ 0 → ⊥) = eqb-false d 0 q in (omega arith, ltb-false _ _ e)
fine-test false from d e = ltb-false _ _ e

test-fine : (first : Bool) (from d : ℕ) → Fine first from d → ((first && eqb d 0) || ltb from d) ≡ false
test-fine true from d h = let z : (d ≡ 0 → ⊥) = λ e. omega (arith, h.0) in rw (ne_eqb d 0 z, le-ltb _ _ h.1)
test-fine false from d h = le-ltb _ _ h

cond-right : {A : Type 0} (t : Bool) (p : Parse A) (r : Refusal) (a : A) (n : ℕ) → cond t (refused r) p ≡ got a n → (t ≡ false) × (p ≡ got a n)
cond-right true p r a n e = absurd (not-got r a n e)
cond-right false p r a n e = (refl, e)

says-value : (r : Result (ℕ × ℕ) Refusal) (d n : ℕ) → difference_says r ≡ got d n → r ≡ Ok (d, n)
says-value (Ok (h, m)) d n q =
    let d-is : h ≡ d = got-value h d m n q in
    let n-is : m ≡ n = got-next h d m n q in
    ap₂ (λ (x y : ℕ). Ok (x, y)) d-is n-is
says-value (Err r) d n q = absurd (not-got _ _ _ q)

module _ (file : List ℕ) where
  pub difference-took : Bytes file → (first : Bool) (from at d n : ℕ) → difference file first from at ≡ got d n
      → (drop at file ≡ groups_of d ++ drop n file) × Fine first from d
  difference-took bytes first from at d n e =
      let t = then-got (difference_says (difference_at file at)) _ d n e in
      let u = cond-right ((first && eqb t.0 0) || ltb from t.0) _ _ d n t.3 in
      let d-is : t.0 ≡ d = got-value _ d t.1 n u.1 in
      let n-is : t.1 ≡ n = got-next _ d t.1 n u.1 in (
        (groups-took file bytes 3 at at t.0 t.1 (omega arith) (says-value _ _ _ t.2)).1 ∙ ap₂ (λ (x y : ℕ). groups_of x ++ drop y file) d-is n-is,
        subst (Fine first from) d-is (fine-test first from t.0 u.0),
      )

  pub difference-reads : (first : Bool) (from at d : ℕ) (s : List ℕ) → Fine first from d → d < 2 ^ 21 → drop at file ≡ groups_of d ++ s
      → Reads file (difference file first from at) d s
  difference-reads first from at d s f h e =
      let r : difference_at file at ≡ Ok (d, at + length (groups_of d)) = groups-reads file 2 at at d s h (omega arith) (λ l. absurd (omega arith)) e in
      (at + length (groups_of d), rw (r, test-fine first from d f), past file at (groups_of d) s e)

  -- one gate: its bytes, and what a gate of binary order keeps
  pub gate-took : Bytes file → (v at : ℕ) (g : Gate) (n : ℕ) → gate file v at ≡ got g n
      → (drop at file ≡ groups_of (g.lhs - g.rhs0) ++ (groups_of (g.rhs0 - g.rhs1) ++ drop n file)) × (g.lhs ≡ 2 * v) × (g.rhs0 < g.lhs)
      × (g.rhs1 ≤ g.rhs0)
  gate-took bytes v at g n q =
      let a = then-got (difference file true (2 * v) at) _ g n q in
      let b = then-got (difference file false (2 * v - a.0) a.1) _ g n a.3 in
      let d0 = difference-took bytes true (2 * v) at a.0 a.1 a.2 in
      let d1 = difference-took bytes false (2 * v - a.0) a.1 b.0 b.1 b.2 in
      let g-is : record { lhs = 2 * v; rhs0 = 2 * v - a.0; rhs1 = 2 * v - a.0 - b.0 } ≡ g = got-value _ g b.1 n b.3 in
      let lhs-is : 2 * v ≡ g.lhs = ap (λ (x : Gate). x.lhs) g-is in
      let rhs0-is : 2 * v - a.0 ≡ g.rhs0 = ap (λ (x : Gate). x.rhs0) g-is in
      let rhs1-is : 2 * v - a.0 - b.0 ≡ g.rhs1 = ap (λ (x : Gate). x.rhs1) g-is in
      let e0 : a.0 ≡ g.lhs - g.rhs0 = omega (arith, d0.1.1) in
      let e1 : b.0 ≡ g.rhs0 - g.rhs1 = omega (arith, d1.1) in (
        d0.0
            ∙ ap₂ (λ (x : ℕ) (y : List ℕ). groups_of x ++ y) e0
            (d1.0 ∙ ap₂ (λ (x y : ℕ). groups_of x ++ drop y file) e1 (got-next _ g b.1 n b.3)),
        sym lhs-is,
        omega (arith, d0.1.0, d0.1.1),
        omega arith,
      )

  pub gates-took : Bytes file → (n v at : ℕ) (gs : List Gate) (e : ℕ) → gates_from file n v at ≡ got gs e
      → (drop at file ≡ gate_bytes gs ++ drop e file) × (length gs ≡ n) × InOrder v gs
  gates-took bytes zero v at gs e q =
      let g-is : [] ≡ gs = got-value [] gs at e q in
      let n-is : at ≡ e = got-next [] gs at e q in
      (ap₂ (λ (x : List Gate) (y : ℕ). gate_bytes x ++ drop y file) g-is n-is, ap length (sym g-is), subst (InOrder v) g-is tt)
  gates-took bytes (suc n) v at gs e q =
      let t = then-got (gate file v at) _ gs e q in
      let u = then-got (gates_from file n (suc v) t.1) _ gs e t.3 in
      let one = gate-took bytes v at t.0 t.1 t.2 in
      let ih = gates-took bytes n (suc v) t.1 u.0 u.1 u.2 in
      let gs-is : t.0 ∷ u.0 ≡ gs = got-value (t.0 ∷ u.0) gs u.1 e u.3 in
      let n-is : u.1 ≡ e = got-next (t.0 ∷ u.0) gs u.1 e u.3 in (
        joined (groups_of (t.0.lhs - t.0.rhs0)) (groups_of (t.0.rhs0 - t.0.rhs1)) (gate_bytes u.0) (drop u.1 file) one.0 ih.0
            ∙ ap₂ (λ (x : List Gate) (y : ℕ). gate_bytes x ++ drop y file) gs-is n-is,
        ap length (sym gs-is) ∙ ap suc ih.1,
        subst (InOrder v) gs-is (one.1, one.2, one.3, ih.2),
      )
    where
      joined : (x y z w : List ℕ) {p q : List ℕ} → p ≡ x ++ (y ++ q) → q ≡ z ++ w → p ≡ (x ++ (y ++ z)) ++ w
      joined x y z w a b =
          a ∙ (ap (λ (l : List ℕ). x ++ l) (ap (λ (l : List ℕ). y ++ l) b ∙ sym (append_assoc y z w)) ∙ sym (append_assoc x (y ++ z) w))

  pub gates-reads : (gs : List Gate) (v at : ℕ) (s : List ℕ) → InOrder v gs → v + length gs ≤ 1048576 → drop at file ≡ gate_bytes gs ++ s
      → Reads file (gates_from file (length gs) v at) gs s
  gates-reads [] v at s o h e = (at, refl, e)
  gates-reads (g ∷ gs) v at s o h e =
      let l-is : g.lhs ≡ 2 * v = o.0 in
      let small : g.lhs < 2 ^ 21 = omega arith in
      let d = g.lhs - g.rhs0 in
      let f = g.rhs0 - g.rhs1 in
      let fine0 : Fine true (2 * v) d = (omega (arith, o.1), omega arith) in
      let fine1 : Fine false (2 * v - d) f = omega (arith, o.1, o.2) in
      let r0 = difference-reads true (2 * v) at d (groups_of f ++ (gate_bytes gs ++ s)) fine0 (omega arith)
      (e ∙ (append_assoc (groups_of d) (groups_of f ++ gate_bytes gs) s ∙ ap (λ (l : List ℕ). groups_of d ++ l) (append_assoc (groups_of f) (gate_bytes gs) s))) in
      let r1 = difference-reads false (2 * v - d) r0.0 f (gate_bytes gs ++ s) fine1 (omega (arith, o.1)) r0.2 in
      let r2 = gates-reads gs (suc v) r1.0 s o.3 (omega arith) r1.2 in
      let q0 : 2 * v - d ≡ g.rhs0 = omega (arith, o.1) in
      let q1 : 2 * v - d - f ≡ g.rhs1 = omega (arith, o.1, o.2) in
      let g-is : record { lhs = 2 * v; rhs0 = 2 * v - d; rhs1 = 2 * v - d - f } ≡ g = λ i. record { lhs = sym l-is i; rhs0 = q0 i; rhs1 = q1 i } in
      (r2.0, rw (r0.1, r1.1, r2.1) (ap (λ (x : Gate). got (x ∷ gs) r2.0) g-is), r2.2)
