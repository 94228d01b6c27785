-- The values on the screen: none is wrong exactly if they are those of a step from the state and inputs among them.
use Prim.Native.Nat.{ℕ, zero, suc, ◌+◌, ◌≤◌, ◌<◌}
use mathlib.Core.Path.{◌≡◌, refl, sym, ap, ap₂, ◌∙◌, subst}
use mathlib.Core.Bool.{Bool, true, false, cond}
use mathlib.Core.Logic.{◌↔◌}
use mathlib.Core.List.{List, [], ◌∷◌, ◌++◌, map, map-append}
use Rattle.std.specs.Prelude.{Option, Some, None}
use native.Mathlib.Omega.{arith}
use native.Mathlib.Decide.{dec_lt, ℕ_discrete}
use borrow.Author.Tests.{eqb-true, eqb-false, eq-eqb, ne_eqb}
use lib.Dec.{eqb}
use lib.ListN.{length, get_or, take, drop, length-map, length-drop, get_or-map, get_or-eq_default}
use lib.Seq.{get_or-take, get_or-drop, drop-drop, length-take-le, take-add, ext_get_or}
use Rattle.plan.specs.Literals.{lit_of, var_of, sign_of}
use Rattle.plan.specs.Circuit.{Gate, Circuit}
use Rattle.plan.specs.Depends.{find}
use Rattle.plan.specs.Reading.{WellFormed}
use Rattle.plan.specs.Binary.{lits_from, binary_order}
use Rattle.plan.specs.Step.{Value, v0, v1, vx, code_of, value_of, and, signed_value, lit, gate_value, leaf_value, values_of}
use Rattle.laws.proofs.Reading.Runs.{length-lits, BinaryOrder, order-exactly}
use Rattle.laws.proofs.Running.Values.{Solves, unique}
use Rattle.laws.proofs.Reading.Members.{has-self, has-later}
use Rattle.laws.proofs.Running.Found.{FindSays, find-says}
use Rattle.laws.proofs.Running.Accepted.{accepted}
use Rattle.laws.proofs.Running.GateValue.{values-solve}
use Rattle.laws.proofs.Running.Signs.{lit-double}
use Rattle.laws.proofs.Running.Binary.{Binary, find_none, find-above, inner}
use Rattle.laws.proofs.Running.Upward.{given, leaf-at, lits-at}
use Rattle.laws.proofs.Running.InOrder.{order-binary, leaves-order}
use Rattle.plan.specs.Drop.{sides_of}
use Rattle.plan.specs.Rewire.{screen, inputs_on, state_on, value_on, follows, wrong_from, wrong_on}
use Rattle.laws.proofs.Walks.Walk.{Falls}
use Rattle.laws.proofs.Walks.Used.{sides-fall}

-- a byte is right
abbrev pub Right : List Gate → List ℕ → ℕ → Type 0
Right gs bytes v = get_or bytes v 0 ≡ code_of (follows gs bytes v)

pub value-code : (a : Value) → value_of (code_of a) ≡ a
value-code v0 = refl
value-code v1 = refl
value-code vx = refl

-- nothing is wrong exactly if each byte is right
pub all_right : (gs : List Gate) (bytes : List ℕ) (n v : ℕ) → wrong_from gs bytes v n ≡ None → (u : ℕ) → v ≤ u → u < v + n → Right gs bytes u
all_right gs bytes zero v e u h k = absurd (omega arith)
all_right gs bytes (suc n) v e u h k = go (eqb (get_or bytes v 0) (code_of (follows gs bytes v))) refl e (all_right gs bytes n (suc v))
  where
    go : (t : Bool) → eqb (get_or bytes v 0) (code_of (follows gs bytes v)) ≡ t → cond t (wrong_from gs bytes (suc v) n) (Some v) ≡ None
        → (wrong_from gs bytes (suc v) n ≡ None → (x : ℕ) → suc v ≤ x → x < suc v + n → Right gs bytes x) → Right gs bytes u
    go false q f ih = let z : ◌≡◌ {A = ℕ} 0 1 = cc in absurd (omega arith)
    go true q f ih = here (ℕ_discrete v u)
      where
        here : Dec (v ≡ u) → Right gs bytes u
        here (yes p) = subst (Right gs bytes) p (eqb-true (get_or bytes v 0) (code_of (follows gs bytes v)) q)
        here (no p) = ih f u (omega arith) (omega arith)

pub none-wrong : (gs : List Gate) (bytes : List ℕ) (n v : ℕ) → ((u : ℕ) → v ≤ u → u < v + n → Right gs bytes u) → wrong_from gs bytes v n ≡ None
none-wrong gs bytes zero v h = refl
none-wrong gs bytes (suc n) v h =
    rw (eq-eqb (get_or bytes v 0) (code_of (follows gs bytes v)) (h v (omega arith) (omega arith)))
    (none-wrong gs bytes n (suc v) (λ u p q. h u (omega arith) (omega arith)))

-- the place of 23 is the least variable whose byte is not right
pub wrong-least : (gs : List Gate) (bytes : List ℕ) (n v x : ℕ) → wrong_from gs bytes v n ≡ Some x
    → (¬ Right gs bytes x) × ((u : ℕ) → v ≤ u → u < x → Right gs bytes u)
wrong-least gs bytes zero v x e = let z : ◌≡◌ {A = ℕ} 0 1 = cc in absurd (omega arith)
wrong-least gs bytes (suc n) v x e = go (eqb (get_or bytes v 0) (code_of (follows gs bytes v))) refl e (wrong-least gs bytes n (suc v) x)
  where
    go : (t : Bool) → eqb (get_or bytes v 0) (code_of (follows gs bytes v)) ≡ t → cond t (wrong_from gs bytes (suc v) n) (Some v) ≡ Some x
        → (wrong_from gs bytes (suc v) n ≡ Some x → (¬ Right gs bytes x) × ((u : ℕ) → suc v ≤ u → u < x → Right gs bytes u))
        → (¬ Right gs bytes x) × ((u : ℕ) → v ≤ u → u < x → Right gs bytes u)
    go false q f ih =
        let same : v ≡ x = cc in (
          subst (λ (y : ℕ). ¬ Right gs bytes y) same (eqb-false (get_or bytes v 0) (code_of (follows gs bytes v)) q),
          λ u a b. absurd (omega arith),
        )
    go true q f ih =
        let r = ih f in (
          r.0,
          λ u a b. here u a b (ℕ_discrete v u),
        )
      where
        here : (u : ℕ) → v ≤ u → u < x → Dec (v ≡ u) → Right gs bytes u
        here u a b (yes p) = subst (Right gs bytes) p (eqb-true (get_or bytes v 0) (code_of (follows gs bytes v)) q)
        here u a b (no p) = (ih f).1 u (omega arith) b

wrong-within : (gs : List Gate) (bytes : List ℕ) (n v x : ℕ) → wrong_from gs bytes v n ≡ Some x → x < v + n
wrong-within gs bytes zero v x e = let z : ◌≡◌ {A = ℕ} 0 1 = cc in absurd (omega arith)
wrong-within gs bytes (suc n) v x e = go (eqb (get_or bytes v 0) (code_of (follows gs bytes v))) e (wrong-within gs bytes n (suc v) x)
  where
    go : (t : Bool) → cond t (wrong_from gs bytes (suc v) n) (Some v) ≡ Some x → (wrong_from gs bytes (suc v) n ≡ Some x → x < suc v + n) → x < v + suc n
    go false f ih = let same : v ≡ x = cc in omega arith
    go true f ih = let lt = ih f in omega arith

-- a variable of the gates' has a gate
gate-there : (n : ℕ) (gs : List Gate) → Binary n gs → (v : ℕ) → n ≤ v → v < n + length gs → find v gs ≡ None → ⊥
gate-there n [] b v h k e = omega arith
gate-there n (g ∷ gs) b v h k e = go (eqb (var_of g.lhs) v) refl e (gate-there (suc n) gs b.3 v)
  where
    go : (t : Bool) → eqb (var_of g.lhs) v ≡ t → cond t (Some g) (find v gs) ≡ None
        → (suc n ≤ v → v < suc n + length gs → find v gs ≡ None → ⊥) → ⊥
    go true q f ih = let z : ◌≡◌ {A = ℕ} 0 1 = cc in omega arith
    go false q f ih = ih (omega (arith, eqb-false (var_of g.lhs) v q, b.0)) (omega arith) f

module _ (c : Circuit) (w : WellFormed c) (t : binary_order c ≡ true) (bytes : List ℕ) (size : length bytes ≡ c.M + 1) where
  order : BinaryOrder c
  order = (order-exactly c).0 t

  binary : Binary (inner c) c.gates
  binary = order-binary (inner c) c.gates order.gates

  s : List Value
  s = state_on c bytes

  i : List Value
  i = inputs_on c bytes

  words : List ℕ
  words = take (length c.inputs + length c.latches) (drop 1 bytes)

  both : i ++ s ≡ map value_of words
  unfolding i s words
  both =
      sym (map-append value_of (take (length c.inputs) (drop 1 bytes)) (take (length c.latches) (drop (1 + length c.inputs) bytes)))
      ∙ ap (map value_of) (sym joined)
    where
      joined : take (length c.inputs + length c.latches) (drop 1 bytes)
          ≡ take (length c.inputs) (drop 1 bytes) ++ take (length c.latches) (drop (1 + length c.inputs) bytes)
      joined =
          take-add (length c.inputs) (length c.latches) (drop 1 bytes)
          ∙ ap (λ (l : List ℕ). take (length c.inputs) (drop 1 bytes) ++ take (length c.latches) l) (drop-drop (length c.inputs) 1 bytes)

  words-length : length words ≡ length c.inputs + length c.latches
  unfolding words
  words-length = length-take-le (length c.inputs + length c.latches) (drop 1 bytes) (omega (arith, length-drop 1 bytes, order.sum))

  given-length : length (given s i) ≡ inner c
  given-length = omega (arith, ap length both, length-map words value_of, words-length)

  leaf-is : (v : ℕ) → leaf_value c s i v ≡ get_or (given s i) v vx
  leaf-is = leaf-at c (inner c) s i (leaves-order c order) given-length

  -- an input's or a latch's value is its own
  leaf-on : (v : ℕ) → v < inner c → (v ≡ 0 → ⊥) → leaf_value c s i v ≡ value_on bytes v
  unfolding words
  leaf-on zero h n = absurd (n refl)
  leaf-on (suc v) h n =
      leaf-is (suc v) ∙ ap (λ (l : List Value). get_or l v vx) both ∙ get_or-map value_of words v 0
      ∙ ap value_of (at-word v (omega arith))
    where
      at-word : (u : ℕ) → u < length c.inputs + length c.latches → get_or words u 0 ≡ get_or bytes (suc u) 0
      at-word u k =
          let e : 1 + u ≡ suc u = omega arith in
          get_or-take (length c.inputs + length c.latches) (drop 1 bytes) u 0 k ∙ get_or-drop 1 bytes u 0 ∙ ap (λ (q : ℕ). get_or bytes q 0) e

  -- where all values below are the step's, what must be is the step's
  follows-step : (v : ℕ) → v < c.M + 1 → ((u : ℕ) → u < v → value_on bytes u ≡ values_of c s i u) → follows c.gates bytes v ≡ values_of c s i v
  follows-step v h low = go (find v c.gates) refl
    where
      go : (o : Option Gate) → find v c.gates ≡ o → follows c.gates bytes v ≡ values_of c s i v
      go (Some g) f =
          let fall = subst (FindSays v c.gates) f (find-says v c.gates) in
          let lower = fall.1 (Falls sides_of) (sides-fall (inner c) c.gates binary) in
          let r0 = lower (var_of g.rhs0) (has-self (var_of g.rhs0) (var_of g.rhs1 ∷ [])) in
          let r1 = lower (var_of g.rhs1) (has-later (var_of g.rhs1) (var_of g.rhs0) (var_of g.rhs1 ∷ []) (has-self (var_of g.rhs1) [])) in
          ap (gate_value (value_on bytes) (cond (eqb v 0) v0 (value_on bytes v))) f
          ∙ ap₂ and (ap (signed_value (sign_of g.rhs0)) (low (var_of g.rhs0) (omega (arith, r0, fall.0))))
          (ap (signed_value (sign_of g.rhs1)) (low (var_of g.rhs1) (omega (arith, r1, fall.0))))
          ∙ sym (values-solve c (accepted c w) s i v ∙ ap (gate_value (values_of c s i) (leaf_value c s i v)) f)
      go None f =
          ap (gate_value (value_on bytes) (cond (eqb v 0) v0 (value_on bytes v))) f ∙ leaf (ℕ_discrete v 0) (dec_lt v (inner c))
          ∙ sym (values-solve c (accepted c w) s i v ∙ ap (gate_value (values_of c s i) (leaf_value c s i v)) f)
        where
          leaf : Dec (v ≡ 0) → Dec (v < inner c) → cond (eqb v 0) v0 (value_on bytes v) ≡ leaf_value c s i v
          leaf (yes z) q =
              ap (λ (b : Bool). cond b v0 (value_on bytes v)) (eq-eqb v 0 z) ∙ sym (leaf-is v ∙ ap (λ (q : ℕ). get_or (given s i) q vx) z)
          leaf (no n) (yes q) = ap (λ (b : Bool). cond b v0 (value_on bytes v)) (ne_eqb v 0 n) ∙ sym (leaf-on v q n)
          leaf (no n) (no q) = absurd (gate-there (inner c) c.gates binary v (omega arith) (omega (arith, order.sum)) f)

  low_values : (v : ℕ) → v ≤ c.M + 1 → ((u : ℕ) → u < v → Right c.gates bytes u) → (u : ℕ) → u < v → value_on bytes u ≡ values_of c s i u
  low_values zero h right u k = absurd (omega arith)
  low_values (suc v) h right u k = go (dec_lt u v) (low_values v (omega arith) (λ x q. right x (omega arith)))
    where
      go : Dec (u < v) → ((x : ℕ) → x < v → value_on bytes x ≡ values_of c s i x) → value_on bytes u ≡ values_of c s i u
      go (yes q) ih = ih u q
      go (no q) ih =
          let e : v ≡ u = omega arith in
          subst (λ (x : ℕ). value_on bytes x ≡ values_of c s i x) e
          (ap value_of (right v (omega arith)) ∙ value-code (follows c.gates bytes v) ∙ follows-step v (omega arith) ih)

  -- 23 names the least variable whose byte is not that of the step from the state and inputs on the screen
  pub least-of-step : (v : ℕ) → wrong_on c bytes ≡ Some v
      → (get_or bytes v 0 ≡ code_of (values_of c (state_on c bytes) (inputs_on c bytes) v) → ⊥)
      × ((u : ℕ) → u < v → get_or bytes u 0 ≡ code_of (values_of c (state_on c bytes) (inputs_on c bytes) u))
  unfolding s i
  least-of-step v e =
      let l = wrong-least c.gates bytes (c.M + 1) 0 v e in
      let within : v < 0 + (c.M + 1) = wrong-within c.gates bytes (c.M + 1) 0 v e in
      let right : (u : ℕ) → u < v → Right c.gates bytes u = λ u k. l.1 u (omega arith) k in
      let low = low_values v (omega arith) right in (
        λ q. l.0 (q ∙ ap code_of (sym (follows-step v (omega arith) low))),
        λ u k. right u k ∙ ap code_of (sym (ap value_of (right u k) ∙ value-code (follows c.gates bytes u)) ∙ low u k),
      )

  past_end : (v : ℕ) → c.M + 1 ≤ v → value_on bytes v ≡ leaf_value c s i v
  past_end v h =
      ap value_of (get_or-eq_default bytes 0 {n = v} (omega arith))
      ∙ sym (leaf-is v ∙ get_or-eq_default (given s i) vx {n = v} (omega (arith, given-length, order.sum)))

  module _ (right : (v : ℕ) → v < c.M + 1 → Right c.gates bytes v) where
    on-follows : (v : ℕ) → v < c.M + 1 → value_on bytes v ≡ follows c.gates bytes v
    on-follows v h = ap value_of (right v h) ∙ value-code (follows c.gates bytes v)

    on-solves : Solves c.gates (leaf_value c s i) (value_on bytes)
    on-solves v = low (dec_lt v (inner c))
      where
        gate-case : (o : Option Gate) → find v c.gates ≡ o → inner c ≤ v → v < c.M + 1
            → follows c.gates bytes v ≡ gate_value (value_on bytes) (leaf_value c s i v) (find v c.gates)
        gate-case None e h k = absurd (gate-there (inner c) c.gates binary v h (omega (arith, order.sum)) e)
        gate-case (Some g) e h k =
            ap (gate_value (value_on bytes) (cond (eqb v 0) v0 (value_on bytes v))) e ∙ sym (ap (gate_value (value_on bytes) (leaf_value c s i v)) e)

        high : Dec (v < c.M + 1) → inner c ≤ v → value_on bytes v ≡ gate_value (value_on bytes) (leaf_value c s i v) (find v c.gates)
        high (yes k) h = on-follows v k ∙ gate-case (find v c.gates) refl h k
        high (no k) h =
            past_end v (omega arith) ∙ sym (ap (gate_value (value_on bytes) (leaf_value c s i v))
            (find-above (inner c) c.gates binary v (omega (arith, order.sum))))

        leaf-case : Dec (v ≡ 0) → v < inner c → value_on bytes v ≡ leaf_value c s i v
        leaf-case (no n) h = sym (leaf-on v h n)
        leaf-case (yes e) h =
            on-follows v (omega (arith, order.sum))
            ∙ ap (gate_value (value_on bytes) (cond (eqb v 0) v0 (value_on bytes v))) (find_none (inner c) c.gates binary v h)
            ∙ ap (λ (b : Bool). cond b v0 (value_on bytes v)) (eq-eqb v 0 e)
            ∙ sym (leaf-is v ∙ ap (λ (q : ℕ). get_or (given s i) q vx) e)

        low : Dec (v < inner c) → value_on bytes v ≡ gate_value (value_on bytes) (leaf_value c s i v) (find v c.gates)
        low (no h) = high (dec_lt v (c.M + 1)) (omega arith)
        low (yes h) =
            leaf-case (ℕ_discrete v 0) h ∙ sym (ap (gate_value (value_on bytes) (leaf_value c s i v)) (find_none (inner c) c.gates binary v h))

    -- the values on the screen are those of the step
    on_values : (v : ℕ) → value_on bytes v ≡ values_of c s i v
    on_values v = unique c.gates (leaf_value c s i) (value_on bytes) on-solves (length c.gates) v ((accepted c w).settles v)

    pub right-values : (v : ℕ) → value_on bytes v ≡ values_of c (state_on c bytes) (inputs_on c bytes) v
    unfolding s i
    right-values v = on_values v

-- a byte of the screen
pub length-screen : (c : Circuit) (s i : List Value) → length (screen c s i) ≡ c.M + 1
length-screen c s i =
    length-map (map (lit (values_of c s i)) (lits_from 0 (c.M + 1))) code_of ∙ length-map (lits_from 0 (c.M + 1)) (lit (values_of c s i))
    ∙ length-lits 0 (c.M + 1)

map_at : {A : Type 0} (f : ℕ → A) (l : List ℕ) (d : A) (v : ℕ) → v < length l → get_or (map f l) v d ≡ f (get_or l v 0)
map_at f [] d v h = absurd (omega arith)
map_at f (x ∷ l) d zero h = refl
map_at f (x ∷ l) d (suc v) h = map_at f l d v (omega arith)

codes_at : (l : List Value) (v : ℕ) → v < length l → get_or (map code_of l) v 0 ≡ code_of (get_or l v vx)
codes_at [] v h = absurd (omega arith)
codes_at (x ∷ l) zero h = refl
codes_at (x ∷ l) (suc v) h = codes_at l v (omega arith)

pub screen-at : (c : Circuit) (s i : List Value) (v : ℕ) → v < c.M + 1 → get_or (screen c s i) v 0 ≡ code_of (values_of c s i v)
screen-at c s i v h =
    let e : lit_of (0 + v) ≡ lit_of v = omega arith in
    let ls = lits_from 0 (c.M + 1) in
    codes_at (map (lit (values_of c s i)) ls) v (omega (arith, length-map ls (lit (values_of c s i)), length-lits 0 (c.M + 1)))
    ∙ ap code_of (map_at (lit (values_of c s i)) ls vx v (omega (arith, length-lits 0 (c.M + 1)))
    ∙ ap (lit (values_of c s i)) (lits-at 0 (c.M + 1) v h ∙ e) ∙ lit-double (values_of c s i) v)

-- nothing on the screen is wrong exactly if it shows the step from its own state and inputs
pub screen-exactly : (c : Circuit) → WellFormed c → binary_order c ≡ true → (bytes : List ℕ) → length bytes ≡ c.M + 1
    → (wrong_on c bytes ≡ None) ↔ (bytes ≡ screen c (state_on c bytes) (inputs_on c bytes))
unfolding s i
screen-exactly c w t bytes size = (shows, passes)
  where
    s : List Value
    s = state_on c bytes

    i : List Value
    i = inputs_on c bytes

    shows : wrong_on c bytes ≡ None → bytes ≡ screen c s i
    shows e =
        let right : (v : ℕ) → v < c.M + 1 → Right c.gates bytes v = λ v h. all_right c.gates bytes (c.M + 1) 0 e v (omega arith) (omega arith) in
        ext_get_or 0 bytes (screen c s i) (size ∙ sym (length-screen c s i))
        (λ v h. right v (omega arith)
        ∙ ap code_of (sym (on-follows c w t bytes size right v (omega arith)) ∙ right-values c w t bytes size right v)
        ∙ sym (screen-at c s i v (omega arith)))

    on_step : bytes ≡ screen c s i → (v : ℕ) → v < c.M + 1 → value_on bytes v ≡ values_of c s i v
    on_step e v h = ap (λ (l : List ℕ). value_of (get_or l v 0)) e ∙ ap value_of (screen-at c s i v h) ∙ value-code (values_of c s i v)

    passes : bytes ≡ screen c s i → wrong_on c bytes ≡ None
    passes e =
        none-wrong c.gates bytes (c.M + 1) 0 (λ v _ h.
        ap (λ (l : List ℕ). get_or l v 0) e ∙ screen-at c s i v (omega arith)
        ∙ ap code_of (values-solve c (accepted c w) s i v ∙ same v (omega arith) (find v c.gates) refl))
      where
        same : (v : ℕ) → v < c.M + 1 → (o : Option Gate) → find v c.gates ≡ o
            → gate_value (values_of c s i) (leaf_value c s i v) o ≡ gate_value (value_on bytes) (cond (eqb v 0) v0 (value_on bytes v)) o
        same v h (Some g) f =
            let fall = subst (FindSays v c.gates) f (find-says v c.gates) in
            let low = fall.1 (Falls sides_of) (sides-fall (inner c) c.gates (order-binary (inner c) c.gates ((order-exactly c).0 t).gates)) in
            let lhs = fall.0 in
            let r0 = low (var_of g.rhs0) (has-self (var_of g.rhs0) (var_of g.rhs1 ∷ [])) in
            let r1 = low (var_of g.rhs1) (has-later (var_of g.rhs1) (var_of g.rhs0) (var_of g.rhs1 ∷ []) (has-self (var_of g.rhs1) [])) in
            ap₂ and (ap (signed_value (sign_of g.rhs0)) (sym (on_step e (var_of g.rhs0) (omega (arith, r0, lhs)))))
            (ap (signed_value (sign_of g.rhs1)) (sym (on_step e (var_of g.rhs1) (omega (arith, r1, lhs)))))
        same v h None f =
            let solved = values-solve c (accepted c w) s i v ∙ ap (gate_value (values_of c s i) (leaf_value c s i v)) f in
            leaf (ℕ_discrete v 0) solved
          where
            leaf : Dec (v ≡ 0) → values_of c s i v ≡ leaf_value c s i v → leaf_value c s i v ≡ cond (eqb v 0) v0 (value_on bytes v)
            leaf (yes z) solved =
                leaf-is c w t bytes size v ∙ ap (λ (q : ℕ). get_or (given s i) q vx) z ∙ sym (ap (λ (q : Bool). cond q v0 (value_on bytes v)) (eq-eqb v 0 z))
            leaf (no n) solved = sym solved ∙ sym (on_step e v h) ∙ sym (ap (λ (q : Bool). cond q v0 (value_on bytes v)) (ne_eqb v 0 n))
