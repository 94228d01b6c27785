-- A needle's line and the lines of n needles, put one after the other.
use Prim.Native.Nat.{ℕ, suc, ◌+◌, ◌*◌, ◌-◌, ◌≤◌, ◌<◌, min}
use mathlib.Core.Path.{◌≡◌, refl, ap, ap₂, ◌∙◌}
use mathlib.Core.List.{List, [], ◌∷◌, ◌++◌, append_assoc, append-nil}
use native.Mathlib.Omega.{arith}
use lib.ListN.{length, get_or, take, set, length-append, length-set}
use lib.Seq.{take_all}
use Rattle.plan.specs.Circuit.{rows_of}
use Rattle.plan.specs.Bytes.{digits, end_of, line_of, lines_of}
use Rattle.plan.specs.Outcome.{put}
use Rattle.laws.proofs.Put.{put-put, put_one, put-length}
use Rattle.write.proofs.print.Sizes.{digits-ten}
use Rattle.plan.specs.Report.{in_turn}
use Rattle.plan.specs.Reporter.{needle_line, needle_lines}
use Rattle.runs.specs.reporting.Fitting.{rows_for, fitting_lines}

-- after i of them
pub record Lined (f : ℕ → List ℕ) (out₀ : List ℕ) (at i next : ℕ) (out : List ℕ) : Type 0 where
  pub place : next ≡ at + length (in_turn f i)
  pub so_far : out ≡ put out₀ at (in_turn f i)
  pub few : next ≤ at + 66 * i
  pub size : length out ≡ length out₀

pub lined-more : {f : ℕ → List ℕ} {out₀ : List ℕ} {at i next : ℕ} {out : List ℕ} → Lined f out₀ at i next out → (n : ℕ) → i < n
    → at + 66 * n ≤ length out₀
    → (next' : ℕ) (out' : List ℕ) → next' ≡ next + length (f i) → next' ≤ next + 66 → out' ≡ put out next (f i) → length out' ≡ length out
    → Lined f out₀ at (i + 1) next' out'
lined-more {f} {out₀} {at} {i} {next} {out} p n h room next' out' e short o same =
    let more : suc i ≡ i + 1 = omega arith in
    let sum : length (in_turn f i ++ f i) ≡ length (in_turn f i) + length (f i) = length-append (in_turn f i) (f i) in
    record {
      place = e ∙ (omega (arith, p.place) ∙ ap (λ (k : ℕ). at + length (in_turn f k)) more);
      so_far =
          o ∙ (ap₂ (λ (x : List ℕ) (k : ℕ). put x k (f i)) p.so_far p.place
          ∙ (put-put out₀ at (in_turn f i) (f i) (omega (arith, p.few, p.place)) ∙ ap (λ (k : ℕ). put out₀ at (in_turn f k)) more));
      few = omega (arith, p.few);
      size = same ∙ p.size;
    }

-- the parts of a line: w stands from a position on, and k is the position after it
pub record Wrote (out₀ : List ℕ) (at : ℕ) (w out : List ℕ) (k : ℕ) : Type 0 where
  pub filled : out ≡ put out₀ at w
  pub place : k ≡ at + length w
  pub size : length out ≡ length out₀

pub wrote-more : {out₀ : List ℕ} {at : ℕ} {w out : List ℕ} {k : ℕ} → Wrote out₀ at w out k → (y out' : List ℕ) (k' : ℕ) → k + length y ≤ length out₀
    → out' ≡ put out k y → k' ≡ k + length y → Wrote out₀ at (w ++ y) out' k'
wrote-more {out₀} {at} {w} {out} {k} s y out' k' h e f =
    let both : length (w ++ y) ≡ length w + length y = length-append w y in
    let fits : at + length (w ++ y) ≤ length out₀ = omega (arith, s.place) in
    let here : out' ≡ put out₀ at (w ++ y)
    = e ∙ (ap₂ (λ (x : List ℕ) (i : ℕ). put x i y) s.filled s.place ∙ put-put out₀ at w y fits) in
    record { filled = here; place = omega (arith, s.place); size = ap length here ∙ put-length out₀ at (w ++ y) fits }

pub wrote-first : (out₀ : List ℕ) (at b : ℕ) → at < length out₀ → Wrote out₀ at (b ∷ []) (set out₀ at b) (at + 1)
wrote-first out₀ at b h = record { filled = put_one out₀ at b h; place = refl; size = length-set out₀ at b }

pub wrote-byte : {out₀ : List ℕ} {at : ℕ} {w out : List ℕ} {k : ℕ} → Wrote out₀ at w out k → (b : ℕ) → k < length out₀
    → Wrote out₀ at (w ++ (b ∷ [])) (set out k b) (k + 1)
wrote-byte {out₀} {at} {w} {out} {k} s b h =
    wrote-more s (b ∷ []) (set out k b) (k + 1) (omega arith) (put_one out k b (omega (arith, s.size))) refl

-- the parts are the line
pub line-parts : (letter n : ℕ) (row : List ℕ) → ((((letter ∷ []) ++ digits n) ++ (32 ∷ [])) ++ line_of row) ≡ needle_line letter n row
line-parts letter n row =
    append_assoc (letter ∷ digits n) (32 ∷ []) (line_of row)

-- four words are a line
pub one_line : (row : List ℕ) → length row ≡ 4 → lines_of (rows_of 4 1 row) ≡ line_of row
one_line row l = append-nil (line_of (take 4 row)) ∙ ap line_of (take_all 4 row (omega (arith, l)))

pub line-short : (l : List ℕ) → ((i : ℕ) → get_or l i 0 < 4294967296) → length (line_of l) ≤ 11 * length l
line-short [] h = omega arith
line-short (x ∷ l) h =
    omega (arith, length-append (digits x) (end_of (length l) ∷ line_of l), digits-ten x (h 0), line-short l (λ i. h (suc i)))

-- two parts, of which the first may be said in another way
pub two-parts : (out out1 out2 a a' b : List ℕ) (next r : ℕ) → a' ≡ a → out1 ≡ put out 0 a' → next ≡ 0 + length a' → out2 ≡ put out1 next b
    → r ≡ next + length b
    → r ≤ length out
    → (r ≡ length (a ++ b)) × (out2 ≡ put out 0 (a ++ b))
two-parts out out1 out2 a a' b next r same e1 n e2 q room =
    let long : length a' ≡ length a = ap length same in
    let sum : length (a ++ b) ≡ length a + length b = length-append a b in
    let place : next ≡ 0 + length a = omega arith in (
      omega arith,
      e2 ∙ (ap₂ (λ (x : List ℕ) (k : ℕ). put x k b) (e1 ∙ ap (put out 0) same) place ∙ put-put out 0 a b (omega arith)),
    )

-- with room all lines are written
pub all_fit : (outputs latches : ℕ) (six out : List ℕ) → 4 * (outputs + latches) ≤ length six → 66 * (outputs + latches) ≤ length out
    → fitting_lines outputs latches six out ≡ needle_lines outputs latches six
all_fit outputs latches six out words bytes =
    let o : min outputs (rows_for six out) ≡ outputs = omega arith in
    let l : min latches (rows_for six out - min outputs (rows_for six out)) ≡ latches = omega arith in
    ap₂ (λ (n m : ℕ). needle_lines n m six) o l
