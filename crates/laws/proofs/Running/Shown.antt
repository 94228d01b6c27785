-- The witness question: a yes stays a yes where x is replaced, and after conversion and reduction; conversion changes no answer.
use mathlib.Core.Path.{◌≡◌, refl, ap, ◌∙◌}
use mathlib.Core.Bool.{Bool, true, false, ◌||◌, false≢true}
use mathlib.Core.List.{List, [], ◌∷◌}
use lib.ListN.{length}
use Rattle.plan.specs.Circuit.{Circuit}
use Rattle.plan.specs.Reading.{WellFormed}
use Rattle.plan.specs.Convert.{convert}
use Rattle.plan.specs.Reduce.{reduce}
use Rattle.plan.specs.Step.{Value, v0, v1, vx, Step, run, first_state, is1, any1, all1, shows1}
use Rattle.laws.proofs.Reading.Common.{and_left, and_right, and_intro}
use Rattle.laws.proofs.Running.Refinement.{Le, Les}
use Rattle.laws.proofs.Running.Monotone.{Replaced, Kept, run-monotone}
use Rattle.laws.proofs.Running.Runs.{Sized, convert-run}
use Rattle.laws.proofs.Running.Resets.{first-convert, first-length}
use Rattle.laws.proofs.Running.DemandThree.{demand-three-from}

or_cases : (a b : Bool) (P : Type 0) → (a || b) ≡ true → (a ≡ true → P) → (b ≡ true → P) → P
or_cases true b P h f g = f refl
or_cases false b P h f g = g h

or-first : (a b : Bool) → a ≡ true → (a || b) ≡ true
or-first true b h = refl
or-first false b h = absurd (false≢true h)

or-second : (a b : Bool) → b ≡ true → (a || b) ≡ true
or-second true b h = refl
or-second false b h = h

-- a 1 stays a 1
is1-kept : (a b : Value) → Le a b → is1 a ≡ true → is1 b ≡ true
is1-kept v0 b h k = absurd (false≢true k)
is1-kept v1 v0 h k = absurd h
is1-kept v1 v1 h k = refl
is1-kept v1 vx h k = absurd h
is1-kept vx b h k = absurd (false≢true k)

any1-kept : (xs ys : List Value) → Les xs ys → any1 xs ≡ true → any1 ys ≡ true
any1-kept [] ys h k = absurd (false≢true k)
any1-kept (x ∷ xs) [] h k = absurd h
any1-kept (x ∷ xs) (y ∷ ys) h k =
    or_cases (is1 x) (any1 xs) (any1 (y ∷ ys) ≡ true) k (λ e. or-first (is1 y) (any1 ys) (is1-kept x y h.0 e))
    (λ e. or-second (is1 y) (any1 ys) (any1-kept xs ys h.1 e))

all1-kept : (xs ys : List Value) → Les xs ys → all1 xs ≡ true → all1 ys ≡ true
all1-kept [] [] h k = refl
all1-kept [] (y ∷ ys) h k = absurd h
all1-kept (x ∷ xs) [] h k = absurd h
all1-kept (x ∷ xs) (y ∷ ys) h k =
    and_intro (is1 y) (all1 ys) (is1-kept x y h.0 (and_left (is1 x) (all1 xs) k)) (all1-kept xs ys h.1 (and_right (is1 x) (all1 xs) k))

-- so where every step keeps what was 0 or 1, a yes stays a yes
pub shows_kept : (xs ys : List Step) → Kept xs ys → shows1 xs ≡ true → shows1 ys ≡ true
shows_kept [] ys h k = absurd (false≢true k)
shows_kept (x ∷ xs) [] h k = absurd h
shows_kept (x ∷ xs) (y ∷ ys) h k =
    let more = any1 y.bads || shows1 ys in
    and_intro (all1 y.constraints) _ (all1-kept x.constraints y.constraints h.3 (and_left (all1 x.constraints) _ k))
    (or_cases (any1 x.outputs) (any1 x.bads || shows1 xs) ((any1 y.outputs || more) ≡ true) (and_right (all1 x.constraints) _ k)
    (λ e. or-first (any1 y.outputs) more (any1-kept x.outputs y.outputs h.1 e))
    (λ e. or-second (any1 y.outputs) more
    (or_cases (any1 x.bads) (shows1 xs) (more ≡ true) e (λ q. or-first (any1 y.bads) (shows1 ys) (any1-kept x.bads y.bads h.2 q))
    (λ q. or-second (any1 y.bads) (shows1 ys) (shows_kept xs ys h.5 q)))))

-- x of the list and of the start replaced in any way
pub shows-replaced : (c : Circuit) (is js : List (List Value)) → Replaced is js → (s s' : List Value) → Les s s'
    → shows1 (run c s is) ≡ true → shows1 (run c s' js) ≡ true
shows-replaced c is js r s s' h = shows_kept (run c s is) (run c s' js) (run-monotone c is js r s s' h)

module _ (c : Circuit) (w : WellFormed c) (is : List (List Value)) (z : Sized (length c.inputs) is) where
  pub shows-converted : shows1 (run (convert c) (first_state (convert c)) is) ≡ shows1 (run c (first_state c) is)
  shows-converted =
      ap (λ (s : List Value). shows1 (run (convert c) s is)) (first-convert c) ∙ ap shows1 (convert-run c w is z (first_state c) (first-length c w))

  pub shows-reduced : (js : List (List Value)) → Replaced is js → (s : List Value) → Les (first_state c) s
      → shows1 (run c (first_state c) is) ≡ true → shows1 (run (reduce (convert c)) s js) ≡ true
  shows-reduced js r s h = shows_kept (run c (first_state c) is) (run (reduce (convert c)) s js) (demand-three-from c w is js z r s h)
