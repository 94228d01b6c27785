-- A difference that was written is read back, and one that was read is written as the same bytes.
use Prim.Native.Nat.{ℕ, ◌+◌, ◌-◌, ◌^◌, ◌<◌, ◌≤◌, min}
use mathlib.Core.Path.{◌≡◌, refl, sym, ap, ◌∙◌}
use mathlib.Core.Bool.{Bool, true, false, cond}
use mathlib.Core.List.{List, ◌++◌}
use Rattle.std.specs.Prelude.{Ok, Err, Some, None}
use native.Mathlib.Omega.{arith}
use borrow.Author.Tests.{leb-true}
use lib.Dec.{leb}
use lib.ListN.{length, drop, length-append, length-drop}
use Rattle.plan.specs.declared.Refusal.TheVariants.{ShortBuffer}
use Rattle.plan.specs.Difference.{difference_at, groups_of}
use Rattle.plan.specs.Outcome.{WriteExit, put, put_by, write_difference}
use Rattle.laws.proofs.Put.{put-there, put_same, with-room}
use Rattle.laws.proofs.Reading.Differences.{Bytes, groups-some, groups-took, groups-reads}

-- a difference that stands where it was put
pub read-put : (s : List ℕ) (at d : ℕ) → d < 2 ^ 21 → at ≤ length s
    → difference_at (put s at (groups_of d)) at ≡ Ok (d, at + length (groups_of d))
read-put s at d h r = groups-reads (put s at (groups_of d)) 2 at at d _ h (omega arith) (λ l. absurd (omega arith)) (put-there s at (groups_of d) r)

-- what write_difference wrote, read_difference reads, and ends where the writer did
pub read-written : (s t : List ℕ) (at d n : ℕ) → d < 2 ^ 21
    → write_difference (record { out = s; at = at; value = d }) ≡ record { answer = Ok n; out = t } → difference_at t at ≡ Ok (d, at + n)
read-written s t at d n h e = go (leb (at + length (groups_of d)) (length s)) refl e
  where
    go : (b : Bool) → leb (at + length (groups_of d)) (length s) ≡ b
        → put_by (cond b None (Some (min (at + length (groups_of d)) (2 ^ 64 - 1)))) s at (groups_of d) ≡ record { answer = Ok n; out = t }
        → difference_at t at ≡ Ok (d, at + n)
    go true r e =
        let answer : Ok (length (groups_of d)) ≡ Ok n = ap (λ (x : WriteExit). x.answer) e in
        let count : length (groups_of d) ≡ n = cc in
        let fits : at + length (groups_of d) ≤ length s = leb-true (at + length (groups_of d)) (length s) r in
        ap (λ (l : List ℕ). difference_at l at) (sym (ap (λ (x : WriteExit). x.out) e))
        ∙ (read-put s at d h (omega arith) ∙ ap (λ (k : ℕ). Ok (d, at + k)) count)
    go false r e =
        let answer : Err (ShortBuffer (min (at + length (groups_of d)) (2 ^ 64 - 1))) ≡ Ok n = ap (λ (x : WriteExit). x.answer) e in
        let z : ◌≡◌ {A = ℕ} 0 1 = cc in
        absurd (omega arith)

-- what was read is written by the same bytes, in the same place
module _ (s : List ℕ) (at d next : ℕ) (bytes : Bytes s) (read : difference_at s at ≡ Ok (d, next)) where
  pub next-is : next ≡ at + length (groups_of d)
  next-is = (groups-took s bytes 3 at at d next (omega arith) read).2

  stands : drop at s ≡ groups_of d ++ drop (at + length (groups_of d)) s
  stands = (groups-took s bytes 3 at at d next (omega arith) read).1 ∙ ap (λ (k : ℕ). groups_of d ++ drop k s) next-is

  pub put-read : put s at (groups_of d) ≡ s
  put-read = put_same s at (groups_of d) stands

  pub written_read : write_difference (record { out = s; at = at; value = d }) ≡ record { answer = Ok (length (groups_of d)); out = s }
  written_read =
      let fits : at + length (groups_of d) ≤ length s
      = omega (arith, groups-some d, length-drop at s, ap length stands ∙ length-append (groups_of d) _) in
      sym (with-room s at (groups_of d) (length (groups_of d)) s fits refl (sym put-read))
