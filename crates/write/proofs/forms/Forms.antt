-- A buffer that parts are written into one after another: each has room, and after the last one all of them stand there.
use Prim.Native.Nat.{ℕ, ◌+◌, ◌≤◌}
use mathlib.Core.Path.{◌≡◌, refl, sym}
use mathlib.Core.List.{List, [], ◌++◌, append-nil}
use native.Mathlib.Omega.{arith}
use lib.ListN.{length}
use Rattle.plan.specs.Outcome.{put}
use Rattle.write.proofs.print.Filling.{Filling, none_filled, part_filled, all-filled, all-ends}
use Rattle.write.proofs.forms.Filled.{Puts, first_fits, first-filled, next_fits, next-filled, last-filled}

-- three parts from a position on
module _ (out : List ℕ) (at : ℕ) (x y z : List ℕ) (fits : at + length (x ++ (y ++ z)) ≤ length out) where
  start : Filling out at (x ++ (y ++ z)) out at (x ++ (y ++ z))
  start = none_filled out at (x ++ (y ++ z)) fits

  pub fits-1 : at + length x ≤ length out
  fits-1 = next_fits x (y ++ z) start

  module _ {p1 : ℕ} {out1 : List ℕ} (w1 : Puts out at x p1 out1) where
    f1 : Filling out at (x ++ (y ++ z)) out1 p1 (y ++ z)
    f1 = next-filled x (y ++ z) start w1

    pub fits-2 : p1 + length y ≤ length out1
    fits-2 = next_fits y z f1

    module _ {p2 : ℕ} {out2 : List ℕ} (w2 : Puts out1 p1 y p2 out2) where
      f2 : Filling out at (x ++ (y ++ z)) out2 p2 z
      f2 = next-filled y z f1 w2

      pub fits-3 : p2 + length z ≤ length out2
      fits-3 = f2.room

      pub three-filled : {p3 : ℕ} {out3 : List ℕ} → Puts out2 p2 z p3 out3
          → (p3 ≡ at + length (x ++ (y ++ z))) × (out3 ≡ put out at (x ++ (y ++ z)))
      three-filled w3 =
          let g = part_filled f2 z [] _ _ (sym (append-nil z)) w3.1 w3.0 in
          (all-ends g refl, all-filled g refl)

-- a header, and then four parts or three
module _ (out head x y z v : List ℕ) (fits : length (head ++ (x ++ (y ++ (z ++ v)))) ≤ length out) where
  pub five-fits-0 : length head ≤ length out
  five-fits-0 = omega (arith, first_fits head (x ++ (y ++ (z ++ v))) out fits)

  module _ {p0 : ℕ} {out0 : List ℕ} (w0 : (p0 ≡ length head) × (out0 ≡ put out 0 head)) where
    g0 : Filling out 0 (head ++ (x ++ (y ++ (z ++ v)))) out0 p0 (x ++ (y ++ (z ++ v)))
    g0 = first-filled head (x ++ (y ++ (z ++ v))) out fits w0

    pub five-fits-1 : p0 + length x ≤ length out0
    five-fits-1 = next_fits x (y ++ (z ++ v)) g0

    module _ {p1 : ℕ} {out1 : List ℕ} (w1 : Puts out0 p0 x p1 out1) where
      g1 : Filling out 0 (head ++ (x ++ (y ++ (z ++ v)))) out1 p1 (y ++ (z ++ v))
      g1 = next-filled x (y ++ (z ++ v)) g0 w1

      pub five-fits-2 : p1 + length y ≤ length out1
      five-fits-2 = next_fits y (z ++ v) g1

      module _ {p2 : ℕ} {out2 : List ℕ} (w2 : Puts out1 p1 y p2 out2) where
        g2 : Filling out 0 (head ++ (x ++ (y ++ (z ++ v)))) out2 p2 (z ++ v)
        g2 = next-filled y (z ++ v) g1 w2

        pub five-fits-3 : p2 + length z ≤ length out2
        five-fits-3 = next_fits z v g2

        module _ {p3 : ℕ} {out3 : List ℕ} (w3 : Puts out2 p2 z p3 out3) where
          g3 : Filling out 0 (head ++ (x ++ (y ++ (z ++ v)))) out3 p3 v
          g3 = next-filled z v g2 w3

          pub five-fits-4 : p3 + length v ≤ length out3
          five-fits-4 = g3.room

          pub five-filled : {p4 : ℕ} {out4 : List ℕ} → Puts out3 p3 v p4 out4
              → (p4 ≡ length (head ++ (x ++ (y ++ (z ++ v))))) × (out4 ≡ put out 0 (head ++ (x ++ (y ++ (z ++ v)))))
          five-filled w4 = last-filled v g3 w4

module _ (out head x y z : List ℕ) (fits : length (head ++ (x ++ (y ++ z))) ≤ length out) where
  pub four-fits-0 : length head ≤ length out
  four-fits-0 = omega (arith, first_fits head (x ++ (y ++ z)) out fits)

  module _ {p0 : ℕ} {out0 : List ℕ} (w0 : (p0 ≡ length head) × (out0 ≡ put out 0 head)) where
    h0 : Filling out 0 (head ++ (x ++ (y ++ z))) out0 p0 (x ++ (y ++ z))
    h0 = first-filled head (x ++ (y ++ z)) out fits w0

    pub four-fits-1 : p0 + length x ≤ length out0
    four-fits-1 = next_fits x (y ++ z) h0

    module _ {p1 : ℕ} {out1 : List ℕ} (w1 : Puts out0 p0 x p1 out1) where
      h1 : Filling out 0 (head ++ (x ++ (y ++ z))) out1 p1 (y ++ z)
      h1 = next-filled x (y ++ z) h0 w1

      pub four-fits-2 : p1 + length y ≤ length out1
      four-fits-2 = next_fits y z h1

      module _ {p2 : ℕ} {out2 : List ℕ} (w2 : Puts out1 p1 y p2 out2) where
        h2 : Filling out 0 (head ++ (x ++ (y ++ z))) out2 p2 z
        h2 = next-filled y z h1 w2

        pub four-fits-3 : p2 + length z ≤ length out2
        four-fits-3 = h2.room

        pub four-filled : {p3 : ℕ} {out3 : List ℕ} → Puts out2 p2 z p3 out3
            → (p3 ≡ length (head ++ (x ++ (y ++ z)))) × (out3 ≡ put out 0 (head ++ (x ++ (y ++ z))))
        four-filled w3 = last-filled z h2 w3
