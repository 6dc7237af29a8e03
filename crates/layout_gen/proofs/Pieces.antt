-- Pieces that are put one after another, as one: each b is the one before with a piece at its end.
use Rattle.std.proofs.Common.{◌≡◌, ℕ, List, ◌++◌, append_assoc}

pub put_three : (b b1 b2 b3 r1 r2 r3 : List ℕ) → b1 ≡ b ++ r1 → b2 ≡ b1 ++ r2 → b3 ≡ b2 ++ r3 → b3 ≡ b ++ (r1 ++ r2 ++ r3)
put_three b b1 b2 b3 r1 r2 r3 e1 e2 e3 = rw (e3, e2, e1) (simp append_assoc)

pub put_four : (b b1 b2 b3 b4 r1 r2 r3 r4 : List ℕ) → b1 ≡ b ++ r1 → b2 ≡ b1 ++ r2 → b3 ≡ b2 ++ r3 → b4 ≡ b3 ++ r4 → b4 ≡ b ++ (r1 ++ r2 ++ r3 ++ r4)
put_four b b1 b2 b3 b4 r1 r2 r3 r4 e1 e2 e3 e4 = rw (e4, e3, e2, e1) (simp append_assoc)

pub put_five : (b b1 b2 b3 b4 b5 r1 r2 r3 r4 r5 : List ℕ) → b1 ≡ b ++ r1 → b2 ≡ b1 ++ r2 → b3 ≡ b2 ++ r3
    → b4 ≡ b3 ++ r4 → b5 ≡ b4 ++ r5 → b5 ≡ b ++ (r1 ++ r2 ++ r3 ++ r4 ++ r5)
put_five b b1 b2 b3 b4 b5 r1 r2 r3 r4 r5 e1 e2 e3 e4 e5 = rw (e5, e4, e3, e2, e1) (simp append_assoc)

pub put_six : (b b1 b2 b3 b4 b5 b6 r1 r2 r3 r4 r5 r6 : List ℕ) → b1 ≡ b ++ r1 → b2 ≡ b1 ++ r2 → b3 ≡ b2 ++ r3
    → b4 ≡ b3 ++ r4 → b5 ≡ b4 ++ r5 → b6 ≡ b5 ++ r6 → b6 ≡ b ++ (r1 ++ r2 ++ r3 ++ r4 ++ r5 ++ r6)
put_six b b1 b2 b3 b4 b5 b6 r1 r2 r3 r4 r5 r6 e1 e2 e3 e4 e5 e6 = rw (e6, e5, e4, e3, e2, e1) (simp append_assoc)

pub put_seven : (b b1 b2 b3 b4 b5 b6 b7 r1 r2 r3 r4 r5 r6 r7 : List ℕ) → b1 ≡ b ++ r1 → b2 ≡ b1 ++ r2 → b3 ≡ b2 ++ r3
    → b4 ≡ b3 ++ r4 → b5 ≡ b4 ++ r5 → b6 ≡ b5 ++ r6 → b7 ≡ b6 ++ r7 → b7 ≡ b ++ (r1 ++ r2 ++ r3 ++ r4 ++ r5 ++ r6 ++ r7)
put_seven b b1 b2 b3 b4 b5 b6 b7 r1 r2 r3 r4 r5 r6 r7 e1 e2 e3 e4 e5 e6 e7 = rw (e7, e6, e5, e4, e3, e2, e1) (simp append_assoc)
