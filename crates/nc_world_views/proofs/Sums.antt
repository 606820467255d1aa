-- Sums over the numbers below one.
use Rattle.std.proofs.Common.{◌≡◌, ◌≢◌, ◌⊎◌, inl, inr, ℕ, zero, suc, ◌+◌, ◌<◌, ◌≤◌, refl, sym, ap, ◌∙◌, arith}
use Rattle.nc_world.specs.World.{sum_below}

pub sum_same : (f g : ℕ → ℕ) (n : ℕ) → ((v : ℕ) → f v ≡ g v) → sum_below f n ≡ sum_below g n
sum_same f g zero e = refl
sum_same f g (suc n) e = λ i. sum_same f g n e i + e n i

-- below one of the numbers
sum_under : (f g : ℕ → ℕ) (n w : ℕ) → n ≤ w → ((v : ℕ) → v ≢ w → f v ≡ g v) → sum_below f n ≡ sum_below g n
sum_under f g zero w le e = refl
sum_under f g (suc n) w le e = λ i. sum_under f g n w (omega (arith, le)) e i + e n (other n w le) i
  where
    other : (a b : ℕ) → suc a ≤ b → a ≢ b
    other a b le = omega (arith, le)

-- one of the summands is another
pub sum_but : (f g : ℕ → ℕ) (n w : ℕ) → w < n → ((v : ℕ) → v ≢ w → f v ≡ g v) → sum_below f n + g w ≡ sum_below g n + f w
sum_but f g zero w lt e = absurd (omega (arith, lt))
sum_but f g (suc n) w lt e = by (near w n lt) (λ l. sum_but f g n w l e)
  where
    near : (a b : ℕ) → a < suc b → (a < b) ⊎ (a ≡ b)
    near a b lt = grind arith

    apart : (a b : ℕ) → a < b → b ≢ a
    apart a b lt = omega (arith, lt)

    swap : (a b c d x y : ℕ) → a + d ≡ b + c → x ≡ y → a + x + d ≡ b + y + c
    swap a b c d x y e f = omega (arith, e, f)

    last : (a b x y u v : ℕ) → a ≡ b → x ≡ u → y ≡ v → a + x + v ≡ b + y + u
    last a b x y u v e f g = omega (arith, e, f, g)

    under : (a b : ℕ) → a ≡ b → b ≤ a
    under a b e = omega (arith, e)

    by : (w < n) ⊎ (w ≡ n) → (w < n → sum_below f n + g w ≡ sum_below g n + f w) → sum_below f n + f n + g w ≡ sum_below g n + g n + f w
    by (inl l) before = swap (sum_below f n) (sum_below g n) (f w) (g w) (f n) (g n) (before l) (e n (apart w n l))
    by (inr s) before = last (sum_below f n) (sum_below g n) (f n) (g n) (f w) (g w) (sum_under f g n w (under w n s) e) (ap f (sym s)) (ap g (sym s))

pub sum_plus : (f g : ℕ → ℕ) (n : ℕ) → sum_below (λ v. f v + g v) n ≡ sum_below f n + sum_below g n
sum_plus f g zero = refl
sum_plus f g (suc n) = ap (λ (k : ℕ). k + (f n + g n)) (sum_plus f g n) ∙ four (sum_below f n) (sum_below g n) (f n) (g n)
  where
    four : (a b c d : ℕ) → a + b + (c + d) ≡ a + c + (b + d)
    four a b c d = omega arith
