-- A row of a tree: how many entries its marks keep, and what is not told of in it.
use Rattle.std.proofs.Common.{◌≡◌, ◌⊎◌, inl, inr, ℕ, zero, suc, ◌+◌, ◌*◌, ◌^◌, ◌-◌, ◌<◌, ◌≤◌, Bool, true, false, ◌||◌, refl, sym, ◌∙◌, ap, subst, arith}
use Rattle.std.proofs.Math.Nat.{two-pow-succ}
use Rattle.std.proofs.lemmas.Nat.{pow_pos}
use Rattle.nc_buffer.specs.declared.mark.Mark.{Mark}
use Rattle.nc_buffer.specs.declared.mark.Sought.{Sought}
use Rattle.nc_buffer.specs.Marks.{tells}
use Rattle.nc_buffer.specs.Trees.{IsSummed}
use Rattle.nc_buffer.proofs.Tells.{tells-both}

-- how many entries the first marks of a row keep, so many
abbrev pub row_kept : (ℕ → Mark) → ℕ → ℕ → ℕ
row_kept f row zero = 0
row_kept f row (suc n) = row_kept f row n + (f (row + n)).kept

-- the row below keeps as many
pub halves : (f : ℕ → Mark) (width row n : ℕ) → IsSummed f width → 0 < row → row + n ≤ width → row_kept f (2 * row) (2 * n) ≡ row_kept f row n
halves f width row zero summed pos le = refl
halves f width row (suc n) summed pos le =
    let two : 2 * suc n ≡ suc (suc (2 * n)) = omega arith in
    let left : 2 * row + 2 * n ≡ 2 * (row + n) = omega arith in
    let right : 2 * row + suc (2 * n) ≡ 2 * (row + n) + 1 = omega arith in
    let here : (f (row + n)).kept ≡ (f (2 * (row + n))).kept + (f (2 * (row + n) + 1)).kept = ap (λ m. m.kept) (summed (row + n) (omega arith) (omega arith)) in
    let a : (f (2 * row + 2 * n)).kept ≡ (f (2 * (row + n))).kept = ap (λ k. (f k).kept) left in
    let b : (f (2 * row + suc (2 * n))).kept ≡ (f (2 * (row + n) + 1)).kept = ap (λ k. (f k).kept) right in
    let rest = halves f width row n summed pos (omega arith) in
    ap (row_kept f (2 * row)) two ∙ omega (arith, rest, here, a, b)

-- a row is at most as long as the lowest one
pub row-le : (l h : ℕ) → l ≤ h → 2 ^ l ≤ 2 ^ h
row-le l zero le = let e : l ≡ 0 = omega arith in rw e (omega arith)
row-le l (suc h) le = by (row-le l h) (cases l h le)
  where
    cases : (l h : ℕ) → l ≤ suc h → (l ≤ h) ⊎ (l ≡ suc h)
    cases l h le = grind arith

    by : (l ≤ h → 2 ^ l ≤ 2 ^ h) → (l ≤ h) ⊎ (l ≡ suc h) → 2 ^ l ≤ 2 ^ suc h
    by rest (inl e) = omega (arith, rest e, two-pow-succ h)
    by rest (inr e) = rw e (omega arith)

pub row_pos : (l : ℕ) → 0 < 2 ^ l
row_pos l = pow_pos l

pub row-double : (l : ℕ) → 2 ^ (l + 1) ≡ 2 * 2 ^ l
row-double l = let e : l + 1 ≡ suc l = omega arith in ap (λ k. 2 ^ k) e ∙ omega (arith, two-pow-succ l)

-- each whole row keeps as many as the root
pub row-total : (f : ℕ → Mark) (h l : ℕ) → IsSummed f (2 ^ h) → l ≤ h → row_kept f (2 ^ l) (2 ^ l) ≡ (f 1).kept
row-total f h zero summed le = omega arith
row-total f h (suc l) summed le =
    let e : suc l ≡ l + 1 = omega arith in
    let d : 2 ^ suc l ≡ 2 * 2 ^ l = ap (λ k. 2 ^ k) e ∙ row-double l in
    let below : 2 ^ l + 2 ^ l ≤ 2 ^ h = omega (arith, row-le (suc l) h le, d) in
    ap (λ k. row_kept f k k) d ∙ halves f (2 ^ h) (2 ^ l) (2 ^ l) summed (row_pos l) below ∙ row-total f h l summed (omega arith)

-- the first marks of a row keep no more than all
pub row-most : (f : ℕ → Mark) (row m n : ℕ) → m ≤ n → row_kept f row m ≤ row_kept f row n
row-most f row m zero le = let e : m ≡ 0 = omega arith in rw e (omega arith)
row-most f row m (suc n) le = by (row-most f row m n) (cases m n le)
  where
    cases : (m n : ℕ) → m ≤ suc n → (m ≤ n) ⊎ (m ≡ suc n)
    cases m n le = grind arith

    by : (m ≤ n → row_kept f row m ≤ row_kept f row n) → (m ≤ n) ⊎ (m ≡ suc n) → row_kept f row m ≤ row_kept f row (suc n)
    by rest (inl e) = let fewer = rest e in omega (arith, fewer)
    by rest (inr e) = rw e (omega arith)

-- the half of a number
pub halved : (k : ℕ) → (j : ℕ) × ((k ≡ 2 * j) ⊎ (k ≡ 2 * j + 1))
halved zero = (0, inl refl)
halved (suc k) = by (halved k)
  where
    by : (j : ℕ) × ((k ≡ 2 * j) ⊎ (k ≡ 2 * j + 1)) → (j : ℕ) × ((suc k ≡ 2 * j) ⊎ (suc k ≡ 2 * j + 1))
    by (j, inl e) = (j, inr (omega (arith, e)))
    by (j, inr e) = (suc j, inl (omega (arith, e)))

first-false : (a b : Bool) → a || b ≡ false → a ≡ false
first-false a b h = grind arith

second-false : (a b : Bool) → a || b ≡ false → b ≡ false
second-false a b h = grind arith

-- where a mark doesn't tell of what is sought, those below it don't
pub untold : (f : ℕ → Mark) (width : ℕ) (w : Sought) (k : ℕ) → IsSummed f width → 0 < k → k < width → tells w (f k) ≡ false → (tells w (f (2 * k)) ≡ false) × (tells w (f (2 * k + 1)) ≡ false)
untold f width w k summed pos lt not_told =
    let each : tells w (f (2 * k)) || tells w (f (2 * k + 1)) ≡ false = sym (tells-both w (f (2 * k)) (f (2 * k + 1))) ∙ ap (tells w) (sym (summed k pos lt)) ∙ not_told in
    (first-false _ _ each, second-false _ _ each)

-- and those of the row below that stand below marks that don't tell of it
pub untold_below : (f : ℕ → Mark) (width : ℕ) (w : Sought) (row node : ℕ) → IsSummed f width → 0 < row → node ≤ width → ((k : ℕ) → row ≤ k → k < node → tells w (f k) ≡ false) → (k : ℕ) → 2 * row ≤ k → k < 2 * node → tells w (f k) ≡ false
untold_below f width w row node summed pos le not_told k from to = by (halved k)
  where
    by : (j : ℕ) × ((k ≡ 2 * j) ⊎ (k ≡ 2 * j + 1)) → tells w (f k) ≡ false
    by (j, inl e) = let both_untold = untold f width w j summed (omega (arith, e, pos, from)) (omega (arith, e, to, le)) (not_told j (omega (arith, e, from)) (omega (arith, e, to))) in ap (λ i. tells w (f i)) e ∙ both_untold.0
    by (j, inr e) = let both_untold = untold f width w j summed (omega (arith, e, pos, from)) (omega (arith, e, to, le)) (not_told j (omega (arith, e, from)) (omega (arith, e, to))) in ap (λ i. tells w (f i)) e ∙ both_untold.1

-- on the way down: the first mark of a row that tells of what is sought, and how many entries are kept before it
pub record Down (f : ℕ → Mark) (w : Sought) (row node place : ℕ) : Type 0 where
  pub from : row ≤ node
  pub to : node < 2 * row
  pub told : tells w (f node) ≡ true
  pub none : (k : ℕ) → row ≤ k → k < node → tells w (f k) ≡ false
  pub count : place ≡ row_kept f row (node - row)

up_to : (P : ℕ → Type 0) (n k : ℕ) → (k < n → P k) → P n → k < n + 1 → P k
up_to P n k below here lt = by (near k n lt)
  where
    near : (k n : ℕ) → k < n + 1 → (k < n) ⊎ (k ≡ n)
    near k n lt = grind arith

    by : (k < n) ⊎ (k ≡ n) → P k
    by (inl l) = below l
    by (inr e) = subst P (sym e) here

second-true : (a b : Bool) → a || b ≡ true → a ≡ false → b ≡ true
second-true a b h not_told = grind arith

pub down-left : (f : ℕ → Mark) (width : ℕ) (w : Sought) (row node place : ℕ) → IsSummed f width → 0 < row → 2 * row ≤ width → Down f w row node place → tells w (f (2 * node)) ≡ true → Down f w (2 * row) (2 * node) place
down-left f width w row node place summed pos le d is_told =
    let less : 2 * node - 2 * row ≡ 2 * (node - row) = omega (arith, d.from) in
    let n : row + (node - row) ≤ width = omega (arith, d.from, d.to) in
    record {
      from = omega (arith, d.from);
      to = omega (arith, d.to);
      told = is_told;
      none = untold_below f width w row node summed pos (omega (arith, d.to)) d.none;
      count = d.count ∙ sym (halves f width row (node - row) summed pos n) ∙ ap (row_kept f (2 * row)) (sym less);
    }

pub down-right : (f : ℕ → Mark) (width : ℕ) (w : Sought) (row node place : ℕ) → IsSummed f width → 0 < row → 2 * row ≤ width → Down f w row node place → tells w (f (2 * node)) ≡ false → Down f w (2 * row) (2 * node + 1) (place + (f (2 * node)).kept)
down-right f width w row node place summed pos le d not_told =
    let less : 2 * node + 1 - 2 * row ≡ suc (2 * (node - row)) = omega (arith, d.from) in
    let at : 2 * row + 2 * (node - row) ≡ 2 * node = omega (arith, d.from) in
    let n : row + (node - row) ≤ width = omega (arith, d.from, d.to) in
    let each : tells w (f (2 * node)) || tells w (f (2 * node + 1)) ≡ true = sym (tells-both w (f (2 * node)) (f (2 * node + 1))) ∙ ap (tells w) (sym (summed node (omega (arith, d.from, pos)) (omega (arith, d.to)))) ∙ d.told in
    let kept_here : (f (2 * row + 2 * (node - row))).kept ≡ (f (2 * node)).kept = ap (λ k. (f k).kept) at in
    let rows = halves f width row (node - row) summed pos n in
    let sum : row_kept f (2 * row) (suc (2 * (node - row))) ≡ place + (f (2 * node)).kept = omega (arith, kept_here, rows, d.count) in
    let before = untold_below f width w row node summed pos (omega (arith, d.to)) d.none in
    record {
      from = omega (arith, d.from);
      to = omega (arith, d.to);
      told = second-true _ _ each not_told;
      none = λ k from lt. up_to (λ j. tells w (f j) ≡ false) (2 * node) k (before k from) not_told lt;
      count = sym sum ∙ ap (row_kept f (2 * row)) (sym less);
    }

-- on the way down to the entry before which so many are kept: how many of these aren't kept before the row's mark
pub record Toward (f : ℕ → Mark) (row node rest place : ℕ) : Type 0 where
  pub from : row ≤ node
  pub to : node < 2 * row
  pub count : place ≡ row_kept f row (node - row) + rest
  pub less : rest < (f node).kept

pub toward-left : (f : ℕ → Mark) (width row node rest place : ℕ) → IsSummed f width → 0 < row → 2 * row ≤ width → Toward f row node rest place → rest < (f (2 * node)).kept → Toward f (2 * row) (2 * node) rest place
toward-left f width row node rest place summed pos le t less =
    let fewer : 2 * node - 2 * row ≡ 2 * (node - row) = omega (arith, t.from) in
    let n : row + (node - row) ≤ width = omega (arith, t.from, t.to, le) in
    let rows : row_kept f (2 * row) (2 * node - 2 * row) ≡ row_kept f row (node - row) = ap (row_kept f (2 * row)) fewer ∙ halves f width row (node - row) summed pos n in
    record {
      from = omega (arith, t.from);
      to = omega (arith, t.to);
      count = omega (arith, t.count, rows);
      less = less;
    }

pub toward-right : (f : ℕ → Mark) (width row node rest place : ℕ) → IsSummed f width → 0 < row → 2 * row ≤ width → Toward f row node rest place → (f (2 * node)).kept ≤ rest → Toward f (2 * row) (2 * node + 1) (rest - (f (2 * node)).kept) place
toward-right f width row node rest place summed pos le t most =
    let fewer : 2 * node + 1 - 2 * row ≡ suc (2 * (node - row)) = omega (arith, t.from) in
    let at : 2 * row + 2 * (node - row) ≡ 2 * node = omega (arith, t.from) in
    let n : row + (node - row) ≤ width = omega (arith, t.from, t.to, le) in
    let kept_here : (f (2 * row + 2 * (node - row))).kept ≡ (f (2 * node)).kept = ap (λ k. (f k).kept) at in
    let halved_rows = halves f width row (node - row) summed pos n in
    let rows : row_kept f (2 * row) (2 * node + 1 - 2 * row) ≡ row_kept f (2 * row) (suc (2 * (node - row))) = ap (row_kept f (2 * row)) fewer in
    let two : (f node).kept ≡ (f (2 * node)).kept + (f (2 * node + 1)).kept = ap (λ m. m.kept) (summed node (omega (arith, t.from, pos)) (omega (arith, t.to, le))) in
    record {
      from = omega (arith, t.from);
      to = omega (arith, t.to);
      count = omega (arith, t.count, rows, kept_here, halved_rows, most);
      less = omega (arith, t.less, two, most);
    }

-- a row with fewer marks than a word counts is not high
pub height-short : (h width : ℕ) → width ≡ 2 ^ h → width < 18446744073709551616 → h < 64
height-short h width full fits = by (cases h)
  where
    cases : (h : ℕ) → (h < 64) ⊎ (64 ≤ h)
    cases h = grind arith

    by : (h < 64) ⊎ (64 ≤ h) → h < 64
    by (inl lt) = lt
    by (inr le) = let most : 2 ^ 64 ≤ 2 ^ h = row-le 64 h le in absurd (omega (arith, most, full, fits))
