-- The way up from a leaf: each mark above it is summed up anew.
use Rattle.std.proofs.Common.{◌≡◌, ◌≢◌, ◌⊎◌, inl, inr, ℕ, zero, suc, ◌+◌, ◌*◌, ◌^◌, ◌-◌, ◌/◌, ◌<◌, ◌≤◌, List, length, drop, set, sym, ◌∙◌, ap, subst, arith, get_or-set_same, get_or-set_other}
use Rattle.std.proofs.lemmas.List.{drop-set-lt, drop-set-add, length-set}
use Rattle.std.proofs.lemmas.Bool.{cases_eq}
use Rattle.nc_buffer.specs.declared.mark.Mark.{Mark}
use Rattle.nc_buffer.specs.Marks.{no_mark, mark_at, both}
use Rattle.nc_buffer.specs.Trees.{IsTree}
use Rattle.nc_buffer.proofs.Rows.{row-le, row_pos, row-double}

few-sum : (p x y most : ℕ) → 2 * p * x ≤ most → (2 * p + 1) * y ≤ most → p * (x + y) ≤ most
few-sum p x y most a b = omega (arith, a, b)

pub sum-few : (p x y most : ℕ) → 0 < p → 2 * p * x ≤ most → (2 * p + 1) * y ≤ most → x + y ≤ most
sum-few zero x y most pos a b = absurd (omega (arith, pos))
sum-few (suc p) x y most pos a b = omega (arith, a, b)

-- marks on the way up from a leaf with a new mark: those above the node are not yet summed up
pub record Climbs (old marks : List Mark) (width leaf : ℕ) (mark : Mark) (row node : ℕ) : Type 0 where
  pub size : length marks ≡ 2 * width
  pub few : (k : ℕ) → k * (mark_at marks k).kept ≤ 2 * width
  pub from : row ≤ node
  pub to : node < 2 * row
  pub others : (k : ℕ) → 0 < k → k < width → 2 * k ≢ node → 2 * k + 1 ≢ node → mark_at marks k ≡ both (mark_at marks (2 * k)) (mark_at marks (2 * k + 1))
  pub leaves : drop width marks ≡ set (drop width old) leaf mark

at-set : (marks : List Mark) (i k : ℕ) (m : Mark) → k ≢ i → mark_at (set marks i m) k ≡ mark_at marks k
at-set marks i k m apart = get_or-set_other marks i k m no_mark apart

set-at : (marks : List Mark) (i : ℕ) (m : Mark) → i < length marks → mark_at (set marks i m) i ≡ m
set-at marks i m within = get_or-set_same marks i m no_mark within

-- a new mark at a leaf
pub climb-begins : (marks : List Mark) (width height leaf : ℕ) (mark : Mark) → IsTree marks width height → leaf < width → mark.kept ≤ 1 → Climbs marks (set marks (width + leaf) mark) width leaf mark width (width + leaf)
climb-begins marks width height leaf mark t lt one =
    let size = t.size in
    record {
      size = length-set marks (width + leaf) mark ∙ t.size;
      few = few;
      from = omega arith;
      to = omega (arith, lt);
      others = others;
      leaves = drop-set-add width marks leaf mark;
    }
  where
    least : (k n : ℕ) → n ≤ 1 → k < 2 * width → k * n ≤ 2 * width
    least k zero le lt = omega (arith, lt)
    least k (suc zero) le lt = omega (arith, lt)
    least k (suc (suc n)) le lt = absurd (omega (arith, le))

    few : (k : ℕ) → k * (mark_at (set marks (width + leaf) mark) k).kept ≤ 2 * width
    few k = by (cases_eq k (width + leaf))
      where
        by : (k ≡ width + leaf) ⊎ (k ≢ width + leaf) → k * (mark_at (set marks (width + leaf) mark) k).kept ≤ 2 * width
        by (inl e) =
            let size = t.size in
            let here : mark_at (set marks (width + leaf) mark) k ≡ mark = ap (mark_at (set marks (width + leaf) mark)) e ∙ set-at marks (width + leaf) mark (omega (arith, size, lt)) in
            rw here (least k mark.kept one (omega (arith, e, lt)))
        by (inr apart) = rw (at-set marks (width + leaf) k mark apart) (t.few k)

    others : (k : ℕ) → 0 < k → k < width → 2 * k ≢ width + leaf → 2 * k + 1 ≢ width + leaf → mark_at (set marks (width + leaf) mark) k ≡ both (mark_at (set marks (width + leaf) mark) (2 * k)) (mark_at (set marks (width + leaf) mark) (2 * k + 1))
    others k pos below a b =
        at-set marks (width + leaf) k mark (λ e. omega (arith, e, below)) ∙ t.summed k pos below
        ∙ ap (λ m. both m (mark_at marks (2 * k + 1))) (sym (at-set marks (width + leaf) (2 * k) mark a))
        ∙ ap (both (mark_at (set marks (width + leaf) mark) (2 * k))) (sym (at-set marks (width + leaf) (2 * k + 1) mark b))

-- one step up
pub climb-on : (old marks : List Mark) (width leaf : ℕ) (mark : Mark) (row node p : ℕ) → 0 < row → 2 * row ≤ width → Climbs old marks width leaf mark (2 * row) node → 2 * p ≤ node → node ≤ 2 * p + 1 → Climbs old (set marks p (both (mark_at marks (2 * p)) (mark_at marks (2 * p + 1)))) width leaf mark row p
climb-on old marks width leaf mark row node p pos le c low high =
    let size = c.size in
    let from = c.from in
    let to = c.to in
    record {
      size = length-set marks p new ∙ c.size;
      few = few;
      from = omega (arith, from, high);
      to = omega (arith, to, low);
      others = others;
      leaves = drop-set-lt width marks p new (omega (arith, to, low, le)) ∙ c.leaves;
    }
  where
    new : Mark
    new = both (mark_at marks (2 * p)) (mark_at marks (2 * p + 1))

    few : (k : ℕ) → k * (mark_at (set marks p new) k).kept ≤ 2 * width
    few k = by (cases_eq k p)
      where
        by : (k ≡ p) ⊎ (k ≢ p) → k * (mark_at (set marks p new) k).kept ≤ 2 * width
        by (inl e) =
            let size = c.size in
            let to = c.to in
            let here : mark_at (set marks p new) k ≡ new = ap (mark_at (set marks p new)) e ∙ set-at marks p new (omega (arith, size, to, low, le)) in
            rw (here, e) (few-sum p (mark_at marks (2 * p)).kept (mark_at marks (2 * p + 1)).kept (2 * width) (c.few (2 * p)) (c.few (2 * p + 1)))
        by (inr apart) = rw (at-set marks p k new apart) (c.few k)

    others : (k : ℕ) → 0 < k → k < width → 2 * k ≢ p → 2 * k + 1 ≢ p → mark_at (set marks p new) k ≡ both (mark_at (set marks p new) (2 * k)) (mark_at (set marks p new) (2 * k + 1))
    others k above below a b =
        here (cases_eq k p)
        ∙ ap (λ m. both m (mark_at marks (2 * k + 1))) (sym (at-set marks p (2 * k) new a))
        ∙ ap (both (mark_at (set marks p new) (2 * k))) (sym (at-set marks p (2 * k + 1) new b))
      where
        here : (k ≡ p) ⊎ (k ≢ p) → mark_at (set marks p new) k ≡ both (mark_at marks (2 * k)) (mark_at marks (2 * k + 1))
        here (inl e) =
            let size = c.size in
            let to = c.to in
            ap (mark_at (set marks p new)) e ∙ set-at marks p new (omega (arith, size, to, low, le)) ∙ ap (λ i. both (mark_at marks (2 * i)) (mark_at marks (2 * i + 1))) (sym e)
        here (inr apart) = at-set marks p k new apart ∙ c.others k above below (λ e. apart (omega (arith, e, low, high))) (λ e. apart (omega (arith, e, low, high)))

-- at the root all is summed up
pub climb-ends : (old marks : List Mark) (width height leaf : ℕ) (mark : Mark) (node : ℕ) → IsTree old width height → Climbs old marks width leaf mark 1 node → IsTree marks width height
climb-ends old marks width height leaf mark node t c =
    let from = c.from in
    let to = c.to in
    record {
      size = c.size;
      full = t.full;
      summed = λ k pos below. c.others k pos below (λ e. omega (arith, e, to, pos)) (λ e. omega (arith, e, to, pos));
      few = c.few;
    }

-- the same of numbers and marks that are known to be those
pub climb-lands : (old : List Mark) (width leaf : ℕ) (mark : Mark) (marks marks2 : List Mark) (row row2 node node2 : ℕ) → marks2 ≡ marks → row2 ≡ row → node2 ≡ node → Climbs old marks width leaf mark row node → Climbs old marks2 width leaf mark row2 node2
climb-lands old width leaf mark marks marks2 row row2 node node2 a b e c = subst (λ (l : List Mark). Climbs old l width leaf mark row2 node2) (sym a) (subst (λ (r : ℕ). Climbs old marks width leaf mark r node2) (sym b) (subst (λ (n : ℕ). Climbs old marks width leaf mark row n) (sym e) c))

-- the row above that of a node
pub row-above : (level height : ℕ) → level < height → 2 ^ (height - level) ≡ 2 * 2 ^ (height - (level + 1))
row-above level height lt =
    let e : height - level ≡ height - (level + 1) + 1 = omega (arith, lt) in
    ap (λ k. 2 ^ k) e ∙ row-double (height - (level + 1))

pub row-lowest : (height : ℕ) → 2 ^ (height - 0) ≡ 2 ^ height
row-lowest height = let e : height - 0 ≡ height = omega arith in ap (λ k. 2 ^ k) e

pub row-root : (level height : ℕ) → height ≤ level → 2 ^ (height - level) ≡ 1
row-root level height le = let e : height - level ≡ 0 = omega (arith, le) in ap (λ k. 2 ^ k) e

-- where a node above another stands
pub record Parent (marks : List Mark) (width row node p : ℕ) : Type 0 where
  pub pos : 0 < p
  pub row_is : 0 < row
  pub above : 2 * row ≤ width
  pub low : 2 * p ≤ node
  pub high : node ≤ 2 * p + 1
  pub within : 2 * p + 1 < length marks
  pub fits : (mark_at marks (2 * p)).kept + (mark_at marks (2 * p + 1)).kept ≤ length marks

pub parent : (old marks : List Mark) (width height leaf : ℕ) (mark : Mark) (level node : ℕ) → width ≡ 2 ^ height → level < height → Climbs old marks width leaf mark (2 ^ (height - level)) node → Parent marks width (2 ^ (height - (level + 1))) node (node / 2)
parent old marks width height leaf mark level node full lt c =
    let size = c.size in
    let from = c.from in
    let to = c.to in
    let above = row-above level height lt in
    let pos = row_pos (height - (level + 1)) in
    let le : 2 ^ (height - level) ≤ 2 ^ height = row-le (height - level) height (omega arith) in
    let low : 2 * (node / 2) ≤ node = omega arith in
    let high : node ≤ 2 * (node / 2) + 1 = omega arith in
    let p_pos : 0 < node / 2 = omega (arith, from, above, pos, high) in
    record {
      pos = p_pos;
      row_is = pos;
      above = omega (arith, above, le, full);
      low = low;
      high = high;
      within = omega (arith, to, low, le, full, size);
      fits = let few = sum-few (node / 2) (mark_at marks (2 * (node / 2))).kept (mark_at marks (2 * (node / 2) + 1)).kept (2 * width) p_pos (c.few (2 * (node / 2))) (c.few (2 * (node / 2) + 1)) in omega (arith, few, size);
    }
