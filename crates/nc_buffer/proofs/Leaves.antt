-- The leaves of a tree: what is found among them by going down from the root.
use Rattle.std.proofs.Common.{◌≡◌, ◌⊎◌, inl, inr, ℕ, zero, suc, ◌+◌, ◌*◌, ◌^◌, ◌-◌, ◌<◌, ◌≤◌, Bool, true, false, cond, ltb, List, [], ◌∷◌, length, drop, get_or, Some, None, refl, sym, ◌∙◌, ap, subst, arith}
use Rattle.std.specs.List.{position, position_or_len}
use Rattle.std.proofs.lemmas.List.{get_or-drop, get_or_default, length-drop}
use Rattle.std.proofs.lemmas.List.Sums.{position_or_len_is}
use Rattle.nc_buffer.specs.declared.mark.Mark.{Mark}
use Rattle.nc_buffer.specs.declared.mark.Sought.{Sought}
use Rattle.nc_buffer.specs.Marks.{no_mark, tells, mark_at, kept_before}
use Rattle.nc_buffer.specs.Trees.{IsSummed, IsTree}
use Rattle.nc_buffer.proofs.Rows.{row_kept, halves, row-le, row_pos, row-double, row-total, row-most, halved, untold, Down, Toward}

-- one slot more
pub kept-more : (n : ℕ) (ms : List Mark) → kept_before (n + 1) ms ≡ kept_before n ms + (mark_at ms n).kept
kept-more n ms = let e : n + 1 ≡ suc n = omega arith in ap (λ k. kept_before k ms) e ∙ by n ms
  where
    by : (n : ℕ) (ms : List Mark) → kept_before (suc n) ms ≡ kept_before n ms + (mark_at ms n).kept
    by zero [] = refl
    by zero (m ∷ ms) = omega arith
    by (suc n) [] = refl
    by (suc n) (m ∷ ms) = let rest = by n ms in omega (arith, rest)

-- the leaves keep what their row keeps
pub leaves-kept : (marks : List Mark) (width n : ℕ) → kept_before n (drop width marks) ≡ row_kept (mark_at marks) width n
leaves-kept marks width zero = refl
leaves-kept marks width (suc n) =
    let e : suc n ≡ n + 1 = omega arith in
    let at : (mark_at (drop width marks) n).kept ≡ (mark_at marks (width + n)).kept = ap (λ m. m.kept) (get_or-drop width marks n no_mark) in
    let more = kept-more n (drop width marks) in
    let rest = leaves-kept marks width n in
    ap (λ k. kept_before k (drop width marks)) e ∙ omega (arith, more, at, rest)

place_is : (n m i : ℕ) (b : Bool) → ltb n m ≡ b → n ≡ i → i < m → cond b (Some n) None ≡ Some i
place_is n m i true lt e within = ap Some e
place_is n m i false lt e within = absurd (grind arith)

no_place : (n m : ℕ) (b : Bool) → ltb n m ≡ b → n ≡ m → cond b (Some n) None ≡ None
no_place n m true lt e = absurd (grind arith)
no_place n m false lt e = refl

pub none-passes : (test : Mark → Bool) (ms : List Mark) → ((k : ℕ) → k < length ms → test (mark_at ms k) ≡ false) → position test ms ≡ None
none-passes test ms fails =
    no_place (position_or_len test ms) (length ms) _ refl (position_or_len_is test ms (length ms) no_mark (omega arith) fails (λ lt. absurd (omega (arith, lt))))

leaf-count : (marks : List Mark) (width : ℕ) → length marks ≡ 2 * width → length (drop width marks) ≡ width
leaf-count marks width size = length-drop width marks ∙ omega (arith, size)

-- at the lowest row the way down ends at the first leaf that tells of what is sought
pub down-leaf : (marks : List Mark) (w : Sought) (width node place : ℕ) → length marks ≡ 2 * width → Down (mark_at marks) w width node place → position (tells w) (drop width marks) ≡ Some (node - width)
down-leaf marks w width node place size d =
    let count = leaf-count marks width size in
    let there : width + (node - width) ≡ node = omega (arith, d.from) in
    place_is (position_or_len (tells w) (drop width marks)) (length (drop width marks)) (node - width) _ refl
    (position_or_len_is (tells w) (drop width marks) (node - width) no_mark (omega (arith, count, d.to, d.from))
    (λ k lt. ap (tells w) (get_or-drop width marks k no_mark) ∙ d.none (width + k) (omega arith) (omega (arith, lt, d.from)))
    (λ lt. ap (tells w) (get_or-drop width marks (node - width) no_mark ∙ ap (mark_at marks) there) ∙ d.told))
    (omega (arith, count, d.to, d.from))

pub down-place : (marks : List Mark) (w : Sought) (width node place : ℕ) → Down (mark_at marks) w width node place → place ≡ kept_before (node - width) (drop width marks)
down-place marks w width node place d = d.count ∙ sym (leaves-kept marks width (node - width))

-- where the root doesn't tell of what is sought, no mark does
pub all-untold : (f : ℕ → Mark) (width : ℕ) (w : Sought) → IsSummed f width → tells w (f 1) ≡ false → (n k : ℕ) → k < n → 0 < k → k < 2 * width → tells w (f k) ≡ false
all-untold f width w summed root zero k lt pos within = absurd (omega (arith, lt))
all-untold f width w summed root (suc n) k lt pos within = by (all-untold f width w summed root n) (halved k)
  where
    by : ((j : ℕ) → j < n → 0 < j → j < 2 * width → tells w (f j) ≡ false) → (j : ℕ) × ((k ≡ 2 * j) ⊎ (k ≡ 2 * j + 1)) → tells w (f k) ≡ false
    by rest (zero, inl e) = absurd (omega (arith, e, pos))
    by rest (suc j, inl e) = ap (λ i. tells w (f i)) e ∙ (untold f width w (suc j) summed (omega arith) (omega (arith, e, within)) (rest (suc j) (omega (arith, e, lt)) (omega arith) (omega (arith, e, within)))).0
    by rest (zero, inr e) = ap (λ i. tells w (f i)) e ∙ root
    by rest (suc j, inr e) = ap (λ i. tells w (f i)) e ∙ (untold f width w (suc j) summed (omega arith) (omega (arith, e, within)) (rest (suc j) (omega (arith, e, lt)) (omega arith) (omega (arith, e, within)))).1

pub no-leaf : (marks : List Mark) (width height : ℕ) (w : Sought) → IsTree marks width height → tells w (mark_at marks 1) ≡ false → position (tells w) (drop width marks) ≡ None
no-leaf marks width height w t root =
    let count = leaf-count marks width t.size in
    none-passes (tells w) (drop width marks) (λ k lt. ap (tells w) (get_or-drop width marks k no_mark) ∙ all-untold (mark_at marks) width w t.summed root (2 * width) (width + k) (omega (arith, count, lt)) (omega (arith, count, lt)) (omega (arith, count, lt)))

pub no-leaves : (marks : List Mark) (width height : ℕ) (w : Sought) → IsTree marks width height → length marks ≤ 1 → position (tells w) (drop width marks) ≡ None
no-leaves marks width height w t few =
    let size = t.size in
    let count = leaf-count marks width size in
    none-passes (tells w) (drop width marks) (λ k lt. absurd (omega (arith, count, lt, size, few)))

-- the root keeps what all leaves keep
pub all-kept : (marks : List Mark) (width height : ℕ) → IsTree marks width height → width ≡ 2 ^ height → (mark_at marks 1).kept ≡ kept_before width (drop width marks)
all-kept marks width height t full =
    let summed : IsSummed (mark_at marks) (2 ^ height) = subst (IsSummed (mark_at marks)) full t.summed in
    sym (leaves-kept marks width width ∙ ap (λ k. row_kept (mark_at marks) k k) full ∙ row-total (mark_at marks) height height summed (omega arith))

-- a row above the leaves
pub record Above (marks : List Mark) (row width : ℕ) : Type 0 where
  pub pos : 0 < row
  pub above : 2 * row ≤ width
  pub size : length marks ≡ 2 * width
  pub summed : IsSummed (mark_at marks) width
  pub most : (n : ℕ) → n ≤ 2 * row → row_kept (mark_at marks) (2 * row) n ≤ length marks

pub is-above : (marks : List Mark) (width height level : ℕ) → IsTree marks width height → width ≡ 2 ^ height → level < height → Above marks (2 ^ level) width
is-above marks width height level t full lt =
    let size = t.size in
    let next : 2 ^ (level + 1) ≡ 2 * 2 ^ level = row-double level in
    let le : 2 ^ (level + 1) ≤ 2 ^ height = row-le (level + 1) height (omega (arith, lt)) in
    let summed : IsSummed (mark_at marks) (2 ^ height) = subst (IsSummed (mark_at marks)) full t.summed in
    let total : row_kept (mark_at marks) (2 * 2 ^ level) (2 * 2 ^ level) ≡ (mark_at marks 1).kept = ap (λ k. row_kept (mark_at marks) k k) (sym next) ∙ row-total (mark_at marks) height (level + 1) summed (omega (arith, lt)) in
    let root : 1 * (mark_at marks 1).kept ≤ 2 * width = t.few 1 in
    record {
      pos = row_pos level;
      above = omega (arith, next, le, full);
      size = size;
      summed = t.summed;
      most = λ n le. let fewer = row-most (mark_at marks) (2 * 2 ^ level) n (2 * 2 ^ level) le in omega (arith, fewer, total, root, size);
    }

pub down-within : (marks : List Mark) (w : Sought) (row width node place : ℕ) → Above marks row width → Down (mark_at marks) w row node place → 2 * node + 1 < length marks
down-within marks w row width node place a d = omega (arith, a.above, a.size, d.to)

pub down-fits : (marks : List Mark) (w : Sought) (row width node place : ℕ) → Above marks row width → Down (mark_at marks) w row node place → place + (mark_at marks (2 * node)).kept ≤ length marks
down-fits marks w row width node place a d =
    let n : row + (node - row) ≤ width = omega (arith, d.from, d.to, a.above) in
    let rows = halves (mark_at marks) width row (node - row) a.summed a.pos n in
    let at : 2 * row + 2 * (node - row) ≡ 2 * node = omega (arith, d.from) in
    let kept_here : (mark_at marks (2 * row + 2 * (node - row))).kept ≡ (mark_at marks (2 * node)).kept = ap (λ k. (mark_at marks k).kept) at in
    let fewer : row_kept (mark_at marks) (2 * row) (suc (2 * (node - row))) ≤ length marks = a.most (suc (2 * (node - row))) (omega (arith, d.from, d.to)) in
    omega (arith, rows, kept_here, fewer, d.count)

-- the same of numbers that are known to be those
pub down-lands : (f : ℕ → Mark) (w : Sought) (row row2 node node2 place place2 : ℕ) → row2 ≡ row → node2 ≡ node → place2 ≡ place → Down f w row node place → Down f w row2 node2 place2
down-lands f w row row2 node node2 place place2 a b e d = subst (λ (r : ℕ). Down f w r node2 place2) (sym a) (subst (λ (n : ℕ). Down f w row n place2) (sym b) (subst (λ (p : ℕ). Down f w row node p) (sym e) d))

pub toward-lands : (f : ℕ → Mark) (row row2 node node2 rest rest2 place : ℕ) → row2 ≡ row → node2 ≡ node → rest2 ≡ rest → Toward f row node rest place → Toward f row2 node2 rest2 place
toward-lands f row row2 node node2 rest rest2 place a b e t = subst (λ (r : ℕ). Toward f r node2 rest2 place) (sym a) (subst (λ (n : ℕ). Toward f row n rest2 place) (sym b) (subst (λ (p : ℕ). Toward f row node p place) (sym e) t))

pub toward-within : (marks : List Mark) (row width node rest place : ℕ) → Above marks row width → Toward (mark_at marks) row node rest place → 2 * node + 1 < length marks
toward-within marks row width node rest place a t =
    let above = a.above in
    let size = a.size in
    let to = t.to in
    omega (arith, above, size, to)

-- a mark that is read within the list
pub read-mark : (marks : List Mark) (k : ℕ) (m : Mark) → m ≡ get_or marks k m → k < length marks → m ≡ mark_at marks k
read-mark marks k m is lt = is ∙ get_or_default marks k m no_mark lt

pub level-end : (level height : ℕ) → level ≤ height → height ≤ level → 2 ^ level ≡ 2 ^ height
level-end level height a b = let e : level ≡ height = omega (arith, a, b) in ap (λ k. 2 ^ k) e

pub toward-before : (marks : List Mark) (width node rest place : ℕ) → Toward (mark_at marks) width node rest place → kept_before (node - width) (drop width marks) ≤ place
toward-before marks width node rest place t = let at = leaves-kept marks width (node - width) in let count = t.count in omega (arith, at, count)

pub toward-behind : (marks : List Mark) (width node rest place : ℕ) → Toward (mark_at marks) width node rest place → place < kept_before (node - width + 1) (drop width marks)
toward-behind marks width node rest place t =
    let e : node - width + 1 ≡ suc (node - width) = omega arith in
    let from = t.from in
    let there : width + (node - width) ≡ node = omega (arith, from) in
    let here : (mark_at marks (width + (node - width))).kept ≡ (mark_at marks node).kept = ap (λ k. (mark_at marks k).kept) there in
    let at : kept_before (node - width + 1) (drop width marks) ≡ row_kept (mark_at marks) width (suc (node - width)) = ap (λ k. kept_before k (drop width marks)) e ∙ leaves-kept marks width (suc (node - width)) in
    let count = t.count in
    let less = t.less in
    omega (arith, at, count, less, here)

-- a list that has a root has leaves, as many as a power of two
pub has-leaves : (marks : List Mark) (width height : ℕ) → IsTree marks width height → 1 < length marks → width ≡ 2 ^ height
has-leaves marks width height t lt = by t.full
  where
    by : (width ≡ 0) ⊎ (width ≡ 2 ^ height) → width ≡ 2 ^ height
    by (inl e) = let size = t.size in absurd (omega (arith, e, size, lt))
    by (inr e) = e

pub root-kept : (marks : List Mark) (width height : ℕ) → IsTree marks width height → 1 < length marks → (mark_at marks 1).kept ≡ kept_before (length (drop width marks)) (drop width marks)
root-kept marks width height t lt =
    let count = leaf-count marks width t.size in
    all-kept marks width height t (has-leaves marks width height t lt) ∙ ap (λ k. kept_before k (drop width marks)) (sym count)

-- a place within what the leaves keep is within what the root keeps
pub root-place : (marks : List Mark) (width height place : ℕ) → IsTree marks width height → place < kept_before (length (drop width marks)) (drop width marks) → place < (mark_at marks 1).kept
root-place marks width height place t lt = by t.full
  where
    by : (width ≡ 0) ⊎ (width ≡ 2 ^ height) → place < (mark_at marks 1).kept
    by (inl e) = let none : kept_before (length (drop width marks)) (drop width marks) ≡ 0 = ap (λ k. kept_before k (drop width marks)) (leaf-count marks width t.size ∙ e) in absurd (omega (arith, none, lt))
    by (inr e) =
        let root = all-kept marks width height t e in
        let all : kept_before (length (drop width marks)) (drop width marks) ≡ kept_before width (drop width marks) = ap (λ k. kept_before k (drop width marks)) (leaf-count marks width t.size) in
        omega (arith, root, all, lt)

-- a root that is read
pub root-read : (marks seen : List Mark) (m : Mark) → seen ≡ marks → true ≡ ltb 1 (length seen) → m ≡ get_or seen 1 m → (1 < length marks) × (m ≡ mark_at marks 1)
root-read marks seen m same lt is =
    let within : 1 < length seen = grind (arith, lt) in
    (subst (λ (l : List Mark). 1 < length l) same within, subst (λ (l : List Mark). m ≡ mark_at l 1) same (read-mark seen 1 m is within))
