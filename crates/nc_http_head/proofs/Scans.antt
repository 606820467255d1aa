-- Where a text ends stays where it is when more comes.
use Rattle.std.proofs.Common.{◌≡◌, ℕ, zero, suc, ◌+◌, ◌<◌, ◌≤◌, ◌==◌, Bool, true, false, if◌then◌else◌, List, [], ◌∷◌, ◌++◌, length, Option, Some, None, arith}
use Rattle.nc_http_head.specs.declared.ends.Place.{Place}
use Rattle.nc_http_head.specs.declared.ends.Place.TheVariants.{Start, Inside}
use Rattle.nc_http_head.specs.Ends.{end_from, ends_here, place_after, line_from, head_end, trailer_end, line_end}

-- the end lies in the text, stays there, and otherwise lies behind it
pub record IsScan (ends : List ℕ → Option ℕ) : Type 0 where
  pub within : (bytes : List ℕ) (n : ℕ) → ends bytes ≡ Some n → (0 < n) × (n ≤ length bytes)
  pub kept : (bytes more : List ℕ) (n : ℕ) → ends bytes ≡ Some n → ends (bytes ++ more) ≡ Some n
  pub past : (bytes more : List ℕ) (n : ℕ) → ends bytes ≡ None → ends (bytes ++ more) ≡ Some n → length bytes < n

-- one byte of a scan
within_by : (t : Bool) (k l n : ℕ) (later : Option ℕ) → (later ≡ Some n → (k + 1 < n) × (n ≤ k + 1 + l)) → (if t then Some (k + 1) else later) ≡ Some n → (k < n) × (n ≤ k + suc l)
within_by true k l n later f e = let s : k + 1 ≡ n = cc e in (omega arith, omega arith)
within_by false k l n later f e = let r = f e in (omega (arith, r.0), omega (arith, r.1))

kept_by : (t : Bool) (k n : ℕ) (a b : Option ℕ) → (a ≡ Some n → b ≡ Some n) → (if t then Some k else a) ≡ Some n → (if t then Some k else b) ≡ Some n
kept_by true k n a b f e = e
kept_by false k n a b f e = f e

past_by : (t : Bool) (k l n : ℕ) (a b : Option ℕ) → (a ≡ None → b ≡ Some n → k + 1 + l < n) → (if t then Some (k + 1) else a) ≡ None → (if t then Some (k + 1) else b) ≡ Some n → k + suc l < n
past_by true k l n a b f e g = cc e
past_by false k l n a b f e g = omega (arith, f e g)

end_within : (k : ℕ) (place : Place) (bytes : List ℕ) (n : ℕ) → end_from k place bytes ≡ Some n → (k < n) × (n ≤ k + length bytes)
end_within k place [] n e = cc e
end_within k place (b ∷ bytes) n e = within_by (ends_here place b) k (length bytes) n (end_from (k + 1) (place_after place b) bytes) (end_within (k + 1) (place_after place b) bytes n) e

end_kept : (k : ℕ) (place : Place) (bytes more : List ℕ) (n : ℕ) → end_from k place bytes ≡ Some n → end_from k place (bytes ++ more) ≡ Some n
end_kept k place [] more n e = cc e
end_kept k place (b ∷ bytes) more n e =
    kept_by (ends_here place b) (k + 1) n (end_from (k + 1) (place_after place b) bytes) (end_from (k + 1) (place_after place b) (bytes ++ more))
    (end_kept (k + 1) (place_after place b) bytes more n) e

end_past : (k : ℕ) (place : Place) (bytes more : List ℕ) (n : ℕ) → end_from k place bytes ≡ None → end_from k place (bytes ++ more) ≡ Some n → k + length bytes < n
end_past k place [] more n e f = let r = end_within k place more n f in omega (arith, r.0)
end_past k place (b ∷ bytes) more n e f =
    past_by (ends_here place b) k (length bytes) n (end_from (k + 1) (place_after place b) bytes) (end_from (k + 1) (place_after place b) (bytes ++ more))
    (end_past (k + 1) (place_after place b) bytes more n) e f

line_within : (k : ℕ) (bytes : List ℕ) (n : ℕ) → line_from k bytes ≡ Some n → (k < n) × (n ≤ k + length bytes)
line_within k [] n e = cc e
line_within k (b ∷ bytes) n e = within_by (b == 10) k (length bytes) n (line_from (k + 1) bytes) (line_within (k + 1) bytes n) e

line_kept : (k : ℕ) (bytes more : List ℕ) (n : ℕ) → line_from k bytes ≡ Some n → line_from k (bytes ++ more) ≡ Some n
line_kept k [] more n e = cc e
line_kept k (b ∷ bytes) more n e = kept_by (b == 10) (k + 1) n (line_from (k + 1) bytes) (line_from (k + 1) (bytes ++ more)) (line_kept (k + 1) bytes more n) e

line_past : (k : ℕ) (bytes more : List ℕ) (n : ℕ) → line_from k bytes ≡ None → line_from k (bytes ++ more) ≡ Some n → k + length bytes < n
line_past k [] more n e f = let r = line_within k more n f in omega (arith, r.0)
line_past k (b ∷ bytes) more n e f = past_by (b == 10) k (length bytes) n (line_from (k + 1) bytes) (line_from (k + 1) (bytes ++ more)) (line_past (k + 1) bytes more n) e f

pub empty_line : (first : Place) → IsScan (λ bytes. end_from 0 first bytes)
empty_line first = record { within = λ bytes n e. let r = end_within 0 first bytes n e in (r.0, omega (arith, r.1)); kept = end_kept 0 first; past = λ bytes more n e f. omega (arith, end_past 0 first bytes more n e f) }

pub head_scan : IsScan head_end
head_scan = empty_line Inside

pub trailer_scan : IsScan trailer_end
trailer_scan = empty_line Start

pub line_scan : IsScan line_end
line_scan = record { within = λ bytes n e. let r = line_within 0 bytes n e in (r.0, omega (arith, r.1)); kept = line_kept 0; past = λ bytes more n e f. omega (arith, line_past 0 bytes more n e f) }
