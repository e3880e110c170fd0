-- Ranges of numbers as a domain of values. 02, W14: "Before grading, a strength is known only as lowest and highest."
use Rattle.std.specs.Prelude.{Bool, true, false, cond, ℕ, ◌+◌, ◌*◌, leb, ltb}
use Rattle.std.proofs.Math.Option.{Option, none, some}
use Rattle.semantics.specs.Domains.{Domain, single}

pub record Interval : Type 0 where
  pub low : ℕ
  pub high : ℕ

abbrev pub interval : (low high : ℕ) → Interval
interval a b = record { low = a; high = b }

-- "A sum or difference has the range from the least to the greatest of its results, held ones too, over all pairs of values from its two ranges." A sum grows
-- with both of its parts, a difference with the first, and it falls with the second. Theorems.antt: sum_spans, difference_spans.
abbrev pub sum_of : Interval → Interval → Interval
sum_of i j = interval (single.sum i.low j.low) (single.sum i.high j.high)

abbrev pub difference_of : Interval → Interval → Interval
difference_of i j = interval (single.difference i.low j.high) (single.difference i.high j.low)

-- "Less is undecided unless every pair of values from its two ranges agrees." Yes, no, or none where it is undecided. Theorems.antt: less_decides.
abbrev pub less_of : Interval → Interval → Option Bool
less_of i j = cond (ltb i.high j.low) (some true) (cond (leb j.high i.low) (some false) none)

-- "a post is listed as lowest × 65,536 + highest"
abbrev pub interval_entry : Interval → ℕ
interval_entry i = i.low * 65536 + i.high

-- "Held results aren't counted."
abbrev pub intervals : Domain
intervals = record {
  Number = Interval;
  Truth = Option Bool;
  truth = λ b. some b;
  decide = λ t. t;
  sum = λ i j. sum_of i j;
  difference = λ i j. difference_of i j;
  less = λ i j. less_of i j;
  saturates = λ op i j. false;
  entry = λ ch i. interval_entry i;
}
