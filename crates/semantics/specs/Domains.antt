-- Domains of values: the numbers and truth values that a run works with, for which the meaning is said once.
use Rattle.std.specs.Prelude.{Bool, false, ℕ, ◌+◌, ◌*◌, ◌-◌, min, ltb}
use Rattle.std.proofs.Math.Option.{Option, some}
use Rattle.program.specs.Limits.{max_number}
use Rattle.program.specs.Terms.{Op, sum, difference, less}

pub record Domain : Type 1 where
  pub Number : Type 0
  pub Truth : Type 0
  -- what a boolean term gives
  pub truth : Bool → Truth
  -- which branch of an if is taken; none where that is undecided
  pub decide : Truth → Option Bool
  pub sum : Number → Number → Number
  pub difference : Number → Number → Number
  pub less : Number → Number → Truth
  -- whether the result of an operation is counted as saturated
  pub saturates : Op → Number → Number → Bool
  -- how a post of a number on a channel is listed
  pub entry : (channel : ℕ) → Number → ℕ

-- a domain, and what number term `at`, whose record has n, stands for in it
pub record Interpretation : Type 1 where
  pub domain : Domain
  pub literal : (at n : ℕ) → domain.Number

-- ---- 01's: numbers and booleans

-- 02, W10: "Sum and difference now also say whether the exact result was outside 0 to 65,535."
abbrev pub saturates : Op → (m n : ℕ) → Bool
saturates sum m n = ltb max_number (m + n)
saturates difference m n = ltb m n
saturates less m n = false

-- 02, W8: "Lists of posts become 32-bit: channel × 65,536 + number."
abbrev pub post_entry : (channel number : ℕ) → ℕ
post_entry ch n = ch * 65536 + n

-- each value is one number or one truth value: "Sums are held at 65,535, differences at 0."
abbrev pub single : Domain
single = record {
  Number = ℕ;
  Truth = Bool;
  truth = λ b. b;
  decide = λ b. some b;
  sum = λ m n. min max_number (m + n);
  difference = λ m n. m - n;
  less = λ m n. ltb m n;
  saturates = λ op m n. saturates op m n;
  entry = λ ch n. post_entry ch n;
}

-- a number term stands for the number of its record
abbrev pub standard : Interpretation
standard = record { domain = single; literal = λ at n. n }
