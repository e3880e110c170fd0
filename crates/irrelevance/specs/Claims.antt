-- What the theorem about two runs claims. 02, W11: "For a readable sheet, accepted or not, in which no check, test or guard names p, two starts whose granted
-- sets differ at most in p, neither of them turned back, give the same end or stop, posts and counts under the same allowances and buffers, with checks in
-- force." What is the same is said by soundness/Claims: SameRun.
use Rattle.std.specs.Prelude.{true, false, List, [], ◌∷◌, ◌≡◌, ℕ, ◌<◌, ◌≤◌}
use Rattle.privileges.specs.Sets.{remove}
use Rattle.program.specs.Limits.{max_privilege}
use Rattle.program.specs.Layout.{authority, terms}
use Rattle.program.specs.Decoding.{Readable}
use Rattle.semantics.specs.Names.{names}
use Rattle.semantics.specs.Access.{chk}
use Rattle.semantics.specs.Runs.{Request, Buffers, stack}
use Rattle.semantics.proofs.Theorems.{Starts}
use Rattle.soundness.specs.Claims.{SameLimits}

-- "no check, test or guard names p": none of the sheet's terms does. It may enable p, and its principals may be authorised for it.
pub record Unnamed (s : List ℕ) (p : ℕ) : Type 0 where
  pub by_none : (t : ℕ) → t < terms s → names s p t ≡ false

-- t is the lowest term that names p
pub record LowestNaming (s : List ℕ) (p t : ℕ) : Type 0 where
  pub inside : t < terms s
  pub names_it : names s p t ≡ true
  pub none_lower : (u : ℕ) → u < t → names s p u ≡ false

-- a readable sheet, and a privilege that is not above 31
pub record Answerable (s : List ℕ) (p : ℕ) : Type 0 where
  pub readable : Readable s
  pub privilege : p ≤ max_privilege

-- "two starts whose granted sets differ at most in p": every other privilege is granted by both stacks or by neither
pub record DifferAtMost (s : List ℕ) (p : ℕ) (start start' : List ℕ) : Type 0 where
  pub others : (q : ℕ) → (q ≡ p → ⊥) → chk (authority s) (stack start) q ≡ chk (authority s) (stack start') q

-- "A plant wants to withdraw a privilege": the same frames without p
abbrev pub withdrawn : (p : ℕ) → (start : List ℕ) → List ℕ
withdrawn p [] = []
withdrawn p (n ∷ []) = n ∷ []
withdrawn p (n ∷ E ∷ xs) = n ∷ remove p E ∷ withdrawn p xs

-- Two runs, of either runner, "under the same allowances and buffers, with checks in force", and "neither of them turned back".
pub record TwoStarts (s : List ℕ) (p : ℕ) (x y : Request) (b d : Buffers) : Type 0 where
  pub limits : SameLimits x y b d
  pub differ : DifferAtMost s p x.start y.start
  pub first_enforced : x.enforce ≡ true
  pub second_enforced : y.enforce ≡ true
  pub first_starts : Starts s x b
  pub second_starts : Starts s y d
