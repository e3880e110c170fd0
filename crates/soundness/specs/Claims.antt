-- What the theorems about runs claim: 01, "The two runs of demand 3", notion by notion.
use Rattle.std.specs.Prelude.{true, false, List, ◌≡◌, ℕ, ◌*◌, ◌≤◌, length, take}
use Rattle.privileges.specs.Sets.{has}
use Rattle.program.specs.Layout.{authority}
use Rattle.semantics.specs.Domains.{Domain}
use Rattle.semantics.specs.Access.{chk}
use Rattle.semantics.specs.Runs.{Request, Buffers, stack, ground_bool, ground_num, ended, stopped, Answer, refused, ran, AfterOf, After, post_count}
use Rattle.semantics.specs.Recording.{Recorded}
use Rattle.semantics.proofs.Theorems.{Starts}

-- "A stack grants a set if it grants each privilege in it."
pub record GrantsSet (s : List ℕ) (start : List ℕ) (N : ℕ) : Type 0 where
  pub each : (p : ℕ) → has p N ≡ true → chk (authority s) (stack start) p ≡ true

-- The same allowances and lengths of buffers. Start stack, runner, checks, what the buffers hold, and a frame store, may differ.
pub record SameLimits (x y : Request) (b d : Buffers) : Type 0 where
  pub same_calls : x.calls ≡ y.calls
  pub same_depth : x.depth ≡ y.depth
  pub same_cells : length b.cells ≡ length d.cells
  pub same_posts : length b.posts ≡ length d.posts

-- and the same start stack
pub record Comparable (x y : Request) (b d : Buffers) : Type 0 where
  pub same_start : x.start ≡ y.start
  pub limits : SameLimits x y b d

-- The two runs of demand 3: one with checks in force, one with checks passed over, and neither "turned back".
pub record TwoRuns (s : List ℕ) (x y : Request) (b d : Buffers) : Type 0 where
  pub comparable : Comparable x y b d
  pub enforced : x.enforce ≡ true
  pub skipped : y.enforce ≡ false
  pub first_starts : Starts s x b
  pub second_starts : Starts s y d

-- "The posts are the first entries of the lent list, as many as the posts made, in order."
abbrev pub posts_of : {D : Domain} → AfterOf D → List ℕ
posts_of a = take (post_count a.answer) a.buffers.posts

-- the same end, or the same stop at the same term, with the same counts; and the same posts
pub record SameRun (a b : After) : Type 0 where
  pub same_answer : a.answer ≡ b.answer
  pub same_posts : posts_of a ≡ posts_of b

-- 19 open calls, 20 calls, 21 cells, 22 posts
pub record Limit (cause : ℕ) : Type 0 where
  pub from : 19 ≤ cause
  pub to : cause ≤ 22

-- an end of the sheet's type; or "Every stop of these two runs is 19, 20, 21 or 22, never 17 or 18."
abbrev pub Proper : (type : ℕ) → Answer → Type 0
Proper τ (refused c p) = ⊥
Proper τ (ran (ended (ground_bool b)) k) = τ ≡ 0
Proper τ (ran (ended (ground_num n)) k) = τ ≡ 1
Proper τ (ran (stopped cause at) k) = Limit cause

-- ---- 02, W12: records

-- Two runs with checks in force in both or passed over in both, of one start, allowances and lengths, and neither "turned back".
pub record LikeRuns (s : List ℕ) (x y : Request) (b d : Buffers) : Type 0 where
  pub comparable : Comparable x y b d
  pub same_checks : x.enforce ≡ y.enforce
  pub first_starts : Starts s x b
  pub second_starts : Starts s y d

-- the entries in a record, four bytes each
abbrev pub entries_in : Recorded → List ℕ
entries_in r = take (4 * r.entries) r.noted

-- equal entries
pub record SameRecord (a b : Recorded) : Type 0 where
  pub same_number : a.entries ≡ b.entries
  pub same_bytes : entries_in a ≡ entries_in b

-- the first one's entries are the beginning of the second one's
pub record Begins (a b : Recorded) : Type 0 where
  pub no_more : a.entries ≤ b.entries
  pub beginning : entries_in a ≡ take (4 * a.entries) (entries_in b)
