-- Runs over ranges, on sheets from their bytes: what is told, and what the buffers hold afterwards, in one table that one theorem proves by computation.
use Rattle.std.specs.Prelude.{Bool, true, false, List, [], ◌∷◌, ◌++◌, map, ◌≡◌, refl, ℕ, length}
use Rattle.std.proofs.Math.Option.{none, some}
use Rattle.privileges.specs.Sets.{has, meet, union, insert}
use Rattle.program.specs.Limits.{max_calls, max_depth}
use Rattle.program.specs.Screening.{refuse_at, screen}
use Rattle.semantics.specs.Meaning.{eval_with, apply, eval}
use Rattle.semantics.specs.Access.{add_authorised}
use Rattle.semantics.specs.Runs.{eager, Request, Buffers, ground_bool, ground_num, OutcomeOf, ended, stopped, refused, ran, AfterOf}
use Rattle.intervals.specs.Intervals.{interval, intervals}
use Rattle.intervals.specs.Runs.{interval_course, interval_run}

-- ---- the sheets: one principal with A(0) = {1}, the boolean, the number and a function of numbers; and records of terms
abbrev term : (kind small first second third : ℕ) → List ℕ
term k x a b c = k ∷ x ∷ 0 ∷ a ∷ 0 ∷ b ∷ 0 ∷ c ∷ []

sheet : (version : ℕ) (terms rest : List ℕ) → List ℕ
sheet v ts rest =
    1 ∷ 0 ∷ 2 ∷ 0 ∷ v
    ∷ 2 ∷ 0 ∷ 4 ∷ 0 ∷ 0 ∷ 0 ∷ 2
    ∷ 3 ∷ 0 ∷ 30
    ∷ 0 ∷ 0 ∷ 0 ∷ 0 ∷ 0 ∷ 0 ∷ 0 ∷ 0 ∷ 0 ∷ 0
    ∷ 1 ∷ 0 ∷ 0 ∷ 0 ∷ 0 ∷ 0 ∷ 0 ∷ 0 ∷ 0 ∷ 0
    ∷ 2 ∷ 0 ∷ 0 ∷ 1 ∷ 0 ∷ 1 ∷ 0 ∷ 0 ∷ 0 ∷ 0
    ∷ 4 ∷ 0 ∷ length ts ∷ ts ++ rest

-- sign 0 (post (5 op 7)), where the kind is that of the operation; sign 0 (5 < 7)
posted : (kind : ℕ) → List ℕ
unfolding sheet
posted k = sheet 1 (term 1 0 5 0 0 ++ term 1 0 7 0 0 ++ term k 0 0 1 0 ++ term 14 0 2 0 0 ++ term 9 0 3 0 0) []

compared : List ℕ
unfolding sheet
compared = sheet 1 (term 1 0 5 0 0 ++ term 1 0 7 0 0 ++ term 13 0 0 1 0 ++ term 9 0 2 0 0) []

-- sign 0 (if 5 < 7 then 1 else post 2)
branching : List ℕ
unfolding sheet
branching =
    sheet 1
    (term 1 0 5 0 0 ++ term 1 0 7 0 0 ++ term 13 0 0 1 0 ++ term 1 0 1 0 0 ++ term 1 0 2 0 0 ++ term 14 0 4 0 0 ++ term 6 0 2 3 5 ++ term 9 0 6 0 0) []

-- sign 0 ((fun x. sign 0 (check 1 (x - x))) 5)
called : List ℕ
unfolding sheet
called =
    sheet 1
    (term 2 0 0 0 0 ++ term 2 0 0 0 0 ++ term 12 0 0 1 0 ++ term 7 1 2 0 0 ++ term 9 0 3 0 0 ++ term 3 0 2 4 0 ++ term 1 0 5 0 0 ++ term 5 0 5 6 0
    ++ term 9 0 7 0 0) []

-- sign 0 5, in version 2
second_version : List ℕ
unfolding sheet
second_version =
    sheet 2 (term 1 0 5 0 0 ++ term 9 0 0 0 0)
    (5 ∷ 0 ∷ 16 ∷ 255 ∷ 255 ∷ 255 ∷ 255 ∷ 255 ∷ 255 ∷ 255 ∷ 255 ∷ 255 ∷ 255 ∷ 255 ∷ 255 ∷ 255 ∷ 255 ∷ 255 ∷ 255 ∷ [])

-- ---- the table
pub record Case : Type 0 where
  pub sheet : List ℕ
  pub pairs : List ℕ
  pub request : Request
  pub after : AfterOf intervals

-- two cells, two places for posts
abbrev pub filled : Buffers
filled = record { cells = 9 ∷ 9 ∷ 9 ∷ 9 ∷ 9 ∷ 9 ∷ 9 ∷ 9 ∷ 9 ∷ 9 ∷ 9 ∷ 9 ∷ 9 ∷ 9 ∷ 9 ∷ 9 ∷ []; posts = 8 ∷ 8 ∷ []; frames = 7 ∷ [] }

abbrev request_for : (enforce : Bool) (calls : ℕ) → Request
request_for enforce calls = record { runner = eager; enforce = enforce; start = []; calls = calls; depth = max_depth }

-- an end or a stop, with its calls, cells and posts, and the list of posts afterwards
abbrev runs : (sheet pairs : List ℕ) (enforce : Bool) → OutcomeOf intervals → (calls cells posts : ℕ) (list : List ℕ) → Case
runs s ps enforce o c d p l = record {
  sheet = s;
  pairs = ps;
  request = request_for enforce max_calls;
  after = record {
    answer = ran o (record { calls = c; cells = d; posts = p; saturated = 0 });
    buffers = record { cells = 0 ∷ 0 ∷ 0 ∷ 0 ∷ 0 ∷ 0 ∷ 0 ∷ 0 ∷ 0 ∷ 0 ∷ 0 ∷ 0 ∷ 0 ∷ 0 ∷ 0 ∷ 0 ∷ []; posts = l; frames = 7 ∷ [] };
  };
}

-- a refusal at 0, "with every buffer untouched"
abbrev refuses : (sheet pairs : List ℕ) (calls cause : ℕ) → Case
refuses s ps calls cause = record { sheet = s; pairs = ps; request = request_for true calls; after = record { answer = refused cause 0; buffers = filled } }

unfoldable pub cases : List Case
unfolding posted compared branching called second_version
cases =
    -- "A sum or difference has the range from the least to the greatest of its results"; "a post is listed as lowest × 65,536 + highest"
    runs (posted 11) (3 ∷ 10 ∷ 5 ∷ 8 ∷ []) true (ended (ground_num (interval 8 18))) 0 0 1 (524306 ∷ 8 ∷ [])
    ∷ runs (posted 12) (7 ∷ 10 ∷ 5 ∷ 6 ∷ []) true (ended (ground_num (interval 1 5))) 0 0 1 (65541 ∷ 8 ∷ [])
    -- "held ones too"; "Held results aren't counted"
    ∷ runs (posted 11) (3 ∷ 10 ∷ 65530 ∷ 65535 ∷ []) true (ended (ground_num (interval 65533 65535))) 0 0 1 (4294836223 ∷ 8 ∷ [])
    ∷ runs (posted 12) (3 ∷ 10 ∷ 5 ∷ 8 ∷ []) true (ended (ground_num (interval 0 5))) 0 0 1 (5 ∷ 8 ∷ [])
    -- "Less is undecided unless every pair of values from its two ranges agrees"
    ∷ runs compared (3 ∷ 4 ∷ 5 ∷ 8 ∷ []) true (ended (ground_bool (some true))) 0 0 0 (8 ∷ 8 ∷ [])
    ∷ runs compared (5 ∷ 8 ∷ 3 ∷ 5 ∷ []) true (ended (ground_bool (some false))) 0 0 0 (8 ∷ 8 ∷ [])
    ∷ runs compared (3 ∷ 5 ∷ 5 ∷ 8 ∷ []) true (ended (ground_bool none)) 0 0 0 (8 ∷ 8 ∷ [])
    ∷ runs compared (5 ∷ 8 ∷ 3 ∷ 6 ∷ []) true (ended (ground_bool none)) 0 0 0 (8 ∷ 8 ∷ [])
    -- "An if with an undecided condition stops by 36 at the if"
    ∷ runs branching (3 ∷ 4 ∷ 5 ∷ 8 ∷ 1 ∷ 2 ∷ 6 ∷ 9 ∷ []) true (ended (ground_num (interval 1 2))) 0 0 0 (8 ∷ 8 ∷ [])
    ∷ runs branching (8 ∷ 9 ∷ 5 ∷ 8 ∷ 1 ∷ 2 ∷ 6 ∷ 9 ∷ []) true (ended (ground_num (interval 6 9))) 0 0 1 (393225 ∷ 8 ∷ [])
    ∷ runs branching (3 ∷ 5 ∷ 5 ∷ 8 ∷ 1 ∷ 2 ∷ 6 ∷ 9 ∷ []) true (stopped 36 6) 0 0 0 (8 ∷ 8 ∷ [])
    -- "over all pairs of values from its two ranges", though both are of one term; calls, cells and checks as in the plain run
    ∷ runs called (3 ∷ 10 ∷ []) false (ended (ground_num (interval 0 7))) 1 1 0 (8 ∷ 8 ∷ [])
    ∷ runs called (3 ∷ 10 ∷ []) true (stopped 17 3) 1 1 0 (8 ∷ 8 ∷ [])
    -- "a wrong number of pairs, a lowest above its highest or a version 2 sheet is 35"
    ∷ refuses compared (3 ∷ 4 ∷ []) max_calls 35
    ∷ refuses compared (3 ∷ 4 ∷ 5 ∷ []) max_calls 35
    ∷ refuses compared (3 ∷ 4 ∷ 5 ∷ 8 ∷ 1 ∷ 2 ∷ []) max_calls 35
    ∷ refuses compared (3 ∷ 4 ∷ 8 ∷ 5 ∷ []) max_calls 35
    ∷ refuses compared (4 ∷ 3 ∷ 5 ∷ 8 ∷ []) max_calls 35
    ∷ refuses second_version (3 ∷ 4 ∷ []) max_calls 35
    -- "after 16"
    ∷ refuses compared [] 4097 16
    ∷ refuses [] [] 4097 1 ∷ []

unfoldable pub observed : Case → AfterOf intervals
observed c = interval_run c.sheet c.pairs c.request filled

pub computed : map observed cases ≡ map (λ c. c.after) cases
unfolding cases observed interval_run interval_course screen refuse_at eval apply eval_with add_authorised has meet union insert
computed = refl
