-- Theorem 5: the starred cases of 01, "Proved cases", in one table that one theorem proves by computation from the sheets' bytes.
use Rattle.std.specs.Prelude.{true, List, [], ◌∷◌, ◌++◌, map, ◌≡◌, refl, ℕ}
use Rattle.std.proofs.Common.{ap, ◌∙◌}
use Rattle.program.specs.Limits.{max_calls, max_depth, max_cells, max_posts, frame_numbers}
use Rattle.privileges.specs.Sets.{has, meet, union, insert, remove, subset}
use Rattle.program.specs.Layout.{authority, root}
use Rattle.program.specs.Screening.{refuse_at, screen}
use Rattle.program.specs.Decoding.{decoding}
use Rattle.typing.specs.Subtyping.{subtype_in, subtype, wider}
use Rattle.typing.specs.Rules.{remove_authorised}
use Rattle.typing.specs.Checking.{infer}
use Rattle.typing.specs.Verdicts.{Verdict, accepted, rejected, verdict}
use Rattle.semantics.specs.Meaning.{eval_with, apply, eval}
use Rattle.semantics.specs.Access.{privs, add_authorised}
use Rattle.semantics.specs.Runs.{Runner, eager, lazy, Request, Buffers, Sizes, sizes, stack, course, ended, stopped, ground_num, RunCounts, Answer, ran, answer_of, course_posts, run}
use Rattle.soundness.specs.Claims.{posts_of}
use Rattle.soundness.specs.Laws.Runs.{posts_listed}

-- ---- the sheets, a line for each field's header and each record
-- 01's sheet of 78 bytes: sign 0 (enable 1 (check 1 (post 7)))
printed : List ℕ
printed =
    1 ∷ 0 ∷ 2 ∷ 0 ∷ 1
    ∷ 2 ∷ 0 ∷ 4 ∷ 0 ∷ 0 ∷ 0 ∷ 2
    ∷ 3 ∷ 0 ∷ 20
    ∷ 0 ∷ 0 ∷ 0 ∷ 0 ∷ 0 ∷ 0 ∷ 0 ∷ 0 ∷ 0 ∷ 0
    ∷ 1 ∷ 0 ∷ 0 ∷ 0 ∷ 0 ∷ 0 ∷ 0 ∷ 0 ∷ 0 ∷ 0
    ∷ 4 ∷ 0 ∷ 40
    ∷ 1 ∷ 0 ∷ 0 ∷ 7 ∷ 0 ∷ 0 ∷ 0 ∷ 0
    ∷ 14 ∷ 0 ∷ 0 ∷ 0 ∷ 0 ∷ 0 ∷ 0 ∷ 0
    ∷ 7 ∷ 1 ∷ 0 ∷ 1 ∷ 0 ∷ 0 ∷ 0 ∷ 0
    ∷ 8 ∷ 1 ∷ 0 ∷ 2 ∷ 0 ∷ 0 ∷ 0 ∷ 0
    ∷ 9 ∷ 0 ∷ 0 ∷ 3 ∷ 0 ∷ 0 ∷ 0 ∷ 0 ∷ []

-- the same with A(0) empty
unauthorised : List ℕ
unauthorised =
    1 ∷ 0 ∷ 2 ∷ 0 ∷ 1
    ∷ 2 ∷ 0 ∷ 4 ∷ 0 ∷ 0 ∷ 0 ∷ 0
    ∷ 3 ∷ 0 ∷ 20
    ∷ 0 ∷ 0 ∷ 0 ∷ 0 ∷ 0 ∷ 0 ∷ 0 ∷ 0 ∷ 0 ∷ 0
    ∷ 1 ∷ 0 ∷ 0 ∷ 0 ∷ 0 ∷ 0 ∷ 0 ∷ 0 ∷ 0 ∷ 0
    ∷ 4 ∷ 0 ∷ 40
    ∷ 1 ∷ 0 ∷ 0 ∷ 7 ∷ 0 ∷ 0 ∷ 0 ∷ 0
    ∷ 14 ∷ 0 ∷ 0 ∷ 0 ∷ 0 ∷ 0 ∷ 0 ∷ 0
    ∷ 7 ∷ 1 ∷ 0 ∷ 1 ∷ 0 ∷ 0 ∷ 0 ∷ 0
    ∷ 8 ∷ 1 ∷ 0 ∷ 2 ∷ 0 ∷ 0 ∷ 0 ∷ 0
    ∷ 9 ∷ 0 ∷ 0 ∷ 3 ∷ 0 ∷ 0 ∷ 0 ∷ 0 ∷ []

-- the same without its enable
unenabled : List ℕ
unenabled =
    1 ∷ 0 ∷ 2 ∷ 0 ∷ 1
    ∷ 2 ∷ 0 ∷ 4 ∷ 0 ∷ 0 ∷ 0 ∷ 2
    ∷ 3 ∷ 0 ∷ 20
    ∷ 0 ∷ 0 ∷ 0 ∷ 0 ∷ 0 ∷ 0 ∷ 0 ∷ 0 ∷ 0 ∷ 0
    ∷ 1 ∷ 0 ∷ 0 ∷ 0 ∷ 0 ∷ 0 ∷ 0 ∷ 0 ∷ 0 ∷ 0
    ∷ 4 ∷ 0 ∷ 32
    ∷ 1 ∷ 0 ∷ 0 ∷ 7 ∷ 0 ∷ 0 ∷ 0 ∷ 0
    ∷ 14 ∷ 0 ∷ 0 ∷ 0 ∷ 0 ∷ 0 ∷ 0 ∷ 0
    ∷ 7 ∷ 1 ∷ 0 ∷ 1 ∷ 0 ∷ 0 ∷ 0 ∷ 0
    ∷ 9 ∷ 0 ∷ 0 ∷ 2 ∷ 0 ∷ 0 ∷ 0 ∷ 0 ∷ []

-- two principals, A(0) = {1} and A(1) empty, and a sheet of a mere number
two : List ℕ
two =
    1 ∷ 0 ∷ 2 ∷ 0 ∷ 1
    ∷ 2 ∷ 0 ∷ 8 ∷ 0 ∷ 0 ∷ 0 ∷ 2 ∷ 0 ∷ 0 ∷ 0 ∷ 0
    ∷ 3 ∷ 0 ∷ 20
    ∷ 0 ∷ 0 ∷ 0 ∷ 0 ∷ 0 ∷ 0 ∷ 0 ∷ 0 ∷ 0 ∷ 0
    ∷ 1 ∷ 0 ∷ 0 ∷ 0 ∷ 0 ∷ 0 ∷ 0 ∷ 0 ∷ 0 ∷ 0
    ∷ 4 ∷ 0 ∷ 16
    ∷ 1 ∷ 0 ∷ 0 ∷ 0 ∷ 0 ∷ 0 ∷ 0 ∷ 0
    ∷ 9 ∷ 0 ∷ 0 ∷ 0 ∷ 0 ∷ 0 ∷ 0 ∷ 0 ∷ []

-- sign 0 ((fun x. sign 0 x) 5)
identity : List ℕ
identity =
    1 ∷ 0 ∷ 2 ∷ 0 ∷ 1
    ∷ 2 ∷ 0 ∷ 4 ∷ 0 ∷ 0 ∷ 0 ∷ 0
    ∷ 3 ∷ 0 ∷ 30
    ∷ 0 ∷ 0 ∷ 0 ∷ 0 ∷ 0 ∷ 0 ∷ 0 ∷ 0 ∷ 0 ∷ 0
    ∷ 1 ∷ 0 ∷ 0 ∷ 0 ∷ 0 ∷ 0 ∷ 0 ∷ 0 ∷ 0 ∷ 0
    ∷ 2 ∷ 0 ∷ 0 ∷ 1 ∷ 0 ∷ 1 ∷ 0 ∷ 0 ∷ 0 ∷ 0
    ∷ 4 ∷ 0 ∷ 48
    ∷ 2 ∷ 0 ∷ 0 ∷ 0 ∷ 0 ∷ 0 ∷ 0 ∷ 0
    ∷ 9 ∷ 0 ∷ 0 ∷ 0 ∷ 0 ∷ 0 ∷ 0 ∷ 0
    ∷ 3 ∷ 0 ∷ 0 ∷ 2 ∷ 0 ∷ 1 ∷ 0 ∷ 0
    ∷ 1 ∷ 0 ∷ 0 ∷ 5 ∷ 0 ∷ 0 ∷ 0 ∷ 0
    ∷ 5 ∷ 0 ∷ 0 ∷ 2 ∷ 0 ∷ 3 ∷ 0 ∷ 0
    ∷ 9 ∷ 0 ∷ 0 ∷ 4 ∷ 0 ∷ 0 ∷ 0 ∷ 0 ∷ []

-- sign 0 (letrec f(x) = sign 0 (f x) in f 0)
endless : List ℕ
endless =
    1 ∷ 0 ∷ 2 ∷ 0 ∷ 1
    ∷ 2 ∷ 0 ∷ 4 ∷ 0 ∷ 0 ∷ 0 ∷ 0
    ∷ 3 ∷ 0 ∷ 30
    ∷ 0 ∷ 0 ∷ 0 ∷ 0 ∷ 0 ∷ 0 ∷ 0 ∷ 0 ∷ 0 ∷ 0
    ∷ 1 ∷ 0 ∷ 0 ∷ 0 ∷ 0 ∷ 0 ∷ 0 ∷ 0 ∷ 0 ∷ 0
    ∷ 2 ∷ 0 ∷ 0 ∷ 1 ∷ 0 ∷ 1 ∷ 0 ∷ 0 ∷ 0 ∷ 0
    ∷ 4 ∷ 0 ∷ 72
    ∷ 2 ∷ 0 ∷ 0 ∷ 1 ∷ 0 ∷ 0 ∷ 0 ∷ 0
    ∷ 2 ∷ 0 ∷ 0 ∷ 0 ∷ 0 ∷ 0 ∷ 0 ∷ 0
    ∷ 5 ∷ 0 ∷ 0 ∷ 0 ∷ 0 ∷ 1 ∷ 0 ∷ 0
    ∷ 9 ∷ 0 ∷ 0 ∷ 2 ∷ 0 ∷ 0 ∷ 0 ∷ 0
    ∷ 2 ∷ 0 ∷ 0 ∷ 0 ∷ 0 ∷ 0 ∷ 0 ∷ 0
    ∷ 1 ∷ 0 ∷ 0 ∷ 0 ∷ 0 ∷ 0 ∷ 0 ∷ 0
    ∷ 5 ∷ 0 ∷ 0 ∷ 4 ∷ 0 ∷ 5 ∷ 0 ∷ 0
    ∷ 4 ∷ 0 ∷ 0 ∷ 2 ∷ 0 ∷ 3 ∷ 0 ∷ 6
    ∷ 9 ∷ 0 ∷ 0 ∷ 7 ∷ 0 ∷ 0 ∷ 0 ∷ 0 ∷ []

-- sign 0 (test 1 then check 1 for 7 else 0)
tested : List ℕ
tested =
    1 ∷ 0 ∷ 2 ∷ 0 ∷ 1
    ∷ 2 ∷ 0 ∷ 4 ∷ 0 ∷ 0 ∷ 0 ∷ 2
    ∷ 3 ∷ 0 ∷ 20
    ∷ 0 ∷ 0 ∷ 0 ∷ 0 ∷ 0 ∷ 0 ∷ 0 ∷ 0 ∷ 0 ∷ 0
    ∷ 1 ∷ 0 ∷ 0 ∷ 0 ∷ 0 ∷ 0 ∷ 0 ∷ 0 ∷ 0 ∷ 0
    ∷ 4 ∷ 0 ∷ 40
    ∷ 1 ∷ 0 ∷ 0 ∷ 7 ∷ 0 ∷ 0 ∷ 0 ∷ 0
    ∷ 7 ∷ 1 ∷ 0 ∷ 0 ∷ 0 ∷ 0 ∷ 0 ∷ 0
    ∷ 1 ∷ 0 ∷ 0 ∷ 0 ∷ 0 ∷ 0 ∷ 0 ∷ 0
    ∷ 10 ∷ 1 ∷ 0 ∷ 1 ∷ 0 ∷ 2 ∷ 0 ∷ 0
    ∷ 9 ∷ 0 ∷ 0 ∷ 3 ∷ 0 ∷ 0 ∷ 0 ∷ 0 ∷ []

-- ---- the table

-- what is told: a verdict, a run's answer with its posts, or the set that a stack grants
pub data Observed : Type 0 where
  decided : Verdict → Observed
  answered : Answer → (posts : List ℕ) → Observed
  grants : (set : ℕ) → Observed

-- a row: what is asked, and what is due
pub data Case : Type 0 where
  deciding : (sheet : List ℕ) → Verdict → Case
  running : (sheet : List ℕ) → Request → Answer → (posts : List ℕ) → Case
  granting : (sheet start : List ℕ) → (set : ℕ) → Case

abbrev pub due : Case → Observed
due (deciding s v) = decided v
due (running s q a ps) = answered a ps
due (granting s start set) = grants set

-- "Unless named, the stack is empty and allowances and buffers are the largest." Checks are in force; a run is asked of both runners.
abbrev pub request : (start : List ℕ) (calls depth : ℕ) → Runner → Request
request start calls depth r = record { runner = r; enforce = true; start = start; calls = calls; depth = depth }

-- where nothing was saturated
abbrev pub counted : (calls cells posts : ℕ) → RunCounts
counted c d p = record { calls = c; cells = d; posts = p; saturated = 0 }

abbrev pub both : List ℕ → (Runner → Request) → Answer → List ℕ → List Case
both s q a ps = running s (q eager) a ps ∷ running s (q lazy) a ps ∷ []

unfoldable pub cases : List Case
unfolding printed unauthorised unenabled two identity endless tested
cases =
    -- "The sheet above."
    deciding printed (accepted 5 1 0)
    ∷ both printed (request [] max_calls max_depth) (ran (ended (ground_num 7)) (counted 0 0 1)) (7 ∷ [])
    -- "With A(0) empty: refused 11 at 4; run, stop 17 at 2, posts 0."
    ++ deciding unauthorised (rejected 11 4)
    ∷ both unauthorised (request [] max_calls max_depth) (ran (stopped 17 2) (counted 0 0 0)) []
    -- "Without its enable: needs 00000002; stop 17 on an empty stack, 7 on the one frame (0, {1})."
    ++ deciding unenabled (accepted 4 1 2)
    ∷ both unenabled (request [] max_calls max_depth) (ran (stopped 17 2) (counted 0 0 0)) []
    ++ both unenabled (request (0 ∷ 2 ∷ []) max_calls max_depth) (ran (ended (ground_num 7)) (counted 0 0 1)) (7 ∷ [])
    -- "Empty file: 1."
    ++ deciding [] (rejected 1 0)
    -- "A(0) = {1}, A(1) empty: frames (1, {}), (0, {1}) grant nothing"
    ∷ granting two (1 ∷ 0 ∷ 0 ∷ 2 ∷ []) 0
    -- "(0, {1}), (1, {}) grant 1"
    ∷ granting two (0 ∷ 2 ∷ 1 ∷ 0 ∷ []) 2
    -- "(1, {1}) grants nothing"
    ∷ granting two (1 ∷ 2 ∷ []) 0
    -- "Identity on numbers called with 5: calls 1, cells 1."
    ∷ both identity (request [] max_calls max_depth) (ran (ended (ground_num 5)) (counted 1 1 0)) []
    -- "Calls 0: stop 20."
    ++ both identity (request [] 0 max_depth) (ran (stopped 20 4) (counted 0 0 0)) []
    -- "Calls and open calls both 0: stop 19."
    ++ both identity (request [] 0 0) (ran (stopped 19 4) (counted 0 0 0)) []
    -- "f(x) = f x, called on 0, open calls 100, calls 4,096: stop 19, calls 100, cells 101. With calls 99: stop 20."
    ++ both endless (request [] max_calls max_depth) (ran (stopped 19 2) (counted 100 101 0)) []
    ++ both endless (request [] 99 max_depth) (ran (stopped 20 2) (counted 99 100 0)) []
    -- "Test 1, yes check 1 for 7, no 0: needs 00000002." W1 changed it: "The case of the test in 01 now gives needs 00000000".
    ++ deciding tested (accepted 5 1 0) ∷ []

-- ---- what the definitions tell, in whatever buffers
abbrev pub observed : Buffers → Case → Observed
observed b (deciding s v) = decided (verdict s)
observed b (running s q a ps) = answered (run s q b).answer (posts_of (run s q b))
observed b (granting s start set) = grants (privs (authority s) (stack start))

-- the same from the buffers' lengths alone
unfoldable pub observed_by : Sizes → Case → Observed
observed_by z (deciding s v) = decided (verdict s)
observed_by z (running s q a ps) = answered (answer_of (root s) q z (course s q z)) (course_posts (course s q z))
observed_by z (granting s start set) = grants (privs (authority s) (stack start))

observed_sizes : (b : Buffers) (c : Case) → observed b c ≡ observed_by (sizes b) c
unfolding observed_by run
observed_sizes b (deciding s v) = refl
observed_sizes b (running s q a ps) = ap (answered (answer_of (root s) q (sizes b) (course s q (sizes b)))) (posts_listed (root s) q b (course s q (sizes b)))
observed_sizes b (granting s start set) = refl

observations : (b : Buffers) (cs : List Case) → map (observed b) cs ≡ map (observed_by (sizes b)) cs
observations b [] = refl
observations b (c ∷ cs) = λ i. observed_sizes b c i ∷ observations b cs i

abbrev pub largest : Sizes
largest = record { cells = max_cells; posts = max_posts; frames = frame_numbers }

-- rows that are computed from the lengths alone hold in buffers of the largest lengths, whatever they hold
pub as_due : (cs : List Case) → map (observed_by largest) cs ≡ map due cs → (b : Buffers) → sizes b ≡ largest → map (observed b) cs ≡ map due cs
as_due cs h b e = observations b cs ∙ ap (λ (z : Sizes). map (observed_by z) cs) e ∙ h

-- The starred cases hold of the definitions, with buffers of the largest lengths, whatever they hold.
pub starred : (b : Buffers) → sizes b ≡ largest → map (observed b) cases ≡ map due cases
unfolding cases observed_by verdict decoding screen refuse_at infer subtype subtype_in wider remove_authorised course eval apply eval_with add_authorised has
    meet union insert remove subset
starred = as_due cases refl
