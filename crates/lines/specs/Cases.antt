-- Serves by computation: line 1 has two jobs, line 3 one of no bytes (`queues`, Cases). Lines 1, 3 and 1 have their turns; then nobody.
use Rattle.std.specs.Prelude.{List, [], ◌∷◌, ◌≡◌, refl, ℕ}
use Rattle.privileges.specs.Sets.{has, meet, union, insert, remove, subset}
use Rattle.program.specs.Limits.{max_cells}
use Rattle.program.specs.Screening.{refuse_at, screen}
use Rattle.semantics.specs.Meaning.{eval_with, apply, eval}
use Rattle.semantics.specs.Access.{add_authorised}
use Rattle.semantics.specs.Runs.{Buffers, ground_num, ended, stopped, refused, ran, zeros, course, run}
use Rattle.interp.specs.Answers.{buffers_of}
use Rattle.largest.specs.Largest.{largest_run}
use Rattle.queues.specs.Queues.{Lines, new_lines, turn_from}
use Rattle.lines.specs.Serving.{ServeAnswer, idle, answered, Served, serve_of}
use Rattle.queues.specs.Cases.{store, whole, empty, waiting}

abbrev buffers_with : (posts : List ℕ) → Buffers
buffers_with posts = buffers_of (zeros max_cells) posts []

-- what a serve tells: the answer, the line, the line whose turn is next, the place and the list of posts
abbrev Heard : Type 0
Heard = ServeAnswer × ℕ × ℕ × ℕ × List ℕ

abbrev heard : Served → Heard
heard r = (r.answer, r.line, r.state.turn, r.state.place, r.buffers.posts)

abbrev after1 : Lines
after1 = record { queues = [] ∷ (whole ∷ []) ∷ [] ∷ (empty ∷ []) ∷ []; turn = 2; place = 1 }

pub first_leaves : (serve_of waiting store (buffers_with (1 ∷ 2 ∷ []))).state ≡ after1
unfolding serve_of turn_from largest_run run screen refuse_at course eval apply eval_with add_authorised has meet union insert remove subset
first_leaves = refl

pub first_served : heard (serve_of waiting store (buffers_with (1 ∷ 2 ∷ [])))
    ≡ (answered (ran (ended (ground_num 7)) (record { calls = 0; cells = 0; posts = 1; saturated = 0 })), 1, 2, 1, 7 ∷ 2 ∷ [])
unfolding serve_of turn_from largest_run run screen refuse_at course eval apply eval_with add_authorised has meet union insert remove subset
first_served = refl

-- a refused job uses up its turn
abbrev after2 : Lines
after2 = record { queues = [] ∷ (whole ∷ []) ∷ [] ∷ [] ∷ []; turn = 0; place = 1 }

pub second_leaves : (serve_of after1 store (buffers_with (7 ∷ 2 ∷ []))).state ≡ after2
unfolding serve_of turn_from largest_run run screen refuse_at course eval apply eval_with add_authorised has meet union insert remove subset
second_leaves = refl

pub second_served : heard (serve_of after1 store (buffers_with (7 ∷ 2 ∷ []))) ≡ (answered (refused 1 0), 3, 0, 1, 7 ∷ 2 ∷ [])
unfolding serve_of turn_from largest_run run screen refuse_at course eval apply eval_with add_authorised has meet union insert remove subset
second_served = refl

-- the next post has its place behind the first
pub third_served : heard (serve_of after2 store (buffers_with (7 ∷ 2 ∷ [])))
    ≡ (answered (ran (ended (ground_num 7)) (record { calls = 0; cells = 0; posts = 1; saturated = 0 })), 1, 2, 2, 7 ∷ 7 ∷ [])
unfolding serve_of turn_from largest_run run screen refuse_at course eval apply eval_with add_authorised has meet union insert remove subset
third_served = refl

-- nothing is left of a list that is shorter
pub nothing_left : heard (serve_of after2 store (buffers_with []))
    ≡ (answered (ran (stopped 22 1) (record { calls = 0; cells = 0; posts = 0; saturated = 0 })), 1, 2, 1, [])
unfolding serve_of turn_from largest_run run screen refuse_at course eval apply eval_with add_authorised has meet union insert remove subset
nothing_left = refl

-- "first by 28 if the store is shorter then"
pub store_shorter : heard (serve_of after2 [] (buffers_of [] [] [])) ≡ (answered (refused 28 0), 1, 2, 1, [])
unfolding serve_of turn_from largest_run run screen refuse_at course eval apply eval_with add_authorised has meet union insert remove subset
store_shorter = refl

-- another cell store, or more than 256 places left, is 15
pub other_cells : (serve_of after2 store (buffers_of [] [] [])).answer ≡ answered (refused 15 0)
unfolding serve_of turn_from largest_run run screen refuse_at course eval apply eval_with add_authorised has meet union insert remove subset
other_cells = refl

pub many_places :
    ((serve_of after2 store (buffers_with (zeros 257))).answer
    ≡ answered (ran (ended (ground_num 7)) (record { calls = 0; cells = 0; posts = 1; saturated = 0 })))
    × ((serve_of after2 store (buffers_with (zeros 258))).answer ≡ answered (refused 15 0))
unfolding serve_of turn_from largest_run run screen refuse_at course eval apply eval_with add_authorised has meet union insert remove subset
many_places = (refl, refl)

pub nobody_waits : (serve_of new_lines store (buffers_with [])).answer ≡ idle
unfolding serve_of turn_from largest_run run screen refuse_at course eval apply eval_with add_authorised has meet union insert remove subset
nobody_waits = refl
