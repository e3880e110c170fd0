-- Sheets whose sums and differences lie at and past each limit, from their bytes: what the count of held results is in an end and in a stop. One theorem
-- proves the table by computation, like that of the starred cases.
use Rattle.std.specs.Prelude.{false, true, List, [], ◌∷◌, ◌++◌, map, ◌≡◌, refl, ℕ, length}
use Rattle.program.specs.Limits.{max_calls, max_depth}
use Rattle.privileges.specs.Sets.{has, meet, union, insert, remove, subset}
use Rattle.program.specs.Screening.{refuse_at, screen}
use Rattle.program.specs.Decoding.{decoding}
use Rattle.typing.specs.Subtyping.{subtype_in, subtype, wider}
use Rattle.typing.specs.Rules.{remove_authorised}
use Rattle.typing.specs.Checking.{infer}
use Rattle.typing.specs.Verdicts.{accepted, verdict}
use Rattle.semantics.specs.Meaning.{eval_with, apply, eval}
use Rattle.semantics.specs.Access.{add_authorised}
use Rattle.semantics.specs.Runs.{Runner, Request, Buffers, sizes, course, ended, stopped, ground_bool, ground_num, RunCounts, ran}
use Rattle.soundness.specs.Cases.{Case, deciding, due, request, both, observed, observed_by, largest, as_due}

-- ---- the sheets: principal 0, the types of the boolean, the number and of functions from numbers to numbers; and terms, whose bytes are fewer than 256
sheet : (terms : List ℕ) → List ℕ
sheet terms =
    1 ∷ 0 ∷ 2 ∷ 0 ∷ 1
    ∷ 2 ∷ 0 ∷ 4 ∷ 0 ∷ 0 ∷ 0 ∷ 0
    ∷ 3 ∷ 0 ∷ 30
    ∷ 0 ∷ 0 ∷ 0 ∷ 0 ∷ 0 ∷ 0 ∷ 0 ∷ 0 ∷ 0 ∷ 0
    ∷ 1 ∷ 0 ∷ 0 ∷ 0 ∷ 0 ∷ 0 ∷ 0 ∷ 0 ∷ 0 ∷ 0
    ∷ 2 ∷ 0 ∷ 0 ∷ 1 ∷ 0 ∷ 1 ∷ 0 ∷ 0 ∷ 0 ∷ 0
    ∷ 4 ∷ 0 ∷ length terms ∷ terms

-- records: the numbers 65,535 and n below 256, the boolean 1, a variable, a sign of principal 0, and kinds with two children
full : List ℕ
full = 1 ∷ 0 ∷ 255 ∷ 255 ∷ 0 ∷ 0 ∷ 0 ∷ 0 ∷ []

low : (n : ℕ) → List ℕ
low n = 1 ∷ 0 ∷ 0 ∷ n ∷ 0 ∷ 0 ∷ 0 ∷ 0 ∷ []

truth : List ℕ
truth = 0 ∷ 1 ∷ 0 ∷ 0 ∷ 0 ∷ 0 ∷ 0 ∷ 0 ∷ []

argument : List ℕ
argument = 2 ∷ 0 ∷ 0 ∷ 0 ∷ 0 ∷ 0 ∷ 0 ∷ 0 ∷ []

signed : (inner : ℕ) → List ℕ
signed c = 9 ∷ 0 ∷ 0 ∷ c ∷ 0 ∷ 0 ∷ 0 ∷ 0 ∷ []

pair : (kind a b : ℕ) → List ℕ
pair k a b = k ∷ 0 ∷ 0 ∷ a ∷ 0 ∷ b ∷ 0 ∷ 0 ∷ []

-- sign 0 (a ∘ b), of kind 11 sum, 12 difference or 13 less
binary : (kind : ℕ) (a b : List ℕ) → List ℕ
unfolding sheet signed pair
binary k a b = sheet (a ++ b ++ pair k 0 1 ++ signed 2)

-- sign 0 ((65,535 + 1) ∘ b)
after : (kind : ℕ) (b : List ℕ) → List ℕ
unfolding sheet full low signed pair
after k b = sheet (full ++ low 1 ++ pair 11 0 1 ++ b ++ pair k 2 3 ++ signed 4)

-- sign 0 ((fun x. sign 0 (x + x)) (0 − 1 + 65,535))
doubled : List ℕ
unfolding sheet full low argument signed pair
doubled =
    sheet (argument ++ argument ++ pair 11 0 1 ++ signed 2 ++ pair 3 2 3 ++ low 0 ++ low 1 ++ pair 12 5 6 ++ full ++ pair 11 7 8 ++ pair 5 4 9 ++ signed 10)

-- ---- the table
abbrev request_for : (calls : ℕ) → Runner → Request
request_for calls = request [] calls max_depth

abbrev pub saturating : (calls cells saturated : ℕ) → RunCounts
saturating c d n = record { calls = c; cells = d; posts = 0; saturated = n }

unfoldable pub sums : List Case
unfolding binary full low truth after doubled
sums =
    -- 02, W10: "whether the exact result was outside 0 to 65,535": past a limit it is, at the limit it is not
    both (binary 11 full (low 0)) (request_for max_calls) (ran (ended (ground_num 65535)) (saturating 0 0 0)) []
    ++ both (binary 11 full (low 1)) (request_for max_calls) (ran (ended (ground_num 65535)) (saturating 0 0 1)) []
    ++ both (binary 11 full full) (request_for max_calls) (ran (ended (ground_num 65535)) (saturating 0 0 1)) []
    ++ both (binary 11 (low 3) (low 7)) (request_for max_calls) (ran (ended (ground_num 10)) (saturating 0 0 0)) []
    ++ both (binary 12 (low 7) (low 7)) (request_for max_calls) (ran (ended (ground_num 0)) (saturating 0 0 0)) []
    ++ both (binary 12 (low 7) (low 8)) (request_for max_calls) (ran (ended (ground_num 0)) (saturating 0 0 1)) []
    ++ both (binary 12 full (low 1)) (request_for max_calls) (ran (ended (ground_num 65534)) (saturating 0 0 0)) []
    ++ both (binary 13 full full) (request_for max_calls) (ran (ended (ground_bool false)) (saturating 0 0 0)) []
    ++ both (binary 13 (low 7) (low 8)) (request_for max_calls) (ran (ended (ground_bool true)) (saturating 0 0 0)) []
    -- "ends and stops carry that count": the held sum before, and the stuck one counts nothing
    ++ both (binary 11 full truth) (request_for max_calls) (ran (stopped 18 2) (saturating 0 0 0)) []
    ++ both (after 11 truth) (request_for max_calls) (ran (stopped 18 4) (saturating 0 0 1)) []
    ++ both (after 11 (low 1)) (request_for max_calls) (ran (ended (ground_num 65535)) (saturating 0 0 2)) []
    -- of an argument and of a body; where no call is allowed, of the argument
    ++ deciding doubled (accepted 12 1 0)
    ∷ both doubled (request_for max_calls) (ran (ended (ground_num 65535)) (saturating 1 1 2)) []
    ++ both doubled (request_for 0) (ran (stopped 20 10) (saturating 0 0 1)) []

-- The rows hold of the definitions, with buffers of the largest lengths, whatever they hold.
pub saturated_sums : (b : Buffers) → sizes b ≡ largest → map (observed b) sums ≡ map due sums
unfolding sums observed_by verdict decoding screen refuse_at infer subtype subtype_in wider remove_authorised course eval apply eval_with add_authorised has
    meet union insert remove subset
saturated_sums = as_due sums refl
