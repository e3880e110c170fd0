-- What is printed of a sheet: 01, "The program and its print".
use Rattle.std.specs.Prelude.{cond, List, [], ◌∷◌, ◌++◌, ℕ, zero, suc, ◌+◌, ◌/◌, ◌%◌, ltb, eqb}
use Prim.Native.Char.{code}
use Prim.Native.String.{String, [] as ended-text, ◌∷◌ as ◌then◌}
use Rattle.program.specs.Limits.{max_calls, max_cells, max_posts}
use Rattle.program.specs.Layout.{root}
use Rattle.typing.specs.Verdicts.{Verdict, accepted, rejected, verdict}
use Rattle.semantics.specs.Runs.{Request, Sizes, course, ground_bool, ground_num, Outcome, ended, stopped, RunCounts, Answer, refused, ran, answer_of}
use Rattle.interp.specs.Answers.{empty_stack_request}

-- ---- characters and numbers

-- a quoted text as bytes; every text here is ASCII
abbrev pub ascii : String → List ℕ
ascii ended-text = []
ascii (c then s) = code c ∷ ascii s

-- the character of a digit: 0 to 9, then capital A to F
abbrev pub digit : ℕ → ℕ
digit d = cond (ltb d 10) (48 + d) (55 + d)

-- the last k hexadecimal digits of a number: those of its sixteenth, then the last
unfoldable pub hexadecimal : (k : ℕ) → ℕ → List ℕ
hexadecimal zero n = []
hexadecimal (suc k) n = hexadecimal k (n / 16) ++ digit (n % 16) ∷ []

-- a number's decimal digits, at most k: those of its tenth, if that is not 0, then the last
unfoldable pub decimal_in : (k : ℕ) → ℕ → List ℕ
decimal_in zero n = []
decimal_in (suc k) n = cond (ltb n 10) [] (decimal_in k (n / 10)) ++ digit (n % 10) ∷ []

-- no number of 64 bits has more than 20 (Theorems: one_digit, tenth)
unfoldable pub decimal : ℕ → List ℕ
decimal n = decimal_in 20 n

-- ---- the lines
abbrev pub line : List ℕ → List ℕ
line xs = xs ++ ascii "\n"

abbrev pub labelled : String → ℕ → List ℕ
labelled label n = ascii label ++ decimal n

abbrev pub terms_line : ℕ → List ℕ
terms_line n = line (labelled "terms " n)

-- "Needs are eight capital hexadecimal digits, other numbers decimal"
abbrev pub needs_line : ℕ → List ℕ
needs_line N = line (ascii "needs " ++ hexadecimal 8 N)

-- "the type is `num` or `bool`": type 0 is the boolean and type 1 the number
abbrev pub type_line : ℕ → List ℕ
type_line τ = line (ascii "type " ++ cond (eqb τ 0) (ascii "bool") (ascii "num"))

abbrev pub acceptance_text : (terms type needs : ℕ) → List ℕ
acceptance_text n τ N = terms_line n ++ needs_line N ++ type_line τ

abbrev pub place_text : ℕ → List ℕ
place_text t = labelled " at " t

-- "a boolean prints `bool 0` or `bool 1`, a stop `stop C at T` in place of `end num 7`, with the counts after it"
abbrev pub outcome_text : Outcome → List ℕ
outcome_text (ended (ground_bool b)) = ascii "end bool " ++ cond b (ascii "1") (ascii "0")
outcome_text (ended (ground_num n)) = labelled "end num " n
outcome_text (stopped c t) = labelled "stop " c ++ place_text t

-- 02, W10: "the program's run line closes with `held` and the count"
abbrev pub counts_text : RunCounts → List ℕ
counts_text k = labelled " calls " k.calls ++ labelled " cells " k.cells ++ labelled " posts " k.posts ++ labelled " held " k.saturated

-- "A refusal prints one line, `refused C at T`."
abbrev pub refusal_text : (cause place : ℕ) → List ℕ
refusal_text c t = line (labelled "refused " c ++ place_text t)

-- ---- the text

-- "judges it and runs it eagerly, checks in force, on an empty stack with the largest allowances and buffers"; an eager run has no frame store
abbrev pub program_request : Request
program_request = empty_stack_request max_calls

abbrev pub eager_sizes : Sizes
eager_sizes = record { cells = max_cells; posts = max_posts; frames = 0 }

abbrev pub program_answer : List ℕ → Answer
program_answer s = answer_of (root s) program_request eager_sizes (course s program_request eager_sizes)

-- The run of an accepted sheet is never turned back (Theorems: accepted_runs).
abbrev pub of_run : (accepted : List ℕ) → Answer → List ℕ
of_run xs (ran o k) = xs ++ line (outcome_text o ++ counts_text k)
of_run xs (refused c p) = refusal_text c p

-- A sheet that is refused is not run.
abbrev pub of_verdict : Verdict → (Unit {0} → Answer) → List ℕ
of_verdict (accepted n τ N) run = of_run (acceptance_text n τ N) (run tt)
of_verdict (rejected c p) run = refusal_text c p

unfoldable pub printed : List ℕ → List ℕ
printed s = of_verdict (verdict s) λ _. program_answer s
