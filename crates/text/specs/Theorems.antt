-- What a reader may count on: 20 decimal digits are enough, the run of an accepted sheet starts, an input longer than any sheet is told like its
-- beginning, and no text is longer than 209 bytes.
use Rattle.std.specs.Prelude.{Bool, true, false, cond, List, [], ◌∷◌, ◌++◌, ◌≡◌, refl, ℕ, zero, suc, ◌+◌, ◌/◌, ◌%◌, ◌^◌, ◌<◌, ◌≤◌, ltb, eqb, length, take}
use Rattle.std.proofs.Common.{sym, ap, ◌∙◌, zero-le, div-lt_iff_lt-mul, arith, lit<, length-append, take_all, lt-ltb, le-ltb}
use Rattle.std.proofs.Math.Nat.{pow-succ'}
use Rattle.std.proofs.Math.Decide.{dec_lt}
use Rattle.program.specs.Limits.{max_sheet}
use Rattle.program.specs.Layout.{root}
use Rattle.program.specs.Screening.{clear, found, refuse_at, screen, unless}
use Rattle.program.specs.Decoding.{decoding_conditions, decoding, Readable}
use Rattle.program.proofs.Laws.Screening.{screen_clear}
use Rattle.program.proofs.Laws.Longest.{cut_alike, longer_refused}
use Rattle.typing.specs.Verdicts.{Verdict, accepted, rejected, verdict}
use Rattle.typing.proofs.Theorems.{acceptance}
use Rattle.semantics.specs.Runs.{eager, start_ok, buffers_ok, limits_ok, run_conditions, evaluation, settled, course, ground_bool, ground_num}
use Rattle.semantics.specs.Runs.{Outcome, ended, stopped, RunCounts, Answer, refused, ran, answer_of}
use Rattle.text.specs.Text.{ascii, digit, hexadecimal, decimal_in, decimal, line, labelled, type_line, acceptance_text, place_text, outcome_text, counts_text, refusal_text}
use Rattle.text.specs.Text.{program_request, eager_sizes, program_answer, of_run, of_verdict, printed}

-- ---- the decimal digits of a number of 64 bits, however long
-- a number below 10 ^ k has no more than k digits
enough : (k n : ℕ) → n < 10 ^ suc k → decimal_in (suc k) n ≡ decimal_in (suc (suc k)) n
unfolding decimal_in
enough zero n h = ap (λ (b : Bool). cond b [] [] ++ (digit (n % 10) ∷ [])) (lt-ltb n 10 h)
    ∙ sym (ap (λ (b : Bool). cond b [] (decimal_in 1 (n / 10)) ++ (digit (n % 10) ∷ [])) (lt-ltb n 10 h))
enough (suc k) n h = ap (λ (xs : List ℕ). cond (ltb n 10) [] xs ++ (digit (n % 10) ∷ []))
    (enough k (n / 10) ((div-lt_iff_lt-mul {k = 10} {x = n} {y = 10 ^ suc k} (lit< tt)).1 (omega (arith, h, pow-succ' 10 (suc k)))))

pub one_digit : (n : ℕ) → n < 10 → decimal n ≡ digit (n % 10) ∷ []
unfolding decimal decimal_in
one_digit n h = ap (λ (b : Bool). cond b [] (decimal_in 19 (n / 10)) ++ (digit (n % 10) ∷ [])) (lt-ltb n 10 h)

pub tenth : (n : ℕ) → 10 ≤ n → n < 2 ^ 64 → decimal n ≡ decimal (n / 10) ++ (digit (n % 10) ∷ [])
unfolding decimal decimal_in
tenth n g h = ap (λ (b : Bool). cond b [] (decimal_in 19 (n / 10)) ++ (digit (n % 10) ∷ [])) (le-ltb n 10 g)
    ∙ ap (λ (xs : List ℕ). xs ++ (digit (n % 10) ∷ [])) (enough 18 (n / 10) (omega (arith, h)))

-- ---- an accepted sheet is run: its run is never turned back
starts : (s : List ℕ) → Readable s → screen (run_conditions s program_request eager_sizes) ≡ clear
unfolding decoding screen refuse_at
starts s r =
    screen_clear (decoding_conditions s) (unless 14 (start_ok s program_request) ∷ unless 15 (buffers_ok eager eager_sizes)
    ∷ unless 16 (limits_ok program_request) ∷ []) r

pub accepted_runs : (s : List ℕ) (n τ N : ℕ) → verdict s ≡ accepted n τ N → (o : Outcome) × (k : RunCounts) × (program_answer s ≡ ran o k)
unfolding course
accepted_runs s n τ N e = (
  _,
  _,
  λ i. answer_of (root s) program_request eager_sizes
      (settled (starts s (acceptance s n τ N e).readable i) (λ _. evaluation eager s program_request eager_sizes)),
)

-- ---- an input longer than any sheet
unfit_printed : (s : List ℕ) (c p : ℕ) → decoding s ≡ found c p → printed s ≡ refusal_text c p
unfolding printed verdict
unfit_printed s c p e = rw e

-- "longer: it reads one byte more and the reader refuses": the text for the first 10,914 bytes is that for the whole input
pub cut_printed : (s : List ℕ) → printed (take (max_sheet + 1) s) ≡ printed s
cut_printed s = go (dec_lt max_sheet (length s))
  where
    go : Dec (max_sheet < length s) → printed (take (max_sheet + 1) s) ≡ printed s
    go (yes l) =
        let r = longer_refused s l in
        unfit_printed (take (max_sheet + 1) s) r.0 r.1 (cut_alike s ∙ r.2) ∙ sym (unfit_printed s r.0 r.1 r.2)
    go (no l) = ap printed (take_all (max_sheet + 1) s (omega arith))

-- ---- how long a text is
length_last : (b : Bool) (xs : List ℕ) (x k : ℕ) → length xs ≤ k → length (cond b [] xs ++ (x ∷ [])) ≤ suc k
length_last true xs x k h = omega arith
length_last false xs x k h = omega (arith, length-append xs (x ∷ []))

digits_most : (k n : ℕ) → length (decimal_in k n) ≤ k
unfolding decimal_in
digits_most zero n = zero-le
digits_most (suc k) n = length_last (ltb n 10) (decimal_in k (n / 10)) (digit (n % 10)) k (digits_most k (n / 10))

pub decimal_most : (n : ℕ) → length (decimal n) ≤ 20
unfolding decimal
decimal_most n = digits_most 20 n

hexadecimal_length : (k n : ℕ) → length (hexadecimal k n) ≡ k
unfolding hexadecimal
hexadecimal_length zero n = refl
hexadecimal_length (suc k) n = length-append (hexadecimal k (n / 16)) (digit (n % 16) ∷ []) ∙ omega (arith, hexadecimal_length k (n / 16))

type_most : (b : Bool) → length (line (ascii "type " ++ cond b (ascii "bool") (ascii "num"))) ≤ 10
type_most true = omega arith
type_most false = omega arith

outcome_most : (o : Outcome) → length (outcome_text o) ≤ 49
outcome_most (ended (ground_bool true)) = omega arith
outcome_most (ended (ground_bool false)) = omega arith
outcome_most (ended (ground_num n)) = omega (arith, decimal_most n)
outcome_most (stopped c t) = omega (arith, decimal_most c, decimal_most t, length-append (decimal c) (place_text t))

counts_most : (k : RunCounts) → length (counts_text k) ≤ 107
counts_most k =
    omega (
      arith,
      decimal_most k.calls,
      decimal_most k.cells,
      decimal_most k.posts,
      decimal_most k.saturated,
      length-append (decimal k.calls) (labelled " cells " k.cells),
      length-append (decimal k.calls ++ labelled " cells " k.cells) (labelled " posts " k.posts),
      length-append (decimal k.calls ++ labelled " cells " k.cells ++ labelled " posts " k.posts) (labelled " held " k.saturated),
    )

refusal_most : (c t : ℕ) → length (refusal_text c t) ≤ 209
refusal_most c t =
    omega (
      arith,
      decimal_most c,
      decimal_most t,
      length-append (decimal c) (place_text t),
      length-append (decimal c ++ place_text t) (ascii "\n"),
    )

acceptance_most : (n τ N : ℕ) → length (acceptance_text n τ N) ≤ 52
acceptance_most n τ N =
    omega (
      arith,
      decimal_most n,
      hexadecimal_length 8 N,
      type_most (eqb τ 0),
      length-append (decimal n) (ascii "\n"),
      length-append (hexadecimal 8 N) (ascii "\n"),
      length-append (decimal n ++ ascii "\n") (line (ascii "needs " ++ hexadecimal 8 N)),
      length-append (decimal n ++ ascii "\n" ++ line (ascii "needs " ++ hexadecimal 8 N)) (type_line τ),
    )

run_most : (xs : List ℕ) (a : Answer) → length xs ≤ 52 → length (of_run xs a) ≤ 209
run_most xs (refused c p) h = refusal_most c p
run_most xs (ran o k) h =
    omega (
      arith,
      outcome_most o,
      counts_most k,
      length-append (outcome_text o) (counts_text k),
      length-append (outcome_text o ++ counts_text k) (ascii "\n"),
      length-append xs (line (outcome_text o ++ counts_text k)),
    )

verdict_most : (v : Verdict) (a : Answer) → length (of_verdict v (λ _. a)) ≤ 209
verdict_most (accepted n τ N) a = run_most (acceptance_text n τ N) a (acceptance_most n τ N)
verdict_most (rejected c p) a = refusal_most c p

pub text_most : (s : List ℕ) → length (printed s) ≤ 209
unfolding printed
text_most s = verdict_most (verdict s) (program_answer s)
