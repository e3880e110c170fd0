-- The lines' state, from the numbers of a list to the struct, and back.
use mathlib.Core.Bool.{cond}
use mathlib.Core.List.{List, [], ◌∷◌, ◌++◌}
use mathlib.Core.Path.{◌≡◌, refl, sym, ap, ◌∙◌}
use Prim.Native.Nat.{ℕ, zero, suc, ◌+◌, ◌-◌, ◌*◌, ◌%◌, ◌/◌, ◌<◌, ◌≤◌, min}
use native.Mathlib.Nat.{add-zero}
use native.Mathlib.Omega.{arith}
use lib.ListN.{length, get_or, take}
use borrow.Author.Tests.{lt-ltb, le-ltb}
use Rattle.queues.specs.Queues as queues
use Rattle.queues.specs.Queues.{max_lines, max_jobs, Lines as LinesOf, queue_at}
use Rattle.queues.specs.Answers.{no_job, job_model, queue_model, lines_model}
use Rattle.queues.specs.declared.state.Queue.{Queue}
use Rattle.queues.specs.Laws.{queue_read_is}
use Rattle.lines.proofs.ListLaws.{take_least}
use Rattle.std.proofs.Common.{length-append}
use Rattle.queues.specs.declared.state.Job.{Job}
use Rattle.queues.specs.declared.state.Lines.{Lines}
use Rattle.capi_lines.specs.States.{state_numbers, max_allowance, job_read, places_read, queue_read, state_read, job_part, job_number, number_at, tabulate, state_written}

-- ---- reading
pub job_read_lem : (n : List ℕ) (at : ℕ) {a : ℕ} → a ≡ min (get_or n (at + 2) 0) max_allowance
    → record { offset = get_or n at 0; length = get_or n (at + 1) 0; calls = a } ≡ job_read n at
job_read_lem n at e = λ i. record { offset = get_or n at 0; length = get_or n (at + 1) 0; calls = e i }

-- the first k jobs of a line are read
module _ (n : List ℕ) (l : ℕ) where
  pub record JobsRead (k : ℕ) (jobs : List queues.Job) : Type 0 where
    pub as_many : length jobs ≡ k
    pub read : jobs ≡ take k (places_read n l)

  next_place : (k : ℕ) → k < max_jobs → take k (places_read n l) ++ (job_read n (6 + 24 * l + 3 * k) ∷ []) ≡ take (suc k) (places_read n l)
  next_place zero h = refl
  next_place (suc zero) h = refl
  next_place (suc (suc zero)) h = refl
  next_place (suc (suc (suc zero))) h = refl
  next_place (suc (suc (suc (suc zero)))) h = refl
  next_place (suc (suc (suc (suc (suc zero))))) h = refl
  next_place (suc (suc (suc (suc (suc (suc zero)))))) h = refl
  next_place (suc (suc (suc (suc (suc (suc (suc zero))))))) h = refl
  next_place (suc (suc (suc (suc (suc (suc (suc (suc k)))))))) h = absurd (omega arith)

  pub job_more : (k : ℕ) → k < max_jobs → (jobs : List queues.Job) → JobsRead k jobs → (j : queues.Job) → j ≡ job_read n (6 + 24 * l + 3 * k)
      → (more : List queues.Job) → more ≡ jobs ++ (j ∷ []) → JobsRead (k + 1) more
  job_more k h jobs p j e more grown = record {
    as_many = ap length grown ∙ length-append jobs (j ∷ []) ∙ ap (λ (m : ℕ). m + 1) p.as_many;
    read =
        let step : suc k ≡ k + 1 = omega arith in
        grown ∙ (λ i. p.read i ++ (e i ∷ [])) ∙ next_place k h ∙ ap (λ (m : ℕ). take m (places_read n l)) step;
  }

  pub queue_read_lem : (k : ℕ) → k ≡ min (get_or n (2 + l) 0) max_jobs → (jobs : List queues.Job) → JobsRead k jobs → jobs ≡ queue_read n l
  queue_read_lem k e jobs p =
      p.read ∙ ap (λ (m : ℕ). take m (places_read n l)) e ∙ take_least (get_or n (2 + l) 0) (places_read n l)

pub state_read_lem : (n : List ℕ) (a b c d : Queue) → queue_model a ≡ queue_read n 0 → queue_model b ≡ queue_read n 1 → queue_model c ≡ queue_read n 2
    → queue_model d ≡ queue_read n 3 → lines_model (record { queues = a ∷ b ∷ c ∷ d ∷ []; turn = get_or n 0 0; place = get_or n 1 0 }) ≡ state_read n
unfolding state_read
state_read_lem n a b c d ea eb ec ed = λ i. record { queues = ea i ∷ eb i ∷ ec i ∷ ed i ∷ []; turn = get_or n 0 0 % max_lines; place = get_or n 1 0 }

-- ---- writing
pub last_part : (j : queues.Job) (k : ℕ) → (k ≡ 0 → ⊥) → (k ≡ 1 → ⊥) → j.calls ≡ job_part k j
last_part j zero h g = absurd (h refl)
last_part j (suc zero) h g = absurd (g refl)
last_part j (suc (suc k)) h g = refl

module _ (q : Lines) where
  abbrev S : LinesOf
  S = lines_model q

  pub job_number_lem : (i : ℕ) → length q.queues ≡ max_lines → i < 96 → (none : Queue) {j : Job} {r : ℕ}
      → job_model j ≡ get_or (queue_model (get_or q.queues (i / 24) none)) (i % 24 / 3) no_job → r ≡ job_part (i % 3) (job_model j) → r ≡ job_number S i
  job_number_lem i four h none e f =
      f ∙ ap (job_part (i % 3))
      (e ∙ ap (λ (js : List queues.Job). get_or js (i % 24 / 3) no_job) (sym (queue_read_is q (i / 24) none (omega (arith, four, h)))))

  pub is_turn : (i : ℕ) → i ≡ 0 → q.turn % max_lines ≡ number_at S i
  is_turn i e = ap (number_at S) (sym e)

  module _ (i : ℕ) (not-turn : i ≡ 0 → ⊥) (not-place : i ≡ 1 → ⊥) where
    abbrev past : (k : ℕ) → ℕ
    past k = cond (lib.Dec.ltb k max_lines) (length (queue_at S k)) (job_number S (k - 4))

    past_two : number_at S i ≡ past (i - 2)
    past_two = go i not-turn not-place
      where
        go : (i : ℕ) → (i ≡ 0 → ⊥) → (i ≡ 1 → ⊥) → number_at S i ≡ past (i - 2)
        go zero h g = absurd (h refl)
        go (suc zero) h g = absurd (g refl)
        go (suc (suc k)) h g = let e : k ≡ suc (suc k) - 2 = omega arith in ap past e

    pub is_count : length q.queues ≡ max_lines → i < 6 → (none : Queue) (n : ℕ) → n ≡ length (queue_model (get_or q.queues (i - 2) none)) → n ≡ number_at S i
    is_count four h none n size =
        size ∙ ap length (sym (queue_read_is q (i - 2) none (omega (arith, four, h))))
        ∙ (λ k. cond (sym (lt-ltb (i - 2) max_lines (omega arith)) k) (length (queue_at S (i - 2))) (job_number S (i - 2 - 4)))
        ∙ sym past_two

    pub is_job : 6 ≤ i → {r : ℕ} → r ≡ job_number S (i - 6) → r ≡ number_at S i
    is_job h e =
        let same : i - 6 ≡ i - 2 - 4 = omega arith in
        e ∙ ap (job_number S) same
        ∙ (λ k. cond (sym (le-ltb (i - 2) max_lines (omega arith)) k) (length (queue_at S (i - 2))) (job_number S (i - 2 - 4)))
        ∙ sym past_two

get_d_tabulate : (f : ℕ → ℕ) (i n k : ℕ) → k < n → get_or (tabulate f i n) k 0 ≡ f (i + k)
get_d_tabulate f i zero k h = absurd (omega arith)
get_d_tabulate f i (suc n) zero h = ap f (sym (add-zero i))
get_d_tabulate f i (suc n) (suc k) h =
    let e : suc i + k ≡ i + suc k = omega arith in
    get_d_tabulate f (suc i) n k (omega arith) ∙ ap f e

pub written_at : (s : LinesOf) (i : ℕ) → i < state_numbers → get_or (state_written s) i 0 ≡ number_at s i
unfolding state_written
written_at s i h = let e : 0 + i ≡ i = omega arith in get_d_tabulate (number_at s) 0 state_numbers i h ∙ ap (number_at s) e
