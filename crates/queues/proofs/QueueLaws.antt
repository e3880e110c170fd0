-- One line's queue, from its places to the list of jobs that it stands for.
use mathlib.Core.Bool.{true, true≢false}
use mathlib.Core.List.{List, [], ◌∷◌, ◌++◌, map}
use mathlib.Core.Path.{◌≡◌, sym, ap, ◌∙◌}
use Prim.Native.Nat.{ℕ, suc, ◌+◌, ◌-◌, ◌<◌, ◌≤◌}
use native.Mathlib.Omega.{arith}
use lib.ListN.{length, take, drop, get_or, set, length-map, length-drop}
use lib.Seq.{take_at, length-take-le, get_or-drop}
use native.Mathlib.Nat.{add_comm}
use Rattle.queues.specs.Queues as queues
use Rattle.queues.specs.Queues.{max_jobs}
use Rattle.queues.specs.Answers.{job_model, queue_model}
use Rattle.queues.specs.Internal.{has_job, SizeIs}
use Rattle.queues.specs.declared.state.Job.{Job}
use Rattle.queues.specs.declared.state.Queue.{Queue}
use Rattle.program.proofs.Laws.Lists.{copied_more}
use Rattle.queues.proofs.ListLaws.{take_held}

pub some_job : (js : List queues.Job) → has_job js ≡ true → 0 < length js
some_job [] e = absurd (true≢false (sym e))
some_job (j ∷ js) e = omega arith

-- of the places up to the last in use the first i hold the jobs behind them, and all others are as they were
pub record MovedUp (jobs : List Job) (last i : ℕ) (rest : List Job) : Type 0 where
  pub below : i ≤ last
  pub moved : rest ≡ take i (drop 1 jobs) ++ drop i jobs

-- one job less: the others have moved up, as many as there are
module _ (q : Queue) (n : ℕ) (size : SizeIs q n) where
  same_front : take q.count q.jobs ≡ take n q.jobs
  same_front = take_held q.count q.jobs ∙ ap (λ (k : ℕ). take k q.jobs) (sym (size.size_is ∙ length-map (take q.count q.jobs) job_model))

  pub one_less : (i : ℕ) {rest : List Job} → length q.jobs ≡ max_jobs → has_job (queue_model q) ≡ true → MovedUp q.jobs (n - 1) i rest → n - 1 ≤ i
      → (none : Job) → queue_model q ≡ job_model (get_or q.jobs 0 none) ∷ map job_model (take (n - 1) rest)
  one_less i {rest = rest} eight some m g none = ap (map job_model) (same_front ∙ go q.jobs eight m.moved)
    where
      at_least : 1 ≤ n
      at_least = omega (arith, some_job (queue_model q) some, size.size_is)

      go : (jobs : List Job) → length jobs ≡ max_jobs → rest ≡ take i (drop 1 jobs) ++ drop i jobs → take n jobs ≡ get_or jobs 0 none ∷ take (n - 1) rest
      go [] l f = absurd (omega arith)
      go (x ∷ xs) l f =
          let last : n ≡ suc i = omega (arith, at_least, m.below) in
          let before : n - 1 ≡ i = omega (arith, m.below) in
          ap (λ (k : ℕ). take k (x ∷ xs)) last
          ∙ ap (λ (r : List Job). x ∷ r)
          (sym ((λ k. take (before k) (f k)) ∙ take_at (take i xs) (drop i (x ∷ xs)) i (length-take-le i xs (omega (arith, size.most)))))

pub moved_more : (jobs : List Job) (i : ℕ) {rest : List Job} → length jobs ≡ max_jobs → i + 1 < max_jobs
    → rest ≡ take i (drop 1 jobs) ++ drop i jobs → (d : Job)
    → set rest i (get_or jobs (i + 1) d) ≡ take (i + 1) (drop 1 jobs) ++ drop (i + 1) jobs
moved_more jobs i {rest = rest} eight h e d =
    let next : get_or jobs (i + 1) d ≡ get_or (drop 1 jobs) i d = ap (λ (k : ℕ). get_or jobs k d) (add_comm i 1) ∙ sym (get_or-drop 1 jobs i d) in
    ap (set rest i) next ∙ copied_more (drop 1 jobs) jobs rest i d (omega (arith, length-drop 1 jobs)) (omega arith) e
