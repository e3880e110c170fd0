-- Runs, from the promises of the decoder and of the eager runner to that of a job's run.
use mathlib.Core.List.{List, [], ◌++◌, append-nil}
use mathlib.Core.Path.{◌≡◌, ap, ◌∙◌}
use Prim.Native.Nat.{ℕ, ◌+◌, ◌-◌, min}
use native.Mathlib.Omega.{arith}
use lib.Dec.{eqb}
use lib.ListN.{length, take, drop, length-drop, drop_of_length-le}
use lib.Seq.{take_all}
use Rattle.program.specs.Limits.{max_cells}
use Rattle.interp.specs.Answers.{buffers_of, after, empty_stack_request, Run}
use Rattle.largest.specs.Largest.{largest_run}
use Rattle.queues.specs.Queues.{Job, job_sheet}
use Rattle.lines.specs.Serving.{behind, job_run}
use Rattle.lines.proofs.ListLaws.{take_least, drop_least}

-- ---- the run of a job: a part of the store, and the list of posts from the place on
module _ (job : Job) (place : ℕ) (store cells posts : List ℕ) (at : ℕ) (lower : at ≡ min place (length posts)) where
  abbrev rest_posts : List ℕ
  rest_posts = take (length posts - at) (drop at posts)

  pub part_is : take (job.offset + job.length - job.offset) (drop job.offset store) ≡ job_sheet job store
  part_is = let e : job.offset + job.length - job.offset ≡ job.length = omega arith in ap (λ (n : ℕ). take n (drop job.offset store)) e

  pub rest_is : rest_posts ≡ drop place posts
  rest_is = take_all (length posts - at) (drop at posts) (omega (arith, length-drop at posts)) ∙ ap (λ (n : ℕ). drop n posts) lower ∙ drop_least place posts

  pub back_is : (ys : List ℕ) → take at posts ++ (ys ++ drop (length posts - at) (drop at posts)) ≡ take place posts ++ ys
  back_is ys =
      (λ i. take (lower i) posts ++ (ys ++ drop_of_length-le (drop at posts) {i = length posts - at} (omega (arith, length-drop at posts)) i))
      ∙ (λ i. take_least place posts i ++ append-nil ys i)

  pub job_run_lem : (r : Run) (cells' ys : List ℕ)
      → after r cells' ys [] ≡ largest_run (eqb (length cells) max_cells) (take (job.offset + job.length - job.offset) (drop job.offset store))
      (empty_stack_request job.calls) (buffers_of cells rest_posts [])
      → after r cells' (take at posts ++ (ys ++ drop (length posts - at) (drop at posts))) [] ≡ job_run job place store (buffers_of cells posts [])
  job_run_lem r cells' ys e =
      (λ i. after r cells' (back_is ys i) [])
      ∙ ap (behind place (buffers_of cells posts []))
      (e ∙ (λ i. largest_run (eqb (length cells) max_cells) (part_is i) (empty_stack_request job.calls) (buffers_of cells (rest_is i) [])))
