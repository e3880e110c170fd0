-- Demand 3 of the definitions, and that a privilege plays no part, taken to the answers of two runs whose promises are the definitions.
use mathlib.Core.Bool.{Bool, true, false}
use mathlib.Core.List.{List, []}
use mathlib.Core.Path.{◌≡◌, refl, sym, ap, ◌∙◌, subst, subst₂}
use Prim.Native.Nat.{ℕ}
use Rattle.std.specs.Prelude.{Result}
use lib.ListN.{length}
use Rattle.std.specs.Prelude.{Option, Result}
use Rattle.typing.specs.Verdicts.{verdict}
use Rattle.typing.specs.Answers.{verdict_model}
use Rattle.typing.specs.declared.answer.Accepted.{Accepted}
use Rattle.typing.specs.declared.answer.Rejection.{Rejection}
use Rattle.semantics.specs.Values.{Budget, budget}
use Rattle.semantics.specs.Runs.{eager, Request, Buffers, sizes, Course, rejected, started, course, Answer, ran, refused, outcome, left, counts, answer_of, buffers_after, After, run}
use Rattle.semantics.proofs.Theorems.{Starts, run_course}
use Rattle.program.specs.Layout.{root}
use Rattle.soundness.specs.Claims.{SameRun, Proper}
use Rattle.soundness.specs.Theorems.{demand_3}
use Rattle.irrelevance.specs.Naming.{naming}
use Rattle.irrelevance.specs.Answers.{named_model}
use Rattle.irrelevance.proofs.Theorems.{plays_no_part, unnamed_exactly}
use Rattle.irrelevance.specs.declared.answer.NamingRefusal.{NamingRefusal}
use Rattle.interp.specs.Answers.{run_model, request_of, buffers_of, after, Run}
use Rattle.agreement.specs.Runners.{runner_of}
use Rattle.agreement.specs.Agreement.{NotRefused, Agreement, Irrelevance}

-- a run that is not refused starts
starts : (s : List ℕ) (q : Request) (b : Buffers) {a : After} → a ≡ run s q b → NotRefused a.answer → Starts s q b
starts s q b {a = a} e n = go a.answer refl n
  where
    go : (z : Answer) → a.answer ≡ z → NotRefused z → Starts s q b
    go (refused cause place) h n = elim n [ ]
    go (ran o k) h n = (o, k, ap (λ (x : After). x.answer) (sym e) ∙ h)

pub agreed : (s start : List ℕ) (calls depth : ℕ) (first second : Bool) (cells posts frames cells' posts' frames' : List ℕ)
    {v : Result Accepted Rejection} {a b : After}
    → verdict_model v ≡ verdict s
    → a ≡ run s (request_of (runner_of first) true start calls depth) (buffers_of cells posts frames)
    → b ≡ run s (request_of (runner_of second) false start calls depth) (buffers_of cells' posts' frames')
    → length cells ≡ length cells' → length posts ≡ length posts' → Agreement s start v a b
agreed s start calls depth first second cells posts frames cells' posts' frames' e p q c l = record {
  demand_3 = λ n τ N h g x y.
      let X = request_of (runner_of first) true start calls depth in
      let Y = request_of (runner_of second) false start calls depth in
      let B = buffers_of cells posts frames in
      let D = buffers_of cells' posts' frames' in
      subst₂ (λ (a b : After). SameRun a b × Proper τ a.answer) (sym p) (sym q)
      (demand_3 s n τ N X Y B D (sym e ∙ h)
      record {
        comparable = record {
          same_start = refl;
          limits = record { same_calls = refl; same_depth = refl; same_cells = c; same_posts = l };
        };
        enforced = refl;
        skipped = refl;
        first_starts = starts s X B p x;
        second_starts = starts s Y D q y;
      }
      g);
}

pub alike : (s : List ℕ) (p calls depth : ℕ) (start : List ℕ) (first : Bool) (cells posts frames start' : List ℕ) (second : Bool)
    (cells' posts' frames' : List ℕ) {n : Result (Option ℕ) NamingRefusal} {a b : After}
    → named_model n ≡ naming s p
    → a ≡ run s (request_of (runner_of first) true start calls depth) (buffers_of cells posts frames)
    → b ≡ run s (request_of (runner_of second) true start' calls depth) (buffers_of cells' posts' frames')
    → length cells ≡ length cells' → length posts ≡ length posts' → Irrelevance s p start start' n a b
alike s p calls depth start first cells posts frames start' second cells' posts' frames' e h g c l = record {
  plays_no_part = λ m d x y.
      let X = request_of (runner_of first) true start calls depth in
      let Y = request_of (runner_of second) true start' calls depth in
      let B = buffers_of cells posts frames in
      let D = buffers_of cells' posts' frames' in
      subst₂ SameRun (sym h) (sym g)
      (plays_no_part s p X Y B D ((unnamed_exactly s p).0 (sym e ∙ m)).1
      record {
        limits = record { same_calls = refl; same_depth = refl; same_cells = c; same_posts = l };
        differ = d;
        first_enforced = refl;
        second_enforced = refl;
        first_starts = starts s X B h x;
        second_starts = starts s Y D g y;
      });
}

-- ---- one run, by the runner that is asked for
module _ (s start : List ℕ) (e : Bool) (calls depth : ℕ) (cells posts frames : List ℕ) where
  abbrev Q : Request
  Q = request_of eager e start calls depth

  -- an eager run takes the same course whatever the frame store, which it leaves as it is
  same_course : course s Q (sizes (buffers_of cells posts frames)) ≡ course s Q (sizes (buffers_of cells posts []))
  unfolding course
  same_course = refl

  abbrev whole : Answer → Buffers → After
  whole a b = record { answer = a; buffers = b }

  same_counts_made : (u : Budget) → counts Q (sizes (buffers_of cells posts [])) u ≡ counts Q (sizes (buffers_of cells posts frames)) u
  same_counts_made (budget c d r log) = refl

  kept_frames : (x : Course) (a : Answer) (cells' posts' : List ℕ)
      → whole a (buffers_of cells' posts' []) ≡ whole (answer_of (root s) Q (sizes (buffers_of cells posts [])) x)
      (buffers_after eager (buffers_of cells posts []) x)
      → whole a (buffers_of cells' posts' frames) ≡ whole (answer_of (root s) Q (sizes (buffers_of cells posts frames)) x)
      (buffers_after eager (buffers_of cells posts frames) x)
  kept_frames (rejected c p) a cells' posts' h = λ i. whole (h i).answer (buffers_of (h i).buffers.cells (h i).buffers.posts frames)
  kept_frames (started x) a cells' posts' h = λ i.
      whole ((ap (λ (z : After). z.answer) h ∙ ap (ran (outcome (root s) x)) (same_counts_made (left x))) i)
      (buffers_of (h i).buffers.cells (h i).buffers.posts frames)

  pub by_eager : (r : Run) {cells' posts' : List ℕ} → after r cells' posts' [] ≡ run s Q (buffers_of cells posts []) → after r cells' posts' frames
      ≡ run s Q (buffers_of cells posts frames)
  by_eager r {cells' = cells'} {posts' = posts'} h =
      kept_frames (course s Q (sizes (buffers_of cells posts []))) (run_model r) cells' posts' (h ∙ run_course s Q (buffers_of cells posts []) _ refl)
      ∙ sym (run_course s Q (buffers_of cells posts frames) _ same_course)

  module _ (r : Run) (cells' posts' frames' : List ℕ) where
    abbrev BothAnswers : Bool → Type 0
    BothAnswers l = after r cells' posts' frames' ≡ run s (request_of (runner_of l) e start calls depth) (buffers_of cells posts frames)

    pub by_either : {isLazy : Bool} (l : Bool) → isLazy ≡ l → BothAnswers l → BothAnswers isLazy
    by_either l h p = subst BothAnswers (sym h) p
