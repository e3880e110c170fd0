-- What is known of a run whose conditions are clear: its sheet is readable and its calls and buffers are within the limits. And what an evaluation, over
-- any domain, leaves: every buffer keeps its length, and the counts are few.
use Rattle.std.specs.Prelude.{true, ◌&&◌, List, ◌++◌, reverse, ◌≡◌, refl, ℕ, ◌+◌, ◌*◌, ◌≤◌, leb, length, drop}
use Rattle.std.proofs.Common.{ap, ◌∙◌, arith, length-append, length-drop, leb-true}
use Rattle.std.proofs.lemmas.List.{length-replicate, length-reverse}
use Rattle.program.specs.Limits.{max_terms, max_cells, max_posts, max_calls, max_depth}
use Rattle.privileges.specs.Booleans.{and_left, and_right}
use Rattle.program.specs.Layout.{authority}
use Rattle.program.specs.Terms.{program}
use Rattle.program.specs.Screening.{Screening, clear, found, screen}
use Rattle.program.specs.Decoding.{decoding_conditions, decoding}
use Rattle.program.proofs.Laws.Screening.{clear_none, none_clear, none_append, none_cons, unless_none}
use Rattle.program.proofs.Laws.Readable.{WellFormed, well_formed}
use Rattle.semantics.specs.Domains.{Domain, Interpretation}
use Rattle.semantics.specs.Values.{empty, Budget, budget, ResultOf}
use Rattle.semantics.specs.Meaning.{Mode}
use Rattle.semantics.specs.Access.{privs, lazy_control, rights, eager_control}
use Rattle.semantics.specs.Runs.{Runner, eager, lazy, Request, Buffers, Sizes, sizes, stack, frames_ok, run_conditions, initial, evaluation_over, settled, RunCounts, AnswerOf, refused, ran, left, counts, in_order, cleared_frames, buffers_after}
use Rattle.semantics.specs.Claims.{Few}
use Rattle.semantics.proofs.Laws.Budgets.{places, Spent, spends}
use Rattle.semantics.proofs.Laws.Saturation.{saturated_in}

-- ---- where the conditions of a run are clear
module _ (s : List ℕ) (q : Request) (b : Buffers) (e : screen (run_conditions s q (sizes b)) ≡ clear) where
  pub clear_well : WellFormed s
  unfolding decoding
  clear_well = well_formed s (none_clear (none_append (decoding_conditions s) _ (clear_none (run_conditions s q (sizes b)) e)).0)

  pub clear_calls : q.calls ≤ max_calls
  clear_calls =
      let callers = (none_append (decoding_conditions s) _ (clear_none (run_conditions s q (sizes b)) e)).1 in
      let within : (leb q.calls max_calls && leb q.depth max_depth) ≡ true = unless_none 16 _ (none_cons (none_cons (none_cons callers).1).1).0 in
      leb-true q.calls max_calls (search (within, and_left))

-- ---- what an evaluation leaves of its budget, and a run of its buffers
pub evaluation_spends : (I : Interpretation) (M : Mode) (r : Runner) (s : List ℕ) (q : Request) (z : Sizes)
    → Spent (initial q z) (left (evaluation_over I M r s q z))
evaluation_spends I M eager s q z =
    spends I (eager_control (authority s)) M q.depth (program s) (rights 0 (privs (authority s) (stack q.start))) empty (initial q z)
evaluation_spends I M lazy s q z = spends I (lazy_control (authority s)) M q.depth (program s) (stack q.start) empty (initial q z)

frames_length : (r : Runner) (fs : List ℕ) → length (cleared_frames r fs) ≡ length fs
frames_length eager fs = refl
frames_length lazy fs = length-replicate {A = ℕ} (length fs) 0

posts_length : (u : Budget) (ps : List ℕ) → places u ≡ length ps + 0 → length (in_order u ++ drop (length (in_order u)) ps) ≡ length ps
posts_length (budget c d r l) ps e =
    let qs = l.posts in
    length-append (reverse qs) _ ∙ ap (λ (n : ℕ). length (reverse qs) + n) (length-drop (length (reverse qs)) ps)
    ∙ omega (arith, length-reverse qs)

pub after_sizes : {D : Domain} (q : Request) (b : Buffers) (x : Screening) (y : ResultOf D) → Spent (initial q (sizes b)) (left y)
    → sizes (buffers_after q.runner b (settled x (λ _. y))) ≡ sizes b
after_sizes q b (found c p) y h = refl
after_sizes q b clear y h = λ i. record {
  cells = length-replicate {A = ℕ} (length b.cells) 0 i;
  posts = posts_length (left y) b.posts h.posts i;
  frames = frames_length q.runner b.frames i;
}

few : (q : Request) (z : Sizes) (u : Budget) → q.calls ≤ max_calls → z.cells ≤ max_cells → z.posts ≤ max_posts → Spent (initial q z) u
    → saturated_in u ≤ q.calls * max_terms + max_terms → Few (counts q z u)
few q z (budget c d r l) calls cells posts h n = record {
  calls_most = omega (arith, calls);
  cells_most = omega (arith, cells);
  posts_most = omega (arith, posts, h.posts);
  saturated_most = omega (arith, calls, n);
}

-- of a run that starts
pub clear_few : (s : List ℕ) (q : Request) (b : Buffers) → screen (run_conditions s q (sizes b)) ≡ clear → (u : Budget) → Spent (initial q (sizes b)) u
    → saturated_in u ≤ q.calls * max_terms + max_terms → Few (counts q (sizes b) u)
clear_few s q b e u h n =
    let callers = (none_append (decoding_conditions s) _ (clear_none (run_conditions s q (sizes b)) e)).1 in
    let fits : (leb (length b.cells) max_cells && leb (length b.posts) max_posts && frames_ok q.runner (length b.frames))
    ≡ true = unless_none 15 _ (none_cons (none_cons callers).1).0 in
    few q (sizes b) u (clear_calls s q b e) (leb-true (length b.cells) max_cells (search (fits, and_left, and_right)))
    (leb-true (length b.posts) max_posts (search (fits, and_left, and_right))) h n

-- the counts of an answer that has some
abbrev pub counts_in : {D : Domain} → RunCounts → AnswerOf D → RunCounts
counts_in k (refused c p) = k
counts_in k (ran o k') = k'
