-- The refinement: on a readable sheet, with the words of its terms, the store-level interpreter computes the meaning, over plain numbers or over ranges as its
-- mode says. Claims.antt says what the words mean.
use Rattle.std.specs.Prelude.{true, false, List, ◌++◌, ◌≡◌, ℕ, ◌*◌, ◌<◌, ◌≤◌, length}
use Rattle.std.proofs.Common.{sym, subst, arith}
use Rattle.program.specs.Limits.{max_depth, max_cells, max_start_frames, frame_numbers}
use Rattle.program.specs.Layout.{authority, root}
use Rattle.program.specs.Terms.{program}
use Rattle.program.specs.Records.{CountsOf}
use Rattle.program.proofs.Laws.Readable.{WellFormed}
use Rattle.program.specs.declared.records.Counts.{Counts}
use Rattle.semantics.specs.Domains.{Interpretation, standard}
use Rattle.semantics.specs.Values.{empty}
use Rattle.semantics.specs.Meaning.{plain, traced, eval}
use Rattle.semantics.specs.Access.{Frame, lazy_control, rights, eager_control}
use Rattle.semantics.specs.Runs.{Request, Buffers, sizes, initial, left}
use Rattle.semantics.specs.Recording.{decided_in}
use Rattle.intervals.specs.Pairs.{over_intervals}
use Rattle.termtable.specs.Table.{TermWords}
use Rattle.access.specs.declared.Mode.{Mode}
use Rattle.access.specs.Access.{packed}
use Rattle.machine.specs.Store.{eval_at}
use Rattle.refinement.specs.Claims.{IntervalTable, interval_outcome_of, laid_out, start_of, RefinedBy, Refined}
use Rattle.refinement.proofs.Laws.Exact.{exact_coding, exact_decoding, exact_tabled}
use Rattle.refinement.proofs.Laws.Intervals.{interval_coding, interval_decoding, interval_tabled}
use Rattle.refinement.proofs.Laws.Controls.{Frames, LazyMode, lazy_models}
use Rattle.refinement.proofs.Laws.Trees.{fixed_of}
use Rattle.refinement.proofs.Laws.Runs.{laid_frames, refined, refined_eagerly}

-- Whatever the buffers and the record hold, with at most 100 open calls and 65,536 bytes of cells, checks in force or passed over: the result is that of the
-- plain evaluation, and the record takes what fits of the list of the evaluation that traces.
module _ (s : List ℕ) (w : WellFormed s) (c : Counts) (h : CountsOf s c) (terms : List ℕ) (table : TermWords s c terms) (q : Request) (b : Buffers)
    (t : List ℕ) (few : q.depth ≤ max_depth) (most : length b.cells ≤ max_cells) (mode : Mode) (checks : mode.enforce ≡ q.enforce)
    (numbers : mode.intervals ≡ false) where
  -- an eager run, that holds any set, with any frame store
  pub eager_refined : (authorised P : ℕ) → mode.lazy ≡ false → authorised < 4294967296 → authorised ≡ authority s 0
      → Refined (root s) q b t (eval_at terms q.depth (root s) 0 (packed authorised P) (start_of mode q b t))
      (eval standard (eager_control (authority s)) (plain q.enforce) q.depth (program s) (rights 0 P) empty (initial q (sizes b)))
      (decided_in (left (eval standard (eager_control (authority s)) (traced q.enforce) q.depth (program s) (rights 0 P) empty (initial q (sizes b)))))
  eager_refined authorised P style i e =
      refined_eagerly standard (exact_coding mode numbers) (exact_decoding mode numbers) s w c h terms (exact_tabled mode numbers s w c h terms table) q b t
      few most authorised P checks style i e

  -- A lazy run, on any stack of at most 16 frames that lies in a frame store of 6,496 numbers. The store never overflows.
  pub lazy_refined : mode.lazy ≡ true → (fs : List Frame) (rest : List ℕ) → length fs ≤ max_start_frames → b.frames ≡ laid_out (authority s) fs ++ rest
      → length b.frames ≡ frame_numbers
      → Refined (root s) q b t (eval_at terms q.depth (root s) 0 (length fs * 2) (start_of mode q b t))
      (eval standard (lazy_control (authority s)) (plain q.enforce) q.depth (program s) fs empty (initial q (sizes b)))
      (decided_in (left (eval standard (lazy_control (authority s)) (traced q.enforce) q.depth (program s) fs empty (initial q (sizes b)))))
  lazy_refined style fs rest l e long =
      refined standard (exact_coding mode numbers) (exact_decoding mode numbers) s w c h terms (exact_tabled mode numbers s w c h terms table) q b t few most
      (lazy_control (authority s)) (LazyMode (authority s))
      (lazy_models (fixed_of standard (exact_coding mode numbers) s terms b.posts t) style q.enforce checks) (length fs * 2) (length fs) fs l
      record { used = omega arith; long = long; frames = subst (λ f. Frames (authority s) f (length fs) fs) (sym e) (laid_frames (authority s) fs rest) }

-- The same of an eager run over ranges, with the pairs in the words of the number terms: the result is that of the evaluation over ranges.
module _ (s : List ℕ) (w : WellFormed s) (c : Counts) (h : CountsOf s c) (pairs terms : List ℕ) (table : IntervalTable s c pairs terms) (q : Request)
    (b : Buffers) (t : List ℕ) (few : q.depth ≤ max_depth) (most : length b.cells ≤ max_cells) (mode : Mode) (checks : mode.enforce ≡ q.enforce)
    (is-interval : mode.intervals ≡ true) where
  abbrev over : Interpretation
  over = over_intervals s pairs

  pub interval_refined : (authorised P : ℕ) → mode.lazy ≡ false → authorised < 4294967296 → authorised ≡ authority s 0
      → RefinedBy interval_outcome_of (root s) q b t (eval_at terms q.depth (root s) 0 (packed authorised P) (start_of mode q b t))
      (eval over (eager_control (authority s)) (plain q.enforce) q.depth (program s) (rights 0 P) empty (initial q (sizes b)))
      (decided_in (left (eval over (eager_control (authority s)) (traced q.enforce) q.depth (program s) (rights 0 P) empty (initial q (sizes b)))))
  interval_refined authorised P style i e =
      refined_eagerly over (interval_coding mode is-interval) (interval_decoding mode is-interval) s w c h terms
      (interval_tabled mode is-interval table) q b t few most authorised P checks
      style i e
