-- What the contracts of the runners' own functions say. No reader of the public promises needs this file.
use Rattle.std.specs.Prelude.{Bool, true, ◌&&◌, List, [], ◌∷◌, ◌++◌, ◌≡◌, ℕ, ◌-◌, ◌%◌, ◌<◌, ◌≤◌, leb, length, Result, Ok, Err}
use Rattle.program.specs.Limits.{max_start, max_cells, max_posts, max_calls, max_depth}
use Rattle.program.specs.Layout.{principals}
use Rattle.program.specs.Records.{CountsOf, authority_record}
use Rattle.program.specs.Screening.{Condition, clear, found, screen, unless}
use Rattle.program.specs.Decoding.{decoding_conditions}
use Rattle.program.proofs.Laws.Readable.{WellFormed}
use Rattle.program.specs.declared.records.Counts.{Counts}
use Rattle.semantics.specs.Access.{privs}
use Rattle.semantics.specs.Runs.{stack, principals_known, ran, Buffers, stack_ok}
use Rattle.stores.specs.Words.{out_of}
use Rattle.access.specs.declared.Mode.{Mode}
use Rattle.access.specs.Access.{packed}
use Rattle.termtable.specs.Table.{TermWords}
use Rattle.stores.specs.Cells.{zeros_like}
use Rattle.machine.specs.Store.{Done, counters_at_start, store_of, eval_at}
use Rattle.refinement.specs.Claims.{outcome_of, run_counts}
use Rattle.interp.specs.Answers.{refusal_cause, refusal_place, counts_model, run_model}
use Rattle.interp.specs.declared.answer.RunRefusal.{RunRefusal}
use Rattle.interp.specs.declared.answer.RecordedRun.{RecordedRun}
use Rattle.interp.specs.declared.answer.Tally.{Tally}

-- ---- the start stack
-- at most 16 frames, none of them half
pub record Whole (start : List ℕ) : Type 0 where
  pub few : length start ≤ max_start
  pub even : length start % 2 ≡ 0

-- and a frame store that has room for them
pub record StackFits (start frames : List ℕ) : Type 0 where
  pub whole : Whole start
  pub room : max_start ≤ length frames

-- what an eager run holds at its start
pub record StartAccess (s start : List ℕ) (access : ℕ) : Type 0 where
  pub authorised : ℕ
  pub granted : ℕ
  pub access_is : access ≡ packed authorised granted
  pub authorised_small : authorised < 4294967296
  pub authorised_is : authorised ≡ authority_record s 0
  pub granted_is : granted ≡ privs (authority_record s) (stack start)

-- ---- admission
-- the conditions of a run by what they depend on; whether the frame store is right is a test of its own
abbrev pub conditions : (s start : List ℕ) (cells posts : ℕ) (frames : Bool) (calls depth : ℕ) → List Condition
conditions s start cells posts frames calls depth =
    decoding_conditions s ++ unless 14 (stack_ok (principals s) start) ∷ unless 15 (leb cells max_cells && leb posts max_posts && frames)
    ∷ unless 16 (leb calls max_calls && leb depth max_depth) ∷ []

pub record Cleared (s start : List ℕ) (cells posts : ℕ) (frames : Bool) (calls depth : ℕ) (c : Counts) : Type 0 where
  pub none_found : screen (conditions s start cells posts frames calls depth) ≡ clear
  pub well_formed : WellFormed s
  pub counts : CountsOf s c
  pub whole : Whole start
  pub all_known : principals_known (principals s) (stack start) ≡ true
  pub cells_most : cells ≤ max_cells
  pub frames_right : frames ≡ true
  pub depth_most : depth ≤ max_depth

abbrev pub Admits : (s start : List ℕ) (cells posts : ℕ) (frames : Bool) (calls depth : ℕ) → Result Counts RunRefusal → Type 0
Admits s start cells posts frames calls depth (Ok c) = Cleared s start cells posts frames calls depth c
Admits s start cells posts frames calls depth (Err f) =
    screen (conditions s start cells posts frames calls depth) ≡ found (refusal_cause f) (refusal_place f)

-- ---- evaluation
-- what the interpreter comes to at the root, with the terms' words in `terms` and a record lent
abbrev pub root_done : (terms : List ℕ) (root : ℕ) → Mode → (access calls depth : ℕ) → Buffers → (noted : List ℕ) → Done
root_done terms root mode access calls depth b t =
    eval_at terms depth root 0 access (store_of (counters_at_start calls mode) b.cells b.posts b.frames t)

-- word, counts and entries from what it comes to, and the stores: cells cleared, posts, frames and record as it leaves them
pub record Tallied (calls : ℕ) (d : Done) (r : Tally) (b : Buffers) (noted : List ℕ) : Type 0 where
  pub word_is : r.word ≡ d.out
  pub made_is : counts_model r.made ≡ run_counts calls d.store.counters
  pub entries_are : r.entries ≡ d.store.counters.entries
  pub cells_are : b.cells ≡ zeros_like d.store.cells
  pub posts_are : b.posts ≡ d.store.posts
  pub frames_are : b.frames ≡ d.store.frames
  pub noted_is : noted ≡ d.store.noted

-- the words of a sheet's terms, a tally of the root, and the answer from it
pub record RootEvaluated (s : List ℕ) (c : Counts) (mode : Mode) (access calls depth : ℕ) (b : Buffers) (t : List ℕ) (r : RecordedRun) (b' : Buffers)
    (t' : List ℕ) : Type 0 where
  pub terms : List ℕ
  pub table : TermWords s c terms
  pub tally : Tally
  pub tallied : Tallied calls (root_done terms (c.terms - 1) mode access calls depth b t) tally b' t'
  pub answer_is : run_model (Ok r.ran) ≡ ran (outcome_of (c.terms - 1) (out_of tally.word)) (counts_model tally.made)
  pub entries_are : r.entries ≡ tally.entries
