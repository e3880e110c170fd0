-- What the theorems claim of the interpreter's outcome, counts and stores.
use Rattle.std.specs.Prelude.{Bool, Result, Ok, Err, cond, List, [], ◌∷◌, ◌++◌, ◌≡◌, ℕ, ◌-◌, ◌<◌, ltb, eqb, get_or, length, drop}
use Rattle.std.proofs.Math.Option.{Option, none, some}
use Rattle.program.specs.Layout.{terms, kind_byte}
use Rattle.program.specs.declared.records.Counts.{Counts}
use Rattle.traces.specs.Traces.{Event, recorded}
use Rattle.semantics.specs.Domains.{Domain}
use Rattle.semantics.specs.Values.{ResultOf, Result as Evaluated}
use Rattle.semantics.specs.Access.{Frame}
use Rattle.semantics.specs.Runs.{Request, Buffers, Sizes, sizes, ground_bool, ground_num, OutcomeOf, Outcome, ended, stopped, RunCounts, outcome, left, counts, in_order}
use Rattle.semantics.specs.Recording.{with_entries}
use Rattle.intervals.specs.Intervals.{interval, intervals}
use Rattle.intervals.specs.Pairs.{pair_of}
use Rattle.stores.specs.declared.values.Value.{Value}
use Rattle.stores.specs.declared.values.Stop.{Stop}
use Rattle.stores.specs.declared.values.Value.TheVariants.{Bool as VBool, Num, Fun}
use Rattle.stores.specs.Words.{sort_of, payload_of, env_of, out_by, out_of}
use Rattle.termtable.specs.Table.{word_kind, word_first, word_second, WordOf}
use Rattle.access.specs.declared.Mode.{Mode}
use Rattle.machine.specs.declared.counters.Counters.{Counters}
use Rattle.machine.specs.Steps.{wrapped}
use Rattle.machine.specs.Store.{Store, Done, counters_at_start, store_of}
use Rattle.stores.specs.Stops.{stop_cause, stop_place}

-- 18 also for "a root that gives a function"
abbrev pub outcome_of : (root : ℕ) → Result Value Stop → Outcome
outcome_of r (Ok (VBool b)) = ended (ground_bool b)
outcome_of r (Ok (Num n)) = ended (ground_num n)
outcome_of r (Ok (Fun body env)) = stopped 18 r
outcome_of r (Err x) = stopped (stop_cause x) (stop_place x)

-- what the payload of a boolean's word decides; by 2 nothing
abbrev pub decided_by : (payload : ℕ) → Option Bool
decided_by n = cond (eqb n 2) none (some (ltb 0 n))

-- what the word at the root tells of a run over ranges, by its parts; 02, W14: "An end is a range, or yes, no or undecided"
abbrev pub interval_outcome_in : (root payload env : ℕ) → Result Value Stop → OutcomeOf intervals
interval_outcome_in r n e (Ok (VBool b)) = ended (ground_bool (decided_by n))
interval_outcome_in r n e (Ok (Num m)) = ended (ground_num (interval n e))
interval_outcome_in r n e (Ok (Fun body env)) = stopped 18 r
interval_outcome_in r n e (Err x) = stopped (stop_cause x) (stop_place x)

unfoldable pub interval_outcome_by : (root sort payload env : ℕ) → OutcomeOf intervals
interval_outcome_by r k n e = interval_outcome_in r n e (out_by k n e)

abbrev pub interval_outcome_of : (root word : ℕ) → OutcomeOf intervals
interval_outcome_of r w = interval_outcome_by r (sort_of w) (payload_of w) (env_of w)

-- the words of a sheet's terms, but that those of number terms have the pairs in the place of first and second
pub record IntervalTable (s : List ℕ) (c : Counts) (pairs table : List ℕ) : Type 0 where
  pub others : (t : ℕ) → t < terms s → (kind_byte s t ≡ 1 → ⊥) → WordOf s c t (get_or table t 0)
  pub kind_is : (t : ℕ) → t < terms s → kind_byte s t ≡ 1 → word_kind (get_or table t 0) ≡ 1
  pub lowest_is : (t : ℕ) → t < terms s → kind_byte s t ≡ 1 → word_first (get_or table t 0) ≡ (pair_of s pairs t).low
  pub highest_is : (t : ℕ) → t < terms s → kind_byte s t ≡ 1 → word_second (get_or table t 0) ≡ (pair_of s pairs t).high

-- what was made, of so many calls allowed: the counters hold the calls that are left
abbrev pub run_counts : (calls : ℕ) → Counters → RunCounts
run_counts c n = record { calls = c - n.calls_left; cells = n.cells; posts = n.posts; saturated = n.saturated }

-- the counter of saturated results has 64 bits
abbrev pub wrapped_counts : RunCounts → RunCounts
wrapped_counts k = record { calls = k.calls; cells = k.cells; posts = k.posts; saturated = wrapped k.saturated }

abbrev pub sizes_of : Store → Sizes
sizes_of st = record { cells = length st.cells; posts = length st.posts; frames = length st.frames }

-- a stack as numbers: the set that each frame's principal may use and its enabled set, the outermost first
abbrev pub laid_out : (A : ℕ → ℕ) → List Frame → List ℕ
laid_out A [] = []
laid_out A (f ∷ fs) = laid_out A fs ++ (A f.principal ∷ f.enabled ∷ [])

-- where a run starts, with a record lent
abbrev pub start_of : Mode → Request → Buffers → (noted : List ℕ) → Store
start_of mode q b t = store_of (counters_at_start q.calls mode) b.cells b.posts b.frames t

-- evaluating the root of a sheet gives and leaves what the meaning's result says, and of the decisions what the record takes; `decodes` reads the word that it
-- gives
pub record RefinedBy {D : Domain} (decodes : (root word : ℕ) → OutcomeOf D) (root : ℕ) (q : Request) (b : Buffers) (noted : List ℕ) (d : Done)
    (x : ResultOf D) (decided : List Event) : Type 0 where
  pub same_outcome : decodes root d.out ≡ outcome root x
  pub same_counts : run_counts q.calls d.store.counters ≡ wrapped_counts (counts q (sizes b) (left x))
  pub same_posts : d.store.posts ≡ in_order (left x) ++ drop (length (in_order (left x))) b.posts
  pub same_sizes : sizes_of d.store ≡ sizes b
  pub same_entries : d.store.counters.entries ≡ length (recorded (length noted) decided)
  pub same_noted : d.store.noted ≡ with_entries (recorded (length noted) decided) noted

-- of a plain run
abbrev pub Refined : (root : ℕ) → Request → Buffers → (noted : List ℕ) → Done → Evaluated → (decided : List Event) → Type 0
Refined root q b t d x ds = RefinedBy (λ r w. outcome_of r (out_of w)) root q b t d x ds
