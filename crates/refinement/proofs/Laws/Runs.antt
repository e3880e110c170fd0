-- From the relation to what a run tells and leaves.
use Rattle.std.specs.Prelude.{◌≡◌, refl, false, ℕ, suc, ◌+◌, ◌*◌, ◌/◌, ◌-◌, ◌<◌, ◌≤◌, get_or, set, drop}
use Rattle.std.proofs.Math.Path.{sym, subst}
use Rattle.std.proofs.Common.{ap, ◌∙◌, arith, length-append, drop-cons, get_or-append-add}
use mathlib.Core.List.{List, [], ◌∷◌, ◌++◌, reverse, reverse_aux-eq, append_assoc}
use Rattle.std.proofs.Math.ListN.{length}
use Rattle.std.proofs.lemmas.List.{length-reverse, set_at, get_or_at}
use Rattle.std.proofs.Math.Seq.{take-nil}
use Rattle.program.specs.Limits.{max_depth, max_cells, max_start_frames}
use Rattle.program.specs.Layout.{authority, root}
use Rattle.program.specs.Terms.{program}
use Rattle.program.specs.Records.{CountsOf}
use Rattle.program.proofs.Laws.Readable.{WellFormed}
use Rattle.program.proofs.Laws.Trees.{root_lower}
use Rattle.program.proofs.Laws.Nesting.{program_height}
use Rattle.program.specs.declared.records.Counts.{Counts}
use Rattle.traces.specs.Traces.{Event, trace_bytes, recorded}
use Rattle.semantics.specs.Domains.{Interpretation}
use Rattle.semantics.specs.Values.{empty, Budget, ResultOf, ends, stops}
use Rattle.semantics.specs.Meaning.{Control, plain, traced, eval}
use Rattle.semantics.specs.Access.{Frame, rights, eager_control}
use Rattle.semantics.specs.Runs.{Request, Buffers, sizes, OutcomeOf, initial, outcome, left, counts, in_order}
use Rattle.semantics.specs.Recording.{decided_in, with_entries}
use Rattle.semantics.proofs.Laws.Tracing.{forget, forgets, outcome_forgotten, counts_forgotten, posts_forgotten}
use Rattle.stores.specs.Words.{stop_word}
use Rattle.access.specs.declared.Mode.{Mode}
use Rattle.access.specs.Access.{packed}
use Rattle.machine.specs.Steps.{wrapped}
use Rattle.machine.specs.Store.{Store, Done, counters_at_start, done_of, eval_at}
use Rattle.stores.specs.Stops.{stop_cause, stop_place}
use Rattle.refinement.specs.Claims.{run_counts, wrapped_counts, sizes_of, laid_out, start_of, RefinedBy}
use Rattle.refinement.proofs.Laws.Codings.{Coding, Decoding}
use Rattle.refinement.proofs.Laws.Relation.{Fixed, ValueIn, posts_written, length_written, Balances, balance, Later, stop_word_lem, Rep, rep_bool, rep_num, rep_fun, rep_rec, env_none, Meets, valued, halted}
use Rattle.refinement.proofs.Laws.Steps.{Models}
use Rattle.refinement.proofs.Laws.Simulation.{eval_does}
use Rattle.refinement.proofs.Laws.Controls.{EagerMode, pair_mode, eager_models, Frames, no_frames, a_frame}
use Rattle.refinement.proofs.Laws.Trees.{fixed_of, Tabled, program_stands}

-- ---- the posts, written over the front of the list
written_is : (l ps : List ℕ) → length ps ≤ length l → posts_written l ps ≡ reverse ps ++ drop (length ps) l
written_is l [] h = refl
written_is l (p ∷ ps) h =
    (λ i. set (written_is l ps (omega arith) i) (length ps) p)
    ∙ (λ i. set (reverse ps ++ drop-cons l (length ps) 0 h i) (length ps) p)
    ∙ set_at (reverse ps) (get_or l (length ps) 0) (drop (suc (length ps)) l) p (length ps) (length-reverse ps)
    ∙ sym (reverse_aux-eq ps (p ∷ drop (suc (length ps)) l)) ∙ reverse_aux-eq (p ∷ ps) (drop (suc (length ps)) l)

-- ---- the start frames in the list
module _ (A : ℕ → ℕ) where
  length_laid : (fs : List Frame) → length (laid_out A fs) ≡ length fs * 2
  length_laid [] = refl
  length_laid (f ∷ fs) = length-append (laid_out A fs) (A f.principal ∷ f.enabled ∷ []) ∙ omega (arith, length_laid fs)

  pub laid_frames : (fs : List Frame) (rest : List ℕ) → Frames A (laid_out A fs ++ rest) (length fs) fs
  laid_frames [] rest = no_frames
  laid_frames (f ∷ fs) rest =
      let behind : List ℕ = A f.principal ∷ f.enabled ∷ rest in
      subst (λ l. Frames A l (suc (length fs)) (f ∷ fs)) (sym (append_assoc (laid_out A fs) (A f.principal ∷ f.enabled ∷ []) rest))
      (a_frame (get_or_at (laid_out A fs) (A f.principal) (f.enabled ∷ rest) 0 (length fs * 2) (length_laid fs))
      (ap (λ (n : ℕ). get_or (laid_out A fs ++ behind) n 0) {x = length fs * 2 + 1} {y = length (laid_out A fs) + 1} (omega (arith, length_laid fs))
      ∙ get_or-append-add (laid_out A fs) behind 1 0)
      (laid_frames fs behind))

-- ---- what a word tells
module _ (z : Fixed) {decodes : (root word : ℕ) → OutcomeOf z.interpretation.domain} (T : Decoding z.coding decodes) (n : ℕ) where
  value_outcome : {l : List ℕ} {m w : ℕ} {x : ValueIn z} (o : Budget) → Rep z l m w x → decodes n w ≡ outcome n (ends x o)
  value_outcome o (rep_bool h) = T.decodes_truth n h
  value_outcome o (rep_num h) = T.decodes_number n h
  value_outcome o (rep_fun h b e) = T.decodes_function n h
  value_outcome o (rep_rec h b p q v e) = T.decodes_function n h

-- ---- what a state tells of the budget that it stands for
module _ (I : Interpretation) {mode : Mode} (K : Coding I.domain mode) {decodes : (root word : ℕ) → OutcomeOf I.domain} (T : Decoding K decodes)
    (s table : List ℕ) (q : Request) (b : Buffers) (t : List ℕ) where
  abbrev run : Fixed
  run = fixed_of I K s table b.posts t

  record CourseAgrees (st : Store) (u : Budget) : Type 0 where
    counts_agree : run_counts q.calls st.counters ≡ wrapped_counts (counts q (sizes b) u)
    posts_agree : st.posts ≡ in_order u ++ drop (length (in_order u)) b.posts
    sizes_agree : sizes_of st ≡ sizes b
    entries_agree : st.counters.entries ≡ length (recorded (length t) (decided_in u))
    noted_agrees : st.noted ≡ with_entries (recorded (length t) (decided_in u)) t

  agrees : {depth : ℕ} {st : Store} {u : Budget} → Balances run st u → Later depth (start_of mode q b t) st → CourseAgrees st u
  agrees (balance {c = c} {m = m} {d = d} {log = log} h) l =
      let ps = log.posts in
      let p : m ≡ length b.cells / 8 - d = omega (arith, h.cells, l.old.long) in
      record {
        counts_agree = (λ i. run_counts q.calls (h.counters i))
            ∙ (λ i. record { calls = q.calls - c; cells = p i; posts = length ps; saturated = wrapped log.saturated });
        posts_agree = h.list ∙ written_is b.posts ps (omega (arith, h.room)) ∙ ap (λ (n : ℕ). reverse ps ++ drop n b.posts) (sym (length-reverse ps));
        sizes_agree = λ i. record { cells = l.old.long i; posts = (ap length h.list ∙ length_written b.posts ps) i; frames = l.frames.long i };
        entries_agree = λ i. (h.counters i).entries;
        noted_agrees = h.noted_is;
      }

  refined_by : (n : ℕ) {w : ℕ} {st : Store} (x : ResultOf I.domain) → decodes n w ≡ outcome n x → CourseAgrees st (left x)
      → RefinedBy decodes n q b t (done_of w st) (forget x) (decided_in (left x))
  refined_by n x e a = record {
    same_outcome = e ∙ outcome_forgotten n x;
    same_counts = a.counts_agree ∙ ap wrapped_counts (counts_forgotten q (sizes b) x);
    same_posts = a.posts_agree ∙ ap (λ (l : List ℕ). l ++ drop (length l) b.posts) (posts_forgotten x);
    same_sizes = a.sizes_agree;
    same_entries = a.entries_agree;
    same_noted = a.noted_agrees;
  }

  meets_refined : (n : ℕ) {depth : ℕ} {d : Done} {x : ResultOf I.domain} → Meets run depth (start_of mode q b t) d x
      → RefinedBy decodes n q b t d (forget x) (decided_in (left x))
  meets_refined n (valued {x = x} {o = o} r h l) = refined_by n (ends x o) (value_outcome run T n o r) (agrees h l)
  meets_refined n (halted {o = o} x i h l) =
      let w : ℕ = stop_word (stop_cause x) (stop_place x) in
      let v = stop_word_lem x i in
      refined_by n {w = w} (stops (stop_cause x) (stop_place x) o) (T.decodes_stop n x v.0 v.1) (agrees h l)

-- ---- a whole run, in either style
module _ (I : Interpretation) {mode : Mode} (K : Coding I.domain mode) {decodes : (root word : ℕ) → OutcomeOf I.domain} (T : Decoding K decodes)
    (s : List ℕ) (w : WellFormed s) (c : Counts) (h : CountsOf s c) (table : List ℕ) (tabled : Tabled I K s c table) (q : Request) (b : Buffers)
    (t : List ℕ) (few : q.depth ≤ max_depth) (most : length b.cells ≤ max_cells) where
  pub refined : (X : Control) (R : X.State → (access depth : ℕ) → List ℕ → Type 0) → Models (fixed_of I K s table b.posts t) X q.enforce R
      → (access depth : ℕ) (a : X.State) → depth ≤ max_start_frames → R a access depth b.frames
      → RefinedBy decodes (root s) q b t (eval_at table q.depth (root s) 0 access (start_of mode q b t))
      (eval I X (plain q.enforce) q.depth (program s) a empty (initial q (sizes b)))
      (decided_in (left (eval I X (traced q.enforce) q.depth (program s) a empty (initial q (sizes b)))))
  unfolding trace_bytes
  refined X R models access depth a deep r =
      let none : [] ≡ recorded (length t) [] = sym (take-nil {A = Event} (length t / 4)) in
      let x = eval I X (traced q.enforce) q.depth (program s) a empty (initial q (sizes b)) in
      let d = eval_at table q.depth (root s) 0 access (start_of mode q b t) in
      subst (λ y. RefinedBy decodes (root s) q b t d y (decided_in (left x)))
      (forgets I X (traced q.enforce) q.depth (program s) a empty (initial q (sizes b)))
      (meets_refined I K T s table q b t (root s)
      ((eval_does (fixed_of I K s table b.posts t) X q.enforce R models q.depth (program_stands I K s w c h table tabled b.posts t)
      (omega (arith, root_lower s w, w.terms_most)) (program_height s w)
      ).go 0 empty access depth a (start_of mode q b t) (initial q (sizes b)) (omega arith) r env_none
      (balance record {
        counters = λ i. record (counters_at_start q.calls mode) { entries = length (none i) };
        cells = omega arith;
        most = most;
        room = omega arith;
        list = refl;
        noted_is = λ i. with_entries (none i) t;
      })))

  -- an eager one, that holds any set
  pub refined_eagerly : (authorised P : ℕ) → mode.enforce ≡ q.enforce → mode.lazy ≡ false → authorised < 4294967296 → authorised ≡ authority s 0
      → RefinedBy decodes (root s) q b t (eval_at table q.depth (root s) 0 (packed authorised P) (start_of mode q b t))
      (eval I (eager_control (authority s)) (plain q.enforce) q.depth (program s) (rights 0 P) empty (initial q (sizes b)))
      (decided_in (left (eval I (eager_control (authority s)) (traced q.enforce) q.depth (program s) (rights 0 P) empty (initial q (sizes b)))))
  refined_eagerly authorised P checks style i e =
      refined (eager_control (authority s)) (λ a access d f. EagerMode (authority s) a access)
      (eager_models (fixed_of I K s table b.posts t) style q.enforce checks)
      (packed authorised P) 0 (rights 0 P) (omega arith) (pair_mode (authority s) 0 authorised P P e i refl)
