-- From what the interpreter comes to, to the whole run: the refinement theorem at the start that each runner makes.
use mathlib.Core.Bool.{Bool, true, false}
use mathlib.Core.List.{List, [], ◌∷◌, ◌++◌}
use Rattle.std.specs.Prelude.{Result, Ok, Err}
use mathlib.Core.Path.{◌≡◌, refl, sym, ap, ◌∙◌}
use Prim.Native.Nat.{ℕ, ◌-◌, ◌*◌, ◌/◌, ◌%◌}
use native.Mathlib.Omega.{arith}
use lib.Dec.{eqb, ltb}
use lib.ListN.{length, drop, replicate, length-append, length-drop}
use borrow.Author.Tests.{eqb-true, ltb-true}
use Rattle.program.specs.Limits.{frame_numbers}
use Rattle.privileges.specs.Booleans.{and_left, and_right}
use Rattle.program.specs.Layout.{principals, authority, root}
use Rattle.program.specs.Records.{CountsOf, authority_record}
use Rattle.program.specs.Screening.{clear, found, screen}
use Rattle.program.proofs.Laws.Readable.{WellFormed}
use Rattle.program.proofs.Laws.Records.{authority_is}
use Rattle.program.specs.declared.records.Counts.{Counts}
use Rattle.semantics.specs.Access.{Frame, privs}
use Rattle.semantics.specs.Runs.{Runner, eager, lazy, Request, Buffers, Sizes, sizes, stack, principals_known, run_conditions, evaluation, evaluation_in, outcome, ran, left, counts, After, cleared_frames, run}
use Rattle.semantics.specs.Meaning.{traced}
use Rattle.semantics.specs.Recording.{decided_in, decisions_made, decisions, Recorded, with_entries, recording}
use Rattle.semantics.proofs.RecordTheorems.{traced_clear, refused_unrecorded}
use Rattle.semantics.proofs.Theorems.{course_clear, course_found, run_course, counts_few}
use Rattle.traces.specs.Traces.{Event, recorded}
use Rattle.stores.specs.declared.values.Value.{Value}
use Rattle.stores.specs.declared.values.Stop.{Stop}
use Rattle.stores.specs.Words.{out_of}
use Rattle.stores.specs.Cells.{zeros_like}
use Rattle.access.specs.declared.Mode.{Mode}
use Rattle.machine.specs.Store.{Done}
use Rattle.refinement.specs.Claims.{outcome_of, laid_out, Refined}
use Rattle.refinement.proofs.Theorems.{eager_refined, lazy_refined}
use Rattle.interp.specs.Answers.{refusal_cause, refusal_place, outcome_model, counts_model, Run, run_model, request_of, buffers_of, after, run_of, after_recording}
use Rattle.interp.specs.Internal.{Cleared, Admits, StartAccess, root_done, Tallied, RootEvaluated}
use Rattle.interp.specs.Laws.{access_authorised, access_is, tallied_at, tallied_after}
use Rattle.interp.specs.declared.answer.RunRefusal.{RunRefusal}
use Rattle.interp.specs.declared.answer.RecordedRun.{RecordedRun}
use Rattle.interp.specs.declared.answer.Tally.{Tally}
use Rattle.interp.specs.declared.answer.Ground.{Ground}
use Rattle.interp.proofs.StartLaws.{laid_length}

-- ---- a run that is turned back
pub refused_after : (s : List ℕ) (q : Request) (cells posts frames noted : List ℕ) (f : RunRefusal)
    → screen (run_conditions s q (sizes (buffers_of cells posts frames))) ≡ found (refusal_cause f) (refusal_place f)
    → after_recording (Err f) cells posts frames noted ≡ recording s q (buffers_of cells posts frames) noted
refused_after s q cells posts frames noted f e =
    let b = buffers_of cells posts frames in
    let is : run s q b ≡ after (Err f) cells posts frames = run_course s q b _ (course_found s q b (refusal_cause f) (refusal_place f) e) in
    (λ i. record { after = sym is i; entries = 0; noted = noted })
    ∙ sym (refused_unrecorded s q b noted (refusal_cause f) (refusal_place f) (ap (λ (a : After). a.answer) is))

-- ---- without a record
pub plain_after : (s : List ℕ) (q : Request) (b : Buffers) (t : List ℕ) (r : Result RecordedRun RunRefusal) {cells posts frames noted : List ℕ}
    → after_recording r cells posts frames noted ≡ recording s q b t → after (run_of r) cells posts frames ≡ run s q b
unfolding recording
plain_after s q b t r h = ap (λ (x : Recorded). x.after) h

-- at the exit of a `?`: r is the refusal that is handed on
pub plain_refused : (s : List ℕ) (q : Request) (b : Buffers) (t : List ℕ) {r : Run} {x f : RunRefusal} → r ≡ Err x → x ≡ f
    → {cells posts frames noted : List ℕ} → after_recording (Err f) cells posts frames noted ≡ recording s q b t → after r cells posts frames ≡ run s q b
plain_refused s q b t {f = f} e same {cells} {posts} {frames} h =
    ap (λ (y : Run). after y cells posts frames) (e ∙ ap (λ (y : RunRefusal). Err y) same) ∙ plain_after s q b t (Err f) h

-- ---- a run that starts: `store` is what the frame store holds when evaluation begins
module _ (s : List ℕ) (q : Request) (cells posts frames store noted : List ℕ) where
  abbrev z : Sizes
  z = sizes (buffers_of cells posts frames)

  -- the list of decisions that the meaning gives
  abbrev listed : List Event
  listed = decided_in (left (evaluation_in (traced q.enforce) q.runner s q z))

  -- the answer in the words of the meaning, from the tally of the root
  record Answers (d : Done) (r : RecordedRun) (b : Buffers) (noted' : List ℕ) : Type 0 where
    tally : Tally
    tallied : Tallied q.calls d tally b noted'
    answer_is : run_model (Ok r.ran) ≡ ran (outcome_of (root s) (out_of tally.word)) (counts_model tally.made)
    entries_are : r.entries ≡ tally.entries

  ran_after : screen (run_conditions s q z) ≡ clear → {d : Done} {r : RecordedRun} {cells' posts' frames' last noted' : List ℕ}
      → Answers d r (buffers_of cells' posts' frames') noted'
      → Refined (root s) q (buffers_of cells posts store) noted d (evaluation q.runner s q z) listed
      → last ≡ cleared_frames q.runner frames
      → after_recording (Ok r) cells' posts' last noted' ≡ recording s q (buffers_of cells posts frames) noted
  unfolding recording
  ran_after e {cells' = cells'} {posts' = posts'} {last = last} v R l =
      let b = buffers_of cells posts frames in
      let x = evaluation q.runner s q z in
      let is = run_course s q b _ (course_clear s q b e) in
      let few = counts_few s q b (outcome (root s) x) (counts q z (left x)) (ap (λ (a : After). a.answer) is) in
      let all : listed ≡ decisions s q z = ap decisions_made (sym (traced_clear s q z e)) in
      let same_after = tallied_after (root s) q cells posts frames store x (λ r w. outcome_of r (out_of w)) few.saturated_most v.tallied R l in
      let same = (λ i. record { answer = v.answer_is i; buffers = buffers_of cells' posts' last }) ∙ same_after ∙ sym is in
      λ i. record {
        after = same i;
        entries = (v.entries_are ∙ v.tallied.entries_are ∙ R.same_entries ∙ ap (λ (es : List Event). length (recorded (length noted) es)) all) i;
        noted = (v.tallied.noted_is ∙ R.same_noted ∙ ap (λ (es : List Event). with_entries (recorded (length noted) es) noted) all) i;
      }

-- ---- evaluation

pub answered_by : (root₀ : ℕ) (t : Tally) {x : Result Value Stop} (o : Result Ground Stop) → x ≡ out_of t.word → outcome_model o ≡ outcome_of root₀ x
    → run_model (Ok (record { outcome = o; made = t.made })) ≡ ran (outcome_of root₀ (out_of t.word)) (counts_model t.made)
answered_by root₀ t o p q = λ i. ran ((q ∙ ap (outcome_of root₀) p) i) (counts_model t.made)

-- ---- the start
pub stack_length : (l : List ℕ) → length l % 2 ≡ 0 → length (stack l) ≡ length l / 2
stack_length [] e = refl
stack_length (x ∷ []) e = absurd (omega (arith, e))
stack_length (x ∷ y ∷ l) e = omega (arith, stack_length l (omega (arith, e)))

same_laid : (s : List ℕ) → WellFormed s → (fs : List Frame) → principals_known (principals s) fs ≡ true
    → laid_out (authority_record s) fs ≡ laid_out (authority s) fs
same_laid s w [] h = refl
same_laid s w (f ∷ fs) h =
    let low : ltb f.principal (principals s) ≡ true = search and_left in
    let rest : principals_known (principals s) fs ≡ true = search (and_left, and_right) in
    λ i. same_laid s w fs rest i ++ (authority_is s w f.principal (ltb-true f.principal (principals s) low) i ∷ f.enabled ∷ [])

module _ (s start : List ℕ) (e : Bool) (cells posts noted : List ℕ) (calls depth : ℕ) {c : Counts} where
  -- the answer with the root by its number in the sheet, and a in the place of the number that it is
  answers_at : (runner : Runner) (frames store : List ℕ) {mode : Mode} {access a : ℕ} {r : RecordedRun} {b : Buffers} {t : List ℕ} → CountsOf s c → access ≡ a
      → (v : RootEvaluated s c mode access calls depth (buffers_of cells posts store) noted r b t)
      → Answers s (request_of runner e start calls depth) cells posts frames store noted
      (root_done v.terms (root s) mode a calls depth (buffers_of cells posts store) noted) r b t
  answers_at runner frames store {mode} k q v = record {
    tally = v.tally;
    tallied = tallied_at k v.terms mode calls depth (buffers_of cells posts store) noted q v.tallied;
    answer_is = v.answer_is ∙ ap (λ (n : ℕ). ran (outcome_of (n - 1) (out_of v.tally.word)) (counts_model v.tally.made)) k.terms_are;
    entries_are = v.entries_are;
  }

  pub eager_after : (store : List ℕ) {access : ℕ} {r : RecordedRun} {cells' posts' frames' noted' : List ℕ}
      → Cleared s start (length cells) (length posts) true calls depth c → StartAccess s start access
      → RootEvaluated s c (record { lazy = false; enforce = e; intervals = false }) access calls depth (buffers_of cells posts store) noted r
      (buffers_of cells' posts' frames') noted'
      → after_recording (Ok r) cells' posts' [] noted' ≡ recording s (request_of eager e start calls depth) (buffers_of cells posts []) noted
  eager_after store K a v =
      let q = request_of eager e start calls depth in
      let w = K.well_formed in
      ran_after s q cells posts [] store noted K.none_found (answers_at eager [] store K.counts (access_is w a K.all_known) v)
      (eager_refined s w c K.counts v.terms v.table q (buffers_of cells posts store) noted K.depth_most K.cells_most _ refl
      refl a.authorised (privs (authority s) (stack start)) refl a.authorised_small (access_authorised w a))
      refl

  pub lazy_after : (frames : List ℕ) {store : List ℕ} {access : ℕ} {r : RecordedRun} {cells' posts' frames' last noted' : List ℕ}
      → Cleared s start (length cells) (length posts) (eqb (length frames) frame_numbers) calls depth c
      → store ≡ laid_out (authority_record s) (stack start) ++ drop (length start) frames → access ≡ length start
      → RootEvaluated s c (record { lazy = true; enforce = e; intervals = false }) access calls depth (buffers_of cells posts store) noted r
      (buffers_of cells' posts' frames') noted'
      → last ≡ zeros_like frames'
      → after_recording (Ok r) cells' posts' last noted' ≡ recording s (request_of lazy e start calls depth) (buffers_of cells posts frames) noted
  lazy_after frames {store = store} {access = access} K g a v l =
      let q = request_of lazy e start calls depth in
      let w = K.well_formed in
      let two : length start ≡ length (stack start) * 2 = omega (arith, stack_length start K.whole.even, K.whole.even) in
      let long : length frames ≡ frame_numbers = eqb-true (length frames) frame_numbers K.frames_right in
      let laid : store ≡ laid_out (authority s) (stack start) ++ drop (length start) frames =
      g ∙ ap (λ (x : List ℕ). x ++ drop (length start) frames) (same_laid s w (stack start) K.all_known) in
      let kept : length store ≡ length frames =
      ap (λ (x : List ℕ). length x) g ∙ length-append (laid_out (authority_record s) (stack start)) _
      ∙ omega (arith, laid_length (authority_record s) start K.whole.even, length-drop (length start) frames, long, K.whole.few) in
      let refined =
      lazy_refined s w c K.counts v.terms v.table q (buffers_of cells posts store) noted K.depth_most K.cells_most _ refl
      refl refl (stack start) (drop (length start) frames)
      (omega (arith, two, K.whole.few)) laid (kept ∙ long) in
      let at-end = answers_at lazy frames store K.counts (a ∙ two) v in
      ran_after s q cells posts frames store noted K.none_found at-end refined
      (l ∙ ap zeros_like at-end.tallied.frames_are ∙ ap (λ (z : Sizes). replicate z.frames 0) refined.same_sizes ∙ ap (λ (n : ℕ). replicate n 0) kept)

-- ---- each runner turned back
module _ (s start : List ℕ) (e : Bool) (cells posts noted : List ℕ) (calls depth : ℕ) where
  pub eager_refused : (f : RunRefusal) → Admits s start (length cells) (length posts) true calls depth (Err f)
      → after_recording (Err f) cells posts [] noted ≡ recording s (request_of eager e start calls depth) (buffers_of cells posts []) noted
  eager_refused f h = refused_after s (request_of eager e start calls depth) cells posts [] noted f h

  pub lazy_refused : (frames : List ℕ) (f : RunRefusal)
      → Admits s start (length cells) (length posts) (eqb (length frames) frame_numbers) calls depth (Err f)
      → after_recording (Err f) cells posts frames noted ≡ recording s (request_of lazy e start calls depth) (buffers_of cells posts frames) noted
  lazy_refused frames f h = refused_after s (request_of lazy e start calls depth) cells posts frames noted f h
