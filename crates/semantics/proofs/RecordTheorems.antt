-- The theorems about runs with a record, 02, W12: listing decisions changes neither answer nor buffers; what stands in the record, and what is untouched;
-- every entry is a decision of one of the sheet's terms, and fits its bytes; which of them are no; how many there can be.
use Rattle.std.specs.Prelude.{true, false, List, [], ◌∷◌, ◌++◌, ◌≡◌, refl}
use Rattle.std.proofs.Common.{sym, ◌∙◌, subst, length-take-le, leb-true}
use Rattle.std.proofs.Math.Path.{ap}
use Prim.Native.Nat.{ℕ, zero, suc, ◌*◌, ◌/◌, ◌<◌, ◌≤◌, min}
use native.Mathlib.Omega.{arith}
use Rattle.std.proofs.Math.ListN.{length, take, drop, length-take}
use Rattle.std.proofs.lemmas.List.{length-reverse}
use Rattle.std.proofs.Math.Seq.{length_front, take-nil, take-append_seam, drop-append_seam}
use Rattle.privileges.specs.Sets.{privilege_count}
use Rattle.program.specs.Limits.{max_terms, max_evaluations, max_privilege}
use Rattle.program.specs.Bytes.{Bytes}
use Rattle.program.specs.Layout.{terms, root, small, kind_byte}
use Rattle.program.specs.Formats.{Part, privilege, Kind, Check, Test, kind_of, format}
use Rattle.program.specs.Screening.{Screening, clear, found, screen}
use Rattle.program.specs.Decoding.{part_ok}
use Rattle.program.proofs.Laws.Screening.{first_found}
use Rattle.program.proofs.Laws.Readable.{WellFormed}
use Rattle.program.proofs.Laws.Trees.{parts}
use Rattle.program.proofs.Laws.Guards.{channel_below, guard_below}
use Rattle.traces.specs.Traces.{Event, trace_bytes, recorded}
use Rattle.traces.specs.Claims.{Storable, storable_none, storable_more}
use Rattle.traces.proofs.Laws.Records.{bytes_length}
use Rattle.semantics.specs.Values.{Budget, budget, Result}
use Rattle.semantics.specs.Meaning.{traced}
use Rattle.semantics.specs.Runs.{Request, Buffers, Sizes, sizes, run_conditions, evaluation, evaluation_in, Course, rejected, started, settled, course, Outcome, RunCounts, stopped, outcome, refused, ran, left, counts, answer_of, zeros, cleared_frames, buffers_after, After, run}
use Rattle.semantics.specs.Recording.{traced_course, decided_in, decisions_made, decisions, Recorded, with_entries, recorded_with, recording}
use Rattle.semantics.proofs.Laws.Tracing.{forget, evaluation_forgets, outcome_forgotten, counts_forgotten, posts_forgotten}
use Rattle.semantics.proofs.Laws.Saturation.{listed_in, evaluation_load}
use Rattle.semantics.specs.Claims.{Each, NamesAt, by_check, by_test, by_guard, Decision}
use Rattle.semantics.proofs.Laws.Posts.{evaluation_decides}
use Rattle.semantics.proofs.Laws.Refusals.{refused_last, others_go_on}
use Rattle.semantics.proofs.Laws.Starting.{clear_well, clear_calls}
use Rattle.semantics.proofs.Theorems.{Starts, refused_exactly, starts_screened}

-- ---- the answer: "Its answer is as without a record"
module _ (r : ℕ) (q : Request) (b : Buffers) where
  abbrev after_at : Course → After
  after_at x = record { answer = answer_of r q (sizes b) x; buffers = buffers_after q.runner b x }

  after_forgets : (x : Result) → after_at (started x) ≡ after_at (started (forget x))
  after_forgets x = λ i. record {
    answer = ran (outcome_forgotten r x i) (counts_forgotten q (sizes b) x i);
    buffers = record {
      cells = zeros (length b.cells);
      posts = posts_forgotten x i ++ drop (length (posts_forgotten x i)) b.posts;
      frames = cleared_frames q.runner b.frames;
    };
  }

-- The run that lists its decisions has the answer, and leaves the buffers, of the run.
pub as_without : (s : List ℕ) (q : Request) (b : Buffers)
    → ◌≡◌ {A = After} (record {
      answer = answer_of (root s) q (sizes b) (traced_course s q (sizes b));
      buffers = buffers_after q.runner b (traced_course s q (sizes b));
    }) (run s q b)
unfolding traced_course course run
as_without s q b = go (screen (run_conditions s q (sizes b)))
  where
    go : (x : Screening)
        → after_at (root s) q b (settled x λ _. evaluation_in (traced q.enforce) q.runner s q (sizes b))
        ≡ after_at (root s) q b (settled x λ _. evaluation q.runner s q (sizes b))
    go clear =
        after_forgets (root s) q b (evaluation_in (traced q.enforce) q.runner s q (sizes b))
        ∙ λ i. after_at (root s) q b (started (evaluation_forgets (traced q.enforce) q.runner s q (sizes b) i))
    go (found c p) = refl

-- the course, by what the conditions come to
module _ (s : List ℕ) (q : Request) (z : Sizes) where
  pub traced_clear : screen (run_conditions s q z) ≡ clear → traced_course s q z ≡ started (evaluation_in (traced q.enforce) q.runner s q z)
  unfolding traced_course
  traced_clear e = λ i. settled (e i) (λ _. evaluation_in (traced q.enforce) q.runner s q z)

  pub traced_found : (c p : ℕ) → screen (run_conditions s q z) ≡ found c p → traced_course s q z ≡ rejected c p
  unfolding traced_course
  traced_found c p e = λ i. settled (e i) (λ _. evaluation_in (traced q.enforce) q.runner s q z)

-- ---- the record
module _ (s : List ℕ) (q : Request) (b : Buffers) (t : List ℕ) where
  abbrev kept : List Event
  kept = recorded (length t) (decisions s q (sizes b))

  pub record Record (r : Recorded) : Type 0 where
    pub same_run : r.after ≡ run s q b
    -- "a full record takes no more"
    pub as_many : r.entries ≡ min (length t / 4) (length (decisions s q (sizes b)))
    pub first_bytes : take (4 * r.entries) r.noted ≡ trace_bytes kept
    -- "bytes past the last entry are untouched"
    pub rest_untouched : drop (4 * r.entries) r.noted ≡ drop (4 * r.entries) t
    pub same_length : length r.noted ≡ length t

  pub record_holds : Record (recording s q b t)
  unfolding recording
  record_holds =
      let bytes = trace_bytes kept in
      let long : length bytes ≡ 4 * length kept = bytes_length kept in
      let many : length kept ≡ min (length t / 4) (length (decisions s q (sizes b))) = length-take (length t / 4) (decisions s q (sizes b)) in
      record {
        same_run = refl;
        as_many = many;
        first_bytes = ap (λ (n : ℕ). take n (bytes ++ drop (length bytes) t)) (sym long) ∙ take-append_seam bytes (drop (length bytes) t);
        rest_untouched = ap (λ (n : ℕ). drop n (bytes ++ drop (length bytes) t)) (sym long) ∙ drop-append_seam bytes (drop (length bytes) t)
            ∙ ap (λ (n : ℕ). drop n t) long;
        same_length = length_front t bytes (length bytes) (sym (length-take-le (length bytes) t (omega (arith, long, many))));
      }

  abbrev unrecorded : Recorded
  unrecorded = record { after = run s q b; entries = 0; noted = t }

  -- a record without room for an entry stays as it is: the run with an empty record is the run
  pub too_short : length t < 4 → recording s q b t ≡ unrecorded
  unfolding recording trace_bytes
  too_short h =
      let none : length t / 4 ≡ 0 = omega arith in
      λ i. record {
        after = run s q b;
        entries = length (take (none i) (decisions s q (sizes b)));
        noted = with_entries (take (none i) (decisions s q (sizes b))) t;
      }

  -- a run that is turned back decides nothing, and its record is untouched
  pub refused_unrecorded : (c p : ℕ) → (run s q b).answer ≡ refused c p → recording s q b t ≡ unrecorded
  unfolding recording trace_bytes
  refused_unrecorded c p e =
      let h : traced_course s q (sizes b) ≡ rejected c p = traced_found s q (sizes b) c p (first_found ((refused_exactly s q b c p).0 e)) in
      (λ i. recorded_with (run s q b) (recorded (length t) (decisions_made (h i))) t) ∙ nothing
    where
      nothing : recorded_with (run s q b) (recorded (length t) []) t ≡ unrecorded
      nothing = λ i. recorded_with (run s q b) (take-nil {A = Event} (length t / 4) i) t

-- ---- what is recorded

-- "each check, test and guard they decide as term, privilege": a term of the sheet that asks for this privilege
abbrev pub IsDecision : (s : List ℕ) → Event → Type 0
IsDecision s e = Decision s e.term e.privilege

module _ (s : List ℕ) (w : WellFormed s) where
  small_privilege : (t : ℕ) → t < terms s → (k : Kind) → kind_of (kind_byte s t) ≡ k → (format k).small ≡ privilege → small s t < privilege_count
  small_privilege t l k e h =
      let ok : part_ok s t (format k).small (small s t) ≡ true =
      subst (λ (k : Kind). part_ok s t (format k).small (small s t) ≡ true) e (parts s w t l).small_ok in
      omega (arith, leb-true (small s t) max_privilege (subst (λ (x : Part). part_ok s t x (small s t) ≡ true) h ok))

  -- a term below 1,024 and a privilege below 32
  decision_low : (t p : ℕ) → Decision s t p → (t < max_terms) × (p < privilege_count)
  decision_low t p d = (omega (arith, d.a_term, w.terms_most), go d.queries)
    where
      go : NamesAt s t p → p < privilege_count
      go (by_check k e) = subst (λ (x : ℕ). x < privilege_count) e (small_privilege t d.a_term Check k refl)
      go (by_test k e) = subst (λ (x : ℕ). x < privilege_count) e (small_privilege t d.a_term Test k refl)
      go (by_guard k e) =
          guard_below s w (small s t) (channel_below s w t d.a_term (ap (λ (k : Kind). (format k).small) k)) p e

  storable : (es : List Event) → Each (IsDecision s) es → Storable es
  storable [] h = storable_none
  storable (e ∷ es) h =
      let l = decision_low e.term e.privilege h.0 in
      storable_more {e = e} (omega (arith, l.0)) (omega (arith, l.1)) (storable es h.1)

each_taken : {A : Type 0} (E : A → Type 0) (n : ℕ) (xs : List A) → Each E xs → Each E (take n xs)
each_taken E zero xs h = tt
each_taken E (suc n) [] h = tt
each_taken E (suc n) (x ∷ xs) h = (h.0, each_taken E n xs h.1)

-- Of a list of bytes:
module _ (s : List ℕ) (bytes : Bytes s) (q : Request) (b : Buffers) where
  pub decisions_named : Each (IsDecision s) (decisions s q (sizes b))
  decisions_named = go (screen (run_conditions s q (sizes b))) refl
    where
      go : (x : Screening) → screen (run_conditions s q (sizes b)) ≡ x → Each (IsDecision s) (decisions s q (sizes b))
      go clear h =
          subst (λ (c : Course). Each (IsDecision s) (decisions_made c)) (sym (traced_clear s q (sizes b) h))
          (evaluation_decides s bytes (clear_well s q b h) (traced q.enforce) q.runner q (sizes b))
      go (found c p) h = subst (λ (c : Course). Each (IsDecision s) (decisions_made c)) (sym (traced_found s q (sizes b) c p h)) tt

  -- Every entry of the record is such a decision, and fits its four bytes.
  pub entries_named : (t : List ℕ) → Each (IsDecision s) (recorded (length t) (decisions s q (sizes b)))
  entries_named t = each_taken (IsDecision s) (length t / 4) (decisions s q (sizes b)) decisions_named

  pub entries_fit : Starts s q b → (t : List ℕ) → Storable (recorded (length t) (decisions s q (sizes b)))
  entries_fit st t = storable s (clear_well s q b (starts_screened s q b st)) (recorded (length t) (decisions s q (sizes b))) (entries_named t)

-- ---- "and yes or no": a run goes on after a check or guard that is yes, and after a test
-- a decision that is no is of a test, so that each check and guard is yes
abbrev pub NoOfTest : (s : List ℕ) → Event → Type 0
NoOfTest s e = e.decided ≡ false → kind_of (kind_byte s e.term) ≡ Test

-- the last decision is a no at term t, and each check and guard before it is yes
pub record EndsInNo (s : List ℕ) (t : ℕ) (es : List Event) : Type 0 where
  pub before : List Event
  pub privilege : ℕ
  pub last_is : es ≡ before ++ record { term = t; privilege = privilege; decided = false } ∷ []
  pub yes_before : Each (NoOfTest s) before

module _ (s : List ℕ) (q : Request) (b : Buffers) where
  abbrev result : Result
  result = evaluation_in (traced q.enforce) q.runner s q (sizes b)

  traced_answer : screen (run_conditions s q (sizes b)) ≡ clear → (run s q b).answer ≡ ran (outcome (root s) result) (counts q (sizes b) (left result))
  traced_answer h = sym (ap (λ (a : After). a.answer) (as_without s q b)) ∙ ap (answer_of (root s) q (sizes b)) (traced_clear s q (sizes b) h)

  -- "17 refused check", or guard: a run that is stopped by 17 at a term has a no there as its last decision, and each check and guard before is yes.
  pub refused_no : (t : ℕ) (k : RunCounts) → (run s q b).answer ≡ ran (stopped 17 t) k → EndsInNo s t (decisions s q (sizes b))
  refused_no t k e =
      let h = starts_screened s q b (_, _, e) in
      let same : ran _ _ ≡ ran (stopped 17 t) k = sym (traced_answer h) ∙ e in
      let x = refused_last s (clear_well s q b h) q.enforce q (sizes b) q.runner (root s) t cc in
      subst (λ (c : Course). EndsInNo s t (decisions_made c)) (sym (traced_clear s q (sizes b) h))
      (record { before = x.0; privilege = x.1; last_is = x.2; yes_before = x.3 })

  -- In every other run, whatever it ends in, each check and guard is yes.
  pub others_yes : ((t : ℕ) (k : RunCounts) → (run s q b).answer ≡ ran (stopped 17 t) k → ⊥) → Each (NoOfTest s) (decisions s q (sizes b))
  others_yes n = go (screen (run_conditions s q (sizes b))) refl
    where
      go : (x : Screening) → screen (run_conditions s q (sizes b)) ≡ x → Each (NoOfTest s) (decisions s q (sizes b))
      go clear h =
          subst (λ (c : Course). Each (NoOfTest s) (decisions_made c)) (sym (traced_clear s q (sizes b) h))
          (others_go_on s (clear_well s q b h) q.enforce q (sizes b) q.runner (root s)
          (λ t e. n t (counts q (sizes b) (left result)) (traced_answer h ∙ ap (λ (o : Outcome). ran o (counts q (sizes b) (left result))) e)))
      go (found c p) h = subst (λ (c : Course). Each (NoOfTest s) (decisions_made c)) (sym (traced_found s q (sizes b) c p h)) tt

-- ---- how many decisions a run makes: at most 4,195,328 = (4,096 + 1) * 1,024, of each term once outside of calls and once in each call, so that a record of
-- four times as many bytes is complete
listed_length : (u : Budget) → length (decided_in u) ≡ listed_in u
listed_length (budget c d r l) = length-reverse l.decisions

pub decisions_few : (s : List ℕ) (q : Request) (b : Buffers) → length (decisions s q (sizes b)) ≤ max_evaluations
decisions_few s q b = go (screen (run_conditions s q (sizes b))) refl
  where
    go : (x : Screening) → screen (run_conditions s q (sizes b)) ≡ x → length (decisions s q (sizes b)) ≤ max_evaluations
    go clear h =
        let x = evaluation_in (traced q.enforce) q.runner s q (sizes b) in
        let n : length (decisions s q (sizes b)) ≡ listed_in (left x) =
        ap (λ (c : Course). length (decisions_made c)) (traced_clear s q (sizes b) h) ∙ listed_length (left x) in
        omega (arith, n, clear_calls s q b h, evaluation_load s (clear_well s q b h) (traced q.enforce) q.runner q (sizes b))
    go (found c p) h =
        let n : length (decisions s q (sizes b)) ≡ 0 = ap (λ (c : Course). length (decisions_made c)) (traced_found s q (sizes b) c p h) in
        omega (arith, n)
