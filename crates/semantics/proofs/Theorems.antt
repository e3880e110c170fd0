-- The theorems about whole runs: what a stack grants as a set is what 01's sentence grants; a run is refused exactly on 01's conditions; every buffer
-- keeps its length; the counts stay within the largest allowances and buffers, and the count of held sums below 2^32; the posts made stand in the lent list
-- and the stores are zero; a run stops by 17 to 22 alone, by 17 at checks and guarded posts alone, and posts are of the sheet's channels; version 1 has
-- neither guards nor channels; a sum or difference is counted as held unless it is the exact one.
use Rattle.std.specs.Prelude.{Bool, true, false, List, ◌↔◌, ◌≡◌, refl, ℕ, suc, ◌+◌, ◌<◌, ◌≤◌, length, take, drop}
use Rattle.std.proofs.Math.Option.{none, none-ne-some}
use Rattle.std.proofs.Common.{sym, ap, ◌∙◌, subst, arith, ltb-false, le-ltb}
use Rattle.std.proofs.lemmas.List.{length-reverse}
use Rattle.std.proofs.Math.Seq.{take-append_seam, drop-append_seam}
use Rattle.privileges.specs.Sets.{has}
use Rattle.program.specs.Limits.{max_number}
use Rattle.program.specs.Bytes.{Bytes}
use Rattle.program.specs.Layout.{version, root, kind_byte, small}
use Rattle.program.specs.Formats.{Check, kind_of}
use Rattle.program.specs.Terms.{sum, difference, Term, post}
use Rattle.program.specs.Screening.{Screening, clear, found, screen, First, None}
use Rattle.program.proofs.Laws.Screening.{found_first, first_found, clear_none, none_clear}
use Rattle.program.proofs.Laws.Readable.{WellFormed}
use Rattle.program.proofs.Laws.Guards.{without_guards}
use Rattle.semantics.specs.Domains.{saturates, post_entry, single, standard}
use Rattle.semantics.specs.Values.{num, Env, Log, log_post, Budget, budget, Result, ends}
use Rattle.semantics.specs.Meaning.{Control, Mode, plain, ◌then◌, post_value, event_if, lists_checks, eval_with, eval}
use Rattle.semantics.specs.Access.{Frame, chk, privs}
use Rattle.semantics.specs.Runs.{Runner, eager, lazy, Request, Buffers, Sizes, sizes, run_conditions, evaluation, Course, rejected, started, settled, course, Outcome, stopped, RunCounts, refused, ran, left, counts, answer_of, in_order, course_posts, zeros, cleared_frames, buffers_after, After, run}
use Rattle.semantics.proofs.Laws.Bodies.{StopsAt}
use Rattle.semantics.specs.Claims.{Each, MayRefuse, at_check, at_guard, OnChannel, Few}
use Rattle.semantics.proofs.Laws.Stops.{StopRecord, evaluation_stop, refusing, stop_single}
use Rattle.semantics.proofs.Laws.Access.{privs_chk}
use Rattle.semantics.proofs.Laws.Saturation.{evaluation_load}
use Rattle.semantics.proofs.Laws.Starting.{clear_well, evaluation_spends, after_sizes, clear_few, counts_in}
use Rattle.semantics.proofs.Laws.Posts.{each_all, evaluation_posts}

-- ---- What a stack grants
-- The eager runner starts with the set `privs`; a privilege is in it exactly if the stack grants it by 01's sentence, which is `chk`.
pub grants_as_a_set : (A : ℕ → ℕ) (fs : List Frame) (p : ℕ) → (has p (privs A fs) ≡ true) ↔ (chk A fs p ≡ true)
grants_as_a_set A fs p = (λ h. sym (privs_chk A fs p) ∙ h, λ h. privs_chk A fs p ∙ h)

-- ---- When a run is refused
ran≢refused : {c p : ℕ} {o : Outcome} {k : RunCounts} {A : Type 0} → ran o k ≡ refused c p → A
ran≢refused e = absurd (let z : ◌≡◌ {A = ℕ} 0 1 = cc in omega arith)

module _ (s : List ℕ) (q : Request) (b : Buffers) where
  abbrev conditions : Screening
  conditions = screen (run_conditions s q (sizes b))

  -- the course that a run takes, by what its conditions come to
  pub course_clear : conditions ≡ clear → course s q (sizes b) ≡ started (evaluation q.runner s q (sizes b))
  unfolding course
  course_clear e = λ i. settled (e i) (λ _. evaluation q.runner s q (sizes b))

  pub course_found : (c p : ℕ) → conditions ≡ found c p → course s q (sizes b) ≡ rejected c p
  unfolding course
  course_found c p e = λ i. settled (e i) (λ _. evaluation q.runner s q (sizes b))

  pub run_course : (x : Course) → course s q (sizes b) ≡ x → run s q b
      ≡ record { answer = answer_of (root s) q (sizes b) x; buffers = buffers_after q.runner b x }
  unfolding run
  run_course x e = λ i. record { answer = answer_of (root s) q (sizes b) (e i); buffers = buffers_after q.runner b (e i) }

  answer_course : (x : Course) → course s q (sizes b) ≡ x → (run s q b).answer ≡ answer_of (root s) q (sizes b) x
  answer_course x e = ap (λ (a : After). a.answer) (run_course x e)

  refused_found : (c p : ℕ) (x : Screening) → conditions ≡ x → (run s q b).answer ≡ refused c p → x ≡ found c p
  refused_found c p clear h e = ran≢refused (sym (answer_course _ (course_clear h)) ∙ e)
  refused_found c p (found d r) h e =
      let g : refused d r ≡ refused c p = sym (answer_course _ (course_found d r h)) ∙ e in
      cc

  -- A run is refused exactly when one of 1 to 8, 31 or 14 to 16 is found, and the first of them, in 01's order, is told.
  pub refused_exactly : (c p : ℕ) → ((run s q b).answer ≡ refused c p) ↔ First c p (run_conditions s q (sizes b))
  refused_exactly c p = (
    λ e. found_first (run_conditions s q (sizes b)) c p (refused_found c p conditions refl e),
    λ f. answer_course _ (course_found c p (first_found f)),
  )

  -- Then "every buffer is untouched and no count is told".
  pub refused_untouched : (c p : ℕ) → (run s q b).answer ≡ refused c p → (run s q b).buffers ≡ b
  refused_untouched c p e = ap (λ (a : After). a.buffers) (run_course _ (course_found c p (refused_found c p conditions refl e)))

  -- "every other run starts": it ends or stops, with its counts
  abbrev pub Starts : Type 0
  Starts = (o : Outcome) × (k : RunCounts) × ((run s q b).answer ≡ ran o k)

  starts_clear : (x : Screening) → conditions ≡ x → Starts → x ≡ clear
  starts_clear clear h st = refl
  starts_clear (found c p) h st = ran≢refused (sym st.2 ∙ answer_course _ (course_found c p h))

  pub starts_screened : Starts → screen (run_conditions s q (sizes b)) ≡ clear
  starts_screened st = starts_clear conditions refl st

  pub starts_exactly : Starts ↔ None (run_conditions s q (sizes b))
  starts_exactly = (λ st. clear_none (run_conditions s q (sizes b)) (starts_screened st), λ n. (_, _, answer_course _ (course_clear (none_clear n))))

  started_well : Starts → WellFormed s
  started_well st = clear_well s q b (starts_screened st)

-- ---- By which causes a run stops
module _ (s : List ℕ) (q : Request) (b : Buffers) where
  stop_of : (c t : ℕ) (k : RunCounts) → (run s q b).answer ≡ ran (stopped c t) k → StopsAt single (StopRecord s) c t
  stop_of c t k e =
      let st : Starts s q b = (_, _, e) in
      let same : ran _ _ ≡ ran (stopped c t) k = sym (answer_course s q b _ (course_clear s q b (starts_screened s q b st))) ∙ e in
      evaluation_stop s (started_well s q b st) standard (plain q.enforce) q (sizes b) q.runner c t cc

  -- 01 lists the stops 17 to 22. W14's 36 is no stop of a plain run, whose conditions are yes or no.
  pub stopped_by : (c t : ℕ) (k : RunCounts) → (run s q b).answer ≡ ran (stopped c t) k → (17 ≤ c) × (c ≤ 22)
  stopped_by c t k e = stop_single s c t (stop_of c t k e)

-- ---- Where a run of a list of bytes is refused by 17, and what it posts
module _ (s : List ℕ) (bytes : Bytes s) (q : Request) (b : Buffers) where
  -- 17 is told at a check, or at a post whose channel has a guard.
  pub refused_by_17 : (t : ℕ) (k : RunCounts) → (run s q b).answer ≡ ran (stopped 17 t) k → MayRefuse s t
  refused_by_17 t k e = refusing s t (stop_of s q b 17 t k e)

  -- Every post is a channel of the sheet's version and a 16-bit number: "channel × 65,536 + number".
  pub posts_on_channels : Starts s q b → Each (OnChannel s) (course_posts (course s q (sizes b)))
  posts_on_channels st =
      subst (λ (x : Course). Each (OnChannel s) (course_posts x)) (sym (course_clear s q b (starts_screened s q b st)))
      (evaluation_posts s bytes (started_well s q b st) (plain q.enforce) q.runner q (sizes b))

  -- "Version 1 posts on channel 0 without a guard": it is refused at checks alone, and its list holds 16-bit numbers.
  pub version_1_refused : version s ≡ 1 → (t : ℕ) (k : RunCounts) → (run s q b).answer ≡ ran (stopped 17 t) k → kind_of (kind_byte s t) ≡ Check
  version_1_refused one t k e = go (refused_by_17 t k e)
    where
      go : MayRefuse s t → kind_of (kind_byte s t) ≡ Check
      go (at_check h) = h
      go (at_guard p h g) = absurd (none-ne-some p (sym ((without_guards s one).none_guarded (small s t)) ∙ g))

  pub version_1_posts : version s ≡ 1 → Starts s q b → Each (λ x. x < 65536) (course_posts (course s q (sizes b)))
  version_1_posts one st =
      each_all (λ x. x < 65536) (λ x h. omega (arith, h.below, (without_guards s one).one_channel)) (course_posts (course s q (sizes b))) (posts_on_channels st)

no_event : (listed : Bool) (at : ℕ) (grants : ℕ → Bool) → event_if listed at grants none ≡ none
no_event true at grants = refl
no_event false at grants = refl

-- They are the numbers posted: on channel 0 and without a guard "A post appends its number and yields it", whatever is granted.
pub plain_post : (X : Control) (M : Mode) (depth at : ℕ) (c : Term) (st : X.State) (e : Env) (u : Budget) (n k d r : ℕ) (l : Log)
    → eval standard X M depth c st e u ≡ ends (num n) (budget k d (suc r) l)
    → eval standard X M depth (post at 0 none c) st e u ≡ ends (num n) (budget k d r (log_post n l))
unfolding eval eval_with
plain_post X M depth at c st e u n k d r l h =
    let z : post_entry 0 n ≡ n = omega arith in
    (λ i. h i then λ v u₁. post_value at 0 true (no_event (lists_checks M) at (X.grants st) i) v u₁)
    ∙ ap (λ (x : ℕ). ends (num n) (budget k d r (log_post x l))) z

-- ---- Which results are held
-- 02, W10: "Sum and difference now also say whether the exact result was outside 0 to 65,535." For all numbers: one is not counted as held exactly if it is
-- the exact result. A difference is that if it and the second number make the first.
pub sum_saturates : (m n : ℕ) → (saturates sum m n ≡ false) ↔ (single.sum m n ≡ m + n)
sum_saturates m n = (λ e. omega (arith, ltb-false max_number (m + n) e), λ e. le-ltb max_number (m + n) (omega arith))

pub difference_saturates : (m n : ℕ) → (saturates difference m n ≡ false) ↔ (single.difference m n + n ≡ m)
difference_saturates m n = (λ e. omega (arith, ltb-false m n e), λ e. le-ltb m n (omega arith))

-- ---- What a run leaves
-- Every buffer keeps its length, whatever becomes of the run: the posts made find their places in the lent list.
pub lengths_kept : (s : List ℕ) (q : Request) (b : Buffers) → sizes (run s q b).buffers ≡ sizes b
unfolding run course
lengths_kept s q b =
    after_sizes q b (screen (run_conditions s q (sizes b))) (evaluation q.runner s q (sizes b))
    (evaluation_spends standard (plain q.enforce) q.runner s q (sizes b))

-- How large the counts are that a run tells (Claims: Few). They are those of the evaluation.
answer_counts : (s : List ℕ) (q : Request) (b : Buffers) (o : Outcome) (k : RunCounts) → (run s q b).answer ≡ ran o k
    → counts q (sizes b) (left (evaluation q.runner s q (sizes b))) ≡ k
answer_counts s q b o k e = ap (counts_in k) (sym (answer_course s q b _ (course_clear s q b (starts_screened s q b (o, k, e)))) ∙ e)

pub counts_few : (s : List ℕ) (q : Request) (b : Buffers) (o : Outcome) (k : RunCounts) → (run s q b).answer ≡ ran o k → Few k
counts_few s q b o k e =
    subst Few (answer_counts s q b o k e)
    (clear_few s q b (starts_screened s q b (o, k, e)) (left (evaluation q.runner s q (sizes b)))
    (evaluation_spends standard (plain q.enforce) q.runner s q (sizes b))
    (omega (arith, evaluation_load s (started_well s q b (o, k, e)) (plain q.enforce) q.runner q (sizes b))))

-- What a run that starts leaves in the buffers b: "Posts made so far stand in the lent list and its other entries are untouched; cell and frame stores are
-- all zero." A refused run leaves every buffer as it was: refused_untouched.
pub record Leaves (r : Runner) (made : List ℕ) (b d : Buffers) : Type 0 where
  pub posts_first : take (length made) d.posts ≡ made
  pub rest_untouched : drop (length made) d.posts ≡ drop (length made) b.posts
  pub cells_zero : d.cells ≡ zeros (length b.cells)
  pub frames_zero : r ≡ lazy → d.frames ≡ zeros (length b.frames)
  -- an eager run has no frame store
  pub frames_kept : r ≡ eager → d.frames ≡ b.frames

leaves : (r : Runner) (b : Buffers) (x : Result) → Leaves r (course_posts (started x)) b (buffers_after r b (started x))
leaves r b x =
    let made = in_order (left x) in
    record {
      posts_first = take-append_seam made (drop (length made) b.posts);
      rest_untouched = drop-append_seam made (drop (length made) b.posts);
      cells_zero = refl;
      frames_zero = ap (λ (y : Runner). cleared_frames y b.frames);
      frames_kept = ap (λ (y : Runner). cleared_frames y b.frames);
    }

posts_counted : (q : Request) (z : Sizes) (u : Budget) → (counts q z u).posts ≡ length (in_order u)
posts_counted q z (budget c d r l) = sym (length-reverse l.posts)

-- The list is that of the posts made, in order, and the count told is its length.
pub run_leaves : (s : List ℕ) (q : Request) (b : Buffers) (o : Outcome) (k : RunCounts) → (run s q b).answer ≡ ran o k
    → (k.posts ≡ length (course_posts (course s q (sizes b)))) × Leaves q.runner (course_posts (course s q (sizes b))) b (run s q b).buffers
unfolding run
run_leaves s q b o k e =
    let x = evaluation q.runner s q (sizes b) in
    let goes : started x ≡ course s q (sizes b) = sym (course_clear s q b (starts_screened s q b (o, k, e))) in (
      ap (λ (c : RunCounts). c.posts) (sym (answer_counts s q b o k e)) ∙ posts_counted q (sizes b) (left x)
          ∙ ap (λ (c : Course). length (course_posts c)) goes,
      subst (λ (c : Course). Leaves q.runner (course_posts c) b (buffers_after q.runner b c)) goes (leaves q.runner b x),
    )
