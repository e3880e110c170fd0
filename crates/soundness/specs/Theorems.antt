-- The theorems about runs: both runners agree on every sheet, and demand 3. Claims.antt says what their words mean.
use Rattle.std.specs.Prelude.{true, List, ◌≡◌, refl, ℕ, length}
use Rattle.std.proofs.Common.{sym, ap, ◌∙◌, subst, subst₂}
use Rattle.program.specs.Layout.{root}
use Rattle.program.specs.Screening.{Screening, clear, found, screen}
use Rattle.program.proofs.Laws.Readable.{WellFormed, well_formed}
use Rattle.typing.specs.Verdicts.{accepted, verdict}
use Rattle.typing.proofs.Theorems.{acceptance}
use Rattle.semantics.specs.Meaning.{plain}
use Rattle.semantics.specs.Runs.{Request, Buffers, sizes, frames_ok, run_conditions, evaluation_in, evaluation, After, run}
use Rattle.semantics.proofs.Theorems.{course_clear, course_found, run_course, starts_screened}
use Rattle.soundness.specs.Claims.{GrantsSet, Comparable, TwoRuns, SameRun, Proper}
use Rattle.soundness.specs.Laws.Runs.{same_conditions, same_evaluation, same_whole, clear_readable, removed}

-- ---- Theorem 3: both runners give the same answer and posts
-- For every bytes, readable or not, accepted or not; every start stack, the empty one too, allowances, lengths and contents of buffers; checks in
-- force in both or passed over in both; with the frame store that a lazy run asks for. It holds of two lazy or two eager runs as well.
pub runners_agree : (s : List ℕ) (x y : Request) (b d : Buffers) → Comparable x y b d → x.enforce ≡ y.enforce
    → frames_ok x.runner (length b.frames) ≡ true → frames_ok y.runner (length d.frames) ≡ true → SameRun (run s x b) (run s y d)
runners_agree s x y b d c e fx fy = go (screen (run_conditions s x (sizes b))) refl
  where
    same : screen (run_conditions s x (sizes b)) ≡ screen (run_conditions s y (sizes d))
    same = ap screen (same_conditions s x y b d c (fx ∙ sym fy))

    same_plain : WellFormed s → evaluation x.runner s x (sizes b) ≡ evaluation y.runner s y (sizes d)
    same_plain w = same_evaluation s w (plain x.enforce) x y b d c ∙ λ i. evaluation_in (plain (e i)) y.runner s y (sizes d)

    go : (z : Screening) → screen (run_conditions s x (sizes b)) ≡ z → SameRun (run s x b) (run s y d)
    go clear h =
        subst₂ SameRun (sym (run_course s x b _ (course_clear s x b h))) (sym (run_course s y d _ (course_clear s y d (sym same ∙ h))))
        (same_whole (root s) x y b d c.limits _ _ (same_plain (well_formed s (clear_readable s x (sizes b) h))))
    go (found k p) h =
        subst₂ SameRun (sym (run_course s x b _ (course_found s x b k p h))) (sym (run_course s y d _ (course_found s y d k p (sym same ∙ h))))
        (record { same_answer = refl; same_posts = refl })

-- ---- Theorem 4: demand 3
-- A sheet is accepted, of type τ and with needs N. Two runs of it, one with checks in force and one with checks passed over, each of either runner,
-- have the same start stack, allowances and lengths of buffers, whatever these hold and however long a frame store is. The stack grants the needs,
-- and neither run is turned back. Then the two give the same answer and posts, and the answer is an end of type τ or a stop by 19 to 22. 02, W8: "A run
-- with checks passed over passes over guards too, and on that reading the pair of runs agrees for both versions."
pub demand_3 : (s : List ℕ) (terms τ N : ℕ) (x y : Request) (b d : Buffers) → verdict s ≡ accepted terms τ N → TwoRuns s x y b d → GrantsSet s x.start N
    → SameRun (run s x b) (run s y d) × Proper τ (run s x b).answer
demand_3 s n τ N x y b d e t g =
    let a = acceptance s n τ N e in
    let c = t.comparable in
    let r = removed s (well_formed s a.readable) τ N a.root_type a.needs.derivation x y b d c t.enforced t.skipped g in
    let rx = run_course s x b _ (course_clear s x b (starts_screened s x b t.first_starts)) in
    let ry = run_course s y d _ (course_clear s y d (starts_screened s y d t.second_starts)) in (
      subst₂ SameRun (sym rx) (sym ry) (same_whole (root s) x y b d c.limits _ _ r.same_result),
      subst (λ (z : After). Proper τ z.answer) (sym rx) r.proper,
    )
