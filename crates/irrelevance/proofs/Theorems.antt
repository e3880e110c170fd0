-- The theorems of 02's W11: two runs of a sheet that does not name a privilege agree, whether or not their starts grant it; and what is told of a sheet and
-- a privilege. Claims.antt and Naming.antt say what the words mean.
use Rattle.std.specs.Prelude.{List, ◌↔◌, ◌≡◌, ℕ}
use Rattle.std.proofs.Math.Option.{none, some}
use Rattle.std.proofs.Common.{sym, ap, ◌∙◌, subst₂}
use Rattle.program.specs.Layout.{authority, root}
use Rattle.program.specs.Screening.{First}
use Rattle.program.proofs.Laws.Screening.{found_first, first_found}
use Rattle.program.proofs.Laws.Readable.{well_formed}
use Rattle.semantics.specs.Runs.{Request, Buffers, sizes, run}
use Rattle.semantics.proofs.Theorems.{course_clear, run_course, starts_screened}
use Rattle.soundness.specs.Claims.{SameRun}
use Rattle.soundness.specs.Laws.Runs.{same_whole, clear_readable}
use Rattle.irrelevance.specs.Naming.{refused, unnamed, named, naming_of, naming_conditions, naming}
use Rattle.irrelevance.specs.Claims.{Unnamed, LowestNaming, Answerable, DifferAtMost, withdrawn, TwoStarts}
use Rattle.irrelevance.proofs.Laws.Naming.{none_unnamed, unnamed_none, some_lowest, lowest_first, answerable_naming, naming_answerable, found_refused, refused_found}
use Rattle.irrelevance.proofs.Laws.Runs.{withdrawn_grants, same_result}

-- ---- A privilege that plays no part
-- For every bytes, accepted or not, that name p in no check, test or guard; two runs, each of either runner, with checks in force, from starts that differ at
-- most in p, with the same allowances and lengths of buffers, whatever these hold; neither of them turned back, so that the sheet is readable. They come to the
-- same end, or the same stop at the same term, with the same counts and posts.
pub plays_no_part : (s : List ℕ) (p : ℕ) (x y : Request) (b d : Buffers) → Unnamed s p → TwoStarts s p x y b d → SameRun (run s x b) (run s y d)
plays_no_part s p x y b d u t =
    let cx = starts_screened s x b t.first_starts in
    let cy = starts_screened s y d t.second_starts in
    subst₂ SameRun (sym (run_course s x b _ (course_clear s x b cx))) (sym (run_course s y d _ (course_clear s y d cy)))
    (same_whole (root s) x y b d t.limits _ _ (same_result s (well_formed s (clear_readable s x (sizes b) cx)) p u x y b d t))

-- Such starts are a stack and the same without p.
pub withdrawing : (s : List ℕ) (p : ℕ) (start : List ℕ) → DifferAtMost s p start (withdrawn p start)
withdrawing s p start = record { others = withdrawn_grants (authority s) p start }

-- ---- What is told of a sheet and a privilege
module _ (s : List ℕ) (p : ℕ) where
  -- No exactly if the sheet is readable, p is at most 31, and no term names it: then the theorem above holds of the sheet and p.
  pub unnamed_exactly : (naming s p ≡ unnamed) ↔ (Answerable s p × Unnamed s p)
  unnamed_exactly = (
    λ e. let a = naming_answerable s p none e in (a.0, none_unnamed s p a.1),
    λ h. answerable_naming s p h.0 ∙ ap naming_of (unnamed_none s p h.1),
  )

  -- yes, with the lowest term that names it
  pub named_exactly : (t : ℕ) → (naming s p ≡ named t) ↔ (Answerable s p × LowestNaming s p t)
  named_exactly t = (
    λ e. let a = naming_answerable s p (some t) e in (a.0, some_lowest s p t a.1),
    λ h. answerable_naming s p h.0 ∙ ap naming_of (lowest_first s p t h.1),
  )

  -- and a refusal exactly if one of 1 to 8, 31 or 30 is found: the first, in this order
  pub refused_exactly : (c q : ℕ) → (naming s p ≡ refused c q) ↔ First c q (naming_conditions s p)
  refused_exactly c q = (
    λ e. found_first (naming_conditions s p) c q (refused_found s p c q e),
    λ f. found_refused s p c q (first_found f),
  )
