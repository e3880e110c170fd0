-- From the promises of what `report` calls to its own: the text that is copied, the run of an accepted sheet, the text by the verdict, and the whole report.
use mathlib.Core.Bool.{Bool, true, ◌&&◌, cond}
use mathlib.Core.List.{List, [], ◌++◌}
use Rattle.std.specs.Prelude.{Result, Ok, Err}
use mathlib.Core.Path.{◌≡◌, sym, ap, ◌∙◌}
use Prim.Native.Nat.{ℕ, ◌<◌, ◌≤◌}
use native.Mathlib.Omega.{arith}
use lib.Dec.{leb, eqb}
use lib.ListN.{length, drop}
use borrow.Author.Tests.{le-leb, lt-leb, eq-eqb, ne_eqb}
use Rattle.program.specs.Limits.{max_cells, max_posts}
use Rattle.program.specs.Layout.{root}
use Rattle.typing.specs.Verdicts.{Verdict, accepted, rejected, verdict}
use Rattle.semantics.specs.Runs.{Buffers, Sizes, sizes, course, answer_of, After, run}
use Rattle.interp.specs.Answers.{refusal_cause, refusal_place, outcome_model, counts_model, run_model, buffers_of, after, Run}
use Rattle.interp.specs.declared.answer.RunRefusal.{RunRefusal}
use Rattle.interp.specs.declared.answer.Ran.{Ran}
use Rattle.text.specs.Text.{line, acceptance_text, outcome_text, counts_text, refusal_text, program_request, eager_sizes, program_answer, of_run, of_verdict, printed}
use Rattle.report.specs.Reports.{ReportAnswer, written, unfit, Report, after_report, delivered, buffers_after_report, reported}
use Rattle.drafts.specs.Internal.{contents, DraftHolds}
use Rattle.report.specs.Internal.{LargestBuffers, RunReported, Rendered, Delivered}
use Rattle.report.specs.declared.answer.Undelivered.{Undelivered}
use Rattle.report.specs.declared.answer.Undelivered.TheVariants.{TooShort, Unfit}
use Rattle.numbers.specs.Codes.{CodeIs}
use Rattle.numbers.specs.declared.Code.{Code}
use Rattle.drafts.specs.declared.draft.Draft.{Draft}

abbrev whole : ReportAnswer → Buffers → List ℕ → Report
whole f b t = record { answer = f; buffers = b; text = t }

-- ---- the text that is copied, or not
module _ (d t : List ℕ) where
  pub too_short : length t < length d → Delivered d t (Err (TooShort (length d))) t
  too_short h = record {
    leaves = λ cells posts. sym (ap (λ (b : Bool). delivered b d t (buffers_of cells posts [])) (lt-leb (length d) (length t) h));
  }

  pub fitting : (x : List ℕ) → length d ≤ length t → x ≡ d ++ drop (length d) t → Delivered d t (Ok (length d)) x
  fitting x h e = record {
    leaves = λ cells posts.
        ap (whole (written (length d)) (buffers_of cells posts [])) e
        ∙ sym (ap (λ (b : Bool). delivered b d t (buffers_of cells posts [])) (le-leb (length d) (length t) h));
  }

-- ---- the run of an accepted sheet
module _ (s : List ℕ) (terms type needs : ℕ) (b : Buffers) (cells posts : List ℕ) {x : Run} (h : after x cells posts [] ≡ run s program_request b) where
  reported_by : (z : Run) → x ≡ z → of_run (acceptance_text terms type needs) (run_model z)
      ≡ of_run (acceptance_text terms type needs) (run s program_request b).answer
  reported_by z e = ap (λ (y : Run). of_run (acceptance_text terms type needs) (run_model y)) (sym e)
      ∙ ap (λ (a : After). of_run (acceptance_text terms type needs) a.answer) h

  -- 53 bytes at most, as `refusal` tells
  pub refused_reported : {f : RunRefusal} {n : Code} {r : Draft} → x ≡ Err f → CodeIs (refusal_cause f) (refusal_place f) n
      → DraftHolds (refusal_text n.cause n.place) 53 r → RunReported s terms type needs b (buffers_of cells posts []) r
  refused_reported {f = f} e k p = record {
    contents_are = p.contents_are ∙ (λ i. refusal_text (k.cause_is i) (k.place_is i)) ∙ reported_by (Err f) e;
    len_most = omega (arith, p.len_most);
    buffers_are = ap (λ (a : After). a.buffers) h;
  }

  -- 209 bytes at most, as `accepted` tells
  pub ran_reported : {o : Ran} {r : Draft} → x ≡ Ok o
      → DraftHolds (acceptance_text terms type needs ++ line (outcome_text (outcome_model o.outcome) ++ counts_text (counts_model o.made))) 209 r
      → RunReported s terms type needs b (buffers_of cells posts []) r
  ran_reported {o = o} e p = record {
    contents_are = p.contents_are ∙ reported_by (Ok o) e;
    len_most = omega (arith, p.len_most);
    buffers_are = ap (λ (a : After). a.buffers) h;
  }

-- ---- the text from the verdict
module _ (s : List ℕ) (b : Buffers) where
  pub rejected_reported : {c p : ℕ} {n : Code} {r : Draft} → rejected c p ≡ verdict s → CodeIs c p n → DraftHolds (refusal_text n.cause n.place) 53 r
      → Rendered s b b r
  unfolding printed
  rejected_reported e k p = record {
    contents_are = p.contents_are ∙ (λ i. refusal_text (k.cause_is i) (k.place_is i)) ∙ ap (λ (v : Verdict). of_verdict v (λ _. program_answer s)) e;
    len_most = omega (arith, p.len_most);
    buffers_are = ap (λ (v : Verdict). buffers_after_report v s b) e;
  }

  -- the answer depends on the buffers' lengths alone
  same_answer : sizes b ≡ eager_sizes → (run s program_request b).answer ≡ program_answer s
  unfolding run
  same_answer e = ap (λ (z : Sizes). answer_of (root s) program_request z (course s program_request z)) e

  pub accepted_reported : {n τ N : ℕ} {b' : Buffers} {r : Draft} → accepted n τ N ≡ verdict s → sizes b ≡ eager_sizes → RunReported s n τ N b b' r
      → Rendered s b b' r
  unfolding printed
  accepted_reported {n = n} {τ = τ} {N = N} e z p = record {
    contents_are = p.contents_are ∙ ap (of_run (acceptance_text n τ N)) (same_answer z) ∙ ap (λ (v : Verdict). of_verdict v (λ _. program_answer s)) e;
    len_most = p.len_most;
    buffers_are = p.buffers_are ∙ ap (λ (v : Verdict). buffers_after_report v s b) e;
  }

pub buffers_largest : (cells posts : List ℕ) → LargestBuffers cells posts → sizes (buffers_of cells posts []) ≡ eager_sizes
buffers_largest cells posts h = λ i. record { cells = h.cells_are i; posts = h.posts_are i; frames = 0 }

-- ---- the whole report
module _ (s cells posts text : List ℕ) where
  abbrev B : Buffers
  B = buffers_of cells posts []

  abbrev by : Bool → Report
  by f = cond f (delivered (leb (length (printed s)) (length text)) (printed s) text (buffers_after_report (verdict s) s B)) (whole unfit B text)

  pub other_cells : (length cells ≡ max_cells → ⊥) → after_report (Err Unfit) cells posts text ≡ reported s B text
  unfolding reported
  other_cells h = sym (ap (λ (f : Bool). by (f && eqb (length posts) max_posts)) (ne_eqb (length cells) max_cells h))

  pub other_posts : length cells ≡ max_cells → (length posts ≡ max_posts → ⊥) → after_report (Err Unfit) cells posts text ≡ reported s B text
  unfolding reported
  other_posts e h = sym (ap (λ (f : Bool). by (f && eqb (length posts) max_posts)) (eq-eqb (length cells) max_cells e)
      ∙ ap (λ (f : Bool). by (true && f)) (ne_eqb (length posts) max_posts h))

  pub all_reported : {cells' posts' text' : List ℕ} {d : Draft} {r : Result ℕ Undelivered} → length cells ≡ max_cells → length posts ≡ max_posts
      → Rendered s B (buffers_of cells' posts' []) d → Delivered (contents d) text r text' → after_report r cells' posts' text' ≡ reported s B text
  unfolding reported
  all_reported {cells' = cells'} {posts' = posts'} e f p q =
      q.leaves cells' posts'
      ∙ (λ i. delivered (leb (length (p.contents_are i)) (length text)) (p.contents_are i) text (p.buffers_are i))
      ∙ sym (ap (λ (f : Bool). by (f && eqb (length posts) max_posts)) (eq-eqb (length cells) max_cells e)
      ∙ ap (λ (f : Bool). by (true && f)) (eq-eqb (length posts) max_posts f))
