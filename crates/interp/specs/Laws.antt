-- From a tally to the whole run, over any domain of values, and what a run starts with. For the proofs of the runners; nothing here has to be believed.
use Rattle.std.specs.Prelude.{true, List, [], ◌∷◌, ◌≡◌, refl, ℕ, zero, suc, ◌-◌, ◌≤◌, ltb, length, get_or, replicate}
use Rattle.std.proofs.Common.{ap, ◌∙◌, subst, arith, ltb-true}
use Rattle.std.proofs.lemmas.List.{length-replicate}
use Rattle.privileges.specs.Booleans.{and_left, and_right}
use Rattle.privileges.specs.Sets.{meet, union}
use Rattle.program.specs.Limits.{max_terms, max_evaluations}
use Rattle.program.specs.Layout.{principals, authority, root}
use Rattle.program.specs.Records.{CountsOf, authority_record}
use Rattle.program.proofs.Laws.Readable.{WellFormed}
use Rattle.program.proofs.Laws.Records.{authority_is}
use Rattle.program.specs.declared.records.Counts.{Counts}
use Rattle.traces.specs.Traces.{Event}
use Rattle.semantics.specs.Domains.{Domain}
use Rattle.semantics.specs.Values.{Budget, budget, ResultOf}
use Rattle.semantics.specs.Access.{Frame, privs}
use Rattle.semantics.specs.Runs.{Request, Buffers, Sizes, sizes, stack, principals_known, started, RunCounts, OutcomeOf, ran, left, counts, AfterOf, answer_of, cleared_frames, buffers_after}
use Rattle.access.specs.declared.Mode.{Mode}
use Rattle.access.specs.Access.{packed}
use Rattle.termtable.specs.Table.{Empty}
use Rattle.machine.specs.Steps.{wrapped}
use Rattle.machine.specs.Store.{Done}
use Rattle.refinement.specs.Claims.{wrapped_counts, RefinedBy}
use Rattle.interp.specs.Answers.{counts_model, buffers_of}
use Rattle.interp.specs.Internal.{StartAccess, root_done, Tallied}
use Rattle.interp.specs.declared.answer.Tally.{Tally}

-- a table of zeros is an empty one
zero_at : (n t : ℕ) → ◌≡◌ {A = ℕ} (get_or (replicate n 0) t 0) 0
zero_at zero t = refl
zero_at (suc n) zero = refl
zero_at (suc n) (suc t) = zero_at n t

pub empty_table : (l : List ℕ) → l ≡ replicate max_terms 0 → Empty l
empty_table l e = record { long = ap length e ∙ length-replicate {A = ℕ} max_terms 0; zero_at = λ t. ap (λ (x : List ℕ). get_or x t 0) e ∙ zero_at max_terms t }

-- ---- what an eager run holds at its start
pub same_privs : (s : List ℕ) → WellFormed s → (fs : List Frame) → principals_known (principals s) fs ≡ true
    → privs (authority_record s) fs ≡ privs (authority s) fs
same_privs s w [] h = refl
same_privs s w (f ∷ fs) h =
    let low : ltb f.principal (principals s) ≡ true = search and_left in
    let rest : principals_known (principals s) fs ≡ true = search (and_left, and_right) in
    λ i. meet (authority_is s w f.principal (ltb-true f.principal (principals s) low) i) (union f.enabled (same_privs s w fs rest i))

module _ {s start : List ℕ} {access : ℕ} (w : WellFormed s) (a : StartAccess s start access) where
  pub access_authorised : a.authorised ≡ authority s 0
  access_authorised = a.authorised_is ∙ authority_is s w 0 (omega (arith, w.principals_least))

  pub access_is : principals_known (principals s) (stack start) ≡ true → access ≡ packed a.authorised (privs (authority s) (stack start))
  access_is h = a.access_is ∙ ap (packed a.authorised) (a.granted_is ∙ same_privs s w (stack start) h)

-- ---- the root by its number in the sheet, and another number in the place of the access that it is
pub tallied_at : {s : List ℕ} {c : Counts} → CountsOf s c → (terms : List ℕ) (mode : Mode) (calls depth : ℕ) {access a : ℕ} (b : Buffers) (noted : List ℕ)
    {t : Tally} {b' : Buffers} {noted' : List ℕ} → access ≡ a → Tallied calls (root_done terms (c.terms - 1) mode access calls depth b noted) t b' noted'
    → Tallied calls (root_done terms (root s) mode a calls depth b noted) t b' noted'
tallied_at {s} k terms mode calls depth {access} b noted {t} {b'} {noted'} e v =
    subst (λ x. Tallied calls (root_done terms (root s) mode x calls depth b noted) t b' noted') e
    (subst (λ n. Tallied calls (root_done terms n mode access calls depth b noted) t b' noted') (ap (λ (n : ℕ). n - 1) k.terms_are) v)

-- ---- a run that starts: `store` is what the frame store holds when evaluation begins
-- the counter of saturated results has room for every count that is told
unwrapped : (k : RunCounts) → k.saturated ≤ max_evaluations → wrapped_counts k ≡ k
unwrapped k f =
    let same : wrapped k.saturated ≡ k.saturated = omega (arith, f) in
    λ i. record { calls = k.calls; cells = k.cells; posts = k.posts; saturated = same i }

module _ {D : Domain} (root₀ : ℕ) (q : Request) (cells posts frames store : List ℕ) (x : ResultOf D) where
  -- counts do not depend on the frame store
  same_counts_made : (u : Budget) → counts q (sizes (buffers_of cells posts store)) u ≡ counts q (sizes (buffers_of cells posts frames)) u
  same_counts_made (budget c d r log) = refl

  abbrev over : AfterOf D
  over = record {
    answer = answer_of root₀ q (sizes (buffers_of cells posts frames)) (started x);
    buffers = buffers_after q.runner (buffers_of cells posts frames) (started x);
  }

  pub tallied_after : (decodes : (root word : ℕ) → OutcomeOf D) → (counts q (sizes (buffers_of cells posts frames)) (left x)).saturated ≤ max_evaluations
      → {noted noted' : List ℕ} {events : List Event} {d : Done} {t : Tally} {cells' posts' frames' last : List ℕ}
      → Tallied q.calls d t (buffers_of cells' posts' frames') noted'
      → RefinedBy decodes root₀ q (buffers_of cells posts store) noted d x events → last ≡ cleared_frames q.runner frames
      → record { answer = ran (decodes root₀ t.word) (counts_model t.made); buffers = buffers_of cells' posts' last } ≡ over
  tallied_after decodes f v R l = λ i. record {
    answer = ran
        ((ap (decodes root₀) v.word_is ∙ R.same_outcome) i)
        ((v.made_is ∙ R.same_counts ∙ ap wrapped_counts (same_counts_made (left x)) ∙ unwrapped _ f) i);
    buffers = buffers_of
        ((v.cells_are ∙ ap (λ (z : Sizes). replicate z.cells 0) R.same_sizes) i)
        ((v.posts_are ∙ R.same_posts) i)
        (l i);
  }
