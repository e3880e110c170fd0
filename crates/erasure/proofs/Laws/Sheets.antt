-- Two sheets whose programs are related by erasure: the second is accepted with the first's type and no needs, and runs like it.
use Rattle.std.specs.Prelude.{Bool, true, false, ◌&&◌, List, [], ◌∷◌, ◌↔◌, ◌≡◌, refl, ℕ, zero, suc, ◌-◌, ◌/◌, ◌%◌, ◌<◌, leb, eqb, length}
use Rattle.std.proofs.Common.{sym, ap, ◌∙◌, subst, subst₂, arith}
use Rattle.privileges.specs.Laws.{⊆_antisym, ⊆_none}
use Rattle.program.specs.Limits.{max_start}
use Rattle.program.specs.Layout.{principals, authority, terms, root, Types, types_of}
use Rattle.program.specs.Terms.{program}
use Rattle.program.specs.Screening.{Condition, None, unless}
use Rattle.program.specs.Decoding.{decoding_conditions, decoding, Readable}
use Rattle.program.proofs.Laws.Screening.{clear_none, none_append, append_none}
use Rattle.program.proofs.Laws.Readable.{well_formed}
use Rattle.typing.specs.Verdicts.{accepted, verdict, SheetDerives}
use Rattle.typing.proofs.Theorems.{acceptance, accepted_exactly}
use Rattle.semantics.specs.Domains.{standard}
use Rattle.semantics.specs.Values.{empty, empty_log, Budget, budget, Result}
use Rattle.semantics.specs.Meaning.{Control, plain, eval}
use Rattle.semantics.specs.Access.{eager_control, lazy_control}
use Rattle.semantics.specs.Runs.{Runner, eager, lazy, Request, Buffers, sizes, stack, principals_known, buffers_ok, limits_ok, initial, evaluation, started, ran, outcome, left, counts, answer_of, stopped, in_order, buffers_after, run}
use Rattle.semantics.proofs.Theorems.{Starts, starts_exactly, course_clear, run_course, starts_screened}
use Rattle.soundness.specs.Claims.{GrantsSet, Comparable}
use Rattle.soundness.specs.Laws.Runs.{posts_listed, removed}
use Rattle.erasure.specs.Claims.{renumbered_outcome, RenumberedRun}
use Rattle.erasure.proofs.Laws.Erases.{Erases}
use Rattle.erasure.proofs.Laws.Typing.{Renames, derived}
use Rattle.semantics.proofs.Laws.Related.{v_bool, v_num, v_closure, r_ends, r_stops}
use Rattle.erasure.proofs.Laws.Runs.{ErasesResult, runs_erased}

-- the second sheet is the first one's lean sheet, with types renumbered by ρ and terms by ν
pub record Leaner (s s' : List ℕ) (ρ ν : ℕ → ℕ) : Type 0 where
  pub readable : Readable s'
  pub renames : Renames (types_of s) (types_of s') ρ
  pub erases : Erases ρ ν (program s) (program s')
  pub root_is : ν (root s) ≡ root s'
  pub same_principals : principals s' ≡ principals s

-- ---- "accepted with type unchanged and no needs"
base_kept : {T T' : Types} {ρ : ℕ → ℕ} → Renames T T' ρ → (τ : ℕ) → τ < 2 → ρ τ ≡ τ
base_kept R zero h = R.boolean_kept
base_kept R (suc zero) h = R.number_kept
base_kept R (suc (suc τ)) h = absurd (omega arith)

module _ (s s' : List ℕ) (ρ ν : ℕ → ℕ) (L : Leaner s s' ρ ν) where
  pub lean_derives : (τ N : ℕ) → τ < 2 → SheetDerives s τ N → SheetDerives s' τ 0
  lean_derives τ N l d =
      subst (λ x. SheetDerives s' x 0) (base_kept L.renames τ l)
      (derived (types_of s) (types_of s') ρ L.renames (authority s) (authority s') d L.erases)

  pub lean_accepted : (n τ N : ℕ) → verdict s ≡ accepted n τ N → verdict s' ≡ accepted (terms s') τ 0
  lean_accepted n τ N e =
      let a = acceptance s n τ N e in
      let d = lean_derives τ N a.root_type a.needs.derivation in
      let x = (accepted_exactly s' L.readable).1 (τ, 0, a.root_type, d) in
      let b = acceptance s' x.0 x.1 x.2 x.3 in
      let type : τ ≡ x.1 = b.needs.same_type τ 0 d in
      let none : x.2 ≡ 0 = ⊆_antisym x.2 0 (b.needs.least τ 0 d) (⊆_none x.2) in
      x.3 ∙ λ i. accepted (b.count i) (sym type i) (none i)

  -- ---- a run of the second is refused where one of the first is
  abbrev callers : (principals : ℕ) → Request → Buffers → List Condition
  callers count q b =
      unless 14 (leb (length q.start) max_start && eqb (length q.start % 2) 0 && principals_known count (stack q.start))
      ∷ unless 15 (buffers_ok q.runner (sizes b)) ∷ unless 16 (limits_ok q) ∷ []

  pub starts_alike : Readable s → (q : Request) (b : Buffers) → Starts s q b ↔ Starts s' q b
  unfolding decoding
  starts_alike r q b = (
    λ st. (starts_exactly s' q b).1 (append_none (clear_none (decoding_conditions s') L.readable)
        (subst (λ (n : ℕ). None (callers n q b)) (sym L.same_principals) (none_append (decoding_conditions s) _ ((starts_exactly s q b).0 st)).1)),
    λ st. (starts_exactly s q b).1 (append_none (clear_none (decoding_conditions s) r)
        (subst (λ (n : ℕ). None (callers n q b)) L.same_principals (none_append (decoding_conditions s') _ ((starts_exactly s' q b).0 st)).1)),
  )

  -- ---- the run
  module _ (x y : Request) (b d : Buffers) (c : Comparable x y b d) where
    -- the old one with checks passed over
    abbrev skipping : Request
    skipping = record { runner = x.runner; enforce = false; start = x.start; calls = x.calls; depth = x.depth }

    evaluated : (X Y : Control) (enforce : Bool) (p : X.State) (q : Y.State)
        → ErasesResult ρ ν (eval standard X (plain false) x.depth (program s) p empty (initial x (sizes b)))
        (eval standard Y (plain enforce) y.depth (program s') q empty (initial y (sizes d)))
    evaluated X Y enforce p q =
        subst (λ (z : Result). ErasesResult ρ ν (eval standard X (plain false) x.depth (program s) p empty (initial x (sizes b))) z)
        (λ i. eval standard Y (plain enforce) (c.limits.same_depth i) (program s') q empty
        (budget (c.limits.same_calls i) (c.limits.same_cells i / 8) (c.limits.same_posts i) empty_log))
        (runs_erased ρ ν X Y enforce x.depth L.erases p q (initial x (sizes b)))

    skipped_like : (r r' : Runner) → ErasesResult ρ ν (evaluation r s skipping (sizes b)) (evaluation r' s' y (sizes d))
    skipped_like eager eager = evaluated (eager_control (authority s)) (eager_control (authority s')) y.enforce _ _
    skipped_like eager lazy = evaluated (eager_control (authority s)) (lazy_control (authority s')) y.enforce _ _
    skipped_like lazy eager = evaluated (lazy_control (authority s)) (eager_control (authority s')) y.enforce _ _
    skipped_like lazy lazy = evaluated (lazy_control (authority s)) (lazy_control (authority s')) y.enforce _ _

    -- by demand 3 the old run is the run with checks passed over
    as_skipped : (n τ N : ℕ) → verdict s ≡ accepted n τ N → GrantsSet s x.start N → evaluation x.runner s x (sizes b)
        ≡ evaluation x.runner s skipping (sizes b)
    as_skipped n τ N e g = go x.enforce refl
      where
        go : (k : Bool) → x.enforce ≡ k → evaluation x.runner s x (sizes b) ≡ evaluation x.runner s skipping (sizes b)
        go true h =
            let a = acceptance s n τ N e in
            let same : Comparable x skipping b b = record {
              same_start = refl;
              limits = record { same_calls = refl; same_depth = refl; same_cells = refl; same_posts = refl };
            } in
            (removed s (well_formed s a.readable) τ N a.root_type a.needs.derivation x skipping b b same h refl g).same_result
        go false h = λ i. evaluation x.runner s
            (record { runner = x.runner; enforce = h i; start = x.start; calls = x.calls; depth = x.depth }) (sizes b)

    -- results related by erasure are told alike
    same_counts : (u : Budget) → counts y (sizes d) u ≡ counts x (sizes b) u
    same_counts (budget k m r l) = λ i.
        record {
          calls = sym c.limits.same_calls i - k;
          cells = sym c.limits.same_cells i / 8 - m;
          posts = length l.posts;
          saturated = l.saturated;
        }

    answer_like : {f g : Result} → ErasesResult ρ ν f g
        → RenumberedRun ν
        (record { answer = answer_of (root s) x (sizes b) (started f); buffers = buffers_after x.runner b (started f) })
        (record { answer = answer_of (root s') y (sizes d) (started g); buffers = buffers_after y.runner d (started g) })
    answer_like {f} {g} h = record {
      like_answer = λ i. ran (outcomes h i) ((same_counts (left g) ∙ ap (counts x (sizes b)) (lefts h)) i);
      same_posts = posts_listed (root s') y d (started g) ∙ ap in_order (lefts h) ∙ sym (posts_listed (root s) x b (started f));
    }
      where
        outcomes : {f g : Result} → ErasesResult ρ ν f g → outcome (root s') g ≡ renumbered_outcome ν (outcome (root s) f)
        outcomes (r_ends v_bool) = refl
        outcomes (r_ends v_num) = refl
        outcomes (r_ends (v_closure a e)) = ap (stopped 18) (sym L.root_is)
        outcomes r_stops = refl

        lefts : {f g : Result} → ErasesResult ρ ν f g → left g ≡ left f
        lefts (r_ends v) = refl
        lefts r_stops = refl

    pub lean_runs : (n τ N : ℕ) → verdict s ≡ accepted n τ N → GrantsSet s x.start N → Starts s x b → Starts s' y d
        → RenumberedRun ν (run s x b) (run s' y d)
    lean_runs n τ N e g sx sy =
        let rx = run_course s x b _ (course_clear s x b (starts_screened s x b sx)) in
        let ry = run_course s' y d _ (course_clear s' y d (starts_screened s' y d sy)) in
        subst₂ (RenumberedRun ν) (sym rx) (sym ry)
        (answer_like (subst (λ (z : Result). ErasesResult ρ ν z (evaluation y.runner s' y (sizes d))) (sym (as_skipped n τ N e g))
        (skipped_like x.runner y.runner)))
