-- The theorems of 02's W14: what operations on ranges give, by which causes a run over ranges stops, and that it contains the plain run for every choice.
-- Claims.antt says what the words mean.
use Rattle.std.specs.Prelude.{Bool, true, false, cond, List, ◌↔◌, ◌⊎◌, ◌≡◌, ℕ, suc, ◌-◌, ◌/◌, ◌<◌, ◌≤◌, leb, ltb, length}
use Rattle.std.proofs.Common.{true≢false, inl, inr, ⊎_elim, ap, ◌∙◌, subst, arith, leb-true, leb-false, lt-ltb, le-ltb}
use Rattle.std.proofs.Math.Option.{none, some}
use Rattle.std.proofs.Math.Path.{refl, sym, subst₂}
use Rattle.program.specs.Layout.{authority, terms, root}
use Rattle.program.specs.Terms.{program}
use Rattle.program.specs.Screening.{Screening, clear, found, screen, First}
use Rattle.program.proofs.Laws.Screening.{clear_none, none_clear, none_append, none_cons, unless_none, found_first, first_found}
use Rattle.program.proofs.Laws.Readable.{WellFormed}
use Rattle.program.proofs.Laws.Guards.{program_unguarded}
use Rattle.semantics.specs.Domains.{single}
use Rattle.semantics.specs.Values.{Budget, budget, ResultOf, Result}
use Rattle.semantics.specs.Meaning.{plain}
use Rattle.semantics.specs.Access.{lazy_control, eager_control}
use Rattle.semantics.specs.Runs.{Runner, eager, lazy, Request, Buffers, Sizes, sizes, run_conditions, evaluation_over, rejected, started, settled, OutcomeOf, Outcome, stopped, RunCounts, AnswerOf, refused, ran, outcome, left, counts, in_order, AfterOf, after_course, course, run}
use Rattle.semantics.proofs.Laws.Starting.{clear_well, evaluation_spends, after_sizes, clear_few, counts_in}
use Rattle.semantics.specs.Claims.{IfAt, Few}
use Rattle.semantics.proofs.Laws.Stops.{evaluation_stop, stop_cases}
use Rattle.semantics.proofs.Laws.Saturation.{saturated_in}
use Rattle.soundness.specs.Laws.Runs.{posts_listed}
use Rattle.intervals.specs.Intervals.{Interval, sum_of, difference_of, less_of, intervals}
use Rattle.intervals.specs.Pairs.{is_number, pair_of, pairs_ok, over_intervals}
use Rattle.intervals.specs.Runs.{interval_conditions, interval_course, interval_run}
use Rattle.intervals.specs.Claims.{Inside, Words, Choice, chosen, chosen_course, chosen_run, inside_number, inside_decided, inside_undecided, InsideOutcome, inside_end, same_stop, InsideAnswer, inside_answer, InsidePosts, no_posts, next_post, Contains, Decided}
use Rattle.intervals.proofs.Laws.Arithmetic.{Agrees, agrees_known, agrees_none, agreed, sum_inside, difference_inside, less_agrees}
use Rattle.intervals.proofs.Laws.Pairs.{pair_ordered}
use Rattle.intervals.proofs.Laws.Containment.{InsideBudget, inside_budget, v_truth, v_number, v_closure, InsideResult, r_ends, r_stops, r_undecided, inside}
use Rattle.intervals.proofs.Laws.Counts.{evaluation_uncounted}
use Rattle.intervals.proofs.Laws.Sheets.{version_1, program_fits, inside_reverse}

-- ---- Operations on ranges
-- a range that has a lowest not above its highest
abbrev pub Nonempty : Interval → Type 0
Nonempty i = i.low ≤ i.high

-- "a lowest above its highest … is 35": once the pairs have passed it, no number term's range is empty, and no sum or difference of such ranges is
pub pair_nonempty : (s ps : List ℕ) → pairs_ok s ps ≡ true → (t : ℕ) → t < terms s → is_number s t ≡ true → Nonempty (pair_of s ps t)
pair_nonempty s ps ok t l e = pair_ordered s ps ok t l e

pub stays_nonempty : (i j : Interval) → Nonempty i → Nonempty j → Nonempty (sum_of i j) × Nonempty (difference_of i j)
stays_nonempty i j hi hj = (omega (arith, hi, hj), omega (arith, hi, hj))

-- k is "the range from the least to the greatest of its results … over all pairs of values from its two ranges"
pub record Spans (operation : ℕ → ℕ → ℕ) (i j k : Interval) : Type 0 where
  pub every : (m n : ℕ) → Inside i m → Inside j n → Inside k (operation m n)
  pub least : (m : ℕ) × (n : ℕ) × Inside i m × Inside j n × (operation m n ≡ k.low)
  pub greatest : (m : ℕ) × (n : ℕ) × Inside i m × Inside j n × (operation m n ≡ k.high)

lowest : (i : Interval) → Nonempty i → Inside i i.low
lowest i h = record { least = omega arith; most = h }

highest : (i : Interval) → Nonempty i → Inside i i.high
highest i h = record { least = h; most = omega arith }

pub sum_spans : (i j : Interval) → Nonempty i → Nonempty j → Spans single.sum i j (sum_of i j)
sum_spans i j hi hj = record {
  every = λ m n hm hn. sum_inside i j m n hm hn;
  least = (i.low, j.low, lowest i hi, lowest j hj, refl);
  greatest = (i.high, j.high, highest i hi, highest j hj, refl);
}

pub difference_spans : (i j : Interval) → Nonempty i → Nonempty j → Spans single.difference i j (difference_of i j)
difference_spans i j hi hj = record {
  every = λ m n hm hn. difference_inside i j m n hm hn;
  least = (i.low, j.high, lowest i hi, highest j hj, refl);
  greatest = (i.high, j.low, highest i hi, lowest j hj, refl);
}

-- "Less is undecided unless every pair of values from its two ranges agrees": it is yes or no exactly if every pair says so
pub less_decides : (i j : Interval) → Nonempty i → Nonempty j → (b : Bool)
    → (less_of i j ≡ some b) ↔ ((m n : ℕ) → Inside i m → Inside j n → single.less m n ≡ b)
less_decides i j hi hj b = (
  λ e m n hm hn. agreed (subst (λ t. Agrees t (ltb m n)) e (less_agrees i j m n hm hn)),
  λ h. go h (ltb i.high j.low) refl (leb j.high i.low) refl,
)
  where
    go : ((m n : ℕ) → Inside i m → Inside j n → ltb m n ≡ b) → (x : Bool) → ltb i.high j.low ≡ x → (y : Bool) → leb j.high i.low ≡ y
        → cond x (some true) (cond y (some false) none) ≡ some b
    go h true e y f = ap some (sym e ∙ h i.high j.low (highest i hi) (lowest j hj))
    go h false e true f =
        ap some (sym (le-ltb i.low j.high (leb-true j.high i.low f)) ∙ h i.low j.high (lowest i hi) (highest j hj))
    go h false e false f =
        let low = h i.high j.low (highest i hi) (lowest j hj) in
        let high = h i.low j.high (lowest i hi) (highest j hj) in
        absurd (true≢false (sym (lt-ltb i.low j.high (leb-false j.high i.low f)) ∙ high ∙ sym low ∙ e))

-- ---- When a run over ranges is refused
ran≢refused : {c p : ℕ} {o : OutcomeOf intervals} {k : RunCounts} {A : Type 0} → ran o k ≡ refused c p → A
ran≢refused e = absurd (let z : ◌≡◌ {A = ℕ} 0 1 = cc in omega arith)

module _ (s ps : List ℕ) (q : Request) (b : Buffers) where
  abbrev conditions : Screening
  conditions = screen (interval_conditions s ps q (sizes b))

  abbrev result : ResultOf intervals
  result = evaluation_over (over_intervals s ps) (plain q.enforce) q.runner s q (sizes b)

  pub run_clear : conditions ≡ clear → interval_run s ps q b ≡ after_course s q b (started result)
  unfolding interval_run interval_course
  run_clear e = λ i. after_course s q b (settled (e i) (λ _. result))

  pub run_found : (c p : ℕ) → conditions ≡ found c p → interval_run s ps q b ≡ after_course s q b (rejected c p)
  unfolding interval_run interval_course
  run_found c p e = λ i. after_course s q b (settled (e i) (λ _. result))

  abbrev answer_is : AnswerOf intervals → Type 0
  answer_is a = (interval_run s ps q b).answer ≡ a

  answered : {a : AfterOf intervals} → interval_run s ps q b ≡ a → answer_is a.answer
  answered e = ap (λ (x : AfterOf intervals). x.answer) e

  refused_found : (c p : ℕ) (x : Screening) → conditions ≡ x → answer_is (refused c p) → x ≡ found c p
  refused_found c p clear h e = ran≢refused (sym (answered (run_clear h)) ∙ e)
  refused_found c p (found d r) h e =
      let g : refused d r ≡ refused c p = sym (answered (run_found d r h)) ∙ e in
      cc

  -- exactly when a condition of the plain run or 35 is found, and the first of them is told
  pub interval_refused : (c p : ℕ) → answer_is (refused c p) ↔ First c p (interval_conditions s ps q (sizes b))
  interval_refused c p = (
    λ e. found_first (interval_conditions s ps q (sizes b)) c p (refused_found c p conditions refl e),
    λ f. answered (run_found c p (first_found f)),
  )

  -- "with every buffer untouched"
  pub interval_untouched : (c p : ℕ) → answer_is (refused c p) → (interval_run s ps q b).buffers ≡ b
  interval_untouched c p e = ap (λ (x : AfterOf intervals). x.buffers) (run_found c p (refused_found c p conditions refl e))

  ran_clear : (o : OutcomeOf intervals) (k : RunCounts) (x : Screening) → conditions ≡ x → answer_is (ran o k) → x ≡ clear
  ran_clear o k clear h e = refl
  ran_clear o k (found c p) h e = ran≢refused (sym e ∙ answered (run_found c p h))

  -- the plain run's conditions are among them
  plain_clear : conditions ≡ clear → screen (run_conditions s q (sizes b)) ≡ clear
  plain_clear e = none_clear (none_append (run_conditions s q (sizes b)) _ (clear_none (interval_conditions s ps q (sizes b)) e)).0

  -- ---- By which causes it stops
  -- 02, W14: "An if with an undecided condition stops by 36 at the if"; every other stop is one of 01's, 17 to 22.
  pub interval_stopped_by : (c t : ℕ) (k : RunCounts) → answer_is (ran (stopped c t) k) → ((17 ≤ c) × (c ≤ 22)) ⊎ ((c ≡ 36) × IfAt s t)
  interval_stopped_by c t k e =
      let clearly = ran_clear (stopped c t) k conditions refl e in
      let same : ran _ _ ≡ ran (stopped c t) k = sym (answered (run_clear clearly)) ∙ e in
      let stop = evaluation_stop s (clear_well s q b (plain_clear clearly)) (over_intervals s ps) (plain q.enforce) q (sizes b) q.runner c t cc in
      ⊎_elim (λ h. inl h) (λ u. inr (u.0, u.1)) (stop_cases s c t stop)

-- ---- What a run over ranges leaves and counts
module _ (s ps : List ℕ) (q : Request) (b : Buffers) where
  -- every buffer keeps its length
  pub interval_lengths : sizes (interval_run s ps q b).buffers ≡ sizes b
  unfolding interval_run interval_course
  interval_lengths =
      after_sizes q b (screen (interval_conditions s ps q (sizes b))) (evaluation_over (over_intervals s ps) (plain q.enforce) q.runner s q (sizes b))
      (evaluation_spends (over_intervals s ps) (plain q.enforce) q.runner s q (sizes b))

  abbrev budget_left : Budget
  budget_left = left (evaluation_over (over_intervals s ps) (plain q.enforce) q.runner s q (sizes b))

  -- how large the counts of a run are that starts
  pub few_clear : screen (interval_conditions s ps q (sizes b)) ≡ clear → Few (counts q (sizes b) budget_left)
  few_clear e =
      clear_few s q b (plain_clear s ps q b e) budget_left (evaluation_spends (over_intervals s ps) (plain q.enforce) q.runner s q (sizes b))
      (omega (arith, evaluation_uncounted s ps (plain q.enforce) q.runner q (sizes b)))

  module _ (o : OutcomeOf intervals) (k : RunCounts) (e : (interval_run s ps q b).answer ≡ ran o k) where
    all_clear : screen (interval_conditions s ps q (sizes b)) ≡ clear
    all_clear = ran_clear s ps q b o k (conditions s ps q b) refl e

    counts_are : counts q (sizes b) budget_left ≡ k
    counts_are = ap (counts_in k) (sym (answered s ps q b (run_clear s ps q b all_clear)) ∙ e)

    -- "Held results aren't counted."
    pub interval_uncounted : k.saturated ≡ 0
    interval_uncounted =
        ap (λ (x : RunCounts). x.saturated) (sym counts_are) ∙ go budget_left (evaluation_uncounted s ps (plain q.enforce) q.runner q (sizes b))
      where
        go : (u : Budget) → saturated_in u ≡ 0 → (counts q (sizes b) u).saturated ≡ 0
        go (budget c d r l) h = h

    -- how large the others are
    pub interval_few : Few k
    interval_few = subst Few counts_are (few_clear all_clear)

-- ---- A run over ranges contains the plain run
-- the run of a sheet is the plain run for its own numbers
pub own_numbers : (s : List ℕ) (q : Request) (b : Buffers) → chosen_run (λ at n. n) s q b ≡ run s q b
unfolding chosen_run chosen_course run course
own_numbers s q b = refl

-- There is a choice wherever the pairs have passed 35: the lowest of each. So what is said of every choice (contains, and contains_plain of SheetTheorems.antt)
-- is said of something.
pub a_choice : (s ps : List ℕ) → pairs_ok s ps ≡ true → Choice s ps (λ t n. (pair_of s ps t).low)
a_choice s ps ok = record { inside = λ t l e. lowest (pair_of s ps t) (pair_nonempty s ps ok t l e) }

same_length : {xs ys : List ℕ} → InsidePosts xs ys → length xs ≡ length ys
same_length no_posts = refl
same_length (next_post l h p) = ap suc (same_length p)

module _ (L : ℕ → Interval) (ρ : (at n : ℕ) → ℕ) (r : ℕ) where
  abbrev Not36 : ResultOf intervals → Type 0
  Not36 x = (t : ℕ) → outcome r x ≡ stopped 36 t → ⊥

  outcome_inside : {x : ResultOf intervals} {y : Result} → InsideResult L ρ x y → Not36 x → InsideOutcome (outcome r x) (outcome r y)
  outcome_inside (r_ends (v_truth agrees_known) u) n = inside_end inside_decided
  outcome_inside (r_ends (v_truth agrees_none) u) n = inside_end inside_undecided
  outcome_inside (r_ends (v_number w) u) n = inside_end (inside_number w.inside)
  outcome_inside (r_ends (v_closure c p e) u) n = same_stop
  outcome_inside (r_stops u) n = same_stop
  outcome_inside (r_undecided {at}) n = absurd (n at refl)

  left_inside : {x : ResultOf intervals} {y : Result} → InsideResult L ρ x y → Not36 x → InsideBudget (left x) (left y)
  left_inside (r_ends v u) n = u
  left_inside (r_stops u) n = u
  left_inside (r_undecided {at}) n = absurd (n at refl)

module _ (s : List ℕ) (q : Request) (b d : Buffers) (z : sizes b ≡ sizes d) where
  counted : {u v : Budget} → InsideBudget u v → {o : OutcomeOf intervals} {p : Outcome} → InsideOutcome o p
      → InsideAnswer (ran o (counts q (sizes b) u)) (ran p (counts q (sizes d) v))
  counted (inside_budget {c = c} {d = n} p) h = inside_answer h refl (λ i. (z i).cells / 8 - n) (same_length p)

  listed : {u v : Budget} → InsideBudget u v → InsidePosts (in_order u) (in_order v)
  listed (inside_budget p) = inside_reverse p

  contained : (x : ResultOf intervals) (y : Result) → InsideBudget (left x) (left y) → InsideOutcome (outcome (root s) x) (outcome (root s) y)
      → Contains (after_course s q b (started x)) (after_course s q d (started y))
  contained x y u h = record {
    answers = counted u h;
    posts = subst₂ InsidePosts (sym (posts_listed (root s) q b (started x))) (sym (posts_listed (root s) q d (started y))) (listed u);
  }

module _ (s ps : List ℕ) (ρ : (at n : ℕ) → ℕ) (words : Words ps) (c : Choice s ps ρ) (q : Request) where
  evaluation_inside : WellFormed s → pairs_ok s ps ≡ true → (r : Runner) (z : Sizes)
      → InsideResult (pair_of s ps) ρ (evaluation_over (over_intervals s ps) (plain q.enforce) r s q z) (evaluation_over (chosen ρ) (plain q.enforce) r s q z)
  evaluation_inside w ok eager z =
      inside (pair_of s ps) ρ (eager_control (authority s)) (plain q.enforce) q.depth (program s) (program_fits s ps ρ w words c)
      (program_unguarded s w (version_1 s ps ok)) _ (inside_budget no_posts)
  evaluation_inside w ok lazy z =
      inside (pair_of s ps) ρ (lazy_control (authority s)) (plain q.enforce) q.depth (program s) (program_fits s ps ρ w words c)
      (program_unguarded s w (version_1 s ps ok)) _ (inside_budget no_posts)

  -- For every bytes and pairs of 16-bit numbers, every choice, and buffers of the same lengths, whatever they hold: unless it is refused or stops by 36, the
  -- run over ranges contains the plain run.
  pub contains : (b d : Buffers) → sizes b ≡ sizes d → Decided (interval_run s ps q b) → Contains (interval_run s ps q b) (chosen_run ρ s q d)
  unfolding chosen_run chosen_course
  contains b d z h =
      let e = ran_clear s ps q b h.result h.made (conditions s ps q b) refl h.ran_so in
      let n = none_append (run_conditions s q (sizes b)) _ (clear_none (interval_conditions s ps q (sizes b)) e) in
      let ok = unless_none 35 (pairs_ok s ps) (none_cons n.1).0 in
      let clearly : screen (run_conditions s q (sizes b)) ≡ clear = none_clear n.0 in
      let x = evaluation_over (over_intervals s ps) (plain q.enforce) q.runner s q (sizes b) in
      let y = evaluation_over (chosen ρ) (plain q.enforce) q.runner s q (sizes b) in
      let same_answer : ran (outcome (root s) x) (counts q (sizes b) (left x)) ≡ ran h.result h.made =
      sym (answered s ps q b (run_clear s ps q b e)) ∙ h.ran_so in
      let chosen-run : chosen_run ρ s q d ≡ after_course s q d (started y) =
      (λ i. after_course s q d (chosen_course ρ s q (sym z i))) ∙ (λ i. after_course s q d (settled (clearly i) (λ _. y))) in
      let same : outcome (root s) x ≡ h.result = cc in
      let not_36 : Not36 (pair_of s ps) ρ (root s) x = λ t g. h.not_36 t (sym same ∙ g) in
      let related = evaluation_inside (clear_well s q b clearly) ok q.runner (sizes b) in
      subst₂ Contains (sym (run_clear s ps q b e)) (sym chosen-run)
      (contained s q b d z x y (left_inside (pair_of s ps) ρ (root s) related not_36) (outcome_inside (pair_of s ps) ρ (root s) related not_36))
