-- The program of a readable sheet with other numbers is that of the sheet with the numbers replaced, and runs as the sheet's own does where its number terms
-- stand for the numbers chosen. What turns a run back is the same of both.
use Rattle.std.specs.Prelude.{Bool, true, false, ◌&&◌, List, [], ◌∷◌, ◌++◌, ◌≡◌, refl, ℕ, zero, suc, ◌+◌, ◌%◌, ◌<◌, leb, eqb, length}
use Rattle.std.proofs.Common.{true≢false, sym, ap, ◌∙◌, subst, subst₂, arith, ltb-true, eqb-true}
use Rattle.std.proofs.Math.Option.{Option}
use Rattle.privileges.specs.Booleans.{and_right}
use Rattle.program.specs.Limits.{max_start}
use Rattle.program.specs.Bytes.{word16}
use Rattle.program.specs.Layout.{principals, authority, terms, guard_of, root, kind_byte, small, first, second, third}
use Rattle.program.specs.Formats.{Part, principal, Kind, Boolean, Number, Variable, Function, Letrec, Call, If, Check, Enable, Sign, Test, Sum, Difference, Less, Post, kind_of, format}
use Rattle.program.specs.Terms.{Term, number, node, tree_to, tree, program}
use Rattle.program.specs.Decoding.{part_ok, format_at, decoding_conditions}
use Rattle.program.specs.Screening.{clear, screen, unless}
use Rattle.program.proofs.Laws.Screening.{clear_none, none_append, none_cons, unless_none}
use Rattle.program.proofs.Laws.Readable.{WellFormed}
use Rattle.program.proofs.Laws.Trees.{Below, below, parts, root_lower}
use Rattle.semantics.specs.Values.{Result, ends}
use Rattle.semantics.specs.Meaning.{plain}
use Rattle.semantics.specs.Access.{lazy_control, eager_control}
use Rattle.semantics.specs.Runs.{Runner, eager, lazy, Request, Buffers, Sizes, sizes, stack, principals_known, start_ok, buffers_ok, limits_ok, run_conditions, initial, evaluation_over, evaluation, started, stopped, ran, counts, buffers_after, after_course}
use Rattle.intervals.specs.Pairs.{is_number}
use Rattle.intervals.specs.Claims.{chosen}
use Rattle.intervals.specs.Choosing.{with_numbers}
use Rattle.intervals.proofs.Laws.Sheets.{number_kind}
use Rattle.intervals.proofs.Laws.Bytes.{alike, number_is}
use Rattle.intervals.proofs.Laws.Reading.{same_principals, same_term_at, same_root, same_kind, same_small, same_first, same_second, same_third, same_authority, same_guard_of, same_conditions}
use Rattle.semantics.proofs.Laws.Related.{v_bool, v_num, v_closure, r_ends, r_stops}
use Rattle.intervals.proofs.Laws.Replacing.{Replaced, p_boolean, p_number, p_variable, p_function, p_letrec, p_call, p_if, p_check, p_enable, p_sign, p_test, p_binary, p_post, ReplacedResult, eager_agrees, eager_start, lazy_agrees, lazy_start, runs_replaced}

-- ---- one record over related terms
module _ (ρ : ℕ → ℕ) (count : ℕ) (G : ℕ → Option ℕ) (f g : ℕ → Term) (t : ℕ) (under : (y : ℕ) → y < t → Replaced ρ count (f y) (g y)) where
  node_replaced : (k : Kind) → (k ≡ Number → ⊥) → (x a b c : ℕ) → Below (format k) t a b c → ((format k).small ≡ principal → x < count)
      → Replaced ρ count (node G k t x a b c f) (node G k t x a b c g)
  node_replaced Boolean n x a b c v h = p_boolean
  node_replaced Number n x a b c v h = absurd (n refl)
  node_replaced Variable n x a b c v h = p_variable
  node_replaced Function n x a b c v h = p_function (under b (v.second_below refl))
  node_replaced Letrec n x a b c v h = p_letrec (under b (v.second_below refl)) (under c (v.third_below refl))
  node_replaced Call n x a b c v h = p_call (under a (v.first_below refl)) (under b (v.second_below refl))
  node_replaced If n x a b c v h = p_if (under a (v.first_below refl)) (under b (v.second_below refl)) (under c (v.third_below refl))
  node_replaced Check n x a b c v h = p_check (under a (v.first_below refl))
  node_replaced Enable n x a b c v h = p_enable (under a (v.first_below refl))
  node_replaced Sign n x a b c v h = p_sign (h refl) (under a (v.first_below refl))
  node_replaced Test n x a b c v h = p_test (under a (v.first_below refl)) (under b (v.second_below refl))
  node_replaced Sum n x a b c v h = p_binary (under a (v.first_below refl)) (under b (v.second_below refl))
  node_replaced Difference n x a b c v h = p_binary (under a (v.first_below refl)) (under b (v.second_below refl))
  node_replaced Less n x a b c v h = p_binary (under a (v.first_below refl)) (under b (v.second_below refl))
  node_replaced Post n x a b c v h = p_post (under a (v.first_below refl))

principal_part : (s : List ℕ) (t : ℕ) (p : Part) (x : ℕ) → part_ok s t p x ≡ true → p ≡ principal → x < principals s
principal_part s t p x h e = ltb-true x (principals s) (subst (λ (q : Part). part_ok s t q x ≡ true) e h)

module _ (ρ : ℕ → ℕ) (s : List ℕ) where
  abbrev new : List ℕ
  new = with_numbers ρ s

  -- ---- the whole tree
  module _ (w : WellFormed s) where
    pub number_first : (t : ℕ) → t < terms s → is_number s t ≡ true → first new t ≡ ρ t
    number_first t l e = (λ i. word16 new (same_term_at s new (alike ρ s) t i + 2)) ∙ number_is ρ s t l e (omega (arith, w.terms_inside))

    tree_replaced : (k t : ℕ) → t < terms s → t < k → Replaced ρ (principals s) (tree_to s k t) (tree_to new k t)
    tree_replaced zero t l h = absurd (omega arith)
    tree_replaced (suc k) t l h = go (is_number s t) refl (λ y g. tree_replaced k y (omega arith) (omega arith))
      where
        go : (b : Bool) → is_number s t ≡ b → ((y : ℕ) → y < t → Replaced ρ (principals s) (tree_to s k y) (tree_to new k y))
            → Replaced ρ (principals s) (tree_to s (suc k) t) (tree_to new (suc k) t)
        go true e under =
            let named : kind_of (kind_byte s t) ≡ Number = ap kind_of (eqb-true (kind_byte s t) 1 e) in
            let old : tree_to s (suc k) t ≡ number t (first s t) =
            λ i. node (guard_of s) (named i) t (small s t) (first s t) (second s t) (third s t) (λ x. tree_to s k x) in
            let replaced : tree_to new (suc k) t ≡ number t (ρ t) =
            (λ i. node (guard_of new) ((ap kind_of (same_kind s new (alike ρ s) t) ∙ named) i) t (small new t) (first new t) (second new t) (third new t)
            (λ x. tree_to new k x)) ∙ ap (number t) (number_first t l e) in
            subst₂ (Replaced ρ (principals s)) (sym old) (sym replaced) p_number
        go false e under =
            let a = alike ρ s in
            let replaced : tree_to new (suc k) t
            ≡ node (guard_of s) (kind_of (kind_byte s t)) t (small s t) (first s t) (second s t) (third s t) (λ x. tree_to new k x) =
            λ i. node (λ c. same_guard_of s new a c i) (kind_of (same_kind s new a t i)) t (same_small s new a t i) (same_first s new a t e i)
            (same_second s new a t i) (same_third s new a t i) (λ x. tree_to new k x) in
            subst (Replaced ρ (principals s) (tree_to s (suc k) t)) (sym replaced)
            (node_replaced ρ (principals s) (guard_of s) (λ x. tree_to s k x) (λ x. tree_to new k x) t under (kind_of (kind_byte s t))
            (λ q. true≢false (sym (number_kind s w t l q) ∙ e)) (small s t) (first s t) (second s t) (third s t) (below s w t l)
            (principal_part s t (format_at s t).small (small s t) (parts s w t l).small_ok))

    program_replaced : Replaced ρ (principals s) (program s) (program new)
    program_replaced =
        subst (λ (n : ℕ). Replaced ρ (principals s) (program s) (tree new n)) (sym (same_root s new (alike ρ s)))
        (tree_replaced (suc (root s)) (root s) (root_lower s w) (omega arith))

  -- ---- the run
  pub same_run_conditions : (q : Request) (z : Sizes) → run_conditions new q z ≡ run_conditions s q z
  same_run_conditions q z =
      let a = alike ρ s in
      λ i. same_conditions s new a i
      ++ unless 14 (leb (length q.start) max_start && eqb (length q.start % 2) 0 && principals_known (same_principals s new a i) (stack q.start))
      ∷ unless 15 (buffers_ok q.runner z) ∷ unless 16 (limits_ok q) ∷ []

  pub start_known : (q : Request) (z : Sizes) → screen (run_conditions s q z) ≡ clear → principals_known (principals s) (stack q.start) ≡ true
  start_known q z e =
      let n = (none_append (decoding_conditions s) _ (clear_none (run_conditions s q z) e)).1 in
      let ok : start_ok s q ≡ true = unless_none 14 (start_ok s q) (none_cons n).0 in
      and_right (leb (length q.start) max_start && eqb (length q.start % 2) 0) (principals_known (principals s) (stack q.start)) ok

  same_rights : (n : ℕ) → n < principals s → authority s n ≡ authority new n
  same_rights n h = sym (same_authority s new (alike ρ s) n h)

  pub evaluation_replaced : WellFormed s → (q : Request) (z : Sizes) → principals_known (principals s) (stack q.start) ≡ true → (r : Runner)
      → ReplacedResult ρ (principals s) (evaluation_over (chosen (λ at n. ρ at)) (plain q.enforce) r s q z) (evaluation r new q z)
  evaluation_replaced w q z k eager =
      runs_replaced ρ (principals s) (eager_control (authority s)) (eager_control (authority new))
      (eager_agrees (principals s) (authority s) (authority new) same_rights) q.enforce q.depth (program_replaced w) _ _
      (eager_start (principals s) (authority s) (authority new) same_rights (stack q.start) k (omega (arith, w.principals_least))) (initial q z)
  evaluation_replaced w q z k lazy =
      runs_replaced ρ (principals s) (lazy_control (authority s)) (lazy_control (authority new))
      (lazy_agrees (principals s) (authority s) (authority new) same_rights) q.enforce q.depth (program_replaced w) _ _
      (lazy_start (principals s) (authority s) (authority new) same_rights (stack q.start) k) (initial q z)

  -- results that differ in bodies of closures alone are told alike
  pub after_alike : (q : Request) (b : Buffers) {x y : Result} → ReplacedResult ρ (principals s) x y
      → after_course new q b (started y) ≡ after_course s q b (started x)
  after_alike q b (r_ends v_bool) = refl
  after_alike q b (r_ends v_num) = refl
  after_alike q b (r_ends {v} {u = u} (v_closure c e)) = λ i.
      record {
        answer = ran (stopped 18 (same_root s new (alike ρ s) i)) (counts q (sizes b) u);
        buffers = buffers_after q.runner b (started (ends v u));
      }
  after_alike q b r_stops = refl
