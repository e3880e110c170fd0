-- Whole runs of either runner are runs of the eager one, and results that are the same give the same answer and posts.
use Rattle.std.specs.Prelude.{Bool, true, false, ◌&&◌, List, [], ◌∷◌, ◌++◌, reverse, ◌≡◌, refl, ℕ, ◌-◌, ◌/◌, ◌%◌, ◌<◌, leb, ltb, eqb, length, drop, take}
use Rattle.std.proofs.Common.{true≢false, sym, ap, ◌∙◌, subst}
use Rattle.std.proofs.lemmas.List.{length-reverse}
use Rattle.std.proofs.Math.Seq.{take-append_seam}
use Rattle.std.proofs.lemmas.Bool.{lt-leb}
use Rattle.program.specs.Limits.{max_start, max_cells, max_posts, max_calls, max_depth}
use Rattle.privileges.specs.Sets.{◌⊆◌}
use Rattle.program.specs.Layout.{principals, types, authority, root, types_of}
use Rattle.program.specs.Terms.{program}
use Rattle.program.specs.Screening.{clear, screen, unless}
use Rattle.program.specs.Decoding.{decoding_conditions, decoding, Readable}
use Rattle.program.proofs.Laws.Screening.{clear_none, none_clear, none_append}
use Rattle.program.proofs.Laws.Readable.{WellFormed}
use Rattle.program.proofs.Laws.Trees.{program_signed, program_standard}
use Rattle.typing.specs.Verdicts.{SheetDerives}
use Rattle.typing.proofs.Laws.Subtyping.{sub_is_fun}
use Rattle.semantics.specs.Domains.{Domain, standard}
use Rattle.semantics.specs.Values.{bool, num, closure, empty, empty_log, Budget, budget, Result, ends, stops}
use Rattle.semantics.specs.Meaning.{Mode, plain, eval}
use Rattle.semantics.specs.Access.{privs, rights, eager_control}
use Rattle.semantics.specs.Runs.{Runner, eager, lazy, Request, Buffers, Sizes, sizes, stack, principals_known, frames_ok, run_conditions, initial, evaluation_in, evaluation, CourseOf, rejected, started, ran, outcome, left, counts, answer_of, in_order, course_posts, buffers_after, AfterOf}
use Rattle.semantics.proofs.Laws.Access.{privs_chk, eager_lazy}
use Rattle.soundness.specs.Claims.{GrantsSet, SameLimits, Comparable, posts_of, SameRun, Proper}
use Rattle.soundness.specs.Laws.Safety.{Base, Safe, SafelyAlike, checks_removed}

-- the eager evaluation of a request, in any mode; and from another start
abbrev pub eagerly_from : List ℕ → (start : List ℕ) → Request → Sizes → Mode → Result
eagerly_from s start q z M =
    eval standard (eager_control (authority s)) M q.depth (program s) (rights 0 (privs (authority s) (stack start))) empty (initial q z)

abbrev pub eagerly : List ℕ → Request → Sizes → Mode → Result
eagerly s q z M = eagerly_from s q.start q z M

-- requests with the same limits are evaluated alike from the same start
pub same_limited : (s : List ℕ) (x y : Request) (b d : Buffers) → SameLimits x y b d → (start : List ℕ) (M : Mode)
    → eagerly_from s start x (sizes b) M ≡ eagerly_from s start y (sizes d) M
same_limited s x y b d c start M = λ i.
    eval standard (eager_control (authority s)) M (c.same_depth i) (program s) (rights 0 (privs (authority s) (stack start))) empty
    (budget (c.same_calls i) (c.same_cells i / 8) (c.same_posts i) empty_log)

-- ---- comparable requests
module _ (s : List ℕ) (x y : Request) (b d : Buffers) (c : Comparable x y b d) where
  -- are turned back alike, if both have the frame store that their runners ask for
  pub same_conditions : frames_ok x.runner (length b.frames) ≡ frames_ok y.runner (length d.frames) → run_conditions s x (sizes b)
      ≡ run_conditions s y (sizes d)
  same_conditions f = λ i.
      decoding_conditions s
      ++ unless 14 (leb (length (c.same_start i)) max_start && eqb (length (c.same_start i) % 2) 0 && principals_known (principals s) (stack (c.same_start i)))
      ∷ unless 15 (leb (c.limits.same_cells i) max_cells && leb (c.limits.same_posts i) max_posts && f i)
      ∷ unless 16 (leb (c.limits.same_calls i) max_calls && leb (c.limits.same_depth i) max_depth) ∷ []

  -- and the eager runner evaluates them alike
  pub same_eagerly : (M : Mode) → eagerly s x (sizes b) M ≡ eagerly s y (sizes d) M
  same_eagerly M =
      same_limited s x y b d c.limits x.start M ∙ λ i. eagerly_from s (c.same_start i) y (sizes d) M

-- ---- the same results are told alike
abbrev whole : {D : Domain} (root : ℕ) → Request → Buffers → CourseOf D → AfterOf D
whole r q b x = record { answer = answer_of r q (sizes b) x; buffers = buffers_after q.runner b x }

-- the posts made are the first entries of the list, as many as are told
pub posts_listed : {D : Domain} (r : ℕ) (q : Request) (b : Buffers) (x : CourseOf D) → posts_of (whole r q b x) ≡ course_posts x
posts_listed r q b (rejected c p) = refl
posts_listed r q b (started x) = go (left x)
  where
    go : (u : Budget) → take (counts q (sizes b) u).posts (in_order u ++ drop (length (in_order u)) b.posts) ≡ in_order u
    go (budget k d m l) =
        let ps = l.posts in
        ap (λ (n : ℕ). take n (reverse ps ++ drop (length (reverse ps)) b.posts)) (sym (length-reverse ps)) ∙ take-append_seam (reverse ps) _

pub same_whole : (r : ℕ) (x y : Request) (b d : Buffers) → SameLimits x y b d → (f g : Result) → f ≡ g
    → SameRun (whole r x b (started f)) (whole r y d (started g))
same_whole r x y b d c f g e = record {
  same_answer = λ i. ran (outcome r (e i)) (same_made (left (e i)) i);
  same_posts = posts_listed r x b (started f) ∙ ap (λ (z : Result). in_order (left z)) e ∙ sym (posts_listed r y d (started g));
}
  where
    same_made : (u : Budget) → counts x (sizes b) u ≡ counts y (sizes d) u
    same_made (budget k d m l) = λ i.
        record { calls = c.same_calls i - k; cells = c.same_cells i / 8 - d; posts = length l.posts; saturated = l.saturated }

-- ---- a run that starts is one of a readable sheet
pub clear_readable : (s : List ℕ) (q : Request) (z : Sizes) → screen (run_conditions s q z) ≡ clear → Readable s
unfolding decoding
clear_readable s q z e = none_clear (none_append (decoding_conditions s) _ (clear_none (run_conditions s q z) e)).0

-- Either runner's evaluation is the eager one's: the program is a sign.
pub as_eager : (s : List ℕ) → WellFormed s → (M : Mode) (q : Request) (z : Sizes) (r : Runner) → evaluation_in M r s q z ≡ eagerly s q z M
as_eager s w M q z eager = refl
as_eager s w M q z lazy =
    sym (eager_lazy (authority s) M q.depth (program s) (program_signed s w) (rights 0 (privs (authority s) (stack q.start)))
    (stack q.start)
    (privs_chk (authority s) (stack q.start)) empty (initial q z))

pub same_evaluation : (s : List ℕ) → WellFormed s → (M : Mode) (x y : Request) (b d : Buffers) → Comparable x y b d
    → evaluation_in M x.runner s x (sizes b) ≡ evaluation_in M y.runner s y (sizes d)
same_evaluation s w M x y b d c =
    as_eager s w M x (sizes b) x.runner ∙ same_eagerly s x y b d c M ∙ sym (as_eager s w M y (sizes d) y.runner)

-- ---- safe results are proper
base_types : (s : List ℕ) → Base (types_of s)
base_types s = record { bool_base = refl; num_base = refl }

low_base : (s : List ℕ) (τ : ℕ) → τ < 2 → (types_of s).is_fun τ ≡ false
low_base s τ h = ap (λ (b : Bool). b && ltb τ (types s)) (lt-leb 2 τ h)

safe_proper : (s : List ℕ) (τ : ℕ) → τ < 2 → (q : Request) (z : Sizes) (x : Result) → Safe (types_of s) (authority s) (base_types s) τ x
    → Proper τ (answer_of (root s) q z (started x))
safe_proper s τ l q z (ends (bool b) u) h = h
safe_proper s τ l q z (ends (num n) u) h = h
safe_proper s τ l q z (ends (closure r ty body env) u) h = absurd (true≢false (sym (sub_is_fun (types_of s) h.below h.function) ∙ low_base s τ l))
safe_proper s τ l q z (stops cause at u) h = h

-- ---- two evaluations of a derivable sheet, one with checks in force, one with checks passed over
pub record Removed (s : List ℕ) (τ : ℕ) (x y : Request) (b d : Buffers) : Type 0 where
  pub same_result : evaluation x.runner s x (sizes b) ≡ evaluation y.runner s y (sizes d)
  pub proper : Proper τ (answer_of (root s) x (sizes b) (started (evaluation x.runner s x (sizes b))))

pub removed : (s : List ℕ) → WellFormed s → (τ N : ℕ) → τ < 2 → SheetDerives s τ N → (x y : Request) (b d : Buffers) → Comparable x y b d
    → x.enforce ≡ true → y.enforce ≡ false → GrantsSet s x.start N → Removed s τ x y b d
removed s w τ N l h x y b d c ex ey g =
    let A : ℕ → ℕ = authority s in
    let granted : N ⊆ privs A (stack x.start) = record { all = λ p i. privs_chk A (stack x.start) p ∙ g.each p i } in
    let alike : SafelyAlike (types_of s) A (base_types s) τ (eagerly s x (sizes b) (plain true)) (eagerly s x (sizes b) (plain false)) =
    checks_removed (types_of s) A (base_types s) x.depth h (program_standard s w) empty tt (privs A (stack x.start)) granted (initial x (sizes b)) in
    let first : evaluation x.runner s x (sizes b) ≡ eagerly s x (sizes b) (plain true) =
    as_eager s w (plain x.enforce) x (sizes b) x.runner ∙ λ i. eagerly s x (sizes b) (plain (ex i)) in
    let second : eagerly s x (sizes b) (plain false) ≡ evaluation y.runner s y (sizes d) =
    same_eagerly s x y b d c (plain false) ∙ (λ i. eagerly s y (sizes d) (plain (sym ey i)))
    ∙ sym (as_eager s w (plain y.enforce) y (sizes d) y.runner) in
    record {
      same_result = first ∙ alike.same ∙ second;
      proper = subst (λ (z : Result). Proper τ (answer_of (root s) x (sizes b) (started z))) (sym first)
          (safe_proper s τ l x (sizes b) (eagerly s x (sizes b) (plain true)) alike.safe);
    }
