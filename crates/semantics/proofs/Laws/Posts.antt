-- What a run keeps to: every entry of the list of posts is one that a post of the term can make, and every decision listed is one of a check, test or guard
-- of the term. Values are 16-bit numbers, since number terms are and sums are held.
use Rattle.std.specs.Prelude.{Bool, ◌≡◌, refl}
use Rattle.std.proofs.Math.Bool.{true, false}
use mathlib.Core.List.{List, [], ◌∷◌, reverse_aux}
use Rattle.std.proofs.Math.Option.{Option, none, some, some-injective}
use Rattle.std.proofs.Common.{ap, ◌∙◌, arith}
use Rattle.std.proofs.Math.Path.{subst}
use Prim.Native.Nat.{ℕ, zero, suc, ◌+◌, ◌<◌}
use Rattle.program.specs.Bytes.{Bytes, word16}
use Rattle.program.specs.Layout.{authority, terms, term_at, channels, guard_of, root, kind_byte, small, first, second, third}
use Rattle.program.specs.Formats.{channel, Kind, Boolean, Number, Variable, Function, Letrec, Call, If, Check, Enable, Sign, Test, Sum, Difference, Less, Post, kind_of, format}
use Rattle.program.specs.Terms.{Op, sum, difference, less, Term, boolean, number, variable, function, letrec, call, if, check, enable, sign, test, binary, post, node, tree_to, program}
use Rattle.program.proofs.Laws.Readable.{WellFormed}
use Rattle.program.proofs.Laws.Trees.{Below, below, root_lower}
use Rattle.program.proofs.Laws.Guards.{channel_in}
use Rattle.traces.specs.Traces.{Event}
use Rattle.semantics.specs.Domains.{standard, post_entry}
use Rattle.semantics.specs.Values.{Value, bool, num, closure, Env, empty, bind, lookup, entered, log_post, Budget, budget, Result, ends, stops}
use Rattle.semantics.specs.Meaning.{Control, Mode, ◌then◌, choose, variable_value, branch, operate, compute, append_post, note, post_value, take_cell, begin_call, too_deep, enter, passes, event_if, lists_checks, Application, eval_with, apply, eval}
use Rattle.semantics.specs.Access.{privs, lazy_control, rights, eager_control}
use Rattle.semantics.specs.Runs.{Runner, eager, lazy, Request, Sizes, stack, initial, evaluation_in, left, in_order}
use Rattle.semantics.specs.Recording.{decided_in}
use Rattle.semantics.specs.Claims.{Each, OnChannel, NamesAt, by_check, by_test, by_guard, Decision}

pub each_all : {A : Type 0} {E : A → Type 0} (F : A → Type 0) → ((x : A) → E x → F x) → (xs : List A) → Each E xs → Each F xs
each_all F f [] h = tt
each_all F f (x ∷ xs) h = (f x h.0, each_all F f xs h.1)

pub each_reversed : {A : Type 0} (E : A → Type 0) (xs ys : List A) → Each E xs → Each E ys → Each E (reverse_aux xs ys)
each_reversed E [] ys h g = g
each_reversed E (x ∷ xs) ys h g = each_reversed E xs (x ∷ ys) h.1 (h.0, g)

-- E are the entries that may be posted, D the terms and privileges that may be decided
module _ (E : ℕ → Type 0) (D : (at p : ℕ) → Type 0) where
  -- a term whose posts make entries of E, and whose checks, tests and guards are in D
  abbrev pub Keeps : Term → Type 0
  Keeps (boolean at b) = Unit {0}
  Keeps (number at n) = n < 65536
  Keeps (variable at i) = Unit {0}
  Keeps (function at ty body) = Keeps body
  Keeps (letrec at ty body rest) = Keeps body × Keeps rest
  Keeps (call at f a) = Keeps f × Keeps a
  Keeps (if at c y n) = Keeps c × Keeps y × Keeps n
  Keeps (check at p c) = D at p × Keeps c
  Keeps (enable at p c) = Keeps c
  Keeps (sign at n c) = Keeps c
  Keeps (test at p y n) = D at p × Keeps y × Keeps n
  Keeps (binary at op a b) = Keeps a × Keeps b
  Keeps (post at ch g c) = ((p : ℕ) → g ≡ some p → D at p) × ((n : ℕ) → n < 65536 → E (post_entry ch n)) × Keeps c

  abbrev mutual
    Held : Value → Type 0
    Held (bool b) = Unit {0}
    Held (num n) = n < 65536
    Held (closure r ty body env) = Keeps body × HeldIn env

    HeldIn : Env → Type 0
    HeldIn empty = Unit {0}
    HeldIn (bind v e) = Held v × HeldIn e

  abbrev Logged : Budget → Type 0
  Logged (budget c d r l) = Each E l.posts × Each (λ (e : Event). D e.term e.privilege) l.decisions

  pub data KeptResult : Result → Type 0 where
    kept_end : {v : Value} {u : Budget} → Held v → Logged u → KeptResult (ends v u)
    kept_stop : {c at : ℕ} {u : Budget} → Logged u → KeptResult (stops c at u)

  -- ---- each way of putting results together
  kept_then : (x : Result) (k : Value → Budget → Result) → KeptResult x → ((v : Value) (u : Budget) → Held v → Logged u → KeptResult (k v u))
      → KeptResult (x then k)
  kept_then (ends v u) k (kept_end h p) f = f v u h p
  kept_then (stops c at u) k (kept_stop p) f = kept_stop p

  kept_choose : (b : Bool) (y n : Budget → Result) (u : Budget) → KeptResult (y u) → KeptResult (n u) → KeptResult (choose b y n u)
  kept_choose true y n u hy hn = hy
  kept_choose false y n u hy hn = hn

  kept_found : (at i : ℕ) (e : Env) (u : Budget) → HeldIn e → Logged u → KeptResult (variable_value at (lookup e i) u)
  kept_found at i empty u h p = kept_stop p
  kept_found at zero (bind v e) u h p = kept_end h.0 p
  kept_found at (suc i) (bind v e) u h p = kept_found at i e u h.1 p

  kept_branch : (at : ℕ) (v : Value) (y n : Budget → Result) (u : Budget) → Logged u → KeptResult (y u) → KeptResult (n u) → KeptResult (branch at v y n u)
  kept_branch at (bool b) y n u p hy hn = kept_choose b y n u hy hn
  kept_branch at (num m) y n u p hy hn = kept_stop p
  kept_branch at (closure r ty body env) y n u p hy hn = kept_stop p

  -- "Sums are held at 65,535, differences at 0."
  operate_held : (op : Op) (m n : ℕ) → m < 65536 → n < 65536 → Held (operate op m n)
  operate_held sum m n h g = omega arith
  operate_held difference m n h g = omega arith
  operate_held less m n h g = tt

  kept_compute : (at : ℕ) (op : Op) (v w : Value) (u : Budget) → Held v → Held w → Logged u → KeptResult (compute at op v w u)
  kept_compute at op (num m) (num n) (budget c d r l) h g p = kept_end (operate_held op m n h g) p
  kept_compute at op (num m) (bool b) u h g p = kept_stop p
  kept_compute at op (num m) (closure r ty body env) u h g p = kept_stop p
  kept_compute at op (bool b) w u h g p = kept_stop p
  kept_compute at op (closure r ty body env) w u h g p = kept_stop p

  kept_append : (at ch n : ℕ) (u : Budget) → n < 65536 → E (post_entry ch n) → Logged u → KeptResult (append_post at ch n u)
  kept_append at ch n (budget c d zero l) h e p = kept_stop p
  kept_append at ch n (budget c d (suc r) l) h e p = kept_end {v = num n} {u = budget c d r (log_post (post_entry ch n) l)} h ((e, p.0), p.1)

  -- a decision that is listed, about a privilege of D
  logged_noted : (listed : Bool) (at : ℕ) (grants : ℕ → Bool) (g : Option ℕ) → ((p : ℕ) → g ≡ some p → D at p) → (u : Budget) → Logged u
      → Logged (note (event_if listed at grants g) u)
  logged_noted true at grants (some x) h (budget c d r l) p = (p.0, (h x refl, p.1))
  logged_noted true at grants none h u p = p
  logged_noted false at grants g h u p = p

  kept_value : (at ch : ℕ) (allowed : Bool) (o : Option Event) (v : Value) (u : Budget) → ((n : ℕ) → n < 65536 → E (post_entry ch n)) → Held v → Logged u
      → Logged (note o u) → KeptResult (post_value at ch allowed o v u)
  kept_value at ch allowed o (num n) u e h p q = kept_choose allowed _ _ (note o u) (kept_append at ch n (note o u) h (e n h) q) (kept_stop q)
  kept_value at ch allowed o (bool b) u e h p q = kept_stop p
  kept_value at ch allowed o (closure s ty body env) u e h p q = kept_stop p

  kept_cell : (at : ℕ) (k : Budget → Result) → ((u : Budget) → Logged u → KeptResult (k u)) → (u : Budget) → Logged u → KeptResult (take_cell at k u)
  kept_cell at k h (budget c zero r l) p = kept_stop p
  kept_cell at k h (budget c (suc d) r l) p = h (budget c d r l) p

  kept_begin : (at : ℕ) (k : Budget → Result) → ((u : Budget) → Logged u → KeptResult (k u)) → (u : Budget) → Logged u → KeptResult (begin_call at k u)
  kept_begin at k h (budget zero d r l) p = kept_stop p
  kept_begin at k h (budget (suc c) zero r l) p = kept_stop p
  kept_begin at k h (budget (suc c) (suc d) r l) p = h (budget c d r l) p

  kept_deep : (at : ℕ) (v : Value) (u : Budget) → Logged u → KeptResult (too_deep at v u)
  kept_deep at (closure r ty body env) u p = kept_stop p
  kept_deep at (bool b) u p = kept_stop p
  kept_deep at (num n) u p = kept_stop p

  entered_held : (r : Bool) (ty : ℕ) (body : Term) (env : Env) (w : Value) → Keeps body → HeldIn env → Held w → HeldIn (entered r ty body env w)
  entered_held true ty body env w k h g = (g, ((k, h), h))
  entered_held false ty body env w k h g = (g, h)

  kept_enter : (at : ℕ) (v w : Value) (run : Term → Env → Budget → Result)
      → ((c : Term) (e : Env) (u : Budget) → Keeps c → HeldIn e → Logged u → KeptResult (run c e u)) → (u : Budget) → Held v → Held w → Logged u
      → KeptResult (enter at v w run u)
  kept_enter at (closure r ty body env) w run h u hv hw p =
      kept_begin at _ (λ x q. h body (entered r ty body env w) x hv.0 (entered_held r ty body env w hv.0 hv.1 hw) q) u p
  kept_enter at (bool b) w run h u hv hw p = kept_stop p
  kept_enter at (num n) w run h u hv hw p = kept_stop p

  -- ---- evaluations
  module _ (X : Control) (M : Mode) where
    abbrev KeptAll : Application standard X → Type 0
    KeptAll f = (at : ℕ) (v w : Value) (st : X.State) (u : Budget) → Held v → Held w → Logged u → KeptResult (f at v w st u)

    eval_kept : (f : Application standard X) → KeptAll f → (c : Term) → Keeps c → (st : X.State) (e : Env) (u : Budget) → HeldIn e → Logged u
        → KeptResult (eval_with standard X M f c st e u)
    unfolding eval_with
    eval_kept f a (boolean at b) k st e u h p = kept_end tt p
    eval_kept f a (number at n) k st e u h p = kept_end k p
    eval_kept f a (variable at i) k st e u h p = kept_found at i e u h p
    eval_kept f a (function at ty body) k st e u h p = kept_end {v = closure false ty body e} (k, h) p
    eval_kept f a (letrec at ty body rest) k st e u h p =
        kept_cell at _ (λ w q. eval_kept f a rest k.1 st (bind (closure true ty body e) e) w ((k.0, h), h) q) u p
    eval_kept f a (call at c d) k st e u h p =
        kept_then _ _ (eval_kept f a c k.0 st e u h p)
        (λ v w hv q. kept_then _ _ (eval_kept f a d k.1 st e w h q) (λ x y hx o. a at v x st y hv hx o))
    eval_kept f a (if at c y n) k st e u h p =
        kept_then _ _ (eval_kept f a c k.0 st e u h p)
        (λ v w hv q. kept_branch at v _ _ w q (eval_kept f a y k.1 st e w h q) (eval_kept f a n k.2 st e w h q))
    eval_kept f a (check at r c) k st e u h p =
        let w = note (event_if (lists_checks M) at (X.grants st) (some r)) u in
        let q = logged_noted (lists_checks M) at (X.grants st) (some r) (λ x z. subst (D at) (some-injective r x z) k.0) u p in
        kept_choose (passes M.enforce (X.grants st r)) _ _ w (eval_kept f a c k.1 st e w h q) (kept_stop q)
    eval_kept f a (enable at r c) k st e u h p = eval_kept f a c k (X.enables r st) e u h p
    eval_kept f a (sign at n c) k st e u h p = eval_kept f a c k (X.signs n st) e u h p
    eval_kept f a (test at r y n) k st e u h p =
        let w = note (event_if M.tracing at (X.grants st) (some r)) u in
        let q = logged_noted M.tracing at (X.grants st) (some r) (λ x z. subst (D at) (some-injective r x z) k.0) u p in
        kept_choose (X.grants st r) _ _ w (eval_kept f a y k.1 st e w h q) (eval_kept f a n k.2 st e w h q)
    eval_kept f a (binary at op c d) k st e u h p =
        kept_then _ _ (eval_kept f a c k.0 st e u h p)
        (λ v w hv q. kept_then _ _ (eval_kept f a d k.1 st e w h q) (λ x y hx o. kept_compute at op v x y hv hx o))
    eval_kept f a (post at ch g c) k st e u h p =
        kept_then _ _ (eval_kept f a c k.2 st e u h p)
        (λ v w hv q. kept_value at ch _ _ v w k.1 hv q (logged_noted (lists_checks M) at (X.grants st) g k.0 w q))

    apply_kept : (k : ℕ) → KeptAll (apply standard X M k)
    unfolding apply
    apply_kept zero at v w st u hv hw p = kept_deep at v u p
    apply_kept (suc k) at v w st u hv hw p =
        kept_enter at v w _ (λ body e x kb he q. eval_kept (apply standard X M k) (apply_kept k) body kb st e x he q) u hv hw p

    kept : (depth : ℕ) (c : Term) → Keeps c → (st : X.State) (u : Budget) → Logged u → KeptResult (eval standard X M depth c st empty u)
    unfolding eval
    kept k c h st u p = eval_kept (apply standard X M k) (apply_kept k) c h st empty u tt p

-- ---- the program of a readable sheet

module _ (s : List ℕ) (bytes : Bytes s) (w : WellFormed s) where
  word_low : (i : ℕ) → word16 s i < 65536
  word_low i = omega (arith, bytes.below i, bytes.below (i + 1))

  entry_low : (ch n : ℕ) → ch < channels s → n < 65536 → OnChannel s (post_entry ch n)
  entry_low ch n h g = record { below = omega arith }

  abbrev KeepsIn : Term → Type 0
  KeepsIn c = Keeps (OnChannel s) (Decision s) c

  abbrev KeptIn : Result → Type 0
  KeptIn x = KeptResult (OnChannel s) (Decision s) x

  -- what the record of term t gives
  record NodeRecord (t : ℕ) (k : Kind) (x : ℕ) : Type 0 where
    kind_is : kind_of (kind_byte s t) ≡ k
    small_is : small s t ≡ x
    number : first s t < 65536
    on_channel : (format k).small ≡ channel → x < channels s

  module _ (f : ℕ → Term) (t : ℕ) (l : t < terms s) (under : (y : ℕ) → y < t → KeepsIn (f y)) where
    decision : {p : ℕ} → NamesAt s t p → Decision s t p
    decision h = record { a_term = l; queries = h }

    node_keeps : (k : Kind) (x b c : ℕ) → NodeRecord t k x → Below (format k) t (first s t) b c → KeepsIn (node (guard_of s) k t x (first s t) b c f)
    node_keeps Boolean x b c h v = tt
    node_keeps Number x b c h v = h.number
    node_keeps Variable x b c h v = tt
    node_keeps Function x b c h v = under b (v.second_below refl)
    node_keeps Letrec x b c h v = (under b (v.second_below refl), under c (v.third_below refl))
    node_keeps Call x b c h v = (under (first s t) (v.first_below refl), under b (v.second_below refl))
    node_keeps If x b c h v = (under (first s t) (v.first_below refl), under b (v.second_below refl), under c (v.third_below refl))
    node_keeps Check x b c h v = (decision (by_check h.kind_is h.small_is), under (first s t) (v.first_below refl))
    node_keeps Enable x b c h v = under (first s t) (v.first_below refl)
    node_keeps Sign x b c h v = under (first s t) (v.first_below refl)
    node_keeps Test x b c h v =
        (decision (by_test h.kind_is h.small_is), under (first s t) (v.first_below refl), under b (v.second_below refl))
    node_keeps Sum x b c h v = (under (first s t) (v.first_below refl), under b (v.second_below refl))
    node_keeps Difference x b c h v = (under (first s t) (v.first_below refl), under b (v.second_below refl))
    node_keeps Less x b c h v = (under (first s t) (v.first_below refl), under b (v.second_below refl))
    node_keeps Post x b c h v = (
      λ p g. decision (by_guard h.kind_is (ap (guard_of s) h.small_is ∙ g)),
      λ m i. entry_low x m (h.on_channel refl) i,
      under (first s t) (v.first_below refl),
    )

  tree_keeps : (k t : ℕ) → t < terms s → t < k → KeepsIn (tree_to s k t)
  tree_keeps zero t l h = absurd (omega arith)
  tree_keeps (suc k) t l h =
      node_keeps (λ y. tree_to s k y) t l (λ y g. tree_keeps k y (omega arith) (omega arith)) (kind_of (kind_byte s t)) (small s t) (second s t) (third s t)
      (record { kind_is = refl; small_is = refl; number = word_low (term_at s t + 2); on_channel = channel_in s w t l }) (below s w t l)

  program_keeps : KeepsIn (program s)
  program_keeps = tree_keeps (suc (root s)) (root s) (root_lower s w) (omega arith)

  evaluation_kept : (M : Mode) (r : Runner) (q : Request) (z : Sizes) → KeptIn (evaluation_in M r s q z)
  evaluation_kept M eager q z =
      kept (OnChannel s) (Decision s) (eager_control (authority s)) M q.depth (program s) program_keeps
      (rights 0 (privs (authority s) (stack q.start))) (initial q z) (tt, tt)
  evaluation_kept M lazy q z =
      kept (OnChannel s) (Decision s) (lazy_control (authority s)) M q.depth (program s) program_keeps (stack q.start) (initial q z) (tt, tt)

  -- what is listed of a run
  logged : {x : Result} → KeptIn x → Logged (OnChannel s) (Decision s) (left x)
  logged (kept_end h p) = p
  logged (kept_stop p) = p

  posts_may : (u : Budget) → Logged (OnChannel s) (Decision s) u → Each (OnChannel s) (in_order u)
  posts_may (budget c d m l) p = each_reversed (OnChannel s) l.posts [] p.0 tt

  decided_may : (u : Budget) → Logged (OnChannel s) (Decision s) u → Each (λ (e : Event). Decision s e.term e.privilege) (decided_in u)
  decided_may (budget c d m l) p = each_reversed (λ (e : Event). Decision s e.term e.privilege) l.decisions [] p.1 tt

  module _ (M : Mode) (r : Runner) (q : Request) (z : Sizes) where
    pub evaluation_posts : Each (OnChannel s) (in_order (left (evaluation_in M r s q z)))
    evaluation_posts = posts_may (left (evaluation_in M r s q z)) (logged (evaluation_kept M r q z))

    pub evaluation_decides : Each (λ (e : Event). Decision s e.term e.privilege) (decided_in (left (evaluation_in M r s q z)))
    evaluation_decides = decided_may (left (evaluation_in M r s q z)) (logged (evaluation_kept M r q z))
