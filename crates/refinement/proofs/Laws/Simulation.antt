-- The interpreter's evaluation of a term does as the meaning's, term by term and call by call.
use Rattle.std.specs.Prelude.{Bool, ◌≡◌, List, ltb, eqb, get_or}
use Rattle.std.proofs.Math.Bool.{true, false, cond}
use Rattle.std.proofs.Math.Path.{refl, subst}
use Rattle.std.proofs.Common.{sym, ap, ◌∙◌, arith, eq-eqb, ne_eqb}
use Prim.Native.Nat.{ℕ, zero, suc, ◌+◌, ◌*◌, ◌<◌, ◌≤◌, max}
use Rattle.std.proofs.Math.Decide.{ℕ_discrete}
use Rattle.program.specs.Limits.{max_frames, max_nesting}
use Rattle.program.specs.Terms.{Op, sum, difference, less, Term}
use Rattle.program.proofs.Laws.Nesting.{height}
use Rattle.semantics.specs.Values.{bool, num, closure, lookup, Budget, ends}
use Rattle.semantics.specs.Meaning.{Control, traced, Evaluation, Application, variable_value, too_deep, eval_with, apply, eval}
use Rattle.stores.specs.declared.values.Stop.TheVariants.{Stuck, OpenCalls}
use Rattle.stores.specs.Words.{boolean_word, interval_word, function_word, stop_word, payload_of}
use Rattle.termtable.specs.Table.{word_kind, word_small, word_first, word_second, word_authority}
use Rattle.stores.specs.Cells.{look_of}
use Rattle.machine.specs.Store.{Store, Done, done_of, StoreEvaluation, StoreApplication, Action, binary, action_of, immediate_word, binary_s, by_action, begin, step, eval_below, apply_at, eval_at}
use Rattle.refinement.proofs.Laws.Codings.{kind_number}
use Rattle.refinement.proofs.Laws.Relation.{Fixed, ValueIn, Balances, sort_for, function_word_lem, word_at, kind_in, small_in, first_in, second_in, Represents, on_boolean, on_number, on_variable, on_function, on_letrec, on_call, on_if, on_check, on_enable, on_sign, on_test, on_binary, on_post, Body, rep_bool, rep_num, rep_fun, rep_rec, RepAt, EnvAt, rep_word, env_low, Meets}
use Rattle.refinement.proofs.Laws.Steps.{look_finds, few_cells, Models, Sim, SimApply, meets_end, meets_stop, meets_found, sim_less, sim_same, sim_call, sim_binary, sim_if, sim_post, sim_test, sim_check, sim_sign, sim_enable, sim_letrec, begin_meets}

leaf_is : (cells : List ℕ) (t x env k : ℕ) → word_kind x ≡ k → immediate_word cells t x env
    ≡ cond (eqb k 0) (boolean_word (ltb 0 (word_small x)))
    (cond (eqb k 1) (interval_word (word_first x) (word_second x)) (cond (eqb k 2) (look_of cells t env (word_first x)) (function_word (word_second x) env)))
unfolding immediate_word
leaf_is cells t x env k e = λ i. cond (eqb (e i) 0) (boolean_word (ltb 0 (word_small x)))
    (cond (eqb (e i) 1) (interval_word (word_first x) (word_second x))
    (cond (eqb (e i) 2) (look_of cells t env (word_first x)) (function_word (word_second x) env)))

binary_action : (op : Op) → action_of (kind_number op) ≡ binary
unfolding action_of
binary_action sum = refl
binary_action difference = refl
binary_action less = refl

-- a call of a word of this sort, where x is a function's
abbrev applied : (t : ℕ) → Store → (x : Done) (sort : ℕ) → Done
applied t st x k = cond (eqb k 2) x (done_of (stop_word 18 t) st)

module _ (terms : List ℕ) (f : StoreApplication) where
  -- a term's run, whatever bound it is under
  below_step : (n t : ℕ) → t < n → (env access : ℕ) (st : Store) → eval_below terms f n t env access st ≡ step terms (eval_below terms f t) f t env access st
  unfolding eval_below
  below_step zero t h env access st = absurd (omega arith)
  below_step (suc n) t h env access st = elim (ℕ_discrete t n) [
    | yes e ↦ (λ i. cond (eq-eqb t n e i) (step terms (eval_below terms f n) f t env access st) (eval_below terms f n t env access st))
        ∙ (λ i. step terms (eval_below terms f (sym e i)) f t env access st)
    | no g ↦ (λ i. cond (ne_eqb t n g i) (step terms (eval_below terms f n) f t env access st) (eval_below terms f n t env access st))
        ∙ below_step n t (omega arith) env access st
  ]

  step_is : (t : ℕ) (x : Action) → action_of (word_kind (get_or terms t 0)) ≡ x → (env access : ℕ) (st : Store)
      → step terms (eval_below terms f t) f t env access st ≡ by_action x (eval_below terms f t) f t (get_or terms t 0) env access st
  unfolding step
  step_is t x e env access st = λ i. by_action (e i) (eval_below terms f t) f t (get_or terms t 0) env access st

module _ (z : Fixed) (X : Control) (enforce : Bool) (R : X.State → (access depth : ℕ) → List ℕ → Type 0) (ctl : Models z X enforce R) where
  abbrev Does : ℕ → StoreEvaluation → Evaluation z.interpretation X → Type 0
  Does h p P = Sim z X R h p P

  abbrev under : StoreApplication → (n t : ℕ) → StoreEvaluation
  under f n t = eval_below z.terms f n t

  at_step : (h : ℕ) (f : StoreApplication) (P : Evaluation z.interpretation X) (n t k : ℕ) (x : Action) → t < n → kind_in z t ≡ k → action_of k ≡ x
      → Does h (by_action x (under f t) f t (word_at z t)) P → Does h (under f n t) P
  at_step h f P n t k x l e g s =
      sim_same z X enforce R ctl h (by_action x (under f t) f t (word_at z t)) (under f n t) P
      (λ env access st. below_step z.terms f n t l env access st ∙ step_is z.terms f t x (ap action_of e ∙ g) env access st) s

  -- terms with no run below them
  abbrev leaf : (t x : ℕ) → StoreEvaluation
  leaf t x env access st = done_of (immediate_word st.cells t x env) st

  leaf_boolean : (h t x : ℕ) (b : Bool) → word_kind x ≡ 0 → ltb 0 (word_small x) ≡ b
      → Does h (leaf t x) (λ a E o. ends (bool (z.interpretation.domain.truth b)) o)
  leaf_boolean h t x b k e = record {
    go = λ env E access d a st o w r v y.
        subst (λ i. Meets z d st (done_of i st) (ends (bool (z.interpretation.domain.truth b)) o))
        (sym (leaf_is st.cells t x env 0 k ∙ (λ i. boolean_word (e i)))) (meets_end z (rep_bool (z.coding.truth_coded b)) y);
  }

  leaf_number : (h t x : ℕ) (n : z.interpretation.domain.Number) → word_kind x ≡ 1 → z.coding.Number (interval_word (word_first x) (word_second x)) n
      → Does h (leaf t x) (λ a E o. ends (num n) o)
  leaf_number h t x n k e = record {
    go = λ env E access d a st o w r v y.
        subst (λ i. Meets z d st (done_of i st) (ends (num n) o)) (sym (leaf_is st.cells t x env 1 k)) (meets_end z (rep_num e) y);
  }

  leaf_variable : (h t x : ℕ) → t < 65536 → word_kind x ≡ 2 → Does h (leaf t x) (λ a E o. variable_value t (lookup E (word_first x)) o)
  leaf_variable h t x i k = record {
    go = λ env E access d a st o w r v y.
        subst (λ i. Meets z d st (done_of i st) (variable_value t (lookup E (word_first x)) o)) (sym (leaf_is st.cells t x env 2 k))
        (meets_found z t i (look_finds z st.cells st.counters.cells t v (word_first x)) y);
  }

  leaf_function : (h t x ty : ℕ) (b : Term) → word_kind x ≡ 3 → Body z (word_second x) b → Does h (leaf t x) (λ a E o. ends (closure false ty b E) o)
  leaf_function h t x ty b k g = record {
    go = λ env E access d a st o w r v y.
        let f = function_word_lem (word_second x) env (omega arith) (omega (arith, env_low z v, few_cells z y)) in
        subst (λ i. Meets z d st (done_of i st) (ends (closure false ty b E) o)) (sym (leaf_is st.cells t x env 3 k))
        (meets_end z (rep_fun f.word (subst (λ i. Body z i b) (sym f.body_is) g) (subst (λ i. EnvAt z st i E) (sym f.env_is) v)) y);
  }

  module _ (g : ℕ) (f : StoreApplication) (F : Application z.interpretation X) (hf : (h : ℕ) → SimApply z X R (g + h) f F) where
    -- with room for a term's own height, and g for the calls in it
    lift : (h k : ℕ) {p : StoreEvaluation} {P : Evaluation z.interpretation X} → h ≤ k → Does (g + h) p P → Does (g + k) p P
    lift h k {p} {P} l s = sim_less z X enforce R ctl (g + h) (g + k) p P (omega arith) s

    pub sim : {t : ℕ} {x : Term} → Represents z t x → (n : ℕ) → t < n → t < 65536 → height x ≤ max_nesting
        → Does (g + height x) (under f n t) (eval_with z.interpretation X (traced enforce) F x)
    unfolding eval_with action_of
    sim (on_boolean {t = t} {b = b} k e) n l i s = at_step (g + 1) f _ n t 0 _ l k refl (leaf_boolean (g + 1) t (word_at z t) b k e)
    sim (on_number {t = t} {n = m} k e) n l i s =
        at_step (g + 1) f _ n t 1 _ l k refl (leaf_number (g + 1) t (word_at z t) (z.interpretation.literal t m) k e)
    sim (on_variable {t = t} k) n l i s = at_step (g + 1) f _ n t 2 _ l k refl (leaf_variable (g + 1) t (word_at z t) i k)
    sim (on_function {t = t} {ty = ty} {a = a} k p ha) n l i s =
        let h = g + (1 + height a) in
        at_step h f _ n t 3 _ l k refl (leaf_function h t (word_at z t) ty a k (record { shallow = omega arith; stands = ha }))
    sim (on_letrec {t = t} {ty = ty} {a = a} {b = b} k p q ha hb) n l i s =
        let h = 1 + max (height a) (height b) in
        at_step (g + h) f _ n t 4 _ l k refl
        (sim_letrec z X enforce R ctl (g + h) t (second_in z t) ty i a _ _ (omega arith) (record { shallow = omega arith; stands = ha })
        (lift (height b) h (omega arith) (sim hb t q (omega arith) (omega arith))))
    sim (on_call {t = t} {a = a} {b = b} k p q ha hb) n l i s =
        let h = 1 + max (height a) (height b) in
        at_step (g + h) f _ n t 5 _ l k refl
        (sim_call z X enforce R ctl (g + h) t i _ _ _ _ f F
        (lift (height a) h (omega arith) (sim ha t p (omega arith) (omega arith))) (lift (height b) h (omega arith) (sim hb t q (omega arith) (omega arith)))
        (hf h))
    sim (on_if {t = t} {a = a} {b = b} {c = d} k p q r ha hb hd) n l i s =
        let h = 1 + max (height a) (max (height b) (height d)) in
        at_step (g + h) f _ n t 6 _ l k refl
        (sim_if z X enforce R ctl (g + h) t i _ _ _ _ _ _
        (lift (height a) h (omega arith) (sim ha t p (omega arith) (omega arith))) (lift (height b) h (omega arith) (sim hb t q (omega arith) (omega arith)))
        (lift (height d) h (omega arith) (sim hd t r (omega arith) (omega arith))))
    sim (on_check {t = t} {a = a} k p ha) n l i s =
        let h = 1 + height a in
        at_step (g + h) f _ n t 7 _ l k refl
        (sim_check z X enforce R ctl (g + h) (small_in z t) t i _ _ (lift (height a) h (omega arith) (sim ha t p (omega arith) (omega arith))))
    sim (on_enable {t = t} {a = a} k p ha) n l i s =
        let h = 1 + height a in
        at_step (g + h) f _ n t 8 _ l k refl
        (sim_enable z X enforce R ctl (g + h) (small_in z t) _ _ (lift (height a) h (omega arith) (sim ha t p (omega arith) (omega arith))))
    sim (on_sign {t = t} {a = a} k u p ha) n l i s =
        at_step (g + (1 + height a)) f _ n t 9 _ l k refl
        (sim_less z X enforce R ctl (suc (g + height a)) (g + (1 + height a)) _ _ (omega arith)
        (sim_sign z X enforce R ctl (g + height a) (small_in z t) (word_authority (word_at z t)) _ _ u (omega arith) (sim ha t p (omega arith) (omega arith))))
    sim (on_test {t = t} {a = a} {b = b} k p q ha hb) n l i s =
        let h = 1 + max (height a) (height b) in
        at_step (g + h) f _ n t 10 _ l k refl
        (sim_test z X enforce R ctl (g + h) (small_in z t) t _ _ _ _
        (lift (height a) h (omega arith) (sim ha t p (omega arith) (omega arith))) (lift (height b) h (omega arith) (sim hb t q (omega arith) (omega arith))))
    sim (on_binary {t = t} {a = a} {b = b} op k p q ha hb) n l i s =
        let h = 1 + max (height a) (height b) in
        at_step (g + h) f _ n t (kind_number op) binary l k (binary_action op)
        (sim_same z X enforce R ctl (g + h) (binary_s (under f t (first_in z t)) (under f t (second_in z t)) (kind_number op) t) _ _
        (λ env access st j. binary_s (under f t (first_in z t)) (under f t (second_in z t)) (k j) t env access st)
        (sim_binary z X enforce R ctl (g + h) t i op _ _ _ _
        (lift (height a) h (omega arith) (sim ha t p (omega arith) (omega arith))) (lift (height b) h (omega arith) (sim hb t q (omega arith) (omega arith)))))
    sim (on_post {t = t} {a = a} k p ha) n l i s =
        let h = 1 + height a in
        at_step (g + h) f _ n t 14 _ l k refl
        (sim_post z X enforce R ctl (g + h) t (word_at z t) i _ _ (lift (height a) h (omega arith) (sim ha t p (omega arith) (omega arith))))

  -- ---- calls
  abbrev bodies : (depth : ℕ) → ℕ → StoreEvaluation
  bodies k = under (apply_at z.terms k) 65536

  module _ (t : ℕ) (i : t < 65536) (u d : ℕ) (st : Store) (o : Budget) (y : Balances z st o) where
    open_meets : {x : ValueIn z} → RepAt z st u x → Meets z d st (applied t st (done_of (stop_word 19 t) st) (sort_for x)) (too_deep t x o)
    open_meets (rep_bool e) = meets_stop z (Stuck t) i y
    open_meets (rep_num e) = meets_stop z (Stuck t) i y
    open_meets (rep_fun k b e) = meets_stop z (OpenCalls t) i y
    open_meets (rep_rec k b p q v e) = meets_stop z (OpenCalls t) i y

    abbrev body_of : (k : ℕ) → Term → Evaluation z.interpretation X
    body_of k x = eval_with z.interpretation X (traced enforce) (apply z.interpretation X (traced enforce) k) x

    module _ (k h : ℕ) (hk : (b : ℕ) (x : Term) → b < 65536 → Body z b x → Does h (bodies k b) (body_of k x))
        (w : ℕ) (v : ValueIn z) (access : ℕ) (a : X.State) (l : d + h ≤ max_frames) (r : R a access d st.frames) (rx : RepAt z st w v) where
      enter_meets : {x : ValueIn z} → RepAt z st u x
          → Meets z d st (applied t st (begin (bodies k) t u w access st) (sort_for x)) (apply z.interpretation X (traced enforce) (suc k) t x v a o)
      unfolding apply
      enter_meets (rep_bool e) = meets_stop z (Stuck t) i y
      enter_meets (rep_num e) = meets_stop z (Stuck t) i y
      enter_meets (rep_fun {ty = ty} {c = x} {E = E} j b e) =
          begin_meets z X enforce R ctl (bodies k) t u w access st i h ty false x E v (body_of k x)
          (hk (payload_of u) x (omega arith) b) d a l r (rep_fun j b e) rx y
      enter_meets (rep_rec {ty = ty} {c = x} {E = E} j b p q g e) =
          begin_meets z X enforce R ctl (bodies k) t u w access st i h ty true x E v (body_of k x)
          (hk (payload_of u) x (omega arith) b) d a l r (rep_rec j b p q g e) rx y

  apply_does : (k h : ℕ) → SimApply z X R (max_nesting * k + h) (apply_at z.terms k) (apply z.interpretation X (traced enforce) k)
  unfolding apply_at apply
  apply_does zero h = record {
    go = λ t i u x w y access d a st o l r ru rx b.
        subst (λ s. Meets z d st (applied t st (done_of (stop_word 19 t) st) s) (too_deep t x o)) (sym (rep_word z ru).sort_is) (open_meets t i u d st o b ru);
  }
  apply_does (suc k) h = record {
    go = λ t i u x w y access d a st o l r ru rx b.
        subst (λ s. Meets z d st (applied t st (begin (bodies k) t u w access st) s) (apply z.interpretation X (traced enforce) (suc k) t x y a o))
        (sym (rep_word z ru).sort_is)
        (enter_meets t i u d st o b k (max_nesting * k + max_nesting)
        (λ c e j q. sim_less z X enforce R ctl (max_nesting * k + height e) (max_nesting * k + max_nesting) _ _ (omega (arith, q.shallow))
        (sim (max_nesting * k) (apply_at z.terms k) (apply z.interpretation X (traced enforce) k) (apply_does k) q.stands 65536 j j q.shallow))
        w y access a (omega arith) r rx ru);
  }

  -- a term, with k open calls left: each call and the term itself signs at most 32 times
  pub eval_does : (k : ℕ) {t : ℕ} {x : Term} → Represents z t x → t < 65536 → height x ≤ max_nesting
      → Does (max_nesting * k + max_nesting) (eval_at z.terms k t) (eval z.interpretation X (traced enforce) k x)
  unfolding eval_at eval
  eval_does k {t} {x} h i s =
      sim_less z X enforce R ctl (max_nesting * k + height x) (max_nesting * k + max_nesting) _ _ (omega arith)
      (sim (max_nesting * k) (apply_at z.terms k) (apply z.interpretation X (traced enforce) k) (apply_does k) h 65536 i i s)
