-- What evaluating a term of each action is, by the interpreter's clauses, with its children evaluated at their own numbers. Assumes nothing.
use mathlib.Core.Bool.{Bool, true, false, cond}
use mathlib.Core.List.{List}
use mathlib.Core.Logic.{inl, inr, ⊎_elim}
use mathlib.Core.Path.{◌≡◌, refl, sym, ap, ap₂, ◌∙◌, fun_ext, subst}
use Prim.Native.Nat.{ℕ, zero, suc, ◌-◌, ◌/◌, ◌<◌, ◌≤◌}
use native.Mathlib.Decide.{dec_lt, ℕ_discrete}
use native.Mathlib.Nat.{eq-or-lt_of_le}
use native.Mathlib.Numerals.{sub-one}
use native.Mathlib.Omega.{arith}
use lib.Dec.{ltb, eqb}
use lib.ListN.{length, get_or}
use borrow.Author.Tests.{eq-eqb, ne_eqb, le-leb, lt-leb, lt-ltb, le-ltb}
use Rattle.program.specs.Decoding.{is_guard}
use Rattle.stores.specs.Words.{boolean_word, interval_word, function_word, stop_word, sort_of, payload_of, env_of, is_stop}
use Rattle.termtable.specs.Table.{word_kind, word_small, word_first, word_second, word_third, word_guard}
use Rattle.stores.specs.Cells.{look_of, BindsCell}
use Rattle.access.specs.Access.{enable_access, enable_frames, enabled_now, restore_frames}
use Rattle.machine.specs.Steps.{operate_counters, Operated, note_counters, post_counters, PostAppended}
use Rattle.machine.specs.Store.{Store, Done, store_of, done_of, with_frames, and_then, StoreEvaluation, StoreApplication, Action, immediate, call, if, enable, binary, post, action_of, immediate_word, has_room, own_cell, call_s, branch_s, if_s, restored, enable_s, operate_done, binary_s, post_done, post_s, by_action, begin, step, eval_below, apply_at, eval_at}
use Rattle.machine.specs.Lower.{evaluates_first, evaluates_second, evaluates_third, reads_guard, ChildrenLower}
use Rattle.machine.specs.Tails.{goes_to, TailSteps}
use Rattle.machine.specs.declared.counters.Counters.{Counters}
use Rattle.machine.specs.declared.tail.TailStep.{TailStep}
use Rattle.stores.proofs.CellLaws.{bound_room}
use Rattle.evaluator.specs.Promises.{TermTable, Node, Tail, FirstNode, PairNode, pair_end, second_at, OperationKind}

module _ (terms : List ℕ) where
  -- below any number above it, a term is evaluated alike
  below_top : (f : StoreApplication) (n t env access : ℕ) (st : Store) → t < n
      → eval_below terms f n t env access st ≡ step terms (eval_below terms f t) f t env access st
  unfolding eval_below
  below_top f zero t env access st h = absurd (omega arith)
  below_top f (suc n) t env access st h =
      ⊎_elim (λ e. rw (eq-eqb t n e, e) refl) (λ lt. rw (ne_eqb t n (λ e. absurd (omega arith))) (below_top f n t env access st lt))
      (eq-or-lt_of_le {n = t} {m = n} (omega arith))

  below_same : (f : StoreApplication) (m n t : ℕ) → t < m → t < n → eval_below terms f m t ≡ eval_below terms f n t
  below_same f m n t h g = fun_ext λ env. fun_ext λ access. fun_ext λ st. below_top f m t env access st h ∙ sym (below_top f n t env access st g)

-- ---- which action a kind has
module _ {terms : List ℕ} (T : TermTable terms) {t x k : ℕ} (small : t < 65536) (is : x ≡ get_or terms t 0) (kind : k ≡ word_kind x) where
  -- a kind that is the number j
  pub node_of : (j : ℕ) → k ≡ j → Node terms t x (action_of j)
  node_of j e = record { ready = T; term_small = small; word_is = is; action_is = ap action_of (sym kind ∙ e) }

  node_by : {h : Action} → action_of k ≡ h → Node terms t x h
  node_by e = record { ready = T; term_small = small; word_is = is; action_is = ap action_of (sym kind) ∙ e }

  pub node_leaf : k < 4 → Node terms t x immediate
  unfolding action_of
  node_leaf h = node_by (simp (le-leb k 3 (omega arith)))

  -- sum, difference and less, and what is past them
  node_binary : 11 ≤ k → k ≤ 13 → Node terms t x binary
  unfolding action_of
  node_binary l h =
      node_by (simp (
        lt-leb k 3 (omega arith),
        ne_eqb k 4 (λ e. omega (arith, e)),
        ne_eqb k 5 (λ e. omega (arith, e)),
        ne_eqb k 6 (λ e. omega (arith, e)),
        ne_eqb k 7 (λ e. omega (arith, e)),
        ne_eqb k 8 (λ e. omega (arith, e)),
        ne_eqb k 9 (λ e. omega (arith, e)),
        ne_eqb k 10 (λ e. omega (arith, e)),
        le-leb k 13 h,
      ))

  node_post : 13 < k → Node terms t x post
  unfolding action_of
  node_post h =
      node_by (simp (
        lt-leb k 3 (omega arith),
        ne_eqb k 4 (λ e. omega (arith, e)),
        ne_eqb k 5 (λ e. omega (arith, e)),
        ne_eqb k 6 (λ e. omega (arith, e)),
        ne_eqb k 7 (λ e. omega (arith, e)),
        ne_eqb k 8 (λ e. omega (arith, e)),
        ne_eqb k 9 (λ e. omega (arith, e)),
        ne_eqb k 10 (λ e. omega (arith, e)),
        lt-leb k 13 h,
      ))

module _ {terms : List ℕ} {t x : ℕ} {h : Action} (N : Node terms t x h) where
  pub lower : ChildrenLower h t x
  lower =
      subst (λ (g : Action). ChildrenLower g t x) N.action_is
      (subst (λ (y : ℕ). ChildrenLower (action_of (word_kind y)) t y) (sym N.word_is) (N.ready.lower t))

  pub first_below : {u : ℕ} → evaluates_first h ≡ true → u ≡ word_first x → u < t
  first_below e q = omega (arith, q, lower.first_lower e)

  pub second_below : {u : ℕ} → evaluates_second h ≡ true → u ≡ word_second x → u < t
  second_below e q = omega (arith, q, lower.second_lower e)

  third_below : {u : ℕ} → evaluates_third h ≡ true → u ≡ word_third x → u < t
  third_below e q = omega (arith, q, lower.third_lower e)

  guard_right : reads_guard h ≡ true → is_guard (word_guard x) ≡ true
  guard_right e = lower.guard e

  module _ (k : ℕ) where
    top : (env access : ℕ) (st : Store) → eval_at terms k t env access st
        ≡ by_action h (eval_below terms (apply_at terms k) t) (apply_at terms k) t x env access st
    unfolding eval_at step
    top env access st = below_top terms (apply_at terms k) 65536 t env access st N.term_small ∙ rw (← N.word_is, N.action_is) refl

    child : {u v : ℕ} → u ≡ v → u < t → eval_below terms (apply_at terms k) t v ≡ eval_at terms k u
    unfolding eval_at
    child {u} e g = ap (eval_below terms (apply_at terms k) t) (sym e) ∙ below_same terms (apply_at terms k) t 65536 u g (omega (arith, N.term_small))

-- ---- one of two terms
picked : {A : Type 0} (b : Bool) (u v : ℕ) (to : ℕ → A) → cond b (to u) (to v) ≡ to (cond b u v)
picked true u v to = refl
picked false u v to = refl

chosen_below : {u v t o : ℕ} (b : Bool) → o ≡ cond b u v → u < t → v < t → o < t
chosen_below true e l h = omega (arith, e, l)
chosen_below false e l h = omega (arith, e, h)

-- ---- each action
module _ {terms : List ℕ} {t x : ℕ} (k env access : ℕ) where
  module _ (N : Node terms t x immediate) (st : Store) where
    leaf_is : {w : ℕ} → w ≡ immediate_word st.cells t x env → eval_at terms k t env access st ≡ done_of w st
    leaf_is q = top N k env access st ∙ ap (λ (w : ℕ). done_of w st) (sym q)

    module _ {kind : ℕ} (e : kind ≡ word_kind x) where
      pub boolean_is : {w s : ℕ} → kind ≡ 0 → s ≡ word_small x → w ≡ boolean_word (ltb 0 s) → eval_at terms k t env access st ≡ done_of w st
      unfolding immediate_word
      boolean_is j p q = leaf_is (q ∙ rw (← e, j, p) refl)

      pub number_is : {w l h : ℕ} → kind ≡ 1 → l ≡ word_first x → h ≡ word_second x → w ≡ interval_word l h → eval_at terms k t env access st ≡ done_of w st
      unfolding immediate_word
      number_is j p h q = leaf_is (q ∙ rw (← e, j, p, h) refl)

      pub variable_is : {w n : ℕ} → kind ≡ 2 → n ≡ word_first x → w ≡ look_of st.cells t env n → eval_at terms k t env access st ≡ done_of w st
      unfolding immediate_word
      variable_is j p q = leaf_is (q ∙ rw (← e, j, p) refl)

      pub function_is : {w b : ℕ} → kind ≡ 3 → b ≡ word_second x → w ≡ function_word b env → eval_at terms k t env access st ≡ done_of w st
      unfolding immediate_word
      function_is j p q = leaf_is (q ∙ rw (← e, j, p) refl)

  module _ (N : Node terms t x post) {u : ℕ} (p : u ≡ word_first x) where
    post_is : (st : Store) → eval_at terms k t env access st ≡ and_then (eval_at terms k u env access st) (λ w st₁. post_done t x access w st₁)
    unfolding post_s
    post_is st = top N k env access st ∙ ap (λ (f : StoreEvaluation). post_s f t x env access st) (child N k p (first_below N refl p))

  module _ (N : Node terms t x if) {u v z : ℕ} (p : u ≡ word_first x) (q : v ≡ word_second x) (r : z ≡ word_third x) where
    if_is : (st : Store) → eval_at terms k t env access st
        ≡ and_then (eval_at terms k u env access st) (λ w st₁. branch_s t w (eval_at terms k v env access st₁) (eval_at terms k z env access st₁) st₁)
    unfolding if_s
    if_is st =
        top N k env access st
        ∙ ap₂ (λ (f g : StoreEvaluation). if_s f g (eval_below terms (apply_at terms k) t (word_third x)) t env access st) (child N k p (first_below N refl p))
        (child N k q (second_below N refl q))
        ∙ ap (λ (g : StoreEvaluation). if_s (eval_at terms k u) (eval_at terms k v) g t env access st) (child N k r (third_below N refl r))

  module _ (N : Node terms t x enable) (st : Store) where
    pub enable_is : {u s a old : ℕ} {seen l m : List ℕ} {d : Done} → u ≡ word_first x → s ≡ word_small x
        → old ≡ enabled_now st.counters.mode.lazy access st.frames
        → seen ≡ st.frames → a ≡ enable_access st.counters.mode.lazy access s → l ≡ enable_frames st.counters.mode.lazy access seen s
        → d ≡ eval_at terms k u env a (with_frames l st) → m ≡ restore_frames st.counters.mode.lazy access d.store.frames old
        → done_of d.out (with_frames m d.store) ≡ eval_at terms k t env access st
    unfolding enable_s
    enable_is {d = d} p s o z a l g m =
        ap (λ (f : List ℕ). done_of d.out (with_frames f d.store)) m
        ∙ ap₂ (λ (w : ℕ) (z : Done). restored st.counters.mode.lazy access w z) o (rw (l, z, a, s) at g)
        ∙ sym (top N k env access st ∙ ap (λ (f : StoreEvaluation). enable_s f (word_small x) env access st) (child N k p (first_below N refl p)))

-- ---- a letrec, check, sign or test
module _ {terms : List ℕ} {t x : ℕ} (T : Tail terms t x) (k env access : ℕ) {n : Counters} {cells frames noted : List ℕ}
    {n' : Counters} {cells' frames' noted' : List ℕ}
    {e : TailStep} (E : TailSteps t x env access n cells frames noted e n' cells' frames' noted') where
  tail_is : (posts : List ℕ) → eval_at terms k t env access (store_of n cells posts frames noted)
      ≡ goes_to e (eval_below terms (apply_at terms k) t) (store_of n' cells' posts frames' noted')
  tail_is posts = top T.node k env access (store_of n cells posts frames noted) ∙ E.goes (eval_below terms (apply_at terms k) t) (apply_at terms k) posts

  pub tail_stops : (posts : List ℕ) → is_stop e.stop ≡ true → eval_at terms k t env access (store_of n cells posts frames noted)
      ≡ done_of e.stop (store_of n' cells' posts frames' noted')
  tail_stops posts h = tail_is posts ∙ rw h refl

  pub next_below : e.next < t
  next_below = E.lower t (lower T.node)

  pub tail_goes : (posts : List ℕ) → is_stop e.stop ≡ false
      → eval_at terms k t env access (store_of n cells posts frames noted)
      ≡ eval_at terms k e.next e.env e.access (store_of n' cells' posts frames' noted')
  tail_goes posts h =
      tail_is posts ∙ rw h refl ∙ (λ i. child T.node k {u = e.next} refl next_below i e.env e.access (store_of n' cells' posts frames' noted'))

-- ---- a call, an if, an operation or a post
module _ {terms : List ℕ} {t x : ℕ} (N : Node terms t x (action_of (word_kind x))) where
  acting : (j : ℕ) → word_kind x ≡ j → Node terms t x (action_of j)
  acting = node_of N.ready N.term_small N.word_is refl

  binary_node : OperationKind (word_kind x) → Node terms t x binary
  binary_node h = node_binary N.ready N.term_small N.word_is refl h.least h.most

  post_node : 13 < word_kind x → Node terms t x post
  post_node = node_post N.ready N.term_small N.word_is refl

-- how a call or an operation ends: an application, or a word
module _ {terms : List ℕ} {t x : ℕ} (P : PairNode terms t x) where
  call_node : word_kind x ≡ 5 → Node terms t x call
  unfolding action_of
  call_node = acting P.node 5

  pub operand_below : {u v : ℕ} → u ≡ word_first x → v ≡ word_second x → (u < t) × (v < t)
  operand_below p q =
      ⊎_elim (λ e. (first_below (call_node e) refl p, second_below (call_node e) refl q))
      (λ h. (first_below (binary_node P.node h) refl p, second_below (binary_node P.node h) refl q))
      P.kind_is

  pair_is : (k env access : ℕ) {u : ℕ} → u ≡ word_first x → (st : Store)
      → eval_at terms k t env access st ≡ and_then (eval_at terms k u env access st) (λ a st₁. second_at terms k t x env access a st₁)
  unfolding call_s binary_s pair_end
  pair_is k env access {u} p st =
      ⊎_elim (λ e. top (call_node e) k env access st ∙ applied e) (λ h. top (binary_node P.node h) k env access st ∙ operated h) P.kind_is
    where
      ending : Bool → Done
      ending c = and_then (eval_at terms k u env access st)
          (λ a st₁. and_then (eval_at terms k (word_second x) env access st₁)
          (λ b st₂. cond c (apply_at terms k t a b access st₂) (operate_done (word_kind x) t a b st₂)))

      applied : word_kind x ≡ 5 → call_s (eval_below terms (apply_at terms k) t (word_first x)) (eval_below terms (apply_at terms k) t (word_second x))
          (apply_at terms k) t env access st
          ≡ ending (eqb (word_kind x) 5)
      applied e =
          ap₂ (λ (f g : StoreEvaluation). call_s f g (apply_at terms k) t env access st) (child (call_node e) k p (operand_below p refl).0)
          (child (call_node e) k refl (operand_below p refl).1)
          ∙ ap ending (sym (eq-eqb (word_kind x) 5 e))

      operated : (h : OperationKind (word_kind x))
          → binary_s (eval_below terms (apply_at terms k) t (word_first x)) (eval_below terms (apply_at terms k) t (word_second x))
          (word_kind x) t env access st
          ≡ ending (eqb (word_kind x) 5)
      operated h =
          ap₂ (λ (f g : StoreEvaluation). binary_s f g (word_kind x) t env access st) (child (binary_node P.node h) k p (operand_below p refl).0)
          (child (binary_node P.node h) k refl (operand_below p refl).1)
          ∙ ap ending (sym (ne_eqb (word_kind x) 5 (λ e. omega (arith, e, h.least))))

  pub second_is : (k env access a : ℕ) {v : ℕ} → v ≡ word_second x → (st : Store)
      → second_at terms k t x env access a st ≡ and_then (eval_at terms k v env access st) (λ b st₁. pair_end terms k t x access a b st₁)
  second_is k env access a q st = ap (λ (w : ℕ). and_then (eval_at terms k w env access st) (λ b st₁. pair_end terms k t x access a b st₁)) (sym q)

  pub pair_applies : (k access a b : ℕ) (st : Store) {o : ℕ} → o ≡ word_kind x → o ≡ 5 → pair_end terms k t x access a b st ≡ apply_at terms k t a b access st
  unfolding pair_end
  pair_applies k access a b st e z = rw (eq-eqb (word_kind x) 5 (sym e ∙ z)) refl

  pub pair_operates : (k access a b : ℕ) (cells posts frames noted : List ℕ) {o w : ℕ} {n n' : Counters} → o ≡ word_kind x → (o ≡ 5 → ⊥)
      → Operated o t a b n w n'
      → done_of w (store_of n' cells posts frames noted) ≡ pair_end terms k t x access a b (store_of n cells posts frames noted)
  unfolding pair_end operate_done
  pair_operates k access a b c p f l e n d =
      (λ i. done_of (d.word_is i) (store_of (d.counters_are i) c p f l)) ∙ rw (ne_eqb (word_kind x) 5 (λ z. n (e ∙ z)), ← e) refl

-- how an action goes on after its first child: a post, a branch, or a second child
module _ {terms : List ℕ} {t x : ℕ} (F : FirstNode terms t x) where
  if_node : word_kind x ≡ 6 → Node terms t x if
  unfolding action_of
  if_node = acting F.node 6

  pub pair_of : {o : ℕ} → o ≡ word_kind x → o ≤ 13 → (o ≡ 6 → ⊥) → PairNode terms t x
  pair_of e l n = record {
    node = F.node;
    kind_is = ⊎_elim (λ h. inl h)
        (λ r. ⊎_elim (λ h. absurd (n (e ∙ h))) (λ h. inr (record { least = h; most = omega (arith, e, l) })) r) F.kind_is;
  }

  -- in the order of the code
  cases : {A : Type 0} → (13 < word_kind x → A) → (word_kind x ≡ 6 → A) → (word_kind x ≤ 13 → (word_kind x ≡ 6 → ⊥) → A) → A
  cases a b c =
      elim (dec_lt 13 (word_kind x)) [
        | yes h ↦ a h
        | no h ↦ elim (ℕ_discrete (word_kind x) 6) [ yes e ↦ b e | no n ↦ c (omega arith) n ]
      ]

  pub leading_below : {u : ℕ} → u ≡ word_first x → u < t
  leading_below p =
      cases (λ h. first_below (post_node F.node h) refl p) (λ e. first_below (if_node e) refl p)
      (λ l n. (operand_below (pair_of refl l n) p refl).0)

  module _ {o : ℕ} (e : o ≡ word_kind x) where
    pub guard_of : 13 < o → is_guard (word_guard x) ≡ true
    guard_of h = guard_right (post_node F.node (omega (arith, e, h))) refl

    pub branch_below : {v z w : ℕ} → o ≡ 6 → v ≡ word_second x → z ≡ word_third x → (b : Bool) → w ≡ cond b v z → w < t
    branch_below six q r b p = chosen_below b p (second_below (if_node (sym e ∙ six)) refl q) (third_below (if_node (sym e ∙ six)) refl r)

  unfoldable pub first_end : (k env access a : ℕ) → Store → Done
  first_end k env access a st =
      cond (ltb 13 (word_kind x)) (post_done t x access a st)
      (cond (eqb (word_kind x) 6) (branch_s t a (eval_at terms k (word_second x) env access st) (eval_at terms k (word_third x) env access st) st)
      (second_at terms k t x env access a st))

  pub first_is : (k env access : ℕ) {u : ℕ} → u ≡ word_first x → (st : Store)
      → eval_at terms k t env access st ≡ and_then (eval_at terms k u env access st) (λ a st₁. first_end k env access a st₁)
  unfolding first_end
  first_is k env access {u} p st =
      cases (λ h. post_is k env access (post_node F.node h) p st ∙ ap (λ (b : Bool). ending b (eqb (word_kind x) 6)) (sym (lt-ltb 13 (word_kind x) h)))
      (λ e. if_is k env access (if_node e) p refl refl st ∙ ap₂ ending (sym (le-ltb 13 (word_kind x) (omega (arith, e)))) (sym (eq-eqb (word_kind x) 6 e)))
      (λ l n. pair_is (pair_of refl l n) k env access p st ∙ ap₂ ending (sym (le-ltb 13 (word_kind x) l)) (sym (ne_eqb (word_kind x) 6 n)))
    where
      ending : (isPost isIf : Bool) → Done
      ending b c = and_then (eval_at terms k u env access st)
          (λ a st₁. cond b (post_done t x access a st₁)
          (cond c (branch_s t a (eval_at terms k (word_second x) env access st₁) (eval_at terms k (word_third x) env access st₁) st₁)
          (second_at terms k t x env access a st₁)))

  module _ (k env access a : ℕ) (st : Store) {o : ℕ} (e : o ≡ word_kind x) where
    pub first_posts : 13 < o → first_end k env access a st ≡ post_done t x access a st
    unfolding first_end
    first_posts h = rw (lt-ltb 13 (word_kind x) (omega (arith, e, h))) refl

    module _ (l : o ≤ 13) where
      pub first_branches : {v z : ℕ} → o ≡ 6 → v ≡ word_second x → z ≡ word_third x
          → first_end k env access a st ≡ branch_s t a (eval_at terms k v env access st) (eval_at terms k z env access st) st
      unfolding first_end
      first_branches six q r = rw (le-ltb 13 (word_kind x) (omega (arith, e, l)), eq-eqb (word_kind x) 6 (sym e ∙ six), q, r) refl

      pub first_seconds : (o ≡ 6 → ⊥) → first_end k env access a st ≡ second_at terms k t x env access a st
      unfolding first_end
      first_seconds n = rw (le-ltb 13 (word_kind x) (omega (arith, e, l)), ne_eqb (word_kind x) 6 (λ z. n (e ∙ z))) refl

-- ---- a branch, by the condition's word
pub branch_stuck : (t w : ℕ) (p q : Done) (st : Store) {s r : ℕ} → s ≡ sort_of w → (s ≡ 0 → ⊥) → r ≡ stop_word 18 t → branch_s t w p q st ≡ done_of r st
unfolding branch_s
branch_stuck t w p q st e n r = simp (ne_eqb (sort_of w) 0 (λ z. n (e ∙ z))) (ap (λ (x : ℕ). done_of x st) (sym r))

module _ (t w : ℕ) (st : Store) {s n : ℕ} (e : s ≡ sort_of w) (z : s ≡ 0) (g : n ≡ payload_of w) where
  pub branch_undecided : (p q : Done) {r : ℕ} → n ≡ 2 → r ≡ stop_word 36 t → branch_s t w p q st ≡ done_of r st
  unfolding branch_s
  branch_undecided p q two r = simp (eq-eqb (sort_of w) 0 (sym e ∙ z), eq-eqb (payload_of w) 2 (sym g ∙ two)) (ap (λ (x : ℕ). done_of x st) (sym r))

  pub branch_to : (terms : List ℕ) (k env access u v : ℕ) {m o : ℕ} → (n ≡ 2 → ⊥) → m ≡ payload_of w → o ≡ cond (ltb 0 m) u v
      → branch_s t w (eval_at terms k u env access st) (eval_at terms k v env access st) st ≡ eval_at terms k o env access st
  unfolding branch_s
  branch_to terms k env access u v {m = m} other f o =
      simp (eq-eqb (sort_of w) 0 (sym e ∙ z), ne_eqb (payload_of w) 2 (λ h. other (g ∙ h)))
      (rw (← f) (picked (ltb 0 m) u v (λ (x : ℕ). eval_at terms k x env access st)))
      ∙ ap (λ (x : ℕ). eval_at terms k x env access st) (sym o)

-- ---- an application
module _ (terms : List ℕ) (k t f v access : ℕ) (st : Store) where
  pub apply_stuck : {s r : ℕ} → s ≡ sort_of f → (s ≡ 2 → ⊥) → r ≡ stop_word 18 t → apply_at terms k t f v access st ≡ done_of r st
  unfolding apply_at
  apply_stuck {r = w} e n r = go k
    where
      go : (k : ℕ) → apply_at terms k t f v access st ≡ done_of w st
      go zero = simp (ne_eqb (sort_of f) 2 (λ z. n (e ∙ z))) (ap (λ (x : ℕ). done_of x st) (sym r))
      go (suc k) = simp (ne_eqb (sort_of f) 2 (λ z. n (e ∙ z))) (ap (λ (x : ℕ). done_of x st) (sym r))

  module _ {s : ℕ} (e : s ≡ sort_of f) (z : s ≡ 2) where
    pub apply_deep : {r : ℕ} → k ≡ 0 → r ≡ stop_word 19 t → apply_at terms k t f v access st ≡ done_of r st
    unfolding apply_at
    apply_deep h r = rw h (simp (eq-eqb (sort_of f) 2 (sym e ∙ z)) (ap (λ (x : ℕ). done_of x st) (sym r)))

    module _ (opens : k ≡ 0 → ⊥) where
      apply_begin : apply_at terms k t f v access st ≡ begin (eval_at terms (k - 1)) t f v access st
      unfolding apply_at eval_at
      apply_begin = go k opens
        where
          go : (k : ℕ) → (k ≡ 0 → ⊥) → apply_at terms k t f v access st ≡ begin (eval_below terms (apply_at terms (k - 1)) 65536) t f v access st
          go zero n = absurd (n refl)
          go (suc k) n = simp (eq-eqb (sort_of f) 2 (sym e ∙ z)) (rw sub-one refl)

      pub apply_spent : {r : ℕ} → st.counters.calls_left ≡ 0 → r ≡ stop_word 20 t → apply_at terms k t f v access st ≡ done_of r st
      unfolding begin
      apply_spent h r = apply_begin ∙ simp (eq-eqb st.counters.calls_left 0 h) (ap (λ (x : ℕ). done_of x st) (sym r))

      module _ (calls : st.counters.calls_left ≡ 0 → ⊥) where
        pub apply_full : {r : ℕ} → length st.cells / 8 ≤ st.counters.cells → r ≡ stop_word 21 t → apply_at terms k t f v access st ≡ done_of r st
        unfolding begin has_room
        apply_full h r = apply_begin ∙ simp (ne_eqb st.counters.calls_left 0 calls, le-ltb st.counters.cells (length st.cells / 8) h)
            (ap (λ (x : ℕ). done_of x st) (sym r))

        pub apply_runs : {b e o m : ℕ} {l : List ℕ} → BindsCell st.counters.cells v e st.cells m l → (m ≡ 0 → ⊥) → b ≡ payload_of f → e ≡ env_of f → o
            ≡ own_cell st
            → apply_at terms k t f v access st
            ≡ eval_at terms (k - 1) b o access
            (store_of (record st.counters { calls_left = st.counters.calls_left - 1; cells = m }) l st.posts st.frames st.noted)
        unfolding begin has_room
        apply_runs c n b e o =
            let h = bound_room _ _ _ _ c n in
            apply_begin
            ∙ simp (ne_eqb st.counters.calls_left 0 calls, lt-ltb st.counters.cells (length st.cells / 8) h.0)
            (rw (h.1.0, h.1.1, b, e, o) refl)

-- ---- the calls left after a call is counted, and after an operation
pub one_call_less : (n : Counters) (m : ℕ) → (n.calls_left ≡ 0 → ⊥) → (record n { calls_left = n.calls_left - 1; cells = m }).calls_left < n.calls_left
one_call_less n m h = omega (arith, h)

pub operate_calls : {k t a b r : ℕ} {n n' : Counters} → Operated k t a b n r n' → n'.calls_left ≤ n.calls_left
unfolding operate_counters
operate_calls d = omega (arith, ap (λ (m : Counters). m.calls_left) d.counters_are)

-- ---- a post that is appended, or not
module _ {t x access w : ℕ} {n : Counters} {l f o : List ℕ} {n' : Counters} {l' f' o' : List ℕ} {r : ℕ}
    (a : PostAppended t x access w n l f o r n' l' f' o') where
  pub post_done_lem : (c : List ℕ) → done_of r (store_of n' c l' f' o') ≡ post_done t x access w (store_of n c l f o)
  unfolding post_done
  post_done_lem c = λ i. done_of (a.word_is i) (store_of (a.counters_are i) c (a.posts_are i) (a.frames_are i) (a.noted_are i))

  pub post_calls : n'.calls_left ≤ n.calls_left
  unfolding post_counters note_counters
  post_calls = omega (arith, ap (λ (m : Counters). m.calls_left) a.counters_are)
