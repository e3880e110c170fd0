-- A letrec, check, sign or test is what it enters: a law for each of its ends. Assumes nothing.
use Rattle.std.proofs.Common.{◌≡◌, ℕ, ◌+◌, ◌*◌, ◌/◌, ◌%◌, ◌<◌, Bool, true, false, cond, not, ◌&&◌, eqb, ◌⊎◌, List, length, sym, refl, ap, ◌∙◌, subst, inl, inr, ⊎_elim, true≢false, arith, le-ltb, lt-ltb, eq-eqb, eqb-true}
use borrow.Author.Tests.{not-true}
use Rattle.privileges.specs.Sets.{privilege_count}
use Rattle.machine.specs.declared.tail.TailStep.{TailStep}
use Rattle.privileges.specs.Booleans.{and_left, and_right}
use Rattle.traces.specs.Traces.{Event}
use Rattle.stores.specs.Words.{function_word, stop_word, is_stop}
use Rattle.termtable.specs.Table.{word_kind, word_small, word_first, word_second, word_third, word_authority}
use Rattle.stores.specs.Cells.{next_cell, BindsCell}
use Rattle.access.specs.Access.{granted_of, allowed_of, sign_access, sign_frames}
use Rattle.machine.specs.declared.counters.Counters.{Counters}
use Rattle.machine.specs.Steps.{decided_event, note_counters, note_bytes, Noted}
use Rattle.machine.specs.Store.{Done, store_of, StoreEvaluation, StoreApplication, Action, letrec, check, sign, test, action_of, has_room, letrec_s, check_s, test_s, sign_s, by_action}
use Rattle.machine.specs.Lower.{ChildrenLower, reads_privilege}
use Rattle.machine.specs.Tails.{TailKind, going, halting, goes_to, TailSteps}
use Rattle.stores.proofs.CellLaws.{bound_full, bound_room}

stop_is : (c t : ℕ) → 2 < c → c < 65536 → is_stop (stop_word c t) ≡ true
stop_is c t h l = lt-ltb 2 ((c + 65536 * t) % 65536) (omega arith)

module _ (t x env access : ℕ) (n : Counters) (cells frames noted : List ℕ) where
  -- at the action h, what is entered is what the action's clause gives
  entered : {h : Action} {e : TailStep} {n' : Counters} {cells' frames' noted' : List ℕ} → action_of (word_kind x) ≡ h
      → ((ev : ℕ → StoreEvaluation) (ap : StoreApplication) (posts : List ℕ) → by_action h ev ap t x env access (store_of n cells posts frames noted)
      ≡ goes_to e ev (store_of n' cells' posts frames' noted'))
      → n'.calls_left ≡ n.calls_left → ((b : ℕ) → ChildrenLower h b x → e.next < b) → TailSteps t x env access n cells frames noted e n' cells' frames' noted'
  entered {e = e} s g c l = record {
    goes = λ ev ap posts. (λ i. by_action (s i) ev ap t x env access (store_of n cells posts frames noted)) ∙ g ev ap posts;
    calls = c;
    lower = λ b k. l b (subst (λ (h : Action). ChildrenLower h b x) s k);
  }

  calls_stay : {e : Event} {n' : Counters} {noted' : List ℕ} → Noted e n noted n' noted' → n'.calls_left ≡ n.calls_left
  unfolding note_counters
  calls_stay d = ap (λ (m : Counters). m.calls_left) d.counters_are

  module _ {k : ℕ} (kind : k ≡ word_kind x) where
    action_letrec : k ≡ 4 → action_of (word_kind x) ≡ letrec
    unfolding action_of
    action_letrec is = ap action_of (sym kind ∙ is)

    module _ (is : k ≡ 4) {u f m : ℕ} {l : List ℕ} {e : TailStep} (third : u ≡ word_third x) (c : BindsCell n.cells f env cells m l) where
      pub tail_full : {w : ℕ} → m ≡ 0 → w ≡ stop_word 21 t → e ≡ halting w u → TailSteps t x env access n cells frames noted e n l frames noted
      unfolding letrec_s has_room
      tail_full {w} z q p =
          let h = bound_full _ _ _ _ c z in
          entered (action_letrec is)
          (λ ev ap posts. simp (le-ltb n.cells (length cells / 8) h.0) (rw (p, h.1, q, stop_is 21 t (omega arith) (omega arith)) refl)) refl
          (λ b k. rw p (omega (arith, third, k.third_lower refl)))

      pub tail_cell : {o b : ℕ} → (m ≡ 0 → ⊥) → o ≡ next_cell n.cells → b ≡ word_second x → f ≡ function_word b o → e ≡ going u o access
          → TailSteps t x env access n cells frames noted e (record n { cells = m }) l frames noted
      unfolding letrec_s has_room
      tail_cell z o b f p =
          let h = bound_room _ _ _ _ c z in
          entered (action_letrec is)
          (λ ev ap posts. simp (lt-ltb n.cells (length cells / 8) h.0) (rw (p, h.1.0, h.1.1, f, b, o, third) refl))
          refl
          (λ b k. rw p (omega (arith, third, k.third_lower refl)))

    pub tail_sign : {u m a : ℕ} {l : List ℕ} {e : TailStep} → k ≡ 9 → u ≡ word_first x → m ≡ word_authority x → a ≡ sign_access n.mode.lazy access m → l
        ≡ sign_frames n.mode.lazy access frames m
        → e ≡ going u env a → TailSteps t x env access n cells frames noted e n cells l noted
    unfolding action_of sign_s
    tail_sign is u m a l p =
        entered {h = sign} (ap action_of (sym kind ∙ is)) (λ ev ap posts. rw (p, l, a, m, u) refl) refl (λ b k. rw p (omega (arith, u, k.first_lower refl)))

    -- a check that is passed over, and one that is decided
    module _ (is : k ≡ 7) {u : ℕ} {e : TailStep} (first : u ≡ word_first x) where
      pub tail_passed : n.mode.enforce ≡ false → e ≡ going u env access → TailSteps t x env access n cells frames noted e n cells frames noted
      unfolding action_of check_s allowed_of note_counters note_bytes
      tail_passed y p =
          entered {h = check} (ap action_of (sym kind ∙ is)) (λ ev ap posts. rw (p, first, y) refl) refl
          (λ b k. rw p (omega (arith, first, k.first_lower refl)))

      module _ (on : n.mode.enforce ≡ true) {s : ℕ} {a : Bool} {n' : Counters} {l noted' : List ℕ} (small : s ≡ word_small x)
          (q : a ≡ granted_of n.mode.lazy access frames s) (same : l ≡ frames) (d : Noted (decided_event t s a) n noted n' noted') where
        pub tail_allowed : a ≡ true → e ≡ going u env access → TailSteps t x env access n cells frames noted e n' cells l noted'
        unfolding action_of check_s allowed_of
        tail_allowed y p =
            entered {h = check} (ap action_of (sym kind ∙ is))
            (λ ev ap posts. rw (p, same, first, d.counters_are, d.bytes_are, ← small, on, ← q, y) refl) (calls_stay d)
            (λ b k. rw p (omega (arith, first, k.first_lower refl)))

        pub tail_refused : {w : ℕ} → a ≡ false → w ≡ stop_word 17 t → e ≡ halting w u → TailSteps t x env access n cells frames noted e n' cells l noted'
        unfolding action_of check_s allowed_of
        tail_refused y w p =
            entered {h = check} (ap action_of (sym kind ∙ is))
            (λ ev ap posts. rw (p, same, d.counters_are, d.bytes_are, ← small, on, ← q, y, w, stop_is 17 t (omega arith) (omega arith)) refl)
            (calls_stay d)
            (λ b k. rw p (omega (arith, first, k.first_lower refl)))

    pub tail_test : {s u v o : ℕ} {b : Bool} {n' : Counters} {l noted' : List ℕ} {e : TailStep} → k ≡ 10 → s ≡ word_small x
        → b ≡ granted_of n.mode.lazy access frames s → l ≡ frames → Noted (decided_event t s b) n noted n' noted' → u ≡ word_first x → v ≡ word_second x
        → o ≡ cond b u v → e ≡ going o env access
        → TailSteps t x env access n cells frames noted e n' cells l noted'
    unfolding action_of test_s
    tail_test {s = s} {u = u} {v = v} {b = b} {n' = n'} {noted' = noted'} is small q same d first second o p =
        entered {h = test} (ap action_of (sym kind ∙ is))
        (λ ev ap posts. rw (p, same, o, d.counters_are, d.bytes_are, ← small, ← q, ← first, ← second)
        (by b (λ (u : ℕ). ev u env access (store_of (note_counters true n noted) cells posts frames (note_bytes true (decided_event t s b) n noted)))))
        (calls_stay d)
        (λ c k. rw (p, o) (least b c (omega (arith, first, k.first_lower refl)) (omega (arith, second, k.second_lower refl))))
      where
        by : (b : Bool) (to : ℕ → Done) → cond b (to u) (to v) ≡ to (cond b u v)
        by true to = refl
        by false to = refl

        least : (b : Bool) (c : ℕ) → u < c → v < c → cond b u v < c
        least true c l h = l
        least false c l h = h

-- ---- what the tests before a decision leave: a check that is enforced, or a test; its privilege is below 32
module _ (x : ℕ) {k : ℕ} (kind : k ≡ word_kind x) where
  module _ (h : TailKind (word_kind x)) (no-letrec : k ≡ 4 → ⊥) (no_sign : k ≡ 9 → ⊥) where
    decides : (k ≡ 7) ⊎ (k ≡ 10)
    decides =
        ⊎_elim (λ e. absurd (no-letrec (kind ∙ e)))
        (λ h. ⊎_elim (λ e. inl (kind ∙ e)) (λ h. ⊎_elim (λ e. absurd (no_sign (kind ∙ e))) (λ e. inr (kind ∙ e)) h) h)
        h

    pub only_check : (k ≡ 10 → ⊥) → k ≡ 7
    only_check n = ⊎_elim (λ e. e) (λ e. absurd (n e)) decides

    pub privileged : {p : ℕ} → (reads_privilege (action_of (word_kind x)) ≡ true → word_small x < privilege_count) → p ≡ word_small x → p < privilege_count
    unfolding action_of
    privileged low q =
        let reads : (j : ℕ) → reads_privilege (action_of j) ≡ true → k ≡ j → reads_privilege (action_of (word_kind x)) ≡ true
        = λ j r e. ap (λ (m : ℕ). reads_privilege (action_of m)) (sym kind ∙ e) ∙ r in
        omega (arith, q, low (⊎_elim (reads 7 refl) (reads 10 refl) decides))

-- a check that is skipped, and a check that is not
pub skipped : (k : ℕ) (b : Bool) → (eqb k 7 && not b) ≡ true → (k ≡ 7) × (b ≡ false)
skipped k b h = (eqb-true k 7 (and_left (eqb k 7) (not b) h), not-true b (and_right (eqb k 7) (not b) h))

pub not_skipped : (k : ℕ) (b : Bool) → k ≡ 7 → (eqb k 7 && not b) ≡ false → b ≡ true
not_skipped k true e h = refl
not_skipped k false e h = absurd (true≢false (rw (eq-eqb k 7 e) at h))
