-- What the operations and a post give, a law for each way that they end. Assumes nothing.
use Rattle.std.proofs.Common.{◌≡◌, ℕ, ◌+◌, ◌-◌, ◌<◌, ◌≤◌, min, Bool, true, false, cond, eqb, ltb, List, length, set, sym, refl, ap, ◌∙◌, ap₂, arith, ltb-true, le-ltb, lt-ltb, eq-eqb, ne_eqb, le-leb}
use native.Mathlib.Nat.{min-eq_left, min-eq_right}
use borrow.Author.Tests.{lt-leb}
use Rattle.program.specs.Limits.{no_guard, max_number}
use Rattle.stores.specs.Words.{boolean_word, number_word, interval_word, undecided_word, stop_word, sort_of, payload_of, env_of}
use Rattle.access.specs.Access.{granted_of, allowed_of}
use Rattle.termtable.specs.Table.{word_small, word_guard}
use Rattle.machine.specs.declared.counters.Counters.{Counters}
use Rattle.machine.specs.Steps.{result_word, less_word, interval_result, numbers_result, operate_of, saturates_of, operate_saturates, wrapped, counters_saturated, operate_counters, Operated, decided_event, note_counters, note_bytes, Noted, guard_passed, Guarded, cause_of, entry_of, listed_as, post_cause, post_word, post_counters, post_list, PostAppended}

-- ---- what two numbers give, by the kind
sum_is : {k : ℕ} (x y : ℕ) → k ≡ 11 → result_word k x y ≡ number_word (min (x + y) max_number)
unfolding result_word
sum_is {k} x y e = simp (eq-eqb k 11 e)

difference_is : {k : ℕ} (x y : ℕ) → (k ≡ 11 → ⊥) → k ≡ 12 → result_word k x y ≡ number_word (x - y)
unfolding result_word
difference_is {k} x y n e = simp (ne_eqb k 11 n, eq-eqb k 12 e)

sum_saturates : {k : ℕ} (x y : ℕ) → k ≡ 11 → saturates_of k x y ≡ ltb max_number (x + y)
unfolding saturates_of
sum_saturates {k} x y e = simp (eq-eqb k 11 e)

difference_saturates : {k : ℕ} (x y : ℕ) → (k ≡ 11 → ⊥) → k ≡ 12 → saturates_of k x y ≡ ltb x y
unfolding saturates_of
difference_saturates {k} x y n e = simp (ne_eqb k 11 n, eq-eqb k 12 e)

-- ---- the same of two intervals
module _ {x y : ℕ} where
  pub add_fits : y ≤ max_number - x → x ≤ max_number → x + y ≡ min (x + y) max_number
  add_fits h g = sym (min-eq_left (omega arith))

  pub add_over : max_number - x < y → x ≤ max_number → max_number ≡ min (x + y) max_number
  add_over h g = sym (min-eq_right (omega arith))

module _ (a a' b b' : ℕ) {r : ℕ} where
  pub less_yes : a' < b → r ≡ boolean_word true → r ≡ less_word a a' b b'
  unfolding less_word
  less_yes h q = q ∙ sym (simp (lt-ltb a' b h))

  pub less_no : b ≤ a' → b' ≤ a → r ≡ boolean_word false → r ≡ less_word a a' b b'
  unfolding less_word
  less_no h g q = q ∙ sym (simp (le-ltb a' b h, le-leb b' a g))

  pub less_undecided : b ≤ a' → a < b' → r ≡ undecided_word → r ≡ less_word a a' b b'
  unfolding less_word
  less_undecided h g q = q ∙ sym (simp (le-ltb a' b h, lt-leb b' a g))

module _ (k a b : ℕ) {x x' y y' r : ℕ} (u : x ≡ payload_of a) (u' : x' ≡ env_of a) (v : y ≡ payload_of b) (v' : y' ≡ env_of b) where
  interval_of : r ≡ interval_result k x x' y y' → r ≡ interval_result k (payload_of a) (env_of a) (payload_of b) (env_of b)
  interval_of q = q ∙ (λ i. interval_result k (u i) (u' i) (v i) (v' i))

  pub interval_sum : {l h : ℕ} → k ≡ 11 → l ≡ min (x + y) max_number → h ≡ min (x' + y') max_number → r ≡ interval_word l h
      → r ≡ interval_result k (payload_of a) (env_of a) (payload_of b) (env_of b)
  unfolding interval_result
  interval_sum e l h q = interval_of (q ∙ ap₂ interval_word l h ∙ sym (simp (eq-eqb k 11 e)))

  pub interval_difference : {l h : ℕ} → (k ≡ 11 → ⊥) → k ≡ 12 → l ≡ x - y' → h ≡ x' - y → r ≡ interval_word l h
      → r ≡ interval_result k (payload_of a) (env_of a) (payload_of b) (env_of b)
  unfolding interval_result
  interval_difference n e l h q = interval_of (q ∙ ap₂ interval_word l h ∙ sym (simp (ne_eqb k 11 n, eq-eqb k 12 e)))

  pub interval_less : (k ≡ 11 → ⊥) → (k ≡ 12 → ⊥) → r ≡ less_word x x' y y' → r ≡ interval_result k (payload_of a) (env_of a) (payload_of b) (env_of b)
  unfolding interval_result
  interval_less n m q = interval_of (q ∙ sym (simp (ne_eqb k 11 n, ne_eqb k 12 m)))

-- ---- two words
module _ (k t a b : ℕ) (n : Counters) {r : ℕ} where
  pub operate_left : (sort_of a ≡ 1 → ⊥) → r ≡ stop_word 18 t → Operated k t a b n r n
  unfolding operate_of operate_saturates operate_counters
  operate_left h q = record { word_is = q ∙ sym (simp (ne_eqb (sort_of a) 1 h)); counters_are = sym (simp (ne_eqb (sort_of a) 1 h)) }

  module _ (p : sort_of a ≡ 1) where
    pub operate_right : (sort_of b ≡ 1 → ⊥) → r ≡ stop_word 18 t → Operated k t a b n r n
    unfolding operate_of operate_saturates operate_counters
    operate_right h q = record {
      word_is = q ∙ sym (simp (eq-eqb (sort_of a) 1 p, ne_eqb (sort_of b) 1 h));
      counters_are = sym (simp (eq-eqb (sort_of a) 1 p, ne_eqb (sort_of b) 1 h));
    }

    module _ (q : sort_of b ≡ 1) where
      pub operate_intervals : n.mode.intervals ≡ true → r ≡ interval_result k (payload_of a) (env_of a) (payload_of b) (env_of b) → Operated k t a b n r n
      unfolding numbers_result operate_of operate_saturates operate_counters
      operate_intervals on e = record {
        word_is = e ∙ sym (simp (eq-eqb (sort_of a) 1 p, eq-eqb (sort_of b) 1 q, on));
        counters_are = sym (simp (eq-eqb (sort_of a) 1 p, eq-eqb (sort_of b) 1 q, on));
      }

      module _ (plain : n.mode.intervals ≡ false) {x y : ℕ} (u : x ≡ payload_of a) (v : y ≡ payload_of b) where
        operate_both : {n' : Counters} (over : Bool) → r ≡ result_word k x y → over ≡ saturates_of k x y
            → n' ≡ record n { saturated = cond over (wrapped (n.saturated + 1)) n.saturated } → Operated k t a b n r n'
        unfolding numbers_result operate_of operate_saturates operate_counters
        operate_both over e s c = record {
          word_is = e ∙ (λ i. result_word k (u i) (v i)) ∙ sym (simp (eq-eqb (sort_of a) 1 p, eq-eqb (sort_of b) 1 q, plain));
          counters_are =
              c ∙ ap counters (s ∙ (λ i. saturates_of k (u i) (v i))) ∙ sym (simp (eq-eqb (sort_of a) 1 p, eq-eqb (sort_of b) 1 q, plain));
        }
          where
            counters : Bool → Counters
            counters o = record n { saturated = cond o (wrapped (n.saturated + 1)) n.saturated }

        module _ (sum : k ≡ 11) where
          pub sum_fits : y ≤ max_number - x → x ≤ max_number → r ≡ number_word (x + y) → Operated k t a b n r n
          sum_fits h g e =
              let l : x + y ≤ max_number = omega arith in
              operate_both false (e ∙ ap number_word (add_fits h g) ∙ sym (sum_is x y sum))
              (sym (sum_saturates x y sum ∙ le-ltb max_number (x + y) l)) refl

          pub sum_over : {n' : Counters} → max_number - x < y → x ≤ max_number → r ≡ number_word max_number → n' ≡ counters_saturated n
              → Operated k t a b n r n'
          sum_over h g e c =
              let l : max_number < x + y = omega arith in
              operate_both true (e ∙ ap number_word (add_over h g) ∙ sym (sum_is x y sum))
              (sym (sum_saturates x y sum ∙ lt-ltb max_number (x + y) l)) c

        module _ (no-sum : k ≡ 11 → ⊥) (difference : k ≡ 12) where
          pub difference_fits : y ≤ x → r ≡ number_word (x - y) → Operated k t a b n r n
          difference_fits h e =
              operate_both false (e ∙ sym (difference_is x y no-sum difference)) (sym (difference_saturates x y no-sum difference ∙ le-ltb x y h)) refl

          pub difference_under : {n' : Counters} → x < y → r ≡ number_word 0 → n' ≡ counters_saturated n → Operated k t a b n r n'
          difference_under h e c =
              let z : 0 ≡ x - y = omega arith in
              operate_both true (e ∙ ap number_word z ∙ sym (difference_is x y no-sum difference))
              (sym (difference_saturates x y no-sum difference ∙ lt-ltb x y h)) c

        pub less_is : (k ≡ 11 → ⊥) → (k ≡ 12 → ⊥) → r ≡ boolean_word (ltb x y) → Operated k t a b n r n
        unfolding result_word saturates_of
        less_is l m e = operate_both false (e ∙ sym (simp (ne_eqb k 11 l, ne_eqb k 12 m))) (sym (simp (ne_eqb k 11 l, ne_eqb k 12 m))) refl

-- ---- a post
-- the three ways of a guard: there is none, checks are passed over, or it is decided
module _ (t x access : ℕ) (n : Counters) (f noted : List ℕ) {g : ℕ} (e : g ≡ word_guard x) where
  pub guard_none : g ≡ no_guard → Guarded t x access n f noted true n f noted
  unfolding guard_passed note_counters note_bytes
  guard_none h = record {
    answer_is = sym (simp (eq-eqb (word_guard x) no_guard (sym e ∙ h)));
    counters_are = sym (simp (eq-eqb (word_guard x) no_guard (sym e ∙ h)));
    frames_are = refl;
    noted_are = sym (simp (eq-eqb (word_guard x) no_guard (sym e ∙ h)));
  }

  module _ (some : g ≡ no_guard → ⊥) where
    there_is : eqb (word_guard x) no_guard ≡ false
    there_is = ne_eqb (word_guard x) no_guard (λ z. some (e ∙ z))

    pub guard_passed_lem : n.mode.enforce ≡ false → Guarded t x access n f noted true n f noted
    unfolding guard_passed allowed_of note_counters note_bytes
    guard_passed_lem off = record {
      answer_is = sym (rw (there_is, off) refl);
      counters_are = sym (rw (there_is, off) refl);
      frames_are = refl;
      noted_are = sym (rw (there_is, off) refl);
    }

    pub guard_decided : {a : Bool} {n' : Counters} {f' noted' : List ℕ} → n.mode.enforce ≡ true → a ≡ granted_of n.mode.lazy access f g → f' ≡ f
        → Noted (decided_event t g a) n noted n' noted'
        → Guarded t x access n f noted a n' f' noted'
    unfolding guard_passed allowed_of
    guard_decided on q same d = record {
      answer_is = q ∙ sym (rw (there_is, on, e) refl);
      counters_are = d.counters_are ∙ sym (rw (there_is, on) refl);
      frames_are = same;
      noted_are = d.bytes_are ∙ sym (rw (there_is, on, ← e, ← q) refl);
    }

-- how a post is listed
module _ (intervals : Bool) (x w : ℕ) {h l r : ℕ} (q : r ≡ entry_of h l) where
  pub listed_interval : intervals ≡ true → h ≡ payload_of w → l ≡ env_of w → r ≡ listed_as intervals x w
  unfolding listed_as
  listed_interval on u v = q ∙ ap₂ entry_of u v ∙ sym (simp on)

  pub listed_plain : intervals ≡ false → h ≡ word_small x → l ≡ payload_of w → r ≡ listed_as intervals x w
  unfolding listed_as
  listed_plain off u v = q ∙ ap₂ entry_of u v ∙ sym (simp off)

cause_low : (a b : Bool) → cause_of true a b < 256
unfolding cause_of
cause_low true true = omega arith
cause_low true false = omega arith
cause_low false b = omega arith

room_known : (a b : Bool) → cause_of true a b ≡ 0 → b ≡ true
unfolding cause_of
room_known true true e = refl
room_known true false e = absurd (omega (arith, e))
room_known false b e = absurd (omega (arith, e))

module _ (a : Bool) {c : ℕ} where
  pub cause_byte : (r : Bool) → c ≡ cause_of true a r → c < 256
  cause_byte r q = omega (arith, q, cause_low a r)

  pub cause_room : (m k : ℕ) → c ≡ cause_of true a (ltb m k) → c ≡ 0 → m < k
  cause_room m k q e = ltb-true m k (room_known a (ltb m k) (sym q ∙ e))

module _ (t x access w : ℕ) (n : Counters) (l f noted : List ℕ) {s : ℕ} (e : s ≡ sort_of w) where
  -- what is no number is stuck, before its guard is looked at
  pub post_stuck : {r : ℕ} → (s ≡ 1 → ⊥) → r ≡ stop_word 18 t → PostAppended t x access w n l f noted r n l f noted
  unfolding post_cause cause_of post_word post_counters post_list note_counters note_bytes
  post_stuck h r = let q = ne_eqb (sort_of w) 1 (λ z. h (e ∙ z)) in record {
    word_is = r ∙ sym (rw q refl);
    counters_are = sym (rw q refl);
    posts_are = sym (rw q refl);
    frames_are = refl;
    noted_are = sym (rw q refl);
  }

  module _ (number : s ≡ 1) {b : Bool} {n' : Counters} {f' noted' : List ℕ} (g : Guarded t x access n f noted b n' f' noted') {c : ℕ}
      (q : c ≡ cause_of true b (ltb n.posts (length l))) where
    is_number : eqb (sort_of w) 1 ≡ true
    is_number = eq-eqb (sort_of w) 1 (sym e ∙ number)

    cause_is : c ≡ post_cause x access w n l f
    unfolding post_cause
    cause_is = q ∙ (λ i. cause_of (sym is_number i) (g.answer_is i) (ltb n.posts (length l)))

    pub post_stopped : {r : ℕ} → (c ≡ 0 → ⊥) → r ≡ stop_word c t → PostAppended t x access w n l f noted r n' l f' noted'
    unfolding post_word post_counters post_list
    post_stopped h r = record {
      word_is = rw (← cause_is) (r ∙ sym (simp (ne_eqb c 0 h)));
      counters_are = rw (← cause_is, is_number) (g.counters_are ∙ sym (simp (ne_eqb c 0 h)));
      posts_are = rw (← cause_is) (simp (ne_eqb c 0 h));
      frames_are = g.frames_are;
      noted_are = rw is_number g.noted_are;
    }

    pub post_done_lem : {y : ℕ} → c ≡ 0 → y ≡ listed_as n'.mode.intervals x w
        → PostAppended t x access w n l f noted w (record n' { posts = n.posts + 1 }) (set l n.posts y) f' noted'
    unfolding post_word post_counters post_list note_counters
    post_done_lem h y = record {
      word_is = rw (← cause_is) (simp (eq-eqb c 0 h));
      counters_are = rw (← cause_is, is_number) ((λ i. record (g.counters_are i) { posts = n.posts + 1 }) ∙ sym (simp (eq-eqb c 0 h)));
      posts_are = rw (← cause_is) (simp (eq-eqb c 0 h, y ∙ ap (λ (m : Counters). listed_as m.mode.intervals x w) g.counters_are));
      frames_are = g.frames_are;
      noted_are = rw is_number g.noted_are;
    }
